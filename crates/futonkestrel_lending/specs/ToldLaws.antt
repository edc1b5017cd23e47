-- Laws of what is told of the enabled events.
use Rattle.std.specs.Prelude.{◌≡◌, refl, Bool, true, false, cond, List, ℕ, set}
use Rattle.std.specs.Int.{from_bool}
use Rattle.records.specs.Refusals.{number_of}
use Rattle.enabled.specs.declared.Enabled.{Enabled}
use Rattle.futonkestrel_lending.specs.Lending.{TellsEnabled}

-- the two numbers, one after the other; n is the mark of the tick
pub two_told : (d : List ℕ) {e f : List ℕ} (x : Enabled) {n r : ℕ} → e ≡ set d 0 x.count → f ≡ set e 1 n → n ≡ cond x.tick 1 0 → r ≡ number_of x.answer → TellsEnabled x d r f
two_told d x a b h e = record { number = e; told = rw (b, a, h) }

-- a test as the number that the code makes of it
pub mark_told : (b : Bool) → from_bool b ≡ cond b 1 0
mark_told true = refl
mark_told false = refl

-- what was told of x, where x is y, and the list that went with it
pub tells_same : {x y : Enabled} {after list before told : List ℕ} {r : ℕ} → (x ≡ y) × (after ≡ list) → TellsEnabled x before r told → TellsEnabled y before r told × (after ≡ list)
tells_same h w = (rw (← h.0) w, h.1)
