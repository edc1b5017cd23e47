-- A size told, from its parts.
use Rattle.std.specs.Prelude.{◌≡◌, List, ℕ, set}
use Rattle.translation_sizes.specs.declared.Sized.{Sized}
use Rattle.translation_sizes.specs.Foretold.{Foretells}
use Rattle.futonkestrel_lending.specs.Lending.{Tells, told_refusal}
use Rattle.futonkestrel_sizes.specs.Sizes.{told_size, TellsSize}

-- the refusal's part, then each count in its place
pub counts_told : {d e f g h i j : List ℕ} {r : ℕ} (s : Sized) → Tells s.refusal.cause (told_refusal s.refusal) d r e → f ≡ set e 2 s.size.bytes →
    g ≡ set f 3 s.size.rules → h ≡ set g 4 s.size.clauses → i ≡ set h 5 s.size.atoms → j ≡ set i 6 s.size.updates → Tells s.refusal.cause (told_size s) d r j
counts_told s t b c k a u = record { number = t.number; told = rw (← t.told, ← b, ← c, ← k, ← a) u }

pub size_told : {model before told : List ℕ} {s : Sized} {r : ℕ} → Foretells model s → Tells s.refusal.cause (told_size s) before r told → TellsSize model before r told
size_told f t = record { tells = rw (← f.told) t; foretold = rw (← f.told) f }
