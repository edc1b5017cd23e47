-- What translating promises to a caller of the static library.
use Rattle.std.specs.Prelude.{◌≡◌, List, ℕ, length}
use Rattle.translation.specs.Translate.{translated, output_after}
use Rattle.simulation.specs.Compared.{Simulates}
use Rattle.enabled_alike.specs.Offered.{Offers}
use Rattle.futonkestrel_lending.specs.Lending.{Tells, told_translation}

-- the number, the part and the length, the output afterwards, and, where nothing is refused, of the table there, for every event list:
-- demand 3, and that it offers after every event what the model offers
pub record Exports (model out after before : List ℕ) (r : ℕ) (told : List ℕ) : Type 0 where
  pub tells : Tells (translated model (length out)).refusal.cause (told_translation (translated model (length out))) before r told
  pub output : after ≡ output_after model out
  pub simulated : (script : List ℕ) → r ≡ 0 → Simulates model script (translated model (length out)).bytes after
  pub offered : (script : List ℕ) → r ≡ 0 → Offers model script (translated model (length out)).bytes after
