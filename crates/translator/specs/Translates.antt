-- What translating promises.
use Rattle.std.specs.Prelude.{◌≡◌, true, List, ℕ, length}
use Rattle.records.specs.Refusals.{is_none}
use Rattle.translation.specs.declared.Translation.{Translation}
use Rattle.translation.specs.Translate.{translated, output_after}
use Rattle.simulation.specs.Compared.{Simulates}
use Rattle.enabled_alike.specs.Offered.{Offers}

-- what it tells, the output afterwards, and, where the table was made, for every event list: demand 3, and that the table offers after every
-- event what the model offers
pub record Translates (model out : List ℕ) (result : Translation) (after : List ℕ) : Type 0 where
  pub told : result ≡ translated model (length out)
  pub output : after ≡ output_after model out
  pub simulated : (script : List ℕ) → is_none result.refusal.cause ≡ true → Simulates model script result.bytes after
  pub offered : (script : List ℕ) → is_none result.refusal.cause ≡ true → Offers model script result.bytes after
