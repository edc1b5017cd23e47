-- The answer to an event on a lent list of numbers.
use Rattle.std.specs.Prelude.{◌≡◌, false, List, ℕ}
use Rattle.records.specs.declared.Cause.{Cause}
use Rattle.records.specs.Refusals.{is_none}
use Rattle.model_semantics.specs.declared.Stepped.{Stepped}
use Rattle.model_semantics.specs.Machine.{refuse}
use Rattle.model_state.specs.Words.{state_in}

-- The answer r and the state in the list x after the event are those of o; a refused event leaves every number of the list l before it.
pub record Answers (r : Cause) (l x : List ℕ) (o : Stepped) : Type 0 where
  pub same : refuse r (state_in x) ≡ o
  pub kept : is_none r ≡ false → x ≡ l
