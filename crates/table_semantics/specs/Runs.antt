-- What the code's values stand for: bits of variables, the answer of an event on them, and the end of a run.
use Rattle.std.specs.Prelude.{List, [], ◌∷◌, ℕ}
use Rattle.numbers.specs.declared.Value.{Value}
use Rattle.numbers.specs.Values.{value, signed}
use Rattle.records.specs.declared.Cause.{Cause}
use Rattle.records.specs.Run.{Ended, Tally}
use Rattle.table_semantics.specs.declared.Variables.{Variables}
use Rattle.table_semantics.specs.declared.Stepped.{Stepped}
use Rattle.table_semantics.specs.declared.Ran.{Ran}
use Rattle.table_semantics.specs.declared.Tallied.{Tallied}

-- "Variables are i32": the values that lists of 32 bits stand for
unfoldable pub values : List ℕ → List Value
values [] = []
values (n ∷ l) = value (signed n) ∷ values l

-- the variables that bits stand for, and the answer of an event that leaves them
abbrev pub variables_of : List ℕ → Variables
variables_of v = record { value = values v }

abbrev pub stepped_to : Cause → List ℕ → Stepped
stepped_to c v = record { answer = c; state = variables_of v }

-- a run's end, as the definitions have it
abbrev pub ended_of : Ran → Ended Variables
ended_of r = record { taken = r.taken; refusal = r.refusal; state = r.state }

abbrev pub tally_of : Tallied → Tally Variables
tally_of r = record { taken = r.taken; refused = r.refused; state = r.state }
