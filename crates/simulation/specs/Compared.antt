-- What the two machines show, as document 01 compares it, and demand 3 as one statement over bytes.
use Rattle.std.specs.Prelude.{◌≡◌, Bool, true, false, ◌&&◌, ◌||◌, List, [], ◌∷◌, ℕ, ◌+◌, ◌-◌, ◌<◌, take, eqb}
use Rattle.numbers.specs.Values.{natural}
use Rattle.records.specs.declared.Event.{Event}
use Rattle.records.specs.declared.Cause.{Cause}
use Rattle.records.specs.Refusals.{is_none, no_refusal}
use Rattle.records.specs.Events.{dispatch_kind}
use Rattle.records.specs.Run.{Stage}
use Rattle.model_format.specs.declared.Timing.{Timing}
use Rattle.model_format.specs.declared.Model.{Model}
use Rattle.model_format.specs.Reading.{read_model}
use Rattle.model_semantics.specs.declared.State.{State}
use Rattle.model_semantics.specs.State.{code_of, length_of, spent_of, now_of}
use Rattle.model_semantics.specs.Tests.{execution, due_of}
use Rattle.model_semantics.specs.Machine.{start_state, run_model, model_stages}
use Rattle.table_semantics.specs.declared.Variables.{Variables}
use Rattle.table_semantics.specs.Rules.{value_of}
use Rattle.table_semantics.specs.Machine.{start_variables, clock_of, run_table, table_stages}
use Rattle.table_format.specs.Variables.{variables, due_var, end_var}
use Rattle.table_format.specs.Reading.{read_table}
use Rattle.table_format.specs.Table.{table_of}
use Rattle.translation.specs.Shown.{in_block, stands_for}

-- "once dispatched": the threads of which a DISPATCH was taken so far
abbrev pub Dispatched : Type 0
Dispatched = ℕ → Bool

abbrev pub none_yet : Dispatched
none_yet t = false

abbrev pub and_after : Dispatched → Event → Cause → Dispatched
and_after d e c t = d t || (is_none c && (eqb e.kind dispatch_kind && eqb e.id t))

-- Due and End of the threads that are there
abbrev pub is_due_or_end : Timing → ℕ → Bool
is_due_or_end m j = in_block (due_var 0) m.threads j || in_block (end_var 0) m.threads j

-- "every variable but Due and End equals the model's value it stands for, or 0 where it stands for nothing; Due as defined once
-- dispatched; End = Now + Length − Spent in code 3"
pub record Alike (m : Timing) (d : Dispatched) (s : State) (v : Variables) : Type 0 where
  pub others : (j : ℕ) → j < variables → is_due_or_end m j ≡ false → value_of v.value j ≡ stands_for m s j
  pub due : (t : ℕ) → t < m.threads → d t ≡ true → value_of v.value (due_var t) ≡ natural (due_of m s t)
  pub end : (t : ℕ) → t < m.threads → code_of s t ≡ execution → value_of v.value (end_var t) ≡ natural (now_of s + (length_of s t - spent_of s t))

-- Two stages of one event: the same event, answer and part of the list, and after it the states are alike.
pub record SameStage (m : Timing) (d : Dispatched) (x : Stage State) (y : Stage Variables) : Type 0 where
  pub event : x.event ≡ y.event
  pub answer : x.answer ≡ y.answer
  pub start : x.start ≡ y.start
  pub end : x.end ≡ y.end
  pub alike : Alike m d x.state y.state

-- "Where events go on after a refused one, from the states it left, answers and variables agree as before": the stages of the model and
-- of the table, one by one to the end of both.
unfoldable pub Lockstep : Timing → Dispatched → List (Stage State) → List (Stage Variables) → Type 0
Lockstep m d [] [] = Unit {0}
Lockstep m d [] (y ∷ r) = ⊥
Lockstep m d (x ∷ l) [] = ⊥
Lockstep m d (x ∷ l) (y ∷ r) = let f = and_after d x.event x.answer in SameStage m f x y × Lockstep m f l r

-- Demand 3 of a model, an event list and a table: the table's own reader accepts it; the states are alike at the start, and the two go in
-- lockstep; the runs that stop at the first refusal tell the same count, the same refusal with its part, and the same clock.
pub record Demand3 (m : Model) (script table : List ℕ) : Type 0 where
  pub accepted : read_table table ≡ no_refusal
  pub start : Alike m.timing none_yet (start_state m.timing) (start_variables (table_of table))
  pub lockstep : Lockstep m.timing none_yet (model_stages m script) (table_stages table script)
  pub taken : (run_model m script).taken ≡ (run_table table script).taken
  pub refusal : (run_model m script).refusal ≡ (run_table table script).refusal
  pub clock : now_of (run_model m script).state ≡ clock_of (run_table table script).state

-- "the table's run reads just the bytes made": the first so many bytes of an output are a table of the model, as demand 3 has it.
abbrev pub Simulates : List ℕ → List ℕ → ℕ → List ℕ → Type 0
Simulates model script bytes after = Demand3 (read_model model).model script (take bytes after)
