-- What telling the first failing step of START's test promises to a caller of the static library.
use Rattle.std.specs.Prelude.{◌≡◌, cond, List, [], ◌∷◌, ℕ, eqb}
use Rattle.records.specs.declared.Event.{Event}
use Rattle.records.specs.Events.{start_kind}
use Rattle.records.specs.Refusals.{is_none}
use Rattle.model_format.specs.declared.Model.{Model}
use Rattle.model_format.specs.Reading.{read_model}
use Rattle.model_semantics.specs.declared.State.{State}
use Rattle.model_semantics.specs.Tests.{start_fault, start_enabled}
use Rattle.model_semantics.specs.Effects.{start}
use Rattle.model_semantics.specs.Machine.{attempt, step}
use Rattle.model_words.specs.Words.{model_in, timing_in}
use Rattle.model_state.specs.Words.{state_in}
use Rattle.model_runs.specs.Runs.{tally_model}
use Rattle.futonkestrel_lending.specs.Lending.{Tells, told_refusal}
use Rattle.futonkestrel_states.specs.States.{is_narrow, started_answer}

-- "04 START: thread u8, length u32"
abbrev pub start_event : ℕ → ℕ → Event
start_event t n = record { kind = start_kind; id = t; amount = n }

-- What the number of the test says of START in state s, with thread t and length n.
pub record StartTest (m : Model) (s : State) (t n : ℕ) : Type 0 where
  -- "START is taken exactly at 0", and else refused with 10, the state staying as it is
  pub taken : step m s (start_event t n) ≡ attempt (eqb (start_fault m.timing s t n) 0) (start m.timing s t n) s
  -- "and no result of a run differs": 0 is document 01's test
  pub sentence : eqb (start_fault m.timing s t n) 0 ≡ start_enabled m.timing s t n

-- ---- by a model's bytes and a script: the state that it leaves, "going on after refusals"
abbrev pub left_by : Model → List ℕ → State
left_by m script = (tally_model m script).state

-- the refusal's part, then the step; of a refused model there is none, and its place stays as it was
unfoldable pub told_start : List ℕ → List ℕ → ℕ → ℕ → List ℕ
told_start model script t n =
    let r = (read_model model).refusal in
    let m = (read_model model).model in
    cond (is_none r.cause) (r.start ∷ r.end ∷ start_fault m.timing (left_by m script) t n ∷ []) (told_refusal r)

pub record TellsStart (model script : List ℕ) (t n : ℕ) (before : List ℕ) (r : ℕ) (told : List ℕ) : Type 0 where
  pub tells : Tells (read_model model).refusal.cause (told_start model script t n) before r told
  pub test : StartTest (read_model model).model (left_by (read_model model).model script) t n

-- ---- by numbers that the caller keeps: 8 where they are too few for a state
unfoldable pub told_start_in : List ℕ → List ℕ → ℕ → ℕ → List ℕ
told_start_in words state t n = cond (is_narrow state) [] (start_fault (timing_in words) (state_in state) t n ∷ [])

pub record TellsStartIn (words state : List ℕ) (t n : ℕ) (before : List ℕ) (r : ℕ) (told : List ℕ) : Type 0 where
  pub tells : Tells (started_answer state) (told_start_in words state t n) before r told
  pub test : StartTest (model_in words) (state_in state) t n
