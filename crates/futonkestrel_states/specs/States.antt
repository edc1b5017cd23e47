-- What is promised to callers who keep a state in numbers of their own: the answer, and every number that they lend.
use Rattle.std.specs.Prelude.{Bool, cond, List, ℕ, length, ltb}
use Rattle.std.proofs.lemmas.List.Edits.{sets}
use Rattle.records.specs.declared.Cause.{Cause}
use Rattle.records.specs.declared.Cause.TheVariants.{None, ShortOutput}
use Rattle.records.specs.Refusals.{is_none}
use Rattle.records.specs.Events.{event_of}
use Rattle.model_semantics.specs.declared.State.{State}
use Rattle.model_semantics.specs.declared.Stepped.{Stepped}
use Rattle.model_semantics.specs.Machine.{start_state, step}
use Rattle.model_words.specs.Words.{timing_in, model_in}
use Rattle.model_state.specs.Words.{state_words, state_in}
use Rattle.state_settling.specs.Words.{words_of_state}

-- ---- a state in a lent list: 8, the output is too short, where it does not fit; numbers behind it stay
abbrev pub is_narrow : List ℕ → Bool
is_narrow state = ltb (length state) state_words

abbrev pub holding : List ℕ → State → List ℕ
holding state s = sets state 0 (words_of_state s)

-- ---- the start of the model that a list stands for
unfoldable pub started_answer : List ℕ → Cause
started_answer state = cond (is_narrow state) ShortOutput None

unfoldable pub started_state : List ℕ → List ℕ → List ℕ
started_state model state = cond (is_narrow state) state (holding state (start_state (timing_in model)))

-- ---- one event: refused, it leaves every number as it was
abbrev pub step_in : List ℕ → List ℕ → List ℕ → Stepped
step_in model state event = step (model_in model) (state_in state) (event_of event)

unfoldable pub stepped_answer : List ℕ → List ℕ → List ℕ → Cause
stepped_answer model state event = cond (is_narrow state) ShortOutput (step_in model state event).answer

unfoldable pub stepped_state : List ℕ → List ℕ → List ℕ → List ℕ
stepped_state model state event = cond (is_none (stepped_answer model state event)) (holding state (step_in model state event).state) state
