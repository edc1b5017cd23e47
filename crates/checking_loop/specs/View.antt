-- What a checking loop's view shows after an event.
use Rattle.std.specs.Prelude.{◌≡◌, cond, ℕ, ◌+◌, ltb}
use Rattle.records.specs.declared.Event.{Event}
use Rattle.records.specs.Refusals.{is_none}
use Rattle.model_words.specs.Words.{model_in}
use Rattle.model_semantics.specs.declared.State.{State}
use Rattle.model_semantics.specs.declared.Stepped.{Stepped}
use Rattle.model_semantics.specs.Machine.{refuse, step}
use Rattle.model_state.specs.Words.{state_in}
use Rattle.model_time.specs.Answers.{Answers}
use Rattle.model_by_value.specs.declared.ModelWords.{ModelWords}
use Rattle.model_by_value.specs.declared.StateWords.{StateWords}
use Rattle.model_by_value.specs.declared.Answered.{Answered}
use Rattle.checking_loop.specs.declared.View.{View}
use Rattle.checking_loop.specs.declared.Turn.{Turn}

-- the clock, mode and phase of a state, and a count
abbrev pub view_of : State → ℕ → View
view_of s n = record { clock = s.clock.now; mode = s.clock.mode; phase = s.clock.phase; taken = n }

-- one event more; the count has 64 bits, and stops at the last number that they hold
abbrev pub last_count : ℕ
last_count = 18446744073709551615

unfoldable pub next_count : ℕ → ℕ
next_count n = cond (ltb n last_count) (n + 1) n

-- "lends its state and gets it back one event further": where the event is taken, a view of the state after it with one event more;
-- where it is refused, the view as it was
unfoldable pub view_after : View → Stepped → View
view_after v r = cond (is_none r.answer) (view_of r.state (next_count v.taken)) v

-- what the machine gives for the model and the state that the numbers stand for
abbrev pub step_in : ModelWords → StateWords → Event → Stepped
step_in m s e = step (model_in m.word) (state_in s.word) e

-- an answer with the state that its numbers stand for
abbrev pub told_by : Answered → Stepped
told_by r = refuse r.answer (state_in r.state.word)

-- the answer and the state after it are the machine's; where the event is refused, all numbers of the state are as they were
abbrev pub Steps : ModelWords → StateWords → Event → Answered → Type 0
Steps m s e r = Answers r.answer s.word r.state.word (step_in m s e)

-- a turn: what the step gave, and the view after it
pub record Turns (v : View) (m : ModelWords) (s : StateWords) (e : Event) (t : Turn) : Type 0 where
  pub view : t.view ≡ view_after v (step_in m s e)
  pub answered : Steps m s e t.answered
