-- Laws of a view after an answer, in the forms in which the code has it.
use Rattle.std.specs.Prelude.{◌≡◌, Bool, true, false, cond, List, ℕ, ◌+◌, ◌<◌, ◌≤◌, min, ltb}
use Rattle.std.proofs.Common.{◌∙◌, ap, arith, lt-ltb, le-ltb}
use Rattle.std.proofs.Math.Decide.{dec_lt}
use Rattle.records.specs.declared.Event.{Event}
use Rattle.records.specs.Refusals.{is_none}
use Rattle.model_semantics.specs.declared.Clock.{Clock}
use Rattle.model_semantics.specs.declared.Stepped.{Stepped}
use Rattle.model_state.specs.Words.{state_in}
use Rattle.model_by_value.specs.declared.ModelWords.{ModelWords}
use Rattle.model_by_value.specs.declared.StateWords.{StateWords}
use Rattle.model_by_value.specs.declared.Answered.{Answered}
use Rattle.checking_loop.specs.declared.View.{View}
use Rattle.checking_loop.specs.View.{last_count, next_count, view_of, view_after, step_in, told_by, Steps, Turns}

-- a sum that stops at the last number of 64 bits
pub count_saturated : (n r : ℕ) → n ≤ last_count → r ≡ min (n + 1) last_count → r ≡ next_count n
unfolding next_count
count_saturated n r h e = go (dec_lt n last_count)
  where
    go : Dec (n < last_count) → r ≡ cond (ltb n last_count) (n + 1) n
    go (yes l) = rw (lt-ltb n last_count l) (omega arith)
    go (no l) = rw (le-ltb n last_count (omega arith)) (omega arith)

-- a view by the parts of a clock
pub view_by : (l : List ℕ) (k : Clock) (n : ℕ) → k ≡ (state_in l).clock → record { clock = k.now; mode = k.mode; phase = k.phase; taken = n } ≡ view_of (state_in l) n
view_by l k n e = ap (λ (c : Clock). record { clock = c.now; mode = c.mode; phase = c.phase; taken = n }) e

module _ (v : View) (r : Stepped) (b : Bool) (e : b ≡ is_none r.answer) where
  pub after_refused : b ≡ false → v ≡ view_after v r
  unfolding view_after
  after_refused h = rw (← e, h)

  pub after_taken : (n : ℕ) (w : View) → b ≡ true → n ≡ next_count v.taken → w ≡ view_of r.state n → w ≡ view_after v r
  unfolding view_after
  after_taken n w h f g = g ∙ rw (← e, h, f)

-- what a walk of the code asks: the view after an answer, the view after the machine's step, and that they are the same
abbrev pub shown : View → Answered → View
shown v r = view_after v (told_by r)

abbrev pub view_in : View → ModelWords → StateWords → Event → View
view_in v m s e = view_after v (step_in m s e)

module _ (v : View) (m : ModelWords) (s : StateWords) (e : Event) (r : Answered) where
  pub after_step_lem : Steps m s e r → shown v r ≡ view_in v m s e
  after_step_lem d = ap (view_after v) d.same

  pub turns : (w : View) → Steps m s e r → w ≡ view_in v m s e → Turns v m s e (record { view = w; answered = r })
  turns w d k = record { view = k; answered = d }
