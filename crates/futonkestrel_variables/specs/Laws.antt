-- Laws of the variables that a state shows, in the forms in which the code has them.
use Rattle.std.specs.Prelude.{◌≡◌, ℕ, ◌+◌, ◌-◌, ◌%◌, ◌^◌, ◌<◌, ◌≤◌, Bool, true, false, List, length, ◌≢◌, nat_lt, refl}
use Rattle.std.proofs.Common.{sym, ◌∙◌, arith}
use Rattle.std.proofs.Math.Path.{ap}
use borrow.Author.Tests.{lt-ltb, le-ltb, eq-eqb, ne_eqb}
use Rattle.numbers.specs.declared.Duration.{Duration}
use Rattle.numbers.specs.Values.{duration}
use Rattle.records.specs.declared.Cause.TheVariants.{None, ShortOutput}
use Rattle.model_format.specs.declared.Thread.{Thread}
use Rattle.model_format.specs.declared.Timing.{Timing}
use Rattle.model_format.specs.Model.{thread_at}
use Rattle.model_semantics.specs.declared.State.{State}
use Rattle.model_semantics.specs.State.{code_of, dispatch_time, length_of, spent_of}
use Rattle.model_semantics.specs.Tests.{execution, has_job, due_of}
use Rattle.model_state.specs.Words.{state_in}
use Rattle.model_words.specs.Words.{timing_in}
use Rattle.table_format.specs.Variables.{variables, thread_room, due_var, end_var, behavior_var}
use Rattle.translation.specs.ShownLaws.{in_block_lem, out_block, block_below}
use Rattle.futonkestrel_lending.specs.Lending.{lent_as, numbers_shown}
use Rattle.futonkestrel_variables.specs.Shown.{due_number, end_number, shown_with_times, shown_answer, shown_variables}

-- ---- Due and End of thread t: of no thread, of one without such a job, of one with it
module _ (m : Timing) (s : State) (t : ℕ) {n : ℕ} (e : n ≡ m.threads) where
  pub due_past : n ≤ t → 0 ≡ due_number m s t
  unfolding due_number
  due_past h = rw (← e, le-ltb t n h)

  pub end_past : n ≤ t → 0 ≡ end_number m s t
  unfolding end_number
  end_past h = rw (← e, le-ltb t n h)

  module _ (h : t < n) {code : ℕ} (g : code ≡ code_of s t) where
    there : nat_lt t m.threads ≡ true
    there = ap (λ (k : ℕ). nat_lt t k) (sym e) ∙ lt-ltb t n h

    pub due_idle : {b : Bool} → b ≡ has_job code → b ≡ false → 0 ≡ due_number m s t
    unfolding due_number
    due_idle p q = rw (there, ← g, ← p, q)

    pub due_made : {b : Bool} {x : Thread} {d : Duration} {r : ℕ} → b ≡ has_job code → b ≡ true → x ≡ thread_at m t → d ≡ duration (dispatch_time s t) → r ≡ (d.0 + x.deadline.0) % 2 ^ 32 → r ≡ due_number m s t
    unfolding due_number due_of
    due_made {b} {x} p q i j k = rw (there, ← g, ← p, q, ← i) (k ∙ ap (λ (d : Duration). (d.0 + x.deadline.0) % 2 ^ 32) j)

    pub end_idle : (code ≢ execution) → 0 ≡ end_number m s t
    unfolding end_number
    end_idle p = rw (there, ← g, ne_eqb code execution p)

    pub end_made : {c l d : Duration} {k r : ℕ} → code ≡ execution → c ≡ s.clock.now → l ≡ duration (length_of s t) → d ≡ duration (spent_of s t) → k ≡ l.0 - d.0 → r ≡ (c.0 + k) % 2 ^ 32 → r ≡ end_number m s t
    unfolding end_number
    end_made {c} {l} {d} {k} {r} p i j q w z =
        rw (there, ← g, eq-eqb code execution p) (z ∙ rw (w, i, j, q))

-- ---- variable j: before Due, of Due, of End, behind them
module _ (m : Timing) (s : State) (j : ℕ) {n : ℕ} where
  pub before_times : j < due_var 0 → n ≡ numbers_shown m s j → n ≡ shown_with_times m s j
  unfolding shown_with_times
  before_times h e = rw (block_below (due_var 0) thread_room j h, block_below (end_var 0) thread_room j (omega arith)) e

  pub of_due : due_var 0 ≤ j → j < end_var 0 → n ≡ due_number m s (j - due_var 0) → n ≡ shown_with_times m s j
  unfolding shown_with_times
  of_due h k e = rw (in_block_lem (due_var 0) thread_room j h (omega arith)) e

  pub of_end : end_var 0 ≤ j → j < behavior_var 0 → n ≡ end_number m s (j - end_var 0) → n ≡ shown_with_times m s j
  unfolding shown_with_times
  of_end h k e = rw (out_block (due_var 0) thread_room j (λ a b. omega arith), in_block_lem (end_var 0) thread_room j h (omega arith)) e

  pub behind_times : behavior_var 0 ≤ j → n ≡ numbers_shown m s j → n ≡ shown_with_times m s j
  unfolding shown_with_times
  behind_times h e = rw (out_block (due_var 0) thread_room j (λ a b. omega arith), out_block (end_var 0) thread_room j (λ a b. omega arith)) e

-- ---- all of them
module _ (m s d : List ℕ) where
  pub shown_short : length d < variables → (ShortOutput ≡ shown_answer d) × (d ≡ shown_variables m s d)
  unfolding shown_answer shown_variables
  shown_short h = rw (lt-ltb (length d) variables h) (refl, refl)

  pub shown_all : {y : List ℕ} → variables ≤ length d → y ≡ lent_as d (shown_with_times (timing_in m) (state_in s)) → (None ≡ shown_answer d) × (y ≡ shown_variables m s d)
  unfolding shown_answer shown_variables
  shown_all h e = rw (le-ltb (length d) variables h) (refl, e)
