-- Laws of calm threads and mode transitions, for what the code has read.
use Rattle.std.specs.Prelude.{◌≡◌, false, ℕ, ◌+◌, ◌<◌, ◌≤◌}
use Rattle.std.proofs.Common.{◌∙◌, ap, arith}
use Rattle.std.proofs.Math.Decide.{ℕ_discrete}
use Rattle.numbers.specs.Multiples.{is_multiple}
use Rattle.model_format.specs.declared.Thread.{Thread}
use Rattle.model_format.specs.declared.ModeTransition.{ModeTransition}
use Rattle.model_format.specs.declared.Timing.{Timing}
use Rattle.model_format.specs.Model.{thread_at, switch_at}
use Rattle.model_semantics.specs.declared.Clock.{Clock}
use Rattle.model_semantics.specs.declared.Threads.{Threads}
use Rattle.model_semantics.specs.declared.State.{State}
use Rattle.model_tests.specs.declared.Job.{Job}
use Rattle.model_tests.specs.Parts.{job_of}
use Rattle.model_time.specs.Quiet.{Calm, CalmBelow, SwitchesCalm}
use Rattle.model_time.specs.QuietLaws.{switches_none, switches_enter, switches_leave}

-- ---- the threads: r is what t leaves of q ticks
pub calm_more : (m : Timing) (k : Clock) (y : Threads) (t q r : ℕ) (x : Thread) (j : Job) → CalmBelow m k y t q → r ≤ q → x ≡ thread_at m t → j ≡ job_of y t → Calm k x j r →
    CalmBelow m k y (t + 1) r
calm_more m k y t q r x j f l g h c u z = go (ℕ_discrete u t)
  where
    go : Dec (u ≡ t) → Calm k (thread_at m u) (job_of y u) r
    go (yes w) i a b d = rw (w, ← g, ← h) (c i a b d)
    go (no w) i a b d = f u (omega arith) i a (omega arith) d

-- ---- the laws of the switches and of the last thread, for the clock k that the code has read
pub calm_as : (m : Timing) (k j : Clock) (y : Threads) (n q : ℕ) → k ≡ j → CalmBelow m k y n q → CalmBelow m j y n q
calm_as m k j y n q e f = rw (← e) f

module _ (m : Timing) (s : State) (n q : ℕ) (k : Clock) (e : k ≡ s.clock) (f : q ≡ k.pending) where
  pending_is : q ≡ s.clock.pending
  pending_is = f ∙ ap (λ (c : Clock). c.pending) e

  pub switches_off : (count : ℕ) → count ≡ m.switches → count ≤ q → SwitchesCalm m s n
  switches_off count g h = switches_none m s n q pending_is (rw g at h)

  module _ (x : ModeTransition) (g : x ≡ switch_at m q) where
    pub switches_in_lem : k.phase ≡ 1 → ((i : ℕ) → i < n → is_multiple (k.now.0 + i) x.h1.0 ≡ false) → SwitchesCalm m s n
    switches_in_lem h c = switches_enter m s n q x pending_is g (rw e at h) (λ i l. rw (← e) (c i l))

    pub switches_out : (k.phase ≡ 1 → ⊥) → ((i : ℕ) → i < n → is_multiple (k.now.0 + i) x.h2.0 ≡ false) → SwitchesCalm m s n
    switches_out h c = switches_leave m s n q x pending_is g (λ z. h (ap (λ (d : Clock). d.phase) e ∙ z)) (λ i l. rw (← e) (c i l))
