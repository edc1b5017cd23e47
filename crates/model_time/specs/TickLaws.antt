-- Laws of TICK, whose quiet ticks pass at once.
use Rattle.std.specs.Prelude.{◌≡◌, Bool, true, false, cond, ltb}
use Rattle.std.proofs.Common.{sym, ◌∙◌, lt-ltb, le-ltb}
use Rattle.std.proofs.Math.Path.{ap, refl}
use Prim.Native.Nat.{ℕ, zero, suc, ◌+◌, ◌-◌, ◌<◌, ◌≤◌}
use native.Mathlib.Omega.{arith}
use Rattle.records.specs.declared.Cause.TheVariants.{NotEnabled, LastClock}
use Rattle.records.specs.Events.{last_clock}
use Rattle.model_format.specs.declared.Timing.{Timing}
use Rattle.model_semantics.specs.declared.State.{State}
use Rattle.model_semantics.specs.State.{now_of, with_now}
use Rattle.model_semantics.specs.Tests.{is_busy}
use Rattle.model_semantics.specs.Effects.{tick}
use Rattle.model_semantics.specs.Machine.{refuse, accept, ticks}
use Rattle.model_time.specs.Quiet.{later, Quiet}
use Rattle.model_time.specs.QuietLaws.{later_none, later_next}

-- ---- TICK n from s₀, of which k ticks are left at x
module _ (m : Timing) (s₀ x : State) where
  none_left : ticks m s₀ 0 x ≡ accept x
  unfolding ticks
  none_left = refl

  some_left : (k : ℕ) → 0 < k → ticks m s₀ k x ≡ cond (is_busy m x) (refuse NotEnabled s₀) (cond (ltb (now_of x) last_clock) (ticks m s₀ (k - 1) (tick m x)) (refuse LastClock s₀))
  unfolding ticks
  some_left k h = let p : k ≡ suc (k - 1) = omega arith in ap (λ (j : ℕ). ticks m s₀ j x) p

now_below : (m : Timing) (x : State) (i : ℕ) → now_of x + i < last_clock → ltb (now_of (later m i x)) last_clock ≡ true
unfolding later with_now
now_below m x i l = lt-ltb (now_of x + i) last_clock l

-- i ticks of which none is refused
passes : (m : Timing) (s₀ x : State) (i r : ℕ) → ((j : ℕ) → j < i → is_busy m (later m j x) ≡ false) → now_of x + i ≤ last_clock →
    ticks m s₀ (i + r) x ≡ ticks m s₀ r (later m i x)
unfolding ticks
passes m s₀ x zero r h l = let p : 0 + r ≡ r = omega arith in rw (p, later_none m x)
passes m s₀ x (suc i) r h l =
    let p : suc i + r ≡ i + suc r = omega arith in
    rw p (passes m s₀ x i (suc r) (λ j k. h j (omega arith)) (omega arith) ∙ rw (h i (omega arith), now_below m x i (omega arith), later_next m i x))

module _ (m : Timing) (s₀ x : State) (n k : ℕ) (inv : ticks m s₀ k x ≡ ticks m s₀ n s₀) where
  pub ticks_end : k ≤ 0 → accept x ≡ ticks m s₀ n s₀
  ticks_end h = let p : k ≡ 0 = omega arith in sym (ap (λ (j : ℕ). ticks m s₀ j x) p ∙ none_left m s₀ x) ∙ inv

  module _ (h : 0 < k) (b : Bool) (e : b ≡ is_busy m x) where
    pub ticks_busy : b ≡ true → refuse NotEnabled s₀ ≡ ticks m s₀ n s₀
    ticks_busy g = rw (some_left m s₀ x k h, ← e, g) at inv

    module _ (g : b ≡ false) where
      pub ticks_late : last_clock ≤ now_of x → refuse LastClock s₀ ≡ ticks m s₀ n s₀
      ticks_late l = rw (some_left m s₀ x k h, ← e, g, le-ltb (now_of x) last_clock l) at inv

      pub ticks_on : (q : ℕ) (y : State) → q ≤ k → now_of x + q ≤ last_clock → Quiet m x q → y ≡ later m q x → ticks m s₀ (k - q) y ≡ ticks m s₀ n s₀
      ticks_on q y l z c f =
          let p : k ≡ q + (k - q) = omega arith in
          rw f (sym (passes m s₀ x q (k - q) free z) ∙ ap (λ (j : ℕ). ticks m s₀ j x) (sym p) ∙ inv)
        where
          free : (j : ℕ) → j < q → is_busy m (later m j x) ≡ false
          free zero i = rw (later_none m x) (sym e ∙ g)
          free (suc j) i = c (suc j) (omega arith) i
