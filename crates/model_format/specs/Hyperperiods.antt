-- Hyperperiods are what their name says: the least common multiple of the periods of the threads that are critical in both modes.
use Rattle.std.specs.Prelude.{◌≡◌, Bool, cond, ◌&&◌, ltb}
use Rattle.std.proofs.Common.{sym, ◌∙◌, true≢false, arith, refl, true, false, ℕ, zero, suc, ◌<◌, ◌≤◌, ltb-true, ltb-false}
use Prim.Native.Nat.{◌∣◌}
use Rattle.std.proofs.Math.Nat.{one-dvd, dvd_trans}
use Rattle.std.proofs.Math.Decide.{dec_lt}
use Rattle.numbers.specs.Lists.{fold_below}
use Rattle.numbers.specs.MultipleLaws.{lcm_positive, lcm_divided, lcm_divides, multiple_divides, divides_multiple}
use Rattle.numbers.specs.Multiples.{is_multiple, lcm, lcm_up_to}
use Rattle.records.specs.Events.{last_clock}
use Rattle.model_format.specs.declared.Timing.{Timing}
use Rattle.model_format.specs.Model.{thread_at, critical_in, hyperperiod}

-- ---- a hyperperiod of positive periods is positive
cond_positive : (b : Bool) (m n : ℕ) → 1 ≤ m → 1 ≤ n → 1 ≤ cond b m n
cond_positive true m n h k = h
cond_positive false m n h k = k

up_to_positive : (limit a b : ℕ) → 1 ≤ a → 1 ≤ b → 1 ≤ lcm_up_to limit a b
unfolding lcm_up_to
up_to_positive limit a b h k = cond_positive (ltb limit a) a (lcm a b) h (lcm_positive a b h k)

fold_positive : (n : ℕ) (f : ℕ → ℕ → ℕ) (a : ℕ) → 1 ≤ a → ((t h : ℕ) → t < n → 1 ≤ h → 1 ≤ f t h) → 1 ≤ fold_below n f a
unfolding fold_below
fold_positive zero f a h w = h
fold_positive (suc n) f a h w = w n (fold_below n f a) (omega arith) (fold_positive n f a h (λ t g b. w t g (omega arith)))

pub hyperperiod_positive : (m : Timing) (old new : ℕ) → ((t : ℕ) → t < m.threads → 1 ≤ (thread_at m t).period.0) → 1 ≤ hyperperiod m old new
unfolding hyperperiod
hyperperiod_positive m old new w =
    fold_positive m.threads (λ t h. cond (critical_in (thread_at m t) old && critical_in (thread_at m t) new) (lcm_up_to last_clock h (thread_at m t).period.0) h) 1 (omega arith)
    (λ t h b k. cond_positive (critical_in (thread_at m t) old && critical_in (thread_at m t) new) (lcm_up_to last_clock h (thread_at m t).period.0) h
    (up_to_positive last_clock h (thread_at m t).period.0 k (w t b)) k)

-- ---- the fold over any periods of which some are chosen, one after the other
module _ (limit : ℕ) (chosen : ℕ → Bool) (period : ℕ → ℕ) where
  abbrev with_next : ℕ → ℕ → ℕ
  with_next t h = cond (chosen t) (lcm_up_to limit h (period t)) h

  -- h is the least common multiple of the chosen ones among the first n
  record Least (n h : ℕ) : Type 0 where
    positive : 1 ≤ h
    common : (t : ℕ) → t < n → chosen t ≡ true → period t ∣ h
    least : (k : ℕ) → ((t : ℕ) → t < n → chosen t ≡ true → period t ∣ k) → h ∣ k

  left_out : (n h : ℕ) → chosen n ≡ false → Least n h → Least (suc n) h
  left_out n h e l = record { positive = l.positive; common = λ t b x. go t b x (dec_lt t n); least = λ k w. l.least k (λ t b x. w t (omega arith) x) }
    where
      go : (t : ℕ) → t < suc n → chosen t ≡ true → Dec (t < n) → period t ∣ h
      go t b x (yes d) = l.common t d x
      go t b x (no d) = let z : t ≡ n = omega arith in absurd (true≢false (sym x ∙ rw z e))

  taken_in : (n h : ℕ) → chosen n ≡ true → 1 ≤ period n → Least n h → Least (suc n) (lcm h (period n))
  taken_in n h e p l =
      let d = lcm_divided h (period n) in
      record {
        positive = lcm_positive h (period n) l.positive p;
        common = λ t b x. go t b x (dec_lt t n) d;
        least = λ k w. lcm_divides h (period n) k l.positive (l.least k (λ t b x. w t (omega arith) x)) (w n (omega arith) e);
      }
    where
      go : (t : ℕ) → t < suc n → chosen t ≡ true → Dec (t < n) → (h ∣ lcm h (period n)) × (period n ∣ lcm h (period n)) → period t ∣ lcm h (period n)
      go t b x (yes f) d = dvd_trans (period t) (l.common t f x) d.0
      go t b x (no f) d = let z : t ≡ n = omega arith in rw z d.1

  one_more_lem : (n h : ℕ) (b c : Bool) → chosen n ≡ b → ltb limit h ≡ c → 1 ≤ period n → (h ≤ limit → Least n h) → with_next n h ≤ limit → Least (suc n) (with_next n h)
  unfolding lcm_up_to
  one_more_lem n h true true e f p l w = let x : h ≤ limit = rw (e, f) at w in let y = ltb-true limit h f in absurd (omega arith)
  one_more_lem n h true false e f p l w = rw (e, f) (taken_in n h e p (l (ltb-false limit h f)))
  one_more_lem n h false c e f p l w = rw e (left_out n h e (l (rw e at w)))

  all_of : (n : ℕ) → ((t : ℕ) → t < n → 1 ≤ period t) → fold_below n with_next 1 ≤ limit → Least n (fold_below n with_next 1)
  unfolding fold_below
  all_of zero p w = record { positive = omega arith; common = λ t b x. absurd (omega arith); least = λ k x. one-dvd k }
  all_of (suc n) p w =
      let h = fold_below n with_next 1 in
      one_more_lem n h (chosen n) (ltb limit h) refl refl (p n (omega arith)) (all_of n (λ t b. p t (omega arith))) w

  none_of : (n : ℕ) → ((t : ℕ) → t < n → chosen t ≡ false) → fold_below n with_next 1 ≡ 1
  unfolding fold_below
  none_of zero w = refl
  none_of (suc n) w = rw (w n (omega arith)) (none_of n (λ t b. w t (omega arith)))

-- ---- "H1 is the least common multiple of the old mode's critical periods, H2 of those critical in old and new mode; 1 if none", of every
-- hyperperiod that is not refused as too long
module _ (m : Timing) (old new : ℕ) where
  -- the thread's period counts
  abbrev pub critical_in_both : ℕ → Bool
  critical_in_both t = critical_in (thread_at m t) old && critical_in (thread_at m t) new

  abbrev pub period_of : ℕ → ℕ
  period_of t = (thread_at m t).period.0

  module _ (positive : (t : ℕ) → t < m.threads → 1 ≤ period_of t) (within : hyperperiod m old new ≤ last_clock) where
    least_of : Least last_clock critical_in_both period_of m.threads (hyperperiod m old new)
    unfolding hyperperiod
    least_of = all_of last_clock critical_in_both period_of m.threads positive within

    pub hyperperiod_common : (t : ℕ) → t < m.threads → critical_in_both t ≡ true → is_multiple (hyperperiod m old new) (period_of t) ≡ true
    hyperperiod_common t b x = divides_multiple (hyperperiod m old new) (period_of t) (positive t b) (least_of.common t b x)

    pub hyperperiod_least : (n : ℕ) → ((t : ℕ) → t < m.threads → critical_in_both t ≡ true → is_multiple n (period_of t) ≡ true) → is_multiple n (hyperperiod m old new) ≡ true
    hyperperiod_least n w =
        divides_multiple n (hyperperiod m old new) least_of.positive (least_of.least n (λ t b x. multiple_divides n (period_of t) (w t b x)))

  pub hyperperiod_none : ((t : ℕ) → t < m.threads → critical_in_both t ≡ false) → hyperperiod m old new ≡ 1
  unfolding hyperperiod
  hyperperiod_none w = none_of last_clock critical_in_both period_of m.threads w
