-- Laws of ticks that pass, on lists of numbers, in the forms in which the code has them.
use Rattle.std.specs.Prelude.{◌≡◌, Bool, eqb, get_or}
use Rattle.std.proofs.Math.Path.{refl, ap}
use Rattle.std.proofs.Common.{sym, ◌∙◌, le-ltb, ne_eqb}
use Rattle.std.proofs.Math.Bool.{true, false, cond}
use mathlib.Core.List.{List}
use Prim.Native.Nat.{ℕ, zero, suc, ◌+◌, ◌≤◌, min}
use native.Mathlib.Omega.{arith}
use Rattle.numbers.specs.declared.Duration.{Duration}
use Rattle.numbers.specs.Lists.{item, store, fold_below}
use Rattle.numbers.specs.ListLaws.{fold_next, item_store_other}
use Rattle.numbers.specs.Values.{duration}
use Rattle.records.specs.declared.Cause.{Cause}
use Rattle.records.specs.declared.Cause.TheVariants.{None}
use Rattle.model_format.specs.declared.Timing.{Timing}
use Rattle.model_format.specs.Model.{max_threads}
use Rattle.model_semantics.specs.declared.State.{State}
use Rattle.model_semantics.specs.declared.Stepped.{Stepped}
use Rattle.model_semantics.specs.State.{code_of, spent_of, with_now, with_spent}
use Rattle.model_semantics.specs.Tests.{execution}
use Rattle.model_semantics.specs.Machine.{refuse, accept}
use Rattle.model_tests.specs.Rooms.{fold_room}
use Rattle.model_time.specs.Quiet.{more_by, spending, spent_by, with_spents, later}
use Rattle.model_state.specs.Words.{now_place, clock_in, state_in}
use Rattle.model_time.specs.Answers.{Answers}
use Rattle.model_time.specs.Passing.{spend, spent_below}
use Rattle.model_time.specs.AnswerLaws.{accepted_keeps}

-- ---- Spent
module _ (s q : State) (t n : ℕ) where
  pub spend_runs : (code k : ℕ) (old : Duration) → code ≡ code_of s t → code ≡ 3 → old ≡ duration (spent_of s t) → k ≡ more_by n old.0 → q ≡ with_spent s t k → q ≡ spend s t n
  unfolding spend
  spend_runs code k old e h f g w = w ∙ rw (← e, h, g, f)

pub spend_rests : (s : State) (t n code : ℕ) → code ≡ code_of s t → (code ≡ 3 → ⊥) → s ≡ spend s t n
unfolding spend
spend_rests s t n code e h = rw (← e, ne_eqb code 3 h)

module _ (s : State) (q : ℕ) where
  pub spent_none : s ≡ spent_below s q 0
  unfolding spent_below with_spents spent_by fold_below
  spent_none = refl

  -- the threads below t leave Spent of t
  still : (l : List ℕ) (old : List Duration) (t n : ℕ) → t ≤ n → item max_threads (spent_by q l old t) n (duration 0) ≡ item max_threads old n (duration 0)
  unfolding spent_by fold_below
  still l old zero n h = refl
  still l old (suc t) n h = go (eqb (item max_threads l t 0) execution) ∙ still l old t n (omega arith)
    where
      go : (b : Bool) → item max_threads (cond b (store max_threads (spent_by q l old t) t (duration (more_by q (item max_threads old t (duration 0)).0))) (spent_by q l old t)) n (duration 0) ≡
          item max_threads (spent_by q l old t) n (duration 0)
      go true = item_store_other max_threads (spent_by q l old t) t n (duration (more_by q (item max_threads old t (duration 0)).0)) (duration 0) (λ e. omega arith)
      go false = refl

  -- so what thread t gains is told by Spent before all of them
  spent_same : (t : ℕ) → spent_of (spent_below s q t) t ≡ spent_of s t
  unfolding spent_of spent_below with_spents
  spent_same t = ap (λ (d : Duration). d.0) (still s.threads.code s.threads.spent t t (omega arith))

  chosen : (b : Bool) (t n : ℕ) → cond b (with_spent (spent_below s q t) t n) (spent_below s q t) ≡
      with_spents s (cond b (store max_threads (spent_by q s.threads.code s.threads.spent t) t (duration n)) (spent_by q s.threads.code s.threads.spent t))
  unfolding spent_below with_spent with_spents
  chosen true t n = refl
  chosen false t n = refl

  gained : (t : ℕ) → with_spents s (cond (eqb (code_of s t) execution) (store max_threads (spent_by q s.threads.code s.threads.spent t) t (duration (more_by q (spent_of s t)))) (spent_by q s.threads.code s.threads.spent t)) ≡ spent_below s q (t + 1)
  unfolding spent_below spent_by code_of spent_of
  gained t = ap (with_spents s) (sym (fold_next t (spending q s.threads.code s.threads.spent) s.threads.spent))

  code_same : (t : ℕ) → code_of (spent_below s q t) t ≡ code_of s t
  unfolding code_of spent_below with_spents
  code_same t = refl

  spent_more : (t : ℕ) → spend (spent_below s q t) t q ≡ spent_below s q (t + 1)
  unfolding spend
  spent_more t = rw (spent_same t, code_same t) (chosen (eqb (code_of s t) execution) t (more_by q (spent_of s t)) ∙ gained t)

  pub spent_next : (t : ℕ) (x y : State) → x ≡ spent_below s q t → y ≡ spend x t q → y ≡ spent_below s q (t + 1)
  spent_next t x y e f = f ∙ ap (λ (z : State). spend z t q) e ∙ spent_more t

  pub spent_all : (count n t : ℕ) (x : State) → n ≡ min count max_threads → t ≤ n → n ≤ t → x ≡ spent_below s q t → x ≡ spent_below s q count
  unfolding spent_below spent_by
  spent_all count n t x e h k f =
      let z : t ≡ min count max_threads = omega arith in
      f ∙ rw z (ap (with_spents s) (fold_room count max_threads (spending q s.threads.code s.threads.spent) s.threads.spent past))
    where
      same : (c : Bool) (l : List Duration) → cond c l l ≡ l
      same true l = refl
      same false l = refl

      past : (j : ℕ) (l : List Duration) → max_threads ≤ j → spending q s.threads.code s.threads.spent j l ≡ l
      past j l b = rw (le-ltb j max_threads b) (same (eqb 0 execution) l)

pub pass_is : (m : Timing) (s x y : State) (q : ℕ) (old : Duration) → old ≡ s.clock.now → x ≡ spent_below s q m.threads → y ≡ with_now x (old.0 + q) → y ≡ later m q s
unfolding later spent_below
pass_is m s x y q old e f g = g ∙ rw (f, e)

-- ---- answers
pub all_passed : (l x : List ℕ) (o : Stepped) → accept (state_in x) ≡ o → Answers None l x o
all_passed l x o e = record { same = e; kept = accepted_keeps }

pub put_back : (r c : Cause) (l x : List ℕ) (o : Stepped) → r ≡ c → x ≡ l → refuse c (state_in l) ≡ o → Answers r l x o
put_back r c l x o h e f = record { same = rw (h, e) f; kept = λ z. e }

pub now_word : (l : List ℕ) (d : Duration) → d ≡ (state_in l).clock.now → d.0 ≡ get_or l now_place 0
unfolding state_in clock_in
now_word l d e = ap (λ (x : Duration). x.0) e

pub now_is : (d n : Duration) → d ≡ n → d.0 ≡ n.0
now_is d n e = ap (λ (x : Duration). x.0) e
