-- Laws of quiet ticks, in the forms in which the code has them.
use Rattle.std.specs.Prelude.{◌≡◌, Bool, ◌&&◌, List, eqb, set}
use Rattle.std.proofs.Math.Path.{refl}
use Rattle.std.proofs.Common.{sym, ◌∙◌, ap, subst, mod-lt, mod-eq_of_lt, arith, get_or-set_same, get_or-set_other, ext_get_or}
use Rattle.std.proofs.Math.Bool.{true, false, cond}
use Prim.Native.Nat.{ℕ, zero, suc, ◌+◌, ◌-◌, ◌%◌, ◌<◌, ◌≤◌, min}
use Rattle.std.proofs.Math.Nat.{mod-add-mod}
use Rattle.std.proofs.Math.Decide.{ℕ_discrete, dec_lt}
use Rattle.std.proofs.Math.Dec.{ltb}
use Rattle.std.proofs.Math.ListN.{get_or, length, get_or-eq_default}
use Rattle.std.proofs.lemmas.List.{set-get_or}
use borrow.Author.Tests.{lt-ltb, le-ltb, ne_eqb}
use Rattle.numbers.specs.declared.Duration.{Duration}
use Rattle.numbers.specs.Lists.{item, store, any_below, fold_below}
use Rattle.numbers.specs.ListLaws.{any_none, length_store}
use Rattle.numbers.specs.Values.{duration, one_more}
use Rattle.numbers.specs.MultipleLaws.{multiple_of_none, multiple_by_rest}
use Rattle.numbers.specs.Multiples.{is_multiple}
use Rattle.model_format.specs.declared.Thread.{Thread}
use Rattle.model_format.specs.declared.ModeTransition.{ModeTransition}
use Rattle.model_format.specs.declared.Timing.{Timing}
use Rattle.model_format.specs.Model.{max_threads, thread_at, switch_at}
use Rattle.model_semantics.specs.declared.Clock.{Clock}
use Rattle.model_semantics.specs.declared.Threads.{Threads}
use Rattle.model_semantics.specs.declared.State.{State}
use Rattle.model_tests.specs.declared.Job.{Job}
use Rattle.model_semantics.specs.State.{now_of, code_of, spent_of, with_now, with_spent}
use Rattle.model_tests.specs.Parts.{job_of, deactivates}
use Rattle.model_semantics.specs.Tests.{execution, is_unfinished, has_job, can_enter, can_leave, thread_busy, switch_busy, is_busy}
use Rattle.model_semantics.specs.Effects.{tick}
use Rattle.model_tests.specs.Jobs.{may_act}
use Rattle.model_tests.specs.JobLaws.{and_false, calm, other_switch}
use Rattle.model_time.specs.Quiet.{more_by, spent_by, with_spents, later, clock_after, Calm, CalmBelow, SwitchesCalm, Quiet}

-- ---- one more, i times
pub more_at_most : (i n : ℕ) → more_by i n ≤ n + i
unfolding more_by one_more
more_at_most zero n = omega arith
more_at_most (suc i) n = go (more_at_most i n) (ltb (more_by i n) 4294967295)
  where
    go : more_by i n ≤ n + i → (b : Bool) → cond b (more_by i n + 1) (more_by i n) ≤ n + suc i
    go h true = omega arith
    go h false = omega arith

pub more_sum : (q n : ℕ) → n + q ≤ 4294967295 → n + q ≡ more_by q n
unfolding more_by one_more
more_sum zero n h = omega arith
more_sum (suc q) n h = rw (← more_sum q n (omega arith), lt-ltb (n + q) 4294967295 (omega arith)) (omega arith)

pub more_full : (q n : ℕ) → n ≤ 4294967295 → 4294967295 ≤ n + q → 4294967295 ≡ more_by q n
unfolding more_by one_more
more_full zero n l h = omega arith
more_full (suc q) n l h = go (dec_lt (n + q) 4294967295) (λ k. more_full q n l k)
  where
    go : Dec (n + q < 4294967295) → (4294967295 ≤ n + q → 4294967295 ≡ more_by q n) → 4294967295 ≡ more_by (suc q) n
    go (yes k) f = rw (← more_sum q n (omega arith), lt-ltb (n + q) 4294967295 k) (omega arith)
    go (no k) f = rw (← f (omega arith))

pub more_within : (q n : ℕ) → n ≤ 4294967295 → min (n + q) 4294967295 ≡ more_by q n
more_within q n h = go (dec_lt (n + q) 4294967295)
  where
    go : Dec (n + q < 4294967295) → min (n + q) 4294967295 ≡ more_by q n
    go (yes l) = let z : min (n + q) 4294967295 ≡ n + q = omega arith in z ∙ more_sum q n (omega arith)
    go (no l) = let z : min (n + q) 4294967295 ≡ 4294967295 = omega arith in z ∙ more_full q n h (omega arith)

-- ---- how long it takes
pub rest_within : (n p : ℕ) → (p ≡ 0 → ⊥) → n % p ≤ p
rest_within n p e = let l : n % p < p = mod-lt n (omega arith) in omega arith

module _ (now p r : ℕ) where
  pub never_multiple : p ≡ 0 → (i : ℕ) → i < r → is_multiple (now + i) p ≡ false
  never_multiple e i l = sym (multiple_of_none (now + i) p e)

  pub no_multiple : (p ≡ 0 → ⊥) → (now % p ≡ 0 → ⊥) → r ≤ p - now % p → (i : ℕ) → i < r → is_multiple (now + i) p ≡ false
  no_multiple e f h i l =
      let k : now % p < p = mod-lt now (omega arith) in
      let z : (now + i) % p ≡ now % p + i = sym (mod-add-mod now p i) ∙ mod-eq_of_lt (omega arith) in
      sym (multiple_by_rest (now + i) p e) ∙ rw z (ne_eqb (now % p + i) 0 (λ w. f (omega arith)))

module _ (due now r : ℕ) where
  pub due_past : due < now → (i : ℕ) → i < r → eqb due (now + i) ≡ false
  due_past h i l = ne_eqb due (now + i) (λ w. omega arith)

  pub due_ahead : r ≤ due - now → (i : ℕ) → i < r → eqb due (now + i) ≡ false
  due_ahead h i l = ne_eqb due (now + i) (λ w. omega arith)

pub not_done : (spent long r : ℕ) → r ≤ long - spent → (i : ℕ) → i < r → eqb (more_by i spent) long ≡ false
not_done spent long r h i l = let k = more_at_most i spent in ne_eqb (more_by i spent) long (λ w. omega arith)

-- ---- a thread
module _ (k : Clock) (x : Thread) (j : Job) where
  pub calm_none : Calm k x j 0
  calm_none i g l h = absurd (omega arith)

  -- for n of q ticks, through which it cannot be deactivated
  module _ (n q : ℕ) (stays : (i : ℕ) → i < q → deactivates x j ≡ false) (w : n ≤ q) where
    pub calm_idle : j.code ≡ 0 → j.active ≡ false → Calm k x j n
    unfolding may_act
    calm_idle e f i g l h = rw (stays i (omega arith), e, f)

    pub calm_between : j.code ≡ 1 → ((i : ℕ) → i < n → is_multiple (k.now.0 + i) x.period.0 ≡ false) → Calm k x j n
    unfolding may_act
    calm_between e z i g l h = rw (stays i (omega arith), e, z i l)

    pub calm_ready : j.code ≡ 2 → (k.cpu ≡ 255 → ⊥) → ((i : ℕ) → i < n → eqb (j.dispatched.0 + x.deadline.0) (k.now.0 + i) ≡ false) → Calm k x j n
    unfolding may_act
    calm_ready e f z i g l h = rw (stays i (omega arith), e, ne_eqb k.cpu 255 f, z i l)

    pub calm_running : (d : ℕ) → j.code ≡ 3 → n ≤ d → ((i : ℕ) → i < d → eqb (more_by i j.spent.0) j.length.0 ≡ false) →
        ((i : ℕ) → i < n → eqb (j.dispatched.0 + x.deadline.0) (k.now.0 + i) ≡ false) → Calm k x j n
    unfolding may_act
    calm_running d e f y z i g l h = rw (stays i (omega arith), e, y g (omega arith), z i l)

    pub calm_completed : j.code ≡ 4 → ((i : ℕ) → i < n → eqb (j.dispatched.0 + x.deadline.0) (k.now.0 + i) ≡ false) → Calm k x j n
    unfolding may_act
    calm_completed e z i g l h = rw (stays i (omega arith), e, z i l)

    pub calm_other : (j.code ≡ 0 → ⊥) → (j.code ≡ 1 → ⊥) → (j.code ≡ 2 → ⊥) → (j.code ≡ 3 → ⊥) → (j.code ≡ 4 → ⊥) → Calm k x j n
    unfolding may_act
    calm_other a b c d e i g l h = rw (stays i (omega arith), ne_eqb j.code 0 a, ne_eqb j.code 1 b, ne_eqb j.code 2 c, ne_eqb j.code 3 d, ne_eqb j.code 4 e)

-- ---- the threads: a loop come to t, which stops at count, with q ticks left
module _ (m : Timing) (k : Clock) (y : Threads) (count t q : ℕ) (e : count ≡ min m.threads max_threads) (f : CalmBelow m k y t q) where
  pub calm_end : count ≤ t → CalmBelow m k y m.threads q
  unfolding job_of may_act has_job is_unfinished
  calm_end h u z = go (dec_lt u t)
    where
      go : Dec (u < t) → Calm k (thread_at m u) (job_of y u) q
      go (yes w) i g a b = f u w i g a b
      go (no w) i g a b = rw (le-ltb u max_threads (omega arith)) (simp and_false)

-- ---- a list into which g 0, g 1, .. are stored where p says so
module _ {A : Type 0} (room : ℕ) (p : ℕ → Bool) (g : ℕ → A) (old : List A) (d : A) where
  abbrev placing : ℕ → List A → List A
  placing t l = cond (p t) (store room l t (g t)) l

  placed_length : (n : ℕ) → length (fold_below n placing old) ≡ length old
  unfolding fold_below
  placed_length zero = refl
  placed_length (suc n) = go (p n) (placed_length n)
    where
      go : (b : Bool) → length (fold_below n placing old) ≡ length old → length (cond b (store room (fold_below n placing old) n (g n)) (fold_below n placing old)) ≡ length old
      go true h = length_store room (fold_below n placing old) n (g n) ∙ h
      go false h = h

  same_place : (l : List A) (n : ℕ) (b c : Bool) → n < length l → get_or (cond b (cond c (set l n (g n)) l) l) n d ≡ cond (c && b) (g n) (get_or l n d)
  same_place l n true true h = get_or-set_same l n (g n) d h
  same_place l n true false h = refl
  same_place l n false true h = refl
  same_place l n false false h = refl

  other_place : (l : List A) (n j : ℕ) (b c : Bool) → (j ≡ n → ⊥) → get_or (cond b (cond c (set l n (g n)) l) l) j d ≡ get_or l j d
  other_place l n j true true h = get_or-set_other l n j (g n) d h
  other_place l n j true false h = refl
  other_place l n j false c h = refl

  below_same : (j n : ℕ) → (j ≡ n → ⊥) → ltb j n ≡ ltb j (suc n)
  below_same j n h = go (dec_lt j n)
    where
      go : Dec (j < n) → ltb j n ≡ ltb j (suc n)
      go (yes l) = rw (lt-ltb j n l, lt-ltb j (suc n) (omega arith))
      go (no l) = rw (le-ltb j n (omega arith), le-ltb j (suc n) (omega arith))

  placed_at : (n j : ℕ) → j < length old → get_or (fold_below n placing old) j d ≡ cond (ltb j n && (ltb j room && p j)) (g j) (get_or old j d)
  unfolding fold_below
  placed_at zero j h = rw (le-ltb j 0 (omega arith))
  placed_at (suc n) j h = go (placed_at n j h) (ℕ_discrete j n)
    where
      go : get_or (fold_below n placing old) j d ≡ cond (ltb j n && (ltb j room && p j)) (g j) (get_or old j d) → Dec (j ≡ n) →
          get_or (fold_below (suc n) placing old) j d ≡ cond (ltb j (suc n) && (ltb j room && p j)) (g j) (get_or old j d)
      go ih (yes e) =
          let l = placed_length n in
          let z : ltb j j ≡ false = le-ltb j j (omega arith) in
          rw (← e, lt-ltb j (suc j) (omega arith)) (same_place (fold_below j placing old) j (p j) (ltb j room) (rw e (omega arith)) ∙ rw (rw (← e, z) at ih))
      go ih (no e) = other_place (fold_below n placing old) n j (p n) (ltb n room) e ∙ ih ∙ rw (below_same j n e)

-- ---- Spent, i ticks later
module _ (code : List ℕ) (old : List Duration) where
  runs : ℕ → Bool
  runs t = eqb (item max_threads code t 0) execution

  spent_length : (i n : ℕ) → length (spent_by i code old n) ≡ length old
  unfolding spent_by runs
  spent_length i n = placed_length max_threads runs (λ t. duration (more_by i (item max_threads old t (duration 0)).0)) old (duration 0) n

  spent_at : (i n j : ℕ) → j < length old →
      get_or (spent_by i code old n) j (duration 0) ≡ cond (ltb j n && (ltb j max_threads && runs j)) (duration (more_by i (item max_threads old j (duration 0)).0)) (get_or old j (duration 0))
  unfolding spent_by runs
  spent_at i n j = placed_at max_threads runs (λ t. duration (more_by i (item max_threads old t (duration 0)).0)) old (duration 0) n j

  spent_none : (n : ℕ) → spent_by 0 code old n ≡ old
  unfolding spent_by fold_below more_by
  spent_none zero = refl
  spent_none (suc n) = rw (spent_none n) (go (eqb (item max_threads code n 0) execution) (dec_lt n max_threads))
    where
      go : (b : Bool) → Dec (n < max_threads) → cond b (store max_threads old n (duration (item max_threads old n (duration 0)).0)) old ≡ old
      go true (yes h) = rw (lt-ltb n max_threads h) (set-get_or old n (duration 0))
      go true (no h) = rw (le-ltb n max_threads (omega arith))
      go false h = refl

-- u and w are Spent of a thread before and i ticks later
one_later : (i : ℕ) (a b c : Bool) (u w : Duration) → w ≡ cond (a && (b && c)) (duration (more_by i (cond b u (duration 0)).0)) u →
    cond (a && (b && c)) (duration (more_by 1 (cond b w (duration 0)).0)) w ≡ cond (a && (b && c)) (duration (more_by (suc i) (cond b u (duration 0)).0)) u
unfolding more_by
one_later i true true true u w e = rw e
one_later i true true false u w e = e
one_later i true false c u w e = e
one_later i false b c u w e = e

spent_next : (code : List ℕ) (old : List Duration) (i n : ℕ) → spent_by 1 code (spent_by i code old n) n ≡ spent_by (suc i) code old n
unfolding runs
spent_next code old i n =
    let l = spent_by i code old n in
    let p : length l ≡ length old = spent_length code old i n in
    let q : length (spent_by 1 code l n) ≡ length l = spent_length code l 1 n in
    let r : length (spent_by (suc i) code old n) ≡ length old = spent_length code old (suc i) n in
    ext_get_or (duration 0) (spent_by 1 code l n) (spent_by (suc i) code old n) (q ∙ p ∙ sym r)
    (λ j h.
    let k : j < length old = omega arith in
    spent_at code l 1 n j (omega arith) ∙
    one_later i (ltb j n) (ltb j max_threads) (runs code old j) (get_or old j (duration 0)) (get_or l j (duration 0)) (spent_at code old i n j k) ∙
    sym (spent_at code old (suc i) n j k))

-- whatever holds of Spent with g of i ticks more holds of Spent then
spent_some : (P : Duration → Type 0) (code : List ℕ) (old : List Duration) (i n t : ℕ) → t < n →
    ((g : ℕ) → g ≤ i → P (cond (eqb (item max_threads code t 0) execution) (duration (more_by g (item max_threads old t (duration 0)).0)) (item max_threads old t (duration 0)))) →
    P (item max_threads (spent_by i code old n) t (duration 0))
unfolding runs more_by
spent_some P code old i n t h f = go (dec_lt t max_threads) (dec_lt t (length old))
  where
    unchanged : (b : Bool) (d : Duration) → cond b (duration (more_by 0 d.0)) d ≡ d
    unchanged true d = refl
    unchanged false d = refl

    go : Dec (t < max_threads) → Dec (t < length old) → P (item max_threads (spent_by i code old n) t (duration 0))
    go (no l) k = subst P (rw (le-ltb t max_threads (omega arith)) (unchanged (eqb 0 execution) (duration 0))) (f 0 (omega arith))
    go (yes l) (yes k) = subst P (rw (lt-ltb t max_threads l) (sym (spent_at code old i n t k ∙ rw (lt-ltb t n h, lt-ltb t max_threads l)))) (f i (omega arith))
    go (yes l) (no k) =
        let p : length (spent_by i code old n) ≡ length old = spent_length code old i n in
        subst P
        (unchanged (eqb (item max_threads code t 0) execution) (item max_threads old t (duration 0)) ∙ rw (lt-ltb t max_threads l) (get_or-eq_default old (duration 0) (omega arith) ∙ sym (get_or-eq_default (spent_by i code old n) (duration 0) (omega arith))))
        (f 0 (omega arith))

-- ---- a state
pub later_none : (m : Timing) (s : State) → later m 0 s ≡ s
unfolding later with_now with_spents
later_none m s = let z : now_of s + 0 ≡ now_of s = omega arith in rw (z, spent_none s.threads.code s.threads.spent m.threads)

one_spends : (b : Bool) (s : State) (l : List Duration) (t n : ℕ) → cond b (with_spent (with_spents s l) t n) (with_spents s l) ≡ with_spents s (cond b (store max_threads l t (duration n)) l)
unfolding with_spents with_spent
one_spends true s l t n = refl
one_spends false s l t n = refl

no_spends : (s : State) → s ≡ with_spents s s.threads.spent
unfolding with_spents
no_spends s = refl

spends : (s : State) (n : ℕ) → fold_below n (λ t x. cond (eqb (code_of s t) execution) (with_spent x t (one_more (spent_of s t))) x) s ≡ with_spents s (spent_by 1 s.threads.code s.threads.spent n)
unfolding spent_by fold_below code_of spent_of more_by
spends s zero = no_spends s
spends s (suc n) =
    ap (λ (x : State). cond (eqb (code_of s n) execution) (with_spent x n (one_more (spent_of s n))) x) (spends s n) ∙
    one_spends (eqb (code_of s n) execution) s (spent_by 1 s.threads.code s.threads.spent n) n (one_more (spent_of s n))

pub later_next : (m : Timing) (i : ℕ) (s : State) → tick m (later m i s) ≡ later m (suc i) s
unfolding tick later with_now with_spents
later_next m i s =
    let z : now_of s + i + 1 ≡ now_of s + suc i = omega arith in
    rw (spends (later m i s) m.threads, spent_next s.threads.code s.threads.spent i m.threads, z)

-- ---- no event for n ticks
module _ (m : Timing) (s : State) (n : ℕ) where
  calm_later : (t i : ℕ) → t < m.threads → i < n → Calm s.clock (thread_at m t) (job_of s.threads t) n → thread_busy m (later m i s) t ≡ false
  unfolding later with_now with_spents job_of
  calm_later t i l h c =
      let y = s.threads in
      calm m (later m i s) t
      (spent_some
      (λ d. may_act (clock_after s.clock i) (thread_at m t) (record { active = (job_of y t).active; code = (job_of y t).code; dispatched = (job_of y t).dispatched; length = (job_of y t).length; spent = d }) ≡ false)
      y.code y.spent i m.threads t l (λ g k. c i g h k))

  pub switches_none : (q : ℕ) → q ≡ s.clock.pending → m.switches ≤ q → SwitchesCalm m s n
  unfolding later with_now with_spents
  switches_none q e h i l = any_none m.switches (switch_busy m (later m i s)) (λ k z. other_switch m (later m i s) k (λ w. omega arith))

  -- only the pending one, whose record is x, can have an event
  module _ (q : ℕ) (x : ModeTransition) (e : q ≡ s.clock.pending) (f : x ≡ switch_at m q) where
    by_pending : (i : ℕ) → switch_busy m (later m i s) q ≡ false → any_below m.switches (switch_busy m (later m i s)) ≡ false
    unfolding later with_now with_spents
    by_pending i h = any_none m.switches (switch_busy m (later m i s)) (λ k z. go k (ℕ_discrete q k))
      where
        go : (k : ℕ) → Dec (q ≡ k) → switch_busy m (later m i s) k ≡ false
        go k (yes w) = rw (← w) h
        go k (no w) = other_switch m (later m i s) k (λ z. w (e ∙ z))

    pub switches_enter : s.clock.phase ≡ 1 → ((i : ℕ) → i < n → is_multiple (s.clock.now.0 + i) x.h1.0 ≡ false) → SwitchesCalm m s n
    unfolding later with_now with_spents switch_busy can_enter can_leave
    switches_enter p h i l = by_pending i (rw (p, ← f, h i l) (simp and_false))

    pub switches_leave : (s.clock.phase ≡ 1 → ⊥) → ((i : ℕ) → i < n → is_multiple (s.clock.now.0 + i) x.h2.0 ≡ false) → SwitchesCalm m s n
    unfolding later with_now with_spents switch_busy can_enter can_leave
    switches_leave p h i l = by_pending i (rw (ne_eqb s.clock.phase 1 p, ← f, h i l) (simp and_false))

  pub quiet_all : (r : ℕ) → n ≤ r → SwitchesCalm m s r → CalmBelow m s.clock s.threads m.threads n → Quiet m s n
  unfolding is_busy
  quiet_all r h f c i z l = rw (any_none m.threads (thread_busy m (later m i s)) (λ t k. calm_later t i k l (c t k)), f i (omega arith))

pub quiet_one : (m : Timing) (s : State) → Quiet m s 1
quiet_one m s i z l = absurd (omega arith)
