-- Laws of the tests on jobs and views, and of the loops that look for an event.
use Rattle.std.specs.Prelude.{◌≡◌, refl, Bool, cond, ◌&&◌, ◌||◌, not, ℕ, zero, suc, ◌+◌, ◌<◌, ◌≤◌, min, eqb, ltb, leb}
use Rattle.std.proofs.Math.Path.{sym}
use Rattle.std.proofs.Common.{◌∙◌, arith, le-ltb, ne_eqb}
use Rattle.std.proofs.Math.Bool.{true, false}
use Rattle.std.proofs.Math.Decide.{ℕ_discrete, dec_lt}
use Rattle.numbers.specs.declared.Duration.{Duration}
use Rattle.numbers.specs.Values.{duration}
use Rattle.numbers.specs.Lists.{any_below}
use Rattle.numbers.specs.ListLaws.{any_none, any_some}
use Rattle.model_format.specs.declared.Thread.{Thread}
use Rattle.model_format.specs.declared.ModeTransition.{ModeTransition}
use Rattle.model_format.specs.declared.Timing.{Timing}
use Rattle.model_format.specs.Model.{max_threads, max_connections, thread_at, switch_at}
use Rattle.model_semantics.specs.declared.State.{State}
use Rattle.model_tests.specs.declared.Job.{Job}
use Rattle.model_tests.specs.declared.ThreadView.{ThreadView}
use Rattle.model_semantics.specs.State.{none, is_active, code_of, dispatch_time, length_of, spent_of, is_live}
use Rattle.model_tests.specs.Parts.{job_of, deactivates}
use Rattle.model_tests.specs.Rooms.{any_room}
use Rattle.model_semantics.specs.Tests.{waiting_execution, is_unfinished, has_job, due_of, is_due, is_periodic, feeds, can_activate, can_deactivate, awaits_delayed, can_dispatch, awaits_immediate, is_ready, is_allowed, start_fault, can_complete, can_meet_deadline, can_miss, can_enter, can_leave, thread_busy, switch_busy, is_busy}
use Rattle.model_tests.specs.Jobs.{thread_view_of, activates, completes, dispatches_alone, meets, misses, may_act, holds_dispatch, holds_start, enters, leaves}

-- ---- Bools
pub false_true : {A : Type 0} → false ≡ true → A
false_true e = let z : ◌≡◌ {A = ℕ} 0 1 = cc in absurd (omega arith)

pub and_false : (b : Bool) → (b && false) ≡ false
and_false true = refl
and_false false = refl

and_assoc : (a b c d : Bool) → ((a && (b && c)) && d) ≡ (a && (b && (c && d)))
and_assoc true true c d = refl
and_assoc true false c d = refl
and_assoc false b c d = refl

-- ---- a thread's job and its view
module _ (s : State) (t : ℕ) (j : Job) (f : j ≡ job_of s.threads t) where
  pub activate_by : activates j ≡ can_activate s t
  unfolding can_activate is_active code_of job_of
  activate_by = rw f

  pub complete_by : completes j ≡ can_complete s t
  unfolding can_complete code_of length_of spent_of job_of
  complete_by = rw f

-- DEACTIVATE: x is the thread's record, which is read where it is not active
module _ (m : Timing) (s : State) (t : ℕ) (j : Job) (f : j ≡ job_of s.threads t) where
  pub deactivate_active : j.active ≡ true → false ≡ can_deactivate m s t
  unfolding can_deactivate is_active job_of
  deactivate_active h = rw (rw f at h)

  pub deactivate_by : (x : Thread) → x ≡ thread_at m t → deactivates x j ≡ can_deactivate m s t
  unfolding can_deactivate is_active code_of job_of
  deactivate_by x e = rw (e, f)

module _ (m : Timing) (s : State) (t : ℕ) (v : ThreadView) (f : v ≡ thread_view_of m s t) where
  pub meet_by : meets v ≡ can_meet_deadline m s t
  unfolding thread_view_of can_meet_deadline due_of code_of dispatch_time job_of
  meet_by = rw f

  pub miss_by : misses v ≡ can_miss m s t
  unfolding thread_view_of can_miss due_of code_of dispatch_time length_of spent_of job_of
  miss_by = rw f

  pub dispatch_by : (w : Bool) → w ≡ awaits_delayed m s t → (dispatches_alone v && not w) ≡ can_dispatch m s t
  unfolding thread_view_of can_dispatch code_of is_active job_of
  dispatch_by w e = rw (e, f) (and_assoc (eqb (code_of s t) 1) (is_active s t) (is_periodic m s t) (not (awaits_delayed m s t)))

-- START's steps: k is the code, d the time of its dispatch, x its record, z the clock
module _ (m : Timing) (s : State) (t k : ℕ) (e : k ≡ code_of s t) where
  pub unready_by : (k ≡ waiting_execution → ⊥) → false ≡ is_ready m s t
  unready_by h = rw (← e, ne_eqb k waiting_execution h) (sym (and_false (ltb t m.threads)))

  pub ready_by : k ≡ waiting_execution → (d z : Duration) (x : Thread) (a : ℕ) (b : Bool) → d ≡ duration (dispatch_time s t) → x ≡ thread_at m t → z ≡ s.clock.now →
      b ≡ eqb (d.0 + x.deadline.0) z.0 → a ≡ m.threads → (ltb t a && not b) ≡ is_ready m s t
  unfolding due_of
  ready_by h d z x a b p q i g j = rw (← e, h, g, p, q, i, j)

pub allowed_by : (m : Timing) (t n : ℕ) (x : Thread) → x ≡ thread_at m t → (leb x.bcet.0 n && leb n x.wcet.0) ≡ is_allowed m t n
allowed_by m t n x e = rw e

-- ---- mode transitions
module _ (m : Timing) (s : State) (q : ℕ) (x : ModeTransition) (e : x ≡ switch_at m q) where
  pub enter_by : enters s.clock x q ≡ can_enter m s q
  unfolding enters can_enter
  enter_by = rw e

  pub leave_by : leaves s.clock x q ≡ can_leave m s q
  unfolding leaves can_leave
  leave_by = rw e

pub switch_by : (m : Timing) (s : State) (q : ℕ) (a b : Bool) → a ≡ can_enter m s q → b ≡ can_leave m s q → (a || b) ≡ switch_busy m s q
unfolding switch_busy
switch_by m s q a b e f = rw (e, f)

-- ---- loops that look for a number below z and stop at an array's room, past which there is none; n is where they stop
module _ (z room n c : ℕ) (p : ℕ → Bool) (e : n ≡ min z room) where
  found : (b : Bool) → c < n → b ≡ p c → b ≡ true → true ≡ any_below z p
  found b l g h = sym (any_some z p c (omega arith) (sym g ∙ h))

  not_found : ((k : ℕ) → room ≤ k → p k ≡ false) → n ≤ c → ((k : ℕ) → k < c → p k ≡ false) → false ≡ any_below z p
  not_found past l h = sym (any_none z p (λ k i. go k i (dec_lt k c)))
    where
      go : (k : ℕ) → k < z → Dec (k < c) → p k ≡ false
      go k i (yes j) = h k j
      go k i (no j) = past k (omega arith)

module _ (m : Timing) (s : State) (t n c : ℕ) (e : n ≡ min m.connections max_connections) where
  pub delayed_some : (b : Bool) → c < n → b ≡ holds_dispatch m s t c → b ≡ true → true ≡ awaits_delayed m s t
  unfolding awaits_delayed holds_dispatch
  delayed_some = found m.connections max_connections n c (holds_dispatch m s t) e

  pub delayed_none : n ≤ c → ((k : ℕ) → k < c → holds_dispatch m s t k ≡ false) → false ≡ awaits_delayed m s t
  unfolding awaits_delayed holds_dispatch feeds is_live
  delayed_none = not_found m.connections max_connections n c (holds_dispatch m s t) e (λ k h. rw (le-ltb k max_connections h) (simp and_false))

  pub immediate_some : (b : Bool) → c < n → b ≡ holds_start m s t c → b ≡ true → true ≡ awaits_immediate m s t
  unfolding awaits_immediate holds_start
  immediate_some = found m.connections max_connections n c (holds_start m s t) e

  pub immediate_none : n ≤ c → ((k : ℕ) → k < c → holds_start m s t k ≡ false) → false ≡ awaits_immediate m s t
  unfolding awaits_immediate holds_start feeds is_live
  immediate_none = not_found m.connections max_connections n c (holds_start m s t) e (λ k h. rw (le-ltb k max_connections h) (simp and_false))

-- the same of a search that asks of each number up to there
module _ (m : Timing) (s : State) (t : ℕ) where
  pub delayed_room : any_below (min m.connections max_connections) (holds_dispatch m s t) ≡ awaits_delayed m s t
  unfolding awaits_delayed holds_dispatch feeds is_live
  delayed_room = any_room m.connections max_connections (holds_dispatch m s t) (λ k h. rw (le-ltb k max_connections h) (simp and_false))

  pub immediate_room : any_below (min m.connections max_connections) (holds_start m s t) ≡ awaits_immediate m s t
  unfolding awaits_immediate holds_start feeds is_live
  immediate_room = any_room m.connections max_connections (holds_start m s t) (λ k h. rw (le-ltb k max_connections h) (simp and_false))

-- ---- a calm thread has no event: a Active, k the code, d what DEACTIVATE's test says
calm_of : (d a : Bool) (k : ℕ) (due done periodic free delay wait known fits : Bool) →
    (d || cond (eqb k 0) a (cond (eqb k 1) periodic (cond (eqb k 2) (free || due) (cond (eqb k 3) (done || due) (cond (eqb k 4) due false))))) ≡ false →
    ((a && eqb k 0) || (d || ((eqb k 1 && (a && (periodic && not delay))) ||
    (eqb (cond (not (known && (eqb k 2 && not due))) 1 (cond (not free) 2 (cond wait 3 (cond (not fits) 4 0)))) 0 ||
    ((eqb k 3 && done) || ((eqb k 4 && due) || (due && (eqb k 2 || (eqb k 3 && not done))))))))) ≡ false
calm_of true a k due done periodic free delay wait known fits h = false_true (sym h)
calm_of false true zero due done periodic free delay wait known fits h = false_true (sym h)
calm_of false false zero due done periodic free delay wait known fits h = simp and_false
calm_of false a (suc zero) due done true free delay wait known fits h = false_true (sym h)
calm_of false a (suc zero) due done false free delay wait known fits h = simp and_false
calm_of false a (suc (suc zero)) due done periodic true delay wait known fits h = false_true (sym h)
calm_of false a (suc (suc zero)) true done periodic false delay wait known fits h = false_true (sym h)
calm_of false true (suc (suc zero)) false done periodic false delay wait true fits h = refl
calm_of false true (suc (suc zero)) false done periodic false delay wait false fits h = refl
calm_of false false (suc (suc zero)) false done periodic false delay wait true fits h = refl
calm_of false false (suc (suc zero)) false done periodic false delay wait false fits h = refl
calm_of false a (suc (suc (suc zero))) due true periodic free delay wait known fits h = false_true (sym h)
calm_of false a (suc (suc (suc zero))) true false periodic free delay wait known fits h = false_true (sym h)
calm_of false a (suc (suc (suc zero))) false false periodic free delay wait known fits h = simp and_false
calm_of false a (suc (suc (suc (suc zero)))) true done periodic free delay wait known fits h = false_true (sym h)
calm_of false a (suc (suc (suc (suc zero)))) false done periodic free delay wait known fits h = simp and_false
calm_of false a (suc (suc (suc (suc (suc k))))) due done periodic free delay wait known fits h =
    let n = suc (suc (suc (suc (suc k)))) in
    rw (ne_eqb n 0 (λ e. omega arith), ne_eqb n 1 (λ e. omega arith), ne_eqb n 2 (λ e. omega arith), ne_eqb n 3 (λ e. omega arith), ne_eqb n 4 (λ e. omega arith)) (simp and_false)

pub calm : (m : Timing) (s : State) (t : ℕ) → may_act s.clock (thread_at m t) (job_of s.threads t) ≡ false → thread_busy m s t ≡ false
unfolding may_act job_of thread_busy can_activate can_deactivate can_dispatch start_fault can_complete can_meet_deadline can_miss due_of is_active code_of dispatch_time length_of spent_of thread_at
calm m s t h =
    calm_of (can_deactivate m s t) (is_active s t) (code_of s t) (is_due m s t) (eqb (spent_of s t) (length_of s t)) (is_periodic m s t) (eqb s.clock.cpu none)
    (awaits_delayed m s t) (awaits_immediate m s t) (ltb t m.threads) (leb (thread_at m t).bcet.0 (thread_at m t).bcet.0 && leb (thread_at m t).bcet.0 (thread_at m t).wcet.0) h

-- t lies past the arrays: nothing is there
calm_past : (m : Timing) (s : State) (t : ℕ) → 16 ≤ t → thread_busy m s t ≡ false
unfolding may_act job_of has_job is_unfinished
calm_past m s t h = calm m s t (rw (le-ltb t 16 h) (simp and_false))

module _ (m : Timing) (s : State) (n c : ℕ) (e : n ≡ min m.threads max_threads) where
  pub threads_some : (b : Bool) → c < n → b ≡ thread_busy m s c → b ≡ true → true ≡ any_below m.threads (thread_busy m s)
  threads_some = found m.threads max_threads n c (thread_busy m s) e

  pub threads_none : n ≤ c → ((k : ℕ) → k < c → thread_busy m s k ≡ false) → false ≡ any_below m.threads (thread_busy m s)
  threads_none = not_found m.threads max_threads n c (thread_busy m s) e (calm_past m s)

pub threads_room : (m : Timing) (s : State) → any_below (min m.threads max_threads) (thread_busy m s) ≡ any_below m.threads (thread_busy m s)
threads_room m s = any_room m.threads max_threads (thread_busy m s) (calm_past m s)

pub busy_by : (m : Timing) (s : State) (t n : ℕ) (x : Thread) (a b c d e f : Bool) → x ≡ thread_at m t → n ≡ start_fault m s t x.bcet.0 →
    a ≡ can_activate s t → b ≡ can_deactivate m s t → c ≡ can_dispatch m s t → d ≡ can_complete s t → e ≡ can_meet_deadline m s t → f ≡ can_miss m s t →
    (a || (b || (c || (eqb n 0 || (d || (e || f)))))) ≡ thread_busy m s t
unfolding thread_busy
busy_by m s t n x a b c d e f p q ha hb hc hd he hf = rw (ha, hb, hc, q, p, hd, he, hf)

-- ---- all of it: only the pending mode transition can have an event
pub other_switch : (m : Timing) (s : State) (q : ℕ) → (s.clock.pending ≡ q → ⊥) → switch_busy m s q ≡ false
unfolding switch_busy can_enter can_leave
other_switch m s q h = rw (ne_eqb s.clock.pending q h) (simp and_false)

module _ (m : Timing) (s : State) (a : Bool) (e : a ≡ any_below m.threads (thread_busy m s)) where
  pub busy_thread : a ≡ true → true ≡ is_busy m s
  unfolding is_busy
  busy_thread h = rw (← e, h)

  module _ (h : a ≡ false) (q : ℕ) (g : q ≡ s.clock.pending) where
    pub busy_nothing : m.switches ≤ q → false ≡ is_busy m s
    unfolding is_busy
    busy_nothing l = rw (← e, h) (sym (any_none m.switches (switch_busy m s) (λ k i. other_switch m s k (λ d. omega arith))))

    pub busy_pending : (b : Bool) → q < m.switches → b ≡ switch_busy m s q → b ≡ is_busy m s
    unfolding is_busy
    busy_pending b l f = rw (← e, h) (f ∙ go (switch_busy m s q) refl)
      where
        go : (c : Bool) → switch_busy m s q ≡ c → c ≡ any_below m.switches (switch_busy m s)
        go true d = sym (any_some m.switches (switch_busy m s) q l d)
        go false d = sym (any_none m.switches (switch_busy m s) (λ k i. by k (ℕ_discrete q k)))
          where
            by : (k : ℕ) → Dec (q ≡ k) → switch_busy m s k ≡ false
            by k (yes z) = rw (← z) d
            by k (no z) = other_switch m s k (λ w. z (g ∙ w))
