-- The tests of the events in the forms in which the code has them, and the ids past which nothing is enabled.
use Rattle.std.specs.Prelude.{◌≡◌, Bool, ◌&&◌, eqb, ltb}
use Rattle.std.proofs.Math.Path.{refl}
use Rattle.std.proofs.Common.{◌∙◌, arith}
use Rattle.std.proofs.Math.Bool.{true, false, cond, and-false}
use Prim.Native.Nat.{ℕ, zero, suc, ◌<◌, ◌≤◌, min}
use Rattle.std.proofs.Math.Decide.{dec_lt}
use borrow.Author.Tests.{lt-ltb, le-ltb, eq-eqb, ne_eqb}
use Rattle.numbers.specs.ListLaws.{item_past}
use Rattle.records.specs.Events.{activate_kind, deactivate_kind, dispatch_kind, start_kind, complete_kind, deadline_kind, miss_kind, request_kind, enter_kind}
use Rattle.model_format.specs.declared.Thread.{Thread}
use Rattle.model_format.specs.declared.Timing.{Timing}
use Rattle.model_format.specs.Model.{max_threads, thread_at}
use Rattle.model_semantics.specs.declared.State.{State}
use Rattle.model_semantics.specs.State.{is_active, code_of}
use Rattle.model_semantics.specs.Tests.{is_unfinished, has_job, is_due, can_activate, can_deactivate, can_dispatch, start_fault, can_start, can_complete, can_meet_deadline, can_miss, can_enter, can_leave}
use Rattle.model_semantics.specs.StartLaws.{start_unready}
use Rattle.enabled.specs.Enabled.{ids, length_in, may_take}
use Rattle.model_enabled.specs.Walks.{items_of}

-- ---- each kind: n is how many threads or mode transitions there are, b the test
module _ (m : Timing) (s : State) (kind i n : ℕ) (b : Bool) where
  pub take_activate : kind ≡ activate_kind → n ≡ m.threads → b ≡ can_activate s i → (ltb i n && b) ≡ may_take m s kind i
  unfolding may_take
  take_activate k e f = rw (k, e, f)

  pub take_deactivate : kind ≡ deactivate_kind → n ≡ m.threads → b ≡ can_deactivate m s i → (ltb i n && b) ≡ may_take m s kind i
  unfolding may_take
  take_deactivate k e f = rw (k, e, f)

  pub take_dispatch : kind ≡ dispatch_kind → n ≡ m.threads → b ≡ can_dispatch m s i → (ltb i n && b) ≡ may_take m s kind i
  unfolding may_take
  take_dispatch k e f = rw (k, e, f)

  pub take_complete : kind ≡ complete_kind → n ≡ m.threads → b ≡ can_complete s i → (ltb i n && b) ≡ may_take m s kind i
  unfolding may_take
  take_complete k e f = rw (k, e, f)

  pub take_deadline : kind ≡ deadline_kind → n ≡ m.threads → b ≡ can_meet_deadline m s i → (ltb i n && b) ≡ may_take m s kind i
  unfolding may_take
  take_deadline k e f = rw (k, e, f)

  pub take_miss : kind ≡ miss_kind → n ≡ m.threads → b ≡ can_miss m s i → (ltb i n && b) ≡ may_take m s kind i
  unfolding may_take
  take_miss k e f = rw (k, e, f)

  pub take_request : kind ≡ request_kind → n ≡ m.switches → ltb i n ≡ may_take m s kind i
  unfolding may_take
  take_request k e = rw (k, e)

  pub take_enter : kind ≡ enter_kind → n ≡ m.switches → b ≡ can_enter m s i → (ltb i n && b) ≡ may_take m s kind i
  unfolding may_take
  take_enter k e f = rw (k, e, f)

  pub take_leave : (kind ≡ activate_kind → ⊥) → (kind ≡ deactivate_kind → ⊥) → (kind ≡ dispatch_kind → ⊥) → (kind ≡ start_kind → ⊥) → (kind ≡ complete_kind → ⊥) → (kind ≡ deadline_kind → ⊥) → (kind ≡ miss_kind → ⊥) → (kind ≡ request_kind → ⊥) → (kind ≡ enter_kind → ⊥) →
      n ≡ m.switches → b ≡ can_leave m s i → (ltb i n && b) ≡ may_take m s kind i
  unfolding may_take
  take_leave k1 k2 k3 k4 k5 k6 k7 k8 k9 e f =
      rw (ne_eqb kind activate_kind k1, ne_eqb kind deactivate_kind k2, ne_eqb kind dispatch_kind k3, ne_eqb kind start_kind k4, ne_eqb kind complete_kind k5, ne_eqb kind deadline_kind k6, ne_eqb kind miss_kind k7, ne_eqb kind request_kind k8, ne_eqb kind enter_kind k9, e, f)

-- START: x is the thread, r the first step that fails with its shortest length
pub take_start : (m : Timing) (s : State) (i r : ℕ) (x : Thread) → x ≡ thread_at m i → r ≡ start_fault m s i x.bcet.0 → eqb r 0 ≡ may_take m s start_kind i
unfolding may_take
take_start m s i r x e f = rw (f, e)

pub take_start_kind : (m : Timing) (s : State) (kind i : ℕ) (b : Bool) → kind ≡ start_kind → b ≡ may_take m s start_kind i → b ≡ may_take m s kind i
take_start_kind m s kind i b k e = rw k e

-- ---- lengths
pub length_start : (kind n : ℕ) → kind ≡ start_kind → n ≡ length_in kind n
length_start kind n k = rw (eq-eqb kind start_kind k)

pub length_other : (kind n : ℕ) → (kind ≡ start_kind → ⊥) → 0 ≡ length_in kind n
length_other kind n k = rw (ne_eqb kind start_kind k)

-- ---- the ids
pub items_threads : (m : Timing) (kind n r : ℕ) → kind < request_kind → n ≡ m.threads → r ≡ min n max_threads → r ≡ items_of m kind
unfolding items_of
items_threads m kind n r k e f = f ∙ rw (e, lt-ltb kind request_kind k)

pub items_switches : (m : Timing) (kind n r : ℕ) → request_kind ≤ kind → n ≡ m.switches → r ≡ min n ids → r ≡ items_of m kind
unfolding items_of
items_switches m kind n r k e f = f ∙ rw (e, le-ltb kind request_kind k)

-- ---- past them
module _ (m : Timing) (s : State) (i : ℕ) where
  -- a thread that is past the room of a state does nothing
  module _ (h : max_threads ≤ i) where
    no_code : code_of s i ≡ 0
    unfolding code_of
    no_code = item_past max_threads s.threads.code i 0 h

    not_active : is_active s i ≡ false
    unfolding is_active
    not_active = item_past max_threads s.threads.active i false h

    no_start : (n : ℕ) → can_start m s i n ≡ false
    no_start n = start_unready m s i n (rw no_code (and-false (ltb i m.threads)))

    no_miss : can_miss m s i ≡ false
    unfolding can_miss
    no_miss = rw (no_code) (and-false (is_due m s i))

  -- nor one that the model has not
  absent_start : (n : ℕ) → m.threads ≤ i → can_start m s i n ≡ false
  absent_start n h = start_unready m s i n (rw (le-ltb i m.threads h))

-- ---- so nothing past the ids that a kind is looked at for
module _ (m : Timing) (s : State) (i : ℕ) where
  -- a test on a thread, which fails past the room
  of_thread : (b : Bool) → (max_threads ≤ i → b ≡ false) → min m.threads max_threads ≤ i → (ltb i m.threads && b) ≡ false
  of_thread b f h = go (dec_lt i m.threads)
    where
      go : Dec (i < m.threads) → (ltb i m.threads && b) ≡ false
      go (yes l) = rw (f (omega arith)) (and-false (ltb i m.threads))
      go (no l) = rw (le-ltb i m.threads (omega arith))

  none_on_thread : min m.threads max_threads ≤ i → (k : ℕ) → k < request_kind → (k ≡ 0 → ⊥) → may_take m s k i ≡ false
  unfolding may_take can_activate has_job is_unfinished can_deactivate can_dispatch can_complete can_meet_deadline
  none_on_thread h zero l z = absurd (z refl)
  none_on_thread h (suc zero) l z = of_thread _ (λ p. rw (not_active m s i p)) h
  none_on_thread h (suc (suc zero)) l z = of_thread _ (λ p. rw (no_code m s i p) (simp and-false)) h
  none_on_thread h (suc (suc (suc zero))) l z = of_thread _ (λ p. rw (no_code m s i p)) h
  none_on_thread h (suc (suc (suc (suc zero)))) l z = go (dec_lt i m.threads)
    where
      go : Dec (i < m.threads) → can_start m s i (thread_at m i).bcet.0 ≡ false
      go (yes l) = no_start m s i (omega arith) (thread_at m i).bcet.0
      go (no l) = absent_start m s i (thread_at m i).bcet.0 (omega arith)
  none_on_thread h (suc (suc (suc (suc (suc zero))))) l z = of_thread _ (λ p. rw (no_code m s i p)) h
  none_on_thread h (suc (suc (suc (suc (suc (suc zero)))))) l z = of_thread _ (λ p. rw (no_code m s i p)) h
  none_on_thread h (suc (suc (suc (suc (suc (suc (suc zero))))))) l z = of_thread _ (no_miss m s i) h
  none_on_thread h (suc (suc (suc (suc (suc (suc (suc (suc k)))))))) l z = absurd (omega arith)

  none_on_switch : min m.switches ids ≤ i → i < ids → (k : ℕ) → request_kind ≤ k → may_take m s k i ≡ false
  unfolding may_take
  none_on_switch h l k b =
      rw (
        ne_eqb k activate_kind (λ e. omega arith),
        ne_eqb k deactivate_kind (λ e. omega arith),
        ne_eqb k dispatch_kind (λ e. omega arith),
        ne_eqb k start_kind (λ e. omega arith),
        ne_eqb k complete_kind (λ e. omega arith),
        ne_eqb k deadline_kind (λ e. omega arith),
        ne_eqb k miss_kind (λ e. omega arith),
        le-ltb i m.switches (omega arith),
      )
      (go (eqb k request_kind) (eqb k enter_kind))
    where
      go : (a b : Bool) → cond a false (cond b false false) ≡ false
      go true b = refl
      go false true = refl
      go false false = refl

  pub none_past : (kind : ℕ) → 1 ≤ kind → items_of m kind ≤ i → i < ids → may_take m s kind i ≡ false
  unfolding items_of
  none_past kind b h l = go (dec_lt kind request_kind)
    where
      go : Dec (kind < request_kind) → may_take m s kind i ≡ false
      go (yes k) = none_on_thread (rw (lt-ltb kind request_kind k) at h) kind k (λ e. omega arith)
      go (no k) = none_on_switch (rw (le-ltb kind request_kind (omega arith)) at h) l kind (omega arith)
