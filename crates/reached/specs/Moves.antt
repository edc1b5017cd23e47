-- What holds of every state that is reached: of the start, and kept by every move.
use Rattle.std.specs.Prelude.{◌≡◌, Bool, cond, ◌&&◌}
use Rattle.std.proofs.Math.Path.{refl}
use Rattle.std.proofs.Math.Bool.{true, false}
use Rattle.std.proofs.lemmas.Bool.{false≢true}
use Prim.Native.Nat.{ℕ, zero, suc, ◌<◌}
use Rattle.std.proofs.Math.Dec.{ltb}
use Rattle.std.proofs.Common.{ltb-true}
use Rattle.records.specs.declared.Event.{Event}
use Rattle.records.specs.declared.Cause.TheVariants.{NotEnabled, LastClock}
use Rattle.records.specs.Refusals.{is_none, number_of}
use Rattle.records.specs.Events.{is_broken, last_clock}
use Rattle.model_format.specs.declared.Model.{Model}
use Rattle.model_semantics.specs.declared.State.{State}
use Rattle.model_semantics.specs.State.{now_of, with_code}
use Rattle.model_semantics.specs.Tests.{waiting_dispatch, can_activate, can_deactivate, can_dispatch, can_start, can_complete, can_meet_deadline, can_miss, can_enter, can_leave, is_busy}
use Rattle.model_semantics.specs.Effects.{dispatch, start, complete, meet_deadline, miss, deactivate, request, enter, leave, tick}
use Rattle.model_semantics.specs.Machine.{start_state, refuse, attempt, ticks, step}
use Rattle.reached.specs.Kinds.{model_broken, model_activate, model_deactivate, model_dispatch, model_start, model_complete, model_deadline, model_miss, model_request, model_enter, model_leave, model_tick, OneOf, is_activate, is_deactivate, is_dispatch, is_start, is_complete, is_deadline, is_miss, is_request, is_enter, is_leave, is_tick, one_of}
use Rattle.reached.specs.Reachable.{Reachable, begin, next}

-- from a state to the next: by an event whose test passes, or by one tick of a quiet state before the last clock
pub data Move (m : Model) (s : State) : State → Type 0 where
  activates : (t : ℕ) → t < m.timing.threads → can_activate s t ≡ true → Move m s (with_code s t waiting_dispatch)
  deactivates : (t : ℕ) → t < m.timing.threads → (can_deactivate m.timing s t) ≡ true → Move m s (deactivate m.timing s t)
  dispatches : (t : ℕ) → t < m.timing.threads → (can_dispatch m.timing s t) ≡ true → Move m s (dispatch m.timing s t)
  starts : (t n : ℕ) → can_start m.timing s t n ≡ true → Move m s (start m.timing s t n)
  completes : (t : ℕ) → t < m.timing.threads → can_complete s t ≡ true → Move m s (complete m s t)
  meets : (t : ℕ) → t < m.timing.threads → (can_meet_deadline m.timing s t) ≡ true → Move m s (meet_deadline m.timing s t)
  misses : (t : ℕ) → t < m.timing.threads → (can_miss m.timing s t) ≡ true → Move m s (miss m.timing s t)
  requests : (q : ℕ) → q < m.timing.switches → Move m s (request m.timing s q)
  enters : (q : ℕ) → q < m.timing.switches → (can_enter m.timing s q) ≡ true → Move m s (enter m.timing s q)
  leaves : (q : ℕ) → q < m.timing.switches → (can_leave m.timing s q) ≡ true → Move m s (leave m.timing s q)
  ticks_once : is_busy m.timing s ≡ false → now_of s < last_clock → Move m s (tick m.timing s)

pub both : (a b : Bool) → (a && b) ≡ true → (a ≡ true) × (b ≡ true)
both true b e = (refl, e)
both false b e = absurd (false≢true e)

module _ (m : Model) (P : State → Type 0) (keeps : (s r : State) → P s → Move m s r → P r) where
  module _ (s : State) where
    by_test : (b : Bool) (x : State) → (b ≡ true → P x) → is_none (attempt b x s).answer ≡ true → P (attempt b x s).state
    unfolding number_of
    by_test true x h q = h refl
    by_test false x h q = absurd (false≢true q)

  by_ticks : (s₀ : State) (n : ℕ) (s : State) → P s → is_none (ticks m.timing s₀ n s).answer ≡ true → P (ticks m.timing s₀ n s).state
  unfolding ticks number_of
  by_ticks s₀ zero s p q = p
  by_ticks s₀ (suc n) s p q = go (is_busy m.timing s) refl (ltb (now_of s) last_clock) refl (λ h. by_ticks s₀ n (tick m.timing s) h) q
    where
      go : (b : Bool) → is_busy m.timing s ≡ b → (c : Bool) → ltb (now_of s) last_clock ≡ c →
          (P (tick m.timing s) → is_none (ticks m.timing s₀ n (tick m.timing s)).answer ≡ true → P (ticks m.timing s₀ n (tick m.timing s)).state) →
          is_none (cond b (refuse NotEnabled s₀) (cond c (ticks m.timing s₀ n (tick m.timing s)) (refuse LastClock s₀))).answer ≡ true →
          P (cond b (refuse NotEnabled s₀) (cond c (ticks m.timing s₀ n (tick m.timing s)) (refuse LastClock s₀))).state
      go true e c f h q = absurd (false≢true q)
      go false e true f h q = h (keeps s _ p (ticks_once e (ltb-true (now_of s) last_clock f))) q
      go false e false f h q = absurd (false≢true q)

  broken_keeps : (s : State) (e : Event) → is_broken e ≡ true → is_none (step m s e).answer ≡ true → P (step m s e).state
  unfolding number_of
  broken_keeps s e b = rw (model_broken m s e b) (λ q. absurd (false≢true q))

  kind_keeps : (s : State) → P s → (e : Event) → is_broken e ≡ false → OneOf e.kind → is_none (step m s e).answer ≡ true → P (step m s e).state
  kind_keeps s p e f (is_activate k) = rw (model_activate m s e k) (λ q. by_test s _ _ (λ b. keeps s _ p (activates e.id (ltb-true e.id m.timing.threads (both (ltb e.id m.timing.threads) _ b).0) (both (ltb e.id m.timing.threads) _ b).1)) q)
  kind_keeps s p e f (is_deactivate k) = rw (model_deactivate m s e k) (λ q. by_test s _ _ (λ b. keeps s _ p (deactivates e.id (ltb-true e.id m.timing.threads (both (ltb e.id m.timing.threads) _ b).0) (both (ltb e.id m.timing.threads) _ b).1)) q)
  kind_keeps s p e f (is_dispatch k) = rw (model_dispatch m s e k) (λ q. by_test s _ _ (λ b. keeps s _ p (dispatches e.id (ltb-true e.id m.timing.threads (both (ltb e.id m.timing.threads) _ b).0) (both (ltb e.id m.timing.threads) _ b).1)) q)
  kind_keeps s p e f (is_start k) = rw (model_start m s e k) (λ q. by_test s _ _ (λ b. keeps s _ p (starts e.id e.amount b)) q)
  kind_keeps s p e f (is_complete k) = rw (model_complete m s e k) (λ q. by_test s _ _ (λ b. keeps s _ p (completes e.id (ltb-true e.id m.timing.threads (both (ltb e.id m.timing.threads) _ b).0) (both (ltb e.id m.timing.threads) _ b).1)) q)
  kind_keeps s p e f (is_deadline k) = rw (model_deadline m s e k) (λ q. by_test s _ _ (λ b. keeps s _ p (meets e.id (ltb-true e.id m.timing.threads (both (ltb e.id m.timing.threads) _ b).0) (both (ltb e.id m.timing.threads) _ b).1)) q)
  kind_keeps s p e f (is_miss k) = rw (model_miss m s e k) (λ q. by_test s _ _ (λ b. keeps s _ p (misses e.id (ltb-true e.id m.timing.threads (both (ltb e.id m.timing.threads) _ b).0) (both (ltb e.id m.timing.threads) _ b).1)) q)
  kind_keeps s p e f (is_request k) = rw (model_request m s e k) (λ q. by_test s _ _ (λ b. keeps s _ p (requests e.id (ltb-true e.id m.timing.switches b))) q)
  kind_keeps s p e f (is_enter k) = rw (model_enter m s e k) (λ q. by_test s _ _ (λ b. keeps s _ p (enters e.id (ltb-true e.id m.timing.switches (both (ltb e.id m.timing.switches) _ b).0) (both (ltb e.id m.timing.switches) _ b).1)) q)
  kind_keeps s p e f (is_leave k) = rw (model_leave m s e k) (λ q. by_test s _ _ (λ b. keeps s _ p (leaves e.id (ltb-true e.id m.timing.switches (both (ltb e.id m.timing.switches) _ b).0) (both (ltb e.id m.timing.switches) _ b).1)) q)
  kind_keeps s p e f (is_tick k) = rw (model_tick m s e k f) (by_ticks s e.amount s p)

  step_keeps : (s : State) → P s → (e : Event) → is_none (step m s e).answer ≡ true → P (step m s e).state
  step_keeps s p e = go (is_broken e) refl
    where
      go : (b : Bool) → is_broken e ≡ b → is_none (step m s e).answer ≡ true → P (step m s e).state
      go true b = broken_keeps s e b
      go false b = kind_keeps s p e b (one_of e b)

  -- and so of all of them
  pub invariant : P (start_state m.timing) → (s : State) → Reachable m s → P s
  invariant p s begin = p
  invariant p r (next {s} h e q) = step_keeps s (invariant p s h) e q
