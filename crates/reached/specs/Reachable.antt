-- The states that a run of a model reaches.
use Rattle.std.specs.Prelude.{◌≡◌, Bool, cond, ltb}
use Rattle.std.proofs.Math.Path.{refl}
use Rattle.std.proofs.Common.{sym, subst, true≢false}
use Rattle.std.proofs.Math.Bool.{true, false}
use mathlib.Core.List.{List, [], ◌∷◌}
use Prim.Native.Nat.{ℕ, zero, suc, ◌+◌}
use Rattle.std.proofs.Math.ListN.{length}
use Rattle.records.specs.declared.Event.{Event}
use Rattle.records.specs.declared.Notation.TheVariants.{Script}
use Rattle.records.specs.Format.{parts}
use Rattle.records.specs.Refusals.{is_none, in_script, number_of}
use Rattle.records.specs.Events.{event_of, last_clock}
use Rattle.records.specs.Run.{run_from}
use Rattle.model_format.specs.declared.Model.{Model}
use Rattle.model_semantics.specs.declared.State.{State}
use Rattle.model_semantics.specs.declared.Stepped.{Stepped}
use Rattle.model_semantics.specs.State.{now_of}
use Rattle.model_semantics.specs.Tests.{is_busy}
use Rattle.model_semantics.specs.Effects.{tick}
use Rattle.model_semantics.specs.Machine.{start_state, attempt, ticks, step, machine_of, run_model}
use Rattle.model_semantics.specs.MachineLaws.{step_is}

-- the start, and what a taken event leaves of a state that is reached
pub data Reachable (m : Model) : State → Type 0 where
  begin : Reachable m (start_state m.timing)
  next : {s : State} → Reachable m s → (e : Event) → is_none (step m s e).answer ≡ true → Reachable m (step m s e).state

-- ---- the end of a run
module _ (m : Model) where
  from_reaches : (l : List (List ℕ)) (s : State) (k p : ℕ) → Reachable m s → Reachable m (run_from (machine_of m) s k p l).state
  unfolding run_from
  from_reaches [] s k p r = r
  from_reaches (x ∷ l) s k p r = go (is_none (step m s (event_of x)).answer) refl (λ e. from_reaches l (step m s (event_of x)).state (k + 1) (p + length x) (next r (event_of x) e))
    where
      go : (b : Bool) → is_none (step m s (event_of x)).answer ≡ b →
          (is_none (step m s (event_of x)).answer ≡ true → Reachable m (run_from (machine_of m) (step m s (event_of x)).state (k + 1) (p + length x) l).state) →
          Reachable m (cond b (run_from (machine_of m) (step m s (event_of x)).state (k + 1) (p + length x) l) (record { taken = k; refusal = in_script (step m s (event_of x)).answer p (p + length x); state = s })).state
      go true e f = f e
      go false e f = r

  pub run_reaches : (script : List ℕ) → Reachable m (run_model m script).state
  unfolding run_model
  run_reaches script = from_reaches (parts Script script) (start_state m.timing) 0 0 begin

-- ---- a refused event leaves the state as it was, so a loop that goes on after refusals reaches no other states
module _ (m : Model) (s : State) where
  abbrev Left : Stepped → Type 0
  Left r = is_none r.answer ≡ false → r.state ≡ s

  attempt_left : (b : Bool) (x : State) → Left (attempt b x s)
  unfolding number_of
  attempt_left true x e = absurd (true≢false e)
  attempt_left false x e = refl

  one_of_two : (b : Bool) (x y : Stepped) → Left x → Left y → Left (cond b x y)
  one_of_two true x y p q = p
  one_of_two false x y p q = q

  ticks_left : (n : ℕ) (r : State) → Left (ticks m.timing s n r)
  unfolding ticks number_of
  ticks_left zero r = λ e. absurd (true≢false e)
  ticks_left (suc n) r =
      one_of_two (is_busy m.timing r) _ _ (λ e. refl) (one_of_two (ltb (now_of r) last_clock) _ _ (ticks_left n (tick m.timing r)) (λ e. refl))

  step_left : (e : Event) → Left (step m s e)
  step_left e = step_is Left s attempt_left m e (λ q. refl) (ticks_left e.amount s)

  pub step_reaches : Reachable m s → (e : Event) → Reachable m (step m s e).state
  step_reaches r e = go (is_none (step m s e).answer) refl
    where
      go : (b : Bool) → is_none (step m s e).answer ≡ b → Reachable m (step m s e).state
      go true q = next r e q
      go false q = subst (Reachable m) (sym (step_left e q)) r
