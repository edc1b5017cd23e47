-- A made table never answers 12 or 13: the model, whose answers it gives, has no such refusal.
use Rattle.std.proofs.Common.{subst, arith}
use Rattle.std.specs.Prelude.{Bool, true, false, cond, List, [], ◌∷◌, ℕ, zero, suc, ◌+◌, ◌<◌, length, ltb}
use Rattle.records.specs.declared.Event.{Event}
use Rattle.records.specs.declared.Cause.{Cause}
use Rattle.records.specs.declared.Cause.TheVariants.{ConflictingRules}
use Rattle.records.specs.Refusals.{number_of}
use Rattle.records.specs.Events.{event_of, last_clock}
use Rattle.records.specs.declared.Notation.TheVariants.{Script}
use Rattle.records.specs.Format.{parts}
use Rattle.records.specs.Run.{Stage, stages_from}
use Rattle.model_format.specs.declared.Timing.{Timing}
use Rattle.model_format.specs.declared.Model.{Model}
use Rattle.model_semantics.specs.declared.State.{State}
use Rattle.model_semantics.specs.declared.Stepped.{Stepped}
use Rattle.model_semantics.specs.State.{now_of}
use Rattle.model_semantics.specs.Tests.{is_busy}
use Rattle.model_semantics.specs.Effects.{tick}
use Rattle.model_semantics.specs.Machine.{attempt, ticks, step, start_state, machine_of, model_stages}
use Rattle.model_semantics.specs.MachineLaws.{step_is}
use Rattle.table_semantics.specs.declared.Variables.{Variables}
use Rattle.table_semantics.specs.Machine.{table_stages}
use Rattle.table_format.specs.All.{All}
use Rattle.model_format.specs.WellFormed.{WellFormed}
use Rattle.translation.specs.Translate.{table_bytes}
use Rattle.simulation.specs.Simulation.{demand_3}
use Rattle.simulation.specs.Compared.{Dispatched, none_yet, and_after, Lockstep, Demand3}

-- neither 12 nor 13, nor any number past them
abbrev pub NoConflict : Cause → Type 0
NoConflict c = number_of c < number_of ConflictingRules

fine : (c : Bool) (r q : Stepped) → NoConflict r.answer → NoConflict q.answer → NoConflict (cond c r q).answer
fine true r q x y = x
fine false r q x y = y

ticks_fine : (m : Timing) (s₀ : State) (n : ℕ) (s : State) → NoConflict (ticks m s₀ n s).answer
unfolding ticks number_of
ticks_fine m s₀ zero s = omega arith
ticks_fine m s₀ (suc n) s =
    fine (is_busy m s) _ _ (omega arith) (fine (ltb (now_of s) last_clock) _ _ (ticks_fine m s₀ n (tick m s)) (omega arith))

attempt_fine : (b : Bool) (x s : State) → NoConflict (attempt b x s).answer
unfolding number_of
attempt_fine b x s = fine b _ _ (omega arith) (omega arith)

pub step_fine : (m : Model) (s : State) (e : Event) → NoConflict (step m s e).answer
unfolding number_of
step_fine m s e = step_is (λ r. NoConflict r.answer) s (λ b x. attempt_fine b x s) m e (omega arith) (ticks_fine m.timing s e.amount s)

stages_fine : (m : Model) (l : List (List ℕ)) (s : State) (p : ℕ) → All (λ x. NoConflict x.answer) (stages_from (machine_of m) s p l)
unfolding stages_from
stages_fine m [] s p = tt
stages_fine m (x ∷ l) s p = (step_fine m s (event_of x), stages_fine m l (step m s (event_of x)).state (p + length x))

-- stages in lockstep have the same answers
same_answers : (P : Cause → Type 0) (m : Timing) (d : Dispatched) (l : List (Stage State)) (r : List (Stage Variables)) → Lockstep m d l r → All (λ x. P x.answer) l → All (λ y. P y.answer) r
unfolding Lockstep
same_answers P m d [] [] h a = tt
same_answers P m d [] (y ∷ r) h a = absurd h
same_answers P m d (x ∷ l) [] h a = absurd h
same_answers P m d (x ∷ l) (y ∷ r) h a = (subst P h.0.answer a.0, same_answers P m (and_after d x.event x.answer) l r h.1 a.1)

-- a table that demand 3 holds of never answers 12 or 13, whatever the events and also after refusals
pub never_conflicts : (m : Model) (script table : List ℕ) → Demand3 m script table → All (λ x. NoConflict x.answer) (table_stages table script)
never_conflicts m script table h =
    let fine-stages : All (λ x. NoConflict x.answer) (model_stages m script) = unfold model_stages in (stages_fine m (parts Script script) (start_state m.timing) 0) in
    same_answers NoConflict m.timing none_yet (model_stages m script) (table_stages table script) h.lockstep fine-stages

-- so the table made from an accepted model
pub made_never_conflicts : (m : Model) → WellFormed m → (script : List ℕ) → All (λ x. NoConflict x.answer) (table_stages (table_bytes m) script)
made_never_conflicts m w script = never_conflicts m script (table_bytes m) (demand_3 m w script)
