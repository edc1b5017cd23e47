-- DEACTIVATE: a thread without a job only changes its code; a job in hand ends, and one that ran leaves the processor.
use Rattle.std.specs.Prelude.{◌≡◌, refl, Bool, cond, ℕ, ◌<◌, ◌≤◌}
use Rattle.std.proofs.Common.{◌∙◌, arith}
use Rattle.std.proofs.Math.Bool.{true, false}
use mathlib.Core.List.{List, [], ◌∷◌}
use Rattle.numbers.specs.declared.Value.{Value}
use Rattle.numbers.specs.Values.{natural}
use Rattle.model_format.specs.declared.Timing.{Timing}
use Rattle.model_format.specs.Model.{max_threads}
use Rattle.model_format.specs.WellFormed.{GoodTiming}
use Rattle.model_semantics.specs.declared.State.{State}
use Rattle.model_semantics.specs.State.{none, code_of, behavior_of, missed_of, now_of, with_cpu, with_code, with_job}
use Rattle.model_semantics.specs.Tests.{waiting_mode, runs}
use Rattle.model_semantics.specs.Effects.{end_job, deactivate}
use Rattle.model_semantics.specs.DeactivateLaws.{deactivated, idle_still}
use Rattle.table_format.specs.declared.Update.{Update}
use Rattle.table_format.specs.Variables.{variables, cpu_var, state_var, end_var, behavior_var, missed_var}
use Rattle.table_semantics.specs.Rules.{value_of}
use Rattle.translation.specs.Parts.{constant, copied, set_to}
use Rattle.translation.specs.Rules.{job_ends, deactivate_rule}
use Rattle.simulation.specs.Compared.{Dispatched}
use Rattle.simulation.specs.Match.{Match}
use Rattle.simulation.specs.Writes.{value_written, updated_here, updated_there, constant_worth, Misses, Apart}
use Rattle.simulation.specs.Effects.{Does, InParts, JobShown, job_of, same, in_parts, afterwards, kept, ports_kept}
use Rattle.simulation.specs.EffectEnd.{ends_does}
use Rattle.simulation.specs.EffectSimple.{plain_code_does}

module _ (m : Timing) (g : GoodTiming m) (d : Dispatched) (s : State) (v : List Value) (h : InParts m d s v) (n t : ℕ) (l : t < m.threads) where
  -- the rest of the updates leaves cpu in the processor's variable and touches End besides
  module _ (cpu : ℕ) (rest : List Update) (frees : (j : ℕ) → (j ≡ cpu_var → ⊥) × (j ≡ end_var t → ⊥) → Misses j rest) (apart : Apart rest)
      (shows : value_of (afterwards n v (set_to (state_var t) waiting_mode ∷ rest)) cpu_var ≡ natural cpu) where
    abbrev changes : List Update
    changes = set_to (state_var t) waiting_mode ∷ rest

    left_kept : (j : ℕ) → j < variables → (j ≡ state_var t → ⊥) × (j ≡ cpu_var → ⊥) × (j ≡ end_var t → ⊥) → value_of (afterwards n v changes) j ≡ value_of v j
    unfolding Misses
    left_kept j b a = kept n v changes h.size j b (a.0, frees j (a.1, a.2))

    left_does : Does m d (with_job (with_code (with_cpu m s t cpu) t waiting_mode) t 0 0) n v changes
    unfolding with_job with_code with_cpu behavior_of missed_of Misses Apart
    left_does =
        let few : m.threads ≤ max_threads = g.threads in
        let x : JobShown m (d t) (now_of s) (job_of s t) v t = h.jobs t (omega arith) in
        ends_does m g d s v h n t l waiting_mode cpu (behavior_of s t) (missed_of s t) s.threads.behavior s.threads.missed s.ports changes (record {
          stopped = λ e. omega arith;
          known = omega arith;
          begun = λ e. absurd (omega arith);
          before = λ e. absurd (omega arith);
          counted = x.reached.missed;
          states = same;
          state = refl;
          counts = same;
          counter = refl;
          apart = (frees (state_var t) (omega arith), apart);
          misses = λ j b q. (q.0, frees j (q.1, q.2));
          code_shown = value_written n v changes v (state_var t) h.size (omega arith) ∙
              (updated_here n v (state_var t) (copied (constant waiting_mode)) rest _ (frees (state_var t) (omega arith)) ∙ constant_worth n v waiting_mode);
          cpu_shown = shows;
          behavior_shown = left_kept (behavior_var t) (omega arith) (omega arith) ∙ x.behavior;
          missed_shown = left_kept (missed_var t) (omega arith) (omega arith) ∙ x.missed;
          ports = ports_kept h.ports (λ j a b. left_kept j b (omega arith));
        })

  stop_does : (ran : Bool) → Does m d (with_job (with_code (cond ran (with_cpu m s t none) s) t waiting_mode) t 0 0) n v (set_to (state_var t) waiting_mode ∷ cond ran (job_ends m t) [])
  unfolding with_job with_code with_cpu Misses Apart
  stop_does true =
      let us = set_to (state_var t) waiting_mode ∷ job_ends m t in
      left_does none (job_ends m t) (λ j z. (z.0, (z.1, tt))) (omega arith)
      (value_written n v us v cpu_var h.size (omega arith) ∙
      (updated_there n v cpu_var (set_to (state_var t) waiting_mode) (job_ends m t) _ (λ e. omega arith) ∙
      (updated_here n v cpu_var (copied (constant none)) (set_to (end_var t) 0 ∷ []) _ (omega arith) ∙ constant_worth n v none)))
  stop_does false =
      left_does s.clock.cpu [] (λ j z. tt) tt (kept n v (set_to (state_var t) waiting_mode ∷ []) h.size cpu_var (omega arith) (omega arith) ∙ h.clock.cpu)

pub deactivate_does : (m : Timing) (g : GoodTiming m) (d : Dispatched) (s : State) (v : List Value) (h : Match m d s v) (n t : ℕ) → t < m.threads →
    Does m d (deactivate m s t) n v (deactivate_rule m t (code_of s t)).updates
unfolding end_job
deactivate_does m g d s v h n t l =
    deactivated (λ (x : State). Does m d x n v (deactivate_rule m t (code_of s t)).updates) m s t (λ j. stop_does m g d s v (in_parts m d s v h) n t l (runs (code_of s t)))
    (λ j. rw (idle_still (code_of s t) j) (plain_code_does m g d s v (in_parts m d s v h) n t l waiting_mode (omega arith)))
