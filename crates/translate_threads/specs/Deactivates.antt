-- Laws of the rules of DEACTIVATE, as they are written.
use Rattle.std.specs.Prelude.{◌≡◌, Bool, true, false, cond, List, [], ◌∷◌, ℕ}
use Rattle.std.proofs.Common.{eq-eqb, ne_eqb}
use Rattle.records.specs.Events.{deactivate_kind}
use Rattle.model_format.specs.declared.Thread.{Thread}
use Rattle.model_format.specs.declared.Timing.{Timing}
use Rattle.model_format.specs.Model.{thread_at, is_critical}
use Rattle.model_semantics.specs.Tests.{waiting_dispatch, execution, runs}
use Rattle.table_writer.specs.Lists.{joins_updates}
use Rattle.table_writer.specs.Writes.{WritesUpdates, WritesRules}
use Rattle.table_writer.specs.declared.encoding.Writer.{Writer}
use Rattle.translation.specs.Parts.{stamped}
use Rattle.translation.specs.Rules.{job_ends, deactivate_rule, stop_rules, deactivate_rules}
use Rattle.translate_waits.specs.Named.{where_passed, where_failed}
use Rattle.translate_threads.specs.Bodies.{wrote_bodies}

-- ---- what is updated beside State
module _ (m : Timing) (t code : ℕ) {u : Writer} where
  pub left_running : {v : Writer} → code ≡ execution → WritesUpdates u (job_ends m t) v → WritesUpdates u (cond (runs code) (job_ends m t) []) v
  left_running h w = where_passed joins_updates (job_ends m t) (eq-eqb code execution h) w

  pub left_waiting : (code ≡ execution → ⊥) → WritesUpdates u (cond (runs code) (job_ends m t) []) u
  left_waiting h = where_failed joins_updates (job_ends m t) (ne_eqb code execution h)

-- ---- all rules, after the first: x is thread t, b whether it is critical
module _ (m : Timing) (t : ℕ) {x : Thread} {b : Bool} (e : x ≡ thread_at m t) (h : b ≡ is_critical x) {u v : Writer}
    (w : WritesRules u (stamped deactivate_kind t (deactivate_rule m t waiting_dispatch ∷ [])) v) where
  pub wrote_critical : b ≡ true → WritesRules u (stamped deactivate_kind t (deactivate_rules m t)) v
  unfolding deactivate_rules
  wrote_critical l = rw (← e, ← h, l) w

  pub wrote_stopped : {z : Writer} → b ≡ false → WritesRules v (stamped deactivate_kind t (stop_rules m t)) z →
      WritesRules u (stamped deactivate_kind t (deactivate_rules m t)) z
  unfolding deactivate_rules
  wrote_stopped l y = rw (← e, ← h, l) (wrote_bodies _ _ _ _ w y)
