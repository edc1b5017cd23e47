-- The same laws of what is written into a lent slice from a place on, for callers who prove over these and hold no writer.
use Rattle.std.specs.Prelude.{◌≡◌, Bool, true, false, cond, List, [], ◌∷◌, ℕ, length}
use Rattle.std.proofs.Common.{eq-eqb, ne_eqb}
use Rattle.records.specs.Events.{deactivate_kind}
use Rattle.model_format.specs.declared.Thread.{Thread}
use Rattle.model_format.specs.declared.Timing.{Timing}
use Rattle.model_format.specs.Model.{thread_at, is_critical}
use Rattle.model_semantics.specs.Tests.{waiting_dispatch, execution, runs}
use Rattle.table_writer.specs.Lists.{joins_updates, Counted}
use Rattle.table_writer.specs.WroteRules.{WroteUpdates, WroteRules}
use Rattle.translation.specs.Parts.{stamped}
use Rattle.translation.specs.Rules.{job_ends, deactivate_rule, stop_rules, deactivate_rules}
use Rattle.translate_waits.specs.NamedOverLists.{where_passed, where_failed}
use Rattle.translate_threads.specs.BodiesOverLists.{wrote_bodies}

-- ---- what is updated beside State
module _ (m : Timing) (t code : ℕ) {d : List ℕ} {at : ℕ} where
  pub left_running : {e : List ℕ} {p : ℕ} → code ≡ execution → WroteUpdates d at (job_ends m t) e p → WroteUpdates d at (cond (runs code) (job_ends m t) []) e p
  left_running h w = where_passed joins_updates (job_ends m t) (eq-eqb code execution h) w

  pub left_waiting : (code ≡ execution → ⊥) → Counted at → WroteUpdates d at (cond (runs code) (job_ends m t) []) d at
  left_waiting h k = where_failed joins_updates (job_ends m t) (ne_eqb code execution h) k

-- ---- all rules, after the first: x is thread t, b whether it is critical
module _ (m : Timing) (t : ℕ) {x : Thread} {b : Bool} (e : x ≡ thread_at m t) (h : b ≡ is_critical x) {d g : List ℕ} {at p : ℕ}
    (w : WroteRules d at (stamped deactivate_kind t (deactivate_rule m t waiting_dispatch ∷ [])) g p) where
  pub wrote_critical : b ≡ true → WroteRules d at (stamped deactivate_kind t (deactivate_rules m t)) g p
  unfolding deactivate_rules
  wrote_critical l = rw (← e, ← h, l) w

  pub wrote_stopped : {k : List ℕ} {q : ℕ} → b ≡ false → Counted (length d) → WroteRules g p (stamped deactivate_kind t (stop_rules m t)) k q →
      WroteRules d at (stamped deactivate_kind t (deactivate_rules m t)) k q
  unfolding deactivate_rules
  wrote_stopped l c v = rw (← e, ← h, l) (wrote_bodies _ _ _ _ c w (λ i. v))
