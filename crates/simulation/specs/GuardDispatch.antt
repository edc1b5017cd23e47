-- The guard of DISPATCH: its clauses run over the delayed connections into the thread.
use Rattle.std.specs.Prelude.{◌≡◌, refl, Bool, cond, ◌&&◌, ◌||◌, not, List, [], ◌∷◌, ℕ, zero, suc, ◌<◌, ◌≤◌, eqb}
use Rattle.std.proofs.Common.{ap, ◌∙◌, arith}
use Rattle.std.proofs.Math.Bool.{and-true, or-false}
use Rattle.numbers.specs.declared.Value.{Value}
use Rattle.model_format.specs.declared.Timing.{Timing}
use Rattle.model_format.specs.Model.{max_threads, max_connections, thread_at, delayed, is_kind, source_thread, target_thread}
use Rattle.model_format.specs.WellFormed.{GoodTiming}
use Rattle.model_semantics.specs.declared.State.{State}
use Rattle.model_semantics.specs.State.{is_active, code_of, is_live, now_of}
use Rattle.model_semantics.specs.Tests.{is_unfinished, has_job, is_due, feeds, awaits_delayed, can_dispatch, waiting_dispatch}
use Rattle.table_format.specs.Variables.{now_var, active_var, state_var, due_var, flag_var}
use Rattle.table_semantics.specs.Rules.{clause_holds, all_hold}
use Rattle.translation.specs.Shown.{bit}
use Rattle.translation.specs.Rules.{per_into, delayed_clause, dispatch_rules}
use Rattle.simulation.specs.Compared.{Dispatched}
use Rattle.simulation.specs.Match.{Match}
use Rattle.simulation.specs.Groups.{enabled_bodies}
use Rattle.simulation.specs.Guards.{bit_zero, bit_one, equals_constant, differs_is_not, multiple_of_constant, all_but, into, due_known}

-- Due is known of a job in hand only: x is what the table tests, y what is meant
without_job : (k : ℕ) (x y : Bool) → (2 ≤ k → x ≡ y) → k ≤ 4 → (eqb k 0 || (eqb k 1 || not x)) ≡ not (has_job k && y)
unfolding has_job is_unfinished
without_job zero x y e b = refl
without_job (suc zero) x y e b = refl
without_job (suc (suc zero)) x y e b = ap not (e (omega arith))
without_job (suc (suc (suc zero))) x y e b = ap not (e (omega arith))
without_job (suc (suc (suc (suc zero)))) x y e b = ap not (e (omega arith))
without_job (suc (suc (suc (suc (suc k))))) x y e b = absurd (omega arith)

module _ (m : Timing) (d : Dispatched) (s : State) (v : List Value) (g : GoodTiming m) (h : Match m d s v) where
  delayed_clause_lem : (c : ℕ) → c < m.connections →
      clause_holds v (delayed_clause m c) ≡ (not (is_live s c) || not (has_job (code_of s (source_thread m c)) && is_due m s (source_thread m c)))
  unfolding clause_holds
  delayed_clause_lem c b =
      let n : m.connections ≤ max_connections = g.connections in
      let k : m.threads ≤ max_threads = g.threads in
      let u : source_thread m c < m.threads = g.output _ (g.source c b) in
      simp (
        equals_constant v (flag_var c) (bit (is_live s c)) (h.flag c (omega arith)) 0,
        equals_constant v (state_var (source_thread m c)) (code_of s (source_thread m c)) (h.code (source_thread m c) (omega arith)) 0,
        equals_constant v (state_var (source_thread m c)) (code_of s (source_thread m c)) (h.code (source_thread m c) (omega arith)) 1,
        differs_is_not v (due_var (source_thread m c)) now_var,
        bit_zero (is_live s c),
        or-false,
        without_job (code_of s (source_thread m c)) _ _ (due_known m d s v h (source_thread m c) u) (h.reached.codes (source_thread m c)),
      )

  delayed_clauses : (t : ℕ) → all_hold v (per_into m delayed t (λ c. delayed_clause m c ∷ [])) ≡ not (awaits_delayed m s t)
  unfolding awaits_delayed feeds all_hold
  delayed_clauses t =
      all_but v m.connections _ _ (λ c b. into v (is_kind m delayed c) (eqb (target_thread m c) t) (is_live s c) _ _ (and-true _ ∙ delayed_clause_lem c b))

  pub dispatch_enabled : (t : ℕ) → t < m.threads → enabled_bodies v (dispatch_rules m t) ≡ cond (can_dispatch m s t) (dispatch_rules m t) []
  unfolding dispatch_rules can_dispatch enabled_bodies all_hold clause_holds
  dispatch_enabled t l =
      let k : m.threads ≤ max_threads = g.threads in
      simp (
        equals_constant v (state_var t) (code_of s t) (h.code t (omega arith)) waiting_dispatch,
        equals_constant v (active_var t) (bit (is_active s t)) (h.active t (omega arith)) 1,
        multiple_of_constant v now_var (now_of s) h.now (thread_at m t).period.0,
        delayed_clauses t,
        bit_one (is_active s t),
        or-false,
      )
