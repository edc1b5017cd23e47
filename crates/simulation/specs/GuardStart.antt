-- The guard of START: two clauses for each immediate connection into the thread. The length is no clause: a rule has its bounds beside.
use Rattle.std.specs.Prelude.{◌≡◌, refl, Bool, true, false, cond, ◌&&◌, ◌||◌, List, [], ◌∷◌, ℕ, zero, suc, ◌<◌, ◌≤◌, ltb, leb}
use Rattle.std.proofs.Common.{◌∙◌, arith, ne_eqb, lt-ltb, le-ltb, le-leb}
use Rattle.std.proofs.Math.Bool.{not, and-true, or-false}
use Rattle.std.proofs.Math.Dec.{eqb}
use Rattle.numbers.specs.declared.Value.{Value}
use Rattle.model_format.specs.declared.Timing.{Timing}
use Rattle.model_format.specs.Model.{max_threads, max_connections, thread_at, immediate, is_kind, source_thread, target_thread}
use Rattle.model_format.specs.WellFormed.{GoodTiming}
use Rattle.model_semantics.specs.declared.State.{State}
use Rattle.model_semantics.specs.State.{none, is_active, code_of, dispatch_time, is_live, now_of, cpu_for}
use Rattle.model_semantics.specs.Tests.{waiting_execution, is_waiting, is_unfinished, is_due, is_periodic, feeds, runs_beside, comes_beside, awaits_immediate, is_free, is_allowed, can_start, start_enabled, completed, last_code}
use Rattle.model_semantics.specs.StartLaws.{start_sentence}
use Rattle.table_format.specs.Variables.{now_var, cpu_var, active_var, state_var, dispatch_var, due_var, flag_var}
use Rattle.table_semantics.specs.Rules.{clause_holds, all_hold}
use Rattle.translation.specs.Shown.{bit}
use Rattle.translation.specs.Rules.{per_into, beside_clause, coming_clause, start_rules}
use Rattle.simulation.specs.Compared.{Dispatched}
use Rattle.simulation.specs.Match.{Match}
use Rattle.simulation.specs.Groups.{enabled_bodies}
use Rattle.simulation.specs.Guards.{bit_zero, equals_constant, below_constant, at_least_constant, differs_variable, differs_is_not, no_multiple_of_constant, all_but, into, due_test, with_code, due_known}

-- START's test but for the length
unfoldable pub may_start : Timing → State → ℕ → Bool
may_start m s t =
    eqb (code_of s t) waiting_execution && (not (is_due m s t) && (eqb (cpu_for m s t) none && not (awaits_immediate m s t)))

pub start_test : (m : Timing) (s : State) (t n : ℕ) →
    can_start m s t n ≡ (ltb t m.threads && (may_start m s t && (leb (thread_at m t).bcet.0 n && leb n (thread_at m t).wcet.0)))
unfolding start_enabled may_start
start_test m s t n =
    start_sentence m s t n ∙
    go (ltb t m.threads) (eqb (code_of s t) waiting_execution) (is_free m s t) (is_due m s t) (is_allowed m t n) (awaits_immediate m s t)
  where
    go : (a b f d x w : Bool) → (a && (b && (f && (not d && (x && not w))))) ≡ (a && ((b && (not d && (f && not w))) && x))
    go false b f d x w = refl
    go true false f d x w = refl
    go true true false true x w = refl
    go true true false false x w = refl
    go true true true true x w = refl
    go true true true false true true = refl
    go true true true false true false = refl
    go true true true false false true = refl
    go true true true false false false = refl

-- "START counts with any allowed length", so with the shortest
pub start_shortest : (m : Timing) (s : State) (t : ℕ) → GoodTiming m → t < m.threads → can_start m s t (thread_at m t).bcet.0 ≡ may_start m s t
start_shortest m s t g l =
    start_test m s t (thread_at m t).bcet.0 ∙
    rw (lt-ltb t m.threads l, le-leb (thread_at m t).bcet.0 (thread_at m t).bcet.0 (omega arith), le-leb (thread_at m t).bcet.0 (thread_at m t).wcet.0 (g.thread t l).wcet)
    (and-true (may_start m s t))

-- ---- clauses
finished : (k : ℕ) (x : Bool) → k ≤ last_code → (ltb k waiting_execution || (eqb k completed || not x)) ≡ not (is_unfinished k && x)
unfolding is_unfinished
finished zero x b = refl
finished (suc zero) x b = refl
finished (suc (suc zero)) x b = refl
finished (suc (suc (suc zero))) x b = refl
finished (suc (suc (suc (suc zero)))) x b = refl
finished (suc (suc (suc (suc (suc k))))) x b = absurd (omega arith)

waiting : (k : ℕ) → ltb k waiting_execution ≡ is_waiting k
unfolding is_waiting
waiting zero = refl
waiting (suc zero) = refl
waiting (suc (suc k)) =
    rw (le-ltb (suc (suc k)) 2 (omega arith), ne_eqb (suc (suc k)) 0 (λ e. omega arith), ne_eqb (suc (suc k)) 1 (λ e. omega arith))

not_all : (a b c e : Bool) → (not a || (not b || (not c || not e))) ≡ not (c && (a && (b && e)))
not_all true true true e = refl
not_all true true false e = refl
not_all true false true e = refl
not_all true false false e = refl
not_all false b true e = refl
not_all false b false e = refl

two : (f a b : Bool) → ((not f || not a) && ((not f || not b) && true)) ≡ (not f || not (a || b))
two true true b = refl
two true false b = and-true (not b)
two false a b = refl

swapped : (a b c : Bool) → (a && (b && c)) ≡ (b && (a && c))
swapped true true c = refl
swapped true false c = refl
swapped false true c = refl
swapped false false c = refl

module _ (m : Timing) (d : Dispatched) (s : State) (v : List Value) (g : GoodTiming m) (h : Match m d s v) (t : ℕ) (l : t < m.threads) where
  beside_clause_lem : (c : ℕ) → c < m.connections → clause_holds v (beside_clause m t c) ≡ (not (is_live s c) || not (runs_beside s (source_thread m c) t))
  unfolding clause_holds runs_beside
  beside_clause_lem c b =
      let n : m.connections ≤ max_connections = g.connections in
      let k : m.threads ≤ max_threads = g.threads in
      let u : source_thread m c < m.threads = g.output _ (g.source c b) in
      let code = h.code (source_thread m c) (omega arith) in
      simp (
        equals_constant v (flag_var c) (bit (is_live s c)) (h.flag c (omega arith)) 0,
        below_constant v (state_var (source_thread m c)) (code_of s (source_thread m c)) code waiting_execution,
        equals_constant v (state_var (source_thread m c)) (code_of s (source_thread m c)) code completed,
        differs_variable v (dispatch_var (source_thread m c)) (dispatch_time s (source_thread m c)) (h.dispatched (source_thread m c) (omega arith)) (dispatch_var t) (dispatch_time s t)
            (h.dispatched t (omega arith)),
        bit_zero (is_live s c),
        or-false,
        finished (code_of s (source_thread m c)) (eqb (dispatch_time s (source_thread m c)) (dispatch_time s t)) (h.reached.codes (source_thread m c)),
      )

  coming_clause_lem : (c : ℕ) → c < m.connections → clause_holds v (coming_clause m t c) ≡ (not (is_live s c) || not (comes_beside m s (source_thread m c) t))
  unfolding clause_holds comes_beside
  coming_clause_lem c b =
      let n : m.connections ≤ max_connections = g.connections in
      let k : m.threads ≤ max_threads = g.threads in
      let u : source_thread m c < m.threads = g.output _ (g.source c b) in
      simp (
        equals_constant v (flag_var c) (bit (is_live s c)) (h.flag c (omega arith)) 0,
        equals_constant v (active_var (source_thread m c)) (bit (is_active s (source_thread m c))) (h.active (source_thread m c) (omega arith)) 0,
        at_least_constant v (state_var (source_thread m c)) (code_of s (source_thread m c)) (h.code (source_thread m c) (omega arith)) waiting_execution,
        differs_variable v (dispatch_var t) (dispatch_time s t) (h.dispatched t (omega arith)) now_var (now_of s) h.now,
        no_multiple_of_constant v now_var (now_of s) h.now (thread_at m (source_thread m c)).period.0,
        bit_zero (is_live s c),
        bit_zero (is_active s (source_thread m c)),
        waiting (code_of s (source_thread m c)),
        or-false,
        not_all (is_active s (source_thread m c)) (is_waiting (code_of s (source_thread m c))) (eqb (dispatch_time s t) (now_of s)) (is_periodic m s (source_thread m c)),
      )

  immediate_clauses : all_hold v (per_into m immediate t (λ c. beside_clause m t c ∷ coming_clause m t c ∷ [])) ≡ not (awaits_immediate m s t)
  unfolding awaits_immediate feeds all_hold
  immediate_clauses =
      all_but v m.connections _ _ (λ c b.
      into v (is_kind m immediate c) (eqb (target_thread m c) t) (is_live s c) _ _
      (rw (beside_clause_lem c b, coming_clause_lem c b) (two (is_live s c) (runs_beside s (source_thread m c) t) (comes_beside m s (source_thread m c) t))))

  pub start_enabled_lem : enabled_bodies v (start_rules m t) ≡ cond (may_start m s t) (start_rules m t) []
  unfolding start_rules may_start enabled_bodies all_hold clause_holds
  start_enabled_lem =
      let k : m.threads ≤ max_threads = g.threads in
      simp (
        equals_constant v (state_var t) (code_of s t) (h.code t (omega arith)) waiting_execution,
        equals_constant v cpu_var s.clock.cpu h.cpu none,
        differs_is_not v (due_var t) now_var,
        immediate_clauses,
        or-false,
        with_code (code_of s t) waiting_execution (λ b. eqb s.clock.cpu none && (not b && not (awaits_immediate m s t))) (due_test v t) (is_due m s t) (λ e. due_known m d s v h t l (omega arith)),
        swapped (eqb s.clock.cpu none) (not (is_due m s t)) (not (awaits_immediate m s t)),
      )
