-- How many records the rules of each kind have, for one thread or one mode transition.
use Rattle.std.specs.Prelude.{◌≡◌, ◌&&◌, length}
use Rattle.std.proofs.Math.Path.{refl, ap}
use Rattle.std.proofs.Common.{◌∙◌, arith}
use Rattle.std.proofs.Math.Bool.{Bool, true, false, cond}
use mathlib.Core.List.{List, [], ◌∷◌}
use Prim.Native.Nat.{ℕ, zero, suc}
use Rattle.std.proofs.Math.ListN.{length-append}
use Rattle.std.proofs.Math.Dec.{eqb}
use Rattle.numbers.specs.Lists.{fold_below, join_below, only}
use Rattle.model_format.specs.declared.Timing.{Timing}
use Rattle.model_format.specs.declared.Behavior.{Behavior}
use Rattle.model_format.specs.declared.Model.{Model}
use Rattle.model_format.specs.Model.{thread_at, input_owner, connection_at, switch_at, transition_at, is_critical, immediate, delayed, is_kind, source_thread, target_thread}
use Rattle.table_format.specs.declared.Atom.{Atom}
use Rattle.table_format.specs.declared.Update.{Update}
use Rattle.translation_sizes.specs.Sums.{sum_below}
use Rattle.translation_sizes.specs.SumLaws.{length_join}
use Rattle.translation.specs.Parts.{Expression, Body}
use Rattle.translation.specs.Rules.{activate_rules, stop_rules, deactivate_rules, per_into, delayed_clause, is_immediate_port, per_input, dispatch_port, dispatch_rules, beside_clause, coming_clause, start_port, start_rules, guard_clauses, negated_guard, per_transition, earlier_clause, otherwise_clause, assignment_updates, old_output, sent_expression, send_update, send_updates, transition_rule, default_rule, complete_rules, deadline_rules, miss_rules, request_rules, active_updates, flag_updates, enter_rules, leave_rules}
use Rattle.translation_sizes.specs.declared.Counts.{Counts}
use Rattle.translation_sizes.specs.Counts.{counts, nothing, ◌and◌, count_below, atoms_in, clauses_counts, updates_counts, body_counts, bodies_counts}
use Rattle.translation_sizes.specs.CountLaws.{same_counts, same_sums, count_same, test_then, and_nothing, clauses_each, count_join, count_when, atoms_append, clauses_append, updates_append, bodies_append}
use Rattle.translation_sizes.specs.Items.{activate_own, stop_counts, deactivate_own, dispatch_own, start_own, default_own, deadline_own, miss_own, earlier_at, earlier_counts, transition_own, otherwise_own, request_own, enter_own, leave_own}

-- n of one each
ones : (n : ℕ) → sum_below n (λ i. 1) ≡ n
unfolding fold_below
ones zero = refl
ones (suc n) = omega (arith, ones n)

-- ---- threads
module _ (m : Timing) (t : ℕ) where
  pub activate_counts : bodies_counts (activate_rules m t) ≡ activate_own m t
  unfolding activate_rules bodies_counts atoms_in
  activate_counts = refl

  pub deactivate_counts : bodies_counts (deactivate_rules m t) ≡ deactivate_own m t
  unfolding deactivate_rules bodies_counts atoms_in
  deactivate_counts = stop_counts_lem (is_critical (thread_at m t))
    where
      stop_counts_lem : (critical : Bool) → counts 1 2 2 1 and bodies_counts (cond critical [] (stop_rules m t)) ≡ counts 1 2 2 1 and cond critical nothing stop_counts
      stop_counts_lem true = refl
      stop_counts_lem false = refl

  pub miss_counts : bodies_counts (miss_rules m t) ≡ miss_own m t
  unfolding miss_rules bodies_counts atoms_in
  miss_counts = refl

  -- connections into the thread, each with clauses f
  abbrev pub into_counts : ℕ → Counts → Counts
  into_counts kind x = count_below m.connections (λ c. cond (is_kind m kind c && eqb (target_thread m c) t) x nothing)

  into_counts_lem : (kind : ℕ) (f : ℕ → List (List Atom)) (x : Counts) → ((c : ℕ) → clauses_counts (f c) ≡ x) → clauses_counts (per_into m kind t f) ≡ into_counts kind x
  unfolding atoms_in
  into_counts_lem kind f x h =
      let into : ℕ → Bool = λ c. is_kind m kind c && eqb (target_thread m c) t in
      count_join clauses_counts refl clauses_append m.connections (λ c. cond (into c) (f c) []) ∙
      count_same m.connections (λ c. clauses_counts (cond (into c) (f c) [])) (λ c. cond (into c) x nothing)
      (λ c l. count_when clauses_counts refl clauses_append (into c) (f c) ∙ ap (λ (y : Counts). cond (into c) y nothing) (h c))

  -- ports of the thread, each with updates f
  abbrev pub port_counts : (ℕ → Counts) → Counts
  port_counts x = count_below m.inputs (λ i. cond (eqb (input_owner m i) t) (x i) nothing)

  port_counts_lem : (f : ℕ → List Update) (x : ℕ → Counts) → ((i : ℕ) → updates_counts (f i) ≡ x i) → updates_counts (per_input m t f) ≡ port_counts x
  port_counts_lem f x h =
      let own : ℕ → Bool = λ i. eqb (input_owner m i) t in
      count_join updates_counts refl updates_append m.inputs (λ i. cond (own i) (f i) []) ∙
      count_same m.inputs (λ i. updates_counts (cond (own i) (f i) [])) (λ i. cond (own i) (x i) nothing)
      (λ i l. count_when updates_counts refl updates_append (own i) (f i) ∙ ap (λ (y : Counts). cond (own i) y nothing) (h i))

  -- what the thread sends by connections of a kind
  abbrev pub send_counts : ℕ → Counts
  send_counts kind = count_below m.connections (λ c. cond (is_kind m kind c && eqb (source_thread m c) t) (counts 0 0 0 1) nothing)

  pub send_counts_lem : (kind : ℕ) (from : ℕ → Expression) → updates_counts (send_updates m kind t from) ≡ send_counts kind
  send_counts_lem kind from =
      let out : ℕ → Bool = λ c. is_kind m kind c && eqb (source_thread m c) t in
      let f : ℕ → List Update = λ c. send_update c (connection_at m c) from ∷ [] in
      count_join updates_counts refl updates_append m.connections (λ c. cond (out c) (f c) []) ∙
      count_same m.connections (λ c. updates_counts (cond (out c) (f c) [])) (λ c. cond (out c) (counts 0 0 0 1) nothing)
      (λ c l. count_when updates_counts refl updates_append (out c) (f c))

  pub dispatch_counts : bodies_counts (dispatch_rules m t) ≡ dispatch_own m t and into_counts delayed (counts 0 1 4 0) and port_counts (λ i. counts 0 0 0 1)
  unfolding dispatch_rules bodies_counts atoms_in
  dispatch_counts =
      rw (← into_counts_lem delayed (λ c. delayed_clause m c ∷ []) (counts 0 1 4 0) (λ c. refl), ← port_counts_lem (dispatch_port m) (λ i. counts 0 0 0 1) (λ i. refl))
      (same_counts (omega arith) (omega arith) (omega arith) (omega arith))

  pub start_counts : bodies_counts (start_rules m t) ≡ start_own m t and into_counts immediate (counts 0 2 9 0) and port_counts (λ i. cond (is_immediate_port m i) (counts 0 0 0 1) nothing)
  unfolding start_rules bodies_counts atoms_in
  start_counts =
      rw (
        ← into_counts_lem immediate (λ c. beside_clause m t c ∷ coming_clause m t c ∷ []) (counts 0 2 9 0) (λ c. refl),
        ← port_counts_lem (start_port m) (λ i. cond (is_immediate_port m i) (counts 0 0 0 1) nothing) (λ i. count_when updates_counts refl updates_append (is_immediate_port m i) _),
      )
      (same_counts (omega arith) (omega arith) (omega arith) (omega arith))

  pub deadline_counts : bodies_counts (deadline_rules m t) ≡ deadline_own m t and send_counts delayed and send_counts delayed
  unfolding deadline_rules bodies_counts atoms_in
  deadline_counts = rw (← send_counts_lem delayed old_output) (same_counts (omega arith) (omega arith) (omega arith) (omega arith))

-- ---- mode transitions
module _ (m : Timing) (q : ℕ) where
  pub request_counts : bodies_counts (request_rules m q) ≡ request_own m
  unfolding request_rules bodies_counts atoms_in
  request_counts = refl

  actives_length : (mode : ℕ) → length (active_updates m mode) ≡ m.threads
  actives_length mode = length_join m.threads _ ∙ ones m.threads

  flags_length : (old new : ℕ) → length (flag_updates m old new) ≡ m.connections
  flags_length old new = length_join m.connections _ ∙ ones m.connections

  pub enter_counts : bodies_counts (enter_rules m q) ≡ enter_own m
  unfolding enter_rules bodies_counts atoms_in
  enter_counts =
      let x = switch_at m q in
      same_counts refl refl refl
      (omega (arith, length-append (active_updates m x.to) (flag_updates m x.from x.to), actives_length x.to, flags_length x.from x.to))

  pub leave_counts : bodies_counts (leave_rules m q) ≡ leave_own m
  unfolding leave_rules bodies_counts atoms_in
  leave_counts = same_counts refl refl refl (omega (arith, flags_length (switch_at m q).to (switch_at m q).to))

-- ---- COMPLETE
module _ (b : Behavior) (k : ℕ) where
  guard_counts : clauses_counts (guard_clauses b k) ≡ counts 0 (transition_at b k).atoms (transition_at b k).atoms 0
  unfolding guard_clauses atoms_in
  guard_counts = count_join clauses_counts refl clauses_append (transition_at b k).atoms _ ∙ clauses_each (transition_at b k).atoms

  pub negated_length : length (negated_guard b k) ≡ (transition_at b k).atoms
  unfolding negated_guard
  negated_length = length_join (transition_at b k).atoms _ ∙ ones (transition_at b k).atoms

  assignments_length : length (assignment_updates b k (transition_at b k).assignments) ≡ (transition_at b k).assignments
  unfolding assignment_updates
  assignments_length = length_join (transition_at b k).assignments _ ∙ ones (transition_at b k).assignments

module _ (b : Behavior) (t : ℕ) where
  -- the transitions of the thread below n, each with clauses f
  per_counts : (n : ℕ) (f : ℕ → List (List Atom)) (x : ℕ → Counts) → ((k : ℕ) → clauses_counts (f k) ≡ x k) →
      clauses_counts (per_transition b t n f) ≡ count_below n (λ k. cond (eqb (transition_at b k).thread t) (x k) nothing)
  unfolding atoms_in
  per_counts n f x h =
      let own : ℕ → Bool = λ k. eqb (transition_at b k).thread t in
      count_join clauses_counts refl clauses_append n (λ k. cond (own k) (f k) []) ∙
      count_same n (λ k. clauses_counts (cond (own k) (f k) [])) (λ k. cond (own k) (x k) nothing)
      (λ k l. count_when clauses_counts refl clauses_append (own k) (f k) ∙ ap (λ (y : Counts). cond (own k) y nothing) (h k))

  earlier_one : (from e : ℕ) → clauses_counts (only (eqb (transition_at b e).from from) (negated_guard b e)) ≡ cond (eqb (transition_at b e).from from) (counts 0 1 (transition_at b e).atoms 0) nothing
  unfolding atoms_in
  earlier_one from e =
      count_when clauses_counts refl clauses_append (eqb (transition_at b e).from from) (negated_guard b e ∷ []) ∙
      ap (λ (y : Counts). cond (eqb (transition_at b e).from from) y nothing) (same_counts refl refl (omega (arith, negated_length b e)) refl)

  earlier_counts_lem : (k : ℕ) → clauses_counts (per_transition b t k (earlier_clause b k)) ≡ earlier_counts b t (transition_at b k).from k
  unfolding earlier_counts earlier_at
  earlier_counts_lem k =
      let from = (transition_at b k).from in
      per_counts k (earlier_clause b k) (λ e. cond (eqb (transition_at b e).from from) (counts 0 1 (transition_at b e).atoms 0) nothing) (earlier_one from) ∙
      count_same k _ (earlier_at b t from) (λ e l. test_then (eqb (transition_at b e).thread t) (eqb (transition_at b e).from from) (counts 0 1 (transition_at b e).atoms 0))

  abbrev pub otherwise_counts : Counts
  otherwise_counts = count_below b.transitions (λ k. cond (eqb (transition_at b k).thread t) (otherwise_own (transition_at b k).atoms) nothing)

  otherwise_counts_lem : clauses_counts (per_transition b t b.transitions (otherwise_clause b t)) ≡ otherwise_counts
  unfolding atoms_in
  otherwise_counts_lem =
      per_counts b.transitions (otherwise_clause b t) (λ k. otherwise_own (transition_at b k).atoms) (λ k. same_counts refl refl (omega (arith, negated_length b k)) refl)

module _ (m : Model) (t : ℕ) where
  abbrev pub rule_counts : ℕ → Counts
  rule_counts k =
      let x = transition_at m.behavior k in
      transition_own x.atoms x.assignments and earlier_counts m.behavior t x.from k and send_counts m.timing t immediate

  transition_counts_lem : (k : ℕ) → body_counts (transition_rule m t k) ≡ rule_counts k
  unfolding transition_rule atoms_in
  transition_counts_lem k =
      let b = m.behavior in
      let n = (transition_at b k).assignments in
      let sent = send_updates m.timing immediate t (sent_expression b k n) in
      let earlier = per_transition b t k (earlier_clause b k) in
      rw (← earlier_counts_lem b t k, ← send_counts_lem m.timing t immediate (sent_expression b k n))
      (same_counts refl
      (omega (arith, length-append (guard_clauses b k) earlier, ap (λ (x : Counts). x.clauses) (guard_counts b k)))
      (omega (arith, atoms_append (guard_clauses b k) earlier, ap (λ (x : Counts). x.atoms) (guard_counts b k)))
      (omega (arith, length-append (assignment_updates b k n) sent, assignments_length b k)))

  default_counts : body_counts (default_rule m t) ≡ default_own m.timing t and otherwise_counts m.behavior t and send_counts m.timing t immediate
  unfolding default_rule atoms_in
  default_counts =
      rw (← otherwise_counts_lem m.behavior t, ← send_counts_lem m.timing t immediate old_output)
      (same_counts (omega arith) (omega arith) (omega arith) (omega arith))

  pub complete_counts : bodies_counts (complete_rules m t) ≡ count_below m.behavior.transitions (λ k. cond (eqb (transition_at m.behavior k).thread t) (rule_counts k) nothing) and
      default_own m.timing t and otherwise_counts m.behavior t and send_counts m.timing t immediate
  unfolding complete_rules bodies_counts
  complete_counts =
      let b = m.behavior in
      let n = b.transitions in
      let own : ℕ → Bool = λ k. eqb (transition_at b k).thread t in
      let mine : ℕ → List Body = λ k. cond (own k) (transition_rule m t k ∷ []) [] in
      let one : (k : ℕ) → bodies_counts (mine k) ≡ cond (own k) (rule_counts k) nothing = λ k. count_when bodies_counts refl bodies_append (own k) (transition_rule m t k ∷ []) ∙
      ap (λ (y : Counts). cond (own k) y nothing) (and_nothing (body_counts (transition_rule m t k)) ∙ transition_counts_lem k) in
      bodies_append (join_below n mine) (default_rule m t ∷ []) ∙
      same_sums (count_join bodies_counts refl bodies_append n mine ∙ count_same n (λ k. bodies_counts (mine k)) (λ k. cond (own k) (rule_counts k) nothing) (λ k l. one k))
      (and_nothing (body_counts (default_rule m t)) ∙ default_counts)
