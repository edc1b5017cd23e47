-- The records of a model's rules are those that its items add.
use Rattle.std.specs.Prelude.{◌≡◌, Bool, true, false, ◌&&◌, List, [], ◌∷◌, ◌++◌, eqb}
use Rattle.std.proofs.Math.Path.{refl, sym}
use Rattle.std.proofs.Common.{◌∙◌, arith}
use Rattle.std.proofs.Math.Bool.{cond}
use Prim.Native.Nat.{ℕ, zero, suc, ◌<◌}
use borrow.Author.Tests.{ne_eqb}
use Rattle.numbers.specs.Lists.{join_below}
use Rattle.model_format.specs.declared.Timing.{Timing}
use Rattle.model_format.specs.declared.Model.{Model}
use Rattle.model_format.specs.Model.{input_owner, connection_at, transition_at, immediate, delayed, is_kind, source_thread, target_thread}
use Rattle.model_format.specs.WellFormed.{GoodTiming, WellFormed}
use Rattle.table_format.specs.RuleKinds.{is_one_of}
use Rattle.table_format.specs.Table.{Rule}
use Rattle.translation.specs.Parts.{stamped, Group, rules_of_groups}
use Rattle.translation.specs.Rules.{is_immediate_port, activate_rules, deactivate_rules, dispatch_rules, start_rules, complete_rules, deadline_rules, miss_rules, request_rules, enter_rules, leave_rules, items_of, timing_rules, rules_for, groups_for, groups_of, rules_of}
use Rattle.translation_sizes.specs.declared.Counts.{Counts}
use Rattle.translation_sizes.specs.Counts.{counts, nothing, ◌and◌, count_below, rules_counts, bodies_counts}
use Rattle.translation_sizes.specs.CountLaws.{same_counts, same_sums, and_assoc, nothing_and, count_plus, count_same, count_rows, both_tests, count_join, stamped_counts}
use Rattle.translation_sizes.specs.Items.{activate_own, deactivate_own, dispatch_own, start_own, default_own, deadline_own, miss_own, thread_counts, connection_counts, delayed_counts, immediate_counts, input_counts, earlier_counts, sent_at, sent_counts, transition_own, otherwise_own, transition_counts, request_own, enter_own, leave_own, switch_counts, item_counts}
use Rattle.translation_sizes.proofs.GroupCounts.{activate_counts, deactivate_counts, miss_counts, into_counts, port_counts, send_counts, dispatch_counts, start_counts, deadline_counts, request_counts, enter_counts, leave_counts, otherwise_counts, rule_counts, complete_counts}
use Rattle.translation_sizes.specs.Ports.{ports_counted}

-- ---- groups of rules
rules_append : (l r : List Rule) → rules_counts (l ++ r) ≡ rules_counts l and rules_counts r
unfolding rules_counts
rules_append [] r = sym (nothing_and (rules_counts r))
rules_append (x ∷ l) r = rw (rules_append l r) (sym (and_assoc _ (rules_counts l) (rules_counts r)))

groups_counts : List Group → Counts
groups_counts [] = nothing
groups_counts (g ∷ l) = count_below g.count (λ i. bodies_counts (g.bodies i)) and groups_counts l

groups_counts_lem : (l : List Group) → rules_counts (rules_of_groups l) ≡ groups_counts l
unfolding rules_of_groups groups_counts rules_counts
groups_counts_lem [] = refl
groups_counts_lem (g ∷ l) =
    let rules : ℕ → List Rule = λ i. stamped g.kind i (g.bodies i) in
    rules_append (join_below g.count rules) (rules_of_groups l) ∙
    rw (
      count_join rules_counts refl rules_append g.count rules,
      count_same g.count (λ i. rules_counts (rules i)) (λ i. bodies_counts (g.bodies i)) (λ i h. stamped_counts g.kind i (g.bodies i)),
      groups_counts_lem l,
    )

-- ---- of all threads: what belongs to a connection, a port or a transition is counted there
module _ (m : Timing) (g : GoodTiming m) where
  -- connections of a kind, each with x
  abbrev of_kind : ℕ → Counts → Counts
  of_kind kind x = count_below m.connections (λ c. cond (is_kind m kind c) x nothing)

  -- by one of the threads that each names
  by_thread : (kind : ℕ) (x : Counts) (thread : ℕ → ℕ) → ((c : ℕ) → c < m.connections → thread c < m.threads) →
      count_below m.threads (λ t. count_below m.connections (λ c. cond (is_kind m kind c && eqb (thread c) t) x nothing)) ≡ of_kind kind x
  by_thread kind x thread h =
      count_same m.threads (λ t. count_below m.connections (λ c. cond (is_kind m kind c && eqb (thread c) t) x nothing))
      (λ t. count_below m.connections (λ c. cond (eqb (thread c) t) (cond (is_kind m kind c) x nothing) nothing))
      (λ t l. count_same m.connections (λ c. cond (is_kind m kind c && eqb (thread c) t) x nothing) (λ c. cond (eqb (thread c) t) (cond (is_kind m kind c) x nothing) nothing)
      (λ c k. both_tests (is_kind m kind c) (eqb (thread c) t) x)) ∙
      count_rows m.threads m.connections thread (λ t c. cond (is_kind m kind c) x nothing) h

  into_total : (kind : ℕ) (x : Counts) → count_below m.threads (λ t. into_counts m t kind x) ≡ of_kind kind x
  into_total kind x = by_thread kind x (target_thread m) (λ c l. g.input (connection_at m c).target (g.target c l))

  sent_total : (kind : ℕ) → count_below m.threads (λ t. send_counts m t kind) ≡ of_kind kind (counts 0 0 0 1)
  sent_total kind = by_thread kind (counts 0 0 0 1) (source_thread m) (λ c l. g.output (connection_at m c).source (g.source c l))

  ports_total : (x : ℕ → Counts) → count_below m.threads (λ t. port_counts m t x) ≡ count_below m.inputs x
  ports_total x = count_rows m.threads m.inputs (input_owner m) (λ t i. x i) g.input

  -- f t, then two counts more
  split : (f x y : ℕ → Counts) → count_below m.threads (λ t. f t and x t and y t) ≡ count_below m.threads f and count_below m.threads x and count_below m.threads y
  split f x y = count_plus m.threads f (λ t. x t and y t) ∙ rw (count_plus m.threads x y)

  dispatch_total : count_below m.threads (λ t. bodies_counts (dispatch_rules m t)) ≡
      count_below m.threads (dispatch_own m) and of_kind delayed (counts 0 1 4 0) and count_below m.inputs (λ i. counts 0 0 0 1)
  dispatch_total =
      count_same m.threads (λ t. bodies_counts (dispatch_rules m t)) _ (λ t l. dispatch_counts m t) ∙
      split (dispatch_own m) (λ t. into_counts m t delayed (counts 0 1 4 0)) (λ t. port_counts m t (λ i. counts 0 0 0 1)) ∙
      rw (into_total delayed (counts 0 1 4 0), ports_total (λ i. counts 0 0 0 1))

  start_total : count_below m.threads (λ t. bodies_counts (start_rules m t)) ≡
      count_below m.threads (start_own m) and of_kind immediate (counts 0 2 9 0) and of_kind immediate (counts 0 0 0 1)
  start_total =
      let fed : ℕ → Counts = λ i. cond (is_immediate_port m i) (counts 0 0 0 1) nothing in
      count_same m.threads (λ t. bodies_counts (start_rules m t)) _ (λ t l. start_counts m t) ∙
      split (start_own m) (λ t. into_counts m t immediate (counts 0 2 9 0)) (λ t. port_counts m t fed) ∙
      rw (into_total immediate (counts 0 2 9 0), ports_total fed, ports_counted m g (counts 0 0 0 1))

  deadline_total : count_below m.threads (λ t. bodies_counts (deadline_rules m t)) ≡
      count_below m.threads (deadline_own m) and of_kind delayed (counts 0 0 0 1) and of_kind delayed (counts 0 0 0 1)
  deadline_total =
      count_same m.threads (λ t. bodies_counts (deadline_rules m t)) _ (λ t l. deadline_counts m t) ∙
      split (deadline_own m) (λ t. send_counts m t delayed) (λ t. send_counts m t delayed) ∙ rw (sent_total delayed)

  -- ---- what an item has, from its parts
  of_kind_plus : (kind : ℕ) (x y : Counts) → of_kind kind x and of_kind kind y ≡ of_kind kind (x and y)
  of_kind_plus kind x y =
      sym (count_plus m.connections (λ c. cond (is_kind m kind c) x nothing) (λ c. cond (is_kind m kind c) y nothing)) ∙
      count_same m.connections _ (λ c. cond (is_kind m kind c) (x and y) nothing) (λ c l. go (is_kind m kind c))
    where
      go : (b : Bool) → cond b x nothing and cond b y nothing ≡ cond b (x and y) nothing
      go true = refl
      go false = refl

  connections_total : of_kind immediate immediate_counts and of_kind delayed delayed_counts ≡ count_below m.connections (connection_counts m)
  unfolding connection_counts
  connections_total =
      sym (count_plus m.connections (λ c. cond (is_kind m immediate c) immediate_counts nothing) (λ c. cond (is_kind m delayed c) delayed_counts nothing)) ∙
      count_same m.connections _ (connection_counts m) (λ c l. go (connection_at m c).kind)
    where
      go : (k : ℕ) → cond (eqb k immediate) immediate_counts nothing and cond (eqb k delayed) delayed_counts nothing ≡ cond (eqb k immediate) immediate_counts (cond (eqb k delayed) delayed_counts nothing)
      go zero = refl
      go (suc zero) = refl
      go (suc (suc k)) = rw (ne_eqb (suc (suc k)) immediate (λ e. omega arith), ne_eqb (suc (suc k)) delayed (λ e. omega arith))

  connection_parts : ((of_kind immediate (counts 0 2 9 0) and of_kind immediate (counts 0 0 0 1)) and of_kind immediate (counts 0 0 0 1)) and
      ((of_kind delayed (counts 0 1 4 0) and of_kind delayed (counts 0 0 0 1)) and of_kind delayed (counts 0 0 0 1)) ≡ count_below m.connections (connection_counts m)
  connection_parts = same_sums (thrice immediate (counts 0 2 9 0)) (thrice delayed (counts 0 1 4 0)) ∙ connections_total
    where
      thrice : (kind : ℕ) (x : Counts) → (of_kind kind x and of_kind kind (counts 0 0 0 1)) and of_kind kind (counts 0 0 0 1) ≡ of_kind kind ((x and counts 0 0 0 1) and counts 0 0 0 1)
      thrice kind x = same_sums (of_kind_plus kind x (counts 0 0 0 1)) refl ∙ of_kind_plus kind (x and counts 0 0 0 1) (counts 0 0 0 1)

  threads_total : count_below m.threads (activate_own m) and count_below m.threads (deactivate_own m) and count_below m.threads (dispatch_own m) and count_below m.threads (start_own m) and
      count_below m.threads (default_own m) and count_below m.threads (deadline_own m) and count_below m.threads (miss_own m) ≡ count_below m.threads (thread_counts m)
  unfolding thread_counts
  threads_total =
      let n = m.threads in
      sym (
      count_plus n (activate_own m) (λ t. deactivate_own m t and dispatch_own m t and start_own m t and default_own m t and deadline_own m t and miss_own m t) ∙ rw (
        count_plus n (deactivate_own m) (λ t. dispatch_own m t and start_own m t and default_own m t and deadline_own m t and miss_own m t),
        count_plus n (dispatch_own m) (λ t. start_own m t and default_own m t and deadline_own m t and miss_own m t),
        count_plus n (start_own m) (λ t. default_own m t and deadline_own m t and miss_own m t),
        count_plus n (default_own m) (λ t. deadline_own m t and miss_own m t),
        count_plus n (deadline_own m) (miss_own m),
      ))

  switches_total : count_below m.switches (λ q. request_own m) and count_below m.switches (λ q. enter_own m) and count_below m.switches (λ q. leave_own m) ≡
      count_below m.switches (switch_counts m)
  unfolding switch_counts
  switches_total =
      let n = m.switches in
      sym (count_plus n (λ q. request_own m) (λ q. enter_own m and leave_own m) ∙ rw (count_plus n (λ q. enter_own m) (λ q. leave_own m)))

module _ (m : Model) (w : WellFormed m) where
  -- the transitions' rules, and their clauses in the default rules
  abbrev by_rule : Counts
  by_rule = count_below m.behavior.transitions (λ k. rule_counts m (transition_at m.behavior k).thread k)

  abbrev by_default : Counts
  by_default = count_below m.behavior.transitions (λ k. otherwise_own (transition_at m.behavior k).atoms)

  complete_total : count_below m.timing.threads (λ t. bodies_counts (complete_rules m t)) ≡
      by_rule and count_below m.timing.threads (default_own m.timing) and by_default and of_kind m.timing w.timing immediate (counts 0 0 0 1)
  complete_total =
      let b = m.behavior in
      let n = b.transitions in
      let x = m.timing in
      let thread : ℕ → ℕ = λ k. (transition_at b k).thread in
      let rules : ℕ → Counts = λ t. count_below n (λ k. cond (eqb (thread k) t) (rule_counts m t k) nothing) in
      count_same x.threads (λ t. bodies_counts (complete_rules m t)) _ (λ t l. complete_counts m t) ∙
      count_plus x.threads rules (λ t. default_own x t and otherwise_counts b t and send_counts x t immediate) ∙
      rw (
        count_rows x.threads n thread (λ t k. rule_counts m t k) w.behavior.thread,
        split x w.timing (default_own x) (otherwise_counts b) (λ t. send_counts x t immediate),
        count_rows x.threads n thread (λ t k. otherwise_own (transition_at b k).atoms) w.behavior.thread,
        sent_total x w.timing immediate,
      )

  transitions_total : by_rule and by_default ≡ count_below m.behavior.transitions (transition_counts m)
  unfolding transition_counts sent_counts sent_at
  transitions_total =
      let b = m.behavior in
      sym (count_plus b.transitions (λ k. rule_counts m (transition_at b k).thread k) (λ k. otherwise_own (transition_at b k).atoms)) ∙
      count_same b.transitions _ (transition_counts m)
      (λ k l. let x = transition_at b k in move (transition_own x.atoms x.assignments) (earlier_counts b x.thread x.from k) (send_counts m.timing x.thread immediate) (otherwise_own x.atoms))
    where
      move : (x y z v : Counts) → (x and y and z) and v ≡ x and v and y and z
      move x y z v = same_counts (omega arith) (omega arith) (omega arith) (omega arith)

  -- the order of kinds, and that of items
  reordered : (a d p pc pi s sc si r f o oc e ec ed n q h l : Counts) →
      a and d and (p and pc and pi) and (s and sc and si) and (r and f and o and oc) and (e and ec and ed) and n and q and h and l and nothing ≡
      (a and d and p and s and f and e and n) and pi and ((((sc and si) and oc) and ((pc and ec) and ed))) and (q and h and l) and (r and o)
  reordered a d p pc pi s sc si r f o oc e ec ed n q h l = same_counts (omega arith) (omega arith) (omega arith) (omega arith)

  pub rules_total : rules_counts (rules_of m) ≡ item_counts m
  unfolding groups_for items_of timing_rules rules_for is_one_of groups_counts item_counts input_counts
  rules_total =
      let x = m.timing in
      let g = w.timing in
      groups_counts_lem (groups_of m) ∙
      rw (
        count_same x.threads (λ t. bodies_counts (activate_rules x t)) (activate_own x) (λ t l. activate_counts x t),
        count_same x.threads (λ t. bodies_counts (deactivate_rules x t)) (deactivate_own x) (λ t l. deactivate_counts x t),
        dispatch_total x g,
        start_total x g,
        complete_total,
        deadline_total x g,
        count_same x.threads (λ t. bodies_counts (miss_rules x t)) (miss_own x) (λ t l. miss_counts x t),
        count_same x.switches (λ q. bodies_counts (request_rules x q)) (λ q. request_own x) (λ q l. request_counts x q),
        count_same x.switches (λ q. bodies_counts (enter_rules x q)) (λ q. enter_own x) (λ q l. enter_counts x q),
        count_same x.switches (λ q. bodies_counts (leave_rules x q)) (λ q. leave_own x) (λ q l. leave_counts x q),
      )
      (reordered _ _ _ _ _ _ _ _ _ _ _ _ _ _ _ _ _ _ _ ∙
      same_sums (threads_total x g) (same_sums refl (same_sums (connection_parts x g) (same_sums (switches_total x g) transitions_total))))
