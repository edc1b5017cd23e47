-- Laws of writing the rules of COMPLETE.
use Rattle.std.specs.Prelude.{◌≡◌, refl, cond, List, [], ◌∷◌, ◌++◌, ℕ, ◌≤◌, eqb}
use Rattle.std.proofs.Common.{◌∙◌, eq-eqb, ne_eqb}
use Rattle.numbers.specs.Lists.{join_below, fold_below}
use Rattle.records.specs.Events.{complete_kind}
use Rattle.model_format.specs.declared.Behavior.{Behavior}
use Rattle.model_format.specs.declared.Timing.{Timing}
use Rattle.model_format.specs.declared.Model.{Model}
use Rattle.model_format.specs.declared.Transition.{Transition}
use Rattle.model_format.specs.Model.{transition_at, immediate}
use Rattle.model_semantics.specs.Tests.{execution, completed}
use Rattle.table_format.specs.declared.Atom.{Atom}
use Rattle.table_format.specs.declared.Update.{Update}
use Rattle.table_format.specs.declared.Record.TheVariants.{Head}
use Rattle.table_format.specs.Format.{record_to}
use Rattle.table_format.specs.Table.{rules_to}
use Rattle.table_format.specs.Variables.{now_var, cpu_var, state_var, end_var, behavior_var}
use Rattle.model_semantics.specs.State.{none}
use Rattle.translation.specs.Parts.{constant, variable, equals, plain, set_to, Body, stamped}
use Rattle.translation.specs.Rules.{state_is, end_is_now, job_ends, guard_clauses, per_transition, earlier_clause, otherwise_clause, assignment_updates, sent_expression, send_updates, transition_rule, default_rule, complete_rules, cpu_var_for, where_of, old_output, finished_clauses, finish_updates, open_clauses, transition_clauses, transition_updates, default_clauses, default_updates}
use Rattle.table_writer.specs.Lists.{Joins, joins_clauses, joins_updates, joins_rules}
use Rattle.table_writer.specs.Writes.{Writes, WritesClauses, WritesUpdates, WritesRules}
use Rattle.table_writer.specs.WritesLaws.{writes_none, writes_both, writes_rule, writes_end}
use Rattle.table_writer.specs.declared.encoding.Writer.{Writer}

-- the rule of transition k, where it is one of thread t
abbrev pub rules_at : Model → ℕ → ℕ → List Body
rules_at m t = where_of m.behavior t (λ k. transition_rule m t k ∷ [])

-- the records of a thread's rules
pub joins_stamped : (kind id : ℕ) → Joins (λ l. rules_to (stamped kind id l))
unfolding rules_to stamped
joins_stamped kind id = record { none = refl; both = λ l r. rw (append l r) (joins_rules.both (stamped kind id l) (stamped kind id r)) }
  where
    append : (l r : List Body) → stamped kind id (l ++ r) ≡ stamped kind id l ++ stamped kind id r
    append [] r = refl
    append (b ∷ l) r = rw (append l r)

-- ---- the parts that both rules begin with
module _ {u v w : Writer} (t s n : ℕ) (i : s ≡ state_var t) (j : n ≡ end_var t) where
  pub running_written : WritesClauses u (plain (equals s (constant execution)) ∷ []) v → WritesClauses v (plain (equals n (variable now_var)) ∷ []) w →
      WritesClauses u (finished_clauses t) w
  running_written a b = writes_both joins_clauses (state_is t execution ∷ []) (end_is_now t ∷ []) (rw i at a) (rw j at b)

  pub ends_written : {z : Writer} (y : Timing) → WritesUpdates u (set_to s completed ∷ []) v → WritesUpdates v (set_to (cpu_var_for y t) none ∷ []) w →
      WritesUpdates w (set_to n 0 ∷ []) z → WritesUpdates u (finish_updates y t) z
  ends_written y a b c =
      writes_both joins_updates (set_to (state_var t) completed ∷ []) (job_ends y t) (rw i at a)
      (writes_both joins_updates (set_to (cpu_var_for y t) none ∷ []) (set_to (end_var t) 0 ∷ []) b (rw j at c))

-- ---- the rule of transition k, which is x
pub open_written : {u v w z : Writer} (b : Behavior) (t k n : ℕ) (x : Transition) → x ≡ transition_at b k → n ≡ behavior_var t →
    WritesClauses u (finished_clauses t) v → WritesClauses v (plain (equals n (constant x.from)) ∷ []) w → WritesClauses w (guard_clauses b k) z →
    WritesClauses u (open_clauses t (transition_at b k).from (guard_clauses b k)) z
open_written b t k n x i j f e g =
    rw (← i)
    (writes_both joins_clauses (finished_clauses t) _ f
    (writes_both joins_clauses (plain (equals (behavior_var t) (constant x.from)) ∷ []) (guard_clauses b k) (rw j at e) g))

pub updates_written : {u v w z r : Writer} (m : Model) (t k n : ℕ) (x : Transition) → x ≡ transition_at m.behavior k → n ≡ behavior_var t →
    WritesUpdates u (finish_updates m.timing t) v → WritesUpdates v (set_to n x.to ∷ []) w → WritesUpdates w (assignment_updates m.behavior k x.assignments) z →
    WritesUpdates z (send_updates m.timing immediate t (sent_expression m.behavior k x.assignments)) r → WritesUpdates u (transition_updates m t k) r
updates_written m t k n x i j f e a c =
    rw (← i)
    (writes_both joins_updates (finish_updates m.timing t) _ f
    (writes_both joins_updates (set_to (behavior_var t) x.to ∷ []) _ (rw j at e)
    (writes_both joins_updates (assignment_updates m.behavior k x.assignments) _ a c)))

-- ---- the default rule
module _ {u v w : Writer} (t : ℕ) where
  pub default_clauses_lem : (b : Behavior) → WritesClauses u (finished_clauses t) v →
      WritesClauses v (per_transition b t b.transitions (otherwise_clause b t)) w → WritesClauses u (default_clauses b t) w
  default_clauses_lem b f o = writes_both joins_clauses (finished_clauses t) _ f o

  -- no assignments leave each output as it was
  pub default_updates_lem : (y : Timing) (b : Behavior) (k : ℕ) → WritesUpdates u (finish_updates y t) v →
      WritesUpdates v (send_updates y immediate t (sent_expression b k 0)) w → WritesUpdates u (default_updates y t) w
  unfolding sent_expression fold_below
  default_updates_lem y b k f c = writes_both joins_updates (finish_updates y t) (send_updates y immediate t old_output) f c

-- ---- rules, with their heads
module _ {u v w z : Writer} (m : Model) (t : ℕ) (h : Writes u (record_to (Head (record { kind = complete_kind; id = t; low = 0; high = 0 })) []) v) where
  pub transition_rule_lem : {r : Writer} (k : ℕ) → WritesClauses v (open_clauses t (transition_at m.behavior k).from (guard_clauses m.behavior k)) w →
      WritesClauses w (per_transition m.behavior t k (earlier_clause m.behavior k)) z → WritesUpdates z (transition_updates m t k) r →
      WritesRules u (stamped complete_kind t (transition_rule m t k ∷ [])) r
  unfolding stamped transition_rule
  transition_rule_lem k o e a =
      let b = m.behavior in
      writes_rule _ (transition_clauses b t k) (transition_updates m t k) h (writes_both joins_clauses (open_clauses t (transition_at b k).from (guard_clauses b k)) _ o e) a

  pub default_rule_lem : WritesClauses v (default_clauses m.behavior t) w → WritesUpdates w (default_updates m.timing t) z → WritesRules u (stamped complete_kind t (default_rule m t ∷ [])) z
  unfolding stamped default_rule
  default_rule_lem c a = writes_rule _ (default_clauses m.behavior t) (default_updates m.timing t) h c a

-- ---- the rules of all transitions; transition k is x
module _ (m : Model) (t k : ℕ) (x : Transition) (g : x ≡ transition_at m.behavior k) where
  pub rule_written : {u v : Writer} → x.thread ≡ t → WritesRules u (stamped complete_kind t (transition_rule m t k ∷ [])) v → WritesRules u (stamped complete_kind t (rules_at m t k)) v
  rule_written s w = rw (← g, eq-eqb _ _ s) w

  pub rule_none : {u : Writer} → (x.thread ≡ t → ⊥) → WritesRules u (stamped complete_kind t (rules_at m t k)) u
  rule_none s = rw (← g, ne_eqb _ _ s) (writes_none (joins_stamped complete_kind t))

pub complete_end : {u v w : Writer} (m : Model) (t k n : ℕ) → n ≡ m.behavior.transitions → WritesRules u (stamped complete_kind t (join_below k (rules_at m t))) v →
    k ≤ n → n ≤ k → WritesRules v (stamped complete_kind t (default_rule m t ∷ [])) w → WritesRules u (stamped complete_kind t (complete_rules m t)) w
unfolding complete_rules
complete_end m t k n i a l g d =
    writes_both (joins_stamped complete_kind t) (join_below m.behavior.transitions (rules_at m t)) (default_rule m t ∷ [])
    (writes_end (joins_stamped complete_kind t) (rules_at m t) m.behavior.transitions k (rw (← i) l) (rw (← i) g) a) d
