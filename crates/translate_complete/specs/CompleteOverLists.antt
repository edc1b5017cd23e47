-- The same laws of what is written into a lent slice from a place on, for callers who prove over these and hold no writer.
use Rattle.std.specs.Prelude.{◌≡◌, refl, cond, List, [], ◌∷◌, ◌++◌, ℕ, ◌≤◌, length, eqb}
use Rattle.std.proofs.Common.{◌∙◌, eq-eqb, ne_eqb}
use Rattle.numbers.specs.Lists.{join_below, fold_below}
use Rattle.records.specs.Events.{complete_kind}
use Rattle.model_format.specs.declared.Behavior.{Behavior}
use Rattle.model_format.specs.declared.Timing.{Timing}
use Rattle.model_format.specs.declared.Model.{Model}
use Rattle.model_format.specs.declared.Transition.{Transition}
use Rattle.model_format.specs.Model.{transition_at, immediate}
use Rattle.model_semantics.specs.Tests.{execution, completed}
use Rattle.table_format.specs.declared.Atom.{Atom}
use Rattle.table_format.specs.declared.Update.{Update}
use Rattle.table_format.specs.declared.Record.TheVariants.{Head}
use Rattle.table_format.specs.Format.{record_to}
use Rattle.table_format.specs.Table.{rules_to}
use Rattle.table_format.specs.Variables.{now_var, cpu_var, state_var, end_var, behavior_var}
use Rattle.model_semantics.specs.State.{none}
use Rattle.translation.specs.Parts.{constant, variable, equals, plain, set_to, Body, stamped}
use Rattle.translation.specs.Rules.{state_is, end_is_now, job_ends, guard_clauses, per_transition, earlier_clause, otherwise_clause, assignment_updates, sent_expression, send_updates, transition_rule, default_rule, complete_rules, cpu_var_for, where_of, old_output, finished_clauses, finish_updates, open_clauses, transition_clauses, transition_updates, default_clauses, default_updates}
use Rattle.table_writer.specs.Wrote.{Wrote}
use Rattle.table_writer.specs.Lists.{Joins, Counted, joins_clauses, joins_updates, joins_rules, wrote_none, wrote_both, wrote_then, wrote_rule, loop_ends}
use Rattle.table_writer.specs.WroteRules.{WroteClauses, WroteUpdates, WroteRules}
use Rattle.translate_complete.specs.Complete.{rules_at, joins_stamped}

-- ---- the parts that both rules begin with
module _ {d e g : List ℕ} {at p q : ℕ} (t s n : ℕ) (i : s ≡ state_var t) (j : n ≡ end_var t) (h : Counted (length d)) where
  pub running_written : WroteClauses d at (plain (equals s (constant execution)) ∷ []) e p → WroteClauses e p (plain (equals n (variable now_var)) ∷ []) g q →
      WroteClauses d at (finished_clauses t) g q
  running_written w v = wrote_both joins_clauses (state_is t execution ∷ []) (end_is_now t ∷ []) h (rw i at w) (rw j at v)

  pub ends_written : {f : List ℕ} {r : ℕ} (y : Timing) → WroteUpdates d at (set_to s completed ∷ []) e p → WroteUpdates e p (set_to (cpu_var_for y t) none ∷ []) g q →
      WroteUpdates g q (set_to n 0 ∷ []) f r → WroteUpdates d at (finish_updates y t) f r
  ends_written y w v u =
      wrote_then joins_updates (set_to (state_var t) completed ∷ []) (job_ends y t) h (rw i at w)
      (λ l. wrote_both joins_updates (set_to (cpu_var_for y t) none ∷ []) (set_to (end_var t) 0 ∷ []) l v (rw j at u))

-- ---- the rule of transition k, which is x
pub open_written : {d e f g : List ℕ} {at p q r : ℕ} (b : Behavior) (t k v : ℕ) (x : Transition) → x ≡ transition_at b k → v ≡ behavior_var t → Counted (length d) →
    WroteClauses d at (finished_clauses t) e p → WroteClauses e p (plain (equals v (constant x.from)) ∷ []) f q → WroteClauses f q (guard_clauses b k) g r →
    WroteClauses d at (open_clauses t (transition_at b k).from (guard_clauses b k)) g r
open_written b t k v x i j h w y z =
    rw (← i)
    (wrote_then joins_clauses (finished_clauses t) _ h w
    (λ l. wrote_both joins_clauses (plain (equals (behavior_var t) (constant x.from)) ∷ []) (guard_clauses b k) l (rw j at y) z))

pub updates_written : {d e f g a : List ℕ} {at p q r s : ℕ} (m : Model) (t k v : ℕ) (x : Transition) → x ≡ transition_at m.behavior k → v ≡ behavior_var t → Counted (length d) →
    WroteUpdates d at (finish_updates m.timing t) e p → WroteUpdates e p (set_to v x.to ∷ []) f q → WroteUpdates f q (assignment_updates m.behavior k x.assignments) g r →
    WroteUpdates g r (send_updates m.timing immediate t (sent_expression m.behavior k x.assignments)) a s → WroteUpdates d at (transition_updates m t k) a s
updates_written m t k v x i j h w n z u =
    rw (← i)
    (wrote_then joins_updates (finish_updates m.timing t) _ h w
    (λ l. wrote_then joins_updates (set_to (behavior_var t) x.to ∷ []) _ l (rw j at n)
    (λ l. wrote_both joins_updates (assignment_updates m.behavior k x.assignments) _ l z u)))

-- ---- the default rule
module _ {d e f : List ℕ} {at p q : ℕ} (t : ℕ) (h : Counted (length d)) where
  pub default_clauses_lem : (b : Behavior) → WroteClauses d at (finished_clauses t) e p →
      WroteClauses e p (per_transition b t b.transitions (otherwise_clause b t)) f q → WroteClauses d at (default_clauses b t) f q
  default_clauses_lem b w v = wrote_both joins_clauses (finished_clauses t) _ h w v

  -- no assignments leave each output as it was
  pub default_updates_lem : (y : Timing) (b : Behavior) (k : ℕ) → WroteUpdates d at (finish_updates y t) e p →
      WroteUpdates e p (send_updates y immediate t (sent_expression b k 0)) f q → WroteUpdates d at (default_updates y t) f q
  unfolding sent_expression fold_below
  default_updates_lem y b k w v = wrote_both joins_updates (finish_updates y t) (send_updates y immediate t old_output) h w v

-- ---- rules, with their heads
module _ {d e f g : List ℕ} {at p q r : ℕ} (m : Model) (t : ℕ) (h : Counted (length d)) (w : Wrote d at (record_to (Head (record { kind = complete_kind; id = t; low = 0; high = 0 })) []) e p) where
  pub transition_rule_lem : {a : List ℕ} {s : ℕ} (k : ℕ) → WroteClauses e p (open_clauses t (transition_at m.behavior k).from (guard_clauses m.behavior k)) f q →
      WroteClauses f q (per_transition m.behavior t k (earlier_clause m.behavior k)) a s → WroteUpdates a s (transition_updates m t k) g r →
      WroteRules d at (stamped complete_kind t (transition_rule m t k ∷ [])) g r
  unfolding stamped transition_rule
  transition_rule_lem k v u i =
      let b = m.behavior in
      wrote_rule _ (transition_clauses b t k) (transition_updates m t k) h w
      (λ l. wrote_both joins_clauses (open_clauses t (transition_at b k).from (guard_clauses b k)) _ l v u) (λ l. i)

  pub default_rule_lem : WroteClauses e p (default_clauses m.behavior t) f q → WroteUpdates f q (default_updates m.timing t) g r → WroteRules d at (stamped complete_kind t (default_rule m t ∷ [])) g r
  unfolding stamped default_rule
  default_rule_lem c u = wrote_rule _ (default_clauses m.behavior t) (default_updates m.timing t) h w (λ l. c) (λ l. u)

-- ---- the rules of all transitions; transition k is x
module _ (m : Model) (t k : ℕ) (x : Transition) (g : x ≡ transition_at m.behavior k) where
  pub rule_written : {d e : List ℕ} {at p : ℕ} → x.thread ≡ t → WroteRules d at (stamped complete_kind t (transition_rule m t k ∷ [])) e p → WroteRules d at (stamped complete_kind t (rules_at m t k)) e p
  rule_written s w = rw (← g, eq-eqb _ _ s) w

  pub rule_none : {d : List ℕ} {at : ℕ} → (x.thread ≡ t → ⊥) → Counted at → WroteRules d at (stamped complete_kind t (rules_at m t k)) d at
  rule_none s h = rw (← g, ne_eqb _ _ s) (wrote_none (joins_stamped complete_kind t) h)

pub complete_end : {d e f : List ℕ} {at p q : ℕ} (m : Model) (t k n : ℕ) → n ≡ m.behavior.transitions → Counted (length d) → WroteRules d at (stamped complete_kind t (join_below k (rules_at m t))) e p →
    k ≤ n → n ≤ k → WroteRules e p (stamped complete_kind t (default_rule m t ∷ [])) f q → WroteRules d at (stamped complete_kind t (complete_rules m t)) f q
unfolding complete_rules
complete_end m t k n i h w l g v =
    wrote_both (joins_stamped complete_kind t) (join_below m.behavior.transitions (rules_at m t)) (default_rule m t ∷ []) h
    (loop_ends (joins_stamped complete_kind t) (rules_at m t) m.behavior.transitions k (rw (← i) l) (rw (← i) g) w) v
