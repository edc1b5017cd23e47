-- How many rules a walk counts.
use Rattle.std.specs.Prelude.{◌≡◌, refl, List, ℕ, ◌+◌, ◌<◌, ◌≤◌, length}
use Rattle.std.proofs.Common.{sym, ◌∙◌, arith, ap}
use Rattle.table_format.specs.declared.RuleHead.{RuleHead}
use Rattle.table_format.specs.declared.Record.{Record}
use Rattle.table_format.specs.declared.Record.TheVariants.{Initial, Head, Clause, Atomic, Change, Cut, Unknown}
use Rattle.table_format.specs.Format.{record_of}
use Rattle.table_reader.specs.declared.Step.{Step}
use Rattle.table_reader.specs.Reading.{part_at, place_after, step_at, rule_in, rules_in, count_rules}
use Rattle.table_reader.specs.Steps.{found_within}
use Rattle.table_reader.specs.Walked.{left, left_end, left_on}

-- m rules at the step t from p
at_most_one : (x : Record) → rule_in x ≤ 1
unfolding rule_in
at_most_one (Initial x) = omega arith
at_most_one (Head h) = omega arith
at_most_one Clause = omega arith
at_most_one (Atomic a) = omega arith
at_most_one (Change u) = omega arith
at_most_one Cut = omega arith
at_most_one Unknown = omega arith

pub no_rule_in : (x : Record) → ((h : RuleHead) → x ≡ Head h → ⊥) → 0 ≡ rule_in x
unfolding rule_in
no_rule_in (Initial x) n = refl
no_rule_in (Head h) n = absurd (n h refl)
no_rule_in Clause n = refl
no_rule_in (Atomic a) n = refl
no_rule_in (Change u) n = refl
no_rule_in Cut n = refl
no_rule_in Unknown n = refl

module _ (s : List ℕ) (p : ℕ) (t : Step) (m : ℕ) (h : p < length s) (e : t ≡ step_at s p) (f : m ≡ rules_in t.found) where
  rules_here : m ≡ rule_in (record_of (part_at s p))
  unfolding rules_in
  rules_here = f ∙ ap (λ (x : Step). rules_in x.found) e ∙ ap rules_in (sym (found_within s p _ h refl))

  pub count_fits : m ≤ 1
  count_fits = rw rules_here (at_most_one (record_of (part_at s p)))

  pub count_on : (n : ℕ) → n + m + count_rules (left s t.next) ≡ n + count_rules (left s p)
  unfolding count_rules
  count_on n =
      let g : t.next ≡ place_after s p = ap (λ (x : Step). x.next) e in
      let k = rules_here in
      rw (g, left_on s p h, k) (omega arith)

pub count_end_lem : (s : List ℕ) (p n : ℕ) → length s ≤ p → n ≡ n + count_rules (left s p)
unfolding count_rules
count_end_lem s p n h = rw (left_end s p h) (omega arith)
