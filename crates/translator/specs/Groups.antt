-- The rules of each event kind, and laws of writing them.
use Rattle.std.specs.Prelude.{◌≡◌, Bool, ◌||◌, List, [], ◌∷◌, ◌++◌, ℕ, zero, suc, ◌+◌, ◌≤◌, get_or, length, eqb}
use Rattle.std.proofs.Math.Path.{refl}
use Rattle.std.proofs.Common.{sym, ◌∙◌, ap, append_assoc, append-nil}
use Rattle.std.proofs.Math.Bool.{true, false, cond, or-false}
use borrow.Author.Tests.{ne_eqb}
use Rattle.numbers.specs.Lists.{join_below}
use Rattle.records.specs.Events.{complete_kind, request_kind, enter_kind, leave_kind}
use Rattle.model_format.specs.declared.Timing.{Timing}
use Rattle.model_format.specs.declared.Model.{Model}
use Rattle.model_format.specs.WellFormed.{GoodTiming}
use Rattle.table_format.specs.Table.{Rule}
use Rattle.table_format.specs.RuleKinds.{rule_kinds, is_one_of}
use Rattle.table_writer.specs.Lists.{joins_rules}
use Rattle.table_writer.specs.Writes.{WritesRules}
use Rattle.table_writer.specs.WritesLaws.{writes_none}
use Rattle.table_writer.specs.declared.encoding.Writer.{Writer}
use Rattle.translation.specs.Parts.{Body, stamped, rules_of_groups}
use Rattle.translation.specs.Rules.{complete_rules, switch_kinds, items_of, timing_rules, rules_for, groups_for, rules_of}

-- of every item: those that the timing alone gives, COMPLETE's, and those of any kind
abbrev pub group_rules : Timing → ℕ → List Rule
group_rules x kind = join_below (items_of x kind) (λ i. stamped kind i (timing_rules x kind i))

abbrev pub completes_of : Model → List Rule
completes_of m = join_below m.timing.threads (λ i. stamped complete_kind i (complete_rules m i))

abbrev pub kind_rules : Model → ℕ → List Rule
kind_rules m kind = join_below (items_of m.timing kind) (λ i. stamped kind i (rules_for m kind i))

-- n is how many there are
module _ (x : Timing) (kind n : ℕ) where
  pub items_switches : n ≡ x.switches → (eqb kind request_kind || (eqb kind enter_kind || eqb kind leave_kind)) ≡ true → n ≡ items_of x kind
  unfolding items_of is_one_of
  items_switches e h = rw (e, or-false (eqb kind leave_kind), h)

  pub items_threads : n ≡ x.threads → (eqb kind request_kind || (eqb kind enter_kind || eqb kind leave_kind)) ≡ false → n ≡ items_of x kind
  unfolding items_of is_one_of
  items_threads e h = rw (e, or-false (eqb kind leave_kind), h)

module _ (x : Timing) (kind : ℕ) where
  pub items_few : GoodTiming x → items_of x kind ≤ 16
  unfolding items_of
  items_few g = go (is_one_of switch_kinds kind)
    where
      go : (b : Bool) → cond b x.switches x.threads ≤ 16
      go true = g.switches
      go false = g.threads

-- a kind that has no rules
pub no_rules : {u : Writer} (kind i : ℕ) (l : List Body) → l ≡ [] → WritesRules u (stamped kind i l) u
unfolding stamped
no_rules kind i l e = rw e (writes_none joins_rules)

-- ---- the kinds, one after the other; k is the kind as the code has read it
module _ {u v : Writer} (m : Model) (kind : ℕ) {k : ℕ} (q : k ≡ kind) where
  pub complete_kind_lem : k ≡ complete_kind → WritesRules u (completes_of m) v → WritesRules u (kind_rules m kind) v
  unfolding items_of is_one_of rules_for
  complete_kind_lem h w = rw (sym q ∙ h) w

  pub other_kind : (k ≡ complete_kind → ⊥) → WritesRules u (group_rules m.timing k) v → WritesRules u (kind_rules m kind) v
  unfolding rules_for
  other_kind h w = rw (← q, ne_eqb k complete_kind h) w

join_front : {A : Type 0} (n : ℕ) (f : ℕ → List A) → join_below (suc n) f ≡ f 0 ++ join_below n (λ i. f (suc i))
unfolding join_below
join_front zero f = sym (append-nil (f 0))
join_front (suc n) f = ap (λ l. l ++ f (suc n)) (join_front n f) ∙ append_assoc (f 0) (join_below n (λ i. f (suc i))) (f (suc n))

rules_joined : (m : Model) (l : List ℕ) → join_below (length l) (λ i. kind_rules m (get_or l i 0)) ≡ rules_of_groups (groups_for m l)
unfolding rules_of_groups groups_for
rules_joined m [] = unfold join_below in refl
rules_joined m (kind ∷ l) = join_front (length l) (λ i. kind_rules m (get_or (kind ∷ l) i 0)) ∙ ap (λ r. kind_rules m kind ++ r) (rules_joined m l)

pub all_rules : (m : Model) → join_below (length rule_kinds) (λ i. kind_rules m (get_or rule_kinds i 0)) ≡ rules_of m
all_rules m = rules_joined m rule_kinds
