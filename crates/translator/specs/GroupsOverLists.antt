-- The same laws of what is written into a lent slice from a place on, for callers who prove over these and hold no writer.
use Rattle.std.specs.Prelude.{◌≡◌, Bool, ◌||◌, List, [], ◌∷◌, ◌++◌, ℕ, zero, suc, ◌+◌, ◌≤◌, get_or, length, eqb}
use Rattle.std.proofs.Math.Path.{refl}
use Rattle.std.proofs.Common.{sym, ◌∙◌, ap, append_assoc, append-nil}
use Rattle.std.proofs.Math.Bool.{true, false, cond, or-false}
use borrow.Author.Tests.{ne_eqb}
use Rattle.numbers.specs.Lists.{join_below}
use Rattle.records.specs.Events.{complete_kind, request_kind, enter_kind, leave_kind}
use Rattle.model_format.specs.declared.Timing.{Timing}
use Rattle.model_format.specs.declared.Model.{Model}
use Rattle.model_format.specs.WellFormed.{GoodTiming}
use Rattle.table_format.specs.Table.{Rule}
use Rattle.table_format.specs.RuleKinds.{rule_kinds, is_one_of}
use Rattle.table_writer.specs.Written.{keeps_length}
use Rattle.table_writer.specs.Lists.{Counted, joins_rules, wrote_none, loop_begins, loop_next}
use Rattle.table_writer.specs.WroteRules.{WroteRules}
use Rattle.translation.specs.Parts.{Body, stamped, rules_of_groups}
use Rattle.translation.specs.Rules.{complete_rules, switch_kinds, items_of, timing_rules, rules_for, groups_for, rules_of}
use Rattle.translator.specs.Groups.{group_rules, completes_of, kind_rules}

-- n is how many there are
module _ (x : Timing) (kind n : ℕ) where
  pub items_switches : n ≡ x.switches → (eqb kind request_kind || (eqb kind enter_kind || eqb kind leave_kind)) ≡ true → n ≡ items_of x kind
  unfolding items_of is_one_of
  items_switches e h = rw (e, or-false (eqb kind leave_kind), h)

  pub items_threads : n ≡ x.threads → (eqb kind request_kind || (eqb kind enter_kind || eqb kind leave_kind)) ≡ false → n ≡ items_of x kind
  unfolding items_of is_one_of
  items_threads e h = rw (e, or-false (eqb kind leave_kind), h)

module _ (x : Timing) (kind : ℕ) where
  pub items_few : GoodTiming x → items_of x kind ≤ 16
  unfolding items_of
  items_few g = go (is_one_of switch_kinds kind)
    where
      go : (b : Bool) → cond b x.switches x.threads ≤ 16
      go true = g.switches
      go false = g.threads

-- a kind that has no rules
pub no_rules : {d : List ℕ} {at : ℕ} (kind i : ℕ) (l : List Body) → l ≡ [] → Counted at → WroteRules d at (stamped kind i l) d at
unfolding stamped
no_rules kind i l e h = rw e (wrote_none joins_rules h)

-- ---- a loop over items: the rules x of the first i are written
pub record Looping (x : ℕ → List Rule) (start : List ℕ) (at : ℕ) (d : List ℕ) (p i : ℕ) : Type 0 where
  pub size : Counted (length start)
  pub same : length d ≡ length start
  pub written : WroteRules start at (join_below i x) d p

module _ (x : ℕ → List Rule) where
  pub loop_start : {d : List ℕ} {at : ℕ} → Counted (length d) → Counted at → Looping x d at d at 0
  loop_start h k = record { size = h; same = refl; written = loop_begins joins_rules x k }

  module _ {start d : List ℕ} {at p i : ℕ} (g : Looping x start at d p i) where
    pub loop_on : {e : List ℕ} {q : ℕ} → WroteRules d p (x i) e q → Looping x start at e q (i + 1)
    loop_on w = record {
      size = g.size;
      same = keeps_length w ∙ g.same;
      written = loop_next joins_rules i x g.size g.written w;
    }

    pub loop_over : (n : ℕ) → i ≡ n → WroteRules start at (join_below n x) d p
    loop_over n e = rw (← e) g.written

-- ---- the kinds, one after the other; k is the kind as the code has read it
module _ {d e : List ℕ} {at p : ℕ} (m : Model) (kind : ℕ) {k : ℕ} (q : k ≡ kind) where
  pub complete_kind_lem : k ≡ complete_kind → WroteRules d at (completes_of m) e p → WroteRules d at (kind_rules m kind) e p
  unfolding items_of is_one_of rules_for
  complete_kind_lem h w = rw (sym q ∙ h) w

  pub other_kind : (k ≡ complete_kind → ⊥) → WroteRules d at (group_rules m.timing k) e p → WroteRules d at (kind_rules m kind) e p
  unfolding rules_for
  other_kind h w = rw (← q, ne_eqb k complete_kind h) w

join_front : {A : Type 0} (n : ℕ) (f : ℕ → List A) → join_below (suc n) f ≡ f 0 ++ join_below n (λ i. f (suc i))
unfolding join_below
join_front zero f = sym (append-nil (f 0))
join_front (suc n) f = ap (λ l. l ++ f (suc n)) (join_front n f) ∙ append_assoc (f 0) (join_below n (λ i. f (suc i))) (f (suc n))

rules_joined : (m : Model) (l : List ℕ) → join_below (length l) (λ i. kind_rules m (get_or l i 0)) ≡ rules_of_groups (groups_for m l)
unfolding rules_of_groups groups_for
rules_joined m [] = unfold join_below in refl
rules_joined m (kind ∷ l) = join_front (length l) (λ i. kind_rules m (get_or (kind ∷ l) i 0)) ∙ ap (λ r. kind_rules m kind ++ r) (rules_joined m l)
