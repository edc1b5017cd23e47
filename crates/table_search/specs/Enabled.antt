-- The enabled rules of an event, found record by record. That the walk finds those that the rules as data have, whatever the bytes.
use Rattle.std.specs.Prelude.{◌≡◌, refl, Bool, true, false, cond, ◌&&◌, List, [], ◌∷◌, ℕ, ◌+◌, ◌-◌, ◌<◌, ◌≤◌, length, take, drop, eqb}
use Rattle.std.proofs.Common.{sym, ◌∙◌, ap}
use Rattle.numbers.specs.declared.Value.{Value}
use Rattle.records.specs.declared.Notation.TheVariants as notations
use Rattle.records.specs.declared.Event.{Event}
use Rattle.records.specs.Format.{part_length_at}
use Rattle.table_format.specs.declared.RuleHead.{RuleHead}
use Rattle.table_format.specs.declared.Record.{Record}
use Rattle.table_format.specs.declared.Record.TheVariants.{Initial, Head, Clause, Atomic, Change, Cut, Unknown}
use Rattle.table_format.specs.Format.{record_of, records, kind_of}
use Rattle.table_format.specs.Table.{Rule, gather}
use Rattle.table_format.specs.RecordsAt.{records_at, records_end}
use Rattle.table_semantics.specs.Rules.{all_hold, enabled_rules}
use Rattle.table_search.specs.declared.Found.{Found}
use Rattle.table_search.specs.declared.Found.TheVariants.{Nothing, One, Several}
use Rattle.table_rules.specs.At.{clauses_at, rule_at, rules_from}
use Rattle.table_semantics.specs.Choices.{Choice, none, one, several, choice}

-- ---- the enabled rules of an event
unfoldable pub is_asked : Event → RuleHead → Bool
is_asked e h = eqb h.kind e.kind && eqb h.id e.id

unfoldable pub found_one_more : Found → ℕ → RuleHead → Found
found_one_more Nothing q h = One q h
found_one_more (One p g) q h = Several
found_one_more Several q h = Several

pub more_than_one : (f : Found) (q : ℕ) (h : RuleHead) → (f ≡ Nothing → ⊥) → Several ≡ found_one_more f q h
unfolding found_one_more
more_than_one Nothing q h n = absurd (n refl)
more_than_one (One p g) q h n = refl
more_than_one Several q h n = refl

-- q is the place after the head, or after the record
unfoldable pub found_rule : List ℕ → List Value → Event → Found → ℕ → RuleHead → Found
found_rule s v e f q h = cond (is_asked e h && all_hold v (clauses_at s q)) (found_one_more f q h) f

unfoldable pub found_after : List ℕ → List Value → Event → Found → ℕ → Record → Found
found_after s v e f q (Initial x) = f
found_after s v e f q (Head h) = found_rule s v e f q h
found_after s v e f q Clause = f
found_after s v e f q (Atomic a) = f
found_after s v e f q (Change u) = f
found_after s v e f q Cut = f
found_after s v e f q Unknown = f

pub found_head : (s : List ℕ) (v : List Value) (e : Event) (f : Found) (q : ℕ) (x : Record) (h : RuleHead) → x ≡ Head h →
    found_rule s v e f q h ≡ found_after s v e f q x
unfolding found_after
found_head s v e f q x h g = rw g

pub found_same : (s : List ℕ) (v : List Value) (e : Event) (f : Found) (q : ℕ) (x : Record) → (kind_of x ≡ 33 → ⊥) → f ≡ found_after s v e f q x
unfolding kind_of found_after
found_same s v e f q (Initial x) k = refl
found_same s v e f q (Head h) k = absurd (k refl)
found_same s v e f q Clause k = refl
found_same s v e f q (Atomic a) k = refl
found_same s v e f q (Change u) k = refl
found_same s v e f q Cut k = refl
found_same s v e f q Unknown k = refl

-- as firing asks it
unfoldable pub choice_found : List ℕ → Found → Choice
choice_found s Nothing = none
choice_found s (One p h) = one (rule_at s p h)
choice_found s Several = several

-- of the rules of two lists, one behind the other
unfoldable pub both : Choice → Choice → Choice
both none d = d
both (one r) none = one r
both (one r) (one q) = several
both (one r) several = several
both several d = several

both_none : (c : Choice) → both c none ≡ c
unfolding both
both_none none = refl
both_none (one r) = refl
both_none several = refl

module _ (s : List ℕ) (v : List Value) (e : Event) (f : Found) (q : ℕ) (h : RuleHead) (a : Bool) (g : a ≡ is_asked e h) where
  pub found_other : a ≡ false → f ≡ found_rule s v e f q h
  unfolding found_rule
  found_other z = rw (← g, z)

  module _ (z : a ≡ true) (b : Bool) (k : b ≡ all_hold v (clauses_at s q)) where
    pub found_disabled : b ≡ false → f ≡ found_rule s v e f q h
    unfolding found_rule
    found_disabled y = rw (← g, z, ← k, y)

    pub found_enabled : b ≡ true → found_one_more f q h ≡ found_rule s v e f q h
    unfolding found_rule
    found_enabled y = rw (← g, z, ← k, y)

one_before : (r : Rule) (l : List Rule) → both (one r) (choice l) ≡ choice (r ∷ l)
unfolding both choice
one_before r [] = refl
one_before r (x ∷ []) = refl
one_before r (x ∷ y ∷ l) = refl

found_one_more_lem : (s : List ℕ) (f : Found) (q : ℕ) (h : RuleHead) (l : List Rule) →
    both (choice_found s (found_one_more f q h)) (choice l) ≡ both (choice_found s f) (choice (rule_at s q h ∷ l))
unfolding choice_found found_one_more both choice
found_one_more_lem s Nothing q h l = one_before (rule_at s q h) l
found_one_more_lem s (One p g) q h [] = refl
found_one_more_lem s (One p g) q h (x ∷ l) = refl
found_one_more_lem s Several q h l = refl

-- ---- the laws of the loop that finds them
-- where a walk stands: what is found, and the rules l that are left
abbrev pub FindsIn : List ℕ → List Value → Event → Found → List Rule → Choice
FindsIn s v e f l = both (choice_found s f) (choice (enabled_rules v e.kind e.id l))

pub find_rule : (s : List ℕ) (v : List Value) (e : Event) (f : Found) (q : ℕ) (h : RuleHead) (l : List Rule) →
    FindsIn s v e (found_rule s v e f q h) l ≡ FindsIn s v e f (rule_at s q h ∷ l)
unfolding found_rule enabled_rules is_asked
find_rule s v e f q h l = go ((eqb h.kind e.kind && eqb h.id e.id) && all_hold v (clauses_at s q))
  where
    rest : List Rule
    rest = enabled_rules v e.kind e.id l

    go : (b : Bool) → both (choice_found s (cond b (found_one_more f q h) f)) (choice rest) ≡ both (choice_found s f) (choice (cond b (rule_at s q h ∷ rest) rest))
    go true = found_one_more_lem s f q h rest
    go false = refl

find_step : (s : List ℕ) (v : List Value) (e : Event) (f : Found) (q : ℕ) (x : Record) →
    FindsIn s v e (found_after s v e f q x) (rules_from s q) ≡ FindsIn s v e f (gather (x ∷ records (drop q s))).rules
unfolding found_after gather
find_step s v e f q (Initial x) = refl
find_step s v e f q (Head h) = find_rule s v e f q h (rules_from s q)
find_step s v e f q Clause = refl
find_step s v e f q (Atomic a) = refl
find_step s v e f q (Change u) = refl
find_step s v e f q Cut = refl
find_step s v e f q Unknown = refl

-- the walk over the table's records stands at p
abbrev pub Finds : List ℕ → List Value → Event → Found → ℕ → Choice
Finds s v e f p = FindsIn s v e f (rules_from s p)

pub find_on : (s : List ℕ) (p m : ℕ) (x : Record) → p < length s → m ≡ part_length_at notations.Table s p → x ≡ record_of (take (p + m - p) (drop p s)) →
    (v : List Value) (e : Event) (f g : Found) → g ≡ found_after s v e f (p + m) x → Finds s v e g (p + m) ≡ Finds s v e f p
find_on s p m x h l r v e f g k =
    rw k (find_step s v e f (p + m) x) ∙ ap (λ (q : List Record). FindsIn s v e f (gather q).rules) (sym (records_at s p m x h l r))

pub find_end : (s : List ℕ) (v : List Value) (e : Event) (f : Found) (p : ℕ) → length s ≤ p → choice_found s f ≡ Finds s v e f p
unfolding gather enabled_rules choice
find_end s v e f p h = sym (both_none (choice_found s f)) ∙ ap (λ (r : List Record). FindsIn s v e f (gather r).rules) (sym (records_end s p h))
