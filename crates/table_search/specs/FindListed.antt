-- The enabled rules of an event among the words that list rules. Words of another key, or with a guard that fails, are passed over without a
-- look at the table: listed or not, their rule is not for the event, or not enabled.
use Rattle.std.specs.Prelude.{◌≡◌, Bool, ◌&&◌, List, ◌∷◌, ◌++◌, ℕ, ◌+◌, ◌/◌, ◌%◌, ◌<◌, ◌≤◌, get_or, length, drop, eqb}
use Rattle.std.proofs.Common.{arith, refl, sym, ◌∙◌, true, false, cond, eqb-true}
use Rattle.numbers.specs.declared.Value.{Value}
use Rattle.records.specs.declared.Event.{Event}
use Rattle.table_format.specs.declared.RuleHead.{RuleHead}
use Rattle.table_format.specs.Table.{Rule}
use Rattle.table_semantics.specs.Rules.{all_hold, enabled_rules}
use Rattle.table_search.specs.declared.Found.{Found}
use Rattle.table_search.specs.declared.Found.TheVariants.{Nothing}
use Rattle.table_rules.specs.At.{head_in, clauses_at, rule_at}
use Rattle.table_index.specs.Index.{key_of, key_at, is_listed, listed}
use Rattle.table_rules.specs.Places.{HeadAt, head_kind, head_id}
use Rattle.table_search.specs.Enabled.{is_asked, found_one_more, found_rule, choice_found, both, FindsIn, find_rule}
use Rattle.table_semantics.specs.Choices.{choice}
use Rattle.table_index.specs.IndexLaws.{and_false}
use Rattle.table_index.specs.Guards.{may_hold, untold, never}
use Rattle.table_index.specs.Listed.{parts_of, guard_disables, rest_is_all, dropped, listed_over, IsPair}

-- what is found where the rule that two words list is looked at too
unfoldable pub found_listed : List ℕ → List Value → Event → Found → ℕ → ℕ → Found
found_listed s v e f w g = cond (is_listed s w g) (found_rule s v e f (w / 65536 + 11) (head_in s (w / 65536))) f

find_listed : (s : List ℕ) (v : List Value) (e : Event) (f : Found) (w g : ℕ) (l : List ℕ) (r : List Rule) →
    FindsIn s v e (found_listed s v e f w g) (listed s l ++ r) ≡ FindsIn s v e f (listed s (w ∷ g ∷ l) ++ r)
unfolding found_listed listed
find_listed s v e f w g l r = go (is_listed s w g)
  where
    go : (b : Bool) → FindsIn s v e (cond b (found_rule s v e f (w / 65536 + 11) (head_in s (w / 65536))) f) (listed s l ++ r) ≡
        FindsIn s v e f (cond b (rule_at s (w / 65536 + 11) (head_in s (w / 65536)) ∷ listed s l) (listed s l) ++ r)
    go true = find_rule s v e f (w / 65536 + 11) (head_in s (w / 65536)) (listed s l ++ r)
    go false = refl

both_true : (a b : Bool) → (a && b) ≡ true → (a ≡ true) × (b ≡ true)
both_true true b h = (refl, h)
both_true false b h = never (sym h)

-- by how the code tells
asked_key : (s : List ℕ) (p : ℕ) (e : Event) → HeadAt s p → is_asked e (head_in s p) ≡ true → key_at s p ≡ key_of e.kind e.id
unfolding is_asked
asked_key s p e h a =
    let b = both_true (eqb (head_in s p).kind e.kind) (eqb (head_in s p).id e.id) a in
    let x : (head_in s p).kind ≡ e.kind = eqb-true (head_in s p).kind e.kind b.0 in
    let y : (head_in s p).id ≡ e.id = eqb-true (head_in s p).id e.id b.1 in
    rw (head_kind s p h, head_id s p h, x, y)

module _ (s : List ℕ) (v : List Value) (e : Event) (f : Found) (w g : ℕ) where
  found_unless : (is_listed s w g ≡ true → (is_asked e (head_in s (w / 65536)) && all_hold v (clauses_at s (w / 65536 + 11))) ≡ false) → f ≡ found_listed s v e f w g
  unfolding found_listed found_rule
  found_unless n = go (is_listed s w g) (is_asked e (head_in s (w / 65536)) && all_hold v (clauses_at s (w / 65536 + 11))) refl refl
    where
      go : (a b : Bool) → is_listed s w g ≡ a → (is_asked e (head_in s (w / 65536)) && all_hold v (clauses_at s (w / 65536 + 11))) ≡ b →
          f ≡ cond (is_listed s w g) (found_rule s v e f (w / 65536 + 11) (head_in s (w / 65536))) f
      go false b x y = rw x
      go true false x y = rw (x, y)
      go true true x y = never (sym y ∙ n x)

  pub found_other_key : (k : ℕ) → k ≡ key_of e.kind e.id → (w % 65536 ≡ k → ⊥) → f ≡ found_listed s v e f w g
  found_other_key k q n = found_unless (λ h. go h (is_asked e (head_in s (w / 65536))) refl)
    where
      go : is_listed s w g ≡ true → (a : Bool) → is_asked e (head_in s (w / 65536)) ≡ a → (is_asked e (head_in s (w / 65536)) && all_hold v (clauses_at s (w / 65536 + 11))) ≡ false
      go h false x = rw x
      go h true x = let p = parts_of s w g h in absurd (n (sym p.1 ∙ asked_key s (w / 65536) e p.0 x ∙ sym q))

  pub found_guarded : (b : Bool) → b ≡ may_hold v g → b ≡ false → f ≡ found_listed s v e f w g
  found_guarded b q z = found_unless (λ h. rw (guard_disables s w g h v (sym q ∙ z)) (and_false (is_asked e (head_in s (w / 65536)))))

  -- the guard holds; b is whether the words list a rule and the rest of it holds
  module _ (m : Bool) (k : m ≡ may_hold v g) (t : m ≡ true) (b : Bool) (q : b ≡ (is_listed s w g && all_hold v (clauses_at s (untold w g)))) where
    whole : b ≡ (is_listed s w g && all_hold v (clauses_at s (w / 65536 + 11)))
    whole = q ∙ rest_is_all s w g v m k t

    pub found_not_enabled : b ≡ false → f ≡ found_listed s v e f w g
    found_not_enabled z =
        found_unless (λ h. let y : all_hold v (clauses_at s (w / 65536 + 11)) ≡ false = rw h at (sym whole ∙ z) in rw y (and_false (is_asked e (head_in s (w / 65536)))))

    module _ (z : b ≡ true) where
      parts_true : (is_listed s w g ≡ true) × (all_hold v (clauses_at s (w / 65536 + 11)) ≡ true)
      parts_true = both_true (is_listed s w g) (all_hold v (clauses_at s (w / 65536 + 11))) (sym whole ∙ z)

      pub found_head : HeadAt s (w / 65536)
      found_head = (parts_of s w g parts_true.0).0

      module _ (h : RuleHead) (i : h ≡ head_in s (w / 65536)) (a : Bool) (n : a ≡ is_asked e h) where
        pub found_not_asked : a ≡ false → f ≡ found_listed s v e f w g
        found_not_asked y = found_unless (λ x. rw (← i, ← n, y))

        pub found_listed_lem : a ≡ true → found_one_more f (w / 65536 + 11) h ≡ found_listed s v e f w g
        unfolding found_listed found_rule
        found_listed_lem y = rw (parts_true.0, parts_true.1, ← i, ← n, y)

-- ---- its loop: i of the words are looked at

-- what stands after the list is left open
abbrev pub FindsBy : List ℕ → List Value → Event → Found → List ℕ → Found → List ℕ → Type 0
FindsBy s v e f d f₀ d₀ = (r : List Rule) → FindsIn s v e f (listed s d ++ r) ≡ FindsIn s v e f₀ (listed s d₀ ++ r)

abbrev pub FindsListed : List ℕ → List Value → Event → Found → List ℕ → Type 0
FindsListed s v e f d = (r : List Rule) → FindsIn s v e f r ≡ choice (enabled_rules v e.kind e.id (listed s d ++ r))

module _ (s : List ℕ) (v : List Value) (e : Event) (f₀ : Found) (d : List ℕ) where
  pub finds_begin : FindsBy s v e f₀ (drop 0 d) f₀ d
  finds_begin r = refl

  pub finds_next : (f : Found) (i : ℕ) → i + 1 < length d → (q : Found) → q ≡ found_listed s v e f (get_or d i 0) (get_or d (i + 1) 0) →
      FindsBy s v e f (drop i d) f₀ d → FindsBy s v e q (drop (i + 2) d) f₀ d
  finds_next f i h q x a r =
      let b : FindsIn s v e f (listed s (get_or d i 0 ∷ get_or d (i + 1) 0 ∷ drop (i + 2) d) ++ r) ≡ FindsIn s v e f₀ (listed s d ++ r) = rw (dropped d i h) at (a r) in
      rw x (find_listed s v e f (get_or d i 0) (get_or d (i + 1) 0) (drop (i + 2) d) r ∙ b)

  pub finds_end : (f : Found) (i : ℕ) → length d ≤ i + 1 → f₀ ≡ Nothing → FindsBy s v e f (drop i d) f₀ d → FindsListed s v e f d
  unfolding choice_found both
  finds_end f i h z a r = rw (listed_over s d i h, z) at (a r)

-- the same, two words x at a time: u are those that are left, then w
module _ (s : List ℕ) (v : List Value) (e : Event) (f₀ : Found) (d : List ℕ) (f : Found) (u w x : List ℕ) (i : IsPair u x w) where
  pub finds_pair : (q : Found) → q ≡ found_listed s v e f (get_or x 0 0) (get_or x 1 0) → FindsBy s v e f u f₀ d → FindsBy s v e q w f₀ d
  finds_pair q y a r =
      let b : FindsIn s v e f (listed s (get_or x 0 0 ∷ get_or x 1 0 ∷ w) ++ r) ≡ FindsIn s v e f₀ (listed s d ++ r) = rw i.words at (a r) in
      rw y (find_listed s v e f (get_or x 0 0) (get_or x 1 0) w r ∙ b)

pub finds_all : (s : List ℕ) (v : List Value) (e : Event) (d : List ℕ) (f : Found) (u : List ℕ) → length u < 2 → FindsBy s v e f u Nothing d → FindsListed s v e f d
unfolding choice_found both
finds_all s v e d f u h a r = rw (listed_over s u 0 (omega arith)) at (a r)
