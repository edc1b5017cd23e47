-- What two words that list a rule have, and words that list none.
use Rattle.std.specs.Prelude.{◌≡◌, Bool, ◌&&◌, List, [], ◌∷◌, ◌++◌, ℕ, suc, ◌+◌, ◌/◌, ◌%◌, ◌<◌, ◌≤◌, get_or, length, drop}
use Rattle.std.proofs.Common.{refl, sym, ◌∙◌, ap, arith, add-one, length-drop, drop-cons, true, false, eqb, eq-eqb, ne_eqb, eqb-true, lt-ltb, le-ltb}
use Rattle.std.proofs.Math.Decide.{ℕ_discrete, dec_lt}
use Rattle.numbers.specs.declared.Value.{Value}
use Rattle.table_format.specs.Variables.{variables}
use Rattle.table_semantics.specs.Rules.{all_hold}
use Rattle.table_rules.specs.At.{clauses_at}
use Rattle.table_index.specs.Index.{is_head, key_at, guard_at, is_listed, listed}
use Rattle.table_rules.specs.Places.{HeadAt}
use Rattle.table_index.specs.Guards.{may_hold, untold, guard_fails, guard_told, never}
use Rattle.table_index.specs.IndexLaws.{head_at}

module _ (s : List ℕ) (w g : ℕ) where
  -- the code's answers
  pub listed_no_head : (b : Bool) → b ≡ is_head s (w / 65536) → b ≡ false → false ≡ is_listed s w g
  unfolding is_listed
  listed_no_head b h z = rw (← h, z)

  module _ (b : Bool) (h : b ≡ is_head s (w / 65536)) (z : b ≡ true) (k : ℕ) (e : k ≡ key_at s (w / 65536)) where
    pub listed_no_key : (k ≡ w % 65536 → ⊥) → false ≡ is_listed s w g
    unfolding is_listed
    listed_no_key n = rw (← h, z, ← e, ne_eqb k (w % 65536) n)

    pub listed_by_guard : k ≡ w % 65536 → (r : ℕ) → r ≡ guard_at s (w / 65536 + 11) → eqb r g ≡ is_listed s w g
    unfolding is_listed
    listed_by_guard n r f = rw (← h, z, ← e, eq-eqb k (w % 65536) n, f)

  -- by the three tests
  pub parts_of : is_listed s w g ≡ true → HeadAt s (w / 65536) × (key_at s (w / 65536) ≡ w % 65536) × (guard_at s (w / 65536 + 11) ≡ g)
  unfolding is_listed
  parts_of = go (is_head s (w / 65536)) (eqb (key_at s (w / 65536)) (w % 65536)) (eqb (guard_at s (w / 65536 + 11)) g) refl refl refl
    where
      go : (a b c : Bool) → is_head s (w / 65536) ≡ a → eqb (key_at s (w / 65536)) (w % 65536) ≡ b → eqb (guard_at s (w / 65536 + 11)) g ≡ c →
          (a && (b && c)) ≡ true → HeadAt s (w / 65536) × (key_at s (w / 65536) ≡ w % 65536) × (guard_at s (w / 65536 + 11) ≡ g)
      go true true true x y z h = (head_at s (w / 65536) x, eqb-true (key_at s (w / 65536)) (w % 65536) y, eqb-true (guard_at s (w / 65536 + 11)) g z)
      go true true false x y z h = never (sym h)
      go true false c x y z h = never (sym h)
      go false b c x y z h = never (sym h)

  pub listed_head : (b : Bool) → b ≡ is_listed s w g → b ≡ true → HeadAt s (w / 65536)
  listed_head b e t = (parts_of (sym e ∙ t)).0

  -- a guard that fails: the rule is not enabled
  pub guard_disables : is_listed s w g ≡ true → (v : List Value) → may_hold v g ≡ false → all_hold v (clauses_at s (w / 65536 + 11)) ≡ false
  guard_disables h v f = guard_fails s (w / 65536 + 11) v (rw (parts_of h).2 f)

  -- one that holds: what it has told of the rule need not be read
  guard_tells : is_listed s w g ≡ true → (v : List Value) → may_hold v g ≡ true → all_hold v (clauses_at s (untold w g)) ≡ all_hold v (clauses_at s (w / 65536 + 11))
  unfolding untold
  guard_tells h v m = go (ℕ_discrete (g / 4294967296) 0) (dec_lt (g / 4294967296) variables)
    where
      go : Dec (g / 4294967296 ≡ 0) → Dec (g / 4294967296 < variables) → all_hold v (clauses_at s (untold w g)) ≡ all_hold v (clauses_at s (w / 65536 + 11))
      go (yes z) l = rw z
      go (no z) (no l) = rw (ne_eqb (g / 4294967296) 0 z, le-ltb (g / 4294967296) variables (omega arith))
      go (no z) (yes l) = rw (ne_eqb (g / 4294967296) 0 z, lt-ltb (g / 4294967296) variables l) (guard_told v g m z l s (w / 65536 + 11) (parts_of h).2)

  module _ (v : List Value) (m : Bool) (e : m ≡ may_hold v g) (t : m ≡ true) where
    pub rest_is_all : (is_listed s w g && all_hold v (clauses_at s (untold w g))) ≡ (is_listed s w g && all_hold v (clauses_at s (w / 65536 + 11)))
    rest_is_all = go (is_listed s w g) refl
      where
        go : (b : Bool) → is_listed s w g ≡ b → (b && all_hold v (clauses_at s (untold w g))) ≡ (b && all_hold v (clauses_at s (w / 65536 + 11)))
        go true h = guard_tells h v (sym e ∙ t)
        go false h = refl

  -- the code's answers
  module _ (v : List Value) (u : ℕ) (e : u ≡ untold w g) (b : Bool) (q : b ≡ all_hold v (clauses_at s u)) where
    pub rest_fails : b ≡ false → false ≡ (is_listed s w g && all_hold v (clauses_at s (untold w g)))
    rest_fails z = go (is_listed s w g)
      where
        go : (a : Bool) → false ≡ (a && all_hold v (clauses_at s (untold w g)))
        go true = sym z ∙ q ∙ ap (λ (n : ℕ). all_hold v (clauses_at s n)) e
        go false = refl

    pub rest_holds : b ≡ true → (r : Bool) → r ≡ is_listed s w g → r ≡ (is_listed s w g && all_hold v (clauses_at s (untold w g)))
    rest_holds z r h = let y : all_hold v (clauses_at s (untold w g)) ≡ true = sym (sym z ∙ q ∙ ap (λ (n : ℕ). all_hold v (clauses_at s n)) e) in rw (← h, y) (go r)
      where
        go : (a : Bool) → a ≡ (a && true)
        go true = refl
        go false = refl

-- ---- a loop over words, two at a time: those from i on
pub dropped : (d : List ℕ) (i : ℕ) → i + 1 < length d → drop i d ≡ get_or d i 0 ∷ get_or d (i + 1) 0 ∷ drop (i + 2) d
dropped d i h =
    let a : i + 1 ≡ suc i = add-one i in
    let b : i + 2 ≡ suc (i + 1) = omega arith in
    drop-cons d i 0 (omega arith) ∙ ap (λ (r : List ℕ). get_or d i 0 ∷ r) (rw (← a, b) (drop-cons d (i + 1) 0 h))

pub listed_over : (s d : List ℕ) (i : ℕ) → length d ≤ i + 1 → listed s (drop i d) ≡ []
unfolding listed
listed_over s d i h = go (drop i d) (let q = length-drop i d in omega arith)
  where
    go : (l : List ℕ) → length l ≤ 1 → listed s l ≡ []
    go [] h = refl
    go (w ∷ []) h = refl
    go (w ∷ g ∷ l) h = absurd (omega arith)

-- ---- by the library's chunks: x are two words of those that are left, u, and w what is left then
pub record IsPair (u x w : List ℕ) : Type 0 where
  pub size : length x ≡ 2
  pub words : u ≡ get_or x 0 0 ∷ get_or x 1 0 ∷ w

pub pair_words : (u x w : List ℕ) → u ≡ x ++ w → length x ≡ 2 → IsPair u x w
pair_words u [] w e h = absurd (omega arith)
pair_words u (a ∷ []) w e h = absurd (omega arith)
pair_words u (a ∷ b ∷ []) w e h = record { size = refl; words = e }
pair_words u (a ∷ b ∷ k ∷ l) w e h = absurd (omega arith)
