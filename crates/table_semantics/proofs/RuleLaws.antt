-- Laws of the rules' meaning, one for each way in which the code returns.
use Rattle.std.specs.Prelude.{◌≡◌, refl, Bool, true, false, cond, not, List, [], ◌∷◌, ◌++◌, ℕ, ◌^◌, ◌<◌, ◌≤◌, get_or, nat_abs}
use Rattle.std.proofs.Common.{w32, eq-eqb, ne_eqb, lt-ltb, le-ltb}
use mir.ValLaws.{of_z-to_z}
use Rattle.numbers.specs.declared.Value.{Value}
use Rattle.numbers.specs.Values.{u16_at, value_at, value, signed, bits_of, combine, compares, same_value}
use Rattle.numbers.specs.Multiples.{is_multiple}
use Rattle.records.specs.declared.Operand.{Operand}
use Rattle.records.specs.Format.{operand_at}
use Rattle.table_format.specs.Variables.{no_variable}
use Rattle.table_format.specs.Format.{update_of}
use Rattle.table_format.specs.declared.Update.{Update}
use Rattle.table_semantics.specs.Rules.{value_of, operand_value, holds_op, applies, new_value, writes}

module _ (n : ℕ) (v : List Value) (o : Operand) where
  pub operand_constant : o.tag ≡ 0 → o.value ≡ operand_value n v o
  unfolding operand_value
  operand_constant h = rw h

  pub operand_variable : (j : ℕ) → o.tag ≡ 1 → j ≡ bits_of o.value.0 → value_of v j ≡ operand_value n v o
  unfolding operand_value
  operand_variable j h e = rw (h, e)

  pub operand_length : (o.tag ≡ 0 → ⊥) → (o.tag ≡ 1 → ⊥) → value (signed n) ≡ operand_value n v o
  unfolding operand_value
  operand_length h k = rw (ne_eqb o.tag 0 h, ne_eqb o.tag 1 k)

module _ (op : ℕ) (x y : Value) where
  pub holds_same : op ≡ 0 → same_value x y ≡ holds_op op x y
  unfolding holds_op compares
  holds_same h = rw h

  pub holds_compares : op < 6 → compares op x y ≡ holds_op op x y
  unfolding holds_op
  holds_compares h = rw (lt-ltb op 6 h)

  module _ (h : 6 ≤ op) (m p : ℕ) (e : m ≡ nat_abs x.0) (f : p ≡ bits_of y.0) where
    pub holds_multiple : op ≡ 6 → is_multiple m p ≡ holds_op op x y
    unfolding holds_op
    holds_multiple k = rw (le-ltb op 6 h, eq-eqb op 6 k, e, f)

    pub holds_not_multiple : (op ≡ 6 → ⊥) → not (is_multiple m p) ≡ holds_op op x y
    unfolding holds_op
    holds_not_multiple k = rw (le-ltb op 6 h, ne_eqb op 6 k, e, f)

-- the update that a part x holds, by its fields as the code has read them
module _ (v : List Value) (x : List ℕ) where
  module _ (c : ℕ) (e : c ≡ u16_at x 1) where
    pub applies_always : c ≡ no_variable → true ≡ applies v (update_of x)
    unfolding applies update_of
    applies_always h = rw (← e, eq-eqb c no_variable h)

    pub applies_where : (c ≡ no_variable → ⊥) → (w : ℕ) → w ≡ get_or x 3 0 → w < 2 ^ 32 → (a b : Value) → a ≡ value_of v c → b ≡ value (signed w) →
        same_value a b ≡ applies v (update_of x)
    unfolding applies update_of
    applies_where h w f l a b g i = rw (← e, ne_eqb c no_variable h, g, i, ← f, of_z-to_z w32 w (record { fits = l }))

  module _ (n o s : ℕ) (y a : Value) (eo : o ≡ get_or x 6 0) (es : s ≡ get_or x 7 0) (ey : y ≡ value_at x 8) (ea : a ≡ operand_value n v (record { tag = s; value = y })) where
    pub new_copy : o ≡ 0 → a ≡ new_value n v (update_of x)
    unfolding combine update_of operand_at
    new_copy z = rw (← eo, z, ← es, ← ey, ← ea)

    pub new_combined : (t : ℕ) (z b : Value) → t ≡ get_or x 12 0 → z ≡ value_at x 13 → b ≡ operand_value n v (record { tag = t; value = z }) →
        combine o a b ≡ new_value n v (update_of x)
    unfolding update_of operand_at
    new_combined t z b et ez eb = rw (← eo, ← es, ← ey, ← ea, ← et, ← ez, ← eb)

-- every update reads the old variables
pub writes_first : (n : ℕ) (v : List Value) (u : Update) (l : List Update) → writes n v (u ∷ l) ≡ writes n v (u ∷ []) ++ writes n v l
unfolding writes
writes_first n v u l = go (applies v u)
  where
    go : (b : Bool) → cond b (record { target = u.target; value = new_value n v u } ∷ writes n v l) (writes n v l) ≡
        cond b (record { target = u.target; value = new_value n v u } ∷ []) [] ++ writes n v l
    go true = refl
    go false = refl
