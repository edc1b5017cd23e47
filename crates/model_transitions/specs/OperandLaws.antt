-- Laws of the values of operands, atoms and assignments, in the forms of the code's branches.
use Rattle.std.specs.Prelude.{◌≡◌, Bool, ℕ}
use Rattle.std.proofs.Common.{◌∙◌}
use borrow.Author.Tests.{eq-eqb, ne_eqb}
use Rattle.numbers.specs.declared.Value.{Value}
use Rattle.numbers.specs.Values.{bits_of, compares, combine}
use Rattle.records.specs.declared.Operand.{Operand}
use Rattle.model_format.specs.declared.Atom.{Atom}
use Rattle.model_format.specs.declared.Assignment.{Assignment}
use Rattle.model_semantics.specs.declared.Ports.{Ports}
use Rattle.model_semantics.specs.State.{input_value, local_value}
use Rattle.model_semantics.specs.Effects.{operand_value, left_value, atom_holds, assigned_value}

module _ (p : Ports) (o : Operand) where
  pub operand_constant : o.tag ≡ 0 → o.value ≡ operand_value p o
  unfolding operand_value
  operand_constant e = rw (eq-eqb _ _ e)

  module _ (n i : ℕ) (v : Value) (e : n ≡ bits_of o.value.0) (f : i ≡ n) (c : o.tag ≡ 0 → ⊥) where
    pub operand_input : o.tag ≡ 1 → v ≡ input_value p i → v ≡ operand_value p o
    unfolding operand_value
    operand_input g h = h ∙ rw (f, e, ne_eqb _ _ c, eq-eqb _ _ g)

    pub operand_local : (o.tag ≡ 1 → ⊥) → v ≡ local_value p i → v ≡ operand_value p o
    unfolding operand_value
    operand_local g h = h ∙ rw (f, e, ne_eqb _ _ c, ne_eqb _ _ g)

module _ (p : Ports) (a : Atom) (i : ℕ) (v : Value) (e : i ≡ a.number) where
  pub left_input : a.tag ≡ 1 → v ≡ input_value p i → v ≡ left_value p a
  unfolding left_value
  left_input g h = h ∙ rw (e, eq-eqb _ _ g)

  pub left_local : (a.tag ≡ 1 → ⊥) → v ≡ local_value p i → v ≡ left_value p a
  unfolding left_value
  left_local g h = h ∙ rw (e, ne_eqb _ _ g)

pub atom_by : (p : Ports) (a : Atom) (x y : Value) (r : Bool) → x ≡ left_value p a → y ≡ operand_value p a.right → r ≡ compares a.op x y → r ≡ atom_holds p a
unfolding atom_holds
atom_by p a x y r e f g = g ∙ rw (e, f)

pub assigned_by : (p : Ports) (a : Assignment) (x y v : Value) → x ≡ operand_value p a.first → y ≡ operand_value p a.second → v ≡ combine a.op x y → v ≡ assigned_value p a
unfolding assigned_value
assigned_by p a x y v e f g = g ∙ rw (e, f)
