-- Laws of the variables and operands that a model's tags and numbers stand for.
use Rattle.std.specs.Prelude.{◌≡◌, ℕ}
use Rattle.std.proofs.Common.{◌∙◌}
use borrow.Author.Tests.{eq-eqb, ne_eqb}
use Rattle.numbers.specs.Values.{bits_of}
use Rattle.records.specs.declared.Operand.{Operand}
use Rattle.table_format.specs.Variables.{input_var, output_var, local_var}
use Rattle.translation.specs.Parts.{variable}
use Rattle.translation.specs.Rules.{variable_of, operand_of}

module _ (tag n v : ℕ) where
  pub variable_input : tag ≡ 1 → v ≡ input_var n → v ≡ variable_of tag n
  unfolding variable_of
  variable_input e h = h ∙ rw (eq-eqb _ _ e)

  module _ (z : tag ≡ 1 → ⊥) where
    pub variable_local : tag ≡ 2 → v ≡ local_var n → v ≡ variable_of tag n
    unfolding variable_of
    variable_local e h = h ∙ rw (ne_eqb _ _ z, eq-eqb _ _ e)

    pub variable_output : (tag ≡ 2 → ⊥) → v ≡ output_var n → v ≡ variable_of tag n
    unfolding variable_of
    variable_output e h = h ∙ rw (ne_eqb _ _ z, ne_eqb _ _ e)

module _ (o : Operand) where
  pub operand_constant : o.tag ≡ 0 → o ≡ operand_of o
  unfolding operand_of
  operand_constant e = rw (eq-eqb _ _ e)

  pub operand_variable : (n j : ℕ) (r : Operand) → (o.tag ≡ 0 → ⊥) → n ≡ bits_of o.value.0 → j ≡ variable_of o.tag n → r ≡ variable j → r ≡ operand_of o
  unfolding operand_of
  operand_variable n j r z e f h = h ∙ rw (ne_eqb _ _ z, f, e)
