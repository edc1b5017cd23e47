-- What the tests of fields tell: one law for each way in which the code returns.
use Rattle.std.specs.Prelude.{◌≡◌, Bool, true, false, ◌&&◌, ℕ, ◌<◌, ◌≤◌, eqb, ltb, ℤ, pos}
use Rattle.std.proofs.Common.{sym, ◌∙◌, ne_eqb, lt-ltb, le-ltb}
use Rattle.std.specs.Int.Signed.{lt_z, le_z}
use Rattle.numbers.specs.Values.{bits_of}
use Rattle.records.specs.declared.Cause.{Cause}
use Rattle.records.specs.declared.Operand.{Operand}
use Rattle.table_format.specs.declared.Atom.{Atom}
use Rattle.table_format.specs.Variables.{is_variable}
use Rattle.table_format.specs.Reading.{operand_fits, atom_fits, names_variable, judged}

pub variable_named : (z : ℤ) (n : ℕ) (a b : Bool) → n ≡ bits_of z → a ≡ le_z (pos 0) z → b ≡ is_variable n → (a && b) ≡ names_variable z
variable_named z n a b e f g = rw (g, f, e)

module _ (c : Bool) (o : Operand) where
  pub operand_constant : o.tag ≡ 0 → true ≡ operand_fits c o
  unfolding operand_fits
  operand_constant h = rw h

  pub operand_variable : o.tag ≡ 1 → names_variable o.value.0 ≡ operand_fits c o
  unfolding operand_fits
  operand_variable h = rw h

  pub operand_chosen : (o.tag ≡ 0 → ⊥) → (o.tag ≡ 1 → ⊥) → (c && eqb o.tag 2) ≡ operand_fits c o
  unfolding operand_fits
  operand_chosen h k = rw (ne_eqb o.tag 0 h, ne_eqb o.tag 1 k)

module _ (a : Atom) (b r : Bool) (e : b ≡ is_variable a.variable) where
  pub atom_compares : a.op < 6 → r ≡ operand_fits false a.right → (ltb a.op 8 && (b && r)) ≡ atom_fits a
  unfolding atom_fits
  atom_compares h f = rw (← e, lt-ltb a.op 6 h, f)

  pub atom_multiple : 6 ≤ a.op → r ≡ lt_z (pos 0) a.right.value.0 → (ltb a.op 8 && (b && (eqb a.right.tag 0 && r))) ≡ atom_fits a
  unfolding atom_fits
  atom_multiple h f = rw (← e, le-ltb a.op 6 h, f)

-- ---- a record that names what it must where it fits; b tells whether it fits, r is what the code returns
module _ (order names fits : Bool) (b : Bool) (e : b ≡ fits) (r : Cause) where
  pub judged_fits : (fits ≡ true → names ≡ true) → b ≡ true → r ≡ judged order true true → r ≡ judged order names fits
  judged_fits k h f = let q = sym e ∙ h in f ∙ rw (q, k q)

  pub judged_unfit : (n : Bool) → n ≡ names → b ≡ false → r ≡ judged order n false → r ≡ judged order names fits
  judged_unfit n g h f = let q = sym e ∙ h in f ∙ rw (q, g)
