-- Operands that differ, and whose bytes do not: a constant is written by its 32 bits.
use Rattle.std.specs.Prelude.{◌≡◌, refl, List, [], ◌∷◌, ℕ, ◌<◌}
use Rattle.std.proofs.Common.{arith, Fits}
use Rattle.std.specs.Int.{w32}
use mir.ValLaws.{to_z_pos, of_z-to_z}
use Rattle.numbers.specs.declared.Value.{Value}
use Rattle.numbers.specs.Values.{value, signed, natural, bits_of}
use Rattle.records.specs.declared.Operand.{Operand}
use Rattle.table_format.specs.declared.Record.TheVariants.{Atomic, Change}
use Rattle.table_format.specs.Format.{record_to}
use Rattle.table_writer.specs.Wrote.{Wrote}
use Rattle.table_writer.specs.Lists.{wrote_atom, wrote_update}
use Rattle.table_writer.specs.WroteRules.{WroteAtoms, WroteUpdates}
use Rattle.table_writer.specs.Operands.{constant_bits}

pub record SameBytes (o p : Operand) : Type 0 where
  pub tag : o.tag ≡ p.tag
  pub bits : bits_of o.value.0 ≡ bits_of p.value.0

pub same_as : {o p : Operand} → o ≡ p → SameBytes o p
same_as e = rw e (record { tag = refl; bits = refl })

-- its bytes are those of n
constant_bytes : (n : ℕ) → Fits w32 n → SameBytes (constant_bits n) (record { tag = 0; value = natural n })
constant_bytes n f = record { tag = refl; bits = of_z-to_z w32 n f }

pub constant_same : (n : ℕ) (o : Operand) → Fits w32 n → o ≡ constant_bits n → SameBytes o (record { tag = 0; value = natural n })
constant_same n o f e = rw e (constant_bytes n f)

-- ---- v is the value that the code has made of 32 bits

pub variable_is : (j : ℕ) (v : Value) → j < 65536 → v ≡ value (signed j) → ◌≡◌ {A = Operand} (record { tag = 1; value = v }) (record { tag = 1; value = natural j })
variable_is j v h e = let q = to_z_pos w32 j (omega arith) in rw (e, q)

-- ---- what is written of one operand is what would be written of the other
module _ {o p : Operand} (s : SameBytes o p) where
  pub wrote_compared : {d e : List ℕ} {at q : ℕ} (op j : ℕ) → Wrote d at (record_to (Atomic (record { op = op; variable = j; right = o })) []) e q →
      WroteAtoms d at (record { op = op; variable = j; right = p } ∷ []) e q
  unfolding record_to
  wrote_compared op j w = wrote_atom _ (rw (s.tag, s.bits) at w)

  pub wrote_updated : {x y : Operand} {d e : List ℕ} {at q : ℕ} (c w t op : ℕ) → SameBytes x y →
      Wrote d at (record_to (Change (record { condition = c; wanted = w; target = t; op = op; first = o; second = x })) []) e q →
      WroteUpdates d at (record { condition = c; wanted = w; target = t; op = op; first = p; second = y } ∷ []) e q
  unfolding record_to
  wrote_updated c w t op r x = wrote_update _ (rw (s.tag, s.bits, r.tag, r.bits) at x)
