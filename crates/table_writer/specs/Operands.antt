-- Operands as the writer makes them.
use Rattle.std.specs.Prelude.{ℕ}
use Rattle.numbers.specs.Values.{value, signed}
use Rattle.records.specs.declared.Operand.{Operand}

-- The constant that has the bits of n: n itself, or, where n lies past the largest value, n less 2^32.
abbrev pub constant_bits : ℕ → Operand
constant_bits n = record { tag = 0; value = value (signed n) }
