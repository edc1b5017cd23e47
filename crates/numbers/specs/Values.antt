-- Durations and values: bytes least first, the two readings of 32 bits, sums of VALUEs.
use Rattle.std.specs.Prelude.{Bool, cond, not, List, ◌∷◌, ℕ, ◌+◌, ◌*◌, ◌/◌, ◌%◌, get_or, eqb, ltb, ℤ, pos, negsuc, ◌+ℤ◌, ◌-ℤ◌}
use Rattle.std.specs.Int.Signed.{lt_z}
use Rattle.std.specs.Int.{w32}
use Rattle.std.proofs.Common.{to_z, of_z}
use Rattle.numbers.specs.declared.Duration.{Duration}
use Rattle.numbers.specs.declared.Value.{Value}

abbrev pub duration : ℕ → Duration
duration n = record { 0 = n }

abbrev pub value : ℤ → Value
value z = record { 0 = z }

-- "Integers are least byte first": the numbers at place p
abbrev pub u16_at : List ℕ → ℕ → ℕ
u16_at s p = get_or s p 0 + 256 * get_or s (p + 1) 0

abbrev pub u32_at : List ℕ → ℕ → ℕ
u32_at s p = get_or s p 0 + 256 * get_or s (p + 1) 0 + 65536 * get_or s (p + 2) 0 + 16777216 * get_or s (p + 3) 0

-- and their bytes, before the bytes r
abbrev pub u16_to : ℕ → List ℕ → List ℕ
u16_to n r = n % 256 ∷ n / 256 % 256 ∷ r

abbrev pub u32_to : ℕ → List ℕ → List ℕ
u32_to n r = n % 256 ∷ n / 256 % 256 ∷ n / 256 / 256 % 256 ∷ n / 256 / 256 / 256 % 256 ∷ r

-- an i32 is held as 32 bits: the number that bits stand for, and the bits of a number
abbrev pub signed : ℕ → ℤ
signed n = to_z w32 n

abbrev pub bits_of : ℤ → ℕ
bits_of z = of_z w32 z

abbrev pub duration_at : List ℕ → ℕ → Duration
duration_at s p = duration (u32_at s p)

abbrev pub value_at : List ℕ → ℕ → Value
value_at s p = value (signed (u32_at s p))

-- a natural number as a value
abbrev pub natural : ℕ → Value
natural n = value (pos n)

-- "give the nearest end of the 32-bit range where the sum lies outside" (W6): a number over the integers, cut to that range
abbrev pub least_value : ℤ
least_value = negsuc 2147483647

abbrev pub last_value : ℤ
last_value = pos 2147483647

unfoldable pub nearest : ℤ → ℤ
nearest z = cond (lt_z z least_value) least_value (cond (lt_z last_value z) last_value z)

unfoldable pub plus : Value → Value → Value
plus a b = value (nearest (a.0 +ℤ b.0))

unfoldable pub minus : Value → Value → Value
minus a b = value (nearest (a.0 -ℤ b.0))

-- "op u8 (0 copy the first, 1 add, 2 subtract)", of model assignments and table updates
abbrev pub copy_op : ℕ
copy_op = 0

abbrev pub sum_op : ℕ
sum_op = 1

unfoldable pub combine : ℕ → Value → Value → Value
combine op a b = cond (eqb op copy_op) a (cond (eqb op sum_op) (plus a b) (minus a b))

abbrev pub same_value : Value → Value → Bool
same_value a b = eqb (bits_of a.0) (bits_of b.0)

abbrev pub less_value : Value → Value → Bool
less_value a b = lt_z a.0 b.0

-- "Guard ops: 0 =, 1 ≠, 2 <, 3 ≥, 4 >, 5 ≤"
abbrev pub equals_op : ℕ
equals_op = 0

abbrev pub differs_op : ℕ
differs_op = 1

abbrev pub below_op : ℕ
below_op = 2

abbrev pub at_least_op : ℕ
at_least_op = 3

abbrev pub above_op : ℕ
above_op = 4

abbrev pub at_most_op : ℕ
at_most_op = 5

unfoldable pub compares : ℕ → Value → Value → Bool
compares op a b =
    cond (eqb op equals_op) (same_value a b)
    (cond (eqb op differs_op) (not (same_value a b))
    (cond (eqb op below_op) (less_value a b)
    (cond (eqb op at_least_op) (not (less_value a b))
    (cond (eqb op above_op) (less_value b a) (not (less_value b a))))))

-- one more, for Spent and Missed of a model's thread: 32 bits hold each, so it stays at their last number, which no run from the start
-- reaches
abbrev pub last_u32 : ℕ
last_u32 = 4294967295

unfoldable pub one_more : ℕ → ℕ
one_more n = cond (ltb n last_u32) (n + 1) n
