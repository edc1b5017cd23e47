-- Multiples, and the least common multiple by Euclid's greatest common divisor.
use Rattle.std.specs.Prelude.{Bool, false, cond, ℕ, zero, suc, ◌*◌, ◌/◌, ◌%◌, eqb, ltb}

-- n is a multiple of p; of 0 nothing is
unfoldable pub is_multiple : ℕ → ℕ → Bool
is_multiple n p = cond (eqb p 0) false (eqb (n % p) 0)

-- at most f divisions
unfoldable pub gcd_in : ℕ → ℕ → ℕ → ℕ
gcd_in zero a b = a
gcd_in (suc f) a b = let r = gcd_in f b (a % b) in cond (eqb b 0) a r

-- b divisions are enough
abbrev pub gcd : ℕ → ℕ → ℕ
gcd a b = gcd_in b a b

unfoldable pub lcm : ℕ → ℕ → ℕ
lcm a b = a / gcd a b * b

-- The least common multiple of a and b. Once a is above the limit it stays: more numbers make it no smaller.
unfoldable pub lcm_up_to : ℕ → ℕ → ℕ → ℕ
lcm_up_to limit a b = let r = lcm a b in cond (ltb limit a) a r
