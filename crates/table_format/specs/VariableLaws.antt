-- Laws of the variables that are there.
use Rattle.std.specs.Prelude.{◌≡◌, true, ℕ, ◌<◌}
use Rattle.std.proofs.Common.{arith, lt-ltb, ltb-true}
use Rattle.table_format.specs.Variables.{variables, is_variable}

pub variable_there : (n : ℕ) → n < variables → is_variable n ≡ true
unfolding is_variable
variable_there n h = lt-ltb n variables h

-- its number goes into two bytes
pub variable_small : (n : ℕ) → is_variable n ≡ true → n < 65536
unfolding is_variable
variable_small n h = let l = ltb-true n variables h in omega arith
