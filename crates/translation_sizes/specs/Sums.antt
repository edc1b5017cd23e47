-- Sums over the numbers below n.
use Rattle.std.specs.Prelude.{ℕ, ◌+◌}
use Rattle.numbers.specs.Lists.{fold_below}

-- f 0 + f 1 + ..
abbrev pub sum_below : ℕ → (ℕ → ℕ) → ℕ
sum_below n f = fold_below n (λ i a. a + f i) 0
