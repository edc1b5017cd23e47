-- Laws of sums.
use Rattle.std.specs.Prelude.{◌≡◌, refl, List, ℕ, zero, suc, ◌+◌, ◌*◌, ◌<◌, ◌≤◌, length}
use Rattle.std.proofs.Common.{◌∙◌, ap, suc-mul, mul-le-mul, arith, length-append}
use Rattle.std.proofs.Math.Decide.{ℕ_discrete}
use Rattle.numbers.specs.Lists.{fold_below, join_below}
use Rattle.translation_sizes.specs.Sums.{sum_below}

pub sum_plus : (n : ℕ) (f g : ℕ → ℕ) → sum_below n (λ i. f i + g i) ≡ sum_below n f + sum_below n g
unfolding fold_below
sum_plus zero f g = refl
sum_plus (suc n) f g = omega (arith, sum_plus n f g)

-- at most top numbers, each at most c
pub sum_most : (n c : ℕ) (f : ℕ → ℕ) → ((i : ℕ) → i < n → f i ≤ c) → sum_below n f ≤ n * c
unfolding fold_below
sum_most zero c f h = omega arith
sum_most (suc n) c f h = rw (suc-mul n c) (omega (arith, sum_most n c f (λ i l. h i (omega arith)), h n (omega arith)))

pub sum_within : (n top c : ℕ) (f : ℕ → ℕ) → n ≤ top → ((i : ℕ) → i < n → f i ≤ c) → sum_below n f ≤ top * c
sum_within n top c f l h =
    let k : c ≤ c = omega arith in
    omega (arith, sum_most n c f h, mul-le-mul l k)

-- more numbers, a larger sum
pub sum_wider : (n top : ℕ) (f : ℕ → ℕ) → n ≤ top → sum_below n f ≤ sum_below top f
unfolding fold_below
sum_wider n zero f h = let z : n ≡ 0 = omega arith in rw z (omega arith)
sum_wider n (suc top) f h = go (ℕ_discrete n (suc top)) (λ l. sum_wider n top f l)
  where
    go : Dec (n ≡ suc top) → (n ≤ top → sum_below n f ≤ sum_below top f) → sum_below n f ≤ sum_below (suc top) f
    go (yes e) i = rw e (omega arith)
    go (no d) i = omega (arith, i (omega arith))

pub length_join {ℓ} : {A : Type ℓ} (n : ℕ) (f : ℕ → List A) → length (join_below n f) ≡ sum_below n (λ i. length (f i))
unfolding join_below fold_below
length_join zero f = refl
length_join (suc n) f = length-append (join_below n f) (f n) ∙ ap (λ (k : ℕ). k + length (f n)) (length_join n f)
