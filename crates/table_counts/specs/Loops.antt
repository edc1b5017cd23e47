-- Loops that add up counts, or numbers, item by item.
use Rattle.std.specs.Prelude.{◌≡◌, ℕ, ◌+◌, ◌*◌, ◌<◌, ◌≤◌}
use Rattle.std.proofs.Common.{sym, ◌∙◌, arith}
use Rattle.numbers.specs.ListLaws.{fold_next, fold_zero}
use Rattle.translation_sizes.specs.Sums.{sum_below}
use Rattle.translation_sizes.specs.SumLaws.{sum_most}
use Rattle.translation_sizes.specs.declared.Counts.{Counts}
use Rattle.translation_sizes.specs.Counts.{nothing, ◌and◌, count_below}
use Rattle.table_counts.specs.Bounds.{AtMost, item_most, kind_most, most, Small, at_most, and_most, kind_most_lem}

-- x is what the first i of n items add
pub record Counting (f : ℕ → Counts) (n i : ℕ) (x : Counts) : Type 0 where
  pub within : i ≤ n
  pub counted : x ≡ count_below i f

module _ (f : ℕ → Counts) (n : ℕ) {x : Counts} where
  pub counting_begins : x ≡ nothing → Counting f n 0 x
  counting_begins e = record { within = omega arith; counted = e ∙ sym (fold_zero (λ i y. y and f i) nothing) }

  module _ {i : ℕ} (h : Counting f n i x) where
    -- the sum and what the next item adds can be added
    pub counting_adds : {y : Counts} → i < n → n ≤ item_most → ((k : ℕ) → k < n → AtMost item_most (f k)) → y ≡ f i → Small x × Small y
    counting_adds l few b e = (
      rw h.counted (at_most kind_most most (count_below i f) (omega arith) (kind_most_lem i f (omega arith) (λ k q. b k (omega arith)))),
      rw e (at_most item_most most (f i) (omega arith) (b i l)),
    )

    pub counting_next : {y z : Counts} → i < n → y ≡ f i → z ≡ x and y → Counting f n (i + 1) z
    counting_next l e q = record { within = omega arith; counted = q ∙ rw (h.counted, e) (sym (fold_next i (λ k r. r and f k) nothing)) }

    pub counting_ends : (k : ℕ) → n ≡ k → n ≤ i → x ≡ count_below k f
    counting_ends k e l = let w = h.within in let q : i ≡ k = omega arith in rw (← q) h.counted

-- x is what the first i of n items add, where `gives k y` says that item k may add y: whatever f is that each item adds, they add it together.
abbrev pub AddsUp : (ℕ → Counts → Type 0) → ℕ → ℕ → Counts → Type 0
AddsUp gives n i x = (f : ℕ → Counts) → ((k : ℕ) (y : Counts) → k < n → gives k y → y ≡ f k) → x ≡ count_below i f

pub record Adding (gives : ℕ → Counts → Type 0) (n i : ℕ) (x : Counts) : Type 0 where
  pub small : AtMost (i * item_most) x
  pub sums : AddsUp gives n i x

module _ (gives : ℕ → Counts → Type 0) (n : ℕ) {x : Counts} where
  pub adding_begins : x ≡ nothing → Adding gives n 0 x
  adding_begins e = record { small = rw e (record { rules = omega arith; clauses = omega arith; atoms = omega arith; updates = omega arith }); sums = λ f h. e ∙ sym (fold_zero (λ i y. y and f i) nothing) }

  module _ {i : ℕ} (h : Adding gives n i x) (l : i < n) {y : Counts} (b : AtMost item_most y) where
    -- the sum and what the next item adds can be added
    pub adding_adds : n ≤ item_most → Small x × Small y
    adding_adds few = let k : i ≤ item_most = omega arith in (at_most (i * item_most) most x (omega arith) h.small, at_most item_most most y (omega arith) b)

    pub adding_next : {z : Counts} → gives i y → z ≡ x and y → Adding gives n (i + 1) z
    adding_next g q = record {
      small = rw q (at_most (i * item_most + item_most) ((i + 1) * item_most) (x and y) (omega arith) (and_most (i * item_most) item_most x y h.small b));
      sums = λ f a. q ∙ rw (h.sums f a, a i y l g) (sym (fold_next i (λ k r. r and f k) nothing));
    }

-- the same of numbers, each at most 2
pub record Summing (f : ℕ → ℕ) (n i x : ℕ) : Type 0 where
  pub within : i ≤ n
  pub summed : x ≡ sum_below i f

module _ (f : ℕ → ℕ) (n : ℕ) where
  pub summing_begins : Summing f n 0 0
  summing_begins = record { within = omega arith; summed = sym (fold_zero (λ i a. a + f i) 0) }

  module _ {i x : ℕ} (h : Summing f n i x) where
    pub summing_few : ((k : ℕ) → f k ≤ 2) → x ≤ i * 2
    summing_few b = rw h.summed (sum_most i 2 f (λ k l. b k))

    -- the sum and what the next item adds can be added
    pub summing_adds : {y : ℕ} → i < n → n ≤ item_most → ((k : ℕ) → f k ≤ 2) → y ≡ f i → x + y ≤ 3 * item_most
    summing_adds l few b e = omega (arith, summing_few b, b i)

    pub summing_next : {y : ℕ} → i < n → y ≡ f i → Summing f n (i + 1) (x + y)
    summing_next l e = record { within = omega arith; summed = rw (h.summed, e) (sym (fold_next i (λ k a. a + f k) 0)) }

    pub summing_ends : (k : ℕ) → n ≡ k → n ≤ i → x ≡ sum_below k f
    summing_ends k e l = let w = h.within in let q : i ≡ k = omega arith in rw (← q) h.summed
