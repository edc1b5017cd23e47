-- What a chain `(0..n).map(f).sum()` adds up to. It needs that the sum fits, and tells it.
use Rattle.std.specs.Prelude.{◌≡◌, refl, ⊤, ℕ, zero, suc, ◌+◌, ◌*◌, ◌<◌, ◌≤◌, List, Option, map, sum}
use Rattle.std.specs.List.{range_with_len, fold}
use Rattle.std.specs.Iterator.{Drains}
use Rattle.std.specs.Iterator.Runs.{EachRunFrom}
use Rattle.std.proofs.Common.{◌∙◌, ap, arith}
use Rattle.std.proofs.lemmas.Iterator.{YieldsList}
use Rattle.std.proofs.lemmas.Iterator.Consumers.{sum_from_yields_List, fits_from_yields_list}
use Rattle.std.proofs.lemmas.List.FromFn.{sum_by-map-range_with_len_more}
use Rattle.numbers.specs.Lists.{fold_below}
use Rattle.translation_sizes.specs.Sums.{sum_below}
use Rattle.translation_sizes.specs.SumLaws.{sum_most}
use Rattle.table_counts.specs.Bounds.{item_most}

sum_in_range : (n : ℕ) (f : ℕ → ℕ) → sum (map f (range_with_len 0 n)) ≡ sum_below n f
unfolding fold_below
sum_in_range zero f = refl
sum_in_range (suc n) f =
    let e : suc n ≡ n + 1 = omega arith in
    ap (λ (k : ℕ). sum (map f (range_with_len 0 k))) e ∙ sum_by-map-range_with_len_more (λ (k : ℕ). k) f 0 n n (omega arith) ∙
    ap (λ (k : ℕ). k + f n) (sum_in_range n f)

-- s is the chain, which gives f of each of the n numbers; m is their count as the definitions have it
module _ {S : Type 0} {steps : S → Option ℕ → S → Type 0} {s : S} {n m : ℕ} (f : ℕ → ℕ) (e : n ≡ m) (y : YieldsList steps (λ x. x) s (map f (range_with_len 0 n))) where
  -- few numbers, each at most 2
  pub sum_fits : (top : ℕ) → m ≤ item_most → ((i : ℕ) → f i ≤ 2) → item_most * 2 < top → EachRunFrom steps s (λ p. fold (λ a x. a + x) 0 p.items < top)
  sum_fits top few b l = fits_from_yields_list s top y (rw (sum_in_range n f, e) (omega (arith, sum_most m 2 f (λ i k. b i))))

  pub sum_told : {r : ℕ} → ((xs : List ℕ) × (⊤ → Drains steps s xs) × (r ≡ fold (λ a x. a + x) 0 xs)) → r ≡ sum_below m f
  sum_told {r} d = sum_from_yields_List s r d y ∙ sum_in_range n f ∙ ap (λ (k : ℕ). sum_below k f) e
