-- Chains over a range of numbers from 0 on: what they answer, as tests over the numbers below n.
use Rattle.std.specs.Prelude.{◌≡◌, ◌+◌, Bool, true, false, ◌&&◌, ◌||◌, ℕ, zero, suc, List, [], ◌∷◌, ◌++◌, map}
use Rattle.std.specs.List.{list_any, list_all, range_with_len}
use Rattle.std.proofs.Common.{refl, sym, ◌∙◌, ap, arith, add-one, zero-add}
use Rattle.std.proofs.lemmas.List.Folds.{list_any-append, list_all-append}
use Rattle.numbers.specs.Lists.{any_below, all_below}

range_more : (a n : ℕ) → range_with_len a (suc n) ≡ range_with_len a n ++ (a + n) ∷ []
range_more a zero = ap (λ (k : ℕ). k ∷ []) (omega arith)
range_more a (suc n) = ap (λ (l : List ℕ). a ∷ l) (range_more (a + 1) n ∙ ap (λ (k : ℕ). range_with_len (a + 1) n ++ k ∷ []) (omega arith))

one_any : (b c : Bool) → (b || (c || false)) ≡ (b || c)
one_any b true = refl
one_any b false = refl

one_all : (b c : Bool) → (b && (c && true)) ≡ (b && c)
one_all b true = refl
one_all b false = refl

pub any_in_range : (n : ℕ) (p : ℕ → Bool) → list_any p (range_with_len 0 n) ≡ any_below n p
unfolding any_below
any_in_range zero p = refl
any_in_range (suc n) p =
    ap (list_any p) (range_more 0 n) ∙ list_any-append p (range_with_len 0 n) ((0 + n) ∷ []) ∙
    rw (zero-add n, any_in_range n p) (one_any (any_below n p) (p n))

pub all_in_range : (n : ℕ) (p : ℕ → Bool) → list_all p (range_with_len 0 n) ≡ all_below n p
unfolding all_below
all_in_range zero p = refl
all_in_range (suc n) p =
    ap (list_all p) (range_more 0 n) ∙ list_all-append p (range_with_len 0 n) ((0 + n) ∷ []) ∙
    rw (zero-add n, all_in_range n p) (one_all (all_below n p) (p n))
