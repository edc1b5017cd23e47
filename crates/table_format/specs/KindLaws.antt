-- Laws of the kinds that have rules.
use Rattle.std.specs.Prelude.{◌≡◌, refl, Bool, true, false, ◌&&◌, ◌||◌, List, [], ◌∷◌, ℕ, zero, suc, ◌<◌, eqb, leb}
use Rattle.std.proofs.lemmas.Bool.{false≢true, lt-leb}
use Rattle.std.proofs.Common.{arith, ne_eqb, le-leb, eqb-true}
use Rattle.table_format.specs.All.{All}
use Rattle.table_format.specs.RuleKinds.{rule_kinds, is_one_of, has_rules}

-- as the code tests it
pub between_kinds : (kind : ℕ) → (leb 1 kind && leb kind 10) ≡ has_rules kind
unfolding is_one_of
between_kinds zero = refl
between_kinds (suc zero) = refl
between_kinds (suc (suc zero)) = refl
between_kinds (suc (suc (suc zero))) = refl
between_kinds (suc (suc (suc (suc zero)))) = refl
between_kinds (suc (suc (suc (suc (suc zero))))) = refl
between_kinds (suc (suc (suc (suc (suc (suc zero)))))) = refl
between_kinds (suc (suc (suc (suc (suc (suc (suc zero))))))) = refl
between_kinds (suc (suc (suc (suc (suc (suc (suc (suc zero)))))))) = refl
between_kinds (suc (suc (suc (suc (suc (suc (suc (suc (suc zero))))))))) = refl
between_kinds (suc (suc (suc (suc (suc (suc (suc (suc (suc (suc zero)))))))))) = refl
between_kinds (suc (suc (suc (suc (suc (suc (suc (suc (suc (suc (suc k))))))))))) = past (suc (suc (suc (suc (suc (suc (suc (suc (suc (suc (suc k))))))))))) (omega arith)
  where
    past : (n : ℕ) → 10 < n → (leb 1 n && leb n 10) ≡ has_rules n
    past n h = rw (
      le-leb 1 n (omega arith),
      lt-leb n 10 h,
      ne_eqb n 1 (λ e. omega arith),
      ne_eqb n 2 (λ e. omega arith),
      ne_eqb n 3 (λ e. omega arith),
      ne_eqb n 4 (λ e. omega arith),
      ne_eqb n 5 (λ e. omega arith),
      ne_eqb n 6 (λ e. omega arith),
      ne_eqb n 7 (λ e. omega arith),
      ne_eqb n 8 (λ e. omega arith),
      ne_eqb n 9 (λ e. omega arith),
      ne_eqb n 10 (λ e. omega arith),
    )

one_below : (l : List ℕ) (k n : ℕ) → All (λ x. x < n) l → is_one_of l k ≡ true → k < n
unfolding is_one_of
one_below [] k n h e = absurd (false≢true e)
one_below (x ∷ l) k n h e = go (eqb k x) refl (one_below l k n h.1) e
  where
    go : (b : Bool) → eqb k x ≡ b → (is_one_of l k ≡ true → k < n) → (b || is_one_of l k) ≡ true → k < n
    go true q r e = let z = eqb-true k x q in omega (arith, h.0)
    go false q r e = r e

-- a kind that has rules goes into its byte
pub kind_small : (kind : ℕ) → has_rules kind ≡ true → kind < 256
kind_small kind e = one_below rule_kinds kind 256 (omega arith) e
