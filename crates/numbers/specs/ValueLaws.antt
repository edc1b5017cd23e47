-- Laws of the two readings of 32 bits and of sums, in the forms that the code's tests and casts have.
use Rattle.std.specs.Prelude.{◌≡◌, refl, Bool, true, false, cond, List, [], ℕ, zero, suc, ◌+◌, ◌-◌, ◌/◌, ◌%◌, ◌^◌, ◌<◌, ◌≤◌, T, ltb, ℤ, pos, negsuc, neg_ℤ, ◌+ℤ◌, ◌-ℤ◌, nat_abs, length, get_or, set, min, not, eqb}
use Rattle.std.proofs.Common.{sym, ◌∙◌, ap, zero-add, add-zero, add-one, arith, le-ltb, ltb-true, ltb-false, leb-false, SFits, Fits, to_z, of_z, Less, Greater, Equal}
use Rattle.std.proofs.Math.Numerals.{add-two, add-three}
use Rattle.std.proofs.Math.IntN.{sub_ℕ, +ℤ_invr}
use Rattle.std.specs.Int.Signed.{mag, non_neg, lt_z, le_z}
use Rattle.std.proofs.Math.ListN.{get_or-eq_default}
use Rattle.std.proofs.lemmas.List.Edits.{sets}
use Rattle.std.specs.Int.{w32, w64, saturate_signed}
use Rattle.std.proofs.lemmas.Int.{to_z_pos, to_z-of_z}
use Rattle.numbers.specs.declared.Value.{Value}
use Rattle.numbers.specs.Values.{value, natural, signed, bits_of, least_value, last_value, nearest, plus, minus, u32_at, u16_to, u32_to, last_u32, one_more, same_value, less_value}
use Rattle.std.specs.Ordering.{int_eq, int_cmp, is_lt, is_ge}
use Rattle.std.proofs.lemmas.Bool.Decides.{same_from_decides, Decides-int_eq}
use Rattle.std.proofs.lemmas.Bool.{eqb-true, eq-eqb}

-- -1 - k
minus_pos : (k : ℕ) → negsuc 0 -ℤ pos k ≡ negsuc k
minus_pos zero = refl
minus_pos (suc n) = ap (λ (m : ℕ). negsuc (suc m)) (zero-add n)

upper_half : (u : ℕ) → 2147483648 ≤ u → signed u ≡ negsuc (4294967295 - u)
upper_half u h = simp (le-ltb u 2147483648 h) (ap negsuc (omega arith))

-- bits of the upper half, turned over
pub turned_over : (u : ℕ) → 2147483648 ≤ u → negsuc 0 -ℤ signed (4294967295 - u) ≡ signed u
turned_over u h =
    ap (λ (z : ℤ). negsuc 0 -ℤ z) (to_z_pos w32 (4294967295 - u) (omega arith)) ∙ minus_pos (4294967295 - u) ∙ sym (upper_half u h)

-- a number that is not negative is its own bits
plain : (z : ℤ) → SFits w32 z → le_z (pos 0) z ≡ true → T (non_neg z) × Fits w32 (nat_abs z) × (nat_abs z ≡ bits_of z)
plain (pos n) f h = (tt, record { fits = let l : n < 2147483648 = f.sfits in omega arith }, refl)
plain (negsuc n) f h = let z : ◌≡◌ {A = ℕ} 0 1 = cc in absurd (omega arith)

pub not_negative : (z : ℤ) → SFits w32 z → le_z (pos 0) (signed (bits_of z)) ≡ true →
    T (non_neg (signed (bits_of z))) × Fits w32 (nat_abs (signed (bits_of z))) × (nat_abs (signed (bits_of z)) ≡ bits_of z)
not_negative z f h = rw (to_z-of_z w32 z f) (plain z f (rw (to_z-of_z w32 z f) at h))

-- what the code makes of a negative number: w is -1 - z
pub record Turned (z w : ℤ) : Type 0 where
  pub fits : SFits w32 w
  pub plain : T (non_neg w)
  pub small : nat_abs w ≤ 2147483647
  pub bits : 4294967295 - nat_abs w ≡ bits_of z

minus_negsuc : (n : ℕ) → negsuc 0 -ℤ negsuc n ≡ pos n
minus_negsuc n = simp (le-ltb (suc n) 1 (omega arith)) (ap pos (omega arith))

turned : (z : ℤ) → SFits w32 z → le_z (pos 0) z ≡ false → Turned z (negsuc 0 -ℤ z)
turned (pos n) f h = absurd (omega (arith, leb-false 0 n h))
turned (negsuc n) f h =
    let l : n < 2147483648 = f.sfits in
    let e : negsuc 0 -ℤ negsuc n ≡ pos n = minus_negsuc n in
    record { fits = rw e (record { sfits = l }); plain = rw e tt; small = rw e (omega arith); bits = rw e (omega arith) }

pub negative : (z : ℤ) → SFits w32 z → le_z (pos 0) (signed (bits_of z)) ≡ false → Turned z (negsuc 0 -ℤ signed (bits_of z))
negative z f h = rw (to_z-of_z w32 z f) (turned z f (rw (to_z-of_z w32 z f) at h))

-- and the same, held as bits and read once more
pub turned_again : (z w : ℤ) → Turned z w → Turned z (signed (bits_of w))
turned_again z w t = rw (to_z-of_z w32 w t.fits) t

-- the size, from the bits
pub size_low : (z : ℤ) → SFits w32 z → bits_of z < 2147483648 → bits_of z ≡ nat_abs z
size_low (pos n) f h = refl
size_low (negsuc n) f h = let l : n < 2147483648 = f.sfits in absurd (omega arith)

pub size_high : (z : ℤ) → SFits w32 z → 2147483648 ≤ bits_of z → 4294967295 - bits_of z + 1 ≡ nat_abs z
size_high (pos n) f h = let l : n < 2147483648 = f.sfits in absurd (omega arith)
size_high (negsuc n) f h = let l : n < 2147483648 = f.sfits in omega arith

-- ---- numbers cut to the range
-- one that is in it stays, and what is left of any other is in it
pub nearest_inside : (z : ℤ) → SFits w32 z → nearest z ≡ z
unfolding nearest
nearest_inside (pos n) f = let l : n < 2147483648 = f.sfits in simp (le-ltb 2147483647 n (omega arith))
nearest_inside (negsuc n) f = let l : n < 2147483648 = f.sfits in simp (le-ltb 2147483647 n (omega arith))

cut_fits : (n : ℕ) (end z : ℤ) → mag end < 2147483648 → mag z ≡ n → SFits w32 (cond (ltb 2147483647 n) end z)
cut_fits n end z f e = go (ltb 2147483647 n) refl
  where
    go : (b : Bool) → ltb 2147483647 n ≡ b → SFits w32 (cond b end z)
    go true q = record { sfits = f }
    go false q = record { sfits = omega (arith, ltb-false 2147483647 n q) }

pub nearest_fits : (z : ℤ) → SFits w32 (nearest z)
unfolding nearest
nearest_fits (pos n) = cut_fits n last_value (pos n) (omega arith) refl
nearest_fits (negsuc n) = cut_fits n least_value (negsuc n) (omega arith) refl

-- "the nearest end": no value is nearer to a number than what is left of it
apart : (a b : ℕ) → nat_abs (sub_ℕ a b) ≡ (a - b) + (b - a)
apart a b = go (ltb a b) refl
  where
    go : (c : Bool) → ltb a b ≡ c → nat_abs (cond c (negsuc (b - suc a)) (pos (a - b))) ≡ (a - b) + (b - a)
    go true q = omega (arith, ltb-true a b q)
    go false q = omega (arith, ltb-false a b q)

past_last : (n : ℕ) (y : ℤ) → SFits w32 y → 2147483647 < n → nat_abs (pos n -ℤ last_value) ≤ nat_abs (pos n -ℤ y)
past_last n (pos zero) f l = omega (arith, apart n 2147483647)
past_last n (pos (suc k)) f l = let h : suc k < 2147483648 = f.sfits in omega (arith, apart n 2147483647, apart n (suc k))
past_last n (negsuc k) f l = omega (arith, apart n 2147483647)

past_least : (n : ℕ) (y : ℤ) → SFits w32 y → 2147483647 < n → nat_abs (negsuc n -ℤ least_value) ≤ nat_abs (negsuc n -ℤ y)
past_least n (pos zero) f l = omega (arith, apart 2147483648 (suc n), apart 0 (suc n))
past_least n (pos (suc k)) f l = omega (arith, apart 2147483648 (suc n))
past_least n (negsuc k) f l = let h : k < 2147483648 = f.sfits in omega (arith, apart 2147483648 (suc n), apart (suc k) (suc n))

cut_nearest : (n : ℕ) (end z y : ℤ) → (2147483647 < n → nat_abs (z -ℤ end) ≤ nat_abs (z -ℤ y)) →
    nat_abs (z -ℤ cond (ltb 2147483647 n) end z) ≤ nat_abs (z -ℤ y)
cut_nearest n end z y h = go (ltb 2147483647 n) refl
  where
    go : (b : Bool) → ltb 2147483647 n ≡ b → nat_abs (z -ℤ cond b end z) ≤ nat_abs (z -ℤ y)
    go true q = h (ltb-true 2147483647 n q)
    go false q = rw (+ℤ_invr z) (omega arith)

pub nearest_nearest : (z y : ℤ) → SFits w32 y → nat_abs (z -ℤ nearest z) ≤ nat_abs (z -ℤ y)
unfolding nearest
nearest_nearest (pos n) y f = cut_nearest n last_value (pos n) y (past_last n y f)
nearest_nearest (negsuc n) y f = cut_nearest n least_value (negsuc n) y (past_least n y f)

cut_again : (z : ℤ) → value (signed (bits_of (nearest z))) ≡ value (nearest z)
cut_again z = ap value (to_z-of_z w32 (nearest z) (nearest_fits z))

-- what the code's tests say: w is the number z, read from 64 bits
module _ (z w : ℤ) (e : w ≡ z) where
  pub cut_low : lt_z w least_value ≡ true → least_value ≡ nearest z
  unfolding nearest
  cut_low h = rw (← e, h)

  pub cut_high : lt_z w least_value ≡ false → lt_z last_value w ≡ true → last_value ≡ nearest z
  unfolding nearest
  cut_high l h = rw (← e, l, h)

  pub not_cut : lt_z w least_value ≡ false → lt_z last_value w ≡ false → w ≡ nearest z
  unfolding nearest
  not_cut l h = rw (← e, l, h)

  pub not_cut_fits : lt_z w least_value ≡ false → lt_z last_value w ≡ false → SFits w32 w
  not_cut_fits l h = rw (not_cut l h) (nearest_fits z)

-- ---- sums in 64 bits
widened : (z : ℤ) → SFits w32 z → SFits w64 z
widened z f = let l : mag z < 2147483648 = f.sfits in record { sfits = omega arith }

-- a value read from 32 bits, and then from 64
pub read_wide : (z : ℤ) → SFits w32 z → SFits w64 (signed (bits_of z))
read_wide z f = rw (to_z-of_z w32 z f) (widened z f)

-- of two numbers whose sizes 32 bits hold
sub_small : (a b : ℕ) → a < 2 ^ 32 → b ≤ 2 ^ 32 → mag (sub_ℕ a b) < 2 ^ 33
sub_small a b l k = go (ltb a b)
  where
    go : (c : Bool) → mag (cond c (negsuc (b - suc a)) (pos (a - b))) < 2 ^ 33
    go true = omega arith
    go false = omega arith

sum_small : (x y : ℤ) → mag x < 2 ^ 32 → mag y < 2 ^ 32 → mag (x +ℤ y) < 2 ^ 33
sum_small (pos a) (pos b) l k = omega arith
sum_small (pos a) (negsuc b) l k = sub_small a (suc b) l k
sum_small (negsuc a) (pos b) l k = sub_small b (suc a) k l
sum_small (negsuc a) (negsuc b) l k = omega arith

negated_small : (y : ℤ) → mag y < 2147483648 → mag (neg_ℤ y) < 2 ^ 32
negated_small (pos zero) k = omega arith
negated_small (pos (suc n)) k = omega arith
negated_small (negsuc n) k = omega arith

-- what the code makes of two values: x and y are their numbers in 64 bits, r is the sum or the difference, cut
module _ (a b : Value) (x y : ℤ) (ex : x ≡ a.0) (ey : y ≡ b.0) (fa : SFits w32 a.0) (fb : SFits w32 b.0) where
  first : to_z w64 (of_z w64 x) ≡ a.0
  first = rw ex (to_z-of_z w64 a.0 (widened a.0 fa))

  second : to_z w64 (of_z w64 y) ≡ b.0
  second = rw ey (to_z-of_z w64 b.0 (widened b.0 fb))

  pub sum_wide : SFits w64 (to_z w64 (of_z w64 x) +ℤ to_z w64 (of_z w64 y))
  sum_wide =
      let l : mag a.0 < 2147483648 = fa.sfits in
      let k : mag b.0 < 2147483648 = fb.sfits in
      rw (first, second) (record { sfits = omega (arith, sum_small a.0 b.0 (omega arith) (omega arith)) })

  pub difference_wide : SFits w64 (to_z w64 (of_z w64 x) -ℤ to_z w64 (of_z w64 y))
  difference_wide =
      let l : mag a.0 < 2147483648 = fa.sfits in
      rw (first, second) (record { sfits = omega (arith, sum_small a.0 (neg_ℤ b.0) (omega arith) (negated_small b.0 fb.sfits)) })

  cut : (r z w : ℤ) → w ≡ z → SFits w64 w → r ≡ nearest (to_z w64 (of_z w64 w)) → value (signed (bits_of r)) ≡ value (nearest z)
  cut r z w q f e = rw (e, to_z-of_z w64 w f, q) (cut_again z)

  pub plus_cut : (r : ℤ) → r ≡ nearest (to_z w64 (of_z w64 (to_z w64 (of_z w64 x) +ℤ to_z w64 (of_z w64 y)))) → value (signed (bits_of r)) ≡ plus a b
  unfolding plus
  plus_cut r = cut r _ _ (rw (first, second)) sum_wide

  pub minus_cut : (r : ℤ) → r ≡ nearest (to_z w64 (of_z w64 (to_z w64 (of_z w64 x) -ℤ to_z w64 (of_z w64 y)))) → value (signed (bits_of r)) ≡ minus a b
  unfolding minus
  minus_cut r = cut r _ _ (rw (first, second)) difference_wide

-- ---- a sum or a difference held as bits and read once more; a sum that fits is exact
module _ (a b : Value) where
  pub plus_again : value (signed (bits_of (plus a b).0)) ≡ plus a b
  unfolding plus
  plus_again = cut_again (a.0 +ℤ b.0)

  pub minus_again : value (signed (bits_of (minus a b).0)) ≡ minus a b
  unfolding minus
  minus_again = cut_again (a.0 -ℤ b.0)

pub plus_small : (a b : ℕ) → a + b < 2147483648 → plus (natural a) (natural b) ≡ natural (a + b)
unfolding plus
plus_small a b h = ap value (nearest_inside (pos (a + b)) (record { sfits = h }))

-- ---- bytes past the end
module _ (s : List ℕ) (p : ℕ) where
  pub byte_past : length s ≤ p → 0 ≡ get_or s p 0
  byte_past h = sym (get_or-eq_default s 0 h)

  pub after_past : (k : ℕ) → length s ≤ p → 0 ≡ get_or s (p + k) 0
  after_past k h = sym (get_or-eq_default s 0 (omega arith))

  pub after_cut : (k : ℕ) → p < length s → length s - p ≤ k → 0 ≡ get_or s (p + k) 0
  after_cut k l h = sym (get_or-eq_default s 0 (omega arith))

  -- a number that begins past the end
  pub u32_past : length s ≤ p → u32_at s p ≡ 0
  u32_past h = rw (← byte_past h, ← after_past 1 h, ← after_past 2 h, ← after_past 3 h)

-- ---- bytes written one by one, as the code does: l is the list before, p the place, n the number
module _ (l : List ℕ) (p n : ℕ) (l₁ l₂ : List ℕ) (e₁ : l₁ ≡ set l (p + 0) (n % 256)) (e₂ : l₂ ≡ set l₁ (p + 1) (n / 256 % 256)) where
  pub two_bytes : l₂ ≡ sets l p (u16_to n [])
  two_bytes = rw (e₂, e₁, add-zero p, add-one p)

  pub four_bytes : (l₃ l₄ : List ℕ) → l₃ ≡ set l₂ (p + 2) (n / 256 / 256 % 256) → l₄ ≡ set l₃ (p + 3) (n / 256 / 256 / 256 % 256) →
      l₄ ≡ sets l p (u32_to n [])
  four_bytes l₃ l₄ e₃ e₄ = rw (e₄, e₃, e₂, e₁, add-zero p, add-one p, add-two p, add-three p)

-- ---- what the library's comparisons and saturating sums are
pub same_by_eq : (a b : Value) → SFits w32 a.0 → SFits w32 b.0 → int_eq a.0 b.0 ≡ same_value a b
same_by_eq a b f g = same_from_decides _ _ (Decides-int_eq a.0 b.0) (same, other)
  where
    same : eqb (bits_of a.0) (bits_of b.0) ≡ true → a.0 ≡ b.0
    same h = sym (to_z-of_z w32 a.0 f) ∙ ap (to_z w32) (eqb-true (bits_of a.0) (bits_of b.0) h) ∙ to_z-of_z w32 b.0 g

    other : a.0 ≡ b.0 → eqb (bits_of a.0) (bits_of b.0) ≡ true
    other e = eq-eqb _ _ (ap (of_z w32) e)

pub less_by_lt : (a b : Value) → is_lt (int_cmp a.0 b.0) ≡ less_value a b
less_by_lt a b = go (lt_z a.0 b.0) (lt_z b.0 a.0)
  where
    go : (c d : Bool) → is_lt (cond c Less (cond d Greater Equal)) ≡ c
    go true d = refl
    go false true = refl
    go false false = refl

pub not_less_by_ge : (a b : Value) → is_ge (int_cmp a.0 b.0) ≡ not (less_value a b)
not_less_by_ge a b = go (lt_z a.0 b.0) (lt_z b.0 a.0)
  where
    go : (c d : Bool) → is_ge (cond c Less (cond d Greater Equal)) ≡ not c
    go true d = refl
    go false true = refl
    go false false = refl

saturated : (z : ℤ) → saturate_signed w32 z ≡ nearest z
unfolding nearest
saturated (pos n) = go (ltb 2147483647 n) refl
  where
    go : (b : Bool) → ltb 2147483647 n ≡ b → pos (min n 2147483647) ≡ cond b last_value (pos n)
    go true q = let l = ltb-true 2147483647 n q in ap pos (omega arith)
    go false q = let l = ltb-false 2147483647 n q in ap pos (omega arith)
saturated (negsuc n) = go (ltb 2147483647 n) refl
  where
    go : (b : Bool) → ltb 2147483647 n ≡ b → negsuc (min n 2147483647) ≡ cond b least_value (cond false last_value (negsuc n))
    go true q = let l = ltb-true 2147483647 n q in ap negsuc (omega arith)
    go false q = let l = ltb-false 2147483647 n q in ap negsuc (omega arith)

pub sum_saturated : (a b : Value) → SFits w32 a.0 → SFits w32 b.0 → (r : ℤ) → r ≡ saturate_signed w32 (signed (bits_of a.0) +ℤ signed (bits_of b.0)) → value (signed (bits_of r)) ≡ plus a b
unfolding plus
sum_saturated a b f g r e = rw (e, saturated (signed (bits_of a.0) +ℤ signed (bits_of b.0)), to_z-of_z w32 a.0 f, to_z-of_z w32 b.0 g) (cut_again (a.0 +ℤ b.0))

pub difference_saturated : (a b : Value) → SFits w32 a.0 → SFits w32 b.0 → (r : ℤ) → r ≡ saturate_signed w32 (signed (bits_of a.0) -ℤ signed (bits_of b.0)) → value (signed (bits_of r)) ≡ minus a b
unfolding minus
difference_saturated a b f g r e = rw (e, saturated (signed (bits_of a.0) -ℤ signed (bits_of b.0)), to_z-of_z w32 a.0 f, to_z-of_z w32 b.0 g) (cut_again (a.0 -ℤ b.0))

pub one_more_saturated : (n r : ℕ) → n ≤ last_u32 → r ≡ min (n + 1) last_u32 → r ≡ one_more n
unfolding one_more
one_more_saturated n r h e = go (ltb n last_u32) refl
  where
    go : (b : Bool) → ltb n last_u32 ≡ b → r ≡ cond b (n + 1) n
    go true q = let l = ltb-true n last_u32 q in omega arith
    go false q = let l = ltb-false n last_u32 q in omega arith
