-- Laws of multiples: the greatest common divisor divides both and is divided by every common one, so the least common multiple is what its name says.
use Rattle.std.specs.Prelude.{◌≡◌, refl, true, false, cond, ℕ, zero, suc, ◌+◌, ◌*◌, ◌/◌, ◌%◌, ◌^◌, ◌<◌, ◌≤◌, eqb}
use Rattle.std.proofs.Common.{sym, ◌∙◌, ap, subst, true≢false, mod-lt, div-le_self, mul-le-mul, mul_comm, mul_assoc, mul_right_comm, mul-add, mul-pos, arith, eq-eqb, ne_eqb, lt-ltb, le-ltb, eqb-true}
use Rattle.std.specs.Int.{◌∣◌}
use Rattle.std.proofs.Math.Nat.{div-zero, mod-add-div, dvd_refl, dvd-zero, dvd-mul_left, dvd-mul_right, dvd-mul_right_of_dvd, dvd-mod_iff, dvd-add_iff_left, mod-eq-zero_of_dvd, dvd_of_mod-eq-zero, mul-div_cancel', div-mul_cancel, mul-dvd-mul_left, mul-dvd-mul_right, dvd_of_mul-dvd-mul_right, pos_of_dvd_of_pos}
use Rattle.std.proofs.Math.Decide.{ℕ_discrete}
use Rattle.numbers.specs.Multiples.{is_multiple, gcd_in, gcd, lcm, lcm_up_to}

-- ---- laws

-- more divisions than b change nothing
pub enough : (f g a b : ℕ) → b ≤ f → b ≤ g → gcd_in f a b ≡ gcd_in g a b
unfolding gcd_in
enough zero zero a b p q = refl
enough zero (suc g) a b p q = let z : b ≡ 0 = omega arith in rw z
enough (suc f) zero a b p q = let z : b ≡ 0 = omega arith in rw z
enough (suc f) (suc g) a b p q = go (λ l k. enough f g b (a % b) l k) (ℕ_discrete b 0)
  where
    go : (a % b ≤ f → a % b ≤ g → gcd_in f b (a % b) ≡ gcd_in g b (a % b)) → Dec (b ≡ 0) →
        cond (eqb b 0) a (gcd_in f b (a % b)) ≡ cond (eqb b 0) a (gcd_in g b (a % b))
    go ih (yes e) = rw (eq-eqb b 0 e)
    go ih (no n) =
        let l : a % b < b = mod-lt a (omega arith) in
        rw (ih (omega arith) (omega arith))

pub gcd_end : (a b : ℕ) → b ≡ 0 → gcd a b ≡ a
unfolding gcd_in
gcd_end a b e = rw e

pub gcd_step : (a b : ℕ) → (b ≡ 0 → ⊥) → gcd b (a % b) ≡ gcd a b
unfolding gcd_in
gcd_step a zero n = absurd (n refl)
gcd_step a (suc b) n =
    let l : a % suc b < suc b = mod-lt a (omega arith) in
    rw (ne_eqb (suc b) 0 n) (enough (a % suc b) b (suc b) (a % suc b) (omega arith) (omega arith))

pub multiple_of_none : (n p : ℕ) → p ≡ 0 → false ≡ is_multiple n p
unfolding is_multiple
multiple_of_none n p e = rw (eq-eqb p 0 e)

pub multiple_by_rest : (n p : ℕ) → (p ≡ 0 → ⊥) → eqb (n % p) 0 ≡ is_multiple n p
unfolding is_multiple
multiple_by_rest n p e = rw (ne_eqb p 0 e)

-- ---- the least common multiple is one
-- being a multiple, as the logic's library has it
pub multiple_divides : (n p : ℕ) → is_multiple n p ≡ true → p ∣ n
multiple_divides n zero e = absurd (true≢false (sym e ∙ sym (multiple_of_none n 0 refl)))
multiple_divides n (suc p) e = dvd_of_mod-eq-zero (suc p) (eqb-true (n % suc p) 0 (multiple_by_rest n (suc p) (λ z. omega arith) ∙ e))

pub divides_multiple : (n p : ℕ) → 1 ≤ p → p ∣ n → is_multiple n p ≡ true
divides_multiple n p h d = sym (multiple_by_rest n p (λ z. omega arith)) ∙ eq-eqb (n % p) 0 (mod-eq-zero_of_dvd p d)

gcd_in_divides : (f a b : ℕ) → b ≤ f → (gcd_in f a b ∣ a) × (gcd_in f a b ∣ b)
unfolding gcd_in
gcd_in_divides zero a b h = let z : b ≡ 0 = omega arith in rw z (dvd_refl a, dvd-zero a)
gcd_in_divides (suc f) a b h = go (gcd_in_divides f b (a % b)) (ℕ_discrete b 0)
  where
    go : (a % b ≤ f → (gcd_in f b (a % b) ∣ b) × (gcd_in f b (a % b) ∣ a % b)) → Dec (b ≡ 0) →
        (cond (eqb b 0) a (gcd_in f b (a % b)) ∣ a) × (cond (eqb b 0) a (gcd_in f b (a % b)) ∣ b)
    go ih (yes e) = rw (eq-eqb b 0 e) (dvd_refl a, subst (λ (x : ℕ). a ∣ x) (sym e) (dvd-zero a))
    go ih (no n) =
        let l : a % b < b = mod-lt a (omega arith) in
        let d = ih (omega arith) in
        rw (ne_eqb b 0 n) ((dvd-mod_iff (gcd_in f b (a % b)) d.0).0 d.1, d.0)

gcd_divides : (a b : ℕ) → (gcd a b ∣ a) × (gcd a b ∣ b)
gcd_divides a b = gcd_in_divides b a b (omega arith)

-- what divides n a and n b divides n gcd; so, with n = 1, every common divisor divides it
gcd_in_greatest : (f a b n d : ℕ) → d ∣ n * a → d ∣ n * b → d ∣ n * gcd_in f a b
unfolding gcd_in
gcd_in_greatest zero a b n d p q = p
gcd_in_greatest (suc f) a b n d p q = go (gcd_in_greatest f b (a % b) n d q) (ℕ_discrete b 0)
  where
    rest : d ∣ n * (a % b)
    rest =
        let e : n * a ≡ n * (a % b) + n * b * (a / b) =
        ap (λ (x : ℕ). n * x) (sym (mod-add-div a b)) ∙ mul-add n (a % b) (b * (a / b)) ∙ ap (λ (x : ℕ). n * (a % b) + x) (sym (mul_assoc n b (a / b))) in
        (dvd-add_iff_left d (dvd-mul_right_of_dvd d q (a / b))).1 (subst (λ (x : ℕ). d ∣ x) e p)

    go : (d ∣ n * (a % b) → d ∣ n * gcd_in f b (a % b)) → Dec (b ≡ 0) → d ∣ n * cond (eqb b 0) a (gcd_in f b (a % b))
    go ih (yes e) = rw (eq-eqb b 0 e) p
    go ih (no z) = rw (ne_eqb b 0 z) (ih rest)

gcd_positive : (a b : ℕ) → 1 ≤ a → 1 ≤ gcd a b
gcd_positive a b h = pos_of_dvd_of_pos (gcd_divides a b).0 h

pub lcm_divided : (a b : ℕ) → (a ∣ lcm a b) × (b ∣ lcm a b)
unfolding lcm
lcm_divided a b =
    let d = gcd_divides a b in
    let e : a * (b / gcd a b) ≡ a / gcd a b * b =
    ap (λ (x : ℕ). x * (b / gcd a b)) (sym (div-mul_cancel (gcd a b) d.0)) ∙ mul_assoc (a / gcd a b) (gcd a b) (b / gcd a b) ∙ ap (λ (x : ℕ). a / gcd a b * x) (mul-div_cancel' (gcd a b) d.1) in
    (subst (λ (x : ℕ). a ∣ x) e (dvd-mul_right a (b / gcd a b)), dvd-mul_left b (a / gcd a b))

pub lcm_divides : (a b n : ℕ) → 1 ≤ a → a ∣ n → b ∣ n → lcm a b ∣ n
unfolding lcm
lcm_divides a b n h p q =
    let d = gcd_divides a b in
    let e : a * b ≡ a / gcd a b * b * gcd a b = ap (λ (x : ℕ). x * b) (sym (div-mul_cancel (gcd a b) d.0)) ∙ mul_right_comm (a / gcd a b) (gcd a b) b in
    let u : a * b ∣ n * a = subst (λ (x : ℕ). a * b ∣ x) (mul_comm a n) (mul-dvd-mul_left b a q) in
    let v : a * b ∣ n * b = mul-dvd-mul_right a p b in
    dvd_of_mul-dvd-mul_right (a / gcd a b * b) (gcd_positive a b h) (subst (λ (x : ℕ). x ∣ n * gcd a b) e (gcd_in_greatest b a b n (a * b) u v))

pub lcm_positive : (a b : ℕ) → 1 ≤ a → 1 ≤ b → 1 ≤ lcm a b
lcm_positive a b h k = pos_of_dvd_of_pos (lcm_divides a b (a * b) h (dvd-mul_right a b) (dvd-mul_left b a)) (mul-pos h k)

pub lcm_is_common : (a b : ℕ) → 1 ≤ a → 1 ≤ b → (is_multiple (lcm a b) a ≡ true) × (is_multiple (lcm a b) b ≡ true)
lcm_is_common a b h k = let d = lcm_divided a b in (divides_multiple (lcm a b) a h d.0, divides_multiple (lcm a b) b k d.1)

pub lcm_is_least : (a b n : ℕ) → 1 ≤ a → 1 ≤ b → is_multiple n a ≡ true → is_multiple n b ≡ true → is_multiple n (lcm a b) ≡ true
lcm_is_least a b n h k p q = divides_multiple n (lcm a b) (lcm_positive a b h k) (lcm_divides a b n h (multiple_divides n a p) (multiple_divides n b q))

gcd_of_multiple : (a b : ℕ) → is_multiple a b ≡ true → gcd a b ≡ b
gcd_of_multiple a zero e = absurd (true≢false (sym e ∙ sym (multiple_of_none a 0 refl)))
gcd_of_multiple a (suc b) e =
    let r : a % suc b ≡ 0 = eqb-true (a % suc b) 0 (multiple_by_rest a (suc b) (λ z. omega arith) ∙ e) in
    sym (gcd_step a (suc b) (λ z. omega arith)) ∙ gcd_end (suc b) (a % suc b) r

-- g is the greatest common divisor that the code has found
module _ (limit a b : ℕ) where
  pub lcm_above : limit < a → a ≡ lcm_up_to limit a b
  unfolding lcm_up_to
  lcm_above h = rw (lt-ltb limit a h)

  -- a multiple of b is the least one of both
  pub lcm_there : a ≤ limit → true ≡ is_multiple a b → a ≡ lcm_up_to limit a b
  unfolding lcm_up_to lcm
  lcm_there h e = rw (le-ltb limit a h, gcd_of_multiple a b (sym e)) (sym (div-mul_cancel b (multiple_divides a b (sym e))))

  pub lcm_same : a ≤ limit → a ≡ b → a ≡ lcm_up_to limit a b
  unfolding lcm_up_to lcm gcd_in
  lcm_same h e = go (ℕ_discrete b 0)
    where
      go : Dec (b ≡ 0) → a ≡ lcm_up_to limit a b
      go (yes z) = rw (le-ltb limit a h, e, z)
      go (no n) = lcm_there h (sym (divides_multiple a b (omega arith) (subst (λ (x : ℕ). b ∣ x) (sym e) (dvd_refl b))))

  pub lcm_none : (g : ℕ) → a ≤ limit → g ≡ gcd a b → g ≡ 0 → 0 ≡ lcm_up_to limit a b
  unfolding lcm_up_to lcm
  lcm_none g h e z = rw (le-ltb limit a h, ← e, z, div-zero) (omega arith)

  pub lcm_some : (g : ℕ) → a ≤ limit → g ≡ gcd a b → a / g * b ≡ lcm_up_to limit a b
  unfolding lcm_up_to lcm
  lcm_some g h e = rw (le-ltb limit a h, ← e)

  -- under a limit of 32 bits the product has room in 64
  pub lcm_fits : (g : ℕ) → a ≤ limit → limit < 2 ^ 32 → b < 2 ^ 32 → a / g * b < 2 ^ 64
  lcm_fits g h l k =
      let d = div-le_self a g in
      let q : a / g ≤ 4294967295 = omega arith in
      let r : b ≤ 4294967295 = omega arith in
      omega (arith, mul-le-mul q r)
