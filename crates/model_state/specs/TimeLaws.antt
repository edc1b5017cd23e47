-- Laws of lists that differ in what time changes, and of putting it back.
use Rattle.std.specs.Prelude.{◌≡◌, refl, cond, List, ℕ, ◌+◌, ◌-◌, ◌<◌, ◌≤◌, ltb, get_or, set, length}
use Rattle.std.proofs.Common.{sym, ◌∙◌, ap, arith, length-set, get_or-set_same, get_or-set_other, ext_get_or, lt-ltb, le-ltb}
use Rattle.std.proofs.Math.Decide.{ℕ_discrete, dec_lt}
use Rattle.model_format.specs.Model.{max_threads}
use Rattle.model_state.specs.Words.{now_place, spent_base, behavior_base}
use Rattle.model_state.specs.Parts.{spent_stored, SpentWords, BesideTime}

-- ---- what is stored
pub spent_stored_lem : (l x : List ℕ) (t n : ℕ) → t < max_threads → x ≡ set l (spent_base + t) n → x ≡ spent_stored l t n
unfolding spent_stored
spent_stored_lem l x t n h e = e ∙ rw (lt-ltb t max_threads h)

pub spent_unstored : (l : List ℕ) (t n : ℕ) → max_threads ≤ t → l ≡ spent_stored l t n
unfolding spent_stored
spent_unstored l t n h = rw (le-ltb t max_threads h)

pub beside_none : (l : List ℕ) → BesideTime l l
beside_none l = record { size = refl; same = λ p h g. refl }

pub beside_again : (l x y : List ℕ) → BesideTime l x → BesideTime x y → BesideTime l y
beside_again l x y f g = record { size = g.size ∙ f.size; same = λ p h k. g.same p h k ∙ f.same p h k }

pub beside_now : (l x : List ℕ) (n : ℕ) → x ≡ set l now_place n → BesideTime l x
beside_now l x n e = rw e (record { size = length-set l now_place n; same = λ p h g. get_or-set_other l now_place p n 0 h })

pub beside_spent : (l x : List ℕ) (t n : ℕ) → x ≡ spent_stored l t n → BesideTime l x
unfolding spent_stored
beside_spent l x t n e = rw e (go (dec_lt t max_threads))
  where
    go : Dec (t < max_threads) → BesideTime l (cond (ltb t max_threads) (set l (spent_base + t) n) l)
    go (yes h) = rw (lt-ltb t max_threads h) (record { size = length-set l (spent_base + t) n; same = λ p i g. get_or-set_other l (spent_base + t) p n 0 (λ z. g (omega arith) (omega arith)) })
    go (no h) = rw (le-ltb t max_threads (omega arith)) (beside_none l)

-- ---- Spent of the first t threads read into a list of their own
pub record Reading (l words : List ℕ) (t : ℕ) : Type 0 where
  pub size : length words ≡ max_threads
  pub each : (u : ℕ) → u < t → get_or words u 0 ≡ get_or l (spent_base + u) 0

pub reading_next : (l words : List ℕ) (t n : ℕ) → t < max_threads → Reading l words t → n ≡ get_or l (spent_base + t) 0 → Reading l (set words t n) (t + 1)
reading_next l words t n h r e = record { size = length-set words t n ∙ r.size; each = λ u k. go u k (ℕ_discrete u t) }
  where
    go : (u : ℕ) → u < t + 1 → Dec (u ≡ t) → get_or (set words t n) u 0 ≡ get_or l (spent_base + u) 0
    go u k (yes z) = ap (λ (v : ℕ). get_or (set words t n) v 0) z ∙ get_or-set_same words t n 0 (omega (arith, r.size)) ∙ e ∙ ap (λ (v : ℕ). get_or l (spent_base + v) 0) (sym z)
    go u k (no z) = get_or-set_other words t u n 0 z ∙ r.each u (omega arith)

pub reading_all : (l words : List ℕ) (t : ℕ) → max_threads ≤ t → Reading l words t → SpentWords l words
reading_all l words t h r = record { each = λ u k. r.each u (omega arith) }

-- ---- and put back: the first t are
pub record PutBack (l x words : List ℕ) (t : ℕ) : Type 0 where
  pub size : length x ≡ length l
  pub other : (p : ℕ) → (spent_base ≤ p → p < behavior_base → ⊥) → get_or x p 0 ≡ get_or l p 0
  pub each : (u : ℕ) → u < t → spent_base + u < length l → get_or x (spent_base + u) 0 ≡ get_or words u 0

pub back_none : (l words : List ℕ) → PutBack l l words 0
back_none l words = record { size = refl; other = λ p h. refl; each = λ u h. absurd (omega arith) }

pub back_next : (l x y words : List ℕ) (t n : ℕ) → t < max_threads → PutBack l x words t → n ≡ get_or words t 0 → y ≡ set x (spent_base + t) n → PutBack l y words (t + 1)
back_next l x y words t n h b e f = rw f (record {
  size = length-set x (spent_base + t) n ∙ b.size;
  other = λ p g. get_or-set_other x (spent_base + t) p n 0 (λ z. g (omega arith) (omega arith)) ∙ b.other p g;
  each = λ u k i. go u k i (ℕ_discrete u t);
})
  where
    go : (u : ℕ) → u < t + 1 → spent_base + u < length l → Dec (u ≡ t) → get_or (set x (spent_base + t) n) (spent_base + u) 0 ≡ get_or words u 0
    go u k i (yes z) =
        ap (λ (v : ℕ). get_or (set x (spent_base + t) n) (spent_base + v) 0) z ∙ get_or-set_same x (spent_base + t) n 0 (omega (arith, b.size)) ∙ e ∙ ap (λ (v : ℕ). get_or words v 0) (sym z)
    go u k i (no z) = get_or-set_other x (spent_base + t) (spent_base + u) n 0 (λ w. z (omega arith)) ∙ b.each u (omega arith) i

pub back_end : (l x words : List ℕ) (t : ℕ) → max_threads ≤ t → PutBack l x words t → PutBack l x words max_threads
back_end l x words t h b = record { size = b.size; other = b.other; each = λ u k. b.each u (omega arith) }

-- with Now too, the list is as it was
pub back_all : (l x y z words : List ℕ) (n : ℕ) → BesideTime l x → y ≡ set x now_place n → n ≡ get_or l now_place 0 → PutBack y z words max_threads → SpentWords l words → z ≡ l
back_all l x y z words n b e f k w = ext_get_or 0 z l size (λ p i. at p i (dec_lt p spent_base) (dec_lt p behavior_base))
  where
    width : length y ≡ length l
    width = ap length e ∙ length-set x now_place n ∙ b.size

    size : length z ≡ length l
    size = k.size ∙ width

    before : (p : ℕ) → p < length l → (spent_base ≤ p → p < behavior_base → ⊥) → Dec (p ≡ now_place) → get_or z p 0 ≡ get_or l p 0
    before p i g (yes q) = k.other p g ∙ ap (λ (a : List ℕ). get_or a p 0) e ∙ ap (λ (v : ℕ). get_or (set x now_place n) v 0) q ∙
        get_or-set_same x now_place n 0 (omega (arith, b.size)) ∙ f ∙ ap (λ (v : ℕ). get_or l v 0) (sym q)
    before p i g (no q) = k.other p g ∙ ap (λ (a : List ℕ). get_or a p 0) e ∙ get_or-set_other x now_place p n 0 q ∙ b.same p q g

    within : (u : ℕ) → u < max_threads → spent_base + u < length l → get_or z (spent_base + u) 0 ≡ get_or l (spent_base + u) 0
    within u c i = k.each u (omega arith) (omega (arith, width)) ∙ w.each u c

    at : (p : ℕ) → p < length z → Dec (p < spent_base) → Dec (p < behavior_base) → get_or z p 0 ≡ get_or l p 0
    at p i (yes a) d = before p (omega (arith, size)) (λ c v. omega arith) (ℕ_discrete p now_place)
    at p i (no a) (no c) = before p (omega (arith, size)) (λ v d. omega arith) (ℕ_discrete p now_place)
    at p i (no a) (yes c) =
        let u = p - spent_base in
        let q : spent_base + u ≡ p = omega arith in
        ap (λ (v : ℕ). get_or z v 0) (sym q) ∙ within u (omega arith) (omega (arith, size)) ∙ ap (λ (v : ℕ). get_or l v 0) q
