-- Laws of items that stand one after the other in a list, each number cut to the width of its field.
use Rattle.std.specs.Prelude.{◌≡◌, refl, cond, List, [], ◌∷◌, ◌++◌, ℕ, zero, suc, ◌+◌, ◌*◌, ◌%◌, ◌<◌, ◌≤◌, eqb, get_or, set, take, drop, length}
use Rattle.std.proofs.Common.{sym, ◌∙◌, ap, subst, append_assoc, append-nil, arith, suc-mul, zero-mul, zero-add, length-set, length-append, length-drop, take-suc, take-add, take_all, take_at, drop_at, get_or-take, get_or-drop, get_or-set_same, get_or-set_other, length-take-le, drop-drop, ne_eqb}
use Rattle.std.proofs.Math.Decide.{ℕ_discrete}
use Rattle.std.proofs.Math.ListN.{get_or-eq_default}
use Rattle.numbers.specs.Lists.{list_below, join_below}
use Rattle.model_settling.specs.ModelWords.{joined}
use Rattle.state_settling.specs.Settled.{part_put}

-- ---- one number; a width of 0 leaves it whole
unfoldable pub cut_to : ℕ → ℕ → ℕ
cut_to width n = cond (eqb width 0) n (n % width)

pub left_whole : (w n : ℕ) → w ≡ 0 → n ≡ cut_to w n
unfolding cut_to
left_whole w n e = rw e

pub cut_short : (w n : ℕ) → (w ≡ 0 → ⊥) → n % w ≡ cut_to w n
unfolding cut_to
cut_short w n e = rw (ne_eqb w 0 e)

-- ---- a loop over items: the first i numbers of x are cut
pub record CutBelow (widths l x : List ℕ) (i : ℕ) : Type 0 where
  pub size : length x ≡ length l
  pub done : (p : ℕ) → p < i → p < length l → get_or x p 0 ≡ cut_to (get_or widths (p % length widths) 0) (get_or l p 0)
  pub rest : (p : ℕ) → i ≤ p → get_or x p 0 ≡ get_or l p 0

abbrev pub CutBy : List ℕ → List ℕ → List ℕ → Type 0
CutBy widths l x = CutBelow widths l x (length l)

pub none_cut : (w l : List ℕ) → CutBelow w l l 0
none_cut w l = record { size = refl; done = λ p h. absurd (omega arith); rest = λ p h. refl }

pub one_cut : {w l x : List ℕ} (i : ℕ) {n : ℕ} → CutBelow w l x i → i < length l → n ≡ cut_to (get_or w (i % length w) 0) (get_or x i 0) → CutBelow w l (set x i n) (i + 1)
one_cut {w} {l} {x} i {n} c h e = record {
  size = length-set x i n ∙ c.size;
  done = λ p k b. go p k b (ℕ_discrete p i);
  rest = λ p k. get_or-set_other x i p n 0 (λ z. omega arith) ∙ c.rest p (omega arith);
}
  where
    go : (p : ℕ) → p < i + 1 → p < length l → Dec (p ≡ i) → get_or (set x i n) p 0 ≡ cut_to (get_or w (p % length w) 0) (get_or l p 0)
    go p k b (yes z) = rw z (get_or-set_same x i n 0 (omega (arith, c.size)) ∙ e ∙ ap (cut_to (get_or w (i % length w) 0)) (c.rest i (omega arith)))
    go p k b (no z) = get_or-set_other x i p n 0 z ∙ c.done p (omega arith) b

pub all_cut : {w l x : List ℕ} (i : ℕ) → length l ≤ i → CutBelow w l x i → CutBy w l x
all_cut {w} {l} {x} i h c = record { size = c.size; done = λ p k b. c.done p (omega arith) b; rest = past }
  where
    past : (p : ℕ) → length l ≤ p → get_or x p 0 ≡ get_or l p 0
    past p k = get_or-eq_default x 0 (omega (arith, c.size)) ∙ sym (get_or-eq_default l 0 k)

-- ---- items of z numbers each: the numbers of item i, and those of all
fields : (z : ℕ) (x : List ℕ) (p : ℕ) → p + z ≤ length x → take z (drop p x) ≡ list_below z (λ k. get_or x (p + k) 0)
unfolding list_below
fields zero x p h = refl
fields (suc z) x p h =
    take-suc (drop p x) z 0 (omega (arith, length-drop p x)) ∙
    ap (λ (r : List ℕ). r ++ (get_or (drop p x) z 0 ∷ [])) (fields z x p (omega arith)) ∙
    ap (λ (n : ℕ). list_below z (λ k. get_or x (p + k) 0) ++ (n ∷ [])) (get_or-drop p x z 0)

list_same : (z : ℕ) (f g : ℕ → ℕ) → ((k : ℕ) → k < z → f k ≡ g k) → list_below z f ≡ list_below z g
unfolding list_below
list_same zero f g e = refl
list_same (suc z) f g e = ap (λ (r : List ℕ). r ++ (f z ∷ [])) (list_same z f g (λ k h. e k (omega arith))) ∙ ap (λ (n : ℕ). list_below z g ++ (n ∷ [])) (e z (omega arith))

join_items : (z n : ℕ) (x : List ℕ) (f : ℕ → List ℕ) → ((i : ℕ) → i < n → take z (drop (i * z) x) ≡ f i) → take (n * z) x ≡ join_below n f
unfolding join_below
join_items z zero x f e = ap (λ (k : ℕ). take k x) (zero-mul z)
join_items z (suc n) x f e =
    ap (λ (k : ℕ). take k x) (suc-mul n z) ∙ take-add (n * z) z x ∙
    ap (λ (r : List ℕ). r ++ take z (drop (n * z) x)) (join_items z n x f (λ i h. e i (omega arith))) ∙
    ap (λ (r : List ℕ). join_below n f ++ r) (e n (omega arith))

-- lists of items, joined
join_append : {A : Type 0} (f : A → List ℕ) (a b : List A) → joined f (a ++ b) ≡ joined f a ++ joined f b
unfolding joined
join_append f [] b = refl
join_append f (x ∷ a) b = ap (λ (r : List ℕ). f x ++ r) (join_append f a b) ∙ sym (append_assoc (f x) (joined f a) (joined f b))

pub join_listed : {A : Type 0} (f : A → List ℕ) (n : ℕ) (g : ℕ → A) → join_below n (λ i. f (g i)) ≡ joined f (list_below n g)
unfolding join_below joined list_below
join_listed f zero g = refl
join_listed f (suc n) g =
    ap (λ (r : List ℕ). r ++ f (g n)) (join_listed f n g) ∙ ap (λ (r : List ℕ). joined f (list_below n g) ++ r) (sym (append-nil (f (g n)))) ∙
    sym (join_append f (list_below n g) (g n ∷ []))

pub join_singly : (n : ℕ) (g : ℕ → ℕ) → join_below n (λ i. g i ∷ []) ≡ list_below n g
unfolding join_below list_below
join_singly zero g = refl
join_singly (suc n) g = ap (λ (r : List ℕ). r ++ (g n ∷ [])) (join_singly n g)

-- ---- a part of a list that is cut: n items of as many numbers as there are widths, from b on
abbrev pub item_cut : List ℕ → List ℕ → ℕ → List ℕ
item_cut w l q = list_below (length w) (λ k. cut_to (get_or w k 0) (get_or l (q + k) 0))

pub items_cut : (w l : List ℕ) (b n : ℕ) {y : List ℕ} → b + n * length w ≤ length l → ((i k : ℕ) → k < length w → (i * length w + k) % length w ≡ k) →
    ((i : ℕ) → i < n → i * length w + length w ≤ n * length w) → CutBy w (take (n * length w) (drop b l)) y → y ≡ join_below n (λ i. item_cut w l (b + i * length w))
items_cut w l b n {y} h m t c = sym (take_all (n * length w) y (omega (arith, c.size, width))) ∙ join_items (length w) n y (λ i. item_cut w l (b + i * length w)) each
  where
    width : length (take (n * length w) (drop b l)) ≡ n * length w
    width = length-take-le (n * length w) (drop b l) (omega (arith, length-drop b l))

    field : (i : ℕ) → i < n → (k : ℕ) → k < length w → get_or y (i * length w + k) 0 ≡ cut_to (get_or w k 0) (get_or l (b + i * length w + k) 0)
    field i p k q =
        let v = t i p in
        c.done (i * length w + k) (omega (arith, width)) (omega (arith, width)) ∙
        ap (λ (j : ℕ). cut_to (get_or w j 0) (get_or (take (n * length w) (drop b l)) (i * length w + k) 0)) (m i k q) ∙
        ap (cut_to (get_or w k 0)) (get_or-take (n * length w) (drop b l) (i * length w + k) 0 (omega arith) ∙ get_or-drop b l (i * length w + k) 0 ∙ ap (λ (j : ℕ). get_or l j 0) (omega arith))

    each : (i : ℕ) → i < n → take (length w) (drop (i * length w) y) ≡ item_cut w l (b + i * length w)
    each i p = let v = t i p in fields (length w) y (i * length w) (omega (arith, c.size, width)) ∙ list_same (length w) (λ k. get_or y (i * length w + k) 0) (λ k. cut_to (get_or w k 0) (get_or l (b + i * length w + k) 0)) (field i p)

-- ---- the parts of a list one after the other: those of l before b have become p
pub record Upto (b : ℕ) (l x p : List ℕ) : Type 0 where
  pub split : x ≡ p ++ drop b l
  pub width : length p ≡ b

pub from_start : (l : List ℕ) → Upto 0 l l []
from_start l = record { split = refl; width = refl }

module _ (b k : ℕ) {l x p : List ℕ} (u : Upto b l x p) where
  part_left : take k (drop b x) ≡ take k (drop b l)
  part_left = ap (λ (r : List ℕ). take k (drop b r)) u.split ∙ ap (take k) (drop_at p (drop b l) b u.width)

  part_done : {y n : List ℕ} → y ≡ n → length y ≡ k → Upto (b + k) l (part_put b k x y) (p ++ n)
  part_done {y} {n} q v = record {
    split =
        ap (λ (r : List ℕ). take b r ++ (y ++ drop k (drop b r))) u.split ∙
        ap (λ (r : List ℕ). r ++ (y ++ drop k (drop b (p ++ drop b l)))) (take_at p (drop b l) b u.width) ∙
        ap (λ (r : List ℕ). p ++ (y ++ drop k r)) (drop_at p (drop b l) b u.width) ∙
        ap (λ (r : List ℕ). p ++ (y ++ r)) (drop-drop k b l) ∙ ap (λ (r : List ℕ). p ++ (r ++ drop (b + k) l)) q ∙ sym (append_assoc p n (drop (b + k) l));
    width = length-append p n ∙ (let d = u.width in let c : length n ≡ k = ap length (sym q) ∙ v in omega arith);
  }

-- ---- the items of one kind: n of them, of as many numbers as there are widths
join_same : (n : ℕ) (f g : ℕ → List ℕ) → ((i : ℕ) → f i ≡ g i) → join_below n f ≡ join_below n g
unfolding join_below
join_same zero f g e = refl
join_same (suc n) f g e = ap (λ (r : List ℕ). r ++ f n) (join_same n f g e) ∙ ap (λ (r : List ℕ). join_below n g ++ r) (e n)

module _ (w : List ℕ) (b n : ℕ) {l x p y : List ℕ} (u : Upto b l x p) (h : b + n * length w ≤ length l) (m : (i k : ℕ) → k < length w → (i * length w + k) % length w ≡ k)
    (t : (i : ℕ) → i < n → i * length w + length w ≤ n * length w) (c : CutBy w (take (n * length w) (drop b x)) y) where
  there : y ≡ join_below n (λ i. item_cut w l (b + i * length w))
  there = items_cut w l b n h m t (subst (λ (r : List ℕ). CutBy w r y) (part_left b (n * length w) u) c)

  many : length y ≡ n * length w
  many = c.size ∙ ap length (part_left b (n * length w) u) ∙ length-take-le (n * length w) (drop b l) (omega (arith, length-drop b l))

  pub kind_done : {A : Type 0} (fs : A → List ℕ) (g : ℕ → A) → ((i : ℕ) → item_cut w l (b + i * length w) ≡ fs (g i)) →
      Upto (b + n * length w) l (part_put b (n * length w) x y) (p ++ joined fs (list_below n g))
  kind_done fs g e = part_done b (n * length w) u (there ∙ join_same n (λ i. item_cut w l (b + i * length w)) (λ i. fs (g i)) e ∙ join_listed fs n g) many

  pub owners_done : (g : ℕ → ℕ) → ((i : ℕ) → item_cut w l (b + i * length w) ≡ (g i ∷ [])) → Upto (b + n * length w) l (part_put b (n * length w) x y) (p ++ list_below n g)
  owners_done g e = part_done b (n * length w) u (there ∙ join_same n (λ i. item_cut w l (b + i * length w)) (λ i. g i ∷ []) e ∙ join_singly n g) many

-- one item alone
pub one_done : (w : List ℕ) (b : ℕ) {l x p y n : List ℕ} → Upto b l x p → b + length w ≤ length l → ((k : ℕ) → k < length w → k % length w ≡ k) → CutBy w (take (length w) (drop b x)) y → item_cut w l b ≡ n →
    Upto (b + length w) l (part_put b (length w) x y) (p ++ n)
one_done w b {l} {x} {p} {y} {n} u h m c e = part_done b (length w) u (all ∙ e) size
  where
    d : CutBy w (take (length w) (drop b l)) y
    d = subst (λ (r : List ℕ). CutBy w r y) (part_left b (length w) u) c

    width : length (take (length w) (drop b l)) ≡ length w
    width = length-take-le (length w) (drop b l) (omega (arith, length-drop b l))

    size : length y ≡ length w
    size = d.size ∙ width

    field : (k : ℕ) → k < length w → get_or y (0 + k) 0 ≡ cut_to (get_or w k 0) (get_or l (b + k) 0)
    field k q =
        ap (λ (j : ℕ). get_or y j 0) (zero-add k) ∙ d.done k (omega (arith, width)) (omega (arith, width)) ∙
        ap (λ (j : ℕ). cut_to (get_or w j 0) (get_or (take (length w) (drop b l)) k 0)) (m k q) ∙ ap (cut_to (get_or w k 0)) (get_or-take (length w) (drop b l) k 0 q ∙ get_or-drop b l k 0)

    all : y ≡ item_cut w l b
    all = sym (take_all (length w) y (omega (arith, size))) ∙ fields (length w) y 0 (omega (arith, size)) ∙ list_same (length w) (λ k. get_or y (0 + k) 0) (λ k. cut_to (get_or w k 0) (get_or l (b + k) 0)) field
