-- Laws of arrays that stand one after the other in a list of numbers: a store within one is a store of that array, and leaves the others.
use Rattle.std.specs.Prelude.{◌≡◌, refl, ℕ, zero, suc, ◌+◌, ◌-◌, ◌<◌, ◌≤◌, cond, ltb, get_or, set, take, drop}
use Rattle.std.proofs.Common.{sym, ◌∙◌, drop-set-lt, get_or-take, lt-ltb, le-ltb, ap, List, [], ◌∷◌, map, arith, get_or-drop}
use Rattle.std.proofs.Math.Decide.{dec_lt}
use Rattle.std.proofs.Math.ListN.{get_or-map}
use Rattle.std.proofs.Math.Seq.{take-set-lt, drop-set-add}
use Rattle.std.proofs.lemmas.List.{take-set-le}
use Rattle.numbers.specs.Lists.{item, store}
use Rattle.model_state.specs.Words.{section}

map_set : {A B : Type 0} (f : A → B) (l : List A) (i : ℕ) (a : A) → map f (set l i a) ≡ set (map f l) i (f a)
map_set f [] i a = refl
map_set f (b ∷ l) zero a = refl
map_set {B = B} f (b ∷ l) (suc i) a = ap (λ (r : List B). f b ∷ r) (map_set f l i a)

module _ {A : Type 0} (f : ℕ → A) (base room : ℕ) (l : List ℕ) where
  -- an item of the array
  pub section_at : (i : ℕ) → i < room → item room (section f base room l) i (f 0) ≡ f (get_or l (base + i) 0)
  unfolding section
  section_at i h =
      rw (lt-ltb i room h) (get_or-map f (take room (drop base l)) i 0 ∙ ap f (get_or-take room (drop base l) i 0 h ∙ get_or-drop base l i 0))

  pub section_past : (i : ℕ) (d : A) → room ≤ i → item room (section f base room l) i d ≡ d
  section_past i d h = rw (le-ltb i room h)

  -- what stands for item i, where a number past the room is 0
  pub section_number : (i n : ℕ) → n ≡ cond (ltb i room) (get_or l (base + i) 0) 0 → f n ≡ item room (section f base room l) i (f 0)
  section_number i n e = go (dec_lt i room)
    where
      go : Dec (i < room) → f n ≡ item room (section f base room l) i (f 0)
      go (yes h) = let z : n ≡ get_or l (base + i) 0 = rw (lt-ltb i room h) at e in ap f z ∙ sym (section_at i h)
      go (no h) = let k : room ≤ i = omega arith in let z : n ≡ 0 = rw (le-ltb i room k) at e in ap f z ∙ sym (section_past i (f 0) k)

  -- a store in the array, before it and after it
  pub section_set : (i n : ℕ) → i < room → section f base room (set l (base + i) n) ≡ store room (section f base room l) i (f n)
  unfolding section
  section_set i n h =
      rw (lt-ltb i room h, drop-set-add base l i n, take-set-lt room (drop base l) i n h) (map_set f (take room (drop base l)) i n)

  pub section_before : (p n : ℕ) → p < base → section f base room (set l p n) ≡ section f base room l
  unfolding section
  section_before p n h = rw (drop-set-lt base l p n h)

  pub section_after : (p n : ℕ) → base + room ≤ p → section f base room (set l p n) ≡ section f base room l
  unfolding section
  section_after p n h =
      let i = p - base in
      let e : p ≡ base + i = omega arith in
      ap (λ (k : ℕ). map f (take room (drop base (set l k n)))) e ∙ ap (λ (x : List ℕ). map f (take room x)) (drop-set-add base l i n) ∙
      ap (map f) (take-set-le room (drop base l) i n (omega arith))
