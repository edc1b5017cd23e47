-- Laws of settling: a pass over a part of a list, and what all passes leave.
use Rattle.std.specs.Prelude.{◌≡◌, refl, List, [], ◌∷◌, ◌++◌, map, ℕ, zero, suc, ◌+◌, ◌-◌, ◌%◌, ◌<◌, ◌≤◌, get_or, set, take, drop}
use Rattle.std.proofs.Common.{◌∙◌, ap, append-nil, arith, add-one, length-append, length-drop, drop_of_length-le, take-append-drop, take-suc, drop-cons, take_all, get_or-take, get_or-drop, get_or-append-add, length-take-le, take-add, drop-drop, length-set, get_or-set_same, get_or-set_other, ne_eqb, sym, length, ext_get_or}
use Rattle.std.proofs.Math.Decide.{ℕ_discrete}
use Rattle.std.proofs.Math.ListN.{length-map, get_or-map, get_or-append}
use Rattle.std.proofs.lemmas.List.{set_at, get_or_at}
use Rattle.std.proofs.Math.Seq.{append_snoc}
use Rattle.model_state.specs.Words.{byte_in, mark_in, section}
use Rattle.state_settling.specs.Words.{mark_number}

-- ---- a mark as the state has it
abbrev pub settled_mark : ℕ → ℕ
settled_mark n = mark_number (mark_in n)

pub no_mark : (n : ℕ) → n ≡ 0 → 0 ≡ settled_mark n
unfolding mark_number mark_in
no_mark n e = rw e

pub a_mark : (n : ℕ) → (n ≡ 0 → ⊥) → 1 ≡ settled_mark n
unfolding mark_number mark_in
a_mark n e = rw (ne_eqb n 0 e)

pub a_byte : (n : ℕ) → n % 256 ≡ byte_in n
unfolding byte_in
a_byte n = refl

-- ---- a loop over a list: its first i numbers are done
abbrev pub done_below : (ℕ → ℕ) → ℕ → List ℕ → List ℕ
done_below f i l = map f (take i l) ++ drop i l

map_append : (f : ℕ → ℕ) (l m : List ℕ) → map f (l ++ m) ≡ map f l ++ map f m
map_append f [] m = refl
map_append f (a ∷ l) m = ap (λ (r : List ℕ). f a ∷ r) (map_append f l m)

module _ (f : ℕ → ℕ) (l : List ℕ) where
  pub none_done : l ≡ done_below f 0 l
  none_done = refl

  pub done_size : {x : List ℕ} (i : ℕ) → x ≡ done_below f i l → length x ≡ length l
  done_size i e = ap length e ∙ length-append (map f (take i l)) (drop i l) ∙ ap (λ (k : ℕ). k + length (drop i l)) (length-map (take i l) f) ∙
      sym (length-append (take i l) (drop i l)) ∙ ap length (take-append-drop i l)

  one_done : (i : ℕ) → i < length l → done_below f i l ≡ map f (take i l) ++ get_or l i 0 ∷ drop (suc i) l
  one_done i h = ap (λ (r : List ℕ). map f (take i l) ++ r) (drop-cons l i 0 h)

  done_width : (i : ℕ) → i < length l → length (map f (take i l)) ≡ i
  done_width i h = length-map (take i l) f ∙ length-take-le i l (omega arith)

  pub not_done : {x : List ℕ} (i : ℕ) → i < length l → x ≡ done_below f i l → get_or x i 0 ≡ get_or l i 0
  not_done i h e = ap (λ (r : List ℕ). get_or r i 0) (e ∙ one_done i h) ∙ get_or_at (map f (take i l)) (get_or l i 0) (drop (suc i) l) 0 i (done_width i h)

  pub done_next : {x y : List ℕ} (i n : ℕ) → i < length l → x ≡ done_below f i l → n ≡ f (get_or x i 0) → y ≡ set x i n → y ≡ done_below f (i + 1) l
  done_next {x} i n h e g k =
      k ∙ ap (λ (r : List ℕ). set r i n) (e ∙ one_done i h) ∙ set_at (map f (take i l)) (get_or l i 0) (drop (suc i) l) n i (done_width i h) ∙
      ap (λ (a : ℕ). map f (take i l) ++ a ∷ drop (suc i) l) (g ∙ ap f (not_done i h e)) ∙
      sym (append_snoc (map f (take i l)) (f (get_or l i 0)) (drop (suc i) l)) ∙
      ap (λ (r : List ℕ). r ++ drop (suc i) l) (sym (map_append f (take i l) (get_or l i 0 ∷ [])) ∙ ap (map f) (sym (take-suc l i 0 h))) ∙
      ap (λ (j : ℕ). done_below f j l) (sym (add-one i))

  pub all_done : {x : List ℕ} (i : ℕ) → length l ≤ i → x ≡ done_below f i l → x ≡ map f l
  all_done i h e = e ∙ rw (take_all i l h, drop_of_length-le l h) (append-nil (map f l))

get_d_any : {A : Type 0} (l : List A) (i : ℕ) (d e : A) → i < length l → get_or l i d ≡ get_or l i e
get_d_any [] i d e h = absurd (omega arith)
get_d_any (a ∷ l) zero d e h = refl
get_d_any (a ∷ l) (suc i) d e h = get_d_any l i d e (omega arith)

-- ---- a loop that puts for each number one that R allows, of which the first i are put
pub record SettledBelow (R : ℕ → ℕ → Type 0) (l x : List ℕ) (i : ℕ) : Type 0 where
  pub size : length x ≡ length l
  pub done : (k : ℕ) → k < i → R (get_or l k 0) (get_or x k 0)
  pub rest : (k : ℕ) → i ≤ k → get_or x k 0 ≡ get_or l k 0

abbrev pub EachSettled : (ℕ → ℕ → Type 0) → List ℕ → List ℕ → Type 0
EachSettled R l x = SettledBelow R l x (length l)

module _ (R : ℕ → ℕ → Type 0) (l : List ℕ) where
  pub none_settled : SettledBelow R l l 0
  none_settled = record { size = refl; done = λ k h. absurd (omega arith); rest = λ k h. refl }

  pub one_settled : {x : List ℕ} (i n : ℕ) → SettledBelow R l x i → i < length l → R (get_or x i 0) n → SettledBelow R l (set x i n) (i + 1)
  one_settled {x} i n s h r = record {
    size = length-set x i n ∙ s.size;
    done = λ k b. go k b (ℕ_discrete k i);
    rest = λ k b. get_or-set_other x i k n 0 (λ z. omega arith) ∙ s.rest k (omega arith);
  }
    where
      go : (k : ℕ) → k < i + 1 → Dec (k ≡ i) → R (get_or l k 0) (get_or (set x i n) k 0)
      go k b (yes z) = rw (z, get_or-set_same x i n 0 (omega (arith, s.size)), ← s.rest i (omega arith)) r
      go k b (no z) = rw (get_or-set_other x i k n 0 z) (s.done k (omega arith))

  pub all_settled : {x : List ℕ} (i : ℕ) → i ≤ length l → length l ≤ i → SettledBelow R l x i → EachSettled R l x
  all_settled i h k s = record { size = s.size; done = λ q b. s.done q (omega arith); rest = λ q b. s.rest q (omega arith) }

-- where R allows one number alone
pub each_mapped : (f : ℕ → ℕ) {l x : List ℕ} → EachSettled (λ a b. b ≡ f a) l x → x ≡ map f l
each_mapped f {l} {x} s = ext_get_or 0 x (map f l) (s.size ∙ sym (length-map l f)) at
  where
    at : (i : ℕ) → i < length x → get_or x i 0 ≡ get_or (map f l) i 0
    at i h = s.done i (omega (arith, s.size)) ∙ sym (get_or-map f l i 0) ∙ get_d_any (map f l) i (f 0) 0 (omega (arith, s.size, length-map l f))

-- ---- a part of a list with each number changed: k numbers from a on, which become y
pub record Passed (f : ℕ → ℕ) (a k : ℕ) (l x : List ℕ) : Type 0 where
  pub size : length x ≡ length l
  pub before : (p : ℕ) → p < a → get_or x p 0 ≡ get_or l p 0
  pub within : (i : ℕ) → i < k → get_or x (a + i) 0 ≡ f (get_or l (a + i) 0)
  pub after : (p : ℕ) → a + k ≤ p → get_or x p 0 ≡ get_or l p 0

module _ (f : ℕ → ℕ) (a k : ℕ) (l : List ℕ) (h : a + k ≤ length l) where
  pub pass : (y : List ℕ) → y ≡ map f (take k (drop a l)) → Passed f a k l (take a l ++ (y ++ drop k (drop a l)))
  pass y e = record { size = size; before = before; within = within; after = after }
    where
      front : length (take a l) ≡ a
      front = length-take-le a l (omega arith)

      middle : length y ≡ k
      middle = ap length e ∙ length-map (take k (drop a l)) f ∙ length-take-le k (drop a l) (omega (arith, length-drop a l))

      rest : length (drop k (drop a l)) ≡ length l - a - k
      rest = length-drop k (drop a l) ∙ ap (λ (n : ℕ). n - k) (length-drop a l)

      size : length (take a l ++ (y ++ drop k (drop a l))) ≡ length l
      size = length-append (take a l) (y ++ drop k (drop a l)) ∙ (let q = length-append y (drop k (drop a l)) in omega (arith, front, middle, rest))

      before : (p : ℕ) → p < a → get_or (take a l ++ (y ++ drop k (drop a l))) p 0 ≡ get_or l p 0
      before p b = get_or-append (take a l) (y ++ drop k (drop a l)) 0 p (omega (arith, front)) ∙ get_or-take a l p 0 b

      at : (i : ℕ) → get_or (take a l ++ (y ++ drop k (drop a l))) (a + i) 0 ≡ get_or (y ++ drop k (drop a l)) i 0
      at i = ap (λ (n : ℕ). get_or (take a l ++ (y ++ drop k (drop a l))) (n + i) 0) (sym front) ∙ get_or-append-add (take a l) (y ++ drop k (drop a l)) i 0

      within : (i : ℕ) → i < k → get_or (take a l ++ (y ++ drop k (drop a l))) (a + i) 0 ≡ f (get_or l (a + i) 0)
      within i b =
          at i ∙ get_or-append y (drop k (drop a l)) 0 i (omega (arith, middle)) ∙ get_d_any y i 0 (f 0) (omega (arith, middle)) ∙
          ap (λ (r : List ℕ). get_or r i (f 0)) e ∙ get_or-map f (take k (drop a l)) i 0 ∙ ap f (get_or-take k (drop a l) i 0 b ∙ get_or-drop a l i 0)

      after : (p : ℕ) → a + k ≤ p → get_or (take a l ++ (y ++ drop k (drop a l))) p 0 ≡ get_or l p 0
      after p b =
          let j = p - a - k in
          let q : p ≡ a + (k + j) = omega arith in
          ap (λ (n : ℕ). get_or (take a l ++ (y ++ drop k (drop a l))) n 0) q ∙ at (k + j) ∙
          ap (λ (n : ℕ). get_or (y ++ drop k (drop a l)) (n + j) 0) (sym middle) ∙ get_or-append-add y (drop k (drop a l)) j 0 ∙
          get_or-drop k (drop a l) j 0 ∙ get_or-drop a l (k + j) 0 ∙ ap (λ (n : ℕ). get_or l n 0) (sym q)

-- ---- the numbers of one array of a state: x has what the state in l has
module _ {A : Type 0} (f : ℕ → A) (b r : ℕ) (l x : List ℕ) (n : length x ≡ length l) (h : b + r ≤ length l) where
  array_width : length (take r (drop b l)) ≡ r
  array_width = length-take-le r (drop b l) (omega (arith, length-drop b l))

  array_size : length (take r (drop b x)) ≡ r
  array_size = length-take-le r (drop b x) (omega (arith, n, length-drop b x))

  pub array_numbers : (g : A → ℕ) → ((i : ℕ) → i < r → get_or x (b + i) 0 ≡ g (f (get_or l (b + i) 0))) → take r (drop b x) ≡ map g (section f b r l)
  unfolding section
  array_numbers g e = ext_get_or (g (f 0)) (take r (drop b x)) (map g (map f (take r (drop b l)))) sizes at
    where
      sizes : length (take r (drop b x)) ≡ length (map g (map f (take r (drop b l))))
      sizes = array_size ∙ sym (length-map (map f (take r (drop b l))) g ∙ length-map (take r (drop b l)) f ∙ array_width)

      at : (i : ℕ) → i < length (take r (drop b x)) → get_or (take r (drop b x)) i (g (f 0)) ≡ get_or (map g (map f (take r (drop b l)))) i (g (f 0))
      at i k =
          let c : i < r = omega (arith, array_size) in
          get_d_any (take r (drop b x)) i (g (f 0)) 0 k ∙ get_or-take r (drop b x) i 0 c ∙ get_or-drop b x i 0 ∙ e i c ∙
          sym (get_or-map g (map f (take r (drop b l))) i (f 0) ∙ ap g (get_or-map f (take r (drop b l)) i 0 ∙ ap f (get_or-take r (drop b l) i 0 c ∙ get_or-drop b l i 0)))

module _ (f : ℕ → ℕ) (b r : ℕ) (l x : List ℕ) (n : length x ≡ length l) (h : b + r ≤ length l) where
  map_same : (m : List ℕ) → map (λ (k : ℕ). k) m ≡ m
  map_same [] = refl
  map_same (a ∷ m) = ap (λ (s : List ℕ). a ∷ s) (map_same m)

  pub plain_numbers : ((i : ℕ) → i < r → get_or x (b + i) 0 ≡ f (get_or l (b + i) 0)) → take r (drop b x) ≡ section f b r l
  plain_numbers e = array_numbers f b r l x n h (λ (k : ℕ). k) e ∙ map_same (section f b r l)

-- so many numbers from b on, and so many more
pub and_more : (b n m : ℕ) (l : List ℕ) → take (n + m) (drop b l) ≡ take n (drop b l) ++ take m (drop (b + n) l)
and_more b n m l = take-add n m (drop b l) ∙ ap (λ (r : List ℕ). take n (drop b l) ++ take m r) (drop-drop n b l)
