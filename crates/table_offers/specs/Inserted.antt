-- One event's numbers put among those of others, in order. And the laws of the loops that find their place and make room.
use Rattle.std.specs.Prelude.{◌≡◌, Bool, List, [], ◌∷◌, ◌++◌, get_or, set, length, take, drop, ltb}
use Rattle.std.proofs.Common.{refl, sym, ap, ◌∙◌, append_assoc, length-append, drop-cons, take_at, drop_at, get_or-append-add, true, false, cond, ℕ, zero, suc, ◌+◌, ◌-◌, ◌*◌, ◌<◌, ◌≤◌, arith, lt-ltb, le-ltb}
use Rattle.std.proofs.Math.ListN.{get_or-append}
use Rattle.std.proofs.lemmas.List.Edits.{sets, sets-eq}
use Rattle.std.proofs.lemmas.List.{set_comm, length-take-le, length-drop}
use Rattle.std.specs.List.{copy_within}
use Rattle.numbers.specs.ListLaws.{sets_before, sets_at}
use Rattle.table_format.specs.All.{All}
use Rattle.enabled.specs.Enabled.{Offer, ids, numbers_of}
use Rattle.enabled.specs.Told.{offer_size}
use Rattle.enabled.specs.ToldLaws.{numbers_append, length_numbers}
use Rattle.table_offers.specs.Order.{rank_of, Split}

-- the place in the order of the event whose numbers stand i-th
abbrev pub rank_at : List ℕ → ℕ → ℕ
rank_at d i = ids * get_or d (offer_size * i) 0 + get_or d (offer_size * i + 1) 0

-- after how many of the first n one of rank r comes: the last that are after it are passed over
unfoldable pub place_in : List ℕ → ℕ → ℕ → ℕ
place_in d zero r = zero
place_in d (suc n) r = let p = place_in d n r in cond (ltb r (rank_at d n)) p (suc n)

-- the numbers from `from` to `end`, one event further up
abbrev pub moved_up : List ℕ → ℕ → ℕ → List ℕ
moved_up d from end = sets d (from + offer_size) (take (end - from) (drop from d))

-- o among n events, p of them before it
abbrev pub inserted_at : List ℕ → ℕ → Offer → ℕ → List ℕ
inserted_at d n o p =
    sets d (offer_size * p) (o.kind ∷ o.id ∷ o.low ∷ o.high ∷ take (offer_size * n - offer_size * p) (drop (offer_size * p) d))

unfoldable pub inserted : List ℕ → ℕ → Offer → List ℕ
inserted d n o = inserted_at d n o (place_in d n (rank_of o))

-- ---- the loop that finds the place
module _ (d : List ℕ) (r : ℕ) where
  -- k is the rank of the last of p
  module _ (p k : ℕ) (l : 0 < p) (e : k ≡ rank_at d (p - 1)) where
    pub place_stop : k ≤ r → p ≡ place_in d p r
    unfolding place_in
    place_stop h =
        let q : p ≡ suc (p - 1) = omega arith in
        ap (λ (i : ℕ). i) q ∙ sym (ap (λ (i : ℕ). place_in d i r) q ∙ rw (← e, le-ltb r k h))

    pub place_down : r < k → place_in d (p - 1) r ≡ place_in d p r
    unfolding place_in
    place_down h =
        let q : p ≡ suc (p - 1) = omega arith in
        sym (ap (λ (i : ℕ). place_in d i r) q ∙ rw (← e, lt-ltb r k h))

  pub place_none : (p : ℕ) → p ≡ 0 → 0 ≡ place_in d p r
  unfolding place_in
  place_none p e = rw e

  pub place_within : (n : ℕ) → place_in d n r ≤ n
  unfolding place_in
  place_within zero = omega arith
  place_within (suc n) = go (place_within n) (ltb r (rank_at d n))
    where
      go : place_in d n r ≤ n → (b : Bool) → cond b (place_in d n r) (suc n) ≤ suc n
      go ih true = omega arith
      go ih false = omega arith

  pub place_found : (n p : ℕ) → p ≡ place_in d n r → p ≤ n
  place_found n p e = let w = place_within n in omega arith

  -- x come before or are equals, m come after
  place_between : (x m : ℕ) → ((j : ℕ) → j < x → rank_at d j ≤ r) → ((j : ℕ) → x ≤ j → j < x + m → r < rank_at d j) → place_in d (x + m) r ≡ x
  unfolding place_in
  place_between x (suc m) a b =
      let e : x + suc m ≡ suc (x + m) = omega arith in
      rw (e, lt-ltb r (rank_at d (x + m)) (b (x + m) (omega arith) (omega arith))) (place_between x m a (λ j l k. b j l (omega arith)))
  place_between zero zero a b = refl
  place_between (suc x) zero a b =
      let e : suc x + 0 ≡ suc x = omega arith in
      rw (e, le-ltb r (rank_at d x) (a x (omega arith)))

-- ---- stores
set_before : (l d : List ℕ) (i j x : ℕ) → i < j → set (sets d j l) i x ≡ sets (set d i x) j l
set_before [] d i j x h = refl
set_before (y ∷ l) d i j x h =
    set_before l (set d j y) i (suc j) x (omega arith) ∙ ap (λ (r : List ℕ). sets r (suc j) l) (set_comm d j i y x (λ e. absurd (omega arith)))

sets_cons : (x : ℕ) (d l : List ℕ) (i : ℕ) → sets (x ∷ d) (suc i) l ≡ x ∷ sets d i l
sets_cons x d [] i = refl
sets_cons x d (y ∷ l) i = sets_cons x (set d i y) l (suc i)

sets_none : (l : List ℕ) (i : ℕ) → ◌≡◌ {A = List ℕ} (sets [] i l) []
sets_none [] i = refl
sets_none (x ∷ l) i = sets_none l (suc i)

-- what was written is written over
over : (d b c : List ℕ) → length b ≤ length c → sets (sets d 0 b) 0 c ≡ sets d 0 c
over d [] c h = refl
over d (x ∷ b) [] h = absurd (omega arith)
over [] (x ∷ b) (y ∷ c) h = ap (λ (r : List ℕ). sets r 0 (y ∷ c)) (sets_none (x ∷ b) 0)
over (z ∷ d) (x ∷ b) (y ∷ c) h =
    ap (λ (r : List ℕ). sets r 0 (y ∷ c)) (sets_cons x d b 0) ∙ sets_cons y (sets d 0 b) c 0 ∙ ap (λ (r : List ℕ). y ∷ r) (over d b c (omega arith)) ∙
    sym (sets_cons y d c 0)

over_after : (a d b c : List ℕ) → length b ≤ length c → sets (sets d 0 (a ++ b)) (length a) c ≡ sets d 0 (a ++ c)
over_after [] d b c h = over d b c h
over_after (x ∷ a) [] b c h =
    ap (λ (r : List ℕ). sets r (suc (length a)) c) (sets_none (x ∷ (a ++ b)) 0) ∙ sets_none c (suc (length a)) ∙ sym (sets_none (x ∷ (a ++ c)) 0)
over_after (x ∷ a) (z ∷ d) b c h =
    ap (λ (r : List ℕ). sets r (suc (length a)) c) (sets_cons x d (a ++ b) 0) ∙ sets_cons x (sets d 0 (a ++ b)) c (length a) ∙
    ap (λ (r : List ℕ). x ∷ r) (over_after a d b c h) ∙ sym (sets_cons x d (a ++ c) 0)

-- ---- room, by the library's copy
pub moved_copy : (d : List ℕ) (from end : ℕ) → from ≤ end → end + offer_size ≤ length d → copy_within d from end (from + offer_size) ≡ moved_up d from end
moved_copy d from end h l =
    let w = take (end - from) (drop from d) in
    let e : length w ≡ end - from = length-take-le (end - from) (drop from d) (let q = length-drop from d in omega arith) in
    sym (sets-eq w d (from + offer_size) (omega arith) ∙ rw e)

-- ---- the loop that makes room, from the end down
pub move_begin : (d : List ℕ) (end : ℕ) → d ≡ moved_up d end end
move_begin d end = let e : end - end ≡ 0 = omega arith in rw e

pub move_next : (d₀ d : List ℕ) (end i : ℕ) → 0 < i → i ≤ end → end ≤ length d₀ → d ≡ moved_up d₀ i end →
    set d (i - 1 + offer_size) (get_or d (i - 1) 0) ≡ moved_up d₀ (i - 1) end
move_next d₀ d end i z h l q =
    let j = i - 1 in
    let e : i ≡ suc j = omega arith in
    let w = take (end - i) (drop i d₀) in
    let x = get_or d₀ j 0 in
    let a : end - j ≡ suc (end - i) = omega arith in
    let b : i + offer_size ≡ suc (j + offer_size) = omega arith in
    let k : d ≡ sets d₀ (suc (j + offer_size)) w = rw (← b) q in
    let g : get_or d j 0 ≡ x = rw k (sets_before w d₀ (suc (j + offer_size)) j 0 (omega arith)) in
    let c : drop j d₀ ≡ x ∷ drop i d₀ = drop-cons d₀ j 0 (omega arith) ∙ ap (λ (n : ℕ). x ∷ drop n d₀) (sym e) in
    rw (g, k, a, c) (set_before w d₀ (j + offer_size) (suc (j + offer_size)) x (omega arith))

-- four numbers put where room was made
put_four : (d e : List ℕ) (n p : ℕ) (o : Offer) → e ≡ moved_up d (offer_size * p) (offer_size * n) →
    set (set (set (set e (offer_size * p) o.kind) (offer_size * p + 1) o.id) (offer_size * p + 2) o.low) (offer_size * p + 3) o.high ≡ inserted_at d n o p
put_four d e n p o q =
    let a = offer_size * p in
    let w = take (offer_size * n - a) (drop a d) in
    let b : a + 1 ≡ suc a = omega arith in
    let c : a + 2 ≡ suc (suc a) = omega arith in
    let f : a + 3 ≡ suc (suc (suc a)) = omega arith in
    let g : a + offer_size ≡ suc (suc (suc (suc a))) = omega arith in
    let z = suc (suc (suc (suc a))) in
    let k : e ≡ sets d z w = rw (← g) q in
    rw (
      k,
      b,
      c,
      f,
      set_before w d a z o.kind (omega arith),
      set_before w (set d a o.kind) (suc a) z o.id (omega arith),
      set_before w (set (set d a o.kind) (suc a) o.id) (suc (suc a)) z o.low (omega arith),
      set_before w (set (set (set d a o.kind) (suc a) o.id) (suc (suc a)) o.low) (suc (suc (suc a))) z o.high (omega arith),
    )

-- ---- what numbers stand for
abbrev no_offer : Offer
no_offer = record { kind = 0; id = 0; low = 0; high = 0 }

rank_numbers : (l : List Offer) (j : ℕ) → j < length l → rank_at (numbers_of l) j ≡ rank_of (get_or l j no_offer)
unfolding numbers_of
rank_numbers [] j h = absurd (omega arith)
rank_numbers (x ∷ l) zero h = refl
rank_numbers (x ∷ l) (suc j) h =
    let e : offer_size * suc j ≡ suc (suc (suc (suc (offer_size * j)))) = omega arith in
    let f : offer_size * suc j + 1 ≡ suc (suc (suc (suc (offer_size * j + 1)))) = omega arith in
    rw (f, e) (rank_numbers l j (omega arith))

all_within : (P : Offer → Type 0) (l : List Offer) (j : ℕ) → All P l → j < length l → P (get_or l j no_offer)
all_within P [] j h k = absurd (omega arith)
all_within P (x ∷ l) zero h k = h.0
all_within P (x ∷ l) (suc j) h k = all_within P l j h.1 (omega arith)

-- what is written at the start is read there
front_at : (w d : List ℕ) (k : ℕ) → k < length w → length w ≤ length d → get_or (sets d 0 w) k 0 ≡ get_or w k 0
front_at w d k h l = let z : 0 + k ≡ k = omega arith in rw z at (sets_at w d 0 k 0 h (omega arith))

-- d₀ has the numbers of x and y at its start
module _ (d₀ : List ℕ) (x y : List Offer) (room : offer_size * (length x + length y) ≤ length d₀) where
  abbrev held : List ℕ
  held = sets d₀ 0 (numbers_of x ++ numbers_of y)

  sizes : (length (numbers_of x) ≡ offer_size * length x) × (length (numbers_of y) ≡ offer_size * length y) × (length (numbers_of x ++ numbers_of y) ≡ offer_size * (length x + length y))
  sizes =
      let a = length_numbers x in
      let b = length_numbers y in
      (a, b, length-append (numbers_of x) (numbers_of y) ∙ rw (a, b) (omega arith))

  held_rank : (j : ℕ) → j < length x + length y → rank_at held j ≡ rank_of (get_or (x ++ y) j no_offer)
  held_rank j h =
      let w = numbers_of x ++ numbers_of y in
      let e = sizes.2 in
      let a : get_or held (offer_size * j) 0 ≡ get_or w (offer_size * j) 0 = front_at w d₀ (offer_size * j) (omega arith) (omega arith) in
      let b : get_or held (offer_size * j + 1) 0 ≡ get_or w (offer_size * j + 1) 0 = front_at w d₀ (offer_size * j + 1) (omega arith) (omega arith) in
      let k : j < length (x ++ y) = let q = length-append x y in omega arith in
      rw (a, b) (ap (λ (r : List ℕ). rank_at r j) (sym (numbers_append x y)) ∙ rank_numbers (x ++ y) j k)

  held_place : (r : ℕ) → All (λ (o : Offer). rank_of o ≤ r) x → All (λ (o : Offer). r < rank_of o) y → place_in held (length x + length y) r ≡ length x
  held_place r a b = place_between held r (length x) (length y) low high
    where
      low : (j : ℕ) → j < length x → rank_at held j ≤ r
      low j h = rw (held_rank j (omega arith), get_or-append x y no_offer j h) (all_within (λ (o : Offer). rank_of o ≤ r) x j a h)

      high : (j : ℕ) → length x ≤ j → j < length x + length y → r < rank_at held j
      high j h k =
          let e : j ≡ length x + (j - length x) = omega arith in
          let g : get_or (x ++ y) j no_offer ≡ get_or y (j - length x) no_offer = ap (λ (i : ℕ). get_or (x ++ y) i no_offer) e ∙ get_or-append-add x y (j - length x) no_offer in
          rw (held_rank j k, g) (all_within (λ (o : Offer). r < rank_of o) y (j - length x) b (omega arith))

  held_back : take (offer_size * (length x + length y) - offer_size * length x) (drop (offer_size * length x) held) ≡ numbers_of y
  held_back =
      let e = sizes in
      let w = numbers_of x ++ numbers_of y in
      let z = drop (0 + length w) d₀ in
      let n : offer_size * (length x + length y) - offer_size * length x ≡ length (numbers_of y) = omega arith in
      let q : held ≡ numbers_of x ++ (numbers_of y ++ z) = sets-eq w d₀ 0 (omega arith) ∙ append_assoc (numbers_of x) (numbers_of y) z in
      rw (q, drop_at (numbers_of x) (numbers_of y ++ z) (offer_size * length x) e.0, n) (take_at (numbers_of y) z (length (numbers_of y)) refl)

  held_inserted : (o : Offer) → All (λ (q : Offer). rank_of q ≤ rank_of o) x → All (λ (q : Offer). rank_of o < rank_of q) y →
      inserted held (length x + length y) o ≡ sets d₀ 0 (numbers_of (x ++ (o ∷ y)))
  unfolding inserted numbers_of
  held_inserted o a b =
      let e = sizes in
      rw (held_place (rank_of o) a b, held_back, ← e.0, numbers_append x (o ∷ y))
      (over_after (numbers_of x) d₀ (numbers_of y) (numbers_of (o ∷ y)) (omega arith))

-- so, where there is room for n, they are those of one event more
pub inserted_one : (d₀ d : List ℕ) (o : Offer) (l l' : List Offer) → Split o l l' → (n : ℕ) → n ≡ length l → offer_size * n ≤ length d₀ →
    d ≡ sets d₀ 0 (numbers_of l) → inserted d n o ≡ sets d₀ 0 (numbers_of l')
inserted_one d₀ d o l l' s n e h q =
    let k : n ≡ length s.front + length s.back = e ∙ ap length s.old ∙ length-append s.front s.back in
    let w : d ≡ sets d₀ 0 (numbers_of s.front ++ numbers_of s.back) =
    q ∙ ap (λ (r : List ℕ). sets d₀ 0 r) (ap numbers_of s.old ∙ numbers_append s.front s.back) in
    rw (w, k, s.new) (held_inserted d₀ s.front s.back (rw k at h) o s.low s.high)

-- as the code puts them: r is the rank, p the place, e₀ the numbers with room made, e₁ to e₄ those after each store
pub inserted_by : (d e₀ e₁ e₂ e₃ e₄ : List ℕ) (n : ℕ) (o : Offer) (r p k i a b : ℕ) → r ≡ rank_of o → p ≡ place_in d n r →
    e₀ ≡ moved_up d (offer_size * p) (offer_size * n) → k ≡ o.kind → i ≡ o.id → a ≡ o.low → b ≡ o.high → e₁ ≡ set e₀ (offer_size * p) k →
    e₂ ≡ set e₁ (offer_size * p + 1) i → e₃ ≡ set e₂ (offer_size * p + 2) a → e₄ ≡ set e₃ (offer_size * p + 3) b → e₄ ≡ inserted d n o
unfolding inserted
inserted_by d e₀ e₁ e₂ e₃ e₄ n o r p k i a b er ep room ek ei ea eb s₁ s₂ s₃ s₄ =
    s₄ ∙ rw (s₃, s₂, s₁, ek, ei, ea, eb, ← er, ← ep) (put_four d e₀ n p o room)
