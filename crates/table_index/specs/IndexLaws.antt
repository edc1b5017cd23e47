-- The list made of a table stands for the table's rules. And the laws of the loop that makes it.
use Rattle.std.specs.Prelude.{◌≡◌, Bool, ◌&&◌, List, [], ◌∷◌, ◌++◌, get_or, set, take, drop, eqb, leb}
use Rattle.std.proofs.Common.{refl, sym, ◌∙◌, ap, true, false, cond, ℕ, zero, suc, ◌+◌, ◌-◌, ◌*◌, ◌/◌, ◌%◌, ◌<◌, ◌≤◌, min, arith, add-one, length, length-set, length-take, ltb, eq-eqb, ne_eqb, le-leb, leb-true, eqb-true, lt-ltb, le-ltb, ltb-false}
use Rattle.std.proofs.Math.Nat.{sub-zero}
use Rattle.std.proofs.Math.Decide.{dec_lt, ℕ_discrete}
use Rattle.std.proofs.Math.Seq.{sets, length-sets, take-append_seam}
use Rattle.std.proofs.lemmas.List.Edits.{sets-eq}
use borrow.Author.Tests.{lt-leb}
use Rattle.records.specs.declared.Notation.TheVariants as notations
use Rattle.records.specs.declared.Event.{Event}
use Rattle.records.specs.Format.{record_size, part_length_at, parts}
use Rattle.records.specs.Walk.{parts_at, parts_end, part_size, next_place}
use Rattle.table_format.specs.declared.Record.{Record}
use Rattle.table_format.specs.Format.{record_of, records, kind_of}
use Rattle.table_format.specs.Table.{Rule, gather, table_of}
use Rattle.table_format.specs.Reading.{longest_table}
use Rattle.table_format.specs.Decoded.{kind_cut}
use Rattle.table_format.specs.RecordsAt.{records_end}
use Rattle.table_semantics.specs.declared.Variables.{Variables}
use Rattle.table_semantics.specs.Machine.{step}
use Rattle.table_rules.specs.At.{bytes_at, head_in, rule_at, rules_from}
use Rattle.table_index.specs.Index.{is_head, heads_from, head_places, key_at, entry_at, guard_at, room_for, places_listed, rest_of, entries_of, index_of, index_size, is_listed, listed, rules_in, listed_in, words_in, rules_by, step_by}
use Rattle.table_rules.specs.Places.{first_byte, head_records, head_size_lem, other_records, other_kind, HeadAt, no_rule}
use Rattle.table_index.specs.Guards.{never}

-- ---- a head, or none
and_left : (a b : Bool) → (a && b) ≡ true → a ≡ true
and_left true b h = refl
and_left false b h = h

and_right : (a b : Bool) → (a && b) ≡ true → b ≡ true
and_right true b h = h
and_right false b h = never (sym h)

pub and_false : (b : Bool) → (b && false) ≡ false
and_false true = refl
and_false false = refl

module _ (s : List ℕ) (p : ℕ) where
  pub head_at : is_head s p ≡ true → HeadAt s p
  unfolding is_head
  head_at h = record {
    within = leb-true (p + 11) (length s) (and_left (leb (p + 11) (length s)) (eqb (get_or s p 0) 33) h);
    kind = eqb-true (get_or s p 0) 33 (and_right (leb (p + 11) (length s)) (eqb (get_or s p 0) 33) h);
  }

  pub head_is : HeadAt s p → is_head s p ≡ true
  unfolding is_head
  head_is h = rw (le-leb (p + 11) (length s) h.within, eq-eqb (get_or s p 0) 33 h.kind)

  -- the code's answers
  pub short_no_head : length s < 11 → false ≡ is_head s p
  unfolding is_head
  short_no_head h = rw (lt-leb (p + 11) (length s) (omega arith))

  pub past_no_head : 11 ≤ length s → length s - 11 < p → false ≡ is_head s p
  unfolding is_head
  past_no_head h l = rw (lt-leb (p + 11) (length s) (omega arith))

  pub head_by_kind : 11 ≤ length s → p ≤ length s - 11 → eqb (get_or s p 0) 33 ≡ is_head s p
  unfolding is_head
  head_by_kind h l = rw (le-leb (p + 11) (length s) (omega arith))

-- ---- the heads from p on
abbrev pub heads_at : List ℕ → ℕ → List ℕ
heads_at s p = heads_from p (parts notations.Table (drop p s))

heads_end : (s : List ℕ) (p : ℕ) → length s ≤ p → heads_at s p ≡ []
unfolding heads_from
heads_end s p h = rw (parts_end notations.Table s p h)

-- a part is a whole head where one stands at its place
part_head : (s : List ℕ) (p m : ℕ) → p < length s → m ≡ part_length_at notations.Table s p → is_head (bytes_at s p m) 0 ≡ is_head s p
unfolding is_head
part_head s p m h e =
    rw (part_size notations.Table s p m h e, first_byte s p m h e) (go (ℕ_discrete (get_or s p 0) 33) (dec_lt (length s) (p + 11)))
  where
    go : Dec (get_or s p 0 ≡ 33) → Dec (length s < p + 11) → (leb 11 m && eqb (get_or s p 0) 33) ≡ (leb (p + 11) (length s) && eqb (get_or s p 0) 33)
    go (no k) d = rw (ne_eqb (get_or s p 0) 33 k, and_false (leb 11 m), and_false (leb (p + 11) (length s)))
    go (yes k) (yes d) = let n = next_place notations.Table s p m h e in rw (lt-leb 11 m (omega arith), lt-leb (p + 11) (length s) d)
    go (yes k) (no d) = let n : 11 ≡ m = head_size_lem s p k (omega arith) ∙ sym e in rw (le-leb 11 m (omega arith), le-leb (p + 11) (length s) (omega arith))

heads_on : (s : List ℕ) (p m : ℕ) → p < length s → m ≡ part_length_at notations.Table s p →
    heads_at s p ≡ cond (is_head s p) (p ∷ heads_at s (p + m)) (heads_at s (p + m))
unfolding heads_from
heads_on s p m h e = rw (parts_at notations.Table s p m h e, part_head s p m h e, part_size notations.Table s p m h e)

heads_head : (s : List ℕ) (p : ℕ) → HeadAt s p → heads_at s p ≡ p ∷ heads_at s (p + 11)
heads_head s p h =
    heads_on s p 11 (let q = h.within in omega arith) (head_size_lem s p h.kind h.within) ∙ rw (head_is s p h)

heads_other : (s : List ℕ) (p m : ℕ) → p < length s → m ≡ part_length_at notations.Table s p → is_head s p ≡ false → heads_at s p ≡ heads_at s (p + m)
heads_other s p m h e f = heads_on s p m h e ∙ rw f

take_none : (k : ℕ) → ◌≡◌ {A = List ℕ} (take k []) []
take_none zero = refl
take_none (suc k) = refl

-- ---- the rules from p on
rules_end : (s : List ℕ) (p : ℕ) → length s ≤ p → rules_from s p ≡ []
unfolding gather
rules_end s p h = ap (λ (r : List Record). (gather r).rules) (records_end s p h)

rules_head : (s : List ℕ) (p : ℕ) → HeadAt s p → rules_from s p ≡ rule_at s (p + 11) (head_in s p) ∷ rules_from s (p + 11)
unfolding gather
rules_head s p h = ap (λ (r : List Record). (gather r).rules) (head_records s p h.kind h.within)

not_head : (s : List ℕ) (p m : ℕ) → p < length s → m ≡ part_length_at notations.Table s p → is_head s p ≡ false → kind_of (record_of (bytes_at s p m)) ≡ 33 → ⊥
unfolding record_size
not_head s p m h e f = go (ℕ_discrete (get_or s p 0) 33) (dec_lt (length s) (p + 11))
  where
    go : Dec (get_or s p 0 ≡ 33) → Dec (length s < p + 11) → kind_of (record_of (bytes_at s p m)) ≡ 33 → ⊥
    go (no k) d = other_kind s p m h e 33 k (omega arith)
    go (yes k) (no d) = absurd (never (sym (head_is s p (record { within = omega arith; kind = k })) ∙ f))
    go (yes k) (yes d) = λ q.
        let n = part_size notations.Table s p m h e in
        let l = next_place notations.Table s p m h e in
        let z : 0 ≡ kind_of (record_of (bytes_at s p m)) =
        kind_cut (bytes_at s p m) 33 11 (sym (first_byte s p m h e ∙ k)) refl (λ z. omega arith) (omega arith) in
        let y : ◌≡◌ {A = ℕ} 0 33 = z ∙ q in
        omega arith

rules_other : (s : List ℕ) (p m : ℕ) → p < length s → m ≡ part_length_at notations.Table s p → is_head s p ≡ false → rules_from s (p + m) ≡ rules_from s p
rules_other s p m h e f =
    no_rule (record_of (bytes_at s p m)) (records (drop (p + m) s)) (not_head s p m h e f) ∙ ap (λ (r : List Record). (gather r).rules) (sym (other_records s p m h e))

-- ---- words made of a head list its rule
listed_entry : (s : List ℕ) (p : ℕ) (l : List ℕ) → is_head s p ≡ true →
    listed s (entry_at s p ∷ guard_at s (p + 11) ∷ l) ≡ rule_at s (p + 11) (head_in s p) ∷ listed s l
unfolding listed is_listed
listed_entry s p l e =
    let q : entry_at s p / 65536 ≡ p = omega arith in
    let m : entry_at s p % 65536 ≡ key_at s p = omega arith in
    rw (q, m, e, eq-eqb (key_at s p) (key_at s p) refl, eq-eqb (guard_at s (p + 11)) (guard_at s (p + 11)) refl)

-- the first k heads from p on, and the rules after them
abbrev rules_of_first : List ℕ → ℕ → ℕ → List Rule
rules_of_first s p k = rules_in s (entries_of s (take k (heads_at s p))) (get_or (heads_at s p) k (length s))

listed_end : (s : List ℕ) (p k : ℕ) → length s ≤ p → rules_of_first s p k ≡ rules_from s p
unfolding listed entries_of
listed_end s p k h = rw (heads_end s p h, take_none k) (rules_end s (length s) (omega arith) ∙ sym (rules_end s p h))

listed_from : (n : ℕ) (s : List ℕ) (p k : ℕ) → length s ≤ p + n → rules_of_first s p k ≡ rules_from s p
unfolding listed entries_of
listed_from zero s p k l = listed_end s p k (omega arith)
listed_from (suc n) s p k l = go (listed_from n s) (dec_lt p (length s)) (is_head s p) refl k
  where
    go : ((q j : ℕ) → length s ≤ q + n → rules_of_first s q j ≡ rules_from s q) → Dec (p < length s) → (b : Bool) → is_head s p ≡ b → (k : ℕ) →
        rules_of_first s p k ≡ rules_from s p
    go ih (no h) b e k = listed_end s p k (omega arith)
    go ih (yes h) true e zero = rw (heads_head s p (head_at s p e))
    go ih (yes h) true e (suc k) =
        let f = head_at s p e in
        let r = rules_from s (get_or (heads_at s (p + 11)) k (length s)) in
        rw (heads_head s p f)
        (ap (λ (x : List Rule). x ++ r) (listed_entry s p (entries_of s (take k (heads_at s (p + 11)))) e) ∙
        ap (λ (x : List Rule). rule_at s (p + 11) (head_in s p) ∷ x) (ih (p + 11) k (omega arith)) ∙ sym (rules_head s p f))
    go ih (yes h) false e k =
        let m = part_length_at notations.Table s p in
        let w = next_place notations.Table s p m h refl in
        rw (heads_other s p m h refl e) (ih (p + m) k (omega arith) ∙ rules_other s p m h refl e)

-- ---- room
module _ (s : List ℕ) (n : ℕ) where
  pub room_within : 2 * room_for s n ≤ n - 2
  unfolding room_for
  room_within = go (ltb longest_table (length s))
    where
      go : (a : Bool) → 2 * cond a 0 ((n - 2) / 2) ≤ n - 2
      go true = omega arith
      go false = omega arith

  pub room_short : (k r : ℕ) → r ≡ room_for s n → k < r → length s ≤ longest_table
  unfolding room_for
  room_short k r e h = go (ltb longest_table (length s)) refl (rw e at h)
    where
      go : (a : Bool) → ltb longest_table (length s) ≡ a → k < cond a 0 ((n - 2) / 2) → length s ≤ longest_table
      go true e h = absurd (omega arith)
      go false e h = ltb-false longest_table (length s) e

  -- the code's answers
  pub room_none : longest_table < length s → 0 ≡ room_for s n
  unfolding room_for
  room_none h = rw (lt-ltb longest_table (length s) h)

  module _ (h : length s ≤ longest_table) where
    pub room_few : n < 2 → 0 ≡ room_for s n
    unfolding room_for
    room_few l = let z : n - 2 ≡ 0 = omega arith in rw (le-ltb longest_table (length s) h, z)

    pub room_some : (n - 2) / 2 ≡ room_for s n
    unfolding room_for
    room_some = rw (le-ltb longest_table (length s) h)

-- ---- the index made of a table
length_entries : (s l : List ℕ) → length (entries_of s l) ≡ 2 * length l
unfolding entries_of
length_entries s [] = refl
length_entries s (p ∷ l) = let i = length_entries s l in omega arith

sets_none : (l : List ℕ) (i : ℕ) → ◌≡◌ {A = List ℕ} (sets [] i l) []
sets_none [] i = refl
sets_none (x ∷ l) i = sets_none l (suc i)

sets_after : (x : ℕ) (d l : List ℕ) (i : ℕ) → sets (x ∷ d) (suc i) l ≡ x ∷ sets d i l
sets_after x d [] i = refl
sets_after x d (y ∷ l) i = sets_after x (set d i y) l (suc i)

-- words that there was room for stand at the front
front : (d l : List ℕ) → length l ≤ length d → take (length l) (sets d 0 l) ≡ l
front d l h = ap (take (length l)) (sets-eq l d 0 (omega arith)) ∙ take-append_seam l (drop (0 + length l) d)

pub rules_by_index : (s d : List ℕ) → rules_by s (sets d 0 (index_of s (length d))) ≡ (table_of s).rules
unfolding rules_by index_of listed table_of places_listed rest_of head_places
rules_by_index s [] = ap (rules_by s) (sets_none (index_of s 0) 0)
rules_by_index s (x ∷ []) =
    let n = length (places_listed s 1) in
    let e : sets (x ∷ []) 0 (index_of s 1) ≡ n ∷ [] =
    sets_after n [] (entries_of s (places_listed s 1)) 1 ∙ ap (λ (r : List ℕ). n ∷ r) (sets_none (entries_of s (places_listed s 1)) 1) in
    ap (rules_by s) e ∙ rw (take_none (2 * min n 0))
rules_by_index s (x ∷ y ∷ d) =
    let k = room_for s (suc (suc (length d))) in
    let l = take k (heads_at s 0) in
    let n = length l in
    let r = get_or (heads_at s 0) k (length s) in
    let w = entries_of s l in
    let e : sets (x ∷ y ∷ d) 0 (index_of s (suc (suc (length d)))) ≡ n ∷ r ∷ sets d 0 w =
    sets_after n (r ∷ d) w 1 ∙ ap (λ (q : List ℕ). n ∷ q) (sets_after r d w 0) in
    let a : length w ≡ 2 * n = length_entries s l in
    let b : n ≤ k = let q : n ≡ min k (length (heads_at s 0)) = length-take k (heads_at s 0) in omega arith in
    let c : 2 * k ≤ suc (suc (length d)) - 2 = room_within s (suc (suc (length d))) in
    let f : length (sets d 0 w) ≡ length d = length-sets d 0 w in
    let g : 2 * min n ((suc (suc (length (sets d 0 w))) - 2) / 2) ≡ length w = omega arith in
    ap (rules_by s) e ∙ rw (g, front d w (omega arith)) (listed_from (length s) s 0 k (omega arith))

pub rules_by_made : (s d d' : List ℕ) → d' ≡ sets d 0 (index_of s (length d)) → rules_by s d' ≡ (table_of s).rules
rules_by_made s d d' e = ap (rules_by s) e ∙ rules_by_index s d

-- so a step by it is the table's step
pub step_by_index : (s d : List ℕ) → rules_by s d ≡ (table_of s).rules → (v : Variables) (e : Event) → step_by s d v e ≡ step (table_of s).rules v e
unfolding step_by
step_by_index s d r v e = ap (λ (l : List Rule). step l v e) r

-- and so is a step by no index, where the table is walked
pub rules_by_none : (s : List ℕ) → rules_by s [] ≡ (table_of s).rules
unfolding rules_by listed table_of
rules_by_none s = refl

-- ---- the loop that makes it: n heads are passed, p is the place that is reached, r the first head that there was no room for
pub record Listing (s d₀ : List ℕ) (room : ℕ) (d : List ℕ) (n p r : ℕ) : Type 0 where
  pub within : p ≤ length s
  pub small : 11 * n ≤ p
  pub words : sets d (2 + 2 * n) (entries_of s (take (room - n) (heads_at s p))) ≡ sets d₀ 2 (entries_of s (places_listed s (length d₀)))
  pub count : n + length (heads_at s p) ≡ length (head_places s)
  pub next : n ≤ room → (r ≡ length s) × (get_or (heads_at s p) (room - n) (length s) ≡ rest_of s (length d₀))
  pub full : room < n → r ≡ rest_of s (length d₀)
  pub size : length d ≡ length d₀

pub listing_begin : (s d : List ℕ) (room : ℕ) → room ≡ room_for s (length d) → Listing s d room d 0 0 (length s)
unfolding places_listed rest_of head_places
listing_begin s d room e = record {
  within = omega arith;
  small = omega arith;
  words = rw (← e, sub-zero room);
  count = omega arith;
  next = λ h. (refl, rw (← e, sub-zero room));
  full = λ h. absurd (omega arith);
  size = refl;
}

-- a store before others
set_order : (d : List ℕ) (i j x y : ℕ) → (i ≡ j → ⊥) → set (set d j y) i x ≡ set (set d i x) j y
set_order [] i j x y n = refl
set_order (a ∷ d) zero zero x y n = absurd (n refl)
set_order (a ∷ d) zero (suc j) x y n = refl
set_order (a ∷ d) (suc i) zero x y n = refl
set_order (a ∷ d) (suc i) (suc j) x y n = ap (λ (r : List ℕ). a ∷ r) (set_order d i j x y (λ e. n (ap suc e)))

set_before : (l d : List ℕ) (i j x : ℕ) → i < j → set (sets d j l) i x ≡ sets (set d i x) j l
set_before [] d i j x h = refl
set_before (y ∷ l) d i j x h =
    set_before l (set d j y) i (suc j) x (omega arith) ∙ ap (λ (r : List ℕ). sets r (suc j) l) (set_order d i j x y (λ e. omega arith))

module _ (s d₀ : List ℕ) (room : ℕ) (d : List ℕ) (n p r : ℕ) (i : Listing s d₀ room d n p r) where
  pub listing_other : p < length s → (m : ℕ) → m ≡ part_length_at notations.Table s p → (b : Bool) → b ≡ is_head s p → b ≡ false →
      Listing s d₀ room d n (p + m) r
  listing_other h m e b f t =
      let o = heads_other s p m h e (sym f ∙ t) in
      record {
        within = (next_place notations.Table s p m h e).1;
        small = let q = i.small in omega arith;
        words = rw (← o) i.words;
        count = rw (← o) i.count;
        next = rw (← o) i.next;
        full = i.full;
        size = i.size;
      }

  module _ (here : HeadAt s p) where
    passed : n + 1 + length (heads_at s (p + 11)) ≡ length (head_places s)
    passed = let c = rw (heads_head s p here) at i.count in omega arith

    fits : 11 * (n + 1) ≤ p + 11
    fits = let q = i.small in omega arith

    pub listing_head : n < room → (w g : ℕ) → w ≡ entry_at s p → g ≡ guard_at s (p + 11) →
        Listing s d₀ room (set (set d (2 + 2 * n) w) (2 + 2 * n + 1) g) (n + 1) (p + 11) r
    unfolding entries_of
    listing_head h w g ew eg =
        let z : room - n ≡ suc (room - (n + 1)) = omega arith in
        let a : 2 + 2 * (n + 1) ≡ suc (suc (2 + 2 * n)) = omega arith in
        let o = heads_head s p here in
        record {
          within = here.within;
          small = fits;
          words = rw (a, add-one (2 + 2 * n), ew, eg) (rw (z, o) at i.words);
          count = passed;
          next = λ l. let q = i.next (omega arith) in (q.0, rw (z, o) at q.1);
          full = λ l. absurd (omega arith);
          size = length-set (set d (2 + 2 * n) w) (2 + 2 * n + 1) g ∙ length-set d (2 + 2 * n) w ∙ i.size;
        }

    none_more : room ≤ n → sets d (2 + 2 * (n + 1)) (entries_of s (take (room - (n + 1)) (heads_at s (p + 11)))) ≡
        sets d₀ 2 (entries_of s (places_listed s (length d₀)))
    unfolding entries_of
    none_more h =
        let y : room - n ≡ 0 = omega arith in
        let z : room - (n + 1) ≡ 0 = omega arith in
        rw z (rw y at i.words)

    pub listing_full : n ≡ room → Listing s d₀ room d (n + 1) (p + 11) p
    listing_full h = record {
      within = here.within;
      small = fits;
      words = none_more (omega arith);
      count = passed;
      next = λ l. absurd (omega arith);
      full = λ l. let z : room - n ≡ 0 = omega arith in rw (z, heads_head s p here) at (i.next (omega arith)).1;
      size = i.size;
    }

    pub listing_past : room < n → Listing s d₀ room d (n + 1) (p + 11) r
    listing_past h = record {
      within = here.within;
      small = fits;
      words = none_more (omega arith);
      count = passed;
      next = λ l. absurd (omega arith);
      full = λ l. i.full h;
      size = i.size;
    }

  module _ (h : length s ≤ p) where
    pub listing_size : 2 + 2 * n ≡ index_size s
    unfolding index_size
    listing_size = let c = rw (heads_end s p h) at i.count in omega arith

    -- k is how many are listed
    pub listing_end : room ≡ room_for s (length d₀) → (k : ℕ) → k ≡ min n room → set (set d 0 k) 1 r ≡ sets d₀ 0 (index_of s (length d₀))
    unfolding index_of places_listed entries_of
    listing_end e k f =
        let o = heads_end s p h in
        let c = rw o at i.count in
        let w : d ≡ sets d₀ 2 (entries_of s (places_listed s (length d₀))) = rw (o, take_none (room - n)) at i.words in
        let a : k ≡ length (places_listed s (length d₀)) =
        let q = length-take (room_for s (length d₀)) (head_places s) in omega arith in
        let q : r ≡ rest_of s (length d₀) = go (dec_lt room n) in
        rw (
          w,
          set_before (entries_of s (places_listed s (length d₀))) d₀ 0 2 k (omega arith),
          set_before (entries_of s (places_listed s (length d₀))) (set d₀ 0 k) 1 2 r (omega arith),
          a,
          q,
        )
      where
        go : Dec (room < n) → r ≡ rest_of s (length d₀)
        go (yes l) = i.full l
        go (no l) = let q = i.next (omega arith) in q.0 ∙ (rw (heads_end s p h) at q.1)

-- one rule more
pub record ListsOne (s : List ℕ) (p : ℕ) (d d' : List ℕ) (room n r r' : ℕ) : Type 0 where
  pub room_kept : length d' ≡ length d
  pub one_more : (d₀ : List ℕ) → Listing s d₀ room d n p r → Listing s d₀ room d' (n + 1) (p + 11) r'

module _ (s : List ℕ) (p : ℕ) (here : HeadAt s p) (d : List ℕ) (room n r : ℕ) where
  pub one_listed : n < room → (w g : ℕ) → w ≡ entry_at s p → g ≡ guard_at s (p + 11) →
      ListsOne s p d (set (set d (2 + 2 * n) w) (2 + 2 * n + 1) g) room n r r
  one_listed h w g ew eg = record {
    room_kept = length-set (set d (2 + 2 * n) w) (2 + 2 * n + 1) g ∙ length-set d (2 + 2 * n) w;
    one_more = λ d₀ i. listing_head s d₀ room d n p r i here h w g ew eg;
  }

  pub one_full : n ≡ room → ListsOne s p d d room n r p
  one_full h = record { room_kept = refl; one_more = λ d₀ i. listing_full s d₀ room d n p r i here h }

  pub one_past : room ≤ n → (n ≡ room → ⊥) → ListsOne s p d d room n r r
  one_past h e = record { room_kept = refl; one_more = λ d₀ i. listing_past s d₀ room d n p r i here (omega arith) }

pub both_kept : (d d' d'' : List ℕ) (i x j y : ℕ) → d' ≡ set d i x → d'' ≡ set d' j y → length d'' ≡ length d
both_kept d d' d'' i x j y e f = ap length f ∙ length-set d' j y ∙ ap length e ∙ length-set d i x

-- ---- the words that an index has, as the code cuts them out
pub words_within : (d : List ℕ) (from end : ℕ) → from ≡ min 2 (length d) → end ≡ from + 2 * listed_in d → (from ≤ end) × (end ≤ length d)
words_within d from end e f = (omega arith, omega arith)

pub words_same : (d : List ℕ) (from end : ℕ) → from ≡ min 2 (length d) → end ≡ from + 2 * listed_in d → take (end - from) (drop from d) ≡ words_in d
words_same d from end e f = let n : end - from ≡ 2 * listed_in d = omega arith in rw (n, e) (go d)
  where
    go : (l : List ℕ) → take (2 * listed_in d) (drop (min 2 (length l)) l) ≡ take (2 * listed_in d) (drop 2 l)
    go [] = refl
    go (x ∷ []) = refl
    go (x ∷ y ∷ l) = let m : min 2 (suc (suc (length l))) ≡ 2 = omega arith in rw m
