-- A place in an input and the parts that are left there: the laws that loops over records and events cite.
use Rattle.std.specs.Prelude.{◌≡◌, Bool, true, false, cond, List, [], ◌∷◌, take, eqb, ltb}
use Rattle.std.proofs.Math.Path.{refl, sym, ap}
use Rattle.std.proofs.Common.{◌∙◌, drop_of_length-le, get_or-drop, get_or-take, drop-drop, length-take-le, ltb-false}
use Prim.Native.Nat.{ℕ, zero, suc, ◌+◌, ◌-◌, ◌<◌, ◌≤◌}
use native.Mathlib.Omega.{arith}
use Rattle.std.proofs.Math.Decide.{dec_lt}
use Rattle.std.proofs.Math.ListN.{get_or, length, drop, length-drop}
use Rattle.std.proofs.Math.Seq.{drop-cons}
use Rattle.std.proofs.lemmas.Bool.{eqb-false}
use Rattle.records.specs.declared.Notation.{Notation}
use Rattle.records.specs.declared.Notation.TheVariants.{Script}
use Rattle.records.specs.declared.Cause.{Cause}
use Rattle.records.specs.declared.Event.{Event}
use Rattle.records.specs.declared.Listed.{Listed}
use Rattle.records.specs.Format.{record_size, part_length, part_length_at, parts_from, parts}
use Rattle.records.specs.Refusals.{is_none, in_script, no_refusal}
use Rattle.records.specs.Events.{no_event, event_of, listed_at}
use Rattle.records.specs.Run.{Machine, run_from, stages_from, tally_from}
use Rattle.records.specs.Laws.{length_at, length_past}

-- bytes to be passed over, passed over at once
passed : (w : Notation) (n : ℕ) (l : List ℕ) → parts_from w n l ≡ parts w (drop n l)
unfolding parts_from
passed w zero l = refl
passed w (suc n) [] = refl
passed w (suc n) (b ∷ l) = passed w n l

-- a part has at least its kind byte, and no more than what is left
part_bounds : (w : Notation) (k n : ℕ) → 0 < n → (0 < part_length w k n) × (part_length w k n ≤ n)
unfolding part_length
part_bounds w k n h = go (eqb m 0) (ltb n m) refl refl
  where
    m : ℕ
    m = record_size w k

    go : (a b : Bool) → eqb m 0 ≡ a → ltb n m ≡ b → (0 < cond a n (cond b n m)) × (cond a n (cond b n m) ≤ n)
    go true b e f = (h, omega arith)
    go false true e f = (h, omega arith)
    go false false e f =
        let z = eqb-false m 0 e in
        let l = ltb-false n m f in
        (omega arith, l)

pub parts_end : (w : Notation) (s : List ℕ) (p : ℕ) → length s ≤ p → parts w (drop p s) ≡ []
unfolding parts_from
parts_end w s p h = rw (drop_of_length-le s h)

-- the code's &s[p..p + m]
pub slice_part : (s : List ℕ) (p m : ℕ) → take (p + m - p) (drop p s) ≡ take m (drop p s)
slice_part s p m = let e : p + m - p ≡ m = omega arith in rw e

-- ---- the part at p, m bytes long
module _ (w : Notation) (s : List ℕ) (p m : ℕ) (h : p < length s) (e : m ≡ part_length_at w s p) where
  pub next_place : (0 < m) × (p + m ≤ length s)
  next_place =
      let b = part_bounds w (get_or s p 0) (length s - p) (omega arith) in
      let f : m ≡ part_length w (get_or s p 0) (length s - p) = e ∙ sym (length_at w s p h) in
      (rw f b.0, let l = b.1 in omega arith)

  pub part_size : length (take m (drop p s)) ≡ m
  part_size = let n = next_place in length-take-le m (drop p s) (simp length-drop (omega arith))

  pub part_byte : (i : ℕ) → i < m → get_or (take m (drop p s)) i 0 ≡ get_or s (p + i) 0
  part_byte i l = get_or-take m (drop p s) i 0 l ∙ get_or-drop p s i 0

  pub parts_at : parts w (drop p s) ≡ take m (drop p s) ∷ parts w (drop (p + m) s)
  unfolding parts_from
  parts_at =
      let c = drop-cons s p 0 h in
      let k = get_or s p 0 in
      let r = drop (suc p) s in
      let n : suc (length r) ≡ length s - p = simp length-drop (omega arith) in
      let f : part_length w k (suc (length r)) ≡ m = rw n (length_at w s p h ∙ sym e) in
      let q : suc p + (m - 1) ≡ p + m = let z = next_place in omega arith in
      let t : parts_from w (m - 1) r ≡ parts w (drop (p + m) s) = passed w (m - 1) r ∙ ap (parts w) (drop-drop (m - 1) (suc p) s ∙ ap (λ (j : ℕ). drop j s) q) in
      rw (c, f, t)

-- ---- for an induction over the parts that are left
pub record Split (w : Notation) (s : List ℕ) (p : ℕ) (x : List ℕ) (l : List (List ℕ)) : Type 0 where
  pub within : p < length s
  pub size : length x ≡ part_length_at w s p
  pub part : x ≡ take (length x) (drop p s)
  pub rest : parts w (drop (p + length x) s) ≡ l

pub parts_split : (w : Notation) (s : List ℕ) (p : ℕ) (x : List ℕ) (l : List (List ℕ)) → parts w (drop p s) ≡ x ∷ l → Split w s p x l
parts_split w s p x l e = go (dec_lt p (length s))
  where
    go : Dec (p < length s) → Split w s p x l
    go (yes h) =
        let m = part_length_at w s p in
        let f : take m (drop p s) ∷ parts w (drop (p + m) s) ≡ x ∷ l = sym (parts_at w s p m h refl) ∙ e in
        let g : take m (drop p s) ≡ x = cc in
        let n : length x ≡ m = ap length (sym g) ∙ part_size w s p m h refl in
        record { within = h; size = n; part = rw n (sym g); rest = rw n (cc) }
    go (no h) =
        let n : length s ≤ p = omega arith in
        let f : ◌≡◌ {A = List (List ℕ)} [] (x ∷ l) = sym (parts_end w s p n) ∙ e in
        let z : ◌≡◌ {A = ℕ} 0 1 = cc in
        absurd (omega arith)

-- ---- a run over a script that has come to its end, in state a
module _ {S : Type 0} (mac : Machine S) (s : List ℕ) (p : ℕ) (a : S) where
  pub run_end : (k : ℕ) → length s ≤ p → record { taken = k; refusal = no_refusal; state = a } ≡ run_from mac a k p (parts Script (drop p s))
  unfolding run_from
  run_end k h = rw (parts_end Script s p h)

  stages_end : length s ≤ p → [] ≡ stages_from mac a p (parts Script (drop p s))
  unfolding stages_from
  stages_end h = rw (parts_end Script s p h)

  pub tally_end : (k r : ℕ) → length s ≤ p → record { taken = k; refused = r; state = a } ≡ tally_from a k r (stages_from mac a p (parts Script (drop p s)))
  unfolding tally_from
  tally_end k r h = rw (← stages_end h)

-- ---- the event at a place: past the end there is none
pub listed_past : (s : List ℕ) (p : ℕ) → length s ≤ p → record { event = no_event; end = p } ≡ listed_at s p
unfolding listed_at event_of record_size
listed_past s p h =
    let n : part_length_at Script s p ≡ 0 = sym (length_past Script s p h) in
    rw n (ap (λ (q : ℕ). record { event = no_event; end = q }) (omega arith))

pub listed_within : (s : List ℕ) (p n : ℕ) (e : Event) → n ≡ part_length_at Script s p → e ≡ event_of (take (p + n - p) (drop p s)) → record { event = e; end = p + n } ≡ listed_at s p
unfolding listed_at
listed_within s p n e f g =
    let h : p + n - p ≡ n = omega arith in
    let k : e ≡ event_of (take n (drop p s)) = rw h at g in
    rw (k, f) refl

-- ---- the event l that stands at p of a script
module _ (s : List ℕ) (p : ℕ) {l : Listed} (i : l ≡ listed_at s p) where
  event_at_lem : l.event ≡ event_of (take (part_length_at Script s p) (drop p s))
  unfolding listed_at
  event_at_lem = ap (λ (x : Listed). x.event) i

  end_at_lem : l.end ≡ p + part_length_at Script s p
  unfolding listed_at
  end_at_lem = ap (λ (x : Listed). x.end) i

  pub next_listed : p < length s → (p < l.end) × (l.end ≤ length s)
  next_listed h = let n = next_place Script s p (part_length_at Script s p) h refl in let f = end_at_lem in omega arith

  -- a run: state a before it, answer c, state b after it
  module _ {S : Type 0} (mac : Machine S) (a : S) (h : p < length s) where
    pub listed_on : (k : ℕ) (c : Cause) (b : S) → c ≡ mac.answer a l.event → b ≡ mac.after a l.event → is_none c ≡ true →
        run_from mac b (k + 1) l.end (parts Script (drop l.end s)) ≡ run_from mac a k p (parts Script (drop p s))
    unfolding run_from
    listed_on k c b g j n = rw (end_at_lem, parts_at Script s p _ h refl, ← event_at_lem, ← g, n, part_size Script s p _ h refl, j)

    pub listed_refused : (k : ℕ) (c : Cause) → c ≡ mac.answer a l.event → is_none c ≡ false →
        record { taken = k; refusal = in_script c p l.end; state = a } ≡ run_from mac a k p (parts Script (drop p s))
    unfolding run_from
    listed_refused k c g n = rw (end_at_lem, parts_at Script s p _ h refl, ← event_at_lem, ← g, n, part_size Script s p _ h refl)

    -- the loop that goes on after refusals
    stage_at : (c : Cause) (b : S) → c ≡ mac.answer a l.event → b ≡ mac.after a l.event →
        record { event = l.event; answer = c; start = p; end = l.end; state = b } ∷ stages_from mac b l.end (parts Script (drop l.end s))
        ≡ stages_from mac a p (parts Script (drop p s))
    unfolding stages_from
    stage_at c b g j = rw (end_at_lem, parts_at Script s p _ h refl, ← event_at_lem, ← g, ← j, part_size Script s p _ h refl)

    pub listed_taken : (k r : ℕ) (c : Cause) (b : S) → c ≡ mac.answer a l.event → b ≡ mac.after a l.event → is_none c ≡ true →
        tally_from b (k + 1) r (stages_from mac b l.end (parts Script (drop l.end s))) ≡ tally_from a k r (stages_from mac a p (parts Script (drop p s)))
    unfolding tally_from
    listed_taken k r c b g j n = rw (← stage_at c b g j, n)

    pub listed_passed : (k r : ℕ) (c : Cause) (b : S) → c ≡ mac.answer a l.event → b ≡ mac.after a l.event → is_none c ≡ false →
        tally_from b k (r + 1) (stages_from mac b l.end (parts Script (drop l.end s))) ≡ tally_from a k r (stages_from mac a p (parts Script (drop p s)))
    unfolding tally_from
    listed_passed k r c b g j n = rw (← stage_at c b g j, n)
