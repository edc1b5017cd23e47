-- The part of a model at a place of its bytes, and its record.
use Rattle.std.specs.Prelude.{◌≡◌, refl, List, ℕ, ◌+◌, ◌-◌, ◌<◌, ◌≤◌, take, drop, get_or}
use Rattle.std.proofs.Common.{◌∙◌, ap, length-drop, length-take-le, sym, arith, length, eq-eqb, ne_eqb, lt-ltb, le-ltb}
use Rattle.std.proofs.Math.Decide.{dec_lt}
use Rattle.records.specs.declared.Notation.TheVariants as notations
use Rattle.records.specs.Format.{record_size, part_length, part_length_at}
use Rattle.records.specs.Laws.{length_at}
use Rattle.records.specs.Walk.{slice_part, next_place, part_byte}
use Rattle.model_format.specs.declared.Record.{Record}
use Rattle.model_format.specs.Format.{record_of}

abbrev pub end_at : List ℕ → ℕ → ℕ
end_at s p = p + part_length_at notations.Model s p

abbrev pub record_at : List ℕ → ℕ → Record
record_at s p = record_of (take (part_length_at notations.Model s p) (drop p s))

-- the code's &s[p..q]
pub record_slice : (s : List ℕ) (p q : ℕ) → q ≡ end_at s p → record_of (take (q - p) (drop p s)) ≡ record_at s p
record_slice s p q e = rw (e, slice_part s p (part_length_at notations.Model s p))

-- its kind byte
pub kind_slice : (s : List ℕ) (p q : ℕ) → p < length s → q ≡ end_at s p → get_or s p 0 ≡ get_or (take (q - p) (drop p s)) 0 0
kind_slice s p q h e =
    let n = next_place notations.Model s p _ h refl in
    let z : p + 0 ≡ p = omega arith in
    let m : q - p ≡ part_length_at notations.Model s p = omega arith in
    ap (λ (i : ℕ). get_or s i 0) (sym z) ∙ sym (part_byte notations.Model s p _ h refl 0 n.0) ∙ ap (λ (j : ℕ). get_or (take j (drop p s)) 0 0) (sym m)

-- ---- where the part ends, by the size m of records of its kind k: at the input's end if it is unknown or cut
module _ (s : List ℕ) (p k m : ℕ) (h : p < length s) (b : k ≡ get_or s p 0) (f : m ≡ record_size notations.Model k) where
  at_end : (n : ℕ) → n ≡ part_length notations.Model k (length s - p) → p + n ≡ end_at s p
  at_end n e = ap (λ (i : ℕ). p + i) (e ∙ ap (λ (i : ℕ). part_length notations.Model i (length s - p)) b ∙ length_at notations.Model s p h)

  pub end_unknown : m ≡ 0 → length s ≡ end_at s p
  unfolding part_length
  end_unknown z =
      let w : p + (length s - p) ≡ length s = omega arith in
      sym w ∙ at_end (length s - p) (rw (← f, eq-eqb m 0 z))

  pub end_cut : (m ≡ 0 → ⊥) → length s - p < m → length s ≡ end_at s p
  unfolding part_length
  end_cut z l =
      let w : p + (length s - p) ≡ length s = omega arith in
      sym w ∙ at_end (length s - p) (rw (← f, ne_eqb m 0 z, lt-ltb (length s - p) m l))

  pub end_whole : (m ≡ 0 → ⊥) → m ≤ length s - p → p + m ≡ end_at s p
  unfolding part_length
  end_whole z l = at_end m (rw (← f, ne_eqb m 0 z, le-ltb (length s - p) m l))
