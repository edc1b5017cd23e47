-- Laws of bytes and records that are written one after the other.
use Rattle.std.specs.Prelude.{◌≡◌, refl, List, [], ◌∷◌, ◌++◌, ℕ, suc, ◌+◌, ◌≤◌, min, length, set}
use Rattle.std.proofs.Common.{sym, ◌∙◌, ap, add-zero, add-suc, suc-add, add-one, arith, length-append}
use Rattle.std.proofs.Math.Numerals.{add-two, add-three, add-four, add_five, add_six, add_seven, add_eight}
use Rattle.std.proofs.Math.Decide.{dec_le}
use Rattle.std.proofs.lemmas.List.Edits.{sets}
use Rattle.std.proofs.Math.Seq.{length-sets, set_out}
use Rattle.table_format.specs.declared.Record.{Record}
use Rattle.table_format.specs.Format.{record_to, bytes_of}
use Rattle.table_format.specs.BytesLaws.{bytes_append}
use Rattle.table_writer.specs.Wrote.{farthest, Wrote, WroteRecords}

-- bytes that the slice has room for
pub stored : {d e : List ℕ} (bs : List ℕ) (at : ℕ) → at + length bs ≤ length d → length d ≤ farthest → e ≡ sets d at bs → Wrote d at bs e (at + length bs)
stored bs at h l e = record { bytes = e; place = omega arith }

-- ---- nine bytes, stored one by one
pub nine_stored : (l : List ℕ) (p a b c d e f g h i : ℕ) →
    set (set (set (set (set (set (set (set (set l p a) (p + 1) b) (p + 2) c) (p + 3) d) (p + 4) e) (p + 5) f) (p + 6) g) (p + 7) h) (p + 8) i ≡
    sets l p (a ∷ b ∷ c ∷ d ∷ e ∷ f ∷ g ∷ h ∷ i ∷ [])
nine_stored l p a b c d e f g h i = rw (add-one p, add-two p, add-three p, add-four p, add_five p, add_six p, add_seven p, add_eight p)

-- ---- one after the other
pub sets_append : {A : Type 0} (l a b : List A) (i : ℕ) → sets l i (a ++ b) ≡ sets (sets l i a) (i + length a) b
sets_append l [] b i = ap (λ (k : ℕ). sets l k b) (sym (add-zero i))
sets_append l (x ∷ a) b i = sets_append (set l i x) a b (suc i) ∙ ap (λ (k : ℕ). sets (sets l i (x ∷ a)) k b) (suc-add i (length a) ∙ sym (add-suc i (length a)))

sets_past : (bs l : List ℕ) (i : ℕ) → length l ≤ i → sets l i bs ≡ l
sets_past [] l i h = refl
sets_past (x ∷ bs) l i h =
    let e = set_out l i x h in
    ap (λ (k : List ℕ). sets k (suc i) bs) e ∙ sets_past bs l (suc i) (omega arith)

pub wrote_nothing : (d : List ℕ) (at : ℕ) → at ≤ farthest → Wrote d at [] d at
wrote_nothing d at h = record { bytes = refl; place = omega arith }

-- a slice that is written keeps its length
pub keeps_length : {d e bs : List ℕ} {at p : ℕ} → Wrote d at bs e p → length e ≡ length d
keeps_length {d} {e} {bs} {at} {p} w = ap length w.bytes ∙ length-sets d at bs

pub and_then : {d e f : List ℕ} {at p q : ℕ} (a b : List ℕ) → length d ≤ farthest → Wrote d at a e p → Wrote e p b f q → Wrote d at (a ++ b) f q
and_then {d} {e} {f} {at} {p} {q} a b h w x = record { bytes = x.bytes ∙ go (dec_le (at + length a) farthest); place = place }
  where
    place : q ≡ min (at + length (a ++ b)) farthest
    place =
        let l = length-append a b in
        let u = w.place in
        let v = x.place in
        omega arith

    size : length e ≡ length d
    size = keeps_length w

    go : Dec (at + length a ≤ farthest) → sets e p b ≡ sets d at (a ++ b)
    go (yes k) =
        let u = w.place in
        let r : p ≡ at + length a = omega arith in
        rw (r, sets_append d a b at, ← w.bytes)
    go (no k) =
        let u = w.place in
        let m : length e ≤ p = let z = size in omega arith in
        let n : length e ≤ at + length a = let z = size in omega arith in
        sets_past b e p m ∙ sym (sets_append d a b at ∙ ap (λ (l : List ℕ). sets l (at + length a) b) (sym w.bytes) ∙ sets_past b e (at + length a) n)

-- ---- the same of lists of records
pub records_none : (d : List ℕ) (at : ℕ) → at ≤ farthest → WroteRecords d at [] d at
unfolding bytes_of
records_none d at h = wrote_nothing d at h

pub records_one : {d e : List ℕ} {at p : ℕ} (x : Record) → Wrote d at (record_to x []) e p → WroteRecords d at (x ∷ []) e p
unfolding bytes_of
records_one x w = w

pub records_then : {d e f : List ℕ} {at p q : ℕ} (a b : List Record) → length d ≤ farthest → WroteRecords d at a e p → WroteRecords e p b f q → WroteRecords d at (a ++ b) f q
records_then a b h w x = rw (bytes_append a b) (and_then (bytes_of a) (bytes_of b) h w x)
