-- What stands at a place of a table, by its kind byte: for walks that decode no more than they need.
use Rattle.std.specs.Prelude.{◌≡◌, List, [], ◌∷◌, ℕ, ◌+◌, ◌-◌, ◌<◌, ◌≤◌, get_or, length, drop}
use Rattle.std.proofs.Common.{refl, sym, ◌∙◌, ap, arith, ne_eqb, lt-ltb, le-ltb}
use Rattle.std.proofs.Math.Decide.{dec_lt, ℕ_discrete}
use Rattle.records.specs.declared.Notation.TheVariants as notations
use Rattle.records.specs.Format.{record_size, part_length, part_length_at}
use Rattle.records.specs.Walk.{part_size, part_byte, next_place}
use Rattle.records.specs.declared.walks.Part.{Part}
use Rattle.table_format.specs.declared.Record.{Record}
use Rattle.table_format.specs.declared.Record.TheVariants.{Initial, Head, Clause, Atomic, Change, Cut, Unknown}
use Rattle.table_format.specs.Format.{record_of_whole, record_of, records, head_of, atom_of, update_of, kind_of}
use Rattle.table_format.specs.Table.{gather}
use Rattle.table_format.specs.Decoded.{record_whole, record_cut, kind_unknown, kind_cut, kind_whole}
use Rattle.table_format.specs.RecordsAt.{records_at, records_end, IsTablePart}
use Rattle.table_rules.specs.At.{bytes_at, head_in}

pub first_byte : (s : List ℕ) (p m : ℕ) → p < length s → m ≡ part_length_at notations.Table s p → get_or (bytes_at s p m) 0 0 ≡ get_or s p 0
first_byte s p m h e =
    let q : p + 0 ≡ p = omega arith in
    rw q at (part_byte notations.Table s p m h e 0 (next_place notations.Table s p m h e).0)

pub first_of_part : (s : List ℕ) (p : ℕ) (y : Part) (q : ℕ) → IsTablePart s p y q → get_or y.bytes.now 0 0 ≡ get_or s p 0
first_of_part s p y q w = rw w.bytes (first_byte s p (part_length_at notations.Table s p) w.within refl)

-- ---- k is the kind byte at p, m the size of records of that kind
module _ (s : List ℕ) (p k m : ℕ) (b : k ≡ get_or s p 0) (e : m ≡ record_size notations.Table k) (z : m ≡ 0 → ⊥) where
  pub whole_size : p + m ≤ length s → m ≡ part_length_at notations.Table s p
  unfolding part_length_at part_length
  whole_size h =
      rw (lt-ltb p (length s) (let n : 0 < m = omega arith in omega arith), ← b, ← e, ne_eqb m 0 z, le-ltb (length s - p) m (omega arith))

  pub cut_size : p < length s → length s - p < m → length s - p ≡ part_length_at notations.Table s p
  unfolding part_length_at part_length
  cut_size h l = rw (lt-ltb p (length s) h, ← b, ← e, ne_eqb m 0 z, lt-ltb (length s - p) m l)

  pub records_whole : p + m ≤ length s → records (drop p s) ≡ record_of_whole k (bytes_at s p m) ∷ records (drop (p + m) s)
  records_whole h =
      let w : p < length s = let n : 0 < m = omega arith in omega arith in
      let g : k ≡ get_or (bytes_at s p m) 0 0 = b ∙ sym (first_byte s p m w (whole_size h)) in
      let l : m ≤ length (bytes_at s p m) = let q = part_size notations.Table s p m w (whole_size h) in omega arith in
      let q : p + m - p ≡ m = omega arith in
      records_at s p m (record_of_whole k (bytes_at s p m)) w (whole_size h) (rw q (record_whole (bytes_at s p m) k m g e z l))

  pub records_cut : p < length s → length s - p < m → records (drop p s) ≡ Cut ∷ []
  records_cut h l =
      let n = length s - p in
      let w : n ≡ part_length_at notations.Table s p = cut_size h l in
      let g : k ≡ get_or (bytes_at s p n) 0 0 = b ∙ sym (first_byte s p n h w) in
      let q : p + n - p ≡ n = omega arith in
      let c : length (bytes_at s p n) < m = let r = part_size notations.Table s p n h w in omega arith in
      records_at s p n Cut h w (rw q (record_cut (bytes_at s p n) k m g e z c)) ∙ ap (λ (r : List Record). Cut ∷ r) (records_end s (p + n) (omega arith))

-- a record is of no other kind than its first byte says
pub kind_other : (x : List ℕ) (k j : ℕ) → k ≡ get_or x 0 0 → (k ≡ j → ⊥) → 0 < j → kind_of (record_of x) ≡ j → ⊥
kind_other x k j f n h = go (ℕ_discrete m 0) (dec_lt (length x) m)
  where
    m : ℕ
    m = record_size notations.Table k

    go : Dec (m ≡ 0) → Dec (length x < m) → kind_of (record_of x) ≡ j → ⊥
    go (yes z) l e = let q = kind_unknown x k m f refl z in let r : 0 ≡ j = q ∙ e in omega arith
    go (no z) (yes l) e = let q = kind_cut x k m f refl z l in let r : 0 ≡ j = q ∙ e in omega arith
    go (no z) (no l) e = n (kind_whole x k m f refl z (omega arith) ∙ e)

-- ---- the four kinds that walks look for, whole or cut
module _ (s : List ℕ) (p : ℕ) where
  pub clause_records : get_or s p 0 ≡ 34 → p < length s → records (drop p s) ≡ Clause ∷ records (drop (p + 1) s)
  unfolding record_size
  clause_records b h = records_whole s p 34 1 (sym b) refl (λ z. omega arith) (omega arith)

  pub head_records : get_or s p 0 ≡ 33 → p + 11 ≤ length s → records (drop p s) ≡ Head (head_of (bytes_at s p 11)) ∷ records (drop (p + 11) s)
  unfolding record_size
  head_records b h = records_whole s p 33 11 (sym b) refl (λ z. omega arith) h

  pub head_size_lem : get_or s p 0 ≡ 33 → p + 11 ≤ length s → 11 ≡ part_length_at notations.Table s p
  unfolding record_size
  head_size_lem b h = whole_size s p 33 11 (sym b) refl (λ z. omega arith) h

  pub atom_records : get_or s p 0 ≡ 35 → p + 9 ≤ length s → records (drop p s) ≡ Atomic (atom_of (bytes_at s p 9)) ∷ records (drop (p + 9) s)
  unfolding record_size
  atom_records b h = records_whole s p 35 9 (sym b) refl (λ z. omega arith) h

  pub update_records : get_or s p 0 ≡ 36 → p + 17 ≤ length s → records (drop p s) ≡ Change (update_of (bytes_at s p 17)) ∷ records (drop (p + 17) s)
  unfolding record_size
  update_records b h = records_whole s p 36 17 (sym b) refl (λ z. omega arith) h

  module _ (h : p < length s) where
    pub head_cut : get_or s p 0 ≡ 33 → length s - p < 11 → records (drop p s) ≡ Cut ∷ []
    unfolding record_size
    head_cut b l = records_cut s p 33 11 (sym b) refl (λ z. omega arith) h l

    pub atom_cut : get_or s p 0 ≡ 35 → length s - p < 9 → records (drop p s) ≡ Cut ∷ []
    unfolding record_size
    atom_cut b l = records_cut s p 35 9 (sym b) refl (λ z. omega arith) h l

    pub update_cut : get_or s p 0 ≡ 36 → length s - p < 17 → records (drop p s) ≡ Cut ∷ []
    unfolding record_size
    update_cut b l = records_cut s p 36 17 (sym b) refl (λ z. omega arith) h l

-- ---- a record of another kind than j: m is its length, as the code has read it
module _ (s : List ℕ) (p m : ℕ) (h : p < length s) (e : m ≡ part_length_at notations.Table s p) where
  pub other_records : records (drop p s) ≡ record_of (bytes_at s p m) ∷ records (drop (p + m) s)
  other_records = let q : p + m - p ≡ m = omega arith in records_at s p m (record_of (bytes_at s p m)) h e (rw q)

  pub other_kind : (j : ℕ) → (get_or s p 0 ≡ j → ⊥) → 0 < j → kind_of (record_of (bytes_at s p m)) ≡ j → ⊥
  other_kind j n l =
      kind_other (bytes_at s p m) (get_or s p 0) j (sym (first_byte s p m h e)) n l

-- ---- heads
-- a head stands whole at p
pub record HeadAt (s : List ℕ) (p : ℕ) : Type 0 where
  pub within : p + 11 ≤ length s
  pub kind : get_or s p 0 ≡ 33

-- what a walk over heads asks of one: its event kind and its id
pub head_kind : (s : List ℕ) (p : ℕ) → HeadAt s p → get_or s (p + 1) 0 ≡ (head_in s p).kind
unfolding head_of
head_kind s p h = sym (part_byte notations.Table s p 11 (let w = h.within in omega arith) (head_size_lem s p h.kind h.within) 1 (omega arith))

pub head_id : (s : List ℕ) (p : ℕ) → HeadAt s p → get_or s (p + 2) 0 ≡ (head_in s p).id
unfolding head_of
head_id s p h = sym (part_byte notations.Table s p 11 (let w = h.within in omega arith) (head_size_lem s p h.kind h.within) 2 (omega arith))

pub no_rule : (x : Record) (l : List Record) → (kind_of x ≡ 33 → ⊥) → (gather l).rules ≡ (gather (x ∷ l)).rules
unfolding gather kind_of
no_rule (Initial x) l k = refl
no_rule (Head x) l k = absurd (k refl)
no_rule Clause l k = refl
no_rule (Atomic x) l k = refl
no_rule (Change x) l k = refl
no_rule Cut l k = refl
no_rule Unknown l k = refl
