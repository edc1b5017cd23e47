-- A table's bytes are read without refusal, and stand for the table.
use Rattle.std.specs.Prelude.{◌≡◌, ◌||◌, length, ℤ}
use Rattle.std.proofs.Common.{refl, ◌∙◌, ap, arith, SFits, true, List, [], ◌∷◌, ℕ, zero, suc, ◌+◌, ◌*◌, ◌/◌, ◌%◌, ◌^◌, ◌<◌, eqb, ltb, le-ltb, lt-ltb}
use Rattle.std.proofs.lemmas.Int.{to_z-of_z}
use Rattle.std.specs.Int.{w32}
use mir.ValLaws.{of_z_fits}
use Rattle.numbers.specs.Values.{signed, bits_of}
use Rattle.records.specs.declared.Notation.TheVariants as notations
use Rattle.records.specs.declared.Cause.TheVariants.{None}
use Rattle.records.specs.Format.{record_size, part_length, parts_from, parts, operand_at}
use Rattle.records.specs.Refusals.{number_of, no_refusal}
use Rattle.table_format.specs.declared.InitialValue.{InitialValue}
use Rattle.table_format.specs.declared.Atom.{Atom}
use Rattle.table_format.specs.declared.Update.{Update}
use Rattle.table_format.specs.declared.Context.{Context}
use Rattle.table_format.specs.declared.Record.{Record}
use Rattle.table_format.specs.declared.Record.TheVariants.{Initial, Head, Clause, Atomic, Change, Cut, Unknown}
use Rattle.table_format.specs.All.{All}
use Rattle.table_format.specs.Format.{initial_of, head_of, atom_of, update_of, record_of, records_of, records, record_to, bytes_of}
use Rattle.table_format.specs.Table.{Rule, Table, Gathered, gather, table_of, atoms_to, clauses_to, updates_to, rules_to, initial_to, encode}
use Rattle.table_format.specs.FieldFaults.{initial_names_lem, atom_names_lem, update_names_lem}
use Rattle.table_format.specs.Reading.{begin, cause_of, next_context, read_from, longest_table, read_table}
use Rattle.table_format.specs.WellFormed.{Fits, GoodAtom, GoodUpdate, GoodRule, Rising, WellFormedTable, initial_fits_lem, head_fits_lem, atom_fits_lem, update_fits_lem}

-- ---- one record
-- the numbers of two and four bytes, and a value, from their bytes
u16_back : (n : ℕ) → n < 65536 → n % 256 + 256 * (n / 256 % 256) ≡ n
u16_back n h = omega arith

u32_back : (n : ℕ) → n < 2 ^ 32 → n % 256 + 256 * (n / 256 % 256) + 65536 * (n / 256 / 256 % 256) + 16777216 * (n / 256 / 256 / 256 % 256) ≡ n
u32_back n h = omega arith

value_back : (z : ℤ) → SFits w32 z →
    signed (bits_of z % 256 + 256 * (bits_of z / 256 % 256) + 65536 * (bits_of z / 256 / 256 % 256) + 16777216 * (bits_of z / 256 / 256 / 256 % 256)) ≡ z
value_back z f = ap signed (u32_back (bits_of z) (of_z_fits w32 z f).fits) ∙ to_z-of_z w32 z f

-- the bytes of a record are one part, and the rest is cut as it was
part_back : (x : Record) (r : List ℕ) → Fits x → parts_from notations.Table 0 (record_to x r) ≡ record_to x [] ∷ parts_from notations.Table 0 r
unfolding parts_from part_length record_size record_to
part_back (Initial x) r f = rw (le-ltb (length (record_to (Initial x) r)) 7 (omega arith))
part_back (Head x) r f = rw (le-ltb (length (record_to (Head x) r)) 11 (omega arith))
part_back Clause r f = rw (le-ltb (length (record_to Clause r)) 1 (omega arith))
part_back (Atomic x) r f = rw (le-ltb (length (record_to (Atomic x) r)) 9 (omega arith))
part_back (Change x) r f = rw (le-ltb (length (record_to (Change x) r)) 17 (omega arith))
part_back Cut r f = absurd f
part_back Unknown r f = absurd f

-- and hold the record
record_back : (x : Record) → Fits x → record_of (record_to x []) ≡ x
unfolding record_of record_size record_to initial_of head_of atom_of update_of operand_at
record_back (Initial x) f = rw (u16_back x.variable f.0, value_back x.value.0 f.1)
record_back (Head x) f = rw (u32_back x.low f.2, u32_back x.high f.3)
record_back Clause f = refl
record_back (Atomic x) f = rw (u16_back x.variable f.1, value_back x.right.value.0 f.2.1)
record_back (Change x) f =
    rw (u16_back x.condition f.0, u16_back x.target f.2, value_back x.first.value.0 f.4.1, value_back x.second.value.0 f.5.1)
record_back Cut f = absurd f
record_back Unknown f = absurd f

-- ---- a list of records
pub records_back : (l : List Record) → All Fits l → records (bytes_of l) ≡ l
unfolding bytes_of records_of parts_from
records_back [] h = refl
records_back (x ∷ l) h = rw (part_back x (bytes_of l) h.0, record_back x h.0, records_back l h.1)

-- a reader accepts each record where it stands, and its numbers go into their bytes
unfoldable pub Passes : Context → List Record → Type 0
Passes c [] = Unit {0}
Passes c (x ∷ l) = (cause_of c x ≡ None) × Fits x × Passes (next_context c x) l

pub passes_fit : (l : List Record) (c : Context) → Passes c l → All Fits l
unfolding Passes
passes_fit [] c h = tt
passes_fit (x ∷ l) c h = (h.1, passes_fit l (next_context c x) h.2)

read_passes : (l : List Record) (c : Context) (p : ℕ) → Passes c l → read_from c p (parts notations.Table (bytes_of l)) ≡ no_refusal
unfolding Passes bytes_of parts_from read_from number_of
read_passes [] c p h = refl
read_passes (x ∷ l) c p h =
    rw (part_back x (bytes_of l) h.1, record_back x h.1, h.0) (read_passes l (next_context c x) (p + length (record_to x [])) h.2)

-- ---- the records of a well-formed table pass
abbrev at : ℕ → ℕ → ℕ → Context
at place least kind = record { place = place; least = least; kind = kind }

module _ (least kind : ℕ) where
  atoms_pass : (l : List Atom) (r : List Record) → All GoodAtom l → Passes (at 2 least kind) r → Passes (at 2 least kind) (atoms_to l r)
  unfolding Passes atoms_to cause_of next_context
  atoms_pass [] r h p = p
  atoms_pass (a ∷ l) r h p = (rw (atom_names_lem a h.0.fits, h.0.fits), atom_fits_lem a h.0, atoms_pass l r h.1 p)

  -- from a rule's head or from its clauses on
  clauses_pass : (place : ℕ) (l : List (List Atom)) (r : List Record) → (eqb place 1 || eqb place 2) ≡ true → All (All GoodAtom) l →
      ((q : ℕ) → ltb 0 q ≡ true → Passes (at q least kind) r) → Passes (at place least kind) (clauses_to l r)
  unfolding Passes clauses_to cause_of next_context
  clauses_pass place [] r e h p = p place (begun place e)
    where
      begun : (q : ℕ) → (eqb q 1 || eqb q 2) ≡ true → ltb 0 q ≡ true
      begun zero e = e
      begun (suc q) e = lt-ltb 0 (suc q) (omega arith)
  clauses_pass place (c ∷ l) r e h p = (rw e, tt, atoms_pass c (clauses_to l r) h.0 (clauses_pass 2 l r refl h.1 p))

  updates_pass : (place : ℕ) (l : List Update) (r : List Record) → ltb 0 place ≡ true → All (GoodUpdate kind) l →
      ((q : ℕ) → Passes (at q least kind) r) → Passes (at place least kind) (updates_to l r)
  unfolding Passes updates_to cause_of next_context
  updates_pass place [] r e h p = p place
  updates_pass place (u ∷ l) r e h p = (rw (e, update_names_lem kind u h.0.fits, h.0.fits), update_fits_lem kind u h.0, updates_pass 3 l r refl h.1 p)

rules_pass : (l : List Rule) (place least kind : ℕ) → All GoodRule l → Passes (at place least kind) (rules_to l)
unfolding Passes rules_to cause_of next_context
rules_pass [] place least kind h = tt
rules_pass (x ∷ l) place least kind h =
    let k = x.head.kind in
    let g = h.0 in
    let us = updates_to x.updates (rules_to l) in (
      rw g.head,
      head_fits_lem x.head g.head g.id,
      clauses_pass least k 1 x.clauses us refl g.clauses
          (λ q e. updates_pass least k q x.updates (rules_to l) e g.updates (λ q. rules_pass l q least k h.1)),
    )

initial_pass : (l : List InitialValue) (r : List Record) (least : ℕ) → Rising least l → ((n : ℕ) → Passes (at 0 n 0) r) → Passes (at 0 least 0) (initial_to l r)
unfolding Passes initial_to cause_of next_context
initial_pass [] r least h p = p least
initial_pass (x ∷ l) r least h p = (rw (initial_names_lem least x h.0, h.0), initial_fits_lem least x h.0 h.1, initial_pass l r (x.variable + 1) h.2 p)

pub table_passes : (t : Table) → WellFormedTable t → Passes begin (initial_to t.initial (rules_to t.rules))
table_passes t w = initial_pass t.initial (rules_to t.rules) 1 w.initial (λ n. rules_pass t.rules 0 n 0 w.rules)

-- ---- what the records of a table stand for
abbrev made : List Atom → List (List Atom) → List Update → List InitialValue → List Rule → Gathered
made a c u i r = record { atoms = a; clauses = c; updates = u; initial = i; rules = r }

module _ (rs : List Rule) where
  atoms_made : (l : List Atom) (r : List Record) (c : List (List Atom)) (u : List Update) → gather r ≡ made [] c u [] rs → gather (atoms_to l r) ≡ made l c u [] rs
  unfolding gather atoms_to
  atoms_made [] r c u e = e
  atoms_made (a ∷ l) r c u e = rw (atoms_made l r c u e)

  clauses_made : (l : List (List Atom)) (r : List Record) (u : List Update) → gather r ≡ made [] [] u [] rs → gather (clauses_to l r) ≡ made [] l u [] rs
  unfolding gather clauses_to
  clauses_made [] r u e = e
  clauses_made (c ∷ l) r u e = rw (atoms_made c (clauses_to l r) l u (clauses_made l r u e))

  updates_made : (l : List Update) (r : List Record) → gather r ≡ made [] [] [] [] rs → gather (updates_to l r) ≡ made [] [] l [] rs
  unfolding gather updates_to
  updates_made [] r e = e
  updates_made (u ∷ l) r e = rw (updates_made l r e)

  initial_made : (l : List InitialValue) (r : List Record) → gather r ≡ made [] [] [] [] rs → gather (initial_to l r) ≡ made [] [] [] l rs
  unfolding gather initial_to
  initial_made [] r e = e
  initial_made (x ∷ l) r e = rw (initial_made l r e)

rules_made : (l : List Rule) → gather (rules_to l) ≡ made [] [] [] [] l
unfolding gather rules_to
rules_made [] = refl
rules_made (x ∷ l) =
    rw (clauses_made l x.clauses (updates_to x.updates (rules_to l)) x.updates (updates_made l x.updates (rules_to l) (rules_made l)))

-- ---- the round trip
-- the bytes of a well-formed table stand for it
table_back : (t : Table) → WellFormedTable t → table_of (encode t) ≡ t
unfolding table_of
table_back t w =
    let l = initial_to t.initial (rules_to t.rules) in
    rw (records_back l (passes_fit l begin (table_passes t w)), initial_made t.rules t.initial (rules_to t.rules) (rules_made t.rules))

-- and are accepted
table_accepted : (t : Table) → WellFormedTable t → read_table (encode t) ≡ no_refusal
unfolding read_table
table_accepted t w =
    rw (le-ltb longest_table (length (encode t)) w.short) (read_passes (initial_to t.initial (rules_to t.rules)) begin 0 (table_passes t w))

pub round_trip : (t : Table) → WellFormedTable t → (read_table (encode t) ≡ no_refusal) × (table_of (encode t) ≡ t)
round_trip t w = (table_accepted t w, table_back t w)
