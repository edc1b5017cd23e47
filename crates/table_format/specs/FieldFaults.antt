-- "14, .. then 4 stand in the old place of 4": what fits names all that it must, and which records of a table get one of the two.
use Rattle.std.specs.Prelude.{◌≡◌, refl, Bool, true, false, cond, ◌&&◌, ◌||◌, not, ℕ, ◌<◌, eqb, ltb, leb, pos}
use Rattle.std.proofs.lemmas.Bool.{false≢true}
use Rattle.std.proofs.Common.{arith, ltb-true, eqb-true, lt-ltb, eq-eqb}
use Rattle.std.proofs.Math.Decide.{dec_lt}
use Rattle.std.specs.Int.Signed.{lt_z}
use Rattle.records.specs.declared.Operand.{Operand}
use Rattle.records.specs.Events.{start_kind}
use Rattle.records.specs.Refusals.{number_of, is_none, is_field_fault}
use Rattle.table_format.specs.declared.InitialValue.{InitialValue}
use Rattle.table_format.specs.declared.Atom.{Atom}
use Rattle.table_format.specs.declared.Update.{Update}
use Rattle.table_format.specs.declared.Context.{Context}
use Rattle.table_format.specs.declared.Record.{Record}
use Rattle.table_format.specs.declared.Record.TheVariants.{Initial, Head, Clause, Atomic, Change, Cut, Unknown}
use Rattle.table_format.specs.Variables.{is_variable, no_variable}
use Rattle.table_format.specs.Reading.{names_variable, operand_fits, initial_fits, head_fits, atom_fits, update_fits, operand_names, initial_names, atom_names, update_names, judged, cause_of}

pub and_split : (a b : Bool) → (a && b) ≡ true → (a ≡ true) × (b ≡ true)
and_split true b h = (refl, h)
and_split false b h = absurd (false≢true h)

or_right : (a b : Bool) → b ≡ true → (a || b) ≡ true
or_right true b h = refl
or_right false b h = h

-- ---- what fits names
operand_names_lem : (may : Bool) (o : Operand) → operand_fits may o ≡ true → operand_names o ≡ true
unfolding operand_fits
operand_names_lem may o h = go (eqb o.tag 0) (eqb o.tag 1) refl refl h
  where
    go : (x y : Bool) → eqb o.tag 0 ≡ x → eqb o.tag 1 ≡ y → cond x true (cond y (names_variable o.value.0) (may && eqb o.tag 2)) ≡ true →
        (not y || names_variable o.value.0) ≡ true
    go true true e f h = let p = eqb-true o.tag 0 e in let q = eqb-true o.tag 1 f in absurd (omega arith)
    go false true e f h = h
    go true false e f h = refl
    go false false e f h = refl

pub initial_names_lem : (least : ℕ) (x : InitialValue) → initial_fits least x ≡ true → initial_names x ≡ true
unfolding initial_fits
initial_names_lem least x h = (and_split (leb least x.variable) _ h).1

pub atom_names_lem : (a : Atom) → atom_fits a ≡ true → atom_names a ≡ true
unfolding atom_fits atom_names
atom_names_lem a h =
    let (p, h₁) = and_split (ltb a.op 8) _ h in
    let (q, r) = and_split (is_variable a.variable) _ h₁ in
    rw q (go (ltb-true a.op 8 p) (dec_lt a.op 6) (dec_lt a.op 7) r)
  where
    go : a.op < 8 → Dec (a.op < 6) → Dec (a.op < 7) → cond (ltb a.op 6) (operand_fits false a.right) (eqb a.right.tag 0 && lt_z (pos 0) a.right.value.0) ≡ true →
        ((eqb a.op 6 || eqb a.op 7) || operand_names a.right) ≡ true
    go l (yes s) _ r = or_right (eqb a.op 6 || eqb a.op 7) _ (operand_names_lem false a.right (rw (lt-ltb a.op 6 s) at r))
    go l (no s) (yes t) r = rw (eq-eqb a.op 6 (omega arith))
    go l (no s) (no t) r = rw (eq-eqb a.op 7 (omega arith)) (rw (or_right (eqb a.op 6) true refl))

pub update_names_lem : (kind : ℕ) (u : Update) → update_fits kind u ≡ true → update_names u ≡ true
unfolding update_fits update_names
update_names_lem kind u h =
    let (a, h₁) = and_split (eqb u.condition no_variable || is_variable u.condition) _ h in
    let (b, h₂) = and_split (ltb 0 u.target) _ h₁ in
    let (c, h₃) = and_split (is_variable u.target) _ h₂ in
    let (d, h₄) = and_split (ltb u.op 3) _ h₃ in
    let (e, f) = and_split (operand_fits (eqb kind start_kind) u.first) _ h₄ in
    rw (a, c, operand_names_lem (eqb kind start_kind) u.first e, operand_names_lem (eqb kind start_kind) u.second f)

-- ---- the parts of `cause_of`: the record's kind may stand here, its fields fit
abbrev pub may_stand : Context → Record → Bool
may_stand c (Initial x) = eqb c.place 0
may_stand c (Head h) = true
may_stand c Clause = eqb c.place 1 || eqb c.place 2
may_stand c (Atomic a) = eqb c.place 2
may_stand c (Change u) = ltb 0 c.place
may_stand c Cut = false
may_stand c Unknown = false

abbrev pub fields_fit : Context → Record → Bool
fields_fit c (Initial x) = initial_fits c.least x
fields_fit c (Head h) = head_fits h
fields_fit c Clause = true
fields_fit c (Atomic a) = atom_fits a
fields_fit c (Change u) = update_fits c.kind u
fields_fit c Cut = true
fields_fit c Unknown = true

abbrev Told : Context → Record → Type 0
Told c r = (is_field_fault (cause_of c r) ≡ (may_stand c r && not (fields_fit c r))) × (is_none (cause_of c r) ≡ (may_stand c r && fields_fit c r))

judged_told : (o n f : Bool) → (f ≡ true → n ≡ true) → (is_field_fault (judged o n f) ≡ (o && not f)) × (is_none (judged o n f) ≡ (o && f))
unfolding is_field_fault number_of
judged_told false n f k = (refl, refl)
judged_told true true true k = (refl, refl)
judged_told true true false k = (refl, refl)
judged_told true false true k = absurd (false≢true (k refl))
judged_told true false false k = (refl, refl)

told : (c : Context) (r : Record) → Told c r
unfolding cause_of is_field_fault number_of
told c (Initial x) = judged_told (eqb c.place 0) (initial_names x) (initial_fits c.least x) (initial_names_lem c.least x)
told c (Head h) = judged_told true true (head_fits h) (λ e. refl)
told c Clause = judged_told (eqb c.place 1 || eqb c.place 2) true true (λ e. refl)
told c (Atomic a) = judged_told (eqb c.place 2) (atom_names a) (atom_fits a) (atom_names_lem a)
told c (Change u) = judged_told (ltb 0 c.place) (update_names u) (update_fits c.kind u) (update_names_lem c.kind u)
told c Cut = (refl, refl)
told c Unknown = (refl, refl)

-- 14 or 4 exactly where a test of a field fails, after the kind
pub field_fault : (c : Context) (r : Record) → is_field_fault (cause_of c r) ≡ (may_stand c r && not (fields_fit c r))
field_fault c r = (told c r).0

-- accepted exactly where no test fails: the finer number refuses what was refused before it, and nothing else
pub fault_free : (c : Context) (r : Record) → is_none (cause_of c r) ≡ (may_stand c r && fields_fit c r)
fault_free c r = (told c r).1
