-- An accepted model is well-formed.
use Rattle.std.specs.Prelude.{◌≡◌, refl, Bool, true, false, cond, List, [], ◌∷◌, ℕ, zero, suc, ◌+◌, ◌-◌, ◌<◌, get_or, length, take, eqb, ltb}
use Rattle.std.proofs.Common.{sym, ◌∙◌, arith, SFits, length-take, get_or-take}
use Rattle.std.proofs.Math.Decide.{dec_lt}
use Rattle.std.specs.Int.{w32}
use mir.ValLaws.{to_z-Fits}
use Rattle.std.proofs.lemmas.Bool.{eqb-false}
use Rattle.std.proofs.Math.ListN.{get_or-eq_default}
use Rattle.numbers.specs.Values.{natural, signed, u32_at}
use Rattle.records.specs.declared.Notation.{Notation}
use Rattle.records.specs.declared.Notation.TheVariants as notations
use Rattle.records.specs.Format.{record_size, part_length, parts_from, parts, operand_at}
use Rattle.records.specs.Refusals.{number_of, is_none}
use Rattle.model_format.specs.declared.Record.{Record}
use Rattle.model_format.specs.declared.Record.TheVariants.{HeadRecord, ThreadRecord, InputRecord, OutputRecord, LocalRecord, ConnectionRecord, ModeRecord, TransitionRecord, AtomRecord, AssignmentRecord, Cut, Unknown}
use Rattle.model_format.specs.declared.Reading.{Reading}
use Rattle.model_format.specs.declared.ModelRead.{ModelRead}
use Rattle.model_format.specs.Format.{head_of, thread_of, input_of, owned_of, connection_of, switch_of, transition_of, atom_of, assignment_of, record_of}
use Rattle.model_format.specs.Reading.{cause_of, next_reading, read_from, begin, read_model}
use Rattle.model_format.specs.WellFormed.{Bytes, WellFormed}
use Rattle.model_format.specs.Sound.{Sound, sound_begin, well_formed}
use Rattle.model_format.specs.TimingSteps.{head_next, thread_next, input_next, output_next, local_next, connection_next, switch_next}
use Rattle.model_format.specs.BehaviorSteps.{transition_next, atom_next, assignment_next}

-- ---- what a record of bytes has, whatever the bytes: values of 32 bits, and a transition with nothing in it yet
abbrev Decoded : Record → Type 0
Decoded (HeadRecord x) = Unit {0}
Decoded (ThreadRecord x) = Unit {0}
Decoded (InputRecord x) = SFits w32 x.start.0
Decoded (OutputRecord o) = Unit {0}
Decoded (LocalRecord x) = SFits w32 x.start.0
Decoded (ConnectionRecord x) = Unit {0}
Decoded (ModeRecord x) = Unit {0}
Decoded (TransitionRecord x) = (x.atoms ≡ 0) × (x.assignments ≡ 0)
Decoded (AtomRecord x) = SFits w32 x.right.value.0
Decoded (AssignmentRecord x) = SFits w32 x.first.value.0 × SFits w32 x.second.value.0
Decoded Cut = Unit {0}
Decoded Unknown = Unit {0}

either : (b : Bool) (x y : Record) → Decoded x → Decoded y → Decoded (cond b x y)
either true x y p q = p
either false x y p q = q

value_fits : (x : List ℕ) (p : ℕ) → Bytes x → SFits w32 (signed (u32_at x p))
value_fits x p h =
    let a = h p in
    let b = h (p + 1) in
    let c = h (p + 2) in
    let d = h (p + 3) in
    to_z-Fits w32 (u32_at x p) (record { fits = omega arith })

zero_fits : SFits w32 (natural 0).0
zero_fits = record { sfits = omega arith }

decoded : (x : List ℕ) → Bytes x → Decoded (record_of x)
unfolding record_of input_of owned_of transition_of atom_of assignment_of operand_at
decoded x h =
    let k = get_or x 0 0 in
    either (eqb (record_size notations.Model k) 0) Unknown _ tt
    (either (ltb (length x) (record_size notations.Model k)) Cut _ tt
    (either (eqb k 1) (HeadRecord (head_of x)) _ tt
    (either (eqb k 2) (ThreadRecord (thread_of x)) _ tt
    (either (eqb k 3) (InputRecord (input_of x)) _ zero_fits
    (either (eqb k 11) (InputRecord (owned_of x)) _ (value_fits x 2 h)
    (either (eqb k 4) (OutputRecord (get_or x 1 0)) _ tt
    (either (eqb k 5) (LocalRecord (owned_of x)) _ (value_fits x 2 h)
    (either (eqb k 6) (ConnectionRecord (connection_of x)) _ tt
    (either (eqb k 7) (ModeRecord (switch_of x)) _ tt
    (either (eqb k 8) (TransitionRecord (transition_of x)) _ (refl, refl)
    (either (eqb k 9) (AtomRecord (atom_of x)) (AssignmentRecord (assignment_of x)) (value_fits x 5 h) (value_fits x 5 h, value_fits x 10 h))))))))))))

-- ---- one record
sound_next : (a : Reading) (r : Record) → Decoded r → Sound a → is_none (cause_of a r) ≡ true → Sound (next_reading a r)
unfolding cause_of number_of
sound_next a (HeadRecord x) d s h = head_next a x s h
sound_next a (ThreadRecord x) d s h = thread_next a x s h
sound_next a (InputRecord x) d s h = input_next a x d s h
sound_next a (OutputRecord o) d s h = output_next a o s h
sound_next a (LocalRecord x) d s h = local_next a x d s h
sound_next a (ConnectionRecord x) d s h = connection_next a x s h
sound_next a (ModeRecord x) d s h = switch_next a x s h
sound_next a (TransitionRecord x) d s h = transition_next a x d.0 d.1 s h
sound_next a (AtomRecord x) d s h = atom_next a x d s h
sound_next a (AssignmentRecord x) d s h = assignment_next a x d.0 d.1 s h
sound_next a Cut d s h = let z : ◌≡◌ {A = ℕ} 0 1 = cc in absurd (omega arith)
sound_next a Unknown d s h = let z : ◌≡◌ {A = ℕ} 0 1 = cc in absurd (omega arith)

-- ---- parts of bytes are bytes
abbrev EachBytes : List (List ℕ) → Type 0
EachBytes [] = Unit {0}
EachBytes (x ∷ l) = Bytes x × EachBytes l

take_bytes : (n : ℕ) (s : List ℕ) → Bytes s → Bytes (take n s)
take_bytes n s h i = go (dec_lt i n)
  where
    go : Dec (i < n) → get_or (take n s) i 0 < 256
    go (yes l) = rw (get_or-take n s i 0 l) (h i)
    go (no l) = rw (get_or-eq_default (take n s) 0 {n = i} (simp length-take (omega arith))) (omega arith)

part_bytes : (w : Notation) (n : ℕ) (s : List ℕ) → Bytes s → EachBytes (parts_from w n s)
unfolding parts_from
part_bytes w n [] h = tt
part_bytes w (suc n) (b ∷ r) h = part_bytes w n r (λ i. h (suc i))
part_bytes w zero (k ∷ r) h = (take_bytes (part_length w k (suc (length r))) (k ∷ r) h, part_bytes w (part_length w k (suc (length r)) - 1) r (λ i. h (suc i)))

-- ---- all records
abbrev Fine : ModelRead → Type 0
Fine r = is_none r.refusal.cause ≡ true → WellFormed r.model

either_read : (b : Bool) (x y : ModelRead) → (b ≡ true → Fine x) → (b ≡ false → Fine y) → Fine (cond b x y)
either_read true x y p q = p refl
either_read false x y p q = q refl

read_well_formed : (a : Reading) (p : ℕ) (l : List (List ℕ)) → EachBytes l → Sound a → Fine (read_from a p l)
unfolding read_from number_of
read_well_formed a p [] d s =
    either_read (eqb a.last 0) _ _
    (λ e h. let z : ◌≡◌ {A = ℕ} 0 1 = cc in absurd (omega arith))
    (λ e h. well_formed a s (let n = eqb-false a.last 0 e in omega arith))
read_well_formed a p (x ∷ l) d s =
    let r = record_of x in
    either_read (is_none (cause_of a r)) _ _
    (λ e. read_well_formed (next_reading a r) (p + length x) l d.1 (sound_next a r (decoded x d.0) s e))
    (λ e h. let z : true ≡ false = sym h ∙ e in let y : ◌≡◌ {A = ℕ} 0 1 = cc in absurd (omega arith))

pub accepted_well_formed : (s : List ℕ) → Bytes s → is_none (read_model s).refusal.cause ≡ true → WellFormed (read_model s).model
unfolding read_model
accepted_well_formed s b h = read_well_formed begin 0 (parts notations.Model s) (part_bytes notations.Model 0 s b) sound_begin h
