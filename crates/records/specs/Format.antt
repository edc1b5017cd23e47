-- Record bytes: the length of each kind, and the parts that an input falls into.
use Rattle.std.specs.Prelude.{Bool, false, cond, List, [], ◌∷◌, ℕ, zero, suc, ◌+◌, ◌-◌, get_or, length, take, eqb, ltb}
use Rattle.numbers.specs.Values.{value_at}
use Rattle.records.specs.declared.Notation.{Notation}
use Rattle.records.specs.declared.Notation.TheVariants.{Model, Table, Script}
use Rattle.records.specs.declared.Operand.{Operand}
use Rattle.records.specs.Kinds.{model_head, model_thread, model_input, model_output, model_local, model_connection, model_switch, model_transition, model_atom, model_assignment, model_written_input, table_start, table_rule, table_clause, table_atom, table_update, activate_kind, deactivate_kind, dispatch_kind, start_kind, complete_kind, deadline_kind, miss_kind, request_kind, enter_kind, leave_kind, tick_kind}

-- with the kind byte: the records of a rule, which walks over a table cut out by themselves
abbrev pub head_size : ℕ
head_size = 11

abbrev pub clause_size : ℕ
clause_size = 1

abbrev pub table_atom_size : ℕ
table_atom_size = 9

abbrev pub update_size : ℕ
update_size = 17

-- "A record is one byte of kind .. then a body whose length the kind fixes": the body's length and 1 for the kind byte; 0 for a kind
-- that is unknown in this notation.
unfoldable pub record_size : Notation → ℕ → ℕ
record_size Model k =
    cond (eqb k model_head) 3
    (cond (eqb k model_thread) 20
    (cond (eqb k model_input) 2
    (cond (eqb k model_output) 2
    (cond (eqb k model_local) 6
    (cond (eqb k model_connection) 5
    (cond (eqb k model_switch) 3
    (cond (eqb k model_transition) 4
    (cond (eqb k model_atom) 9
    (cond (eqb k model_assignment) 14
    (cond (eqb k model_written_input) 6 0))))))))))
record_size Table k =
    cond (eqb k table_start) 7
    (cond (eqb k table_rule) head_size
    (cond (eqb k table_clause) clause_size
    (cond (eqb k table_atom) table_atom_size
    (cond (eqb k table_update) update_size 0))))
record_size Script k =
    cond (eqb k activate_kind) 2
    (cond (eqb k deactivate_kind) 2
    (cond (eqb k dispatch_kind) 2
    (cond (eqb k start_kind) 6
    (cond (eqb k complete_kind) 2
    (cond (eqb k deadline_kind) 2
    (cond (eqb k miss_kind) 2
    (cond (eqb k request_kind) 2
    (cond (eqb k enter_kind) 2
    (cond (eqb k leave_kind) 2
    (cond (eqb k tick_kind) 3 0))))))))))

-- "kind byte to body end, or to the input's end if cut or unknown": how much of the rest of an input, n bytes, is the part of the
-- record whose kind is k.
unfoldable pub part_length : Notation → ℕ → ℕ → ℕ
part_length w k n = let m = record_size w k in cond (eqb m 0) n (cond (ltb n m) n m)

-- the length of the part that begins at p
unfoldable pub part_length_at : Notation → List ℕ → ℕ → ℕ
part_length_at w s p = cond (ltb p (length s)) (part_length w (get_or s p 0) (length s - p)) 0

-- the part is a whole record
abbrev pub is_whole : Notation → List ℕ → Bool
is_whole w x = let m = record_size w (get_or x 0 0) in cond (eqb m 0) false (eqb (length x) m)

-- The parts of an input, in order, where n bytes of the part before are still to be passed over.
unfoldable pub parts_from : Notation → ℕ → List ℕ → List (List ℕ)
parts_from w n [] = []
parts_from w (suc n) (b ∷ r) = parts_from w n r
parts_from w zero (k ∷ r) =
    let m = part_length w k (suc (length r)) in
    take m (k ∷ r) ∷ parts_from w (m - 1) r

abbrev pub parts : Notation → List ℕ → List (List ℕ)
parts w s = parts_from w 0 s

-- "An operand is a tag u8 (0 constant ..) and an i32"; what other tags name each language says
abbrev pub constant_tag : ℕ
constant_tag = 0

unfoldable pub operand_at : List ℕ → ℕ → Operand
operand_at s p = record { tag = get_or s p 0; value = value_at s (p + 1) }
