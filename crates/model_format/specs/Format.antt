-- The records of a model: what a part holds.
use Rattle.std.specs.Prelude.{cond, List, ℕ, get_or, length, eqb, ltb}
use Rattle.numbers.specs.Values.{duration, natural, duration_at, value_at}
use Rattle.records.specs.declared.Notation.TheVariants as notations
use Rattle.records.specs.Kinds.{model_head, model_thread, model_input, model_output, model_local, model_connection, model_switch, model_transition, model_atom, model_written_input}
use Rattle.records.specs.Format.{record_size, operand_at}
use Rattle.model_format.specs.declared.Head.{Head}
use Rattle.model_format.specs.declared.Thread.{Thread}
use Rattle.model_format.specs.declared.Owned.{Owned}
use Rattle.model_format.specs.declared.Connection.{Connection}
use Rattle.model_format.specs.declared.ModeTransition.{ModeTransition}
use Rattle.model_format.specs.declared.Transition.{Transition}
use Rattle.model_format.specs.declared.Atom.{Atom}
use Rattle.model_format.specs.declared.Assignment.{Assignment}
use Rattle.model_format.specs.declared.Record.{Record}
use Rattle.model_format.specs.declared.Record.TheVariants.{HeadRecord, ThreadRecord, InputRecord, OutputRecord, LocalRecord, ConnectionRecord, ModeRecord, TransitionRecord, AtomRecord, AssignmentRecord, Cut, Unknown}

-- "01 head: mode count .. initial mode, u8 each"
unfoldable pub head_of : List ℕ → Head
head_of x = record { modes = get_or x 1 0; initial = get_or x 2 0 }

-- "02 thread: Period, Deadline, Min, Max as u32; mask, critical .. first behaviour state .. u8 each"
unfoldable pub thread_of : List ℕ → Thread
thread_of x = record {
  period = duration_at x 1;
  deadline = duration_at x 5;
  bcet = duration_at x 9;
  wcet = duration_at x 13;
  modes = get_or x 17 0;
  critical = get_or x 18 0;
  first = get_or x 19 0;
}

-- "03 input port: owner thread u8"; "Kind 03 still means 0"
unfoldable pub input_of : List ℕ → Owned
input_of x = record { owner = get_or x 1 0; start = natural 0 }

-- "05 local: owner u8, start i32"; "0B, owner u8 and start i32"
unfoldable pub owned_of : List ℕ → Owned
owned_of x = record { owner = get_or x 1 0; start = value_at x 2 }

-- "06 connection: type u8 .. output port u8, input port u8, mask"
unfoldable pub connection_of : List ℕ → Connection
connection_of x = record { kind = get_or x 1 0; source = get_or x 2 0; target = get_or x 3 0; modes = get_or x 4 0 }

-- "07 mode transition: from, to, u8"; its hyperperiods are set when it is accepted.
unfoldable pub switch_of : List ℕ → ModeTransition
switch_of x = record { from = get_or x 1 0; to = get_or x 2 0; h1 = duration 1; h2 = duration 1 }

-- "08 behaviour transition: thread, from, to, u8"
unfoldable pub transition_of : List ℕ → Transition
transition_of x = record { thread = get_or x 1 0; from = get_or x 2 0; to = get_or x 3 0; atoms = 0; assignments = 0 }

-- "09 guard atom: op u8, left tag and number u8, right operand"
unfoldable pub atom_of : List ℕ → Atom
atom_of x = record { op = get_or x 1 0; tag = get_or x 2 0; number = get_or x 3 0; right = operand_at x 4 }

-- "0A assignment: target tag and number u8, op u8 .. two operands"
unfoldable pub assignment_of : List ℕ → Assignment
assignment_of x = record { tag = get_or x 1 0; number = get_or x 2 0; op = get_or x 3 0; first = operand_at x 4; second = operand_at x 9 }

abbrev pub record_of_whole : ℕ → List ℕ → Record
record_of_whole k x =
    cond (eqb k model_head) (HeadRecord (head_of x))
    (cond (eqb k model_thread) (ThreadRecord (thread_of x))
    (cond (eqb k model_input) (InputRecord (input_of x))
    (cond (eqb k model_written_input) (InputRecord (owned_of x))
    (cond (eqb k model_output) (OutputRecord (get_or x 1 0))
    (cond (eqb k model_local) (LocalRecord (owned_of x))
    (cond (eqb k model_connection) (ConnectionRecord (connection_of x))
    (cond (eqb k model_switch) (ModeRecord (switch_of x))
    (cond (eqb k model_transition) (TransitionRecord (transition_of x))
    (cond (eqb k model_atom) (AtomRecord (atom_of x)) (AssignmentRecord (assignment_of x)))))))))))

-- the record that a part holds
unfoldable pub record_of : List ℕ → Record
record_of x =
    let m = record_size notations.Model (get_or x 0 0) in
    cond (eqb m 0) Unknown (cond (ltb (length x) m) Cut (record_of_whole (get_or x 0 0) x))

-- ---- ranks: the places of records in the order that "Kinds 01 to 08 never fall" asks for, with those of 09 and 0A after them; 0B "may stand wherever 03 may"
abbrev pub head_rank : ℕ
head_rank = 1

abbrev pub thread_rank : ℕ
thread_rank = 2

abbrev pub input_rank : ℕ
input_rank = 3

abbrev pub output_rank : ℕ
output_rank = 4

abbrev pub local_rank : ℕ
local_rank = 5

abbrev pub connection_rank : ℕ
connection_rank = 6

abbrev pub switch_rank : ℕ
switch_rank = 7

abbrev pub transition_rank : ℕ
transition_rank = 8

abbrev pub atom_rank : ℕ
atom_rank = 9

abbrev pub assignment_rank : ℕ
assignment_rank = 10

-- the rank of a record; 0 for one that has none
unfoldable pub rank_of : Record → ℕ
rank_of (HeadRecord x) = head_rank
rank_of (ThreadRecord x) = thread_rank
rank_of (InputRecord x) = input_rank
rank_of (OutputRecord o) = output_rank
rank_of (LocalRecord x) = local_rank
rank_of (ConnectionRecord x) = connection_rank
rank_of (ModeRecord x) = switch_rank
rank_of (TransitionRecord x) = transition_rank
rank_of (AtomRecord x) = atom_rank
rank_of (AssignmentRecord x) = assignment_rank
rank_of Cut = 0
rank_of Unknown = 0
