-- "A record is one byte of kind (hexadecimal)": the kinds of each language.
use Rattle.std.specs.Prelude.{ℕ}

-- "Model kinds: 01 head .. 0A assignment"; 07 and 08 are the transitions of modes and of behaviours
abbrev pub model_head : ℕ
model_head = 1

abbrev pub model_thread : ℕ
model_thread = 2

abbrev pub model_input : ℕ
model_input = 3

abbrev pub model_output : ℕ
model_output = 4

abbrev pub model_local : ℕ
model_local = 5

abbrev pub model_connection : ℕ
model_connection = 6

abbrev pub model_switch : ℕ
model_switch = 7

abbrev pub model_transition : ℕ
model_transition = 8

abbrev pub model_atom : ℕ
model_atom = 9

abbrev pub model_assignment : ℕ
model_assignment = 10

-- "A new model kind 0B, owner u8 and start i32": an input port whose start value is written
abbrev pub model_written_input : ℕ
model_written_input = 11

-- "20 start .. 24 update", of tables
abbrev pub table_start : ℕ
table_start = 32

abbrev pub table_rule : ℕ
table_rule = 33

abbrev pub table_clause : ℕ
table_clause = 34

abbrev pub table_atom : ℕ
table_atom = 35

abbrev pub table_update : ℕ
table_update = 36

-- "Event kinds, numbered across model and table alike"
abbrev pub activate_kind : ℕ
activate_kind = 1

abbrev pub deactivate_kind : ℕ
deactivate_kind = 2

abbrev pub dispatch_kind : ℕ
dispatch_kind = 3

abbrev pub start_kind : ℕ
start_kind = 4

abbrev pub complete_kind : ℕ
complete_kind = 5

abbrev pub deadline_kind : ℕ
deadline_kind = 6

abbrev pub miss_kind : ℕ
miss_kind = 7

abbrev pub request_kind : ℕ
request_kind = 8

abbrev pub enter_kind : ℕ
enter_kind = 9

abbrev pub leave_kind : ℕ
leave_kind = 10

abbrev pub tick_kind : ℕ
tick_kind = 11
