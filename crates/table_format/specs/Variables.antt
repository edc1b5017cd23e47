-- "The table's machine": the variables' numbers.
use Rattle.std.specs.Prelude.{Bool, ℕ, ◌+◌, ◌*◌, ltb}

abbrev pub now_var : ℕ
now_var = 0

abbrev pub mode_var : ℕ
mode_var = 1

abbrev pub phase_var : ℕ
phase_var = 2

abbrev pub pending_var : ℕ
pending_var = 3

abbrev pub entered_var : ℕ
entered_var = 4

abbrev pub cpu_var : ℕ
cpu_var = 5

-- how many belong to no item, and how many after them stand for nothing
abbrev pub clock_vars : ℕ
clock_vars = 6

abbrev pub spare_vars : ℕ
spare_vars = 10

-- ---- blocks, each with room for so many items: threads, connections, input ports (and as many buffers), output ports, locals
abbrev pub thread_room : ℕ
thread_room = 16

abbrev pub connection_room : ℕ
connection_room = 32

abbrev pub input_room : ℕ
input_room = 32

abbrev pub output_room : ℕ
output_room = 32

abbrev pub local_room : ℕ
local_room = 32

-- of thread t
abbrev pub active_var : ℕ → ℕ
active_var t = 16 + t

abbrev pub state_var : ℕ → ℕ
state_var t = 32 + t

abbrev pub dispatch_var : ℕ → ℕ
dispatch_var t = 48 + t

abbrev pub due_var : ℕ → ℕ
due_var t = 64 + t

abbrev pub end_var : ℕ → ℕ
end_var t = 80 + t

abbrev pub behavior_var : ℕ → ℕ
behavior_var t = 96 + t

abbrev pub missed_var : ℕ → ℕ
missed_var t = 112 + t

-- these stand t past multiples of the room: columns 1 to 7
abbrev pub thread_var : ℕ → ℕ → ℕ
thread_var column t = column * thread_room + t

abbrev pub thread_columns : ℕ
thread_columns = 7

-- of connection c
abbrev pub flag_var : ℕ → ℕ
flag_var c = 128 + c

-- of input port i, of its buffer, of output port o, of local v
abbrev pub input_var : ℕ → ℕ
input_var i = 160 + i

abbrev pub buffer_var : ℕ → ℕ
buffer_var i = 192 + i

abbrev pub output_var : ℕ → ℕ
output_var o = 224 + o

abbrev pub local_var : ℕ → ℕ
local_var v = 256 + v

-- "below 288"
abbrev pub variables : ℕ
variables = 288

-- the variable is there
unfoldable pub is_variable : ℕ → Bool
is_variable n = ltb n variables

-- the condition variable of an update that has no condition
abbrev pub no_variable : ℕ
no_variable = 65535
