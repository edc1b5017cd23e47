-- What each item of a model adds to its table.
use Rattle.std.specs.Prelude.{cond, ◌&&◌, not, ℕ, ◌+◌, eqb}
use Rattle.numbers.specs.Values.{natural, same_value}
use Rattle.model_format.specs.declared.Timing.{Timing}
use Rattle.model_format.specs.declared.Behavior.{Behavior}
use Rattle.model_format.specs.declared.Model.{Model}
use Rattle.model_format.specs.Model.{thread_at, input_at, local_at, connection_at, transition_at, in_mode, is_critical, immediate, delayed, is_kind, source_thread}
use Rattle.translation_sizes.specs.Sums.{sum_below}
use Rattle.translation.specs.Shown.{bit}
use Rattle.translation_sizes.specs.declared.Counts.{Counts}
use Rattle.translation_sizes.specs.Counts.{counts, nothing, ◌and◌, count_below}

-- ---- a thread, whatever its connections and transitions: what its rules of each kind begin with
abbrev pub activate_own : Timing → ℕ → Counts
activate_own m t = counts 1 2 2 1

-- "For each thread not critical the table gains three rules .. for State 2, 3, 4, with clauses Active, State; updates State, and for 3 also Cpu and End"
abbrev pub stop_counts : Counts
stop_counts = counts 3 6 6 5

abbrev pub stop_own : Timing → ℕ → Counts
stop_own m t = cond (is_critical (thread_at m t)) nothing stop_counts

abbrev pub deactivate_own : Timing → ℕ → Counts
deactivate_own m t = counts 1 2 2 1 and stop_own m t

abbrev pub dispatch_own : Timing → ℕ → Counts
dispatch_own m t = counts 1 3 3 3

abbrev pub start_own : Timing → ℕ → Counts
start_own m t = counts 1 3 3 3

abbrev pub default_own : Timing → ℕ → Counts
default_own m t = counts 1 2 2 3

abbrev pub deadline_own : Timing → ℕ → Counts
deadline_own m t = counts 2 6 6 2

abbrev pub miss_own : Timing → ℕ → Counts
miss_own m t = counts 4 14 14 12

unfoldable pub thread_counts : Timing → ℕ → Counts
thread_counts m t = activate_own m t and deactivate_own m t and dispatch_own m t and start_own m t and default_own m t and deadline_own m t and miss_own m t

-- ---- a connection: what DISPATCH or START of its target waits for, the port that START takes, and what its source sends in the default rule of
-- COMPLETE or in both rules of DEADLINE
abbrev pub delayed_counts : Counts
delayed_counts = counts 0 1 4 2

abbrev pub immediate_counts : Counts
immediate_counts = counts 0 2 9 2

unfoldable pub connection_counts : Timing → ℕ → Counts
connection_counts m c = cond (is_kind m immediate c) immediate_counts (cond (is_kind m delayed c) delayed_counts nothing)

-- ---- an input port: DISPATCH takes it
unfoldable pub input_counts : Timing → ℕ → Counts
input_counts m i = counts 0 0 0 1

-- ---- a transition: its rule; a clause for each earlier transition of its thread from the same behaviour state; a clause of the default rule; what
-- its thread sends
unfoldable pub earlier_at : Behavior → ℕ → ℕ → ℕ → Counts
earlier_at b t from e = let x = transition_at b e in cond (eqb x.thread t && eqb x.from from) (counts 0 1 x.atoms 0) nothing

unfoldable pub earlier_counts : Behavior → ℕ → ℕ → ℕ → Counts
earlier_counts b t from k = count_below k (earlier_at b t from)

unfoldable pub sent_at : Timing → ℕ → ℕ → Counts
sent_at m t c = cond (is_kind m immediate c && eqb (source_thread m c) t) (counts 0 0 0 1) nothing

unfoldable pub sent_counts : Timing → ℕ → Counts
sent_counts m t = count_below m.connections (sent_at m t)

abbrev pub transition_own : ℕ → ℕ → Counts
transition_own atoms assignments = counts 1 (3 + atoms) (3 + atoms) (4 + assignments)

abbrev pub otherwise_own : ℕ → Counts
otherwise_own atoms = counts 0 1 (1 + atoms) 0

unfoldable pub transition_counts : Model → ℕ → Counts
transition_counts m k =
    let x = transition_at m.behavior k in
    transition_own x.atoms x.assignments and otherwise_own x.atoms and earlier_counts m.behavior x.thread x.from k and sent_counts m.timing x.thread

-- ---- a mode transition: REQUEST's two rules; ENTER sets Active of every thread and the Flag of every connection, LEAVE the Flags
abbrev pub request_own : Timing → Counts
request_own m = counts 2 3 4 2

abbrev pub enter_own : Timing → Counts
enter_own m = counts 1 3 3 (2 + m.threads + m.connections)

abbrev pub leave_own : Timing → Counts
leave_own m = counts 1 4 4 (3 + m.connections)

unfoldable pub switch_counts : Timing → ℕ → Counts
switch_counts m q = request_own m and enter_own m and leave_own m

-- ---- start records: Pending, Cpu and a Mode that is not 0; of a thread Active and a behaviour state that is not 0; Flags; input ports that are
-- not 0, each with its buffer; locals that are not 0
unfoldable pub head_starts : Timing → ℕ
head_starts m = 2 + bit (not (eqb m.initial 0))

unfoldable pub thread_starts : Timing → ℕ → ℕ
thread_starts m t = bit (in_mode (thread_at m t).modes m.initial) + bit (not (eqb (thread_at m t).first 0))

unfoldable pub connection_starts : Timing → ℕ → ℕ
connection_starts m c = bit (in_mode (connection_at m c).modes m.initial)

unfoldable pub input_starts : Timing → ℕ → ℕ
input_starts m i = let n = bit (not (same_value (input_at m i).start (natural 0))) in n + n

unfoldable pub local_starts : Timing → ℕ → ℕ
local_starts m v = bit (not (same_value (local_at m v).start (natural 0)))

unfoldable pub item_starts : Timing → ℕ
item_starts m =
    head_starts m + sum_below m.threads (thread_starts m) + sum_below m.connections (connection_starts m) + sum_below m.inputs (input_starts m) +
    sum_below m.locals (local_starts m)

-- ---- all items
unfoldable pub item_counts : Model → Counts
item_counts m =
    let x = m.timing in
    count_below x.threads (thread_counts x) and count_below x.inputs (input_counts x) and count_below x.connections (connection_counts x) and
    count_below x.switches (switch_counts x) and count_below m.behavior.transitions (transition_counts m)
