-- "Table from model": the rules of each event kind, in document 01's order.
use Rattle.std.specs.Prelude.{Bool, cond, ◌&&◌, List, [], ◌∷◌, ◌++◌, ℕ, ◌+◌, eqb, ltb}
use Rattle.numbers.specs.Lists.{join_below, first_below, fold_below, only}
use Rattle.numbers.specs.Values.{bits_of, copy_op}
use Rattle.records.specs.declared.Operand.{Operand}
use Rattle.records.specs.Format.{constant_tag}
use Rattle.records.specs.Events.{activate_kind, deactivate_kind, dispatch_kind, start_kind, complete_kind, deadline_kind, miss_kind, request_kind, enter_kind, leave_kind}
use Rattle.model_format.specs.declared.Assignment.{Assignment}
use Rattle.model_format.specs.declared.Connection.{Connection}
use Rattle.model_format.specs.declared.Timing.{Timing}
use Rattle.model_format.specs.declared.Behavior.{Behavior}
use Rattle.model_format.specs.declared.Model.{Model}
use Rattle.model_format.specs.declared.Atom as model-atom
use Rattle.model_format.specs.Model.{thread_at, input_owner, connection_at, switch_at, transition_at, atom_at, assignment_at, in_mode, is_critical, input_tag, local_tag, output_tag, immediate, delayed, is_kind, source_thread, target_thread}
use Rattle.model_semantics.specs.State.{none}
use Rattle.model_semantics.specs.Effects.{in_both}
use Rattle.model_semantics.specs.Tests.{waiting_mode, waiting_dispatch, waiting_execution, execution, completed, steady, requested, changing, runs}
use Rattle.table_format.specs.declared.Atom.{Atom}
use Rattle.table_format.specs.declared.Update.{Update}
use Rattle.table_format.specs.Variables.{now_var, mode_var, phase_var, pending_var, entered_var, cpu_var, active_var, state_var, dispatch_var, due_var, end_var, behavior_var, missed_var, flag_var, input_var, buffer_var, output_var, local_var}
use Rattle.table_format.specs.Table.{Rule}
use Rattle.table_format.specs.RuleKinds.{rule_kinds, is_one_of}
use Rattle.translation.specs.Shown.{bit}
use Rattle.translation.specs.Parts.{constant, variable, chosen_length, equals, differs, is_below, is_at_least, multiple_of, no_multiple_of, plain, negated_op, Expression, copied, sum_of, update_when, update, set_to, Body, body, Group, rules_of_groups}

-- the variable that holds the processor of thread t; there is one
abbrev pub cpu_var_for : Timing → ℕ → ℕ
cpu_var_for m t = cpu_var

abbrev pub state_is : ℕ → ℕ → List Atom
state_is t code = plain (equals (state_var t) (constant code))

abbrev pub active_is : ℕ → ℕ → List Atom
active_is t b = plain (equals (active_var t) (constant b))

abbrev pub due_is_now : ℕ → List Atom
due_is_now t = plain (equals (due_var t) (variable now_var))

abbrev pub end_is_now : ℕ → List Atom
end_is_now t = plain (equals (end_var t) (variable now_var))

-- "State, Cpu, End": a job that runs leaves the processor
abbrev pub job_ends : Timing → ℕ → List Update
job_ends m t = set_to (cpu_var_for m t) none ∷ set_to (end_var t) 0 ∷ []

-- ---- "1, 2: Active, State; State."
unfoldable pub activate_rules : Timing → ℕ → List Body
activate_rules m t = body (active_is t 1 ∷ state_is t waiting_mode ∷ []) (set_to (state_var t) waiting_dispatch ∷ []) ∷ []

-- "clauses Active, State; updates State, and for 3 also Cpu and End"
abbrev pub deactivate_rule : Timing → ℕ → ℕ → Body
deactivate_rule m t code = body (active_is t 0 ∷ state_is t code ∷ []) (set_to (state_var t) waiting_mode ∷ cond (runs code) (job_ends m t) [])

-- "For each thread not critical .. three rules after the old one of kind 2, for State 2, 3, 4"
abbrev pub stop_rules : Timing → ℕ → List Body
stop_rules m t = deactivate_rule m t waiting_execution ∷ deactivate_rule m t execution ∷ deactivate_rule m t completed ∷ []

unfoldable pub deactivate_rules : Timing → ℕ → List Body
deactivate_rules m t = deactivate_rule m t waiting_dispatch ∷ cond (is_critical (thread_at m t)) [] (stop_rules m t)

-- ---- "3: State, Active, multiple; per delayed connection in [Flag=0, State(src)=0, State(src)=1, Due(src)≠Now]; updates State,
-- DispatchTime, Due:=Now+Deadline, ports (condition Flag=0 if immediate)."
-- the list of connection c where it is of a kind and into thread t; the lists of all such connections
abbrev pub where_into : {A : Type 0} → Timing → ℕ → ℕ → (ℕ → List A) → ℕ → List A
where_into m kind t f c = cond (is_kind m kind c && eqb (target_thread m c) t) (f c) []

abbrev pub per_into : {A : Type 0} → Timing → ℕ → ℕ → (ℕ → List A) → List A
per_into m kind t f = join_below m.connections (where_into m kind t f)

-- connection c from thread u
abbrev pub delayed_from : ℕ → ℕ → List Atom
delayed_from c u =
    equals (flag_var c) (constant 0) ∷ equals (state_var u) (constant waiting_mode) ∷ equals (state_var u) (constant waiting_dispatch) ∷ differs (due_var u) (variable now_var) ∷ []

abbrev pub delayed_clause : Timing → ℕ → List Atom
delayed_clause m c = delayed_from c (source_thread m c)

abbrev pub delayed_wait : Timing → ℕ → ℕ → List (List Atom)
delayed_wait m t = where_into m delayed t (λ c. delayed_clause m c ∷ [])

abbrev pub delayed_waits : Timing → ℕ → List (List Atom)
delayed_waits m t = join_below m.connections (delayed_wait m t)

-- connection c is an immediate one into input port i; the first of those, or the number of connections
abbrev pub feeds_at_once : Timing → ℕ → ℕ → Bool
feeds_at_once m i c = is_kind m immediate c && eqb (connection_at m c).target i

unfoldable pub immediate_into : Timing → ℕ → ℕ
immediate_into m i = first_below m.connections (feeds_at_once m i)

abbrev pub is_immediate_port : Timing → ℕ → Bool
is_immediate_port m i = ltb (immediate_into m i) m.connections

abbrev pub take_buffer : ℕ → Expression
take_buffer i = copied (variable (buffer_var i))

-- the list of input port i where it is one of thread t; the lists of all such ports
abbrev pub where_owned : Timing → ℕ → (ℕ → List Update) → ℕ → List Update
where_owned m t f i = cond (eqb (input_owner m i) t) (f i) []

abbrev pub per_input : Timing → ℕ → (ℕ → List Update) → List Update
per_input m t f = join_below m.inputs (where_owned m t f)

abbrev pub dispatch_port : Timing → ℕ → List Update
dispatch_port m i =
    cond (is_immediate_port m i) (update_when (flag_var (immediate_into m i)) 0 (input_var i) (take_buffer i)) (update (input_var i) (take_buffer i)) ∷ []

abbrev pub dispatch_clauses : Timing → ℕ → List (List Atom)
dispatch_clauses m t = state_is t waiting_dispatch ∷ active_is t 1 ∷ plain (multiple_of now_var (constant (thread_at m t).period.0)) ∷ delayed_waits m t

abbrev pub dispatch_updates : Timing → ℕ → List Update
dispatch_updates m t =
    set_to (state_var t) waiting_execution ∷ update (dispatch_var t) (copied (variable now_var)) ∷
    update (due_var t) (sum_of (variable now_var) (constant (thread_at m t).deadline.0)) ∷ per_input m t (dispatch_port m)

unfoldable pub dispatch_rules : Timing → ℕ → List Body
dispatch_rules m t = body (dispatch_clauses m t) (dispatch_updates m t) ∷ []

-- ---- "4 (low Min, high Max): State, Cpu, Due≠Now; per immediate connection [..] and [..]; State, Cpu, End:=Now+chosen, ports fed by
-- immediate connections (Flag=1)."
abbrev pub beside_from : ℕ → ℕ → ℕ → List Atom
beside_from t c u =
    equals (flag_var c) (constant 0) ∷ is_below (state_var u) (constant waiting_execution) ∷ equals (state_var u) (constant completed) ∷ differs (dispatch_var u) (variable (dispatch_var t)) ∷ []

abbrev pub beside_clause : Timing → ℕ → ℕ → List Atom
beside_clause m t c = beside_from t c (source_thread m c)

abbrev pub coming_from : ℕ → ℕ → ℕ → ℕ → List Atom
coming_from t c u period =
    equals (flag_var c) (constant 0) ∷ equals (active_var u) (constant 0) ∷ is_at_least (state_var u) (constant waiting_execution) ∷ differs (dispatch_var t) (variable now_var) ∷
    no_multiple_of now_var (constant period) ∷ []

abbrev pub coming_clause : Timing → ℕ → ℕ → List Atom
coming_clause m t c = let u = source_thread m c in coming_from t c u (thread_at m u).period.0

abbrev pub immediate_wait : Timing → ℕ → ℕ → List (List Atom)
immediate_wait m t = where_into m immediate t (λ c. beside_clause m t c ∷ coming_clause m t c ∷ [])

abbrev pub immediate_waits : Timing → ℕ → List (List Atom)
immediate_waits m t = join_below m.connections (immediate_wait m t)

abbrev pub start_port : Timing → ℕ → List Update
start_port m i = only (is_immediate_port m i) (update_when (flag_var (immediate_into m i)) 1 (input_var i) (take_buffer i))

abbrev pub start_clauses : Timing → ℕ → List (List Atom)
start_clauses m t =
    state_is t waiting_execution ∷ plain (equals (cpu_var_for m t) (constant none)) ∷ plain (differs (due_var t) (variable now_var)) ∷ immediate_waits m t

abbrev pub start_updates : Timing → ℕ → List Update
start_updates m t =
    set_to (state_var t) execution ∷ set_to (cpu_var_for m t) t ∷ update (end_var t) (sum_of (variable now_var) chosen_length) ∷ per_input m t (start_port m)

unfoldable pub start_rules : Timing → ℕ → List Body
start_rules m t = record { low = (thread_at m t).bcet.0; high = (thread_at m t).wcet.0; clauses = start_clauses m t; updates = start_updates m t } ∷ []

-- ---- "5: per transition of the thread State, End=Now, behaviour state, atoms, per earlier one with equal from a clause of negated
-- atoms; then one default rule: State, End=Now, per transition [behaviour state≠from, negated atoms]."
-- the variable that a tag and a number name
unfoldable pub variable_of : ℕ → ℕ → ℕ
variable_of tag n = cond (eqb tag input_tag) (input_var n) (cond (eqb tag local_tag) (local_var n) (output_var n))

unfoldable pub operand_of : Operand → Operand
operand_of o = cond (eqb o.tag constant_tag) o (variable (variable_of o.tag (bits_of o.value.0)))

abbrev pub atom_with : (ℕ → ℕ) → model-atom.Atom → Atom
atom_with op a = record { op = op a.op; variable = variable_of a.tag a.number; right = operand_of a.right }

-- the atoms of transition k, each a clause; and negated, in one clause
abbrev pub guard_clause : model-atom.Atom → List (List Atom)
guard_clause a = plain (atom_with (λ op. op) a) ∷ []

abbrev pub negated_atom : model-atom.Atom → List Atom
negated_atom a = plain (atom_with negated_op a)

unfoldable pub guard_clauses : Behavior → ℕ → List (List Atom)
guard_clauses b k = join_below (transition_at b k).atoms (λ j. guard_clause (atom_at b k j))

unfoldable pub negated_guard : Behavior → ℕ → List Atom
negated_guard b k = join_below (transition_at b k).atoms (λ j. negated_atom (atom_at b k j))

-- the list of transition k where it is one of thread t; the lists of those below n
abbrev pub where_of : {A : Type 0} → Behavior → ℕ → (ℕ → List A) → ℕ → List A
where_of b t f k = cond (eqb (transition_at b k).thread t) (f k) []

abbrev pub per_transition : {A : Type 0} → Behavior → ℕ → ℕ → (ℕ → List A) → List A
per_transition b t n f = join_below n (where_of b t f)

-- transition e is not open where it is from the behaviour state given
abbrev pub earlier_from : Behavior → ℕ → ℕ → List (List Atom)
earlier_from b from e = only (eqb (transition_at b e).from from) (negated_guard b e)

abbrev pub earlier_clause : Behavior → ℕ → ℕ → List (List Atom)
earlier_clause b k e = earlier_from b (transition_at b k).from e

-- not in the behaviour state from which a transition goes, or its guard fails
abbrev pub shut_clause : ℕ → ℕ → List Atom → List Atom
shut_clause t from negated = differs (behavior_var t) (constant from) ∷ negated

abbrev pub otherwise_clause : Behavior → ℕ → ℕ → List (List Atom)
otherwise_clause b t k = shut_clause t (transition_at b k).from (negated_guard b k) ∷ []

-- "Updates State, Cpu, End, behaviour state (not the default), assignments, buffers of immediate connections (Flag=1) from the assigned
-- expression or the old port."
-- a copy has no second operand
unfoldable pub assigned_expression : Assignment → Expression
assigned_expression a = cond (eqb a.op copy_op) (copied (operand_of a.first)) (record { op = a.op; first = operand_of a.first; second = operand_of a.second })

abbrev pub assignment_update : Assignment → List Update
assignment_update a = update (variable_of a.tag a.number) (assigned_expression a) ∷ []

unfoldable pub assignment_updates : Behavior → ℕ → ℕ → List Update
assignment_updates b k n = join_below n (λ j. assignment_update (assignment_at b k j))

-- what output port o holds before and after an assignment, and after the first n assignments of transition k
abbrev pub old_output : ℕ → Expression
old_output o = copied (variable (output_var o))

abbrev pub sent_after : Assignment → ℕ → Expression → Expression
sent_after a o x = cond (eqb a.tag output_tag && eqb a.number o) (assigned_expression a) x

unfoldable pub sent_expression : Behavior → ℕ → ℕ → ℕ → Expression
sent_expression b k n o = fold_below n (λ j x. sent_after (assignment_at b k j) o x) (old_output o)

-- what connection c, which is x, sends; where it is of a kind and from thread t; and all of those, each from an expression for its output
abbrev pub send_update : ℕ → Connection → (ℕ → Expression) → Update
send_update c x from = update_when (flag_var c) 1 (buffer_var x.target) (from x.source)

abbrev pub where_sent : Timing → ℕ → ℕ → (ℕ → Expression) → ℕ → List Update
where_sent m kind t from c = only (is_kind m kind c && eqb (source_thread m c) t) (send_update c (connection_at m c) from)

abbrev pub send_updates : Timing → ℕ → ℕ → (ℕ → Expression) → List Update
send_updates m kind t from = join_below m.connections (where_sent m kind t from)

-- what the rules begin with, "State, End=Now" and "State, Cpu, End"
abbrev pub finished_clauses : ℕ → List (List Atom)
finished_clauses t = state_is t execution ∷ end_is_now t ∷ []

abbrev pub finish_updates : Timing → ℕ → List Update
finish_updates m t = set_to (state_var t) completed ∷ job_ends m t

-- a transition from a behaviour state, with the clauses of its guard; and to one, with its assignments and what is sent
abbrev pub open_clauses : ℕ → ℕ → List (List Atom) → List (List Atom)
open_clauses t from guard = finished_clauses t ++ plain (equals (behavior_var t) (constant from)) ∷ guard

abbrev pub taken_updates : Timing → ℕ → ℕ → List Update → List Update → List Update
taken_updates m t to assigned sent = finish_updates m t ++ set_to (behavior_var t) to ∷ assigned ++ sent

abbrev pub transition_clauses : Behavior → ℕ → ℕ → List (List Atom)
transition_clauses b t k = open_clauses t (transition_at b k).from (guard_clauses b k ++ per_transition b t k (earlier_clause b k))

abbrev pub transition_updates : Model → ℕ → ℕ → List Update
transition_updates m t k =
    let b = m.behavior in
    let n = (transition_at b k).assignments in
    taken_updates m.timing t (transition_at b k).to (assignment_updates b k n) (send_updates m.timing immediate t (sent_expression b k n))

unfoldable pub transition_rule : Model → ℕ → ℕ → Body
transition_rule m t k = body (transition_clauses m.behavior t k) (transition_updates m t k)

abbrev pub default_clauses : Behavior → ℕ → List (List Atom)
default_clauses b t = finished_clauses t ++ per_transition b t b.transitions (otherwise_clause b t)

abbrev pub default_updates : Timing → ℕ → List Update
default_updates m t = finish_updates m t ++ send_updates m immediate t old_output

unfoldable pub default_rule : Model → ℕ → Body
default_rule m t = body (default_clauses m.behavior t) (default_updates m.timing t)

unfoldable pub complete_rules : Model → ℕ → List Body
complete_rules m t = per_transition m.behavior t m.behavior.transitions (λ k. transition_rule m t k ∷ []) ++ default_rule m t ∷ []

-- ---- "6: State, Due=Now, Active 1 then 0; State, buffers of delayed connections (Flag=1)."
abbrev pub deadline_rule : Timing → ℕ → ℕ → ℕ → Body
deadline_rule m t active code =
    body (state_is t completed ∷ due_is_now t ∷ active_is t active ∷ [])
    (set_to (state_var t) code ∷ send_updates m delayed t old_output)

unfoldable pub deadline_rules : Timing → ℕ → List Body
deadline_rules m t = deadline_rule m t 1 waiting_dispatch ∷ deadline_rule m t 0 waiting_mode ∷ []

-- ---- "7: States 2, 3, each Active 1 then 0: State, Active, Due=Now (3: End≠Now); State, Missed (3: Cpu, End)."
abbrev pub miss_updates : ℕ → ℕ → List Update
miss_updates t code = set_to (state_var t) code ∷ update (missed_var t) (sum_of (variable (missed_var t)) (constant 1)) ∷ []

abbrev pub miss_waiting : ℕ → ℕ → ℕ → Body
miss_waiting t active code = body (state_is t waiting_execution ∷ active_is t active ∷ due_is_now t ∷ []) (miss_updates t code)

abbrev pub miss_running : Timing → ℕ → ℕ → ℕ → Body
miss_running m t active code =
    body (state_is t execution ∷ active_is t active ∷ due_is_now t ∷ plain (differs (end_var t) (variable now_var)) ∷ []) (miss_updates t code ++ job_ends m t)

unfoldable pub miss_rules : Timing → ℕ → List Body
miss_rules m t = miss_waiting t 1 waiting_dispatch ∷ miss_waiting t 0 waiting_mode ∷ miss_running m t 1 waiting_dispatch ∷ miss_running m t 0 waiting_mode ∷ []

-- ---- "8: Phase, Mode; Phase, Pending; then [Phase≠0, Mode≠from] without updates."
abbrev pub request_granted : ℕ → ℕ → Body
request_granted q from =
    body (plain (equals phase_var (constant steady)) ∷ plain (equals mode_var (constant from)) ∷ []) (set_to phase_var requested ∷ set_to pending_var q ∷ [])

abbrev pub request_ignored : ℕ → Body
request_ignored from = body ((differs phase_var (constant steady) ∷ differs mode_var (constant from) ∷ []) ∷ []) []

unfoldable pub request_rules : Timing → ℕ → List Body
request_rules m q = request_granted q (switch_at m q).from ∷ request_ignored (switch_at m q).from ∷ []

-- ---- "9, 10: conditions and updates in the order above, threads before connections."
abbrev pub phase_is : ℕ → ℕ → List (List Atom)
phase_is phase q = plain (equals phase_var (constant phase)) ∷ plain (equals pending_var (constant q)) ∷ []

abbrev pub active_update : Timing → ℕ → ℕ → List Update
active_update m mode t = set_to (active_var t) (bit (in_mode (thread_at m t).modes mode)) ∷ []

abbrev pub active_updates : Timing → ℕ → List Update
active_updates m mode = join_below m.threads (active_update m mode)

abbrev pub flag_update : Timing → ℕ → ℕ → ℕ → List Update
flag_update m old new c = set_to (flag_var c) (bit (in_both (connection_at m c).modes old new)) ∷ []

abbrev pub flag_updates : Timing → ℕ → ℕ → List Update
flag_updates m old new = join_below m.connections (flag_update m old new)

abbrev pub enter_clauses : ℕ → ℕ → List (List Atom)
enter_clauses q h1 = phase_is requested q ++ plain (multiple_of now_var (constant h1)) ∷ []

abbrev pub enter_updates : Timing → ℕ → ℕ → List Update
enter_updates m old new = set_to phase_var changing ∷ update entered_var (copied (variable now_var)) ∷ active_updates m new ++ flag_updates m old new

unfoldable pub enter_rules : Timing → ℕ → List Body
enter_rules m q = let x = switch_at m q in body (enter_clauses q x.h1.0) (enter_updates m x.from x.to) ∷ []

abbrev pub leave_clauses : ℕ → ℕ → List (List Atom)
leave_clauses q h2 = phase_is changing q ++ plain (differs now_var (variable entered_var)) ∷ plain (multiple_of now_var (constant h2)) ∷ []

abbrev pub leave_updates : Timing → ℕ → List Update
leave_updates m new = set_to phase_var steady ∷ set_to pending_var none ∷ set_to mode_var new ∷ flag_updates m new new

unfoldable pub leave_rules : Timing → ℕ → List Body
leave_rules m q = let x = switch_at m q in body (leave_clauses q x.h2.0) (leave_updates m x.to) ∷ []

-- ---- all rules
-- "08 REQUEST, 09 ENTER, 0A LEAVE: mode transition"; the others have a thread
abbrev pub switch_kinds : List ℕ
switch_kinds = request_kind ∷ enter_kind ∷ leave_kind ∷ []

-- how many threads or mode transitions have rules of a kind
unfoldable pub items_of : Timing → ℕ → ℕ
items_of m kind = cond (is_one_of switch_kinds kind) m.switches m.threads

-- the rules of a kind and an item: COMPLETE's by the behaviours too, the others by the timing
unfoldable pub timing_rules : Timing → ℕ → ℕ → List Body
timing_rules m kind i =
    cond (eqb kind activate_kind) (activate_rules m i)
    (cond (eqb kind deactivate_kind) (deactivate_rules m i)
    (cond (eqb kind dispatch_kind) (dispatch_rules m i)
    (cond (eqb kind start_kind) (start_rules m i)
    (cond (eqb kind deadline_kind) (deadline_rules m i)
    (cond (eqb kind miss_kind) (miss_rules m i)
    (cond (eqb kind request_kind) (request_rules m i)
    (cond (eqb kind enter_kind) (enter_rules m i)
    (cond (eqb kind leave_kind) (leave_rules m i) []))))))))

unfoldable pub rules_for : Model → ℕ → ℕ → List Body
rules_for m kind i = cond (eqb kind complete_kind) (complete_rules m i) (timing_rules m.timing kind i)

unfoldable pub groups_for : Model → List ℕ → List Group
groups_for m [] = []
groups_for m (kind ∷ l) = record { kind = kind; count = items_of m.timing kind; bodies = λ i. rules_for m kind i } ∷ groups_for m l

abbrev pub groups_of : Model → List Group
groups_of m = groups_for m rule_kinds

abbrev pub rules_of : Model → List Rule
rules_of m = rules_of_groups (groups_of m)
