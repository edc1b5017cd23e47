-- What each event does, for a thread t or a mode transition q.
use Rattle.std.specs.Prelude.{Bool, true, false, cond, ◌&&◌, not, List, ℕ, ◌+◌, eqb, ltb}
use Rattle.numbers.specs.declared.Value.{Value}
use Rattle.numbers.specs.Lists.{store, any_below, all_below, first_below, fold_below}
use Rattle.numbers.specs.Values.{combine, compares, bits_of, one_more}
use Rattle.records.specs.declared.Operand.{Operand}
use Rattle.records.specs.Format.{constant_tag}
use Rattle.model_format.specs.declared.Transition.{Transition}
use Rattle.model_format.specs.declared.Atom.{Atom}
use Rattle.model_format.specs.declared.Assignment.{Assignment}
use Rattle.model_format.specs.declared.Timing.{Timing}
use Rattle.model_format.specs.declared.Behavior.{Behavior}
use Rattle.model_format.specs.declared.Model.{Model}
use Rattle.model_format.specs.Model.{max_threads, max_inputs, max_outputs, max_locals, max_connections, thread_at, input_owner, connection_at, switch_at, transition_at, atom_at, assignment_at, in_mode, input_tag, output_tag, immediate, delayed, is_kind, source_thread}
use Rattle.model_semantics.specs.declared.Ports.{Ports}
use Rattle.model_semantics.specs.declared.State.{State}
use Rattle.model_semantics.specs.State.{none, is_active, code_of, spent_of, behavior_of, missed_of, is_live, input_value, buffer_value, output_value, local_value, now_of, with_live, with_ports, with_now, with_entered, with_mode, with_phase, with_cpu, with_active, with_code, with_dispatch_time, with_job, with_spent, with_behavior, with_missed}
use Rattle.model_semantics.specs.Tests.{waiting_mode, waiting_dispatch, waiting_execution, execution, completed, steady, requested, changing, runs, has_job}

-- ---- input ports
-- input port i is fed by a live immediate connection
unfoldable pub is_fed_immediately : Timing → State → ℕ → Bool
is_fed_immediately m s i =
    any_below m.connections (λ c. is_kind m immediate c && (eqb (connection_at m c).target i && is_live s c))

-- input port i is one of thread t that is fed so, or one that is not
unfoldable pub is_port : Timing → State → Bool → ℕ → ℕ → Bool
is_port m s fed t i = eqb (input_owner m i) t && cond fed (is_fed_immediately m s i) (not (is_fed_immediately m s i))

-- such ports take their buffers
unfoldable pub freeze : Timing → State → Bool → ℕ → Ports
freeze m s fed t = record {
  input = fold_below m.inputs (λ i l. cond (is_port m s fed t i) (store max_inputs l i (buffer_value s.ports i)) l) s.ports.input;
  buffer = s.ports.buffer;
  output = s.ports.output;
  local = s.ports.local;
}

-- "Code 2, DispatchTime Now; each input port takes its buffer, except ports fed by a live immediate connection."
unfoldable pub dispatch : Timing → State → ℕ → State
dispatch m s t =
    with_ports (with_dispatch_time (with_code s t waiting_execution) t (now_of s)) (freeze m s false t)

-- "Code 3, Cpu the thread, Length set, Spent 0; ports fed by live immediate connections take their buffers."
unfoldable pub start : Timing → State → ℕ → ℕ → State
start m s t n = with_ports (with_job (with_cpu m (with_code s t execution) t t) t n 0) (freeze m s true t)

-- ---- behaviours
-- "a tag u8 (0 constant, 1 input port, 2 local) and an i32"
unfoldable pub operand_value : Ports → Operand → Value
operand_value p o =
    cond (eqb o.tag constant_tag) o.value (cond (eqb o.tag input_tag) (input_value p (bits_of o.value.0)) (local_value p (bits_of o.value.0)))

unfoldable pub left_value : Ports → Atom → Value
left_value p a = cond (eqb a.tag input_tag) (input_value p a.number) (local_value p a.number)

unfoldable pub atom_holds : Ports → Atom → Bool
atom_holds p a = compares a.op (left_value p a) (operand_value p a.right)

-- transition k of thread t, in its behaviour state, "whose atoms all hold"
unfoldable pub is_open : Behavior → State → ℕ → ℕ → Bool
is_open b s t k =
    eqb (transition_at b k).thread t && (eqb (transition_at b k).from (behavior_of s t) &&
    all_below (transition_at b k).atoms (λ j. atom_holds s.ports (atom_at b k j)))

-- "The first transition from its behaviour state whose atoms all hold is taken, or none"; none is the number of transitions
unfoldable pub first_open : Behavior → State → ℕ → ℕ
first_open b s t = first_below b.transitions (is_open b s t)

-- the transition taken; none keeps the behaviour state and assigns nothing
unfoldable pub taken_transition : Behavior → State → ℕ → Transition
taken_transition b s t =
    let k = first_open b s t in
    cond (ltb k b.transitions) (transition_at b k)
    (record { thread = t; from = behavior_of s t; to = behavior_of s t; atoms = 0; assignments = 0 })

-- "Assignments read values from before the transition."
unfoldable pub assigned_value : Ports → Assignment → Value
assigned_value p a = combine a.op (operand_value p a.first) (operand_value p a.second)

-- the first n assignments of transition k; p are the ports before
unfoldable pub assign : Behavior → Ports → ℕ → ℕ → Ports
assign b p k n = record {
  input = p.input;
  buffer = p.buffer;
  output = fold_below n (λ j l. let a = assignment_at b k j in cond (eqb a.tag output_tag) (store max_outputs l a.number (assigned_value p a)) l) p.output;
  local = fold_below n (λ j l. let a = assignment_at b k j in cond (eqb a.tag output_tag) l (store max_locals l a.number (assigned_value p a))) p.local;
}

-- a live connection of a kind from thread t
unfoldable pub carries : Timing → State → ℕ → ℕ → ℕ → Bool
carries m s kind t c = is_kind m kind c && (eqb (source_thread m c) t && is_live s c)

-- such connections copy the outputs to buffers
unfoldable pub send : Timing → State → ℕ → ℕ → Ports → Ports
send m s kind t p = record {
  input = p.input;
  buffer = fold_below m.connections (λ c l. cond (carries m s kind t c) (store max_inputs l (connection_at m c).target (output_value p (connection_at m c).source)) l) p.buffer;
  output = p.output;
  local = p.local;
}

-- ---- the end of a job: its code, the processor if it ran, "Length and Spent 0"
unfoldable pub end_job : Timing → State → ℕ → ℕ → State
end_job m s t code = with_job (with_code (cond (runs (code_of s t)) (with_cpu m s t none) s) t code) t 0 0

-- "Code 1 if Active, else 0."
abbrev pub rest_code : State → ℕ → ℕ
rest_code s t = cond (is_active s t) waiting_dispatch waiting_mode

-- ---- COMPLETE: the transition is taken, with its assignments; then
unfoldable pub advance : Model → State → ℕ → State
advance m s t =
    let x = taken_transition m.behavior s t in
    with_ports (with_behavior s t x.to) (assign m.behavior s.ports (first_open m.behavior s t) x.assignments)

-- "Live immediate connections copy the new outputs to buffers. Code 4, Cpu none, Length and Spent 0."
unfoldable pub finish : Timing → State → ℕ → State
finish m s t = with_ports (end_job m s t completed) (send m s immediate t s.ports)

unfoldable pub complete : Model → State → ℕ → State
complete m s t = finish m.timing (advance m s t) t

-- "Live delayed connections copy outputs to buffers. Code 1 if Active, else 0."
unfoldable pub meet_deadline : Timing → State → ℕ → State
meet_deadline m s t = with_ports (with_code s t (rest_code s t)) (send m s delayed t s.ports)

-- "Missed + 1, code as after DEADLINE, Cpu none if it ran, Length and Spent 0, no copy."
unfoldable pub miss : Timing → State → ℕ → State
miss m s t = with_missed (end_job m s t (rest_code s t)) t (one_more (missed_of s t))

-- ---- modes
-- DEACTIVATE: "becomes 0"; where a job is stopped, "a held processor is freed, Length and Spent .. become 0, no output is copied"
unfoldable pub deactivate : Timing → State → ℕ → State
deactivate m s t = cond (has_job (code_of s t)) (end_job m s t waiting_mode) (with_code s t waiting_mode)

-- "With Phase 0 and Mode the from-mode: Phase 1, Pending set; otherwise ignored, yet taken."
unfoldable pub request : Timing → State → ℕ → State
request m s q = cond (eqb s.clock.phase steady && eqb s.clock.mode (switch_at m q).from) (with_phase s requested q) s

-- Active by a mode, Flag where the mask holds both of two modes
unfoldable pub active_in : Timing → ℕ → List Bool → List Bool
active_in m mode l = fold_below m.threads (λ t a. store max_threads a t (in_mode (thread_at m t).modes mode)) l

unfoldable pub in_both : ℕ → ℕ → ℕ → Bool
in_both mask old new = in_mode mask old && in_mode mask new

unfoldable pub live_in : Timing → ℕ → ℕ → List Bool → List Bool
live_in m old new l = fold_below m.connections (λ c a. store max_connections a c (in_both (connection_at m c).modes old new)) l

-- "Phase 2, EnteredAt Now, Active by the new mode, Flag 1 where the mask holds both modes, else 0." Runs in hand are not touched: a critical thread goes
-- on to its deadline, another one is stopped by DEACTIVATE.
unfoldable pub enter : Timing → State → ℕ → State
enter m s q =
    let x = switch_at m q in
    with_live (with_active (with_entered (with_phase s changing s.clock.pending) (now_of s)) (active_in m x.to s.threads.active))
    (live_in m x.from x.to s.live)

-- "Phase 0, Pending none, Mode and Flags new."
unfoldable pub leave : Timing → State → ℕ → State
leave m s q =
    let x = switch_at m q in
    with_live (with_mode (with_phase s steady none) x.to) (live_in m x.to x.to s.live)

-- ---- "Now and a running Spent gain 1."
unfoldable pub tick : Timing → State → State
tick m s =
    with_now (fold_below m.threads (λ t x. cond (runs (code_of s t)) (with_spent x t (one_more (spent_of s t))) x) s) (now_of s + 1)
