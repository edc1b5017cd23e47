-- The model's machine: its start, one event, a run.
use Rattle.std.specs.Prelude.{Bool, false, cond, ◌&&◌, List, ℕ, zero, suc, replicate, eqb, ltb}
use Rattle.numbers.specs.Lists.{store, fold_below}
use Rattle.numbers.specs.Values.{duration, natural}
use Rattle.records.specs.declared.Cause.{Cause}
use Rattle.numbers.specs.declared.Value.{Value}
use Rattle.records.specs.declared.Cause.TheVariants.{None, BrokenEvent, NotEnabled, LastClock}
use Rattle.records.specs.declared.Event.{Event}
use Rattle.records.specs.Events.{activate_kind, deactivate_kind, dispatch_kind, start_kind, complete_kind, deadline_kind, miss_kind, request_kind, enter_kind, leave_kind, tick_kind, is_broken, last_clock}
use Rattle.records.specs.Run.{Machine, Ended, Stage, run, stages}
use Rattle.model_format.specs.declared.Timing.{Timing}
use Rattle.model_format.specs.declared.Model.{Model}
use Rattle.model_format.specs.Model.{max_threads, max_inputs, max_outputs, max_locals, max_connections, thread_at, input_at, local_at}
use Rattle.model_semantics.specs.declared.State.{State}
use Rattle.model_semantics.specs.declared.Stepped.{Stepped}
use Rattle.model_semantics.specs.State.{none, now_of, with_code}
use Rattle.model_semantics.specs.Tests.{waiting_dispatch, can_activate, can_deactivate, can_dispatch, can_start, can_complete, can_meet_deadline, can_miss, can_enter, can_leave, is_busy}
use Rattle.model_semantics.specs.Effects.{dispatch, start, complete, meet_deadline, miss, deactivate, request, active_in, live_in, enter, leave, tick}

-- "owner u8 and start i32 .. Kind 03 still means 0": the start values of the input ports
abbrev pub port_starts : Timing → List Value
port_starts m = fold_below m.inputs (λ i l. store max_inputs l i (input_at m i).start) (replicate max_inputs (natural 0))

-- "All starts at 0 but: Mode initial, Pending and Cpu 255 (none), Active and Flag (connection live) 1 where the mask holds the initial
-- mode, behaviour state and locals as given." "Port and buffer both begin at that value."
unfoldable pub start_state : Timing → State
start_state m = record {
  clock = record { now = duration 0; entered = duration 0; mode = m.initial; phase = 0; pending = none; cpu = none };
  threads = record {
    active = active_in m m.initial (replicate max_threads false);
    code = replicate max_threads 0;
    dispatched = replicate max_threads (duration 0);
    length = replicate max_threads (duration 0);
    spent = replicate max_threads (duration 0);
    behavior = fold_below m.threads (λ t l. store max_threads l t (thread_at m t).first) (replicate max_threads 0);
    missed = replicate max_threads 0;
  };
  live = live_in m m.initial m.initial (replicate max_connections false);
  ports = record {
    input = port_starts m;
    buffer = port_starts m;
    output = replicate max_outputs (natural 0);
    local = fold_below m.locals (λ v l. store max_locals l v (local_at m v).start) (replicate max_locals (natural 0));
  };
}

abbrev pub refuse : Cause → State → Stepped
refuse c s = record { answer = c; state = s }

abbrev pub accept : State → Stepped
accept s = record { answer = None; state = s }

-- Where the test b holds, x is the state after the event. "not enabled, id without item": it is refused, and the state s stays.
abbrev pub attempt : Bool → State → State → Stepped
attempt b x s = cond b (accept x) (refuse NotEnabled s)

-- "TICK n: tick by tick; each needs that no event but REQUEST is enabled .. then Now below 1,000,000,000": n ticks more, where s₀ is the
-- state before all of them.
unfoldable pub ticks : Timing → State → ℕ → State → Stepped
ticks m s₀ zero s = accept s
ticks m s₀ (suc n) s =
    let r = ticks m s₀ n (tick m s) in
    cond (is_busy m s) (refuse NotEnabled s₀) (cond (ltb (now_of s) last_clock) r (refuse LastClock s₀))

-- ---- each event: its test, and its effect on thread t or mode transition q. n is how many threads there are.
unfoldable pub on_activate : ℕ → State → ℕ → Stepped
on_activate n s t = attempt (ltb t n && can_activate s t) (with_code s t waiting_dispatch) s

unfoldable pub on_deactivate : Timing → State → ℕ → Stepped
on_deactivate m s t = attempt (ltb t m.threads && can_deactivate m s t) (deactivate m s t) s

unfoldable pub on_dispatch : Timing → State → ℕ → Stepped
on_dispatch m s t = attempt (ltb t m.threads && can_dispatch m s t) (dispatch m s t) s

unfoldable pub on_start : Timing → State → ℕ → ℕ → Stepped
on_start m s t length = attempt (can_start m s t length) (start m s t length) s

unfoldable pub on_complete : Model → State → ℕ → Stepped
on_complete m s t = attempt (ltb t m.timing.threads && can_complete s t) (complete m s t) s

unfoldable pub on_deadline : Timing → State → ℕ → Stepped
on_deadline m s t = attempt (ltb t m.threads && can_meet_deadline m s t) (meet_deadline m s t) s

unfoldable pub on_miss : Timing → State → ℕ → Stepped
on_miss m s t = attempt (ltb t m.threads && can_miss m s t) (miss m s t) s

-- "REQUEST: always."
unfoldable pub on_request : Timing → State → ℕ → Stepped
on_request m s q = attempt (ltb q m.switches) (request m s q) s

unfoldable pub on_enter : Timing → State → ℕ → Stepped
on_enter m s q = attempt (ltb q m.switches && can_enter m s q) (enter m s q) s

unfoldable pub on_leave : Timing → State → ℕ → Stepped
on_leave m s q = attempt (ltb q m.switches && can_leave m s q) (leave m s q) s

-- "one match over the kind byte chooses each event's test and effect"; an event that is cut, of an unknown kind or with n 0 is refused before.
unfoldable pub step : Model → State → Event → Stepped
step m s e =
    let x = m.timing in
    let t = e.id in
    let r = ticks x s e.amount s in
    cond (is_broken e) (refuse BrokenEvent s)
    (cond (eqb e.kind activate_kind) (on_activate x.threads s t)
    (cond (eqb e.kind deactivate_kind) (on_deactivate x s t)
    (cond (eqb e.kind dispatch_kind) (on_dispatch x s t)
    (cond (eqb e.kind start_kind) (on_start x s t e.amount)
    (cond (eqb e.kind complete_kind) (on_complete m s t)
    (cond (eqb e.kind deadline_kind) (on_deadline x s t)
    (cond (eqb e.kind miss_kind) (on_miss x s t)
    (cond (eqb e.kind request_kind) (on_request x s t)
    (cond (eqb e.kind enter_kind) (on_enter x s t)
    (cond (eqb e.kind leave_kind) (on_leave x s t)
    (cond (eqb e.kind tick_kind) r (refuse BrokenEvent s))))))))))))

abbrev pub machine_of : Model → Machine State
machine_of m = record { answer = λ s e. (step m s e).answer; after = λ s e. (step m s e).state }

-- the run of a model from its start
unfoldable pub run_model : Model → List ℕ → Ended State
run_model m script = run (machine_of m) (start_state m.timing) script

-- and the loop that goes on after refusals
unfoldable pub model_stages : Model → List ℕ → List (Stage State)
model_stages m script = stages (machine_of m) (start_state m.timing) script
