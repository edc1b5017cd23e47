-- A plain state stays plain: the start, each event, and any step.
use Rattle.std.specs.Prelude.{◌≡◌, Bool, cond, ◌&&◌, List, ltb}
use Rattle.std.proofs.Math.Path.{refl}
use Rattle.std.proofs.Math.Bool.{true, false}
use Prim.Native.Nat.{ℕ, zero, suc}
use Rattle.std.proofs.Math.Dec.{eqb}
use Rattle.numbers.specs.declared.Value.{Value}
use Rattle.numbers.specs.Lists.{fold_below}
use Rattle.numbers.specs.Values.{bits_of, natural, copy_op, sum_op, combine, one_more}
use Rattle.numbers.specs.ValueLaws.{plus_again, minus_again}
use Rattle.records.specs.declared.Event.{Event}
use Rattle.records.specs.declared.Operand.{Operand}
use Rattle.records.specs.Events.{is_broken, last_clock, tick_kind}
use Rattle.model_format.specs.declared.Assignment.{Assignment}
use Rattle.model_format.specs.declared.Timing.{Timing}
use Rattle.model_format.specs.declared.Model.{Model}
use Rattle.model_format.specs.Model.{max_threads, max_inputs, max_outputs, max_locals, max_connections, thread_at, input_at, local_at, connection_at, switch_at, transition_at, assignment_at}
use Rattle.model_semantics.specs.declared.Ports.{Ports}
use Rattle.model_semantics.specs.declared.State.{State}
use Rattle.model_semantics.specs.declared.Stepped.{Stepped}
use Rattle.model_semantics.specs.State.{none, is_active, code_of, spent_of, behavior_of, input_value, buffer_value, output_value, local_value, now_of, with_spent, with_cpu}
use Rattle.model_semantics.specs.Tests.{waiting_mode, waiting_dispatch, waiting_execution, execution, completed, runs, can_activate, can_deactivate, can_dispatch, can_start, can_complete, can_meet_deadline, can_miss, can_enter, can_leave, is_busy}
use Rattle.model_semantics.specs.Effects.{is_port, freeze, dispatch, start, operand_value, first_open, taken_transition, assigned_value, assign, carries, send, end_job, rest_code, advance, finish, complete, meet_deadline, miss, deactivate, request, active_in, live_in, enter, leave, tick}
use Rattle.model_semantics.specs.DeactivateLaws.{deactivated}
use Rattle.model_semantics.specs.Machine.{start_state, ticks, on_activate, on_deactivate, on_dispatch, on_start, on_complete, on_deadline, on_miss, on_request, on_enter, on_leave, step}
use Rattle.kept_lists.specs.Arrays.{Array, stored, chosen, folded, filled, item_same}
use Rattle.kept_lists.specs.Plain.{byte, again, whole, PlainPorts, Plain, plain_live, plain_ports, plain_now, plain_entered, plain_mode, plain_phase, plain_cpu, plain_active, plain_code, plain_dispatched, plain_job, plain_spent, plain_behavior, plain_missed}

-- ---- a plain model: what its items put into a state
pub record PlainModel (m : Model) : Type 0 where
  pub initial : byte m.timing.initial ≡ m.timing.initial
  pub first : (t : ℕ) → byte (thread_at m.timing t).first ≡ (thread_at m.timing t).first
  pub input : (i : ℕ) → again (input_at m.timing i).start ≡ (input_at m.timing i).start
  pub local : (v : ℕ) → again (local_at m.timing v).start ≡ (local_at m.timing v).start
  pub switch : (q : ℕ) → byte (switch_at m.timing q).to ≡ (switch_at m.timing q).to
  pub transition : (k : ℕ) → byte (transition_at m.behavior k).to ≡ (transition_at m.behavior k).to
  pub left : (k j : ℕ) → again (assignment_at m.behavior k j).first.value ≡ (assignment_at m.behavior k j).first.value
  pub right : (k j : ℕ) → again (assignment_at m.behavior k j).second.value ≡ (assignment_at m.behavior k j).second.value

either : (b : Bool) (x y : State) → Plain x → Plain y → Plain (cond b x y)
either true x y p q = p
either false x y p q = q

byte_of : (b : Bool) (x y : ℕ) → byte x ≡ x → byte y ≡ y → byte (cond b x y) ≡ cond b x y
byte_of true x y p q = p
byte_of false x y p q = q

value_of : (b : Bool) (x y : Value) → again x ≡ x → again y ≡ y → again (cond b x y) ≡ cond b x y
value_of true x y p q = p
value_of false x y p q = q

zero_again : again (natural 0) ≡ natural 0
zero_again = refl

-- ---- values
combine_again : (op : ℕ) (x y : Value) → again x ≡ x → again (combine op x y) ≡ combine op x y
unfolding combine
combine_again op x y h = value_of (eqb op copy_op) _ _ h (value_of (eqb op sum_op) _ _ (plus_again x y) (minus_again x y))

module _ (p : Ports) (w : PlainPorts p) where
  operand_again_lem : (o : Operand) → again o.value ≡ o.value → again (operand_value p o) ≡ operand_value p o
  unfolding operand_value input_value local_value
  operand_again_lem o h =
      value_of (eqb o.tag 0) _ _ h (value_of (eqb o.tag 1) _ _ (item_same again max_inputs p.input (bits_of o.value.0) (natural 0) zero_again w.input) (item_same again max_locals p.local (bits_of o.value.0) (natural 0) zero_again w.local))

  assigned_again : (a : Assignment) → again a.first.value ≡ a.first.value → again (assigned_value p a) ≡ assigned_value p a
  unfolding assigned_value
  assigned_again a h = combine_again a.op _ _ (operand_again_lem a.first h)

  assigned_ports : (m : Model) → PlainModel m → (k n : ℕ) → PlainPorts (assign m.behavior p k n)
  unfolding assign
  assigned_ports m f k n = record {
    input = w.input;
    buffer = w.buffer;
    output = folded again max_outputs n _ p.output (λ j l h. chosen again max_outputs (eqb (assignment_at m.behavior k j).tag 3) _ _ (stored again max_outputs l (assignment_at m.behavior k j).number _ (assigned_again (assignment_at m.behavior k j) (f.left k j)) h) h) w.output;
    local = folded again max_locals n _ p.local (λ j l h. chosen again max_locals (eqb (assignment_at m.behavior k j).tag 3) _ _ h (stored again max_locals l (assignment_at m.behavior k j).number _ (assigned_again (assignment_at m.behavior k j) (f.left k j)) h)) w.local;
  }

  sent_ports : (m : Timing) (s : State) (kind t : ℕ) → PlainPorts (send m s kind t p)
  unfolding send output_value
  sent_ports m s kind t = record {
    input = w.input;
    buffer = folded again max_inputs m.connections _ p.buffer (λ c l h. chosen again max_inputs (carries m s kind t c) _ _ (stored again max_inputs l (connection_at m c).target _ (item_same again max_outputs p.output (connection_at m c).source (natural 0) zero_again w.output) h) h) w.buffer;
    output = w.output;
    local = w.local;
  }

-- ---- the effects
module _ (s : State) (p : Plain s) where
  frozen_ports : (m : Timing) (fed : Bool) (t : ℕ) → PlainPorts (freeze m s fed t)
  unfolding freeze buffer_value
  frozen_ports m fed t = record {
    input = folded again max_inputs m.inputs _ s.ports.input (λ i l h. chosen again max_inputs (is_port m s fed t i) _ _ (stored again max_inputs l i _ (item_same again max_inputs s.ports.buffer i (natural 0) zero_again p.ports.buffer) h) h) p.ports.input;
    buffer = p.ports.buffer;
    output = p.ports.output;
    local = p.ports.local;
  }

  dispatch_plain : (m : Timing) (t : ℕ) → Plain (dispatch m s t)
  unfolding dispatch
  dispatch_plain m t = plain_ports _ (plain_dispatched _ (plain_code s p t waiting_execution refl) t (now_of s)) _ (frozen_ports m false t)

  start_plain : (m : Timing) (t n : ℕ) → byte t ≡ t → Plain (start m s t n)
  unfolding start
  start_plain m t n h = plain_ports _ (plain_job _ (plain_cpu _ (plain_code s p t execution refl) m t t h) t n 0) _ (frozen_ports m true t)

  end_plain : (m : Timing) (t n : ℕ) → byte n ≡ n → Plain (end_job m s t n)
  unfolding end_job
  end_plain m t n h = plain_job _ (plain_code _ (either (runs (code_of s t)) (with_cpu m s t none) s (plain_cpu s p m t none refl) p) t n h) t 0 0

  next_byte : (m : Model) → PlainModel m → (t : ℕ) → byte (taken_transition m.behavior s t).to ≡ (taken_transition m.behavior s t).to
  unfolding taken_transition behavior_of
  next_byte m f t = go (ltb (first_open m.behavior s t) m.behavior.transitions)
    where
      go : (b : Bool) → byte (cond b (transition_at m.behavior (first_open m.behavior s t)) (record { thread = t; from = behavior_of s t; to = behavior_of s t; atoms = 0; assignments = 0 })).to ≡ (cond b (transition_at m.behavior (first_open m.behavior s t)) (record { thread = t; from = behavior_of s t; to = behavior_of s t; atoms = 0; assignments = 0 })).to
      go true = f.transition (first_open m.behavior s t)
      go false = item_same byte max_threads s.threads.behavior t 0 refl p.threads.behavior

  advance_plain : (m : Model) → PlainModel m → (t : ℕ) → Plain (advance m s t)
  unfolding advance
  advance_plain m f t = plain_ports _ (plain_behavior s p t _ (next_byte m f t)) _ (assigned_ports s.ports p.ports m f _ _)

  finish_plain : (m : Timing) (t : ℕ) → Plain (finish m s t)
  unfolding finish
  finish_plain m t = plain_ports _ (end_plain m t completed refl) _ (sent_ports s.ports p.ports m s _ t)

  rest_byte : (t : ℕ) → byte (rest_code s t) ≡ rest_code s t
  rest_byte t = byte_of (is_active s t) waiting_dispatch waiting_mode refl refl

  deadline_plain : (m : Timing) (t : ℕ) → Plain (meet_deadline m s t)
  unfolding meet_deadline
  deadline_plain m t = plain_ports _ (plain_code s p t _ (rest_byte t)) _ (sent_ports s.ports p.ports m s _ t)

  miss_plain : (m : Timing) (t : ℕ) → Plain (miss m s t)
  unfolding miss
  miss_plain m t = plain_missed _ (end_plain m t _ (rest_byte t)) t _

  deactivate_plain : (m : Timing) (t : ℕ) → Plain (deactivate m s t)
  deactivate_plain m t = deactivated Plain m s t (λ h. end_plain m t waiting_mode refl) (λ h. plain_code s p t waiting_mode refl)

  request_plain : (m : Timing) (q : ℕ) → byte q ≡ q → Plain (request m s q)
  unfolding request
  request_plain m q h = either (eqb s.clock.phase 0 && eqb s.clock.mode (switch_at m q).from) _ s (plain_phase s p 1 q refl h) p

  active_array : (m : Timing) (mode : ℕ) (l : List Bool) → Array {A = Bool} whole max_threads l → Array {A = Bool} whole max_threads (active_in m mode l)
  unfolding active_in
  active_array m mode l h = folded whole max_threads m.threads _ l (λ t k j. stored whole max_threads k t _ refl j) h

  live_array : (m : Timing) (old new : ℕ) (l : List Bool) → Array {A = Bool} whole max_connections l → Array {A = Bool} whole max_connections (live_in m old new l)
  unfolding live_in
  live_array m old new l h = folded whole max_connections m.connections _ l (λ c k j. stored whole max_connections k c _ refl j) h

  enter_plain : (m : Timing) (q : ℕ) → Plain (enter m s q)
  unfolding enter
  enter_plain m q = plain_live _ (plain_active _ (plain_entered _ (plain_phase s p 2 _ refl p.clock.pending) _) _ (active_array m _ _ p.threads.active)) _ (live_array m _ _ _ p.live)

  leave_plain : (m : Timing) (q : ℕ) → byte (switch_at m q).to ≡ (switch_at m q).to → Plain (leave m s q)
  unfolding leave
  leave_plain m q h = plain_live _ (plain_mode _ (plain_phase s p 0 none refl refl) _ h) _ (live_array m _ _ _ p.live)

  spent_plain : (n : ℕ) → Plain (fold_below n (λ t x. cond (runs (code_of s t)) (with_spent x t (one_more (spent_of s t))) x) s)
  unfolding fold_below
  spent_plain zero = p
  spent_plain (suc n) = either (runs (code_of s n)) _ _ (plain_spent _ (spent_plain n) n _) (spent_plain n)

  tick_plain : (m : Timing) → Plain (tick m s)
  unfolding tick
  tick_plain m = plain_now _ (spent_plain m.threads) _

complete_plain : (s : State) → Plain s → (m : Model) → PlainModel m → (t : ℕ) → Plain (complete m s t)
unfolding complete
complete_plain s p m f t = finish_plain _ (advance_plain s p m f t) m.timing t

-- ---- a step, whatever it answers
stepped : (b : Bool) (x y : Stepped) → Plain x.state → Plain y.state → Plain (cond b x y).state
stepped true x y p q = p
stepped false x y p q = q

ticks_plain : (m : Timing) (s₀ : State) → Plain s₀ → (n : ℕ) (s : State) → Plain s → Plain (ticks m s₀ n s).state
unfolding ticks
ticks_plain m s₀ h zero s p = p
ticks_plain m s₀ h (suc n) s p = stepped (is_busy m s) _ _ h (stepped (ltb (now_of s) last_clock) _ _ (ticks_plain m s₀ h n (tick m s) (tick_plain s p m)) h)

pub step_plain : (m : Model) → PlainModel m → (s : State) → Plain s → (e : Event) → byte e.id ≡ e.id → Plain (step m s e).state
unfolding step on_activate on_deactivate on_dispatch on_start on_complete on_deadline on_miss on_request on_enter on_leave
step_plain m f s p e h =
    let x = m.timing in
    let t = e.id in
    stepped (is_broken e) _ _ p
    (stepped (eqb e.kind 1) _ _ (stepped (ltb t x.threads && can_activate s t) _ _ (plain_code s p t waiting_dispatch refl) p)
    (stepped (eqb e.kind 2) _ _ (stepped (ltb t x.threads && can_deactivate x s t) _ _ (deactivate_plain s p x t) p)
    (stepped (eqb e.kind 3) _ _ (stepped (ltb t x.threads && can_dispatch x s t) _ _ (dispatch_plain s p x t) p)
    (stepped (eqb e.kind 4) _ _ (stepped (can_start x s t e.amount) _ _ (start_plain s p x t e.amount h) p)
    (stepped (eqb e.kind 5) _ _ (stepped (ltb t x.threads && can_complete s t) _ _ (complete_plain s p m f t) p)
    (stepped (eqb e.kind 6) _ _ (stepped (ltb t x.threads && can_meet_deadline x s t) _ _ (deadline_plain s p x t) p)
    (stepped (eqb e.kind 7) _ _ (stepped (ltb t x.threads && can_miss x s t) _ _ (miss_plain s p x t) p)
    (stepped (eqb e.kind 8) _ _ (stepped (ltb t x.switches) _ _ (request_plain s p x t h) p)
    (stepped (eqb e.kind 9) _ _ (stepped (ltb t x.switches && can_enter x s t) _ _ (enter_plain s p x t) p)
    (stepped (eqb e.kind 10) _ _ (stepped (ltb t x.switches && can_leave x s t) _ _ (leave_plain s p x t (f.switch t)) p)
    (stepped (eqb e.kind tick_kind) _ _ (ticks_plain x s p e.amount s p) p)))))))))))

-- ---- the start
pub start_state_plain : (m : Model) → PlainModel m → Plain (start_state m.timing)
unfolding start_state active_in live_in
start_state_plain m f = record {
  clock = record { mode = f.initial; phase = refl; pending = refl; cpu = refl };
  threads = record {
    active = folded whole max_threads m.timing.threads _ _ (λ t k j. stored whole max_threads k t _ refl j) (filled whole max_threads false refl);
    code = filled byte max_threads 0 refl;
    dispatched = filled whole max_threads _ refl;
    length = filled whole max_threads _ refl;
    spent = filled whole max_threads _ refl;
    behavior = folded byte max_threads m.timing.threads _ _ (λ t k j. stored byte max_threads k t _ (f.first t) j) (filled byte max_threads 0 refl);
    missed = filled whole max_threads 0 refl;
  };
  live = folded whole max_connections m.timing.connections _ _ (λ c k j. stored whole max_connections k c _ refl j) (filled whole max_connections false refl);
  ports = record {
    input = folded again max_inputs m.timing.inputs _ _ (λ i k j. stored again max_inputs k i _ (f.input i) j) (filled again max_inputs (natural 0) refl);
    buffer = folded again max_inputs m.timing.inputs _ _ (λ i k j. stored again max_inputs k i _ (f.input i) j) (filled again max_inputs (natural 0) refl);
    output = filled again max_outputs (natural 0) refl;
    local = folded again max_locals m.timing.locals _ _ (λ v k j. stored again max_locals k v _ (f.local v) j) (filled again max_locals (natural 0) refl);
  };
}
