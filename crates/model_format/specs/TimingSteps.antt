-- Kinds 01 to 07: an accepted record keeps what holds while a model is read.
use Rattle.std.specs.Prelude.{◌≡◌, refl, true, false, cond, not, ◌&&◌, ℕ, ◌+◌, ◌<◌, ◌≤◌, eqb, ltb, leb}
use Rattle.std.proofs.Common.{ap, arith, SFits, ltb-true, ltb-false, leb-true, leb-false}
use Rattle.std.proofs.Math.Decide.{ℕ_discrete}
use Rattle.std.specs.Int.{w32}
use Rattle.std.proofs.lemmas.Bool.{not-false, eqb-false}
use Rattle.numbers.specs.Lists.{item, store}
use Rattle.numbers.specs.ListLaws.{item_store_same, item_store_other, none_below}
use Rattle.records.specs.Refusals.{is_none}
use Rattle.records.specs.Events.{last_clock}
use Rattle.model_format.specs.declared.Head.{Head}
use Rattle.model_format.specs.declared.Thread.{Thread}
use Rattle.model_format.specs.declared.Owned.{Owned}
use Rattle.model_format.specs.declared.Connection.{Connection}
use Rattle.model_format.specs.declared.ModeTransition.{ModeTransition}
use Rattle.model_format.specs.declared.Record.TheVariants.{HeadRecord, ThreadRecord, InputRecord, OutputRecord, LocalRecord, ConnectionRecord, ModeRecord}
use Rattle.model_format.specs.declared.Timing.{Timing}
use Rattle.model_format.specs.declared.Behavior.{Behavior}
use Rattle.model_format.specs.declared.Reading.{Reading}
use Rattle.model_format.specs.Format.{rank_of}
use Rattle.model_format.specs.Model.{max_threads, max_inputs, max_outputs, max_locals, max_connections, max_switches, no_thread, no_owned, no_connection, no_switch, no_atom, no_assignment, thread_at, connection_at, transition_at, h1_of, h2_of}
use Rattle.model_format.specs.Reading.{in_order, times_fit, longest_time, mask_fits, is_state, is_connected, misplaced, head_faults, thread_faults, port_faults, connection_faults, switch_faults, cause_of, add_head, add_thread, add_input, add_output, add_local, add_connection, add_switch, add_record, with_hyperperiods, with_timing, next_reading}
use Rattle.model_format.specs.WellFormed.{GoodThread, GoodAtom, GoodAssignment}
use Rattle.model_format.specs.Arrays.{filled_as, filled_more, rows_none}
use Rattle.model_format.specs.Hyperperiods.{hyperperiod_positive}
use Rattle.model_format.specs.Faultless.{both_true, both_false, faultless, order_head, order_item}
use Rattle.model_format.specs.Sound.{GoodInput, GoodConnection, GoodSwitch, SameTarget, Never, SoundTiming, SoundBehavior, SoundHead, Sound}

-- ---- a model without transitions, with other timing
bare : (m n : Timing) (b : Behavior) → SoundBehavior m b → b.transitions ≡ 0 → SoundBehavior n b
bare m n b s e = record {
  transition = record { within = s.transition.within; size = s.transition.size; each = λ i h. absurd (omega arith) };
  atom = rows_none no_atom (GoodAtom n) Never b.transitions (λ k. (transition_at b k).atoms) b.atom s.atom.size e;
  assignment = rows_none no_assignment (GoodAssignment n) SameTarget b.transitions (λ k. (transition_at b k).assignments) b.assignment s.assignment.size e;
}

-- record k leaves the timing t
timing_next : (a : Reading) (k : ℕ) (t : Timing) → Sound a → a.last < 8 → 0 < k → k < 8 → SoundHead t → SoundTiming t →
    Sound (record { last = k; model = with_timing a.model t })
timing_next a k t s l h g hd tm = record {
  head = λ p. hd;
  fresh = λ e. absurd (omega arith);
  early = λ p. s.early l;
  late = λ p. absurd (omega arith);
  timing = tm;
  behavior = bare a.model.timing t a.model.behavior s.behavior (s.early l);
}

-- ---- 01 head
head_added : (m : Timing) (x : Head) → SoundTiming m → m.switches ≡ 0 → SoundTiming (add_head m x)
unfolding add_head connection_at
head_added m x s e = record {
  thread = s.thread;
  input = s.input;
  output = s.output;
  local = s.local;
  connection = s.connection;
  single = s.single;
  switch = record { within = s.switch.within; size = s.switch.size; each = λ i h. absurd (omega arith) };
}

pub head_next : (a : Reading) (x : Head) → Sound a → is_none (cause_of a (HeadRecord x)) ≡ true → Sound (next_reading a (HeadRecord x))
unfolding cause_of add_record rank_of add_head
head_next a x s h =
    let f = faultless (head_faults (misplaced a (HeadRecord x)) x) h in
    let z = order_head a.last (not-false (in_order a.last 1) f.order) in
    let r = both_true (leb 1 x.modes) (leb x.modes 8) (not-false (leb 1 x.modes && leb x.modes 8) f.ranges) in
    timing_next a 1 (add_head a.model.timing x) s (omega arith) (omega arith) (omega arith)
    (record { initial = leb-false x.modes x.initial f.names; modes = leb-true x.modes 8 r.1 })
    (head_added a.model.timing x s.timing (s.fresh z))

-- ---- 02 to 07: the order, and the rest
module _ (a : Reading) (k : ℕ) (t : Timing) (s : Sound a) (h : not (ltb 0 a.last && leb (cond (ltb 8 a.last) 8 a.last) k) ≡ false) (l : k < 8) (g : 0 < k)
    (em : t.modes ≡ a.model.timing.modes) (ei : t.initial ≡ a.model.timing.initial) (tm : SoundTiming t) where
  item_next : Sound (record { last = k; model = with_timing a.model t })
  item_next =
      let o = order_item a.last k (not-false (ltb 0 a.last && leb (cond (ltb 8 a.last) 8 a.last) k) h) in
      let d = s.head o.0 in
      timing_next a k t s (o.1 l) g l (record { initial = let i = d.initial in omega arith; modes = let i = d.modes in omega arith }) tm

-- ---- 02 thread
good_thread : (x : Thread) → times_fit x ≡ true → x.first < 8 → GoodThread x
unfolding times_fit
good_thread x h l =
    let b1 = both_true (leb 1 x.deadline.0) _ h in
    let b2 = both_true (leb x.deadline.0 x.period.0) _ b1.1 in
    let b3 = both_true (leb x.period.0 longest_time) _ b2.1 in
    let b4 = both_true (leb 1 x.bcet.0) _ b3.1 in
    let b5 = both_true (leb x.bcet.0 x.wcet.0) _ b4.1 in
    record {
      deadline = leb-true _ _ b1.0;
      period = leb-true _ _ b2.0;
      longest = leb-true _ _ b3.0;
      bcet = leb-true _ _ b4.0;
      wcet = leb-true _ _ b5.0;
      longest_run = leb-true _ _ b5.1;
      first = l;
    }

thread_added : (m : Timing) (x : Thread) → SoundTiming m → m.threads < max_threads → GoodThread x → SoundTiming (add_thread m x)
unfolding add_thread connection_at
thread_added m x s h g = record {
  thread = filled_more max_threads no_thread GoodThread m.threads m.thread x s.thread g h;
  input = filled_as max_inputs no_owned (GoodInput m.threads) (GoodInput (m.threads + 1)) m.inputs m.input (λ x k. record { owner = let o = k.owner in omega arith; start = k.start }) s.input;
  output = filled_as max_outputs 0 (λ o. o < m.threads) (λ o. o < m.threads + 1) m.outputs m.output (λ o k. omega arith) s.output;
  local = s.local;
  connection = s.connection;
  single = s.single;
  switch = s.switch;
}

pub thread_next : (a : Reading) (x : Thread) → Sound a → is_none (cause_of a (ThreadRecord x)) ≡ true → Sound (next_reading a (ThreadRecord x))
unfolding cause_of add_record rank_of add_thread in_order
thread_next a x s h =
    let m = a.model.timing in
    let f = faultless (thread_faults (misplaced a (ThreadRecord x)) m x) h in
    let r = both_true (mask_fits m x.modes) (ltb x.critical 2 && is_state x.first) (not-false _ f.ranges) in
    let c = both_true (ltb x.critical 2) (is_state x.first) r.1 in
    item_next a 2 (add_thread m x) s f.order (omega arith) (omega arith) refl refl
    (thread_added m x s.timing (leb-false max_threads m.threads f.excess) (good_thread x (not-false (times_fit x) f.times) (ltb-true x.first 8 c.1)))

-- ---- 03 and 0B port in, 04 port out, 05 local
input_added : (m : Timing) (x : Owned) → SoundTiming m → m.inputs < max_inputs → GoodInput m.threads x → SoundTiming (add_input m x)
unfolding add_input connection_at
input_added m x s h g = record {
  thread = s.thread;
  input = filled_more max_inputs no_owned (GoodInput m.threads) m.inputs m.input x s.input g h;
  output = s.output;
  local = s.local;
  connection = filled_as max_connections no_connection (GoodConnection m.inputs m.outputs) (GoodConnection (m.inputs + 1) m.outputs) m.connections m.connection
      (λ y k. record { source = k.source; target = let t = k.target in omega arith; kind = k.kind }) s.connection;
  single = s.single;
  switch = s.switch;
}

output_added : (m : Timing) (o : ℕ) → SoundTiming m → m.outputs < max_outputs → o < m.threads → SoundTiming (add_output m o)
unfolding add_output connection_at
output_added m o s h g = record {
  thread = s.thread;
  input = s.input;
  output = filled_more max_outputs 0 (λ i. i < m.threads) m.outputs m.output o s.output g h;
  local = s.local;
  connection = filled_as max_connections no_connection (GoodConnection m.inputs m.outputs) (GoodConnection m.inputs (m.outputs + 1)) m.connections m.connection
      (λ x k. record { source = let t = k.source in omega arith; target = k.target; kind = k.kind }) s.connection;
  single = s.single;
  switch = s.switch;
}

local_added : (m : Timing) (x : Owned) → SoundTiming m → m.locals < max_locals → SFits w32 x.start.0 → SoundTiming (add_local m x)
unfolding add_local connection_at
local_added m x s h g = record {
  thread = s.thread;
  input = s.input;
  output = s.output;
  local = filled_more max_locals no_owned (λ v. SFits w32 v.start.0) m.locals m.local x s.local g h;
  connection = s.connection;
  single = s.single;
  switch = s.switch;
}

pub input_next : (a : Reading) (x : Owned) → SFits w32 x.start.0 → Sound a → is_none (cause_of a (InputRecord x)) ≡ true → Sound (next_reading a (InputRecord x))
unfolding cause_of add_record rank_of add_input in_order
input_next a x w s h =
    let m = a.model.timing in
    let f = faultless (port_faults (misplaced a (InputRecord x)) m.inputs max_inputs m x.owner) h in
    item_next a 3 (add_input m x) s f.order (omega arith) (omega arith) refl refl
    (input_added m x s.timing (leb-false max_inputs m.inputs f.excess) (record { owner = leb-false m.threads x.owner f.names; start = w }))

pub output_next : (a : Reading) (o : ℕ) → Sound a → is_none (cause_of a (OutputRecord o)) ≡ true → Sound (next_reading a (OutputRecord o))
unfolding cause_of add_record rank_of add_output in_order
output_next a o s h =
    let m = a.model.timing in
    let f = faultless (port_faults (misplaced a (OutputRecord o)) m.outputs max_outputs m o) h in
    item_next a 4 (add_output m o) s f.order (omega arith) (omega arith) refl refl
    (output_added m o s.timing (leb-false max_outputs m.outputs f.excess) (leb-false m.threads o f.names))

pub local_next : (a : Reading) (x : Owned) → SFits w32 x.start.0 → Sound a → is_none (cause_of a (LocalRecord x)) ≡ true → Sound (next_reading a (LocalRecord x))
unfolding cause_of add_record rank_of add_local in_order
local_next a x w s h =
    let m = a.model.timing in
    let f = faultless (port_faults (misplaced a (LocalRecord x)) m.locals max_locals m x.owner) h in
    item_next a 5 (add_local m x) s f.order (omega arith) (omega arith) refl refl
    (local_added m x s.timing (leb-false max_locals m.locals f.excess) w)

-- ---- 06 connection
connection_added : (m : Timing) (x : Connection) → SoundTiming m → m.connections < max_connections → GoodConnection m.inputs m.outputs x →
    is_connected m x.target ≡ false → SoundTiming (add_connection m x)
unfolding add_connection connection_at is_connected
connection_added m x s h g n = record {
  thread = s.thread;
  input = s.input;
  output = s.output;
  local = s.local;
  connection = filled_more max_connections no_connection (GoodConnection m.inputs m.outputs) m.connections m.connection x s.connection g h;
  single = λ c e l k q. single c e l k (ℕ_discrete e m.connections) q;
  switch = s.switch;
}
  where
    at : ℕ → Connection
    at c = item max_connections (store max_connections m.connection m.connections x) c no_connection

    old : (c : ℕ) → (c ≡ m.connections → ⊥) → (at c).target ≡ (connection_at m c).target
    old c o = ap (λ (y : Connection). y.target) (item_store_other max_connections m.connection m.connections c x no_connection o)

    new : (e : ℕ) → e ≡ m.connections → (at e).target ≡ x.target
    new e o = rw o (ap (λ (y : Connection). y.target) (item_store_same max_connections m.connection m.connections x no_connection h (let z = s.connection.size in omega arith)))

    single : (c e : ℕ) → c < e → e < m.connections + 1 → Dec (e ≡ m.connections) → (at c).target ≡ (at e).target → ⊥
    single c e l k (yes o) q =
        eqb-false (connection_at m c).target x.target (none_below m.connections (λ i. eqb (connection_at m i).target x.target) n c (omega arith))
        (let u = old c (λ z. omega arith) in let v = new e o in omega arith)
    single c e l k (no o) q = s.single c e l (omega arith) (let u = old c (λ z. omega arith) in let v = old e o in omega arith)

pub connection_next : (a : Reading) (x : Connection) → Sound a → is_none (cause_of a (ConnectionRecord x)) ≡ true → Sound (next_reading a (ConnectionRecord x))
unfolding cause_of add_record rank_of add_connection in_order
connection_next a x s h =
    let m = a.model.timing in
    let f = faultless (connection_faults (misplaced a (ConnectionRecord x)) m x) h in
    let n = both_true (ltb x.source m.outputs) (ltb x.target m.inputs) (not-false _ f.names) in
    let r = both_true (ltb x.kind 2) (mask_fits m x.modes) (not-false _ f.ranges) in
    item_next a 6 (add_connection m x) s f.order (omega arith) (omega arith) refl refl
    (connection_added m x s.timing (leb-false max_connections m.connections f.excess)
    (record { source = ltb-true x.source m.outputs n.0; target = ltb-true x.target m.inputs n.1; kind = ltb-true x.kind 2 r.0 })
    f.twice)

-- ---- 07 mode transition
switch_added : (m : Timing) (x : ModeTransition) → SoundTiming m → m.switches < max_switches → GoodSwitch m.modes (with_hyperperiods m x) → SoundTiming (add_switch m x)
unfolding add_switch connection_at
switch_added m x s h g = record {
  thread = s.thread;
  input = s.input;
  output = s.output;
  local = s.local;
  connection = s.connection;
  single = s.single;
  switch = filled_more max_switches no_switch (GoodSwitch m.modes) m.switches m.switch (with_hyperperiods m x) s.switch g h;
}

period_positive : (m : Timing) → SoundTiming m → (t : ℕ) → t < m.threads → 1 ≤ (thread_at m t).period.0
unfolding thread_at
period_positive m s t h = let g = s.thread.each t h in let d = g.deadline in let p = g.period in omega arith

pub switch_next : (a : Reading) (x : ModeTransition) → Sound a → is_none (cause_of a (ModeRecord x)) ≡ true → Sound (next_reading a (ModeRecord x))
unfolding cause_of add_record rank_of add_switch in_order
switch_next a x s h =
    let m = a.model.timing in
    let f = faultless (switch_faults (misplaced a (ModeRecord x)) m x) h in
    let n = both_true (ltb x.from m.modes) (ltb x.to m.modes) (not-false _ f.names) in
    let t = both_false (ltb last_clock (h1_of m x.from)) (ltb last_clock (h2_of m x.from x.to)) f.hyperperiod in
    let p = period_positive m s.timing in
    item_next a 7 (add_switch m x) s f.order (omega arith) (omega arith) refl refl
    (switch_added m x s.timing (leb-false max_switches m.switches f.excess)
    (record {
      from = ltb-true x.from m.modes n.0;
      to = ltb-true x.to m.modes n.1;
      h1 = (hyperperiod_positive m x.from x.from p, ltb-false last_clock (h1_of m x.from) t.0);
      h2 = (hyperperiod_positive m x.from x.to p, ltb-false last_clock (h2_of m x.from x.to) t.1);
    }))
