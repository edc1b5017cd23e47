-- What an event does to both machines: the invariant in parts, so that an event says what it changes, and the rest is kept.
use Rattle.std.specs.Prelude.{◌≡◌, refl, List, [], ◌∷◌, ℕ, ◌+◌, ◌-◌, ◌<◌, ◌≤◌, eqb, length}
use Rattle.std.proofs.Common.{◌∙◌, arith, ne_eqb, le-ltb}
use mathlib.Core.Bool.{Bool, true, false, ◌&&◌, ◌||◌, or-false}
use Rattle.std.proofs.Math.Decide.{ℕ_discrete, dec_lt}
use Rattle.numbers.specs.declared.Value.{Value}
use Rattle.numbers.specs.Lists.{item, store}
use Rattle.numbers.specs.ListLaws.{length_store, item_store_other}
use Rattle.numbers.specs.Values.{duration, natural}
use Rattle.records.specs.declared.Event.{Event}
use Rattle.records.specs.declared.Cause.{Cause}
use Rattle.records.specs.declared.Cause.TheVariants.{None}
use Rattle.records.specs.Refusals.{number_of, is_none}
use Rattle.records.specs.Events.{dispatch_kind, last_clock}
use Rattle.model_format.specs.declared.Timing.{Timing}
use Rattle.model_format.specs.Model.{max_threads, max_connections, thread_at, max_inputs, max_outputs, max_locals}
use Rattle.model_format.specs.Reading.{longest_time}
use Rattle.model_semantics.specs.declared.Clock.{Clock}
use Rattle.model_semantics.specs.declared.Threads.{Threads}
use Rattle.model_semantics.specs.declared.Ports.{Ports}
use Rattle.model_semantics.specs.declared.State.{State}
use Rattle.model_semantics.specs.State.{is_active, code_of, dispatch_time, length_of, spent_of, behavior_of, missed_of, is_live, input_value, buffer_value, output_value, local_value, now_of}
use Rattle.model_semantics.specs.Tests.{waiting_execution, execution, due_of, last_code}
use Rattle.table_format.specs.declared.Update.{Update}
use Rattle.table_format.specs.Variables.{variables, now_var, mode_var, phase_var, pending_var, entered_var, cpu_var, active_var, state_var, dispatch_var, due_var, end_var, behavior_var, missed_var, flag_var, input_var, buffer_var, output_var, local_var, clock_vars, spare_vars, thread_var, thread_columns}
use Rattle.table_semantics.specs.Rules.{value_of, writes, inconsistent, written}
use Rattle.translation.specs.Shown.{bit}
use Rattle.translation.specs.Parts.{Body}
use Rattle.simulation.specs.Compared.{Dispatched, and_after}
use Rattle.simulation.specs.Match.{Match}
use Rattle.simulation.specs.Writes.{value_written, updated_miss, length_written, Misses, Apart, apart_consistent, Column, column_kept}

-- ---- the parts
pub record ClockShown (c : Clock) (v : List Value) : Type 0 where
  pub now : value_of v now_var ≡ natural c.now.0
  pub mode : value_of v mode_var ≡ natural c.mode
  pub phase : value_of v phase_var ≡ natural c.phase
  pub pending : value_of v pending_var ≡ natural c.pending
  pub entered : value_of v entered_var ≡ natural c.entered.0
  pub cpu : value_of v cpu_var ≡ natural c.cpu
  pub spare : (j : ℕ) → j < spare_vars → value_of v (clock_vars + j) ≡ natural 0

-- one thread of a state
pub record Job : Type 0 where
  pub active : Bool
  pub code : ℕ
  pub dispatched : ℕ
  pub long : ℕ
  pub spent : ℕ
  pub behavior : ℕ
  pub missed : ℕ

abbrev pub job_of : State → ℕ → Job
job_of s t = record {
  active = is_active s t;
  code = code_of s t;
  dispatched = dispatch_time s t;
  long = length_of s t;
  spent = spent_of s t;
  behavior = behavior_of s t;
  missed = missed_of s t;
}

-- a thread that is not there, and what a run reaches
pub record JobBlank (x : Job) : Type 0 where
  pub active : x.active ≡ false
  pub code : x.code ≡ 0
  pub dispatched : x.dispatched ≡ 0
  pub behavior : x.behavior ≡ 0
  pub missed : x.missed ≡ 0

pub record JobReached (d : Bool) (now : ℕ) (x : Job) : Type 0 where
  pub codes : x.code ≤ last_code
  pub ran : x.code ≡ execution → x.spent ≤ x.long
  pub long : x.code ≡ execution → x.long ≤ longest_time
  pub begun : waiting_execution ≤ x.code → d ≡ true
  pub past : x.dispatched ≤ now
  pub missed : x.missed ≤ now
  pub missed_before : waiting_execution ≤ x.code → x.missed ≤ x.dispatched

-- its variables
pub record JobShown (m : Timing) (d : Bool) (now : ℕ) (x : Job) (v : List Value) (t : ℕ) : Type 0 where
  pub active : value_of v (active_var t) ≡ natural (bit x.active)
  pub code : value_of v (state_var t) ≡ natural x.code
  pub dispatched : value_of v (dispatch_var t) ≡ natural x.dispatched
  pub due : t < m.threads → d ≡ true → value_of v (due_var t) ≡ natural (x.dispatched + (thread_at m t).deadline.0)
  pub no_due : m.threads ≤ t → value_of v (due_var t) ≡ natural 0
  pub end : t < m.threads → x.code ≡ execution → value_of v (end_var t) ≡ natural (now + (x.long - x.spent))
  pub no_end : m.threads ≤ t → value_of v (end_var t) ≡ natural 0
  pub behavior : value_of v (behavior_var t) ≡ natural x.behavior
  pub missed : value_of v (missed_var t) ≡ natural x.missed
  pub blank : m.threads ≤ t → JobBlank x
  pub reached : JobReached d now x

pub record ThreadsSized (x : Threads) : Type 0 where
  pub active : length x.active ≡ max_threads
  pub code : length x.code ≡ max_threads
  pub dispatched : length x.dispatched ≡ max_threads
  pub long : length x.length ≡ max_threads
  pub spent : length x.spent ≡ max_threads
  pub behavior : length x.behavior ≡ max_threads
  pub missed : length x.missed ≡ max_threads

abbrev pub flag_of : Bool → Value
flag_of b = natural (bit b)

abbrev pub LiveShown : Timing → List Bool → List Value → Type 0
LiveShown m l v = Column flag_of false (flag_var 0) max_connections m.connections l v

abbrev pub ValuesShown : ℕ → ℕ → ℕ → List Value → List Value → Type 0
ValuesShown base room count l v = Column (λ x. x) (natural 0) base room count l v

pub record PortsShown (m : Timing) (p : Ports) (v : List Value) : Type 0 where
  pub input : ValuesShown (input_var 0) max_inputs m.inputs p.input v
  pub buffer : ValuesShown (buffer_var 0) max_inputs m.inputs p.buffer v
  pub output : ValuesShown (output_var 0) max_outputs m.outputs p.output v
  pub local : ValuesShown (local_var 0) max_locals m.locals p.local v

pub record InParts (m : Timing) (d : Dispatched) (s : State) (v : List Value) : Type 0 where
  pub size : length v ≡ variables
  pub ticks : now_of s ≤ last_clock
  pub clock : ClockShown s.clock v
  pub sized : ThreadsSized s.threads
  pub jobs : (t : ℕ) → t < max_threads → JobShown m (d t) (now_of s) (job_of s t) v t
  pub live : LiveShown m s.live v
  pub ports : PortsShown m s.ports v

-- ---- the invariant, taken apart
pub in_parts : (m : Timing) (d : Dispatched) (s : State) (v : List Value) → Match m d s v → InParts m d s v
unfolding due_of is_active code_of dispatch_time length_of spent_of behavior_of missed_of is_live input_value buffer_value output_value local_value
in_parts m d s v h = record {
  size = h.size;
  ticks = h.reached.clock;
  clock = record { now = h.now; mode = h.mode; phase = h.phase; pending = h.pending; entered = h.entered; cpu = h.cpu; spare = h.spare };
  sized = record {
    active = h.sized.active;
    code = h.sized.code;
    dispatched = h.sized.dispatched;
    long = h.sized.long;
    spent = h.sized.spent;
    behavior = h.sized.behavior;
    missed = h.sized.missed;
  };
  jobs = λ t l. record {
    active = h.active t l;
    code = h.code t l;
    dispatched = h.dispatched t l;
    due = h.due t;
    no_due = h.no_due t l;
    end = h.end t;
    no_end = h.no_end t l;
    behavior = h.behavior t l;
    missed = h.missed t l;
    blank = λ b. record {
      active = h.blank.active t b;
      code = h.blank.code t b;
      dispatched = h.blank.dispatched t b;
      behavior = h.blank.behavior t b;
      missed = h.blank.missed t b;
    };
    reached = record {
      codes = h.reached.codes t;
      ran = h.reached.ran t;
      long = h.reached.long t;
      begun = h.reached.begun t;
      past = h.reached.past t;
      missed = h.reached.missed t;
      missed_before = h.reached.missed_before t;
    };
  };
  live = record { sized = h.sized.live; blank = h.blank.live; shows = h.flag };
  ports = record {
    input = record { sized = h.sized.input; blank = h.blank.input; shows = h.input };
    buffer = record { sized = h.sized.buffer; blank = h.blank.buffer; shows = h.buffer };
    output = record { sized = h.sized.output; blank = h.blank.output; shows = h.output };
    local = record { sized = h.sized.local; blank = h.blank.local; shows = h.local };
  };
}

-- ---- and put together: a thread past the room is blank
past_job : (s : State) (t : ℕ) → max_threads ≤ t → job_of s t ≡ record { active = false; code = 0; dispatched = 0; long = 0; spent = 0; behavior = 0; missed = 0 }
unfolding is_active code_of dispatch_time length_of spent_of behavior_of missed_of
past_job s t l = rw (dispatch_time, length_of, spent_of, le-ltb t max_threads l)

module _ (m : Timing) (d : Dispatched) (s : State) (v : List Value) (few : m.threads ≤ max_threads) (h : InParts m d s v) where
  pub job_blank : (t : ℕ) → m.threads ≤ t → JobBlank (job_of s t)
  job_blank t b = go (dec_lt t max_threads)
    where
      go : Dec (t < max_threads) → JobBlank (job_of s t)
      go (yes l) = (h.jobs t l).blank b
      go (no l) = rw (past_job s t (omega arith)) (record { active = refl; code = refl; dispatched = refl; behavior = refl; missed = refl })

  job_reached : (t : ℕ) → JobReached (d t) (now_of s) (job_of s t)
  job_reached t = go (dec_lt t max_threads)
    where
      go : Dec (t < max_threads) → JobReached (d t) (now_of s) (job_of s t)
      go (yes l) = (h.jobs t l).reached
      go (no l) = rw (past_job s t (omega arith)) (record {
        codes = omega arith;
        ran = λ e. omega arith;
        long = λ e. omega arith;
        begun = λ e. absurd (omega arith);
        past = omega arith;
        missed = omega arith;
        missed_before = λ e. omega arith;
      })

  pub whole : Match m d s v
  unfolding due_of is_live input_value buffer_value output_value local_value
  whole = record {
    size = h.size;
    sized = record {
      active = h.sized.active;
      code = h.sized.code;
      dispatched = h.sized.dispatched;
      long = h.sized.long;
      spent = h.sized.spent;
      behavior = h.sized.behavior;
      missed = h.sized.missed;
      live = h.live.sized;
      input = h.ports.input.sized;
      buffer = h.ports.buffer.sized;
      output = h.ports.output.sized;
      local = h.ports.local.sized;
    };
    blank = record {
      active = λ t b. (job_blank t b).active;
      code = λ t b. (job_blank t b).code;
      dispatched = λ t b. (job_blank t b).dispatched;
      behavior = λ t b. (job_blank t b).behavior;
      missed = λ t b. (job_blank t b).missed;
      live = h.live.blank;
      input = h.ports.input.blank;
      buffer = h.ports.buffer.blank;
      output = h.ports.output.blank;
      local = h.ports.local.blank;
    };
    reached = record {
      clock = h.ticks;
      codes = λ t. (job_reached t).codes;
      ran = λ t. (job_reached t).ran;
      long = λ t. (job_reached t).long;
      begun = λ t. (job_reached t).begun;
      past = λ t. (job_reached t).past;
      missed = λ t. (job_reached t).missed;
      missed_before = λ t. (job_reached t).missed_before;
    };
    now = h.clock.now;
    mode = h.clock.mode;
    phase = h.clock.phase;
    pending = h.clock.pending;
    entered = h.clock.entered;
    cpu = h.clock.cpu;
    spare = h.clock.spare;
    active = λ t l. (h.jobs t l).active;
    code = λ t l. (h.jobs t l).code;
    dispatched = λ t l. (h.jobs t l).dispatched;
    due = λ t l. (h.jobs t (omega arith)).due l;
    no_due = λ t l. (h.jobs t l).no_due;
    end = λ t l. (h.jobs t (omega arith)).end l;
    no_end = λ t l. (h.jobs t l).no_end;
    behavior = λ t l. (h.jobs t l).behavior;
    missed = λ t l. (h.jobs t l).missed;
    flag = h.live.shows;
    input = h.ports.input.shows;
    buffer = h.ports.buffer.shows;
    output = h.ports.output.shows;
    local = h.ports.local.shows;
  }

-- ---- what an event is to do: no target is written twice, and the variables written stand for the state after it
pub record Does (m : Timing) (d : Dispatched) (s : State) (n : ℕ) (v : List Value) (us : List Update) : Type 0 where
  pub consistent : inconsistent (writes n v us) ≡ false
  pub matches : Match m d s (written (writes n v us) v)

-- the updates of the first body
unfoldable pub first_updates : List Body → List Update
first_updates [] = []
first_updates (b ∷ l) = b.updates

-- ---- parts that are kept
pub clock_kept : {c : Clock} {v w : List Value} → ClockShown c v → ((j : ℕ) → j < active_var 0 → value_of w j ≡ value_of v j) → ClockShown c w
clock_kept h k = record {
  now = k now_var (omega arith) ∙ h.now;
  mode = k mode_var (omega arith) ∙ h.mode;
  phase = k phase_var (omega arith) ∙ h.phase;
  pending = k pending_var (omega arith) ∙ h.pending;
  entered = k entered_var (omega arith) ∙ h.entered;
  cpu = k cpu_var (omega arith) ∙ h.cpu;
  spare = λ j l. k (clock_vars + j) (omega arith) ∙ h.spare j l;
}

pub ports_kept : {m : Timing} {p : Ports} {v w : List Value} → PortsShown m p v →
    ((j : ℕ) → input_var 0 ≤ j → j < variables → value_of w j ≡ value_of v j) → PortsShown m p w
ports_kept h k = record {
  input = column_kept h.input (λ i l. k (input_var i) (omega arith) (omega arith));
  buffer = column_kept h.buffer (λ i l. k (buffer_var i) (omega arith) (omega arith));
  output = column_kept h.output (λ i l. k (output_var i) (omega arith) (omega arith));
  local = column_kept h.local (λ i l. k (local_var i) (omega arith) (omega arith));
}

-- the variables of thread t
abbrev pub SameJob : List Value → List Value → ℕ → Type 0
SameJob v w t = (k : ℕ) → 1 ≤ k → k ≤ thread_columns → value_of w (thread_var k t) ≡ value_of v (thread_var k t)

pub job_kept : {m : Timing} {d : Bool} {now : ℕ} {x : Job} {v w : List Value} {t : ℕ} → JobShown m d now x v t → SameJob v w t → JobShown m d now x w t
job_kept h k = record {
  active = k 1 (omega arith) (omega arith) ∙ h.active;
  code = k 2 (omega arith) (omega arith) ∙ h.code;
  dispatched = k 3 (omega arith) (omega arith) ∙ h.dispatched;
  due = λ l e. k 4 (omega arith) (omega arith) ∙ h.due l e;
  no_due = λ l. k 4 (omega arith) (omega arith) ∙ h.no_due l;
  end = λ l e. k 5 (omega arith) (omega arith) ∙ h.end l e;
  no_end = λ l. k 5 (omega arith) (omega arith) ∙ h.no_end l;
  behavior = k 6 (omega arith) (omega arith) ∙ h.behavior;
  missed = k 7 (omega arith) (omega arith) ∙ h.missed;
  blank = h.blank;
  reached = h.reached;
}

-- ---- arrays of the threads, changed at thread t alone
pub data Touched {A : Type 0} (t : ℕ) (l : List A) : List A → Type 0 where
  same : Touched t l l
  put : (a : A) → Touched t l (store max_threads l t a)

pub record ThreadsTouched (t : ℕ) (x y : Threads) : Type 0 where
  pub active : Touched t x.active y.active
  pub code : Touched t x.code y.code
  pub dispatched : Touched t x.dispatched y.dispatched
  pub long : Touched t x.length y.length
  pub spent : Touched t x.spent y.spent
  pub behavior : Touched t x.behavior y.behavior
  pub missed : Touched t x.missed y.missed

touched_length : {A : Type 0} (t : ℕ) {l r : List A} → Touched t l r → length r ≡ length l
touched_length t same = refl
touched_length t {l} (put a) = length_store max_threads l t a

touched_other : {A : Type 0} (t u : ℕ) (d : A) {l r : List A} → Touched t l r → (u ≡ t → ⊥) → item max_threads r u d ≡ item max_threads l u d
touched_other t u d same n = refl
touched_other t u d {l} (put a) n = item_store_other max_threads l t u a d n

module _ (t : ℕ) (s r : State) (h : ThreadsTouched t s.threads r.threads) where
  pub touched_sized : ThreadsSized s.threads → ThreadsSized r.threads
  touched_sized z = record {
    active = touched_length t h.active ∙ z.active;
    code = touched_length t h.code ∙ z.code;
    dispatched = touched_length t h.dispatched ∙ z.dispatched;
    long = touched_length t h.long ∙ z.long;
    spent = touched_length t h.spent ∙ z.spent;
    behavior = touched_length t h.behavior ∙ z.behavior;
    missed = touched_length t h.missed ∙ z.missed;
  }

  other_job : (u : ℕ) → (u ≡ t → ⊥) → job_of r u ≡ job_of s u
  unfolding is_active code_of dispatch_time length_of spent_of behavior_of missed_of
  other_job u n = λ i. record {
    active = touched_other t u false h.active n i;
    code = touched_other t u 0 h.code n i;
    dispatched = (touched_other t u (duration 0) h.dispatched n i).0;
    long = (touched_other t u (duration 0) h.long n i).0;
    spent = (touched_other t u (duration 0) h.spent n i).0;
    behavior = touched_other t u 0 h.behavior n i;
    missed = touched_other t u 0 h.missed n i;
  }

  pub jobs_touched : (m : Timing) (d e : Dispatched) (now : ℕ) (v w : List Value) →
      ((u : ℕ) → u < max_threads → JobShown m (d u) now (job_of s u) v u) →
      ((u : ℕ) → u < max_threads → (u ≡ t → ⊥) → SameJob v w u) → ((u : ℕ) → (u ≡ t → ⊥) → e u ≡ d u) →
      JobShown m (e t) now (job_of r t) w t → (u : ℕ) → u < max_threads → JobShown m (e u) now (job_of r u) w u
  jobs_touched m d e now v w j k q z u l = go (ℕ_discrete u t)
    where
      go : Dec (u ≡ t) → JobShown m (e u) now (job_of r u) w u
      go (yes p) = rw p z
      go (no n) = rw (other_job u n, q u n) (job_kept (j u l) (k u l n))

-- ---- a variable that the updates miss
pub kept : (n : ℕ) (v : List Value) (us : List Update) → length v ≡ variables → (j : ℕ) → j < variables → Misses j us →
    value_of (written (writes n v us) v) j ≡ value_of v j
kept n v us z j l k = value_written n v us v j z l ∙ updated_miss n v j us (value_of v j) k

-- the processor alone
pub cpu_set : {c : Clock} {v w : List Value} (cpu : ℕ) → ClockShown c v → ((j : ℕ) → j < active_var 0 → (j ≡ cpu_var → ⊥) → value_of w j ≡ value_of v j) → value_of w cpu_var ≡ natural cpu →
    ClockShown (record { now = c.now; entered = c.entered; mode = c.mode; phase = c.phase; pending = c.pending; cpu = cpu }) w
cpu_set cpu h k e = record {
  now = k now_var (omega arith) (λ q. omega arith) ∙ h.now;
  mode = k mode_var (omega arith) (λ q. omega arith) ∙ h.mode;
  phase = k phase_var (omega arith) (λ q. omega arith) ∙ h.phase;
  pending = k pending_var (omega arith) (λ q. omega arith) ∙ h.pending;
  entered = k entered_var (omega arith) (λ q. omega arith) ∙ h.entered;
  cpu = e;
  spare = λ j l. k (clock_vars + j) (omega arith) (λ q. omega arith) ∙ h.spare j l;
}

-- ---- an event of thread t, from state s to state r, with the updates us; d and e tell the threads dispatched before and after
abbrev pub afterwards : ℕ → List Value → List Update → List Value
afterwards n v us = written (writes n v us) v

pub record ThreadEvent (m : Timing) (d e : Dispatched) (s r : State) (v : List Value) (n t : ℕ) (us : List Update) : Type 0 where
  pub apart : Apart us
  pub touched : ThreadsTouched t s.threads r.threads
  pub live : r.live ≡ s.live
  pub now : now_of r ≡ now_of s
  pub others : (u : ℕ) → u < max_threads → (u ≡ t → ⊥) → (k : ℕ) → 1 ≤ k → k ≤ thread_columns → Misses (thread_var k u) us
  pub flags : (c : ℕ) → c < max_connections → Misses (flag_var c) us
  pub known : (u : ℕ) → (u ≡ t → ⊥) → e u ≡ d u
  pub clock : ClockShown r.clock (afterwards n v us)
  pub job : JobShown m (e t) (now_of s) (job_of r t) (afterwards n v us) t
  pub ports : PortsShown m r.ports (afterwards n v us)

pub thread_does : (m : Timing) (d e : Dispatched) (s r : State) (v : List Value) (n t : ℕ) (us : List Update) → m.threads ≤ max_threads → InParts m d s v →
    ThreadEvent m d e s r v n t us → Does m e r n v us
unfolding is_active code_of dispatch_time length_of spent_of behavior_of missed_of
thread_does m d e s r v n t us few h x = record {
  consistent = apart_consistent n v us x.apart;
  matches = whole m e r (afterwards n v us) few (record {
    size = length_written (writes n v us) v ∙ h.size;
    ticks = rw x.now h.ticks;
    clock = x.clock;
    sized = touched_sized t s r x.touched h.sized;
    jobs = rw x.now (jobs_touched t s r x.touched m d e (now_of s) v (afterwards n v us) h.jobs
        (λ u b z k p q. kept n v us h.size (thread_var k u) (omega arith) (x.others u b z k p q)) x.known x.job);
    live = rw x.live (column_kept h.live (λ c b. kept n v us h.size (flag_var c) (omega arith) (x.flags c b)));
    ports = x.ports;
  });
}

-- ---- a thread whose job does not run after the event: what its variables show of it; End stands for nothing
pub still_shown : (m : Timing) (d : Bool) (now : ℕ) (x : Job) (w : List Value) (t : ℕ) → t < m.threads → (x.code ≡ execution → ⊥) → x.code ≤ last_code →
    (waiting_execution ≤ x.code → d ≡ true) → (waiting_execution ≤ x.code → x.missed ≤ x.dispatched) → x.dispatched ≤ now → x.missed ≤ now →
    value_of w (active_var t) ≡ natural (bit x.active) → value_of w (state_var t) ≡ natural x.code → value_of w (dispatch_var t) ≡ natural x.dispatched →
    (d ≡ true → value_of w (due_var t) ≡ natural (x.dispatched + (thread_at m t).deadline.0)) →
    value_of w (behavior_var t) ≡ natural x.behavior → value_of w (missed_var t) ≡ natural x.missed → JobShown m d now x w t
still_shown m d now x w t l r c b f p q active code dispatched due behavior missed = record {
  active = active;
  code = code;
  dispatched = dispatched;
  due = λ b. due;
  no_due = λ b. absurd (omega arith);
  end = λ b e. absurd (r e);
  no_end = λ b. absurd (omega arith);
  behavior = behavior;
  missed = missed;
  blank = λ b. absurd (omega arith);
  reached = record { codes = c; ran = λ e. absurd (r e); long = λ e. absurd (r e); begun = b; past = p; missed = q; missed_before = f };
}

-- ---- both of two tests
pub and_left : (a b : Bool) → (a && b) ≡ true → a ≡ true
and_left true b e = refl
and_left false b e = e

pub and_right : (a b : Bool) → (a && b) ≡ true → b ≡ true
and_right true b e = e
and_right false b e = absurd (mathlib.Core.Bool.false≢true e)

-- ---- "once dispatched": the invariant asks of it at each thread only, so it may be told in other words
abbrev pub also_dispatched : Dispatched → ℕ → Dispatched
also_dispatched d t u = d u || eqb t u

pub after_dispatch : (d : Dispatched) (e : Event) → e.kind ≡ dispatch_kind → (t : ℕ) → and_after d e None t ≡ also_dispatched d e.id t
unfolding number_of
after_dispatch d e k t = rw k

pub after_other : (d : Dispatched) (e : Event) (c : Cause) → (e.kind ≡ dispatch_kind → ⊥) → (t : ℕ) → and_after d e c t ≡ d t
after_other d e c k t = rw (ne_eqb e.kind dispatch_kind k) (go (is_none c) ∙ or-false (d t))
  where
    go : (b : Bool) → (d t || (b && false)) ≡ (d t || false)
    go true = refl
    go false = refl

pub after_refused : (d : Dispatched) (e : Event) (c : Cause) → is_none c ≡ false → (t : ℕ) → and_after d e c t ≡ d t
after_refused d e c k t = rw k (or-false (d t))
