-- A job ends, in COMPLETE and in MISS: the code, the processor, Length and Spent, once; what else an event changes of the thread is its own.
use Rattle.std.specs.Prelude.{◌≡◌, refl, true, List, ℕ, ◌<◌, ◌≤◌}
use Rattle.std.proofs.Common.{◌∙◌, arith}
use Rattle.numbers.specs.declared.Value.{Value}
use Rattle.numbers.specs.Lists.{item, store}
use Rattle.numbers.specs.ListLaws.{item_store_same}
use Rattle.numbers.specs.Values.{duration, natural}
use Rattle.model_format.specs.declared.Timing.{Timing}
use Rattle.model_format.specs.Model.{max_threads}
use Rattle.model_format.specs.WellFormed.{GoodTiming}
use Rattle.model_semantics.specs.declared.Ports.{Ports}
use Rattle.model_semantics.specs.declared.State.{State}
use Rattle.model_semantics.specs.State.{is_active, code_of, dispatch_time, length_of, spent_of, behavior_of, missed_of, now_of}
use Rattle.model_semantics.specs.Tests.{waiting_execution, execution, last_code}
use Rattle.table_format.specs.declared.Update.{Update}
use Rattle.table_format.specs.Variables.{cpu_var, active_var, state_var, dispatch_var, due_var, end_var, behavior_var, missed_var, flag_var, input_var, thread_var}
use Rattle.table_semantics.specs.Rules.{value_of}
use Rattle.simulation.specs.Compared.{Dispatched}
use Rattle.simulation.specs.Writes.{Misses, Apart}
use Rattle.simulation.specs.Effects.{Does, InParts, ThreadsSized, JobShown, PortsShown, job_of, Touched, same, put, afterwards, kept, cpu_set, thread_does, still_shown}

-- the state after it: thread t has the code given and no job that runs, the processor's variable is told, and the event has put its own
-- behaviour states, counts of missed deadlines and ports in place
abbrev pub ended : State → ℕ → ℕ → ℕ → List ℕ → List ℕ → Ports → State
ended s t code cpu behavior missed p = record {
  clock = record { now = s.clock.now; entered = s.clock.entered; mode = s.clock.mode; phase = s.clock.phase; pending = s.clock.pending; cpu = cpu };
  threads = record {
    active = s.threads.active;
    code = store max_threads s.threads.code t code;
    dispatched = s.threads.dispatched;
    length = store max_threads s.threads.length t (duration 0);
    spent = store max_threads s.threads.spent t (duration 0);
    behavior = behavior;
    missed = missed;
  };
  live = s.live;
  ports = p;
}

-- what its updates are to do: to and count are the behaviour state and the missed deadlines of the thread afterwards
pub record JobEnds (m : Timing) (d : Dispatched) (s : State) (v : List Value) (n t code cpu to count : ℕ) (behavior missed : List ℕ) (p : Ports) (us : List Update) : Type 0 where
  pub stopped : code ≡ execution → ⊥
  pub known : code ≤ last_code
  pub begun : waiting_execution ≤ code → d t ≡ true
  pub before : waiting_execution ≤ code → count ≤ dispatch_time s t
  pub counted : count ≤ now_of s
  pub states : Touched t s.threads.behavior behavior
  pub state : item max_threads behavior t 0 ≡ to
  pub counts : Touched t s.threads.missed missed
  pub counter : item max_threads missed t 0 ≡ count
  pub apart : Apart us
  -- below the ports nothing else is written
  pub misses : (j : ℕ) → j < input_var 0 → (j ≡ state_var t → ⊥) × (j ≡ cpu_var → ⊥) × (j ≡ end_var t → ⊥) × (j ≡ behavior_var t → ⊥) × (j ≡ missed_var t → ⊥) → Misses j us
  pub code_shown : value_of (afterwards n v us) (state_var t) ≡ natural code
  pub cpu_shown : value_of (afterwards n v us) cpu_var ≡ natural cpu
  pub behavior_shown : value_of (afterwards n v us) (behavior_var t) ≡ natural to
  pub missed_shown : value_of (afterwards n v us) (missed_var t) ≡ natural count
  pub ports : PortsShown m p (afterwards n v us)

module _ (m : Timing) (g : GoodTiming m) (d : Dispatched) (s : State) (v : List Value) (h : InParts m d s v) (n t : ℕ) (l : t < m.threads)
    (code cpu to count : ℕ) (behavior missed : List ℕ) (p : Ports) (us : List Update) (x : JobEnds m d s v n t code cpu to count behavior missed p us) where
  abbrev later : State
  later = ended s t code cpu behavior missed p

  ended_job : job_of later t ≡ record {
    active = is_active s t;
    code = code;
    dispatched = dispatch_time s t;
    long = 0;
    spent = 0;
    behavior = to;
    missed = count;
  }
  unfolding is_active code_of dispatch_time length_of spent_of behavior_of missed_of
  ended_job =
      let few : m.threads ≤ max_threads = g.threads in
      let a : ThreadsSized s.threads = h.sized in
      rw (
        length_of,
        spent_of,
        item_store_same max_threads s.threads.code t code 0 (omega arith) (omega arith),
        item_store_same max_threads s.threads.length t (duration 0) (duration 0) (omega arith) (omega arith),
        item_store_same max_threads s.threads.spent t (duration 0) (duration 0) (omega arith) (omega arith),
        x.state,
        x.counter,
      )

  same_there : (j : ℕ) → j < input_var 0 → (j ≡ state_var t → ⊥) × (j ≡ cpu_var → ⊥) × (j ≡ end_var t → ⊥) × (j ≡ behavior_var t → ⊥) × (j ≡ missed_var t → ⊥) →
      value_of (afterwards n v us) j ≡ value_of v j
  same_there j b a = kept n v us h.size j (omega arith) (x.misses j b a)

  ended_shown : JobShown m (d t) (now_of s) (job_of later t) (afterwards n v us) t
  ended_shown =
      let few : m.threads ≤ max_threads = g.threads in
      let y : JobShown m (d t) (now_of s) (job_of s t) v t = h.jobs t (omega arith) in
      rw ended_job (still_shown m (d t) (now_of s) _ (afterwards n v us) t l x.stopped x.known x.begun x.before y.reached.past x.counted
      (same_there (active_var t) (omega arith) (omega arith) ∙ y.active)
      x.code_shown
      (same_there (dispatch_var t) (omega arith) (omega arith) ∙ y.dispatched)
      (λ e. same_there (due_var t) (omega arith) (omega arith) ∙ y.due l e)
      x.behavior_shown
      x.missed_shown)

  pub ends_does : Does m d later n v us
  ends_does =
      let few : m.threads ≤ max_threads = g.threads in
      thread_does m d d s later v n t us few h (record {
        apart = x.apart;
        touched = record { active = same; code = put code; dispatched = same; long = put (duration 0); spent = put (duration 0); behavior = x.states; missed = x.counts };
        live = refl;
        now = refl;
        others = λ u b a i y z. x.misses (thread_var i u) (omega arith) (omega arith);
        flags = λ c b. x.misses (flag_var c) (omega arith) (omega arith);
        known = λ u a. refl;
        clock = cpu_set cpu h.clock (λ j b a. same_there j (omega arith) (λ e. omega arith, a, λ e. omega arith, λ e. omega arith, λ e. omega arith)) x.cpu_shown;
        job = ended_shown;
        ports = x.ports;
      })
