-- ACTIVATE, REQUEST, and a code without a job.
use Rattle.std.specs.Prelude.{◌≡◌, refl, Bool, cond, ℕ, ◌+◌, ◌<◌, ◌≤◌}
use Rattle.std.proofs.Common.{◌∙◌}
use Rattle.std.proofs.Math.Bool.{true, false}
use mathlib.Core.List.{List, [], ◌∷◌}
use native.Mathlib.Omega.{arith}
use Rattle.numbers.specs.declared.Value.{Value}
use Rattle.numbers.specs.ListLaws.{item_store_same}
use Rattle.model_format.specs.declared.Timing.{Timing}
use Rattle.model_format.specs.Model.{max_threads, switch_at}
use Rattle.model_format.specs.WellFormed.{GoodTiming}
use Rattle.model_semantics.specs.declared.Ports.{Ports}
use Rattle.model_semantics.specs.declared.State.{State}
use Rattle.model_semantics.specs.State.{is_active, code_of, dispatch_time, length_of, spent_of, behavior_of, missed_of, now_of, with_ports, with_phase, with_code}
use Rattle.model_semantics.specs.Tests.{waiting_dispatch, waiting_execution}
use Rattle.model_semantics.specs.Effects.{request}
use Rattle.table_format.specs.declared.Update.{Update}
use Rattle.table_format.specs.Variables.{variables, now_var, mode_var, phase_var, pending_var, entered_var, cpu_var, active_var, state_var, dispatch_var, due_var, behavior_var, missed_var, flag_var, clock_vars, input_room, thread_var, buffer_var}
use Rattle.table_semantics.specs.Rules.{value_of, writes, inconsistent, written}
use Rattle.translation.specs.Parts.{constant, copied, set_to}
use Rattle.translation.specs.Rules.{activate_rules, request_granted, request_ignored}
use Rattle.simulation.specs.Compared.{Dispatched}
use Rattle.simulation.specs.Match.{Match}
use Rattle.simulation.specs.GuardSimple.{takes_request, request_rule}
use Rattle.simulation.specs.Writes.{value_written, updated_here, updated_there, length_written, constant_worth, Misses, Apart, Within, apart_consistent, misses_within, column_kept, NotBuffer}
use Rattle.simulation.specs.Effects.{Does, first_updates, InParts, ThreadsSized, JobShown, PortsShown, job_of, same, put, in_parts, whole, afterwards, kept, clock_kept, ports_kept, job_kept, thread_does, still_shown}

module _ (m : Timing) (g : GoodTiming m) (d : Dispatched) (s : State) (v : List Value) (h : InParts m d s v) (n : ℕ) where
  -- a code below 2, which no job has; the rest of the updates fills buffers, and p are the ports afterwards
  module _ (t : ℕ) (l : t < m.threads) (c : ℕ) (small : c < waiting_execution) (rest : List Update) (inside : Within (buffer_var 0) (buffer_var input_room) rest) (p : Ports) where
    abbrev changes : List Update
    changes = set_to (state_var t) c ∷ rest

    abbrev after : List Value
    after = afterwards n v changes

    abbrev later : State
    later = with_ports (with_code s t c) p

    rest_missed : (j : ℕ) → NotBuffer j → Misses j rest
    rest_missed j b = misses_within (buffer_var 0) (buffer_var input_room) j rest inside b

    pub code_kept : (j : ℕ) → j < variables → (j ≡ state_var t → ⊥) → NotBuffer j → value_of after j ≡ value_of v j
    unfolding Misses
    code_kept j b a e = kept n v changes h.size j b (a, rest_missed j e)

    code_job : job_of later t ≡ record {
      active = is_active s t;
      code = c;
      dispatched = dispatch_time s t;
      long = length_of s t;
      spent = spent_of s t;
      behavior = behavior_of s t;
      missed = missed_of s t;
    }
    unfolding with_ports with_code is_active code_of dispatch_time length_of spent_of behavior_of missed_of
    code_job =
        let few : m.threads ≤ max_threads = g.threads in
        let a : ThreadsSized s.threads = h.sized in
        rw (item_store_same max_threads s.threads.code t c 0 (omega arith) (omega arith))

    code_shown_lem : JobShown m (d t) (now_of s) (job_of later t) after t
    code_shown_lem =
        let few : m.threads ≤ max_threads = g.threads in
        let x : JobShown m (d t) (now_of s) (job_of s t) v t = h.jobs t (omega arith) in
        rw code_job (still_shown m (d t) (now_of s) _ after t l (λ e. omega arith) (omega arith) (λ e. absurd (omega arith)) (λ e. absurd (omega arith)) x.reached.past x.reached.missed
        (code_kept (active_var t) (omega arith) (omega arith) (omega arith) ∙ x.active)
        (value_written n v changes v (state_var t) h.size (omega arith) ∙
        (updated_here n v (state_var t) (copied (constant c)) rest _ (rest_missed (state_var t) (omega arith)) ∙ constant_worth n v c))
        (code_kept (dispatch_var t) (omega arith) (omega arith) (omega arith) ∙ x.dispatched)
        (λ e. code_kept (due_var t) (omega arith) (omega arith) (omega arith) ∙ x.due l e)
        (code_kept (behavior_var t) (omega arith) (omega arith) (omega arith) ∙ x.behavior)
        (code_kept (missed_var t) (omega arith) (omega arith) (omega arith) ∙ x.missed))

    pub code_does : Apart rest → PortsShown m p after → Does m d later n v changes
    unfolding with_ports with_code Misses Apart
    code_does apart ports =
        let few : m.threads ≤ max_threads = g.threads in
        thread_does m d d s later v n t changes few h (record {
          apart = (rest_missed (state_var t) (omega arith), apart);
          touched = record { active = same; code = put c; dispatched = same; long = same; spent = same; behavior = same; missed = same };
          live = refl;
          now = refl;
          others = λ u b a k y z. (λ e. omega arith, rest_missed (thread_var k u) (omega arith));
          flags = λ i b. (λ e. omega arith, rest_missed (flag_var i) (omega arith));
          known = λ u a. refl;
          clock = clock_kept h.clock (λ j b. code_kept j (omega arith) (omega arith) (omega arith));
          job = code_shown_lem;
          ports = ports;
        })

  pub plain_code_does : (t : ℕ) → t < m.threads → (c : ℕ) → c < waiting_execution → Does m d (with_code s t c) n v (set_to (state_var t) c ∷ [])
  unfolding with_ports with_code Within Misses Apart
  plain_code_does t l c small =
      let few : m.threads ≤ max_threads = g.threads in
      code_does t l c small [] tt s.ports tt (ports_kept h.ports (λ j a b. kept n v (set_to (state_var t) c ∷ []) h.size j b (omega arith)))

  -- REQUEST where it counts: two variables of the clock
  module _ (q : ℕ) where
    abbrev requested : List Update
    requested = set_to phase_var 1 ∷ set_to pending_var q ∷ []

    abbrev phased : List Value
    phased = afterwards n v requested

    phase_kept : (j : ℕ) → j < variables → (j ≡ phase_var → ⊥) × (j ≡ pending_var → ⊥) → value_of phased j ≡ value_of v j
    unfolding Misses
    phase_kept j b a = kept n v requested h.size j b (a.0, (a.1, tt))

    phase_match : InParts m d (with_phase s 1 q) phased
    unfolding with_phase Misses is_active code_of dispatch_time length_of spent_of behavior_of missed_of
    phase_match = record {
      size = length_written (writes n v requested) v ∙ h.size;
      ticks = h.ticks;
      clock = record {
        now = phase_kept now_var (omega arith) (omega arith) ∙ h.clock.now;
        mode = phase_kept mode_var (omega arith) (omega arith) ∙ h.clock.mode;
        phase = value_written n v requested v phase_var h.size (omega arith) ∙ (updated_here n v phase_var (copied (constant 1)) (set_to pending_var q ∷ []) _ (omega arith) ∙ constant_worth n v 1);
        pending = value_written n v requested v pending_var h.size (omega arith) ∙
            (updated_there n v pending_var (set_to phase_var 1) (set_to pending_var q ∷ []) _ (λ e. omega arith) ∙ (updated_here n v pending_var (copied (constant q)) [] _ tt ∙ constant_worth n v q));
        entered = phase_kept entered_var (omega arith) (omega arith) ∙ h.clock.entered;
        cpu = phase_kept cpu_var (omega arith) (omega arith) ∙ h.clock.cpu;
        spare = λ j b. phase_kept (clock_vars + j) (omega arith) (omega arith) ∙ h.clock.spare j b;
      };
      sized = h.sized;
      jobs = λ t b. job_kept (h.jobs t b) (λ i a z. phase_kept (thread_var i t) (omega arith) (omega arith));
      live = column_kept h.live (λ j b. phase_kept (flag_var j) (omega arith) (omega arith));
      ports = ports_kept h.ports (λ j b e. phase_kept j e (omega arith));
    }

    phase_does : Does m d (with_phase s 1 q) n v requested
    unfolding Apart Misses
    phase_does = record { consistent = apart_consistent n v requested (omega arith); matches = whole m d (with_phase s 1 q) phased g.threads phase_match }

module _ (m : Timing) (g : GoodTiming m) (d : Dispatched) (s : State) (v : List Value) (h : Match m d s v) (n : ℕ) where
  pub activate_does : (t : ℕ) → t < m.threads → Does m d (with_code s t waiting_dispatch) n v (first_updates (activate_rules m t))
  unfolding first_updates activate_rules
  activate_does t l = plain_code_does m g d s v (in_parts m d s v h) n t l waiting_dispatch (omega arith)

  -- the second rule of REQUEST updates nothing: "otherwise ignored, yet taken"
  pub request_does : (q : ℕ) → Does m d (request m s q) n v (request_rule m s q).updates
  unfolding request writes inconsistent written
  request_does q = go (takes_request m s q)
    where
      go : (b : Bool) → Does m d (cond b (with_phase s 1 q) s) n v (cond b (request_granted q (switch_at m q).from) (request_ignored (switch_at m q).from)).updates
      go true = phase_does m g d s v (in_parts m d s v h) n q
      go false = record { consistent = refl; matches = h }
