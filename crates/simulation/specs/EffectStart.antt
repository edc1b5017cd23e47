-- START.
use Rattle.std.specs.Prelude.{◌≡◌, refl, List, ◌∷◌, ℕ, ◌<◌, ◌≤◌}
use Rattle.std.proofs.Common.{◌∙◌}
use Rattle.std.proofs.Math.Path.{ap}
use Rattle.std.proofs.Math.Bool.{true}
use native.Mathlib.Omega.{arith}
use Rattle.numbers.specs.declared.Value.{Value}
use Rattle.numbers.specs.ListLaws.{item_store_same}
use Rattle.numbers.specs.Values.{duration, natural}
use Rattle.records.specs.Events.{last_clock}
use Rattle.model_format.specs.declared.Timing.{Timing}
use Rattle.model_format.specs.Model.{max_threads, thread_at}
use Rattle.model_format.specs.Reading.{longest_time}
use Rattle.model_format.specs.WellFormed.{GoodTiming, GoodThread}
use Rattle.model_semantics.specs.declared.State.{State}
use Rattle.model_semantics.specs.State.{is_active, code_of, dispatch_time, length_of, spent_of, behavior_of, missed_of, now_of, with_ports, with_cpu, with_code, with_job}
use Rattle.model_semantics.specs.Tests.{waiting_execution, execution, can_start}
use Rattle.model_semantics.specs.StartLaws.{Passed, start_passed}
use Rattle.model_semantics.specs.Effects.{freeze, start}
use Rattle.table_format.specs.declared.Update.{Update}
use Rattle.table_format.specs.Variables.{variables, now_var, cpu_var, active_var, state_var, dispatch_var, due_var, end_var, behavior_var, missed_var, flag_var, input_var, buffer_var, output_var, local_var, input_room, thread_var}
use Rattle.table_semantics.specs.Rules.{value_of}
use Rattle.translation.specs.Parts.{constant, variable, chosen_length, copied, sum_of, update, set_to}
use Rattle.translation.specs.Rules.{per_input, start_port, start_rules}
use Rattle.simulation.specs.Compared.{Dispatched}
use Rattle.simulation.specs.Match.{Match}
use Rattle.simulation.specs.Writes.{value_written, updated_here, updated_there, constant_worth, chosen_worth, Misses, Apart, misses_within, column_kept, NotInput}
use Rattle.simulation.specs.Effects.{Does, first_updates, InParts, ThreadsSized, JobShown, job_of, same, put, in_parts, afterwards, kept, cpu_set, thread_does}
use Rattle.simulation.specs.EffectPorts.{start_takes, start_single, inputs_within, inputs_apart, freeze_shown}

module _ (m : Timing) (g : GoodTiming m) (d : Dispatched) (s : State) (v : List Value) (h : InParts m d s v) (n t : ℕ) (l : t < m.threads)
    (waits : code_of s t ≡ waiting_execution) (short : n ≤ longest_time) where
  abbrev inputs : List Update
  inputs = per_input m t (start_port m)

  abbrev changes : List Update
  changes = set_to (state_var t) execution ∷ set_to cpu_var t ∷ update (end_var t) (sum_of (variable now_var) chosen_length) ∷ inputs

  abbrev after : List Value
  after = afterwards n v changes

  inputs_miss : (j : ℕ) → NotInput j → Misses j inputs
  inputs_miss j b = misses_within (input_var 0) (input_var input_room) j inputs (inputs_within m g t (start_port m) (start_single m)) b

  start_kept : (j : ℕ) → j < variables → (j ≡ state_var t → ⊥) × (j ≡ cpu_var → ⊥) × (j ≡ end_var t → ⊥) → NotInput j → value_of after j ≡ value_of v j
  unfolding Misses
  start_kept j b a e = kept n v changes h.size j b (a.0, (a.1, (a.2, inputs_miss j e)))

  started_job : job_of (start m s t n) t ≡ record {
    active = is_active s t;
    code = execution;
    dispatched = dispatch_time s t;
    long = n;
    spent = 0;
    behavior = behavior_of s t;
    missed = missed_of s t;
  }
  unfolding start with_ports with_job with_cpu with_code is_active code_of dispatch_time length_of spent_of behavior_of missed_of
  started_job =
      let few : m.threads ≤ max_threads = g.threads in
      let a : ThreadsSized s.threads = h.sized in
      rw (
        length_of,
        spent_of,
        item_store_same max_threads s.threads.code t execution 0 (omega arith) (omega arith),
        item_store_same max_threads s.threads.length t (duration n) (duration 0) (omega arith) (omega arith),
        item_store_same max_threads s.threads.spent t (duration 0) (duration 0) (omega arith) (omega arith),
      )

  started_shown : JobShown m (d t) (now_of s) (job_of (start m s t n) t) after t
  unfolding Misses
  started_shown =
      let few : m.threads ≤ max_threads = g.threads in
      let ticks : now_of s ≤ last_clock = h.ticks in
      let x : JobShown m (d t) (now_of s) (job_of s t) v t = h.jobs t (omega arith) in
      rw started_job (record {
        active = start_kept (active_var t) (omega arith) (omega arith) (omega arith) ∙ x.active;
        code = value_written n v changes v (state_var t) h.size (omega arith) ∙
            (updated_here n v (state_var t) (copied (constant execution)) _ _ (λ e. omega arith, (λ e. omega arith, inputs_miss (state_var t) (omega arith))) ∙ constant_worth n v execution);
        dispatched = start_kept (dispatch_var t) (omega arith) (omega arith) (omega arith) ∙ x.dispatched;
        due = λ b e. start_kept (due_var t) (omega arith) (omega arith) (omega arith) ∙ x.due b e;
        no_due = λ b. absurd (omega arith);
        end = λ b e. value_written n v changes v (end_var t) h.size (omega arith) ∙
            (updated_there n v (end_var t) (set_to (state_var t) execution) _ _ (λ e. omega arith) ∙
            (updated_there n v (end_var t) (set_to cpu_var t) _ _ (λ e. omega arith) ∙
            (updated_here n v (end_var t) (sum_of (variable now_var) chosen_length) inputs _ (inputs_miss (end_var t) (omega arith)) ∙
            (chosen_worth n v now_var (now_of s) h.clock.now (omega arith) ∙ ap natural (omega arith)))));
        no_end = λ b. absurd (omega arith);
        behavior = start_kept (behavior_var t) (omega arith) (omega arith) (omega arith) ∙ x.behavior;
        missed = start_kept (missed_var t) (omega arith) (omega arith) (omega arith) ∙ x.missed;
        blank = λ b. absurd (omega arith);
        reached = record {
          codes = omega arith;
          ran = λ e. omega arith;
          long = λ e. short;
          begun = λ e. x.reached.begun (omega arith);
          past = x.reached.past;
          missed = x.reached.missed;
          missed_before = λ e. x.reached.missed_before (omega arith);
        };
      })

  starts : Does m d (start m s t n) n v changes
  unfolding start with_ports with_job with_cpu with_code freeze Misses Apart
  starts =
      let few : m.threads ≤ max_threads = g.threads in
      thread_does m d d s (start m s t n) v n t changes few h (record {
        apart = (
          (λ e. omega arith, (λ e. omega arith, inputs_miss (state_var t) (omega arith))),
          (
            (λ e. omega arith, inputs_miss cpu_var (omega arith)),
            (inputs_miss (end_var t) (omega arith), inputs_apart m g t (start_port m) (start_single m)),
          ),
        );
        touched = record { active = same; code = put execution; dispatched = same; long = put _; spent = put _; behavior = same; missed = same };
        live = refl;
        now = refl;
        others = λ u b a k y z. (λ e. omega arith, (λ e. omega arith, (λ e. omega arith, inputs_miss (thread_var k u) (omega arith))));
        flags = λ c b. (λ e. omega arith, (λ e. omega arith, (λ e. omega arith, inputs_miss (flag_var c) (omega arith))));
        known = λ u a. refl;
        clock = cpu_set t h.clock (λ j b a. start_kept j (omega arith) (λ e. omega arith, a, λ e. omega arith) (omega arith))
            (value_written n v changes v cpu_var h.size (omega arith) ∙
            (updated_there n v cpu_var (set_to (state_var t) execution) _ _ (λ e. omega arith) ∙
            (updated_here n v cpu_var (copied (constant t)) _ _ (λ e. omega arith, inputs_miss cpu_var (omega arith)) ∙ constant_worth n v t)));
        job = started_shown;
        ports = record {
          input = freeze_shown m g t (start_port m) (start_single m) n s true v after (start_takes m g n s v h.live h.ports.buffer) h.ports.input (λ i b.
              value_written n v changes v (input_var i) h.size (omega arith) ∙
              (updated_there n v (input_var i) (set_to (state_var t) execution) _ _ (omega arith) ∙
              (updated_there n v (input_var i) (set_to cpu_var t) _ _ (omega arith) ∙
              updated_there n v (input_var i) (update (end_var t) (sum_of (variable now_var) chosen_length)) inputs _ (omega arith))));
          buffer = column_kept h.ports.buffer (λ i b. start_kept (buffer_var i) (omega arith) (omega arith) (omega arith));
          output = column_kept h.ports.output (λ i b. start_kept (output_var i) (omega arith) (omega arith) (omega arith));
          local = column_kept h.ports.local (λ i b. start_kept (local_var i) (omega arith) (omega arith) (omega arith));
        };
      })

pub start_does : (m : Timing) → GoodTiming m → (d : Dispatched) (s : State) (v : List Value) → Match m d s v → (n t : ℕ) → t < m.threads → can_start m s t n ≡ true →
    Does m d (start m s t n) n v (first_updates (start_rules m t))
unfolding first_updates start_rules
start_does m g d s v h n t l e =
    let x : GoodThread (thread_at m t) = g.thread t l in
    let p : Passed m s t n = start_passed m s t n e in
    let k : n ≤ (thread_at m t).wcet.0 = p.most in
    starts m g d s v (in_parts m d s v h) n t l p.waits (omega arith)
