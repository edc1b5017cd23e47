-- DISPATCH.
use Rattle.std.specs.Prelude.{◌≡◌, refl, List, ◌∷◌, ℕ, ◌+◌, ◌<◌, ◌≤◌}
use Rattle.std.proofs.Common.{◌∙◌, eq-eqb, ne_eqb}
use Rattle.std.proofs.Math.Bool.{false, or-true, or-false}
use native.Mathlib.Omega.{arith}
use Rattle.numbers.specs.declared.Value.{Value}
use Rattle.numbers.specs.ListLaws.{item_store_same}
use Rattle.numbers.specs.Values.{duration}
use Rattle.records.specs.Events.{last_clock}
use Rattle.model_format.specs.declared.Timing.{Timing}
use Rattle.model_format.specs.Model.{max_threads, thread_at}
use Rattle.model_format.specs.WellFormed.{GoodTiming, GoodThread}
use Rattle.model_semantics.specs.declared.State.{State}
use Rattle.model_semantics.specs.State.{is_active, code_of, dispatch_time, length_of, spent_of, behavior_of, missed_of, now_of, with_ports, with_code, with_dispatch_time}
use Rattle.model_semantics.specs.Tests.{waiting_execution}
use Rattle.model_semantics.specs.Effects.{freeze, dispatch}
use Rattle.table_format.specs.declared.Update.{Update}
use Rattle.table_format.specs.Variables.{variables, now_var, active_var, state_var, dispatch_var, due_var, behavior_var, missed_var, flag_var, input_var, buffer_var, output_var, local_var, input_room, thread_var}
use Rattle.table_semantics.specs.Rules.{value_of}
use Rattle.translation.specs.Parts.{constant, variable, copied, sum_of, update, set_to}
use Rattle.translation.specs.Rules.{per_input, dispatch_port, dispatch_rules}
use Rattle.simulation.specs.Compared.{Dispatched}
use Rattle.simulation.specs.Match.{Match}
use Rattle.simulation.specs.Writes.{value_written, updated_here, updated_there, constant_worth, variable_worth, sum_worth, Misses, Apart, misses_within, column_kept, NotInput}
use Rattle.simulation.specs.Effects.{Does, first_updates, InParts, ThreadsSized, JobShown, job_of, same, put, in_parts, afterwards, kept, clock_kept, thread_does, also_dispatched}
use Rattle.simulation.specs.EffectPorts.{dispatch_takes, dispatch_single, inputs_within, inputs_apart, freeze_shown}

module _ (m : Timing) (g : GoodTiming m) (d : Dispatched) (s : State) (v : List Value) (h : InParts m d s v) (n t : ℕ) (l : t < m.threads) where
  abbrev inputs : List Update
  inputs = per_input m t (dispatch_port m)

  abbrev due : ℕ
  due = (thread_at m t).deadline.0

  abbrev changes : List Update
  changes = set_to (state_var t) waiting_execution ∷ update (dispatch_var t) (copied (variable now_var)) ∷ update (due_var t) (sum_of (variable now_var) (constant due)) ∷ inputs

  abbrev after : List Value
  after = afterwards n v changes

  inputs_miss : (j : ℕ) → NotInput j → Misses j inputs
  inputs_miss j b = misses_within (input_var 0) (input_var input_room) j inputs (inputs_within m g t (dispatch_port m) (dispatch_single m)) b

  dispatch_kept : (j : ℕ) → j < variables → (j ≡ state_var t → ⊥) × (j ≡ dispatch_var t → ⊥) × (j ≡ due_var t → ⊥) → NotInput j → value_of after j ≡ value_of v j
  unfolding Misses
  dispatch_kept j b a e = kept n v changes h.size j b (a.0, (a.1, (a.2, inputs_miss j e)))

  due_small : now_of s + due < 2147483648
  due_small =
      let a : now_of s ≤ last_clock = h.ticks in
      let b : GoodThread (thread_at m t) = g.thread t l in
      omega arith

  dispatched_job : job_of (dispatch m s t) t ≡ record {
    active = is_active s t;
    code = waiting_execution;
    dispatched = now_of s;
    long = length_of s t;
    spent = spent_of s t;
    behavior = behavior_of s t;
    missed = missed_of s t;
  }
  unfolding dispatch with_ports with_dispatch_time with_code is_active code_of dispatch_time length_of spent_of behavior_of missed_of
  dispatched_job =
      let few : m.threads ≤ max_threads = g.threads in
      let a : ThreadsSized s.threads = h.sized in
      rw (
        dispatch_time,
        item_store_same max_threads s.threads.code t waiting_execution 0 (omega arith) (omega arith),
        item_store_same max_threads s.threads.dispatched t (duration (now_of s)) (duration 0) (omega arith) (omega arith),
      )

  dispatched_shown : JobShown m (also_dispatched d t t) (now_of s) (job_of (dispatch m s t) t) after t
  unfolding Misses
  dispatched_shown =
      let few : m.threads ≤ max_threads = g.threads in
      let x : JobShown m (d t) (now_of s) (job_of s t) v t = h.jobs t (omega arith) in
      rw dispatched_job (record {
        active = dispatch_kept (active_var t) (omega arith) (omega arith) (omega arith) ∙ x.active;
        code = value_written n v changes v (state_var t) h.size (omega arith) ∙
            (updated_here n v (state_var t) (copied (constant waiting_execution)) _ _ (λ e. omega arith, (λ e. omega arith, inputs_miss (state_var t) (omega arith))) ∙ constant_worth n v waiting_execution);
        dispatched = value_written n v changes v (dispatch_var t) h.size (omega arith) ∙
            (updated_there n v (dispatch_var t) (set_to (state_var t) waiting_execution) _ _ (λ e. omega arith) ∙
            (updated_here n v (dispatch_var t) (copied (variable now_var)) _ _ (λ e. omega arith, inputs_miss (dispatch_var t) (omega arith)) ∙ (variable_worth n v now_var ∙ h.clock.now)));
        due = λ b e. value_written n v changes v (due_var t) h.size (omega arith) ∙
            (updated_there n v (due_var t) (set_to (state_var t) waiting_execution) _ _ (λ e. omega arith) ∙
            (updated_there n v (due_var t) (update (dispatch_var t) (copied (variable now_var))) _ _ (λ e. omega arith) ∙
            (updated_here n v (due_var t) (sum_of (variable now_var) (constant due)) inputs _ (inputs_miss (due_var t) (omega arith)) ∙ sum_worth n v now_var (now_of s) due h.clock.now due_small)));
        no_due = λ b. absurd (omega arith);
        end = λ b e. absurd (omega arith);
        no_end = λ b. absurd (omega arith);
        behavior = dispatch_kept (behavior_var t) (omega arith) (omega arith) (omega arith) ∙ x.behavior;
        missed = dispatch_kept (missed_var t) (omega arith) (omega arith) (omega arith) ∙ x.missed;
        blank = λ b. absurd (omega arith);
        reached = record {
          codes = omega arith;
          ran = λ e. absurd (omega arith);
          long = λ e. absurd (omega arith);
          begun = λ e. rw (eq-eqb t t refl) (or-true (d t));
          past = omega arith;
          missed = x.reached.missed;
          missed_before = λ e. x.reached.missed;
        };
      })

  dispatches : Does m (also_dispatched d t) (dispatch m s t) n v changes
  unfolding dispatch with_ports with_dispatch_time with_code freeze Misses Apart
  dispatches =
      let few : m.threads ≤ max_threads = g.threads in
      thread_does m d (also_dispatched d t) s (dispatch m s t) v n t changes few h (record {
        apart = (
          (λ e. omega arith, (λ e. omega arith, inputs_miss (state_var t) (omega arith))),
          (
            (λ e. omega arith, inputs_miss (dispatch_var t) (omega arith)),
            (inputs_miss (due_var t) (omega arith), inputs_apart m g t (dispatch_port m) (dispatch_single m)),
          ),
        );
        touched = record { active = same; code = put waiting_execution; dispatched = put _; long = same; spent = same; behavior = same; missed = same };
        live = refl;
        now = refl;
        others = λ u b a k y z. (λ e. omega arith, (λ e. omega arith, (λ e. omega arith, inputs_miss (thread_var k u) (omega arith))));
        flags = λ c b. (λ e. omega arith, (λ e. omega arith, (λ e. omega arith, inputs_miss (flag_var c) (omega arith))));
        known = λ u a. rw (ne_eqb t u (λ e. a (omega arith))) (or-false (d u));
        clock = clock_kept h.clock (λ j b. dispatch_kept j (omega arith) (omega arith) (omega arith));
        job = dispatched_shown;
        ports = record {
          input = freeze_shown m g t (dispatch_port m) (dispatch_single m) n s false v after (dispatch_takes m g n s v h.live h.ports.buffer) h.ports.input (λ i b.
              value_written n v changes v (input_var i) h.size (omega arith) ∙
              (updated_there n v (input_var i) (set_to (state_var t) waiting_execution) _ _ (omega arith) ∙
              (updated_there n v (input_var i) (update (dispatch_var t) (copied (variable now_var))) _ _ (omega arith) ∙
              updated_there n v (input_var i) (update (due_var t) (sum_of (variable now_var) (constant due))) inputs _ (omega arith))));
          buffer = column_kept h.ports.buffer (λ i b. dispatch_kept (buffer_var i) (omega arith) (omega arith) (omega arith));
          output = column_kept h.ports.output (λ i b. dispatch_kept (output_var i) (omega arith) (omega arith) (omega arith));
          local = column_kept h.ports.local (λ i b. dispatch_kept (local_var i) (omega arith) (omega arith) (omega arith));
        };
      })

pub dispatch_does : (m : Timing) → GoodTiming m → (d : Dispatched) (s : State) (v : List Value) → Match m d s v → (n t : ℕ) → t < m.threads →
    Does m (also_dispatched d t) (dispatch m s t) n v (first_updates (dispatch_rules m t))
unfolding first_updates dispatch_rules
dispatch_does m g d s v h n t l = dispatches m g d s v (in_parts m d s v h) n t l
