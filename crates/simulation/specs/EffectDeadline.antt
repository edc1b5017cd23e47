-- DEADLINE and MISS.
use Rattle.std.specs.Prelude.{◌≡◌, refl, Bool, true, false, cond, ◌&&◌, ◌||◌, not, ℕ, ◌+◌, ◌<◌, ◌≤◌, eqb}
use Rattle.std.proofs.Common.{◌∙◌, true≢false}
use Rattle.std.proofs.lemmas.Bool.{false≢true}
use mathlib.Core.List.{List, [], ◌∷◌, ◌++◌}
use native.Mathlib.Omega.{arith}
use Rattle.std.proofs.Math.Decide.{ℕ_discrete}
use borrow.Author.Tests.{lt-ltb, eq-eqb, ne_eqb, eqb-true}
use Rattle.numbers.specs.declared.Value.{Value}
use Rattle.numbers.specs.ListLaws.{item_store_same}
use Rattle.numbers.specs.Values.{natural, one_more}
use Rattle.records.specs.Events.{last_clock}
use Rattle.model_format.specs.declared.Timing.{Timing}
use Rattle.model_format.specs.Model.{max_threads, thread_at, delayed}
use Rattle.model_format.specs.WellFormed.{GoodTiming}
use Rattle.model_semantics.specs.declared.State.{State}
use Rattle.model_semantics.specs.State.{none, is_active, code_of, dispatch_time, length_of, spent_of, behavior_of, missed_of, now_of, with_ports, with_cpu, with_code, with_job, with_missed}
use Rattle.model_semantics.specs.Tests.{waiting_mode, waiting_dispatch, waiting_execution, execution, due_of, is_due, can_miss}
use Rattle.model_semantics.specs.Effects.{send, end_job, rest_code, meet_deadline, miss}
use Rattle.table_format.specs.declared.Update.{Update}
use Rattle.table_format.specs.Variables.{variables, cpu_var, state_var, end_var, behavior_var, missed_var, input_var, buffer_var, output_var, local_var, input_room}
use Rattle.table_semantics.specs.Rules.{value_of}
use Rattle.translation.specs.Shown.{bit}
use Rattle.translation.specs.Parts.{constant, variable, copied, sum_of, update, set_to}
use Rattle.translation.specs.Rules.{send_updates, job_ends, deadline_rule, miss_updates, miss_waiting, miss_running, old_output}
use Rattle.simulation.specs.Compared.{Dispatched}
use Rattle.simulation.specs.Match.{Match}
use Rattle.simulation.specs.GuardDeadline.{miss_rule}
use Rattle.simulation.specs.Writes.{value_written, updated_here, updated_there, constant_worth, sum_worth, Misses, Apart, Within, column_kept, NotBuffer}
use Rattle.simulation.specs.Effects.{Does, InParts, ThreadsSized, JobShown, job_of, same, put, in_parts, afterwards, kept, ports_kept, and_left}
use Rattle.simulation.specs.EffectPorts.{send_within, send_apart, send_shown, old_output_lem}
use Rattle.simulation.specs.EffectEnd.{ends_does}
use Rattle.simulation.specs.EffectSimple.{code_kept, code_does}
use Rattle.numbers.specs.Lists.{store}

rest_small : (b : Bool) → cond b waiting_dispatch waiting_mode < waiting_execution
rest_small true = omega arith
rest_small false = omega arith

module _ (m : Timing) (g : GoodTiming m) (d : Dispatched) (s : State) (v : List Value) (h : InParts m d s v) (n t : ℕ) (l : t < m.threads) where
  -- MISS: the rest of the updates leaves cpu in the processor's variable and touches End besides
  module _ (job : waiting_execution ≤ code_of s t) (due : due_of m s t ≡ now_of s) (c : ℕ) (small : c < waiting_execution) (cpu : ℕ) (rest : List Update)
      (frees : (j : ℕ) → (j ≡ cpu_var → ⊥) × (j ≡ end_var t → ⊥) → Misses j rest) (apart : Apart rest)
      (shows : value_of (afterwards n v (miss_updates t c ++ rest)) cpu_var ≡ natural cpu) where
    abbrev changes : List Update
    changes = miss_updates t c ++ rest

    abbrev after : List Value
    after = afterwards n v changes

    abbrev later : State
    later = with_missed (with_job (with_code (with_cpu m s t cpu) t c) t 0 0) t (one_more (missed_of s t))

    missed_kept : (j : ℕ) → j < variables → (j ≡ state_var t → ⊥) × (j ≡ missed_var t → ⊥) × (j ≡ cpu_var → ⊥) × (j ≡ end_var t → ⊥) → value_of after j ≡ value_of v j
    unfolding Misses
    missed_kept j l a = kept n v changes h.size j l (a.0, (a.1, frees j (a.2, a.3)))

    counted : missed_of s t < now_of s
    unfolding due_of
    counted =
        let few : m.threads ≤ max_threads = g.threads in
        let a : missed_of s t ≤ dispatch_time s t = (h.jobs t (omega arith)).reached.missed_before job in
        let b : 1 ≤ (thread_at m t).deadline.0 = (g.thread t l).deadline in
        omega arith

    missed_does : Does m d later n v changes
    unfolding with_missed with_job with_code with_cpu one_more behavior_of missed_of Misses Apart
    missed_does =
        let few : m.threads ≤ max_threads = g.threads in
        let z : ThreadsSized s.threads = h.sized in
        let x : JobShown m (d t) (now_of s) (job_of s t) v t = h.jobs t (omega arith) in
        let y : now_of s ≤ last_clock = h.ticks in
        let a : missed_of s t < now_of s = counted in
        ends_does m g d s v h n t l c cpu (behavior_of s t) (missed_of s t + 1) s.threads.behavior (store max_threads s.threads.missed t (one_more (missed_of s t))) s.ports changes (record {
          stopped = λ e. omega arith;
          known = omega arith;
          begun = λ e. absurd (omega arith);
          before = λ e. absurd (omega arith);
          counted = omega arith;
          states = same;
          state = refl;
          counts = put _;
          counter = item_store_same max_threads s.threads.missed t (one_more (missed_of s t)) 0 (omega arith) (omega arith) ∙ rw (lt-ltb (missed_of s t) 4294967295 (omega arith));
          apart = ((λ e. omega arith, frees (state_var t) (omega arith)), (frees (missed_var t) (omega arith), apart));
          misses = λ j b q. (q.0, (q.4, frees j (q.1, q.2)));
          code_shown = value_written n v changes v (state_var t) h.size (omega arith) ∙
              (updated_here n v (state_var t) (copied (constant c)) _ _ (λ e. omega arith, frees (state_var t) (omega arith)) ∙ constant_worth n v c);
          cpu_shown = shows;
          behavior_shown = missed_kept (behavior_var t) (omega arith) (omega arith) ∙ x.behavior;
          missed_shown = value_written n v changes v (missed_var t) h.size (omega arith) ∙
              (updated_there n v (missed_var t) (set_to (state_var t) c) _ _ (λ e. omega arith) ∙
              (updated_here n v (missed_var t) (sum_of (variable (missed_var t)) (constant 1)) rest _ (frees (missed_var t) (omega arith)) ∙
              sum_worth n v (missed_var t) (missed_of s t) 1 x.missed (omega arith)));
          ports = ports_kept h.ports (λ j a b. missed_kept j b (omega arith));
        })

  module _ (e : can_miss m s t ≡ true) where
    is_due_lem : due_of m s t ≡ now_of s
    unfolding can_miss
    is_due_lem = eqb-true (due_of m s t) (now_of s) (and_left _ _ e)

    waiting_does : code_of s t ≡ waiting_execution → (a : ℕ) → Does m d (miss m s t) n v (miss_waiting t a (rest_code s t)).updates
    unfolding miss end_job with_missed with_job with_code with_cpu Misses Apart
    waiting_does c a =
        let us = miss_updates t (rest_code s t) in
        rw c (missed_does (omega arith) is_due_lem (rest_code s t) (rest_small (is_active s t)) s.clock.cpu [] (λ j z. tt) tt
        (kept n v us h.size cpu_var (omega arith) (omega arith) ∙ h.clock.cpu))

    running_does : code_of s t ≡ execution → (a : ℕ) → Does m d (miss m s t) n v (miss_running m t a (rest_code s t)).updates
    unfolding miss end_job with_missed with_job with_code with_cpu Misses Apart
    running_does c a =
        let us = miss_updates t (rest_code s t) ++ job_ends m t in
        rw c (missed_does (omega arith) is_due_lem (rest_code s t) (rest_small (is_active s t)) none (job_ends m t) (λ j z. (z.0, (z.1, tt))) (omega arith)
        (value_written n v us v cpu_var h.size (omega arith) ∙
        (updated_there n v cpu_var (set_to (state_var t) (rest_code s t)) _ _ (λ e. omega arith) ∙
        (updated_there n v cpu_var (update (missed_var t) (sum_of (variable (missed_var t)) (constant 1))) (job_ends m t) _ (λ e. omega arith) ∙
        (updated_here n v cpu_var (copied (constant none)) (set_to (end_var t) 0 ∷ []) _ (omega arith) ∙ constant_worth n v none)))))

  -- DEADLINE
  module _ (c : ℕ) (small : c < waiting_execution) where
    abbrev sends : List Update
    sends = send_updates m delayed t old_output

    sends_within : Within (buffer_var 0) (buffer_var input_room) sends
    sends_within = send_within m g delayed t old_output

    sent_kept : (j : ℕ) → j < variables → (j ≡ state_var t → ⊥) → NotBuffer j → value_of (afterwards n v (set_to (state_var t) c ∷ sends)) j ≡ value_of v j
    sent_kept = code_kept m g d s v h n t l c small sends sends_within s.ports

    met_does : Does m d (with_ports (with_code s t c) (send m s delayed t s.ports)) n v (set_to (state_var t) c ∷ sends)
    unfolding send
    met_does =
        let few : m.threads ≤ max_threads = g.threads in
        code_does m g d s v h n t l c small sends sends_within (send m s delayed t s.ports) (send_apart m g delayed t old_output) (record {
          input = column_kept h.ports.input (λ i b. sent_kept (input_var i) (omega arith) (omega arith) (omega arith));
          buffer = send_shown m g delayed t old_output n s s.ports v _ h.live
              (old_output_lem m g n s.ports v h.ports.output) h.ports.buffer
              (λ i b. value_written n v (set_to (state_var t) c ∷ sends) v (buffer_var i) h.size (omega arith) ∙ updated_there n v (buffer_var i) (set_to (state_var t) c) sends _ (omega arith));
          output = column_kept h.ports.output (λ i b. sent_kept (output_var i) (omega arith) (omega arith) (omega arith));
          local = column_kept h.ports.local (λ i b. sent_kept (local_var i) (omega arith) (omega arith) (omega arith));
        })

-- MISS finds one of two codes
one_code : (due a b c : Bool) → (due && (a || (b && c))) ≡ true → a ≡ false → b ≡ true
one_code true true b c e f = absurd (true≢false f)
one_code true false true c e f = refl
one_code true false false c e f = e
one_code false a b c e f = absurd (false≢true e)

late_runs : (m : Timing) (s : State) (t : ℕ) → can_miss m s t ≡ true → (code_of s t ≡ waiting_execution → ⊥) → code_of s t ≡ execution
unfolding can_miss
late_runs m s t e n =
    eqb-true (code_of s t) execution
    (one_code (is_due m s t) (eqb (code_of s t) waiting_execution) (eqb (code_of s t) execution) (not (eqb (spent_of s t) (length_of s t))) e (ne_eqb (code_of s t) waiting_execution n))

module _ (m : Timing) (g : GoodTiming m) (d : Dispatched) (s : State) (v : List Value) (h : Match m d s v) (n t : ℕ) (l : t < m.threads) where
  pub deadline_does : (a : ℕ) → Does m d (meet_deadline m s t) n v (deadline_rule m t a (rest_code s t)).updates
  unfolding meet_deadline
  deadline_does a = met_does m g d s v (in_parts m d s v h) n t l (rest_code s t) (rest_small (is_active s t))

  pub miss_does : can_miss m s t ≡ true → Does m d (miss m s t) n v (miss_rule m s t).updates
  miss_does e = go (ℕ_discrete (code_of s t) waiting_execution)
    where
      go : Dec (code_of s t ≡ waiting_execution) → Does m d (miss m s t) n v (miss_rule m s t).updates
      go (yes c) = rw (eq-eqb (code_of s t) waiting_execution c) (waiting_does m g d s v (in_parts m d s v h) n t l e c (bit (is_active s t)))
      go (no c) = rw (ne_eqb (code_of s t) waiting_execution c) (running_does m g d s v (in_parts m d s v h) n t l e (late_runs m s t e c) (bit (is_active s t)))
