-- COMPLETE.
use Rattle.std.specs.Prelude.{◌≡◌, refl, true, ℕ, ◌+◌, ◌<◌, ◌≤◌}
use Rattle.std.proofs.Common.{◌∙◌, ap}
use mathlib.Core.List.{List, [], ◌∷◌, ◌++◌}
use native.Mathlib.Omega.{arith}
use Rattle.std.proofs.Math.Decide.{dec_lt}
use borrow.Author.Tests.{eq-eqb, eqb-true, lt-ltb, le-ltb}
use Rattle.numbers.specs.declared.Value.{Value}
use Rattle.numbers.specs.Lists.{fold_below, join_below, store}
use Rattle.numbers.specs.ListLaws.{item_store_same}
use Rattle.numbers.specs.Values.{natural}
use Rattle.model_format.specs.declared.Timing.{Timing}
use Rattle.model_format.specs.declared.Behavior.{Behavior}
use Rattle.model_format.specs.declared.Model.{Model}
use Rattle.model_format.specs.Model.{max_threads, transition_at, assignment_at, immediate, max_outputs}
use Rattle.model_format.specs.WellFormed.{GoodTiming, GoodAssignment, WellFormed}
use Rattle.model_semantics.specs.declared.Ports.{Ports}
use Rattle.model_semantics.specs.declared.State.{State}
use Rattle.model_semantics.specs.State.{none, code_of, behavior_of, missed_of, now_of, with_ports, with_cpu, with_code, with_job, with_behavior}
use Rattle.model_semantics.specs.Tests.{execution, completed, can_complete}
use Rattle.model_semantics.specs.EffectLaws.{complete_at_once}
use Rattle.model_semantics.specs.Effects.{first_open, taken_transition, assign, send, end_job, complete}
use Rattle.table_format.specs.declared.Update.{Update}
use Rattle.table_format.specs.Variables.{variables, cpu_var, state_var, end_var, behavior_var, missed_var, input_var, buffer_var, output_var, local_var, input_room, local_room}
use Rattle.table_semantics.specs.Rules.{value_of}
use Rattle.translation.specs.Parts.{constant, copied, set_to}
use Rattle.translation.specs.Rules.{assignment_updates, sent_expression, send_updates, transition_rule, default_rule}
use Rattle.simulation.specs.Compared.{Dispatched}
use Rattle.simulation.specs.Match.{Match}
use Rattle.simulation.specs.GuardComplete.{complete_rule}
use Rattle.simulation.specs.Writes.{updated, updated_append, updated_miss, value_written, updated_here, updated_there, constant_worth, Misses, Apart, Within, misses_append, misses_within, clear_within, apart_append, column_kept, NotBuffer}
use Rattle.simulation.specs.Effects.{Does, InParts, ThreadsSized, JobShown, job_of, same, put, in_parts, afterwards, kept, and_left}
use Rattle.simulation.specs.EffectEnd.{ends_does}
use Rattle.simulation.specs.EffectPorts.{send_within, send_apart, send_shown}
use Rattle.simulation.specs.EffectAssign.{assign_within, assign_apart, outputs_shown, locals_shown, sent_same}

-- a transition taken, or none: to is the behaviour state afterwards, moves the update of it, if any, and the first count assignments of
-- transition k are made
module _ (m : Timing) (g : GoodTiming m) (b : Behavior) (d : Dispatched) (s : State) (v : List Value) (match : Match m d s v) (n t : ℕ) (l : t < m.threads)
    (runs : code_of s t ≡ execution) (to : ℕ) (moves : List Update) (k count : ℕ)
    (moves-within : Within (behavior_var t) (behavior_var t + 1) moves) (moves-apart : Apart moves)
    (moved : updated n v moves (behavior_var t) (value_of v (behavior_var t)) ≡ natural to)
    (good : (j : ℕ) → j < count → GoodAssignment m (assignment_at b k j))
    (single : (i j : ℕ) → i < j → j < count → ((assignment_at b k i).tag ≡ (assignment_at b k j).tag) × ((assignment_at b k i).number ≡ (assignment_at b k j).number) → ⊥) where
  abbrev h : InParts m d s v
  h = in_parts m d s v match

  abbrev assigns : List Update
  assigns = assignment_updates b k count

  abbrev sends : List Update
  sends = send_updates m immediate t (sent_expression b k count)

  abbrev changes : List Update
  changes = set_to (state_var t) completed ∷ set_to cpu_var none ∷ set_to (end_var t) 0 ∷ (moves ++ (assigns ++ sends))

  abbrev after : List Value
  after = afterwards n v changes

  abbrev ports : Ports
  ports = assign b s.ports k count

  abbrev later : State
  later = with_ports (with_behavior (with_job (with_code (with_cpu m s t none) t completed) t 0 0) t to) (send m s immediate t ports)

  moves_miss : (j : ℕ) → (j ≡ behavior_var t → ⊥) → Misses j moves
  moves_miss j q = misses_within (behavior_var t) (behavior_var t + 1) j moves moves-within (λ a e. q (omega arith))

  assigns_miss : (j : ℕ) → j < output_var 0 → Misses j assigns
  assigns_miss j p = misses_within (output_var 0) (local_var local_room) j assigns (assign_within m g b k count good single) (omega arith)

  sends_miss : (j : ℕ) → NotBuffer j → Misses j sends
  sends_miss j p = misses_within (buffer_var 0) (buffer_var input_room) j sends (send_within m g immediate t (sent_expression b k count)) p

  tail_miss : (j : ℕ) → j < buffer_var 0 → (j ≡ behavior_var t → ⊥) → Misses j (moves ++ (assigns ++ sends))
  tail_miss j p q = misses_append j moves (assigns ++ sends) (moves_miss j q) (misses_append j assigns sends (assigns_miss j (omega arith)) (sends_miss j (omega arith)))

  complete_miss : (j : ℕ) → j < buffer_var 0 → (j ≡ state_var t → ⊥) × (j ≡ cpu_var → ⊥) × (j ≡ end_var t → ⊥) × (j ≡ behavior_var t → ⊥) → Misses j changes
  unfolding Misses
  complete_miss j p a = (a.0, (a.1, (a.2, tail_miss j p a.3)))

  complete_kept : (j : ℕ) → j < buffer_var 0 → (j ≡ state_var t → ⊥) × (j ≡ cpu_var → ⊥) × (j ≡ end_var t → ⊥) × (j ≡ behavior_var t → ⊥) → value_of after j ≡ value_of v j
  complete_kept j p a = kept n v changes h.size j (omega arith) (complete_miss j p a)

  -- past the first three updates
  left : (j : ℕ) → j < variables → (j ≡ state_var t → ⊥) × (j ≡ cpu_var → ⊥) × (j ≡ end_var t → ⊥) →
      value_of after j ≡ updated n v sends j (updated n v assigns j (updated n v moves j (value_of v j)))
  left j p a =
      value_written n v changes v j h.size p ∙
      (updated_there n v j (set_to (state_var t) completed) _ _ a.0 ∙
      (updated_there n v j (set_to cpu_var none) _ _ a.1 ∙
      (updated_there n v j (set_to (end_var t) 0) _ _ a.2 ∙ (updated_append n v moves (assigns ++ sends) j _ ∙ updated_append n v assigns sends j _))))

  -- outputs and locals are touched by assignments alone, buffers by connections alone
  assigns_left : (j : ℕ) → output_var 0 ≤ j → j < variables → value_of after j ≡ updated n v assigns j (value_of v j)
  assigns_left j p q =
      let few : m.threads ≤ max_threads = g.threads in
      left j q (omega arith) ∙
      (updated_miss n v j sends _ (sends_miss j (omega arith)) ∙ ap (updated n v assigns j) (updated_miss n v j moves _ (moves_miss j (omega arith))))

  sends_left : (j : ℕ) → buffer_var 0 ≤ j → j < buffer_var input_room → value_of after j ≡ updated n v sends j (value_of v j)
  sends_left j p q =
      let few : m.threads ≤ max_threads = g.threads in
      left j (omega arith) (omega arith) ∙
      ap (updated n v sends j) (updated_miss n v j assigns _ (assigns_miss j q) ∙ updated_miss n v j moves _ (moves_miss j (omega arith)))

  tail_apart : Apart (moves ++ (assigns ++ sends))
  tail_apart =
      let few : m.threads ≤ max_threads = g.threads in
      apart_append moves (assigns ++ sends)
      (clear_within (behavior_var t) (behavior_var t + 1) moves (assigns ++ sends) moves-within
      (λ j p q. misses_append j assigns sends (assigns_miss j (omega arith)) (sends_miss j (omega arith))))
      moves-apart
      (apart_append assigns sends
      (clear_within (output_var 0) (local_var local_room) assigns sends (assign_within m g b k count good single) (λ j p q. sends_miss j (omega arith)))
      (assign_apart m g b k count good single) (send_apart m g immediate t (sent_expression b k count)))

  completes : Does m d later n v changes
  unfolding with_ports with_behavior with_job with_code with_cpu send assign missed_of Misses Apart
  completes =
      let few : m.threads ≤ max_threads = g.threads in
      let a : ThreadsSized s.threads = h.sized in
      let x : JobShown m (d t) (now_of s) (job_of s t) v t = h.jobs t (omega arith) in
      ends_does m g d s v h n t l completed none to (missed_of s t) (store max_threads s.threads.behavior t to) s.threads.missed (send m s immediate t ports) changes (record {
        stopped = λ e. omega arith;
        known = omega arith;
        begun = λ e. x.reached.begun (omega arith);
        before = λ e. x.reached.missed_before (omega arith);
        counted = x.reached.missed;
        states = put to;
        state = item_store_same max_threads s.threads.behavior t to 0 (omega arith) (omega arith);
        counts = same;
        counter = refl;
        apart = (
          (λ e. omega arith, (λ e. omega arith, tail_miss (state_var t) (omega arith) (omega arith))),
          ((λ e. omega arith, tail_miss cpu_var (omega arith) (omega arith)), (tail_miss (end_var t) (omega arith) (omega arith), tail_apart)),
        );
        misses = λ j b q. complete_miss j (omega arith) (q.0, q.1, q.2, q.3);
        code_shown = value_written n v changes v (state_var t) h.size (omega arith) ∙
            (updated_here n v (state_var t) (copied (constant completed)) _ _ (λ e. omega arith, (λ e. omega arith, tail_miss (state_var t) (omega arith) (omega arith))) ∙ constant_worth n v completed);
        cpu_shown = value_written n v changes v cpu_var h.size (omega arith) ∙
            (updated_there n v cpu_var (set_to (state_var t) completed) _ _ (λ e. omega arith) ∙
            (updated_here n v cpu_var (copied (constant none)) _ _ (λ e. omega arith, tail_miss cpu_var (omega arith) (omega arith)) ∙ constant_worth n v none));
        behavior_shown = left (behavior_var t) (omega arith) (omega arith) ∙
            (updated_miss n v (behavior_var t) sends _ (sends_miss (behavior_var t) (omega arith)) ∙
            (updated_miss n v (behavior_var t) assigns _ (assigns_miss (behavior_var t) (omega arith)) ∙ moved));
        missed_shown = complete_kept (missed_var t) (omega arith) (omega arith) ∙ x.missed;
        ports = record {
          input = column_kept h.ports.input (λ i p. complete_kept (input_var i) (omega arith) (omega arith));
          buffer = send_shown m g immediate t (sent_expression b k count) n s ports v after h.live
              (λ o p. let a : m.outputs ≤ max_outputs = g.outputs in sent_same m g b k count good single d s v match n o (omega arith) h.ports.output) h.ports.buffer
              (λ i p. sends_left (buffer_var i) (omega arith) (omega arith));
          output = outputs_shown m g b k count good single d s v match n after h.ports.output (λ i p. assigns_left (output_var i) (omega arith) (omega arith));
          local = locals_shown m g b k count good single d s v match n after h.ports.local (λ i p. assigns_left (local_var i) (omega arith) (omega arith));
        };
      })

module _ (m : Model) (f : WellFormed m) (d : Dispatched) (s : State) (v : List Value) (h : Match m.timing d s v) (n t : ℕ) (l : t < m.timing.threads) where
  abbrev first : ℕ
  first = first_open m.behavior s t

  job_runs : can_complete s t ≡ true → code_of s t ≡ execution
  unfolding can_complete
  job_runs e = eqb-true (code_of s t) execution (and_left _ _ e)

  pub transition_does : can_complete s t ≡ true → first < m.behavior.transitions → Does m.timing d (complete m s t) n v (transition_rule m t first).updates
  unfolding taken_transition end_job transition_rule Within Apart Misses
  transition_does e q =
      rw (complete_at_once m s t, lt-ltb first m.behavior.transitions q, eq-eqb (code_of s t) execution (job_runs e))
      (completes m.timing f.timing m.behavior d s v h n t l (job_runs e) (transition_at m.behavior first).to (set_to (behavior_var t) (transition_at m.behavior first).to ∷ [])
      first (transition_at m.behavior first).assignments (omega arith) (tt, tt)
      (updated_here n v (behavior_var t) (copied (constant (transition_at m.behavior first).to)) [] _ tt ∙ constant_worth n v (transition_at m.behavior first).to)
      (λ j p. f.behavior.assignment first j q p) (λ i j p r. f.behavior.single first i j q p r))

  pub default_does : can_complete s t ≡ true → m.behavior.transitions ≤ first → Does m.timing d (complete m s t) n v (default_rule m t).updates
  unfolding taken_transition end_job default_rule Within Apart updated assignment_updates sent_expression join_below fold_below
  default_does e q =
      let few : m.timing.threads ≤ max_threads = f.timing.threads in
      rw (complete_at_once m s t, le-ltb first m.behavior.transitions q, eq-eqb (code_of s t) execution (job_runs e))
      (completes m.timing f.timing m.behavior d s v h n t l (job_runs e) (behavior_of s t) [] first 0 tt tt (h.behavior t (omega arith))
      (λ j p. absurd (omega arith)) (λ i j p r. absurd (omega arith)))

  pub complete_does : can_complete s t ≡ true → Does m.timing d (complete m s t) n v (complete_rule m s t).updates
  complete_does e = go (dec_lt first m.behavior.transitions)
    where
      go : Dec (first < m.behavior.transitions) → Does m.timing d (complete m s t) n v (complete_rule m s t).updates
      go (yes q) = rw (lt-ltb first m.behavior.transitions q) (transition_does e q)
      go (no q) = rw (le-ltb first m.behavior.transitions (omega arith)) (default_does e (omega arith))
