-- The start state, part by part, and the laws of the code that makes it.
use Rattle.std.specs.Prelude.{◌≡◌, ◌++◌, false, ℕ, ◌+◌, ◌<◌, ◌≤◌, min, get_or, set, replicate, take, drop}
use Rattle.std.proofs.Math.Path.{refl, sym, ap}
use Rattle.std.proofs.Common.{◌∙◌, arith, length-set, get_or-set_same, get_or-set_other, get_or-take, get_or-drop, le-ltb}
use mathlib.Core.List.{List, map}
use Rattle.std.proofs.Math.Decide.{ℕ_discrete, dec_lt}
use Rattle.std.proofs.Math.ListN.{length, length-map, length-drop, get_or-map, get_or-append, get_or-eq_default}
use Rattle.std.proofs.lemmas.List.{length-replicate, get_or-replicate}
use Rattle.std.proofs.Math.Seq.{length-take-le, ext_get_or}
use Rattle.numbers.specs.declared.Value.{Value}
use Rattle.numbers.specs.Lists.{store, fold_below}
use Rattle.numbers.specs.ListLaws.{fold_next}
use Rattle.numbers.specs.Values.{duration, natural}
use Rattle.model_format.specs.declared.Thread.{Thread}
use Rattle.model_format.specs.declared.Owned.{Owned}
use Rattle.model_format.specs.declared.Timing.{Timing}
use Rattle.model_format.specs.Model.{max_threads, max_inputs, max_outputs, max_locals, max_connections, thread_at, input_at, local_at}
use Rattle.model_semantics.specs.declared.State.{State}
use Rattle.model_semantics.specs.State.{none, with_threads, with_live, with_ports, with_mode, with_phase, with_cpu, with_active, with_behavior}
use Rattle.model_semantics.specs.Effects.{active_in, live_in}
use Rattle.model_semantics.specs.Machine.{start_state}
use Rattle.model_state.specs.Words.{now_place, entered_place, mode_place, phase_place, pending_place, cpu_place, active_base, code_base, dispatched_base, length_base, spent_base, behavior_base, missed_base, live_base, input_base, buffer_base, output_base, local_base, state_words, byte_in, mark_in, duration_in, value_in, number_in, section, clock_in, threads_in, ports_in, state_in}
use Rattle.model_state.specs.Parts.{with_input, with_buffer, with_local, put_input, put_buffer, put_local}
use Rattle.model_tests.specs.Rooms.{fold_end}

-- ---- the first n numbers are 0
pub record Cleared (l : List ℕ) (n : ℕ) : Type 0 where
  pub each : (p : ℕ) → p < n → get_or l p 0 ≡ 0

pub cleared_none : (l : List ℕ) → Cleared l 0
cleared_none l = record { each = λ p h. absurd (omega arith) }

pub cleared_next : (l x : List ℕ) (n : ℕ) → Cleared l n → x ≡ set l n 0 → Cleared x (n + 1)
cleared_next l x n c e = rw e (record { each = λ p h. go p h (ℕ_discrete p n) (dec_lt n (length l)) })
  where
    go : (p : ℕ) → p < n + 1 → Dec (p ≡ n) → Dec (n < length l) → get_or (set l n 0) p 0 ≡ 0
    go p h (yes z) (yes k) = ap (λ (q : ℕ). get_or (set l n 0) q 0) z ∙ get_or-set_same l n 0 0 k
    go p h (yes z) (no k) = get_or-eq_default (set l n 0) 0 (omega (arith, length-set l n 0))
    go p h (no z) d = get_or-set_other l n p 0 0 z ∙ c.each p (omega arith)

pub cleared_all : (l : List ℕ) (n : ℕ) → state_words ≤ n → Cleared l n → Cleared l state_words
cleared_all l n h c = record { each = λ p k. c.each p (omega arith) }

pub cleared_front : (a rest : List ℕ) → a ≡ replicate state_words 0 → Cleared (a ++ rest) state_words
cleared_front a rest e = record { each = λ p h. rw e (get_or-append (replicate state_words 0) rest 0 p (omega (arith, length-replicate {A = ℕ} state_words 0)) ∙ get_or-replicate state_words p 0 0 h) }

module _ (l : List ℕ) (c : Cleared l state_words) (w : state_words ≤ length l) where
  section_clear : {A : Type 0} (f : ℕ → A) (base room : ℕ) → base + room ≤ state_words → section f base room l ≡ replicate room (f 0)
  unfolding section
  section_clear f base room h = ext_get_or (f 0) (map f (take room (drop base l))) (replicate room (f 0)) (size ∙ sym (length-replicate room (f 0))) at
    where
      size : length (map f (take room (drop base l))) ≡ room
      size = length-map (take room (drop base l)) f ∙ length-take-le room (drop base l) (omega (arith, length-drop base l))

      at : (i : ℕ) → i < length (map f (take room (drop base l))) → get_or (map f (take room (drop base l))) i (f 0) ≡ get_or (replicate room (f 0)) i (f 0)
      at i k =
          let b : i < room = omega (arith, size) in
          get_or-map f (take room (drop base l)) i 0 ∙ ap f (get_or-take room (drop base l) i 0 b ∙ get_or-drop base l i 0 ∙ c.each (base + i) (omega arith)) ∙
          sym (get_or-replicate room i (f 0) (f 0) b)

-- all 0
unfoldable pub blank_state : State
blank_state = record {
  clock = record { now = duration 0; entered = duration 0; mode = 0; phase = 0; pending = 0; cpu = 0 };
  threads = record {
    active = replicate max_threads false;
    code = replicate max_threads 0;
    dispatched = replicate max_threads (duration 0);
    length = replicate max_threads (duration 0);
    spent = replicate max_threads (duration 0);
    behavior = replicate max_threads 0;
    missed = replicate max_threads 0;
  };
  live = replicate max_connections false;
  ports = record {
    input = replicate max_inputs (natural 0);
    buffer = replicate max_inputs (natural 0);
    output = replicate max_outputs (natural 0);
    local = replicate max_locals (natural 0);
  };
}

pub cleared_is : (l : List ℕ) → Cleared l state_words → state_words ≤ length l → state_in l ≡ blank_state
unfolding state_in clock_in threads_in ports_in blank_state byte_in mark_in value_in
cleared_is l c w =
    rw (
      c.each now_place (omega arith),
      c.each entered_place (omega arith),
      c.each mode_place (omega arith),
      c.each phase_place (omega arith),
      c.each pending_place (omega arith),
      c.each cpu_place (omega arith),
      section_clear l c w mark_in active_base max_threads (omega arith),
      section_clear l c w byte_in code_base max_threads (omega arith),
      section_clear l c w duration_in dispatched_base max_threads (omega arith),
      section_clear l c w duration_in length_base max_threads (omega arith),
      section_clear l c w duration_in spent_base max_threads (omega arith),
      section_clear l c w byte_in behavior_base max_threads (omega arith),
      section_clear l c w number_in missed_base max_threads (omega arith),
      section_clear l c w mark_in live_base max_connections (omega arith),
      section_clear l c w value_in input_base max_inputs (omega arith),
      section_clear l c w value_in buffer_base max_inputs (omega arith),
      section_clear l c w value_in output_base max_outputs (omega arith),
      section_clear l c w value_in local_base max_locals (omega arith),
    )

-- ---- behaviour states and locals when the first n are set
abbrev pub behaving : Timing → ℕ → List ℕ → List ℕ
behaving m t l = store max_threads l t (thread_at m t).first

abbrev with_behaviors : State → List ℕ → State
with_behaviors s l = with_threads s (record { active = s.threads.active; code = s.threads.code; dispatched = s.threads.dispatched; length = s.threads.length; spent = s.threads.spent; behavior = l; missed = s.threads.missed })

unfoldable pub behaviors_below : Timing → State → ℕ → State
behaviors_below m s n = with_behaviors s (fold_below n (behaving m) s.threads.behavior)

module _ (m : Timing) (s : State) where
  pub behaviors_none : s ≡ behaviors_below m s 0
  unfolding behaviors_below fold_below
  behaviors_none = refl

  pub behaviors_next : (t : ℕ) (x : Thread) (q r : State) → q ≡ behaviors_below m s t → x ≡ thread_at m t → r ≡ with_behavior q t x.first → r ≡ behaviors_below m s (t + 1)
  unfolding behaviors_below with_behavior
  behaviors_next t x q r e f g = g ∙ rw (e, f, fold_next t (behaving m) s.threads.behavior)

  pub behaviors_all : (n t : ℕ) (q : State) → n ≡ min m.threads max_threads → t ≤ n → n ≤ t → q ≡ behaviors_below m s t → q ≡ behaviors_below m s m.threads
  unfolding behaviors_below
  behaviors_all n t q e h k f =
      f ∙ ap (λ (l : List ℕ). with_behaviors s l) (fold_end m.threads max_threads n t (behaving m) s.threads.behavior e h k (λ j x b. rw (le-ltb j max_threads b)))

abbrev pub locating : Timing → ℕ → List Value → List Value
locating m v l = store max_locals l v (local_at m v).start

unfoldable pub locals_below : Timing → State → ℕ → State
locals_below m s n = with_local s (fold_below n (locating m) s.ports.local)

module _ (m : Timing) (s : State) where
  pub locals_none : s ≡ locals_below m s 0
  unfolding locals_below fold_below with_local with_ports
  locals_none = refl

  pub locals_next : (v : ℕ) (x : Owned) (q r : State) → q ≡ locals_below m s v → x ≡ local_at m v → r ≡ put_local q v x.start → r ≡ locals_below m s (v + 1)
  unfolding locals_below put_local with_local with_ports
  locals_next v x q r e f g = g ∙ rw (e, f, fold_next v (locating m) s.ports.local)

  pub locals_all : (n v : ℕ) (q : State) → n ≡ min m.locals max_locals → v ≤ n → n ≤ v → q ≡ locals_below m s v → q ≡ locals_below m s m.locals
  unfolding locals_below
  locals_all n v q e h k f =
      f ∙ ap (with_local s) (fold_end m.locals max_locals n v (locating m) s.ports.local e h k (λ j x b. rw (le-ltb j max_locals b)))

-- the input ports and their buffers
abbrev pub feeding : Timing → ℕ → List Value → List Value
feeding m i l = store max_inputs l i (input_at m i).start

unfoldable pub inputs_below : Timing → State → ℕ → State
inputs_below m s n = with_buffer (with_input s (fold_below n (feeding m) s.ports.input)) (fold_below n (feeding m) s.ports.buffer)

module _ (m : Timing) (s : State) where
  pub inputs_none : s ≡ inputs_below m s 0
  unfolding inputs_below fold_below with_input with_buffer with_ports
  inputs_none = refl

  pub inputs_next : (i : ℕ) (x : Owned) (q r z : State) → q ≡ inputs_below m s i → x ≡ input_at m i → r ≡ put_input q i x.start → z ≡ put_buffer r i x.start → z ≡ inputs_below m s (i + 1)
  unfolding inputs_below put_input put_buffer with_input with_buffer with_ports
  inputs_next i x q r z e f g h = h ∙ rw (g, e, f, fold_next i (feeding m) s.ports.input, fold_next i (feeding m) s.ports.buffer)

  pub inputs_all : (n i : ℕ) (q : State) → n ≡ min m.inputs max_inputs → i ≤ n → n ≤ i → q ≡ inputs_below m s i → q ≡ inputs_below m s m.inputs
  unfolding inputs_below
  inputs_all n i q e h k f =
      f ∙ rw (fold_end m.inputs max_inputs n i (feeding m) s.ports.input e h k (λ j x b. rw (le-ltb j max_inputs b)), fold_end m.inputs max_inputs n i (feeding m) s.ports.buffer e h k (λ j x b. rw (le-ltb j max_inputs b)))

abbrev pub values_set : Timing → State → State
values_set m s = inputs_below m (locals_below m s m.locals) m.inputs

-- ---- all of it
pub started : (m : Timing) (l : List ℕ) (a b c d e f g : State) (mode : ℕ) → Cleared l state_words → state_words ≤ length l → mode ≡ m.initial → a ≡ with_mode (state_in l) mode → b ≡ with_phase a 0 none → c ≡ with_cpu m b 0 none →
    d ≡ with_active c (active_in m mode c.threads.active) → e ≡ behaviors_below m d m.threads → f ≡ with_live e (live_in m mode mode e.live) → g ≡ values_set m f → g ≡ start_state m
unfolding start_state blank_state with_mode with_phase with_cpu with_active with_live behaviors_below locals_below inputs_below with_local with_input with_buffer with_ports
started m l a b c d e f g mode k w z h₁ h₂ h₃ h₄ h₅ h₆ h₇ = h₇ ∙ rw (h₆, h₅, h₄, h₃, h₂, h₁, cleared_is l k w, z)
