-- Laws of a state in a list of numbers: what one number stored does to the state, and what one number read is of it.
use Rattle.std.specs.Prelude.{◌≡◌, Bool, false, List, ℕ, ◌+◌, ◌<◌, ◌≤◌, get_or, set, length}
use Rattle.std.proofs.Common.{◌∙◌, arith, SFits, le-ltb, sym, ap, get_or-set_same, get_or-set_other}
use Rattle.std.specs.Int.{w32}
use Rattle.std.proofs.lemmas.Int.{to_z-of_z}
use Rattle.numbers.specs.declared.Value.{Value}
use Rattle.numbers.specs.Values.{duration, natural, bits_of}
use Rattle.model_format.specs.declared.Timing.{Timing}
use Rattle.model_format.specs.Model.{max_threads, max_inputs, max_outputs, max_locals, max_connections}
use Rattle.model_semantics.specs.declared.State.{State}
use Rattle.model_semantics.specs.State.{is_active, code_of, dispatch_time, length_of, spent_of, behavior_of, missed_of, is_live, input_value, buffer_value, output_value, local_value, with_live, with_ports, with_now, with_entered, with_mode, with_phase, with_cpu, with_active, with_code, with_dispatch_time, with_job, with_spent, with_behavior, with_missed}
use Rattle.model_state.specs.Words.{now_place, entered_place, mode_place, phase_place, pending_place, cpu_place, clock_words, active_base, code_base, dispatched_base, length_base, spent_base, behavior_base, missed_base, live_base, input_base, buffer_base, output_base, local_base, byte_in, mark_in, duration_in, value_in, number_in, section, clock_in, threads_in, ports_in, state_in}
use Rattle.model_state.specs.Parts.{with_length, with_input, with_buffer, with_output, with_local, put_active, put_live, put_input, put_buffer, put_output, put_local}
use Rattle.model_state.specs.Sections.{section_at, section_past, section_set, section_before, section_after}

-- ---- a number stored elsewhere
module _ (l : List ℕ) (p n : ℕ) where
  clock_same : clock_words ≤ p → clock_in (set l p n) ≡ clock_in l
  unfolding clock_in
  clock_same h =
      rw (get_or-set_other l p now_place n 0 (λ e. omega arith), get_or-set_other l p entered_place n 0 (λ e. omega arith), get_or-set_other l p mode_place n 0 (λ e. omega arith), get_or-set_other l p phase_place n 0 (λ e. omega arith), get_or-set_other l p pending_place n 0 (λ e. omega arith), get_or-set_other l p cpu_place n 0 (λ e. omega arith))

  threads_before : p < active_base → threads_in (set l p n) ≡ threads_in l
  unfolding threads_in
  threads_before h =
      rw (section_before mark_in active_base max_threads l p n (omega arith), section_before byte_in code_base max_threads l p n (omega arith), section_before duration_in dispatched_base max_threads l p n (omega arith), section_before duration_in length_base max_threads l p n (omega arith), section_before duration_in spent_base max_threads l p n (omega arith), section_before byte_in behavior_base max_threads l p n (omega arith), section_before number_in missed_base max_threads l p n (omega arith))

  threads_after : live_base ≤ p → threads_in (set l p n) ≡ threads_in l
  unfolding threads_in
  threads_after h =
      rw (section_after mark_in active_base max_threads l p n (omega arith), section_after byte_in code_base max_threads l p n (omega arith), section_after duration_in dispatched_base max_threads l p n (omega arith), section_after duration_in length_base max_threads l p n (omega arith), section_after duration_in spent_base max_threads l p n (omega arith), section_after byte_in behavior_base max_threads l p n (omega arith), section_after number_in missed_base max_threads l p n (omega arith))

  ports_before : p < input_base → ports_in (set l p n) ≡ ports_in l
  unfolding ports_in
  ports_before h =
      rw (section_before value_in input_base max_inputs l p n (omega arith), section_before value_in buffer_base max_inputs l p n (omega arith), section_before value_in output_base max_outputs l p n (omega arith), section_before value_in local_base max_locals l p n (omega arith))

  live_before : p < live_base → section mark_in live_base max_connections (set l p n) ≡ section mark_in live_base max_connections l
  live_before h = section_before mark_in live_base max_connections l p n h

  live_after : input_base ≤ p → section mark_in live_base max_connections (set l p n) ≡ section mark_in live_base max_connections l
  live_after h = section_after mark_in live_base max_connections l p n (omega arith)

-- ---- one number stored: n at the place of item t
module _ (l : List ℕ) (t n : ℕ) (h : t < max_threads) where
  active_set : state_in (set l (active_base + t) n) ≡ put_active (state_in l) t (mark_in n)
  unfolding state_in threads_in put_active with_active
  active_set =
      rw (clock_same l (active_base + t) n (omega arith), section_set mark_in active_base max_threads l t n h, section_before byte_in code_base max_threads l (active_base + t) n (omega arith), section_before duration_in dispatched_base max_threads l (active_base + t) n (omega arith), section_before duration_in length_base max_threads l (active_base + t) n (omega arith), section_before duration_in spent_base max_threads l (active_base + t) n (omega arith), section_before byte_in behavior_base max_threads l (active_base + t) n (omega arith), section_before number_in missed_base max_threads l (active_base + t) n (omega arith), live_before l (active_base + t) n (omega arith), ports_before l (active_base + t) n (omega arith))

  code_set : state_in (set l (code_base + t) n) ≡ with_code (state_in l) t (byte_in n)
  unfolding state_in threads_in with_code
  code_set =
      rw (clock_same l (code_base + t) n (omega arith), section_after mark_in active_base max_threads l (code_base + t) n (omega arith), section_set byte_in code_base max_threads l t n h, section_before duration_in dispatched_base max_threads l (code_base + t) n (omega arith), section_before duration_in length_base max_threads l (code_base + t) n (omega arith), section_before duration_in spent_base max_threads l (code_base + t) n (omega arith), section_before byte_in behavior_base max_threads l (code_base + t) n (omega arith), section_before number_in missed_base max_threads l (code_base + t) n (omega arith), live_before l (code_base + t) n (omega arith), ports_before l (code_base + t) n (omega arith))

  dispatched_set : state_in (set l (dispatched_base + t) n) ≡ with_dispatch_time (state_in l) t n
  unfolding state_in threads_in with_dispatch_time
  dispatched_set =
      rw (clock_same l (dispatched_base + t) n (omega arith), section_after mark_in active_base max_threads l (dispatched_base + t) n (omega arith), section_after byte_in code_base max_threads l (dispatched_base + t) n (omega arith), section_set duration_in dispatched_base max_threads l t n h, section_before duration_in length_base max_threads l (dispatched_base + t) n (omega arith), section_before duration_in spent_base max_threads l (dispatched_base + t) n (omega arith), section_before byte_in behavior_base max_threads l (dispatched_base + t) n (omega arith), section_before number_in missed_base max_threads l (dispatched_base + t) n (omega arith), live_before l (dispatched_base + t) n (omega arith), ports_before l (dispatched_base + t) n (omega arith))

  length_set : state_in (set l (length_base + t) n) ≡ with_length (state_in l) t n
  unfolding state_in threads_in with_length
  length_set =
      rw (clock_same l (length_base + t) n (omega arith), section_after mark_in active_base max_threads l (length_base + t) n (omega arith), section_after byte_in code_base max_threads l (length_base + t) n (omega arith), section_after duration_in dispatched_base max_threads l (length_base + t) n (omega arith), section_set duration_in length_base max_threads l t n h, section_before duration_in spent_base max_threads l (length_base + t) n (omega arith), section_before byte_in behavior_base max_threads l (length_base + t) n (omega arith), section_before number_in missed_base max_threads l (length_base + t) n (omega arith), live_before l (length_base + t) n (omega arith), ports_before l (length_base + t) n (omega arith))

  spent_set : state_in (set l (spent_base + t) n) ≡ with_spent (state_in l) t n
  unfolding state_in threads_in with_spent
  spent_set =
      rw (clock_same l (spent_base + t) n (omega arith), section_after mark_in active_base max_threads l (spent_base + t) n (omega arith), section_after byte_in code_base max_threads l (spent_base + t) n (omega arith), section_after duration_in dispatched_base max_threads l (spent_base + t) n (omega arith), section_after duration_in length_base max_threads l (spent_base + t) n (omega arith), section_set duration_in spent_base max_threads l t n h, section_before byte_in behavior_base max_threads l (spent_base + t) n (omega arith), section_before number_in missed_base max_threads l (spent_base + t) n (omega arith), live_before l (spent_base + t) n (omega arith), ports_before l (spent_base + t) n (omega arith))

  behavior_set : state_in (set l (behavior_base + t) n) ≡ with_behavior (state_in l) t (byte_in n)
  unfolding state_in threads_in with_behavior
  behavior_set =
      rw (clock_same l (behavior_base + t) n (omega arith), section_after mark_in active_base max_threads l (behavior_base + t) n (omega arith), section_after byte_in code_base max_threads l (behavior_base + t) n (omega arith), section_after duration_in dispatched_base max_threads l (behavior_base + t) n (omega arith), section_after duration_in length_base max_threads l (behavior_base + t) n (omega arith), section_after duration_in spent_base max_threads l (behavior_base + t) n (omega arith), section_set byte_in behavior_base max_threads l t n h, section_before number_in missed_base max_threads l (behavior_base + t) n (omega arith), live_before l (behavior_base + t) n (omega arith), ports_before l (behavior_base + t) n (omega arith))

  missed_set : state_in (set l (missed_base + t) n) ≡ with_missed (state_in l) t n
  unfolding state_in threads_in with_missed
  missed_set =
      rw (clock_same l (missed_base + t) n (omega arith), section_after mark_in active_base max_threads l (missed_base + t) n (omega arith), section_after byte_in code_base max_threads l (missed_base + t) n (omega arith), section_after duration_in dispatched_base max_threads l (missed_base + t) n (omega arith), section_after duration_in length_base max_threads l (missed_base + t) n (omega arith), section_after duration_in spent_base max_threads l (missed_base + t) n (omega arith), section_after byte_in behavior_base max_threads l (missed_base + t) n (omega arith), section_set number_in missed_base max_threads l t n h, live_before l (missed_base + t) n (omega arith), ports_before l (missed_base + t) n (omega arith))

live_set : (l : List ℕ) (c n : ℕ) → c < max_connections → state_in (set l (live_base + c) n) ≡ put_live (state_in l) c (mark_in n)
unfolding state_in put_live with_live
live_set l c n h =
    rw (clock_same l (live_base + c) n (omega arith), threads_after l (live_base + c) n (omega arith), section_set mark_in live_base max_connections l c n h, ports_before l (live_base + c) n (omega arith))

module _ (l : List ℕ) (i n : ℕ) where
  input_set : i < max_inputs → state_in (set l (input_base + i) n) ≡ put_input (state_in l) i (value_in n)
  unfolding state_in ports_in put_input with_input with_ports
  input_set h =
      rw (clock_same l (input_base + i) n (omega arith), threads_after l (input_base + i) n (omega arith), live_after l (input_base + i) n (omega arith), section_set value_in input_base max_inputs l i n h, section_before value_in buffer_base max_inputs l (input_base + i) n (omega arith), section_before value_in output_base max_outputs l (input_base + i) n (omega arith), section_before value_in local_base max_locals l (input_base + i) n (omega arith))

  buffer_set : i < max_inputs → state_in (set l (buffer_base + i) n) ≡ put_buffer (state_in l) i (value_in n)
  unfolding state_in ports_in put_buffer with_buffer with_ports
  buffer_set h =
      rw (clock_same l (buffer_base + i) n (omega arith), threads_after l (buffer_base + i) n (omega arith), live_after l (buffer_base + i) n (omega arith), section_after value_in input_base max_inputs l (buffer_base + i) n (omega arith), section_set value_in buffer_base max_inputs l i n h, section_before value_in output_base max_outputs l (buffer_base + i) n (omega arith), section_before value_in local_base max_locals l (buffer_base + i) n (omega arith))

  output_set : i < max_outputs → state_in (set l (output_base + i) n) ≡ put_output (state_in l) i (value_in n)
  unfolding state_in ports_in put_output with_output with_ports
  output_set h =
      rw (clock_same l (output_base + i) n (omega arith), threads_after l (output_base + i) n (omega arith), live_after l (output_base + i) n (omega arith), section_after value_in input_base max_inputs l (output_base + i) n (omega arith), section_after value_in buffer_base max_inputs l (output_base + i) n (omega arith), section_set value_in output_base max_outputs l i n h, section_before value_in local_base max_locals l (output_base + i) n (omega arith))

  local_set : i < max_locals → state_in (set l (local_base + i) n) ≡ put_local (state_in l) i (value_in n)
  unfolding state_in ports_in put_local with_local with_ports
  local_set h =
      rw (clock_same l (local_base + i) n (omega arith), threads_after l (local_base + i) n (omega arith), live_after l (local_base + i) n (omega arith), section_after value_in input_base max_inputs l (local_base + i) n (omega arith), section_after value_in buffer_base max_inputs l (local_base + i) n (omega arith), section_after value_in output_base max_outputs l (local_base + i) n (omega arith), section_set value_in local_base max_locals l i n h)

-- of the clock, which the list must hold
module _ (l : List ℕ) (n : ℕ) (h : clock_words ≤ length l) where
  now_set : state_in (set l now_place n) ≡ with_now (state_in l) n
  unfolding state_in clock_in with_now
  now_set =
      rw (get_or-set_same l now_place n 0 (omega arith), get_or-set_other l now_place entered_place n 0 (λ e. omega arith), get_or-set_other l now_place mode_place n 0 (λ e. omega arith), get_or-set_other l now_place phase_place n 0 (λ e. omega arith), get_or-set_other l now_place pending_place n 0 (λ e. omega arith), get_or-set_other l now_place cpu_place n 0 (λ e. omega arith), threads_before l now_place n (omega arith), live_before l now_place n (omega arith), ports_before l now_place n (omega arith))

  entered_set : state_in (set l entered_place n) ≡ with_entered (state_in l) n
  unfolding state_in clock_in with_entered
  entered_set =
      rw (get_or-set_other l entered_place now_place n 0 (λ e. omega arith), get_or-set_same l entered_place n 0 (omega arith), get_or-set_other l entered_place mode_place n 0 (λ e. omega arith), get_or-set_other l entered_place phase_place n 0 (λ e. omega arith), get_or-set_other l entered_place pending_place n 0 (λ e. omega arith), get_or-set_other l entered_place cpu_place n 0 (λ e. omega arith), threads_before l entered_place n (omega arith), live_before l entered_place n (omega arith), ports_before l entered_place n (omega arith))

  mode_set : state_in (set l mode_place n) ≡ with_mode (state_in l) (byte_in n)
  unfolding state_in clock_in with_mode
  mode_set =
      rw (get_or-set_other l mode_place now_place n 0 (λ e. omega arith), get_or-set_other l mode_place entered_place n 0 (λ e. omega arith), get_or-set_same l mode_place n 0 (omega arith), get_or-set_other l mode_place phase_place n 0 (λ e. omega arith), get_or-set_other l mode_place pending_place n 0 (λ e. omega arith), get_or-set_other l mode_place cpu_place n 0 (λ e. omega arith), threads_before l mode_place n (omega arith), live_before l mode_place n (omega arith), ports_before l mode_place n (omega arith))

  phase_set : state_in (set l phase_place n) ≡ with_phase (state_in l) (byte_in n) (state_in l).clock.pending
  unfolding state_in clock_in with_phase
  phase_set =
      rw (get_or-set_other l phase_place now_place n 0 (λ e. omega arith), get_or-set_other l phase_place entered_place n 0 (λ e. omega arith), get_or-set_other l phase_place mode_place n 0 (λ e. omega arith), get_or-set_same l phase_place n 0 (omega arith), get_or-set_other l phase_place pending_place n 0 (λ e. omega arith), get_or-set_other l phase_place cpu_place n 0 (λ e. omega arith), threads_before l phase_place n (omega arith), live_before l phase_place n (omega arith), ports_before l phase_place n (omega arith))

  pending_set : state_in (set l pending_place n) ≡ with_phase (state_in l) (state_in l).clock.phase (byte_in n)
  unfolding state_in clock_in with_phase
  pending_set =
      rw (get_or-set_other l pending_place now_place n 0 (λ e. omega arith), get_or-set_other l pending_place entered_place n 0 (λ e. omega arith), get_or-set_other l pending_place mode_place n 0 (λ e. omega arith), get_or-set_other l pending_place phase_place n 0 (λ e. omega arith), get_or-set_same l pending_place n 0 (omega arith), get_or-set_other l pending_place cpu_place n 0 (λ e. omega arith), threads_before l pending_place n (omega arith), live_before l pending_place n (omega arith), ports_before l pending_place n (omega arith))

  cpu_set : (m : Timing) (t : ℕ) → state_in (set l cpu_place n) ≡ with_cpu m (state_in l) t (byte_in n)
  unfolding state_in clock_in with_cpu
  cpu_set m t =
      rw (get_or-set_other l cpu_place now_place n 0 (λ e. omega arith), get_or-set_other l cpu_place entered_place n 0 (λ e. omega arith), get_or-set_other l cpu_place mode_place n 0 (λ e. omega arith), get_or-set_other l cpu_place phase_place n 0 (λ e. omega arith), get_or-set_other l cpu_place pending_place n 0 (λ e. omega arith), get_or-set_same l cpu_place n 0 (omega arith), threads_before l cpu_place n (omega arith), live_before l cpu_place n (omega arith), ports_before l cpu_place n (omega arith))

-- ---- the same as the code has it: x is the list after, and the number n stored stands for what is put
pub byte_back : (n b : ℕ) → n ≡ b → b < 256 → byte_in n ≡ b
unfolding byte_in
byte_back n b e h = omega arith

pub value_back : (n : ℕ) (v : Value) → n ≡ bits_of v.0 → SFits w32 v.0 → value_in n ≡ v
unfolding value_in
value_back n v e h = rw (e, to_z-of_z w32 v.0 h)

module _ (l x : List ℕ) (t n : ℕ) where
  pub put_active_lem : (b : Bool) → t < max_threads → x ≡ set l (active_base + t) n → mark_in n ≡ b → state_in x ≡ put_active (state_in l) t b
  put_active_lem b h e f = ap state_in e ∙ active_set l t n h ∙ ap (put_active (state_in l) t) f

  pub put_code : (b : ℕ) → t < max_threads → x ≡ set l (code_base + t) n → byte_in n ≡ b → state_in x ≡ with_code (state_in l) t b
  put_code b h e f = ap state_in e ∙ code_set l t n h ∙ ap (with_code (state_in l) t) f

  pub put_dispatched : (b : ℕ) → t < max_threads → x ≡ set l (dispatched_base + t) n → n ≡ b → state_in x ≡ with_dispatch_time (state_in l) t b
  put_dispatched b h e f = ap state_in e ∙ dispatched_set l t n h ∙ ap (with_dispatch_time (state_in l) t) f

  pub put_length : (b : ℕ) → t < max_threads → x ≡ set l (length_base + t) n → n ≡ b → state_in x ≡ with_length (state_in l) t b
  put_length b h e f = ap state_in e ∙ length_set l t n h ∙ ap (with_length (state_in l) t) f

  pub put_spent : (b : ℕ) → t < max_threads → x ≡ set l (spent_base + t) n → n ≡ b → state_in x ≡ with_spent (state_in l) t b
  put_spent b h e f = ap state_in e ∙ spent_set l t n h ∙ ap (with_spent (state_in l) t) f

  pub put_behavior : (b : ℕ) → t < max_threads → x ≡ set l (behavior_base + t) n → byte_in n ≡ b → state_in x ≡ with_behavior (state_in l) t b
  put_behavior b h e f = ap state_in e ∙ behavior_set l t n h ∙ ap (with_behavior (state_in l) t) f

  pub put_missed : (b : ℕ) → t < max_threads → x ≡ set l (missed_base + t) n → n ≡ b → state_in x ≡ with_missed (state_in l) t b
  put_missed b h e f = ap state_in e ∙ missed_set l t n h ∙ ap (with_missed (state_in l) t) f

  pub put_live_lem : (b : Bool) → t < max_connections → x ≡ set l (live_base + t) n → mark_in n ≡ b → state_in x ≡ put_live (state_in l) t b
  put_live_lem b h e f = ap state_in e ∙ live_set l t n h ∙ ap (put_live (state_in l) t) f

  pub put_input_lem : (v : Value) → t < max_inputs → x ≡ set l (input_base + t) n → value_in n ≡ v → state_in x ≡ put_input (state_in l) t v
  put_input_lem v h e f = ap state_in e ∙ input_set l t n h ∙ ap (put_input (state_in l) t) f

  pub put_buffer_lem : (v : Value) → t < max_inputs → x ≡ set l (buffer_base + t) n → value_in n ≡ v → state_in x ≡ put_buffer (state_in l) t v
  put_buffer_lem v h e f = ap state_in e ∙ buffer_set l t n h ∙ ap (put_buffer (state_in l) t) f

  pub put_output_lem : (v : Value) → t < max_outputs → x ≡ set l (output_base + t) n → value_in n ≡ v → state_in x ≡ put_output (state_in l) t v
  put_output_lem v h e f = ap state_in e ∙ output_set l t n h ∙ ap (put_output (state_in l) t) f

  pub put_local_lem : (v : Value) → t < max_locals → x ≡ set l (local_base + t) n → value_in n ≡ v → state_in x ≡ put_local (state_in l) t v
  put_local_lem v h e f = ap state_in e ∙ local_set l t n h ∙ ap (put_local (state_in l) t) f

module _ (l x : List ℕ) (n : ℕ) (h : clock_words ≤ length l) where
  pub put_now : (b : ℕ) → x ≡ set l now_place n → n ≡ b → state_in x ≡ with_now (state_in l) b
  put_now b e f = ap state_in e ∙ now_set l n h ∙ ap (λ (k : ℕ). with_now (state_in l) k) f

  pub put_entered : (b : ℕ) → x ≡ set l entered_place n → n ≡ b → state_in x ≡ with_entered (state_in l) b
  put_entered b e f = ap state_in e ∙ entered_set l n h ∙ ap (λ (k : ℕ). with_entered (state_in l) k) f

  pub put_mode : (b : ℕ) → x ≡ set l mode_place n → byte_in n ≡ b → state_in x ≡ with_mode (state_in l) b
  put_mode b e f = ap state_in e ∙ mode_set l n h ∙ ap (λ (k : ℕ). with_mode (state_in l) k) f

  pub put_phase : (b : ℕ) → x ≡ set l phase_place n → byte_in n ≡ b → state_in x ≡ with_phase (state_in l) b (state_in l).clock.pending
  put_phase b e f = ap state_in e ∙ phase_set l n h ∙ ap (λ (k : ℕ). with_phase (state_in l) k (state_in l).clock.pending) f

  pub put_pending : (b : ℕ) → x ≡ set l pending_place n → byte_in n ≡ b → state_in x ≡ with_phase (state_in l) (state_in l).clock.phase b
  put_pending b e f = ap state_in e ∙ pending_set l n h ∙ ap (λ (k : ℕ). with_phase (state_in l) (state_in l).clock.phase k) f

  pub put_cpu : (b : ℕ) → x ≡ set l cpu_place n → byte_in n ≡ b → (m : Timing) (t : ℕ) → state_in x ≡ with_cpu m (state_in l) t b
  put_cpu b e f m t = ap state_in e ∙ cpu_set l n h m t ∙ ap (λ (k : ℕ). with_cpu m (state_in l) t k) f

-- two numbers
pub put_both : (s r q : State) (phase pending : ℕ) → r ≡ with_phase s phase s.clock.pending → q ≡ with_phase r r.clock.phase pending → q ≡ with_phase s phase pending
unfolding with_phase
put_both s r q phase pending e f = f ∙ rw e

pub put_job : (s r q : State) (t n : ℕ) → r ≡ with_length s t n → q ≡ with_spent r t 0 → q ≡ with_job s t n 0
unfolding with_length with_spent with_job
put_job s r q t n e f = f ∙ rw e

-- ---- an item past its array is not stored
module _ (s : State) (t : ℕ) where
  pub skip_active : (b : Bool) → max_threads ≤ t → s ≡ put_active s t b
  unfolding put_active with_active
  skip_active b h = rw (le-ltb t max_threads h)

  pub skip_code : (b : ℕ) → max_threads ≤ t → s ≡ with_code s t b
  unfolding with_code
  skip_code b h = rw (le-ltb t max_threads h)

  pub skip_dispatched : (b : ℕ) → max_threads ≤ t → s ≡ with_dispatch_time s t b
  unfolding with_dispatch_time
  skip_dispatched b h = rw (le-ltb t max_threads h)

  pub skip_length : (b : ℕ) → max_threads ≤ t → s ≡ with_length s t b
  unfolding with_length
  skip_length b h = rw (le-ltb t max_threads h)

  pub skip_spent : (b : ℕ) → max_threads ≤ t → s ≡ with_spent s t b
  unfolding with_spent
  skip_spent b h = rw (le-ltb t max_threads h)

  pub skip_behavior : (b : ℕ) → max_threads ≤ t → s ≡ with_behavior s t b
  unfolding with_behavior
  skip_behavior b h = rw (le-ltb t max_threads h)

  pub skip_missed : (b : ℕ) → max_threads ≤ t → s ≡ with_missed s t b
  unfolding with_missed
  skip_missed b h = rw (le-ltb t max_threads h)

  pub skip_live : (b : Bool) → max_connections ≤ t → s ≡ put_live s t b
  unfolding put_live with_live
  skip_live b h = rw (le-ltb t max_connections h)

  pub skip_input : (v : Value) → max_inputs ≤ t → s ≡ put_input s t v
  unfolding put_input with_input with_ports
  skip_input v h = rw (le-ltb t max_inputs h)

  pub skip_buffer : (v : Value) → max_inputs ≤ t → s ≡ put_buffer s t v
  unfolding put_buffer with_buffer with_ports
  skip_buffer v h = rw (le-ltb t max_inputs h)

  pub skip_output : (v : Value) → max_outputs ≤ t → s ≡ put_output s t v
  unfolding put_output with_output with_ports
  skip_output v h = rw (le-ltb t max_outputs h)

  pub skip_local : (v : Value) → max_locals ≤ t → s ≡ put_local s t v
  unfolding put_local with_local with_ports
  skip_local v h = rw (le-ltb t max_locals h)

-- ---- one number read: k at the place of item t
module _ (l : List ℕ) (t : ℕ) where
  pub active_past : max_threads ≤ t → false ≡ is_active (state_in l) t
  unfolding state_in threads_in is_active
  active_past h = sym (section_past mark_in active_base max_threads l t (false) h)

  pub active_at : (k : ℕ) → t < max_threads → k ≡ get_or l (active_base + t) 0 → mark_in k ≡ is_active (state_in l) t
  unfolding state_in threads_in is_active mark_in
  active_at k h e = ap mark_in e ∙ sym (section_at mark_in active_base max_threads l t h)

  pub code_past : max_threads ≤ t → 0 ≡ code_of (state_in l) t
  unfolding state_in threads_in code_of
  code_past h = sym (section_past byte_in code_base max_threads l t (0) h)

  pub code_at : (k : ℕ) → t < max_threads → k ≡ get_or l (code_base + t) 0 → byte_in k ≡ code_of (state_in l) t
  unfolding state_in threads_in code_of byte_in
  code_at k h e = ap byte_in e ∙ sym (section_at byte_in code_base max_threads l t h)

  pub dispatched_past : max_threads ≤ t → duration 0 ≡ duration (dispatch_time (state_in l) t)
  unfolding state_in threads_in dispatch_time
  dispatched_past h = sym (section_past duration_in dispatched_base max_threads l t (duration 0) h)

  pub dispatched_at : (k : ℕ) → t < max_threads → k ≡ get_or l (dispatched_base + t) 0 → duration_in k ≡ duration (dispatch_time (state_in l) t)
  unfolding state_in threads_in dispatch_time
  dispatched_at k h e = ap duration_in e ∙ sym (section_at duration_in dispatched_base max_threads l t h)

  pub length_past : max_threads ≤ t → duration 0 ≡ duration (length_of (state_in l) t)
  unfolding state_in threads_in length_of
  length_past h = sym (section_past duration_in length_base max_threads l t (duration 0) h)

  pub length_at : (k : ℕ) → t < max_threads → k ≡ get_or l (length_base + t) 0 → duration_in k ≡ duration (length_of (state_in l) t)
  unfolding state_in threads_in length_of
  length_at k h e = ap duration_in e ∙ sym (section_at duration_in length_base max_threads l t h)

  pub spent_past : max_threads ≤ t → duration 0 ≡ duration (spent_of (state_in l) t)
  unfolding state_in threads_in spent_of
  spent_past h = sym (section_past duration_in spent_base max_threads l t (duration 0) h)

  pub spent_at : (k : ℕ) → t < max_threads → k ≡ get_or l (spent_base + t) 0 → duration_in k ≡ duration (spent_of (state_in l) t)
  unfolding state_in threads_in spent_of
  spent_at k h e = ap duration_in e ∙ sym (section_at duration_in spent_base max_threads l t h)

  pub behavior_past : max_threads ≤ t → 0 ≡ behavior_of (state_in l) t
  unfolding state_in threads_in behavior_of
  behavior_past h = sym (section_past byte_in behavior_base max_threads l t (0) h)

  pub behavior_at : (k : ℕ) → t < max_threads → k ≡ get_or l (behavior_base + t) 0 → byte_in k ≡ behavior_of (state_in l) t
  unfolding state_in threads_in behavior_of byte_in
  behavior_at k h e = ap byte_in e ∙ sym (section_at byte_in behavior_base max_threads l t h)

  pub missed_past : max_threads ≤ t → 0 ≡ missed_of (state_in l) t
  unfolding state_in threads_in missed_of
  missed_past h = sym (section_past number_in missed_base max_threads l t (0) h)

  pub missed_at : (k : ℕ) → t < max_threads → k ≡ get_or l (missed_base + t) 0 → number_in k ≡ missed_of (state_in l) t
  unfolding state_in threads_in missed_of
  missed_at k h e = ap number_in e ∙ sym (section_at number_in missed_base max_threads l t h)

  pub live_past : max_connections ≤ t → false ≡ is_live (state_in l) t
  unfolding state_in is_live
  live_past h = sym (section_past mark_in live_base max_connections l t (false) h)

  pub live_at : (k : ℕ) → t < max_connections → k ≡ get_or l (live_base + t) 0 → mark_in k ≡ is_live (state_in l) t
  unfolding state_in is_live mark_in
  live_at k h e = ap mark_in e ∙ sym (section_at mark_in live_base max_connections l t h)

  pub input_past : max_inputs ≤ t → natural 0 ≡ input_value (state_in l).ports t
  unfolding state_in ports_in input_value
  input_past h = sym (section_past value_in input_base max_inputs l t (natural 0) h)

  pub input_at_lem : (k : ℕ) → t < max_inputs → k ≡ get_or l (input_base + t) 0 → value_in k ≡ input_value (state_in l).ports t
  unfolding state_in ports_in input_value value_in
  input_at_lem k h e = ap value_in e ∙ sym (section_at value_in input_base max_inputs l t h)

  pub buffer_past : max_inputs ≤ t → natural 0 ≡ buffer_value (state_in l).ports t
  unfolding state_in ports_in buffer_value
  buffer_past h = sym (section_past value_in buffer_base max_inputs l t (natural 0) h)

  pub buffer_at : (k : ℕ) → t < max_inputs → k ≡ get_or l (buffer_base + t) 0 → value_in k ≡ buffer_value (state_in l).ports t
  unfolding state_in ports_in buffer_value value_in
  buffer_at k h e = ap value_in e ∙ sym (section_at value_in buffer_base max_inputs l t h)

  pub output_past : max_outputs ≤ t → natural 0 ≡ output_value (state_in l).ports t
  unfolding state_in ports_in output_value
  output_past h = sym (section_past value_in output_base max_outputs l t (natural 0) h)

  pub output_at : (k : ℕ) → t < max_outputs → k ≡ get_or l (output_base + t) 0 → value_in k ≡ output_value (state_in l).ports t
  unfolding state_in ports_in output_value value_in
  output_at k h e = ap value_in e ∙ sym (section_at value_in output_base max_outputs l t h)

  pub local_past : max_locals ≤ t → natural 0 ≡ local_value (state_in l).ports t
  unfolding state_in ports_in local_value
  local_past h = sym (section_past value_in local_base max_locals l t (natural 0) h)

  pub local_at : (k : ℕ) → t < max_locals → k ≡ get_or l (local_base + t) 0 → value_in k ≡ local_value (state_in l).ports t
  unfolding state_in ports_in local_value value_in
  local_at k h e = ap value_in e ∙ sym (section_at value_in local_base max_locals l t h)

-- the clock
pub clock_at : (l : List ℕ) (now entered mode phase pending cpu mode' phase' pending' cpu' : ℕ) → now ≡ get_or l now_place 0 → entered ≡ get_or l entered_place 0 →
    mode ≡ get_or l mode_place 0 → phase ≡ get_or l phase_place 0 → pending ≡ get_or l pending_place 0 → cpu ≡ get_or l cpu_place 0 →
    mode' ≡ byte_in mode → phase' ≡ byte_in phase → pending' ≡ byte_in pending → cpu' ≡ byte_in cpu →
    record { now = duration now; entered = duration entered; mode = mode'; phase = phase'; pending = pending'; cpu = cpu' } ≡ (state_in l).clock
unfolding state_in clock_in
clock_at l now entered mode phase pending cpu mode' phase' pending' cpu' a b c d e f g h i j = rw (g, h, i, j, a, b, c, d, e, f)

pub now_at : (l : List ℕ) (n : ℕ) → n ≡ get_or l now_place 0 → duration n ≡ (state_in l).clock.now
unfolding state_in clock_in
now_at l n e = ap duration e
