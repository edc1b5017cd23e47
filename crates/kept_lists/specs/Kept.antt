-- For callers who prove: what a list of 32-bit numbers stands for is plain, so a state's list as a start or a step leaves it stands for the state
-- that the call tells.
use Rattle.std.specs.Prelude.{◌≡◌, refl, Bool, true, false, cond, List, [], ◌∷◌, map, ℕ, suc, ◌+◌, ◌*◌, ◌%◌, ◌<◌, ◌≤◌, ltb, get_or, take, drop}
use Rattle.std.proofs.Common.{sym, ◌∙◌, ap, subst, arith, get_or-take, get_or-drop, Fits}
use Rattle.std.proofs.Math.Decide.{dec_lt}
use Rattle.std.proofs.Math.ListN.{length, length-map, length-drop, get_or-eq_default}
use Rattle.std.proofs.Math.Seq.{length-take-le}
use Rattle.std.proofs.lemmas.List.Edits.{sets}
use Rattle.std.specs.Int.{w32}
use mir.ValLaws.{of_z-to_z}
use Rattle.numbers.specs.Lists.{item, list_below}
use Rattle.numbers.specs.ListLaws.{item_below}
use Rattle.numbers.specs.Values.{value, signed}
use Rattle.records.specs.declared.Event.{Event}
use Rattle.model_format.specs.declared.Thread.{Thread}
use Rattle.model_format.specs.declared.Owned.{Owned}
use Rattle.model_format.specs.declared.ModeTransition.{ModeTransition}
use Rattle.model_format.specs.declared.Transition.{Transition}
use Rattle.model_format.specs.declared.Assignment.{Assignment}
use Rattle.model_format.specs.Model.{max_threads, max_inputs, max_outputs, max_locals, max_connections, max_switches, max_transitions, max_each, max_times, no_thread, no_owned, no_switch, no_transition, no_assignment, thread_at, input_at, local_at, switch_at, transition_at, assignment_at}
use Rattle.model_semantics.specs.Machine.{start_state, step}
use Rattle.model_words.specs.Words as words
use Rattle.model_state.specs.Words.{mode_place, phase_place, pending_place, cpu_place, active_base, code_base, dispatched_base, length_base, spent_base, behavior_base, missed_base, live_base, input_base, buffer_base, output_base, local_base, state_words, byte_in, mark_in, duration_in, value_in, number_in, section, clock_in, threads_in, ports_in, state_in}
use Rattle.state_settling.specs.Words.{words_of_state}
use Rattle.kept_lists.specs.Arrays.{Array}
use Rattle.kept_lists.specs.Plain.{byte, again, whole, Plain}
use Rattle.kept_lists.specs.Back.{lent_back}
use Rattle.kept_lists.specs.Steps.{PlainModel, step_plain, start_state_plain}

-- a list of numbers of 32 bits, as every list is that a call is lent
abbrev pub Numbers : List ℕ → Type 0
Numbers l = (p : ℕ) → Fits w32 (get_or l p 0)

byte_twice : (n : ℕ) → byte (byte n) ≡ byte n
byte_twice n = omega arith

value_twice : (n : ℕ) → Fits w32 n → again (value (signed n)) ≡ value (signed n)
value_twice n f = ap (λ (k : ℕ). value (signed k)) (of_z-to_z w32 n f)

-- ---- a model in a list
item_all : {A : Type 0} (room : ℕ) (f : ℕ → A) (i : ℕ) (d : A) (P : A → Type 0) → ((j : ℕ) → P (f j)) → P d → P (item room (list_below room f) i d)
item_all room f i d P h k = subst P (sym (item_below room f i d)) (go (ltb i room))
  where
    go : (b : Bool) → P (cond b (f i) d)
    go true = h i
    go false = k

model_plain : (w : List ℕ) → Numbers w → PlainModel (words.model_in w)
unfolding thread_at input_at local_at switch_at transition_at assignment_at words.timing_in words.behavior_in words.threads_in words.inputs_in words.locals_in words.switches_in words.transitions_in words.assignments_in words.thread_in words.owned_in words.switch_in words.transition_in words.assignment_in
model_plain w f = record {
  initial = byte_twice (get_or w words.initial_place 0);
  first = λ t. item_all max_threads (λ i. words.thread_in w (words.threads_from + i * words.thread_size)) t no_thread (λ (x : Thread). byte x.first ≡ x.first) (λ j. byte_twice _) refl;
  input = λ v. item_all max_inputs (λ i. words.owned_in w (words.inputs_from + i * words.owned_size)) v no_owned (λ (x : Owned). again x.start ≡ x.start) (λ j. value_twice _ (f (words.inputs_from + j * words.owned_size + 1))) refl;
  local = λ v. item_all max_locals (λ i. words.owned_in w (words.locals_from + i * words.owned_size)) v no_owned (λ (x : Owned). again x.start ≡ x.start) (λ j. value_twice _ (f (words.locals_from + j * words.owned_size + 1))) refl;
  switch = λ q. item_all max_switches (λ i. words.switch_in w (words.switches_from + i * words.switch_size)) q no_switch (λ (x : ModeTransition). byte x.to ≡ x.to) (λ j. byte_twice _) refl;
  transition = λ k. item_all max_transitions (λ i. words.transition_in w (words.transitions_from + i * words.transition_size)) k no_transition (λ (x : Transition). byte x.to ≡ x.to) (λ j. byte_twice _) refl;
  left = λ k j. item_all max_times (λ i. words.assignment_in w (words.assignments_from + i * words.assignment_size)) (k * max_each + j) no_assignment (λ (x : Assignment). again x.first.value ≡ x.first.value) (λ i. value_twice _ (f (words.assignments_from + i * words.assignment_size + 3 + 1))) refl;
  right = λ k j. item_all max_times (λ i. words.assignment_in w (words.assignments_from + i * words.assignment_size)) (k * max_each + j) no_assignment (λ (x : Assignment). again x.second.value ≡ x.second.value) (λ i. value_twice _ (f (words.assignments_from + i * words.assignment_size + 5 + 1))) refl;
}

-- ---- a state in a list
map_twice : {A : Type 0} (f : ℕ → A) (g : A → A) → ((n : ℕ) → Fits w32 n → g (f n) ≡ f n) → (l : List ℕ) → Numbers l → map g (map f l) ≡ map f l
map_twice f g e [] h = refl
map_twice {A} f g e (n ∷ l) h = ap (λ (x : A). x ∷ map g (map f l)) (e n (h 0)) ∙ ap (λ (r : List A). f n ∷ r) (map_twice f g e l (λ p. h (suc p)))

part_numbers : (b r : ℕ) (l : List ℕ) → b + r ≤ length l → Numbers l → Numbers (take r (drop b l))
part_numbers b r l h f p = go (dec_lt p r)
  where
    go : Dec (p < r) → Fits w32 (get_or (take r (drop b l)) p 0)
    go (yes k) = subst (Fits w32) (sym (get_or-take r (drop b l) p 0 k ∙ get_or-drop b l p 0)) (f (b + p))
    go (no k) = subst (Fits w32) (sym (get_or-eq_default (take r (drop b l)) 0 (let n = length-take-le r (drop b l) (omega (arith, length-drop b l)) in omega arith))) (record { fits = omega arith })

module _ (l : List ℕ) (h : state_words ≤ length l) (f : Numbers l) where
  array : {A : Type 0} (k : ℕ → A) (g : A → A) (b r : ℕ) → b + r ≤ length l → ((n : ℕ) → Fits w32 n → g (k n) ≡ k n) → Array g r (section k b r l)
  unfolding section
  array k g b r w e = record {
    size = length-map (take r (drop b l)) k ∙ length-take-le r (drop b l) (omega (arith, length-drop b l));
    same = map_twice k g e (take r (drop b l)) (part_numbers b r l w f);
  }

  state_plain : Plain (state_in l)
  unfolding state_in clock_in threads_in ports_in byte_in value_in
  state_plain = record {
    clock = record { mode = byte_twice (get_or l mode_place 0); phase = byte_twice (get_or l phase_place 0); pending = byte_twice (get_or l pending_place 0); cpu = byte_twice (get_or l cpu_place 0) };
    threads = record {
      active = array mark_in whole active_base max_threads (omega arith) (λ n w. refl);
      code = array byte_in byte code_base max_threads (omega arith) (λ n w. byte_twice n);
      dispatched = array duration_in whole dispatched_base max_threads (omega arith) (λ n w. refl);
      length = array duration_in whole length_base max_threads (omega arith) (λ n w. refl);
      spent = array duration_in whole spent_base max_threads (omega arith) (λ n w. refl);
      behavior = array byte_in byte behavior_base max_threads (omega arith) (λ n w. byte_twice n);
      missed = array number_in whole missed_base max_threads (omega arith) (λ n w. refl);
    };
    live = array mark_in whole live_base max_connections (omega arith) (λ n w. refl);
    ports = record {
      input = array value_in again input_base max_inputs (omega arith) value_twice;
      buffer = array value_in again buffer_base max_inputs (omega arith) value_twice;
      output = array value_in again output_base max_outputs (omega arith) value_twice;
      local = array value_in again local_base max_locals (omega arith) value_twice;
    };
  }

-- ---- the model in the list w, a list d that has room: what a start leaves in it, and a step from the state in l by an event whose id is a byte
pub started_back : (w d : List ℕ) → Numbers w → state_words ≤ length d → state_in (sets d 0 (words_of_state (start_state (words.timing_in w)))) ≡ start_state (words.timing_in w)
started_back w d f h = lent_back (start_state (words.timing_in w)) (start_state_plain (words.model_in w) (model_plain w f)) d h

pub stepped_back : (w l d : List ℕ) (e : Event) → Numbers w → Numbers l → state_words ≤ length l → state_words ≤ length d → e.id < 256 →
    state_in (sets d 0 (words_of_state (step (words.model_in w) (state_in l) e).state)) ≡ (step (words.model_in w) (state_in l) e).state
stepped_back w l d e f g h j k =
    lent_back (step (words.model_in w) (state_in l) e).state
    (step_plain (words.model_in w) (model_plain w f) (state_in l) (state_plain l h g) e (let n : e.id % 256 ≡ e.id = omega arith in n)) d j
