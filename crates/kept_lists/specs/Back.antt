-- The numbers of a plain state stand for it.
use Rattle.std.specs.Prelude.{◌≡◌, refl, Bool, true, false, ℕ, ◌+◌, ◌≤◌, take, drop, length}
use Rattle.std.proofs.Common.{sym, ◌∙◌, arith, length-drop, length-append, take_at, drop_at, drop-drop}
use Rattle.std.proofs.Math.Path.{ap}
use mathlib.Core.List.{List, [], ◌∷◌, ◌++◌, map, append_assoc, append-nil}
use Rattle.std.proofs.lemmas.List.{length-map}
use Rattle.std.proofs.Math.ListN.{get_or-append}
use Rattle.std.proofs.lemmas.List.Edits.{sets, sets-eq}
use Rattle.numbers.specs.declared.Value.{Value}
use Rattle.model_format.specs.Model.{max_threads, max_inputs, max_outputs, max_locals, max_connections}
use Rattle.model_semantics.specs.declared.State.{State}
use Rattle.model_state.specs.Words.{active_base, code_base, dispatched_base, length_base, spent_base, behavior_base, missed_base, live_base, input_base, buffer_base, output_base, local_base, state_words, byte_in, mark_in, duration_in, value_in, number_in, section, clock_in, threads_in, ports_in, state_in}
use Rattle.state_settling.specs.Words.{mark_number, duration_number, value_number, clock_numbers, thread_numbers, port_numbers, words_of_state}
use Rattle.state_settling.specs.SameState.{front_same}
use Rattle.kept_lists.specs.Plain.{again, whole, Plain}

-- ---- the array x that stands in l from b on, before z
module _ (b n : ℕ) (l x z : List ℕ) (e : drop b l ≡ x ++ z) (h : length x ≡ n) where
  next : drop (b + n) l ≡ z
  next = sym (drop-drop n b l) ∙ ap (drop n) e ∙ drop_at x z n h

  read : {A : Type 0} (f : ℕ → A) → section f b n l ≡ map f x
  unfolding section
  read f = ap (λ (r : List ℕ). map f (take n r)) e ∙ ap (map f) (take_at x z n h)

-- read back item by item
map_back : {A : Type 0} (f : ℕ → A) (g : A → ℕ) (k : A → A) → ((a : A) → f (g a) ≡ k a) → (l : List A) → map f (map g l) ≡ map k l
map_back f g k e [] = refl
map_back {A} f g k e (a ∷ l) = ap (λ (x : A). x ∷ map f (map g l)) (e a) ∙ ap (λ (r : List A). k a ∷ r) (map_back f g k e l)

mark_back : (b : Bool) → mark_in (mark_number b) ≡ whole b
unfolding mark_in mark_number
mark_back true = refl
mark_back false = refl

value_back : (v : Value) → value_in (value_number v) ≡ again v
unfolding value_in value_number
value_back v = refl

module _ (s : State) (p : Plain s) where
  abbrev W : List ℕ
  W = words_of_state s

  abbrev c : List ℕ
  c = clock_numbers s.clock

  abbrev local_from : List ℕ
  local_from = map value_number s.ports.local

  abbrev output_from : List ℕ
  output_from = map value_number s.ports.output ++ local_from

  abbrev buffer_from : List ℕ
  buffer_from = map value_number s.ports.buffer ++ output_from

  abbrev ports_from : List ℕ
  ports_from = map value_number s.ports.input ++ buffer_from

  abbrev live_from : List ℕ
  live_from = map mark_number s.live ++ ports_from

  abbrev missed_from : List ℕ
  missed_from = s.threads.missed ++ live_from

  abbrev behavior_from : List ℕ
  behavior_from = s.threads.behavior ++ missed_from

  abbrev spent_from : List ℕ
  spent_from = map duration_number s.threads.spent ++ behavior_from

  abbrev length_from : List ℕ
  length_from = map duration_number s.threads.length ++ spent_from

  abbrev dispatched_from : List ℕ
  dispatched_from = map duration_number s.threads.dispatched ++ length_from

  abbrev code_from : List ℕ
  code_from = s.threads.code ++ dispatched_from

  abbrev active_from : List ℕ
  active_from = map mark_number s.threads.active ++ code_from

  flat : W ≡ c ++ active_from
  unfolding words_of_state thread_numbers port_numbers
  flat = simp append_assoc

  sized : {A : Type 0} (g : A → ℕ) (n : ℕ) (l : List A) → length l ≡ n → length (map g l) ≡ n
  sized g n l h = length-map l g ∙ h

  at_active : drop active_base W ≡ active_from
  unfolding clock_numbers
  at_active = ap (drop active_base) flat

  at_code : drop code_base W ≡ code_from
  at_code = next active_base max_threads W (map mark_number s.threads.active) code_from at_active (sized mark_number max_threads s.threads.active p.threads.active.size)

  at_dispatched : drop dispatched_base W ≡ dispatched_from
  at_dispatched = next code_base max_threads W s.threads.code dispatched_from at_code p.threads.code.size

  at_length : drop length_base W ≡ length_from
  at_length = next dispatched_base max_threads W (map duration_number s.threads.dispatched) length_from at_dispatched (sized duration_number max_threads s.threads.dispatched p.threads.dispatched.size)

  at_spent : drop spent_base W ≡ spent_from
  at_spent = next length_base max_threads W (map duration_number s.threads.length) spent_from at_length (sized duration_number max_threads s.threads.length p.threads.length.size)

  at_behavior : drop behavior_base W ≡ behavior_from
  at_behavior = next spent_base max_threads W (map duration_number s.threads.spent) behavior_from at_spent (sized duration_number max_threads s.threads.spent p.threads.spent.size)

  at_missed : drop missed_base W ≡ missed_from
  at_missed = next behavior_base max_threads W s.threads.behavior missed_from at_behavior p.threads.behavior.size

  at_live : drop live_base W ≡ live_from
  at_live = next missed_base max_threads W s.threads.missed live_from at_missed p.threads.missed.size

  at_input : drop input_base W ≡ ports_from
  at_input = next live_base max_connections W (map mark_number s.live) ports_from at_live (sized mark_number max_connections s.live p.live.size)

  at_buffer : drop buffer_base W ≡ buffer_from
  at_buffer = next input_base max_inputs W (map value_number s.ports.input) buffer_from at_input (sized value_number max_inputs s.ports.input p.ports.input.size)

  at_output : drop output_base W ≡ output_from
  at_output = next buffer_base max_inputs W (map value_number s.ports.buffer) output_from at_buffer (sized value_number max_inputs s.ports.buffer p.ports.buffer.size)

  at_local : drop local_base W ≡ local_from ++ []
  at_local = next output_base max_outputs W (map value_number s.ports.output) local_from at_output (sized value_number max_outputs s.ports.output p.ports.output.size) ∙ sym (append-nil local_from)

  clock_back : clock_in W ≡ s.clock
  unfolding clock_in clock_numbers byte_in
  clock_back = let k = p.clock in rw (flat, k.mode, k.phase, k.pending, k.cpu)

  threads_back : threads_in W ≡ s.threads
  unfolding threads_in byte_in
  threads_back =
      let t = p.threads in
      rw (
        read active_base max_threads W (map mark_number s.threads.active) code_from at_active (sized mark_number max_threads s.threads.active t.active.size) mark_in,
        map_back mark_in mark_number whole mark_back s.threads.active,
        t.active.same,
        read code_base max_threads W s.threads.code dispatched_from at_code t.code.size byte_in,
        t.code.same,
        read dispatched_base max_threads W (map duration_number s.threads.dispatched) length_from at_dispatched (sized duration_number max_threads s.threads.dispatched t.dispatched.size) duration_in,
        map_back duration_in duration_number whole (λ d. refl) s.threads.dispatched,
        t.dispatched.same,
        read length_base max_threads W (map duration_number s.threads.length) spent_from at_length (sized duration_number max_threads s.threads.length t.length.size) duration_in,
        map_back duration_in duration_number whole (λ d. refl) s.threads.length,
        t.length.same,
        read spent_base max_threads W (map duration_number s.threads.spent) behavior_from at_spent (sized duration_number max_threads s.threads.spent t.spent.size) duration_in,
        map_back duration_in duration_number whole (λ d. refl) s.threads.spent,
        t.spent.same,
        read behavior_base max_threads W s.threads.behavior missed_from at_behavior t.behavior.size byte_in,
        t.behavior.same,
        read missed_base max_threads W s.threads.missed live_from at_missed t.missed.size number_in,
        t.missed.same,
      )

  live_back : section mark_in live_base max_connections W ≡ s.live
  live_back = read live_base max_connections W (map mark_number s.live) ports_from at_live (sized mark_number max_connections s.live p.live.size) mark_in ∙ map_back mark_in mark_number whole mark_back s.live ∙ p.live.same

  ports_back : ports_in W ≡ s.ports
  unfolding ports_in
  ports_back =
      let q = p.ports in
      rw (
        read input_base max_inputs W (map value_number s.ports.input) buffer_from at_input (sized value_number max_inputs s.ports.input q.input.size) value_in,
        map_back value_in value_number again value_back s.ports.input,
        q.input.same,
        read buffer_base max_inputs W (map value_number s.ports.buffer) output_from at_buffer (sized value_number max_inputs s.ports.buffer q.buffer.size) value_in,
        map_back value_in value_number again value_back s.ports.buffer,
        q.buffer.same,
        read output_base max_outputs W (map value_number s.ports.output) local_from at_output (sized value_number max_outputs s.ports.output q.output.size) value_in,
        map_back value_in value_number again value_back s.ports.output,
        q.output.same,
        read local_base max_locals W (map value_number s.ports.local) [] at_local (sized value_number max_locals s.ports.local q.local.size) value_in,
        map_back value_in value_number again value_back s.ports.local,
        q.local.same,
      )

  pub plain_back : state_in (words_of_state s) ≡ s
  unfolding state_in
  plain_back = rw (clock_back, threads_back, live_back, ports_back)

  words_size : length (words_of_state s) ≡ state_words
  words_size =
      let e = ap length (next output_base max_outputs W (map value_number s.ports.output) local_from at_output (sized value_number max_outputs s.ports.output p.ports.output.size)) in
      let f = sized value_number max_locals s.ports.local p.ports.local.size in
      let g = length-drop local_base W in
      omega (arith, e, f, g)

  -- and at the start of a list that has room for them
  pub lent_back : (d : List ℕ) → state_words ≤ length d → state_in (sets d 0 (words_of_state s)) ≡ s
  lent_back d h =
      let n = words_size in
      ap state_in (sets-eq W d 0 (omega arith)) ∙
      front_same W (W ++ drop (0 + length W) d) (omega arith) (let k = length-append W (drop (0 + length W) d) in omega arith) (λ q k. get_or-append W (drop (0 + length W) d) 0 q (omega arith)) ∙
      plain_back
