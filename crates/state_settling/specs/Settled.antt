-- Laws of a settled state: five passes over its narrow numbers leave the numbers of the state.
use Rattle.std.specs.Prelude.{◌≡◌, List, ◌++◌, map, ℕ, ◌+◌, ◌*◌, ◌<◌, ◌≤◌, get_or, take, drop, length}
use Rattle.std.proofs.Common.{◌∙◌, ap, arith, take_all, Fits, sym, take-suc}
use mir.Syntax.{w32}
use mir.ValLaws.{of_z-to_z}
use Rattle.model_format.specs.Model.{max_threads, max_inputs, max_outputs, max_locals, max_connections}
use Rattle.model_state.specs.Words.{mode_place, clock_words, active_base, code_base, dispatched_base, length_base, spent_base, behavior_base, missed_base, live_base, input_base, buffer_base, output_base, local_base, state_words, byte_in, mark_in, duration_in, value_in, number_in, section, clock_in, threads_in, ports_in, state_in}
use Rattle.state_settling.specs.Words.{mark_number, duration_number, value_number, clock_numbers, thread_numbers, port_numbers, words_of_state}
use Rattle.state_settling.specs.Passes.{settled_mark, Passed, pass, array_numbers, plain_numbers, and_more}

-- ---- x has the number that the state in l has at each place
pub record Settled (l x : List ℕ) : Type 0 where
  pub size : length x ≡ length l
  pub now : (i : ℕ) → i < 2 → get_or x i 0 ≡ get_or l i 0
  pub clock : (i : ℕ) → i < 4 → get_or x (mode_place + i) 0 ≡ byte_in (get_or l (mode_place + i) 0)
  pub active : (i : ℕ) → i < max_threads → get_or x (active_base + i) 0 ≡ settled_mark (get_or l (active_base + i) 0)
  pub code : (i : ℕ) → i < max_threads → get_or x (code_base + i) 0 ≡ byte_in (get_or l (code_base + i) 0)
  pub times : (p : ℕ) → dispatched_base ≤ p → p < behavior_base → get_or x p 0 ≡ get_or l p 0
  pub behavior : (i : ℕ) → i < max_threads → get_or x (behavior_base + i) 0 ≡ byte_in (get_or l (behavior_base + i) 0)
  pub missed : (p : ℕ) → missed_base ≤ p → p < live_base → get_or x p 0 ≡ get_or l p 0
  pub live : (i : ℕ) → i < max_connections → get_or x (live_base + i) 0 ≡ settled_mark (get_or l (live_base + i) 0)
  pub ports : (p : ℕ) → input_base ≤ p → get_or x p 0 ≡ get_or l p 0

-- the passes in the order in which they are made
module _ {l a b c d x : List ℕ} (p₁ : Passed byte_in mode_place 4 l a) (p₂ : Passed settled_mark active_base max_threads a b) (p₃ : Passed byte_in code_base max_threads b c) (p₄ : Passed byte_in behavior_base max_threads c d) (p₅ : Passed settled_mark live_base max_connections d x) where
  pub all_passed : Settled l x
  all_passed = record {
    size = p₅.size ∙ p₄.size ∙ p₃.size ∙ p₂.size ∙ p₁.size;
    now = λ i h. p₅.before i (omega arith) ∙ p₄.before i (omega arith) ∙ p₃.before i (omega arith) ∙ p₂.before i (omega arith) ∙ p₁.before i (omega arith);
    clock = λ i h. p₅.before (mode_place + i) (omega arith) ∙ p₄.before (mode_place + i) (omega arith) ∙ p₃.before (mode_place + i) (omega arith) ∙ p₂.before (mode_place + i) (omega arith) ∙ p₁.within i h;
    active = λ i h. p₅.before (active_base + i) (omega arith) ∙ p₄.before (active_base + i) (omega arith) ∙ p₃.before (active_base + i) (omega arith) ∙ p₂.within i h ∙ ap settled_mark (p₁.after (active_base + i) (omega arith));
    code = λ i h. p₅.before (code_base + i) (omega arith) ∙ p₄.before (code_base + i) (omega arith) ∙ p₃.within i h ∙ ap byte_in (p₂.after (code_base + i) (omega arith) ∙ p₁.after (code_base + i) (omega arith));
    times = λ p h k. p₅.before p (omega arith) ∙ p₄.before p (omega arith) ∙ p₃.after p (omega arith) ∙ p₂.after p (omega arith) ∙ p₁.after p (omega arith);
    behavior = λ i h. p₅.before (behavior_base + i) (omega arith) ∙ p₄.within i h ∙ ap byte_in (p₃.after (behavior_base + i) (omega arith) ∙ p₂.after (behavior_base + i) (omega arith) ∙ p₁.after (behavior_base + i) (omega arith));
    missed = λ p h k. p₅.before p (omega arith) ∙ p₄.after p (omega arith) ∙ p₃.after p (omega arith) ∙ p₂.after p (omega arith) ∙ p₁.after p (omega arith);
    live = λ i h. p₅.within i h ∙ ap settled_mark (p₄.after (live_base + i) (omega arith) ∙ p₃.after (live_base + i) (omega arith) ∙ p₂.after (live_base + i) (omega arith) ∙ p₁.after (live_base + i) (omega arith));
    ports = λ p h. p₅.after p (omega arith) ∙ p₄.after p (omega arith) ∙ p₃.after p (omega arith) ∙ p₂.after p (omega arith) ∙ p₁.after p (omega arith);
  }

-- ---- the state's numbers, in the order of words_of_state
module _ (l x : List ℕ) (s : Settled l x) (w : length l ≡ state_words) where
  clock_is : take clock_words x ≡ clock_numbers (clock_in l)
  unfolding clock_numbers clock_in
  clock_is =
      let n = s.size in
      rw (take-suc x 5 0 (omega arith), take-suc x 4 0 (omega arith), take-suc x 3 0 (omega arith), take-suc x 2 0 (omega arith), take-suc x 1 0 (omega arith), take-suc x 0 0 (omega arith), s.now 0 (omega arith), s.now 1 (omega arith), s.clock 0 (omega arith), s.clock 1 (omega arith), s.clock 2 (omega arith), s.clock 3 (omega arith))

  threads_are : take (7 * max_threads) (drop active_base x) ≡ thread_numbers (threads_in l)
  unfolding thread_numbers threads_in
  threads_are =
      rw (
        and_more active_base (6 * max_threads) max_threads x,
        and_more active_base (5 * max_threads) max_threads x,
        and_more active_base (4 * max_threads) max_threads x,
        and_more active_base (3 * max_threads) max_threads x,
        and_more active_base (2 * max_threads) max_threads x,
        and_more active_base max_threads max_threads x,
        array_numbers mark_in active_base max_threads l x s.size (omega arith) mark_number s.active,
        plain_numbers byte_in code_base max_threads l x s.size (omega arith) s.code,
        array_numbers duration_in dispatched_base max_threads l x s.size (omega arith) duration_number (λ i h. s.times (dispatched_base + i) (omega arith) (omega arith)),
        array_numbers duration_in length_base max_threads l x s.size (omega arith) duration_number (λ i h. s.times (length_base + i) (omega arith) (omega arith)),
        array_numbers duration_in spent_base max_threads l x s.size (omega arith) duration_number (λ i h. s.times (spent_base + i) (omega arith) (omega arith)),
        plain_numbers byte_in behavior_base max_threads l x s.size (omega arith) s.behavior,
        plain_numbers number_in missed_base max_threads l x s.size (omega arith) (λ i h. s.missed (missed_base + i) (omega arith) (omega arith)),
      )

  live_is : take max_connections (drop live_base x) ≡ map mark_number (section mark_in live_base max_connections l)
  live_is = array_numbers mark_in live_base max_connections l x s.size (omega arith) mark_number s.live

  module _ (f : (p : ℕ) → Fits w32 (get_or l p 0)) where
    bits_same : (b i : ℕ) → input_base ≤ b → get_or x (b + i) 0 ≡ value_number (value_in (get_or l (b + i) 0))
    unfolding value_number value_in
    bits_same b i h = s.ports (b + i) (omega arith) ∙ sym (of_z-to_z w32 (get_or l (b + i) 0) (f (b + i)))

    ports_are : take (max_inputs + max_inputs + max_outputs + max_locals) (drop input_base x) ≡ port_numbers (ports_in l)
    unfolding port_numbers ports_in
    ports_are =
        rw (
          and_more input_base (max_inputs + max_inputs + max_outputs) max_locals x,
          and_more input_base (max_inputs + max_inputs) max_outputs x,
          and_more input_base max_inputs max_inputs x,
          array_numbers value_in input_base max_inputs l x s.size (omega arith) value_number (λ i h. bits_same input_base i (omega arith)),
          array_numbers value_in buffer_base max_inputs l x s.size (omega arith) value_number (λ i h. bits_same buffer_base i (omega arith)),
          array_numbers value_in output_base max_outputs l x s.size (omega arith) value_number (λ i h. bits_same output_base i (omega arith)),
          array_numbers value_in local_base max_locals l x s.size (omega arith) value_number (λ i h. bits_same local_base i (omega arith)),
        )

    pub settled_is : x ≡ words_of_state (state_in l)
    unfolding words_of_state state_in
    settled_is =
        sym (take_all state_words x (omega (arith, s.size))) ∙
        rw (
          and_more 0 input_base (max_inputs + max_inputs + max_outputs + max_locals) x,
          and_more 0 live_base max_connections x,
          and_more 0 clock_words (7 * max_threads) x,
          clock_is,
          threads_are,
          live_is,
          ports_are,
        )

-- ---- the passes as the code makes them: each lends a part, which comes back as y
abbrev pub part_put : ℕ → ℕ → List ℕ → List ℕ → List ℕ
part_put a k l y = take a l ++ (y ++ drop k (drop a l))

pub state_settled : (l y₁ y₂ y₃ y₄ y₅ : List ℕ) → length l ≡ state_words → ((p : ℕ) → Fits w32 (get_or l p 0)) →
    let a = part_put mode_place 4 l y₁ in
    let b = part_put active_base max_threads a y₂ in
    let c = part_put code_base max_threads b y₃ in
    let d = part_put behavior_base max_threads c y₄ in
    y₁ ≡ map byte_in (take 4 (drop mode_place l)) → y₂ ≡ map settled_mark (take max_threads (drop active_base a)) → y₃ ≡ map byte_in (take max_threads (drop code_base b)) →
    y₄ ≡ map byte_in (take max_threads (drop behavior_base c)) → y₅ ≡ map settled_mark (take max_connections (drop live_base d)) →
    part_put live_base max_connections d y₅ ≡ words_of_state (state_in l)
state_settled l y₁ y₂ y₃ y₄ y₅ w f e₁ e₂ e₃ e₄ e₅ =
    let a = part_put mode_place 4 l y₁ in
    let p₁ = pass byte_in mode_place 4 l (omega arith) y₁ e₁ in
    let b = part_put active_base max_threads a y₂ in
    let p₂ = pass settled_mark active_base max_threads a (let n = p₁.size in omega arith) y₂ e₂ in
    let c = part_put code_base max_threads b y₃ in
    let p₃ = pass byte_in code_base max_threads b (let n = p₁.size in let m = p₂.size in omega arith) y₃ e₃ in
    let d = part_put behavior_base max_threads c y₄ in
    let p₄ = pass byte_in behavior_base max_threads c (let n = p₁.size in let m = p₂.size in let k = p₃.size in omega arith) y₄ e₄ in
    let p₅ = pass settled_mark live_base max_connections d (let n = p₁.size in let m = p₂.size in let k = p₃.size in let j = p₄.size in omega arith) y₅ e₅ in
    settled_is l (part_put live_base max_connections d y₅) (all_passed p₁ p₂ p₃ p₄ p₅) w f
