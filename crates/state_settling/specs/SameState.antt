-- Laws of lists that stand for one state: a settled list and the list it was made of, and a list and its first numbers.
use Rattle.std.specs.Prelude.{◌≡◌, List, map, ℕ, ◌+◌, ◌<◌, ◌≤◌, get_or, take, drop, length}
use Rattle.std.proofs.Common.{sym, ◌∙◌, arith, length-drop, get_or-take, get_or-drop, length-take-le, ext_get_or, ap}
use Rattle.std.proofs.lemmas.List.{length-map}
use Rattle.std.proofs.Math.ListN.{get_or-map}
use Rattle.model_format.specs.Model.{max_threads, max_inputs, max_outputs, max_locals, max_connections}
use Rattle.model_state.specs.Words.{now_place, entered_place, mode_place, phase_place, pending_place, cpu_place, active_base, code_base, dispatched_base, length_base, spent_base, behavior_base, missed_base, live_base, input_base, buffer_base, output_base, local_base, state_words, byte_in, mark_in, duration_in, value_in, number_in, section, clock_in, threads_in, ports_in, state_in}
use Rattle.state_settling.specs.Settled.{Settled}

-- ---- what a settled number stands for
byte_twice : (n : ℕ) → byte_in (byte_in n) ≡ byte_in n
unfolding byte_in
byte_twice n = omega arith

-- ---- an array of which each number stands for the same
section_same : {A : Type 0} (f : ℕ → A) (b r : ℕ) (l x : List ℕ) → b + r ≤ length l → b + r ≤ length x → ((i : ℕ) → i < r → f (get_or x (b + i) 0) ≡ f (get_or l (b + i) 0)) →
    section f b r x ≡ section f b r l
unfolding section
section_same f b r l x h k e = ext_get_or (f 0) (map f (take r (drop b x))) (map f (take r (drop b l))) (size x k ∙ sym (size l h)) at
  where
    size : (z : List ℕ) → b + r ≤ length z → length (map f (take r (drop b z))) ≡ r
    size z w = length-map (take r (drop b z)) f ∙ length-take-le r (drop b z) (omega (arith, length-drop b z))

    here : (z : List ℕ) (i : ℕ) → i < r → get_or (map f (take r (drop b z))) i (f 0) ≡ f (get_or z (b + i) 0)
    here z i w = get_or-map f (take r (drop b z)) i 0 ∙ ap f (get_or-take r (drop b z) i 0 w ∙ get_or-drop b z i 0)

    at : (i : ℕ) → i < length (map f (take r (drop b x))) → get_or (map f (take r (drop b x))) i (f 0) ≡ get_or (map f (take r (drop b l))) i (f 0)
    at i w = let c : i < r = omega (arith, size x k) in here x i c ∙ e i c ∙ sym (here l i c)

-- ---- a settled list
module _ (l x : List ℕ) (s : Settled l x) (w : state_words ≤ length l) where
  bytes : (b : ℕ) → ((i : ℕ) → i < max_threads → get_or x (b + i) 0 ≡ byte_in (get_or l (b + i) 0)) → (i : ℕ) → i < max_threads → byte_in (get_or x (b + i) 0) ≡ byte_in (get_or l (b + i) 0)
  bytes b e i h = ap byte_in (e i h) ∙ byte_twice (get_or l (b + i) 0)

-- ---- the first numbers of a list
module _ (l x : List ℕ) (w : state_words ≤ length l) (v : state_words ≤ length x) (e : (p : ℕ) → p < state_words → get_or x p 0 ≡ get_or l p 0) where
  pub front_same : state_in x ≡ state_in l
  unfolding state_in clock_in threads_in ports_in
  front_same =
      rw (
        e now_place (omega arith),
        e entered_place (omega arith),
        e mode_place (omega arith),
        e phase_place (omega arith),
        e pending_place (omega arith),
        e cpu_place (omega arith),
        section_same mark_in active_base max_threads l x (omega arith) (omega arith) (λ i h. ap mark_in (e (active_base + i) (omega arith))),
        section_same byte_in code_base max_threads l x (omega arith) (omega arith) (λ i h. ap byte_in (e (code_base + i) (omega arith))),
        section_same duration_in dispatched_base max_threads l x (omega arith) (omega arith) (λ i h. ap duration_in (e (dispatched_base + i) (omega arith))),
        section_same duration_in length_base max_threads l x (omega arith) (omega arith) (λ i h. ap duration_in (e (length_base + i) (omega arith))),
        section_same duration_in spent_base max_threads l x (omega arith) (omega arith) (λ i h. ap duration_in (e (spent_base + i) (omega arith))),
        section_same byte_in behavior_base max_threads l x (omega arith) (omega arith) (λ i h. ap byte_in (e (behavior_base + i) (omega arith))),
        section_same number_in missed_base max_threads l x (omega arith) (omega arith) (λ i h. e (missed_base + i) (omega arith)),
        section_same mark_in live_base max_connections l x (omega arith) (omega arith) (λ i h. ap mark_in (e (live_base + i) (omega arith))),
        section_same value_in input_base max_inputs l x (omega arith) (omega arith) (λ i h. ap value_in (e (input_base + i) (omega arith))),
        section_same value_in buffer_base max_inputs l x (omega arith) (omega arith) (λ i h. ap value_in (e (buffer_base + i) (omega arith))),
        section_same value_in output_base max_outputs l x (omega arith) (omega arith) (λ i h. ap value_in (e (output_base + i) (omega arith))),
        section_same value_in local_base max_locals l x (omega arith) (omega arith) (λ i h. ap value_in (e (local_base + i) (omega arith))),
      )

pub state_front : (d : List ℕ) → state_words ≤ length d → state_in (take state_words d) ≡ state_in d
state_front d h = front_same d (take state_words d) h (let n = length-take-le state_words d h in omega arith) (λ p k. get_or-take state_words d p 0 k)

-- ---- the numbers of a state, put at the start of a list, stand for the state again
