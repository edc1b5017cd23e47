-- Laws of a settled model: its items cut kind by kind are the numbers of the model.
use Rattle.std.specs.Prelude.{◌≡◌, refl, List, [], ◌∷◌, ◌++◌, ℕ, ◌+◌, ◌*◌, ◌≤◌, get_or, take, drop, length}
use Rattle.std.proofs.Common.{◌∙◌, append-nil, add-zero, drop_of_length-le, Fits, arith}
use mir.Syntax.{w32}
use mir.ValLaws.{of_z-to_z}
use Rattle.numbers.specs.Lists.{list_below}
use Rattle.model_format.specs.Model.{max_threads, max_inputs, max_outputs, max_locals, max_connections, max_switches, max_transitions, max_times}
use Rattle.model_words.specs.Words.{threads_from, inputs_from, outputs_from, locals_from, connections_from, switches_from, transitions_from, atoms_from, assignments_from, model_words, byte_in, thread_in, owned_in, connection_in, switch_in, transition_in, atom_in, assignment_in, threads_in, inputs_in, outputs_in, locals_in, connections_in, switches_in, transitions_in, atoms_in, assignments_in, timing_in, behavior_in, model_in}
use Rattle.state_settling.specs.Words.{value_number}
use Rattle.model_settling.specs.ModelWords.{thread_fields, owned_fields, connection_fields, switch_fields, transition_fields, atom_fields, assignment_fields, joined, head_fields, words_of_model}
use Rattle.state_settling.specs.Settled.{part_put}
use Rattle.model_settling.specs.Cut.{cut_to, CutBy, item_cut, Upto, from_start, one_done, kind_done, owners_done}

-- ---- the widths of the fields of each kind
abbrev pub head_widths : List ℕ
head_widths = 256 ∷ 256 ∷ 0 ∷ 0 ∷ 0 ∷ 0 ∷ 0 ∷ 0 ∷ 0 ∷ []

abbrev pub thread_widths : List ℕ
thread_widths = 0 ∷ 0 ∷ 0 ∷ 0 ∷ 256 ∷ 256 ∷ 256 ∷ []

abbrev pub owner_widths : List ℕ
owner_widths = 256 ∷ []

abbrev pub owned_widths : List ℕ
owned_widths = 256 ∷ 0 ∷ []

abbrev pub connection_widths : List ℕ
connection_widths = 256 ∷ 65536 ∷ 65536 ∷ 256 ∷ []

abbrev pub switch_widths : List ℕ
switch_widths = 256 ∷ 256 ∷ 0 ∷ 0 ∷ []

abbrev pub transition_widths : List ℕ
transition_widths = 256 ∷ 256 ∷ 256 ∷ 256 ∷ 256 ∷ []

abbrev pub atom_widths : List ℕ
atom_widths = 256 ∷ 256 ∷ 65536 ∷ 256 ∷ 0 ∷ []

abbrev pub assignment_widths : List ℕ
assignment_widths = 256 ∷ 65536 ∷ 256 ∷ 256 ∷ 0 ∷ 256 ∷ 0 ∷ []

-- ---- an item, cut field by field
module _ (l : List ℕ) (q : ℕ) where
  thread_fields_lem : item_cut thread_widths l q ≡ thread_fields (thread_in l q)
  unfolding list_below cut_to thread_fields thread_in
  thread_fields_lem = rw (add-zero q)

  owner_at : (i : ℕ) → item_cut owner_widths l (q + i * 1) ≡ (byte_in l (q + i) ∷ [])
  unfolding list_below cut_to
  owner_at i = let a : q + i * 1 + 0 ≡ q + i = omega arith in rw a

  connection_fields_lem : item_cut connection_widths l q ≡ connection_fields (connection_in l q)
  unfolding list_below cut_to connection_fields connection_in
  connection_fields_lem = rw (add-zero q)

  switch_fields_lem : item_cut switch_widths l q ≡ switch_fields (switch_in l q)
  unfolding list_below cut_to switch_fields switch_in
  switch_fields_lem = rw (add-zero q)

  transition_fields_lem : item_cut transition_widths l q ≡ transition_fields (transition_in l q)
  unfolding list_below cut_to transition_fields transition_in
  transition_fields_lem = rw (add-zero q)

  module _ (f : (p : ℕ) → Fits w32 (get_or l p 0)) where
    owned_fields_lem : item_cut owned_widths l q ≡ owned_fields (owned_in l q)
    unfolding list_below cut_to owned_fields owned_in value_number
    owned_fields_lem = rw (add-zero q, of_z-to_z w32 (get_or l (q + 1) 0) (f (q + 1)))

    atom_fields_lem : item_cut atom_widths l q ≡ atom_fields (atom_in l q)
    unfolding list_below cut_to atom_fields atom_in value_number
    atom_fields_lem = let a : q + 3 + 1 ≡ q + 4 = omega arith in rw (add-zero q, of_z-to_z w32 (get_or l (q + 3 + 1) 0) (f (q + 3 + 1)), a)

    assignment_fields_lem : item_cut assignment_widths l q ≡ assignment_fields (assignment_in l q)
    unfolding list_below cut_to assignment_fields assignment_in value_number
    assignment_fields_lem =
        let a : q + 3 + 1 ≡ q + 4 = omega arith in
        let b : q + 5 + 1 ≡ q + 6 = omega arith in
        rw (add-zero q, of_z-to_z w32 (get_or l (q + 3 + 1) 0) (f (q + 3 + 1)), of_z-to_z w32 (get_or l (q + 5 + 1) 0) (f (q + 5 + 1)), a, b)

-- the head, which is one item
head_fields_lem : (l : List ℕ) → item_cut head_widths l 0 ≡ head_fields (model_in l)
unfolding list_below cut_to head_fields timing_in behavior_in
head_fields_lem l = refl

-- ---- three stretches of a model: l is the list before all of them, p what the parts before this stretch have become
pub record Whole (l : List ℕ) : Type 0 where
  pub size : length l ≡ model_words
  pub fits : (p : ℕ) → Fits w32 (get_or l p 0)

pub record ThreadsCut (x y : List ℕ) : Type 0 where
  pub cut : (l p : List ℕ) → Whole l → Upto 0 l x p → Upto locals_from l y (p ++ head_fields (model_in l) ++ joined thread_fields (threads_in l) ++ joined owned_fields (inputs_in l) ++ outputs_in l)

pub record LinksCut (x y : List ℕ) : Type 0 where
  pub cut : (l p : List ℕ) → Whole l → Upto locals_from l x p → Upto transitions_from l y (p ++ joined owned_fields (locals_in l) ++ joined connection_fields (connections_in l) ++ joined switch_fields (switches_in l))

pub record BehaviorCut (x y : List ℕ) : Type 0 where
  pub cut : (l p : List ℕ) → Whole l → Upto transitions_from l x p → Upto model_words l y (p ++ joined transition_fields (transitions_in l) ++ joined atom_fields (atoms_in l) ++ joined assignment_fields (assignments_in l))

pub threads_cut : {x y₁ y₂ y₃ y₄ : List ℕ} →
    let a = part_put 0 threads_from x y₁ in
    let b = part_put threads_from (max_threads * 7) a y₂ in
    let c = part_put inputs_from (max_inputs * 2) b y₃ in
    CutBy head_widths (take threads_from (drop 0 x)) y₁ → CutBy thread_widths (take (max_threads * 7) (drop threads_from a)) y₂ → CutBy owned_widths (take (max_inputs * 2) (drop inputs_from b)) y₃ →
    CutBy owner_widths (take max_outputs (drop outputs_from c)) y₄ → ThreadsCut x (part_put outputs_from max_outputs c y₄)
unfolding threads_in inputs_in outputs_in
threads_cut c₁ c₂ c₃ c₄ = record {
  cut = λ l p w u.
      let n = w.size in
      let u₁ = one_done head_widths 0 u (omega arith) (λ k h. omega arith) c₁ (head_fields_lem l) in
      let u₂ = kind_done thread_widths threads_from max_threads u₁ (omega arith) (λ i k h. omega arith) (λ i h. omega arith) c₂ thread_fields (λ i. thread_in l (threads_from + i * 7)) (λ i. thread_fields_lem l (threads_from + i * 7)) in
      let u₃ = kind_done owned_widths inputs_from max_inputs u₂ (omega arith) (λ i k h. omega arith) (λ i h. omega arith) c₃ owned_fields (λ i. owned_in l (inputs_from + i * 2)) (λ i. owned_fields_lem l (inputs_from + i * 2) w.fits) in
      owners_done owner_widths outputs_from max_outputs u₃ (omega arith) (λ i k h. omega arith) (λ i h. omega arith) c₄ (λ i. byte_in l (outputs_from + i)) (λ i. owner_at l outputs_from i);
}

pub links_cut : {x y₁ y₂ y₃ : List ℕ} →
    let a = part_put locals_from (max_locals * 2) x y₁ in
    let b = part_put connections_from (max_connections * 4) a y₂ in
    CutBy owned_widths (take (max_locals * 2) (drop locals_from x)) y₁ → CutBy connection_widths (take (max_connections * 4) (drop connections_from a)) y₂ →
    CutBy switch_widths (take (max_switches * 4) (drop switches_from b)) y₃ → LinksCut x (part_put switches_from (max_switches * 4) b y₃)
unfolding locals_in connections_in switches_in
links_cut c₁ c₂ c₃ = record {
  cut = λ l p w u.
      let n = w.size in
      let u₁ = kind_done owned_widths locals_from max_locals u (omega arith) (λ i k h. omega arith) (λ i h. omega arith) c₁ owned_fields (λ i. owned_in l (locals_from + i * 2)) (λ i. owned_fields_lem l (locals_from + i * 2) w.fits) in
      let u₂ = kind_done connection_widths connections_from max_connections u₁ (omega arith) (λ i k h. omega arith) (λ i h. omega arith) c₂ connection_fields (λ i. connection_in l (connections_from + i * 4)) (λ i. connection_fields_lem l (connections_from + i * 4)) in
      kind_done switch_widths switches_from max_switches u₂ (omega arith) (λ i k h. omega arith) (λ i h. omega arith) c₃ switch_fields (λ i. switch_in l (switches_from + i * 4)) (λ i. switch_fields_lem l (switches_from + i * 4));
}

pub behavior_cut : {x y₁ y₂ y₃ : List ℕ} →
    let a = part_put transitions_from (max_transitions * 5) x y₁ in
    let b = part_put atoms_from (max_times * 5) a y₂ in
    CutBy transition_widths (take (max_transitions * 5) (drop transitions_from x)) y₁ → CutBy atom_widths (take (max_times * 5) (drop atoms_from a)) y₂ →
    CutBy assignment_widths (take (max_times * 7) (drop assignments_from b)) y₃ → BehaviorCut x (part_put assignments_from (max_times * 7) b y₃)
unfolding transitions_in atoms_in assignments_in
behavior_cut c₁ c₂ c₃ = record {
  cut = λ l p w u.
      let n = w.size in
      let u₁ = kind_done transition_widths transitions_from max_transitions u (omega arith) (λ i k h. omega arith) (λ i h. omega arith) c₁ transition_fields (λ i. transition_in l (transitions_from + i * 5)) (λ i. transition_fields_lem l (transitions_from + i * 5)) in
      let u₂ = kind_done atom_widths atoms_from max_times u₁ (omega arith) (λ i k h. omega arith) (λ i h. omega arith) c₂ atom_fields (λ i. atom_in l (atoms_from + i * 5)) (λ i. atom_fields_lem l (atoms_from + i * 5) w.fits) in
      kind_done assignment_widths assignments_from max_times u₂ (omega arith) (λ i k h. omega arith) (λ i h. omega arith) c₃ assignment_fields (λ i. assignment_in l (assignments_from + i * 7)) (λ i. assignment_fields_lem l (assignments_from + i * 7) w.fits);
}

-- ---- all three
pub model_settled : {l a b x : List ℕ} → length l ≡ model_words → ((p : ℕ) → Fits w32 (get_or l p 0)) → ThreadsCut l a → LinksCut a b → BehaviorCut b x → x ≡ words_of_model (model_in l)
unfolding words_of_model timing_in behavior_in
model_settled {l} n f t k h =
    let w : Whole l = record { size = n; fits = f } in
    let u = h.cut l _ w (k.cut l _ w (t.cut l [] w (from_start l))) in
    let e : drop model_words l ≡ [] = drop_of_length-le l (let q : length l ≤ model_words = omega arith in q) in
    u.split ∙ rw e (append-nil _)
