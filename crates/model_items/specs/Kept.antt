-- What a change of some numbers of a list leaves as it was: single numbers, and the items of each kind.
use Rattle.std.specs.Prelude.{◌≡◌, refl, Bool, true, false, ◌||◌, List, ℕ, ◌+◌, ◌*◌, ◌<◌, ◌≤◌, get_or, leb}
use Rattle.std.proofs.Common.{arith, leb-true}
use Rattle.numbers.specs.ListLaws.{list_below_same}
use Rattle.model_format.specs.Model.{max_threads, max_inputs, max_outputs, max_locals, max_connections, max_switches, max_transitions, max_times}
use Rattle.model_words.specs.Words.{thread_size, owned_size, connection_size, switch_size, transition_size, atom_size, assignment_size, threads_from, inputs_from, outputs_from, locals_from, connections_from, switches_from, transitions_from, atoms_from, assignments_from, model_words, thread_in, owned_in, connection_in, switch_in, transition_in, atom_in, assignment_in, threads_in, inputs_in, outputs_in, locals_in, connections_in, switches_in, transitions_in, atoms_in, assignments_in}

-- ---- an item by its numbers
module _ (l l' : List ℕ) (p : ℕ) where
  pub thread_same : ((q : ℕ) → p ≤ q → q < p + thread_size → get_or l' q 0 ≡ get_or l q 0) → thread_in l' p ≡ thread_in l p
  unfolding thread_in
  thread_same h = rw (h p (omega arith) (omega arith), h (p + 1) (omega arith) (omega arith), h (p + 2) (omega arith) (omega arith), h (p + 3) (omega arith) (omega arith), h (p + 4) (omega arith) (omega arith), h (p + 5) (omega arith) (omega arith), h (p + 6) (omega arith) (omega arith))

  pub owned_same : ((q : ℕ) → p ≤ q → q < p + owned_size → get_or l' q 0 ≡ get_or l q 0) → owned_in l' p ≡ owned_in l p
  unfolding owned_in
  owned_same h = rw (h p (omega arith) (omega arith), h (p + 1) (omega arith) (omega arith))

  pub connection_same : ((q : ℕ) → p ≤ q → q < p + connection_size → get_or l' q 0 ≡ get_or l q 0) → connection_in l' p ≡ connection_in l p
  unfolding connection_in
  connection_same h = rw (h p (omega arith) (omega arith), h (p + 1) (omega arith) (omega arith), h (p + 2) (omega arith) (omega arith), h (p + 3) (omega arith) (omega arith))

  pub switch_same : ((q : ℕ) → p ≤ q → q < p + switch_size → get_or l' q 0 ≡ get_or l q 0) → switch_in l' p ≡ switch_in l p
  unfolding switch_in
  switch_same h = rw (h p (omega arith) (omega arith), h (p + 1) (omega arith) (omega arith), h (p + 2) (omega arith) (omega arith), h (p + 3) (omega arith) (omega arith))

  pub transition_same : ((q : ℕ) → p ≤ q → q < p + transition_size → get_or l' q 0 ≡ get_or l q 0) → transition_in l' p ≡ transition_in l p
  unfolding transition_in
  transition_same h = rw (h p (omega arith) (omega arith), h (p + 1) (omega arith) (omega arith), h (p + 2) (omega arith) (omega arith), h (p + 3) (omega arith) (omega arith), h (p + 4) (omega arith) (omega arith))

  pub atom_same : ((q : ℕ) → p ≤ q → q < p + atom_size → get_or l' q 0 ≡ get_or l q 0) → atom_in l' p ≡ atom_in l p
  unfolding atom_in
  atom_same h = rw (h p (omega arith) (omega arith), h (p + 1) (omega arith) (omega arith), h (p + 2) (omega arith) (omega arith), h (p + 3) (omega arith) (omega arith), h (p + 3 + 1) (omega arith) (omega arith))

  pub assignment_same : ((q : ℕ) → p ≤ q → q < p + assignment_size → get_or l' q 0 ≡ get_or l q 0) → assignment_in l' p ≡ assignment_in l p
  unfolding assignment_in
  assignment_same h = rw (h p (omega arith) (omega arith), h (p + 1) (omega arith) (omega arith), h (p + 2) (omega arith) (omega arith), h (p + 3) (omega arith) (omega arith), h (p + 3 + 1) (omega arith) (omega arith), h (p + 5) (omega arith) (omega arith), h (p + 5 + 1) (omega arith) (omega arith))

-- ---- l' is l but for numbers from a up to b
abbrev pub Changed : List ℕ → List ℕ → ℕ → ℕ → Type 0
Changed l l' a b = (q : ℕ) → (a ≤ q → q < b → ⊥) → get_or l' q 0 ≡ get_or l q 0

not_within : (a b c d q : ℕ) → (leb b c || leb d a) ≡ true → c ≤ q → q < d → a ≤ q → q < b → ⊥
not_within a b c d q h u v y z = go (leb b c) refl (leb d a) refl
  where
    go : (s : Bool) → leb b c ≡ s → (t : Bool) → leb d a ≡ t → ⊥
    go true e t f = omega (arith, leb-true b c e)
    go false e true f = omega (arith, leb-true d a f)
    go false e false f =
        let w : ◌≡◌ {A = Bool} false true = rw (e, f) at h in
        let n : ◌≡◌ {A = ℕ} 0 1 = cc in
        omega arith

module _ (l l' : List ℕ) (a b : ℕ) (w : Changed l l' a b) where
  -- those from c up to d are others
  kept : (c d : ℕ) → (leb b c || leb d a) ≡ true → (q : ℕ) → c ≤ q → q < d → get_or l' q 0 ≡ get_or l q 0
  kept c d h q u v = w q (not_within a b c d q h u v)

  pub number_kept : (c : ℕ) → (leb b c || leb (c + 1) a) ≡ true → get_or l' c 0 ≡ get_or l c 0
  number_kept c h = kept c (c + 1) h c (omega arith) (omega arith)

  pub threads_kept : (leb b threads_from || leb inputs_from a) ≡ true → threads_in l' ≡ threads_in l
  unfolding threads_in
  threads_kept h = list_below_same max_threads _ _ (λ i k. thread_same l l' (threads_from + i * thread_size) (λ q u v. kept threads_from inputs_from h q (omega arith) (omega arith)))

  pub inputs_kept : (leb b inputs_from || leb outputs_from a) ≡ true → inputs_in l' ≡ inputs_in l
  unfolding inputs_in
  inputs_kept h = list_below_same max_inputs _ _ (λ i k. owned_same l l' (inputs_from + i * owned_size) (λ q u v. kept inputs_from outputs_from h q (omega arith) (omega arith)))

  pub outputs_kept : (leb b outputs_from || leb locals_from a) ≡ true → outputs_in l' ≡ outputs_in l
  unfolding outputs_in
  outputs_kept h = list_below_same max_outputs _ _ (λ i k. rw (kept outputs_from locals_from h (outputs_from + i) (omega arith) (omega arith)))

  pub locals_kept : (leb b locals_from || leb connections_from a) ≡ true → locals_in l' ≡ locals_in l
  unfolding locals_in
  locals_kept h = list_below_same max_locals _ _ (λ i k. owned_same l l' (locals_from + i * owned_size) (λ q u v. kept locals_from connections_from h q (omega arith) (omega arith)))

  pub connections_kept : (leb b connections_from || leb switches_from a) ≡ true → connections_in l' ≡ connections_in l
  unfolding connections_in
  connections_kept h = list_below_same max_connections _ _ (λ i k. connection_same l l' (connections_from + i * connection_size) (λ q u v. kept connections_from switches_from h q (omega arith) (omega arith)))

  pub switches_kept : (leb b switches_from || leb transitions_from a) ≡ true → switches_in l' ≡ switches_in l
  unfolding switches_in
  switches_kept h = list_below_same max_switches _ _ (λ i k. switch_same l l' (switches_from + i * switch_size) (λ q u v. kept switches_from transitions_from h q (omega arith) (omega arith)))

  pub transitions_kept : (leb b transitions_from || leb atoms_from a) ≡ true → transitions_in l' ≡ transitions_in l
  unfolding transitions_in
  transitions_kept h = list_below_same max_transitions _ _ (λ i k. transition_same l l' (transitions_from + i * transition_size) (λ q u v. kept transitions_from atoms_from h q (omega arith) (omega arith)))

  pub atoms_kept : (leb b atoms_from || leb assignments_from a) ≡ true → atoms_in l' ≡ atoms_in l
  unfolding atoms_in
  atoms_kept h = list_below_same max_times _ _ (λ i k. atom_same l l' (atoms_from + i * atom_size) (λ q u v. kept atoms_from assignments_from h q (omega arith) (omega arith)))

  pub assignments_kept : (leb b assignments_from || leb model_words a) ≡ true → assignments_in l' ≡ assignments_in l
  unfolding assignments_in
  assignments_kept h = list_below_same max_times _ _ (λ i k. assignment_same l l' (assignments_from + i * assignment_size) (λ q u v. kept assignments_from model_words h q (omega arith) (omega arith)))
