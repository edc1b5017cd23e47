-- A list of zeros is the empty model.
use Rattle.std.specs.Prelude.{◌≡◌, List, ℕ, ◌+◌, ◌*◌, ◌<◌, ◌≤◌, get_or, set, length, replicate}
use Rattle.std.proofs.Common.{◌∙◌, arith, get_or-set_same, get_or-set_other}
use Rattle.std.proofs.Math.Decide.{dec_lt}
use Rattle.std.proofs.Math.ListN.{get_or-eq_default}
use Rattle.numbers.specs.ListLaws.{list_below_replicate}
use Rattle.model_format.specs.Model.{max_threads, max_inputs, max_outputs, max_locals, max_connections, max_switches, max_transitions, max_times, no_thread, no_owned, no_connection, no_switch, no_transition, no_atom, no_assignment, empty_model}
use Rattle.model_words.specs.Words.{modes_place, initial_place, threads_place, inputs_place, outputs_place, locals_place, connections_place, switches_place, transitions_place, thread_size, owned_size, connection_size, switch_size, transition_size, atom_size, assignment_size, threads_from, inputs_from, outputs_from, locals_from, connections_from, switches_from, transitions_from, atoms_from, assignments_from, thread_in, owned_in, connection_in, switch_in, transition_in, atom_in, assignment_in, threads_in, inputs_in, outputs_in, locals_in, connections_in, switches_in, transitions_in, atoms_in, assignments_in, timing_in, behavior_in, model_in}

module _ (l : List ℕ) (h : (q : ℕ) → get_or l q 0 ≡ 0) where
  thread_blank : (p : ℕ) → thread_in l p ≡ no_thread
  unfolding thread_in
  thread_blank p = rw (h p, h (p + 1), h (p + 2), h (p + 3), h (p + 4), h (p + 5), h (p + 6))

  threads_blank : threads_in l ≡ replicate max_threads no_thread
  unfolding threads_in
  threads_blank = list_below_replicate max_threads _ no_thread (λ i b. thread_blank (threads_from + i * thread_size))

  owned_blank : (p : ℕ) → owned_in l p ≡ no_owned
  unfolding owned_in
  owned_blank p = rw (h p, h (p + 1))

  inputs_blank : inputs_in l ≡ replicate max_inputs no_owned
  unfolding inputs_in
  inputs_blank = list_below_replicate max_inputs _ no_owned (λ i b. owned_blank (inputs_from + i * owned_size))

  outputs_blank : outputs_in l ≡ replicate max_outputs 0
  unfolding outputs_in
  outputs_blank = list_below_replicate max_outputs _ 0 (λ i b. rw (h (outputs_from + i)))

  locals_blank : locals_in l ≡ replicate max_locals no_owned
  unfolding locals_in
  locals_blank = list_below_replicate max_locals _ no_owned (λ i b. owned_blank (locals_from + i * owned_size))

  connection_blank : (p : ℕ) → connection_in l p ≡ no_connection
  unfolding connection_in
  connection_blank p = rw (h p, h (p + 1), h (p + 2), h (p + 3))

  connections_blank : connections_in l ≡ replicate max_connections no_connection
  unfolding connections_in
  connections_blank = list_below_replicate max_connections _ no_connection (λ i b. connection_blank (connections_from + i * connection_size))

  switch_blank : (p : ℕ) → switch_in l p ≡ no_switch
  unfolding switch_in
  switch_blank p = rw (h p, h (p + 1), h (p + 2), h (p + 3))

  switches_blank : switches_in l ≡ replicate max_switches no_switch
  unfolding switches_in
  switches_blank = list_below_replicate max_switches _ no_switch (λ i b. switch_blank (switches_from + i * switch_size))

  transition_blank : (p : ℕ) → transition_in l p ≡ no_transition
  unfolding transition_in
  transition_blank p = rw (h p, h (p + 1), h (p + 2), h (p + 3), h (p + 4))

  transitions_blank : transitions_in l ≡ replicate max_transitions no_transition
  unfolding transitions_in
  transitions_blank = list_below_replicate max_transitions _ no_transition (λ i b. transition_blank (transitions_from + i * transition_size))

  atom_blank : (p : ℕ) → atom_in l p ≡ no_atom
  unfolding atom_in
  atom_blank p = rw (h p, h (p + 1), h (p + 2), h (p + 3), h (p + 3 + 1))

  atoms_blank : atoms_in l ≡ replicate max_times no_atom
  unfolding atoms_in
  atoms_blank = list_below_replicate max_times _ no_atom (λ i b. atom_blank (atoms_from + i * atom_size))

  assignment_blank : (p : ℕ) → assignment_in l p ≡ no_assignment
  unfolding assignment_in
  assignment_blank p = rw (h p, h (p + 1), h (p + 2), h (p + 3), h (p + 3 + 1), h (p + 5), h (p + 5 + 1))

  assignments_blank : assignments_in l ≡ replicate max_times no_assignment
  unfolding assignments_in
  assignments_blank = list_below_replicate max_times _ no_assignment (λ i b. assignment_blank (assignments_from + i * assignment_size))

  pub all_blank : model_in l ≡ empty_model
  unfolding timing_in behavior_in empty_model
  all_blank = rw (h modes_place, h initial_place, h threads_place, h inputs_place, h outputs_place, h locals_place, h connections_place, h switches_place, h transitions_place, threads_blank, inputs_blank, outputs_blank, locals_blank, connections_blank, switches_blank, transitions_blank, atoms_blank, assignments_blank)

-- the numbers before i are 0
pub record Cleared (l : List ℕ) (i : ℕ) : Type 0 where
  pub zeros : (q : ℕ) → q < i → get_or l q 0 ≡ 0

pub cleared_none : (l : List ℕ) → Cleared l 0
cleared_none l = record { zeros = λ q b. absurd (omega arith) }

pub cleared_next : (l : List ℕ) (i : ℕ) → Cleared l i → i < length l → Cleared (set l i 0) (i + 1)
cleared_next l i c h = record { zeros = λ q b. go q b (dec_lt q i) }
  where
    go : (q : ℕ) → q < i + 1 → Dec (q < i) → get_or (set l i 0) q 0 ≡ 0
    go q b (yes k) = get_or-set_other l i q 0 0 (λ e. absurd (omega arith)) ∙ c.zeros q k
    go q b (no k) = let e : q ≡ i = omega arith in rw e (get_or-set_same l i 0 0 h)

pub cleared_all : (l : List ℕ) (i : ℕ) → Cleared l i → length l ≤ i → model_in l ≡ empty_model
cleared_all l i c h = all_blank l (λ q. go q (dec_lt q i))
  where
    go : (q : ℕ) → Dec (q < i) → get_or l q 0 ≡ 0
    go q (yes k) = c.zeros q k
    go q (no k) = get_or-eq_default l 0 (omega arith)
