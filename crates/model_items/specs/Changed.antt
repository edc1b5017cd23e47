-- A model of whose items one has changed, by a change of the numbers of that item; and an item past its room.
use Rattle.std.specs.Prelude.{◌≡◌, List, ℕ, ◌+◌, ◌*◌, ◌<◌, ◌≤◌}
use Rattle.std.proofs.Common.{arith, le-ltb, refl}
use Rattle.numbers.specs.Lists.{store}
use Rattle.numbers.specs.ListLaws.{list_below_store}
use Rattle.model_format.specs.declared.Thread.{Thread}
use Rattle.model_format.specs.declared.Owned.{Owned}
use Rattle.model_format.specs.declared.Connection.{Connection}
use Rattle.model_format.specs.declared.ModeTransition.{ModeTransition}
use Rattle.model_format.specs.declared.Transition.{Transition}
use Rattle.model_format.specs.declared.Atom.{Atom}
use Rattle.model_format.specs.declared.Assignment.{Assignment}
use Rattle.model_format.specs.Model.{max_threads, max_inputs, max_outputs, max_locals, max_connections, max_switches, max_transitions, max_times}
use Rattle.model_words.specs.Words.{modes_place, initial_place, threads_place, inputs_place, outputs_place, locals_place, connections_place, switches_place, transitions_place, thread_size, owned_size, connection_size, switch_size, transition_size, atom_size, assignment_size, threads_from, inputs_from, outputs_from, locals_from, connections_from, switches_from, transitions_from, atoms_from, assignments_from, model_words, byte_in, thread_in, owned_in, connection_in, switch_in, transition_in, atom_in, assignment_in, threads_in, inputs_in, outputs_in, locals_in, connections_in, switches_in, transitions_in, atoms_in, assignments_in, timing_in, behavior_in, model_in}
use Rattle.model_items.specs.Replaced.{with_thread, with_input, with_output, with_local, with_connection, with_switch, with_transition, with_atom, with_assignment}
use Rattle.model_items.specs.Kept.{Changed, thread_same, owned_same, connection_same, switch_same, transition_same, atom_same, assignment_same, number_kept, threads_kept, inputs_kept, outputs_kept, locals_kept, connections_kept, switches_kept, transitions_kept, atoms_kept, assignments_kept}

pub thread_unchanged : (l : List ℕ) (i : ℕ) (x : Thread) → max_threads ≤ i → model_in l ≡ with_thread (model_in l) i x
unfolding timing_in behavior_in
thread_unchanged l i x h = rw (le-ltb i max_threads h)

module _ (l l' : List ℕ) (i : ℕ) (x : Thread) where
  thread_stored : Changed l l' (threads_from + i * thread_size) (threads_from + i * thread_size + thread_size) → thread_in l' (threads_from + i * thread_size) ≡ x → threads_in l' ≡ store max_threads (threads_in l) i x
  unfolding threads_in
  thread_stored w e = list_below_store max_threads _ _ i x (λ h. e) (λ j h n. thread_same l l' (threads_from + j * thread_size) (λ q u v. w q (λ y z. n (omega arith))))

  pub thread_changed : i < max_threads → Changed l l' (threads_from + i * thread_size) (threads_from + i * thread_size + thread_size) → thread_in l' (threads_from + i * thread_size) ≡ x → model_in l' ≡ with_thread (model_in l) i x
  unfolding timing_in behavior_in
  thread_changed h w e =
      let own = thread_stored w e in
      let wide : Changed l l' threads_from inputs_from = λ q n. w q (λ y z. n (omega arith) (omega arith)) in
      rw (number_kept l l' threads_from inputs_from wide modes_place refl, number_kept l l' threads_from inputs_from wide initial_place refl, number_kept l l' threads_from inputs_from wide threads_place refl, number_kept l l' threads_from inputs_from wide inputs_place refl, number_kept l l' threads_from inputs_from wide outputs_place refl, number_kept l l' threads_from inputs_from wide locals_place refl, number_kept l l' threads_from inputs_from wide connections_place refl, number_kept l l' threads_from inputs_from wide switches_place refl, number_kept l l' threads_from inputs_from wide transitions_place refl, own, inputs_kept l l' threads_from inputs_from wide refl, outputs_kept l l' threads_from inputs_from wide refl, locals_kept l l' threads_from inputs_from wide refl, connections_kept l l' threads_from inputs_from wide refl, switches_kept l l' threads_from inputs_from wide refl, transitions_kept l l' threads_from inputs_from wide refl, atoms_kept l l' threads_from inputs_from wide refl, assignments_kept l l' threads_from inputs_from wide refl)

pub input_unchanged : (l : List ℕ) (i : ℕ) (x : Owned) → max_inputs ≤ i → model_in l ≡ with_input (model_in l) i x
unfolding timing_in behavior_in
input_unchanged l i x h = rw (le-ltb i max_inputs h)

module _ (l l' : List ℕ) (i : ℕ) (x : Owned) where
  input_stored : Changed l l' (inputs_from + i * owned_size) (inputs_from + i * owned_size + owned_size) → owned_in l' (inputs_from + i * owned_size) ≡ x → inputs_in l' ≡ store max_inputs (inputs_in l) i x
  unfolding inputs_in
  input_stored w e = list_below_store max_inputs _ _ i x (λ h. e) (λ j h n. owned_same l l' (inputs_from + j * owned_size) (λ q u v. w q (λ y z. n (omega arith))))

  pub input_changed : i < max_inputs → Changed l l' (inputs_from + i * owned_size) (inputs_from + i * owned_size + owned_size) → owned_in l' (inputs_from + i * owned_size) ≡ x → model_in l' ≡ with_input (model_in l) i x
  unfolding timing_in behavior_in
  input_changed h w e =
      let own = input_stored w e in
      let wide : Changed l l' inputs_from outputs_from = λ q n. w q (λ y z. n (omega arith) (omega arith)) in
      rw (number_kept l l' inputs_from outputs_from wide modes_place refl, number_kept l l' inputs_from outputs_from wide initial_place refl, number_kept l l' inputs_from outputs_from wide threads_place refl, number_kept l l' inputs_from outputs_from wide inputs_place refl, number_kept l l' inputs_from outputs_from wide outputs_place refl, number_kept l l' inputs_from outputs_from wide locals_place refl, number_kept l l' inputs_from outputs_from wide connections_place refl, number_kept l l' inputs_from outputs_from wide switches_place refl, number_kept l l' inputs_from outputs_from wide transitions_place refl, threads_kept l l' inputs_from outputs_from wide refl, own, outputs_kept l l' inputs_from outputs_from wide refl, locals_kept l l' inputs_from outputs_from wide refl, connections_kept l l' inputs_from outputs_from wide refl, switches_kept l l' inputs_from outputs_from wide refl, transitions_kept l l' inputs_from outputs_from wide refl, atoms_kept l l' inputs_from outputs_from wide refl, assignments_kept l l' inputs_from outputs_from wide refl)

pub output_unchanged : (l : List ℕ) (i : ℕ) (x : ℕ) → max_outputs ≤ i → model_in l ≡ with_output (model_in l) i x
unfolding timing_in behavior_in
output_unchanged l i x h = rw (le-ltb i max_outputs h)

module _ (l l' : List ℕ) (i : ℕ) (x : ℕ) where
  output_stored : Changed l l' (outputs_from + i) (outputs_from + i + 1) → byte_in l' (outputs_from + i) ≡ x → outputs_in l' ≡ store max_outputs (outputs_in l) i x
  unfolding outputs_in
  output_stored w e = list_below_store max_outputs _ _ i x (λ h. e) (λ j h n. rw (w (outputs_from + j) (λ y z. n (omega arith))))

  pub output_changed : i < max_outputs → Changed l l' (outputs_from + i) (outputs_from + i + 1) → byte_in l' (outputs_from + i) ≡ x → model_in l' ≡ with_output (model_in l) i x
  unfolding timing_in behavior_in
  output_changed h w e =
      let own = output_stored w e in
      let wide : Changed l l' outputs_from locals_from = λ q n. w q (λ y z. n (omega arith) (omega arith)) in
      rw (number_kept l l' outputs_from locals_from wide modes_place refl, number_kept l l' outputs_from locals_from wide initial_place refl, number_kept l l' outputs_from locals_from wide threads_place refl, number_kept l l' outputs_from locals_from wide inputs_place refl, number_kept l l' outputs_from locals_from wide outputs_place refl, number_kept l l' outputs_from locals_from wide locals_place refl, number_kept l l' outputs_from locals_from wide connections_place refl, number_kept l l' outputs_from locals_from wide switches_place refl, number_kept l l' outputs_from locals_from wide transitions_place refl, threads_kept l l' outputs_from locals_from wide refl, inputs_kept l l' outputs_from locals_from wide refl, own, locals_kept l l' outputs_from locals_from wide refl, connections_kept l l' outputs_from locals_from wide refl, switches_kept l l' outputs_from locals_from wide refl, transitions_kept l l' outputs_from locals_from wide refl, atoms_kept l l' outputs_from locals_from wide refl, assignments_kept l l' outputs_from locals_from wide refl)

pub local_unchanged : (l : List ℕ) (i : ℕ) (x : Owned) → max_locals ≤ i → model_in l ≡ with_local (model_in l) i x
unfolding timing_in behavior_in
local_unchanged l i x h = rw (le-ltb i max_locals h)

module _ (l l' : List ℕ) (i : ℕ) (x : Owned) where
  local_stored : Changed l l' (locals_from + i * owned_size) (locals_from + i * owned_size + owned_size) → owned_in l' (locals_from + i * owned_size) ≡ x → locals_in l' ≡ store max_locals (locals_in l) i x
  unfolding locals_in
  local_stored w e = list_below_store max_locals _ _ i x (λ h. e) (λ j h n. owned_same l l' (locals_from + j * owned_size) (λ q u v. w q (λ y z. n (omega arith))))

  pub local_changed : i < max_locals → Changed l l' (locals_from + i * owned_size) (locals_from + i * owned_size + owned_size) → owned_in l' (locals_from + i * owned_size) ≡ x → model_in l' ≡ with_local (model_in l) i x
  unfolding timing_in behavior_in
  local_changed h w e =
      let own = local_stored w e in
      let wide : Changed l l' locals_from connections_from = λ q n. w q (λ y z. n (omega arith) (omega arith)) in
      rw (number_kept l l' locals_from connections_from wide modes_place refl, number_kept l l' locals_from connections_from wide initial_place refl, number_kept l l' locals_from connections_from wide threads_place refl, number_kept l l' locals_from connections_from wide inputs_place refl, number_kept l l' locals_from connections_from wide outputs_place refl, number_kept l l' locals_from connections_from wide locals_place refl, number_kept l l' locals_from connections_from wide connections_place refl, number_kept l l' locals_from connections_from wide switches_place refl, number_kept l l' locals_from connections_from wide transitions_place refl, threads_kept l l' locals_from connections_from wide refl, inputs_kept l l' locals_from connections_from wide refl, outputs_kept l l' locals_from connections_from wide refl, own, connections_kept l l' locals_from connections_from wide refl, switches_kept l l' locals_from connections_from wide refl, transitions_kept l l' locals_from connections_from wide refl, atoms_kept l l' locals_from connections_from wide refl, assignments_kept l l' locals_from connections_from wide refl)

pub connection_unchanged : (l : List ℕ) (i : ℕ) (x : Connection) → max_connections ≤ i → model_in l ≡ with_connection (model_in l) i x
unfolding timing_in behavior_in
connection_unchanged l i x h = rw (le-ltb i max_connections h)

module _ (l l' : List ℕ) (i : ℕ) (x : Connection) where
  connection_stored : Changed l l' (connections_from + i * connection_size) (connections_from + i * connection_size + connection_size) → connection_in l' (connections_from + i * connection_size) ≡ x → connections_in l' ≡ store max_connections (connections_in l) i x
  unfolding connections_in
  connection_stored w e = list_below_store max_connections _ _ i x (λ h. e) (λ j h n. connection_same l l' (connections_from + j * connection_size) (λ q u v. w q (λ y z. n (omega arith))))

  pub connection_changed : i < max_connections → Changed l l' (connections_from + i * connection_size) (connections_from + i * connection_size + connection_size) → connection_in l' (connections_from + i * connection_size) ≡ x → model_in l' ≡ with_connection (model_in l) i x
  unfolding timing_in behavior_in
  connection_changed h w e =
      let own = connection_stored w e in
      let wide : Changed l l' connections_from switches_from = λ q n. w q (λ y z. n (omega arith) (omega arith)) in
      rw (number_kept l l' connections_from switches_from wide modes_place refl, number_kept l l' connections_from switches_from wide initial_place refl, number_kept l l' connections_from switches_from wide threads_place refl, number_kept l l' connections_from switches_from wide inputs_place refl, number_kept l l' connections_from switches_from wide outputs_place refl, number_kept l l' connections_from switches_from wide locals_place refl, number_kept l l' connections_from switches_from wide connections_place refl, number_kept l l' connections_from switches_from wide switches_place refl, number_kept l l' connections_from switches_from wide transitions_place refl, threads_kept l l' connections_from switches_from wide refl, inputs_kept l l' connections_from switches_from wide refl, outputs_kept l l' connections_from switches_from wide refl, locals_kept l l' connections_from switches_from wide refl, own, switches_kept l l' connections_from switches_from wide refl, transitions_kept l l' connections_from switches_from wide refl, atoms_kept l l' connections_from switches_from wide refl, assignments_kept l l' connections_from switches_from wide refl)

pub switch_unchanged : (l : List ℕ) (i : ℕ) (x : ModeTransition) → max_switches ≤ i → model_in l ≡ with_switch (model_in l) i x
unfolding timing_in behavior_in
switch_unchanged l i x h = rw (le-ltb i max_switches h)

module _ (l l' : List ℕ) (i : ℕ) (x : ModeTransition) where
  switch_stored : Changed l l' (switches_from + i * switch_size) (switches_from + i * switch_size + switch_size) → switch_in l' (switches_from + i * switch_size) ≡ x → switches_in l' ≡ store max_switches (switches_in l) i x
  unfolding switches_in
  switch_stored w e = list_below_store max_switches _ _ i x (λ h. e) (λ j h n. switch_same l l' (switches_from + j * switch_size) (λ q u v. w q (λ y z. n (omega arith))))

  pub switch_changed : i < max_switches → Changed l l' (switches_from + i * switch_size) (switches_from + i * switch_size + switch_size) → switch_in l' (switches_from + i * switch_size) ≡ x → model_in l' ≡ with_switch (model_in l) i x
  unfolding timing_in behavior_in
  switch_changed h w e =
      let own = switch_stored w e in
      let wide : Changed l l' switches_from transitions_from = λ q n. w q (λ y z. n (omega arith) (omega arith)) in
      rw (number_kept l l' switches_from transitions_from wide modes_place refl, number_kept l l' switches_from transitions_from wide initial_place refl, number_kept l l' switches_from transitions_from wide threads_place refl, number_kept l l' switches_from transitions_from wide inputs_place refl, number_kept l l' switches_from transitions_from wide outputs_place refl, number_kept l l' switches_from transitions_from wide locals_place refl, number_kept l l' switches_from transitions_from wide connections_place refl, number_kept l l' switches_from transitions_from wide switches_place refl, number_kept l l' switches_from transitions_from wide transitions_place refl, threads_kept l l' switches_from transitions_from wide refl, inputs_kept l l' switches_from transitions_from wide refl, outputs_kept l l' switches_from transitions_from wide refl, locals_kept l l' switches_from transitions_from wide refl, connections_kept l l' switches_from transitions_from wide refl, own, transitions_kept l l' switches_from transitions_from wide refl, atoms_kept l l' switches_from transitions_from wide refl, assignments_kept l l' switches_from transitions_from wide refl)

pub transition_unchanged : (l : List ℕ) (i : ℕ) (x : Transition) → max_transitions ≤ i → model_in l ≡ with_transition (model_in l) i x
unfolding timing_in behavior_in
transition_unchanged l i x h = rw (le-ltb i max_transitions h)

module _ (l l' : List ℕ) (i : ℕ) (x : Transition) where
  transition_stored : Changed l l' (transitions_from + i * transition_size) (transitions_from + i * transition_size + transition_size) → transition_in l' (transitions_from + i * transition_size) ≡ x → transitions_in l' ≡ store max_transitions (transitions_in l) i x
  unfolding transitions_in
  transition_stored w e = list_below_store max_transitions _ _ i x (λ h. e) (λ j h n. transition_same l l' (transitions_from + j * transition_size) (λ q u v. w q (λ y z. n (omega arith))))

  pub transition_changed : i < max_transitions → Changed l l' (transitions_from + i * transition_size) (transitions_from + i * transition_size + transition_size) → transition_in l' (transitions_from + i * transition_size) ≡ x → model_in l' ≡ with_transition (model_in l) i x
  unfolding timing_in behavior_in
  transition_changed h w e =
      let own = transition_stored w e in
      let wide : Changed l l' transitions_from atoms_from = λ q n. w q (λ y z. n (omega arith) (omega arith)) in
      rw (number_kept l l' transitions_from atoms_from wide modes_place refl, number_kept l l' transitions_from atoms_from wide initial_place refl, number_kept l l' transitions_from atoms_from wide threads_place refl, number_kept l l' transitions_from atoms_from wide inputs_place refl, number_kept l l' transitions_from atoms_from wide outputs_place refl, number_kept l l' transitions_from atoms_from wide locals_place refl, number_kept l l' transitions_from atoms_from wide connections_place refl, number_kept l l' transitions_from atoms_from wide switches_place refl, number_kept l l' transitions_from atoms_from wide transitions_place refl, threads_kept l l' transitions_from atoms_from wide refl, inputs_kept l l' transitions_from atoms_from wide refl, outputs_kept l l' transitions_from atoms_from wide refl, locals_kept l l' transitions_from atoms_from wide refl, connections_kept l l' transitions_from atoms_from wide refl, switches_kept l l' transitions_from atoms_from wide refl, own, atoms_kept l l' transitions_from atoms_from wide refl, assignments_kept l l' transitions_from atoms_from wide refl)

pub atom_unchanged : (l : List ℕ) (i : ℕ) (x : Atom) → max_times ≤ i → model_in l ≡ with_atom (model_in l) i x
unfolding timing_in behavior_in
atom_unchanged l i x h = rw (le-ltb i max_times h)

module _ (l l' : List ℕ) (i : ℕ) (x : Atom) where
  atom_stored : Changed l l' (atoms_from + i * atom_size) (atoms_from + i * atom_size + atom_size) → atom_in l' (atoms_from + i * atom_size) ≡ x → atoms_in l' ≡ store max_times (atoms_in l) i x
  unfolding atoms_in
  atom_stored w e = list_below_store max_times _ _ i x (λ h. e) (λ j h n. atom_same l l' (atoms_from + j * atom_size) (λ q u v. w q (λ y z. n (omega arith))))

  pub atom_changed : i < max_times → Changed l l' (atoms_from + i * atom_size) (atoms_from + i * atom_size + atom_size) → atom_in l' (atoms_from + i * atom_size) ≡ x → model_in l' ≡ with_atom (model_in l) i x
  unfolding timing_in behavior_in
  atom_changed h w e =
      let own = atom_stored w e in
      let wide : Changed l l' atoms_from assignments_from = λ q n. w q (λ y z. n (omega arith) (omega arith)) in
      rw (number_kept l l' atoms_from assignments_from wide modes_place refl, number_kept l l' atoms_from assignments_from wide initial_place refl, number_kept l l' atoms_from assignments_from wide threads_place refl, number_kept l l' atoms_from assignments_from wide inputs_place refl, number_kept l l' atoms_from assignments_from wide outputs_place refl, number_kept l l' atoms_from assignments_from wide locals_place refl, number_kept l l' atoms_from assignments_from wide connections_place refl, number_kept l l' atoms_from assignments_from wide switches_place refl, number_kept l l' atoms_from assignments_from wide transitions_place refl, threads_kept l l' atoms_from assignments_from wide refl, inputs_kept l l' atoms_from assignments_from wide refl, outputs_kept l l' atoms_from assignments_from wide refl, locals_kept l l' atoms_from assignments_from wide refl, connections_kept l l' atoms_from assignments_from wide refl, switches_kept l l' atoms_from assignments_from wide refl, transitions_kept l l' atoms_from assignments_from wide refl, own, assignments_kept l l' atoms_from assignments_from wide refl)

pub assignment_unchanged : (l : List ℕ) (i : ℕ) (x : Assignment) → max_times ≤ i → model_in l ≡ with_assignment (model_in l) i x
unfolding timing_in behavior_in
assignment_unchanged l i x h = rw (le-ltb i max_times h)

module _ (l l' : List ℕ) (i : ℕ) (x : Assignment) where
  assignment_stored : Changed l l' (assignments_from + i * assignment_size) (assignments_from + i * assignment_size + assignment_size) → assignment_in l' (assignments_from + i * assignment_size) ≡ x → assignments_in l' ≡ store max_times (assignments_in l) i x
  unfolding assignments_in
  assignment_stored w e = list_below_store max_times _ _ i x (λ h. e) (λ j h n. assignment_same l l' (assignments_from + j * assignment_size) (λ q u v. w q (λ y z. n (omega arith))))

  pub assignment_changed : i < max_times → Changed l l' (assignments_from + i * assignment_size) (assignments_from + i * assignment_size + assignment_size) → assignment_in l' (assignments_from + i * assignment_size) ≡ x → model_in l' ≡ with_assignment (model_in l) i x
  unfolding timing_in behavior_in
  assignment_changed h w e =
      let own = assignment_stored w e in
      let wide : Changed l l' assignments_from model_words = λ q n. w q (λ y z. n (omega arith) (omega arith)) in
      rw (number_kept l l' assignments_from model_words wide modes_place refl, number_kept l l' assignments_from model_words wide initial_place refl, number_kept l l' assignments_from model_words wide threads_place refl, number_kept l l' assignments_from model_words wide inputs_place refl, number_kept l l' assignments_from model_words wide outputs_place refl, number_kept l l' assignments_from model_words wide locals_place refl, number_kept l l' assignments_from model_words wide connections_place refl, number_kept l l' assignments_from model_words wide switches_place refl, number_kept l l' assignments_from model_words wide transitions_place refl, threads_kept l l' assignments_from model_words wide refl, inputs_kept l l' assignments_from model_words wide refl, outputs_kept l l' assignments_from model_words wide refl, locals_kept l l' assignments_from model_words wide refl, connections_kept l l' assignments_from model_words wide refl, switches_kept l l' assignments_from model_words wide refl, transitions_kept l l' assignments_from model_words wide refl, atoms_kept l l' assignments_from model_words wide refl, own)
