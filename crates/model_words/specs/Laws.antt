-- Laws of a model in a list: its items by number.
use Rattle.std.specs.Prelude.{◌≡◌, refl, List, ℕ, ◌+◌, ◌*◌, ◌<◌, ◌≤◌, min}
use Rattle.std.proofs.Common.{sym, ◌∙◌, lt-ltb, ap, arith}
use Rattle.std.proofs.Math.Decide.{dec_lt}
use Rattle.numbers.specs.Lists.{item, list_below}
use Rattle.numbers.specs.ListLaws.{item_past, item_below}
use Rattle.model_format.specs.declared.Thread.{Thread}
use Rattle.model_format.specs.declared.Owned.{Owned}
use Rattle.model_format.specs.declared.Connection.{Connection}
use Rattle.model_format.specs.declared.ModeTransition.{ModeTransition}
use Rattle.model_format.specs.declared.Transition.{Transition}
use Rattle.model_format.specs.declared.Atom.{Atom}
use Rattle.model_format.specs.declared.Assignment.{Assignment}
use Rattle.model_format.specs.Model.{max_threads, max_inputs, max_outputs, max_locals, max_connections, max_switches, max_transitions, max_each, max_times, no_thread, no_owned, no_connection, no_switch, no_transition, no_atom, no_assignment, thread_at, input_at, input_owner, output_owner, local_at, connection_at, switch_at, transition_at, atom_at, assignment_at}
use Rattle.model_words.specs.Words.{thread_size, owned_size, connection_size, switch_size, transition_size, atom_size, assignment_size, threads_from, inputs_from, outputs_from, locals_from, connections_from, switches_from, transitions_from, atoms_from, assignments_from, byte_in, thread_in, owned_in, connection_in, switch_in, transition_in, atom_in, assignment_in, threads_in, inputs_in, outputs_in, locals_in, connections_in, switches_in, transitions_in, atoms_in, assignments_in, timing_in, behavior_in}

-- ---- items by number
module _ {A : Type 0} (room : ℕ) (d x : A) (i : ℕ) where
  pub there : (f : ℕ → A) → i < room → x ≡ f i → x ≡ item room (list_below room f) i d
  there f h e = e ∙ sym (item_below room f i d ∙ rw (lt-ltb i room h))

  missing : (l : List A) → room ≤ i → x ≡ d → x ≡ item room l i d
  missing l h e = e ∙ sym (item_past room l i d h)

-- a place past the room may as well be the first past it
pub item_capped : {A : Type 0} (room : ℕ) (l : List A) (i k : ℕ) (d : A) → i ≡ min k room → item room l i d ≡ item room l k d
item_capped room l i k d e = go (dec_lt k room)
  where
    go : Dec (k < room) → item room l i d ≡ item room l k d
    go (yes h) = let z : i ≡ k = omega arith in rw z
    go (no h) = item_past room l i d (omega arith) ∙ sym (item_past room l k d (omega arith))

module _ (l : List ℕ) (i : ℕ) where
  pub thread_there : (x : Thread) → i < max_threads → x ≡ thread_in l (threads_from + i * thread_size) → x ≡ thread_at (timing_in l) i
  unfolding thread_at timing_in threads_in
  thread_there x h e = there max_threads no_thread x i (λ j. thread_in l (threads_from + j * thread_size)) h e

  pub thread_missing : (x : Thread) → max_threads ≤ i → x ≡ no_thread → x ≡ thread_at (timing_in l) i
  unfolding thread_at timing_in
  thread_missing x h e = missing max_threads no_thread x i (threads_in l) h e

  pub input_there : (x : Owned) → i < max_inputs → x ≡ owned_in l (inputs_from + i * owned_size) → x ≡ input_at (timing_in l) i
  unfolding input_at timing_in inputs_in
  input_there x h e = there max_inputs no_owned x i (λ j. owned_in l (inputs_from + j * owned_size)) h e

  pub input_missing : (x : Owned) → max_inputs ≤ i → x ≡ no_owned → x ≡ input_at (timing_in l) i
  unfolding input_at timing_in
  input_missing x h e = missing max_inputs no_owned x i (inputs_in l) h e

  pub owner_there : (x : ℕ) → i < max_inputs → x ≡ byte_in l (inputs_from + i * owned_size) → x ≡ input_owner (timing_in l) i
  unfolding owned_in
  owner_there x h e = e ∙ ap (λ (y : Owned). y.owner) (input_there (owned_in l (inputs_from + i * owned_size)) h refl)

  pub owner_missing : (x : ℕ) → max_inputs ≤ i → x ≡ 0 → x ≡ input_owner (timing_in l) i
  owner_missing x h e = e ∙ ap (λ (y : Owned). y.owner) (input_missing no_owned h refl)

  pub output_there : (x : ℕ) → i < max_outputs → x ≡ byte_in l (outputs_from + i) → x ≡ output_owner (timing_in l) i
  unfolding output_owner timing_in outputs_in
  output_there x h e = there max_outputs 0 x i (λ j. byte_in l (outputs_from + j)) h e

  pub output_missing : (x : ℕ) → max_outputs ≤ i → x ≡ 0 → x ≡ output_owner (timing_in l) i
  unfolding output_owner timing_in
  output_missing x h e = missing max_outputs 0 x i (outputs_in l) h e

  pub local_there : (x : Owned) → i < max_locals → x ≡ owned_in l (locals_from + i * owned_size) → x ≡ local_at (timing_in l) i
  unfolding local_at timing_in locals_in
  local_there x h e = there max_locals no_owned x i (λ j. owned_in l (locals_from + j * owned_size)) h e

  pub local_missing : (x : Owned) → max_locals ≤ i → x ≡ no_owned → x ≡ local_at (timing_in l) i
  unfolding local_at timing_in
  local_missing x h e = missing max_locals no_owned x i (locals_in l) h e

  pub connection_there : (x : Connection) → i < max_connections → x ≡ connection_in l (connections_from + i * connection_size) → x ≡ connection_at (timing_in l) i
  unfolding connection_at timing_in connections_in
  connection_there x h e = there max_connections no_connection x i (λ j. connection_in l (connections_from + j * connection_size)) h e

  pub connection_missing : (x : Connection) → max_connections ≤ i → x ≡ no_connection → x ≡ connection_at (timing_in l) i
  unfolding connection_at timing_in
  connection_missing x h e = missing max_connections no_connection x i (connections_in l) h e

  pub switch_there : (x : ModeTransition) → i < max_switches → x ≡ switch_in l (switches_from + i * switch_size) → x ≡ switch_at (timing_in l) i
  unfolding switch_at timing_in switches_in
  switch_there x h e = there max_switches no_switch x i (λ j. switch_in l (switches_from + j * switch_size)) h e

  pub switch_missing : (x : ModeTransition) → max_switches ≤ i → x ≡ no_switch → x ≡ switch_at (timing_in l) i
  unfolding switch_at timing_in
  switch_missing x h e = missing max_switches no_switch x i (switches_in l) h e

  pub transition_there : (x : Transition) → i < max_transitions → x ≡ transition_in l (transitions_from + i * transition_size) → x ≡ transition_at (behavior_in l) i
  unfolding transition_at behavior_in transitions_in
  transition_there x h e = there max_transitions no_transition x i (λ j. transition_in l (transitions_from + j * transition_size)) h e

  pub transition_missing : (x : Transition) → max_transitions ≤ i → x ≡ no_transition → x ≡ transition_at (behavior_in l) i
  unfolding transition_at behavior_in
  transition_missing x h e = missing max_transitions no_transition x i (transitions_in l) h e

-- of transition k
module _ (l : List ℕ) (k j i : ℕ) (w : i ≡ min (k * max_each + j) max_times) where
  pub atom_there : (x : Atom) → i < max_times → x ≡ atom_in l (atoms_from + i * atom_size) → x ≡ atom_at (behavior_in l) k j
  unfolding atom_at behavior_in atoms_in
  atom_there x h e =
      let z : i ≡ k * max_each + j = omega arith in
      there max_times no_atom x (k * max_each + j) (λ q. atom_in l (atoms_from + q * atom_size)) (omega arith) (rw (← z) e)

  pub atom_missing : (x : Atom) → max_times ≤ i → x ≡ no_atom → x ≡ atom_at (behavior_in l) k j
  unfolding atom_at behavior_in
  atom_missing x h e = missing max_times no_atom x (k * max_each + j) (atoms_in l) (omega arith) e

  pub assignment_there : (x : Assignment) → i < max_times → x ≡ assignment_in l (assignments_from + i * assignment_size) → x ≡ assignment_at (behavior_in l) k j
  unfolding assignment_at behavior_in assignments_in
  assignment_there x h e =
      let z : i ≡ k * max_each + j = omega arith in
      there max_times no_assignment x (k * max_each + j) (λ q. assignment_in l (assignments_from + q * assignment_size)) (omega arith) (rw (← z) e)

  pub assignment_missing : (x : Assignment) → max_times ≤ i → x ≡ no_assignment → x ≡ assignment_at (behavior_in l) k j
  unfolding assignment_at behavior_in
  assignment_missing x h e = missing max_times no_assignment x (k * max_each + j) (assignments_in l) (omega arith) e
