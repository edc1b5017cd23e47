-- A model in a list with another count of the items of a kind.
use Rattle.std.specs.Prelude.{◌≡◌, List, [], ◌∷◌, ℕ, ◌+◌, ◌≤◌, set, length}
use Rattle.std.proofs.Common.{arith, refl, get_or}
use Rattle.model_format.specs.Model.{with_threads, with_inputs, with_outputs, with_locals, with_connections, with_switches}
use Rattle.model_words.specs.Words.{modes_place, initial_place, threads_place, inputs_place, outputs_place, locals_place, connections_place, switches_place, transitions_place, model_words, timing_in, behavior_in}
use Rattle.model_items.specs.Kept.{Changed, number_kept, threads_kept, inputs_kept, outputs_kept, locals_kept, connections_kept, switches_kept, transitions_kept, atoms_kept, assignments_kept}
use Rattle.model_items.specs.Stored.{put_changed, put_at}

module _ (l l' : List ℕ) (n : ℕ) (z : model_words ≤ length l) where
  pub threads_counted : l' ≡ set l threads_place n → (timing_in l' ≡ with_threads (timing_in l) n (timing_in l).thread) × (behavior_in l' ≡ behavior_in l)
  unfolding timing_in behavior_in
  threads_counted e =
      let w : Changed l l' threads_place (threads_place + 1) = put_changed l l' (n ∷ []) threads_place e in
      let own : get_or l' threads_place 0 ≡ n = put_at l l' (n ∷ []) threads_place e 0 threads_place (omega arith) (omega arith) (omega arith) in
      (rw (number_kept l l' threads_place (threads_place + 1) w modes_place refl, number_kept l l' threads_place (threads_place + 1) w initial_place refl, own, number_kept l l' threads_place (threads_place + 1) w inputs_place refl, number_kept l l' threads_place (threads_place + 1) w outputs_place refl, number_kept l l' threads_place (threads_place + 1) w locals_place refl, number_kept l l' threads_place (threads_place + 1) w connections_place refl, number_kept l l' threads_place (threads_place + 1) w switches_place refl, threads_kept l l' threads_place (threads_place + 1) w refl, inputs_kept l l' threads_place (threads_place + 1) w refl, outputs_kept l l' threads_place (threads_place + 1) w refl, locals_kept l l' threads_place (threads_place + 1) w refl, connections_kept l l' threads_place (threads_place + 1) w refl, switches_kept l l' threads_place (threads_place + 1) w refl), rw (number_kept l l' threads_place (threads_place + 1) w transitions_place refl, transitions_kept l l' threads_place (threads_place + 1) w refl, atoms_kept l l' threads_place (threads_place + 1) w refl, assignments_kept l l' threads_place (threads_place + 1) w refl))

  pub inputs_counted : l' ≡ set l inputs_place n → (timing_in l' ≡ with_inputs (timing_in l) n (timing_in l).input) × (behavior_in l' ≡ behavior_in l)
  unfolding timing_in behavior_in
  inputs_counted e =
      let w : Changed l l' inputs_place (inputs_place + 1) = put_changed l l' (n ∷ []) inputs_place e in
      let own : get_or l' inputs_place 0 ≡ n = put_at l l' (n ∷ []) inputs_place e 0 inputs_place (omega arith) (omega arith) (omega arith) in
      (rw (number_kept l l' inputs_place (inputs_place + 1) w modes_place refl, number_kept l l' inputs_place (inputs_place + 1) w initial_place refl, number_kept l l' inputs_place (inputs_place + 1) w threads_place refl, own, number_kept l l' inputs_place (inputs_place + 1) w outputs_place refl, number_kept l l' inputs_place (inputs_place + 1) w locals_place refl, number_kept l l' inputs_place (inputs_place + 1) w connections_place refl, number_kept l l' inputs_place (inputs_place + 1) w switches_place refl, threads_kept l l' inputs_place (inputs_place + 1) w refl, inputs_kept l l' inputs_place (inputs_place + 1) w refl, outputs_kept l l' inputs_place (inputs_place + 1) w refl, locals_kept l l' inputs_place (inputs_place + 1) w refl, connections_kept l l' inputs_place (inputs_place + 1) w refl, switches_kept l l' inputs_place (inputs_place + 1) w refl), rw (number_kept l l' inputs_place (inputs_place + 1) w transitions_place refl, transitions_kept l l' inputs_place (inputs_place + 1) w refl, atoms_kept l l' inputs_place (inputs_place + 1) w refl, assignments_kept l l' inputs_place (inputs_place + 1) w refl))

  pub outputs_counted : l' ≡ set l outputs_place n → (timing_in l' ≡ with_outputs (timing_in l) n (timing_in l).output) × (behavior_in l' ≡ behavior_in l)
  unfolding timing_in behavior_in
  outputs_counted e =
      let w : Changed l l' outputs_place (outputs_place + 1) = put_changed l l' (n ∷ []) outputs_place e in
      let own : get_or l' outputs_place 0 ≡ n = put_at l l' (n ∷ []) outputs_place e 0 outputs_place (omega arith) (omega arith) (omega arith) in
      (rw (number_kept l l' outputs_place (outputs_place + 1) w modes_place refl, number_kept l l' outputs_place (outputs_place + 1) w initial_place refl, number_kept l l' outputs_place (outputs_place + 1) w threads_place refl, number_kept l l' outputs_place (outputs_place + 1) w inputs_place refl, own, number_kept l l' outputs_place (outputs_place + 1) w locals_place refl, number_kept l l' outputs_place (outputs_place + 1) w connections_place refl, number_kept l l' outputs_place (outputs_place + 1) w switches_place refl, threads_kept l l' outputs_place (outputs_place + 1) w refl, inputs_kept l l' outputs_place (outputs_place + 1) w refl, outputs_kept l l' outputs_place (outputs_place + 1) w refl, locals_kept l l' outputs_place (outputs_place + 1) w refl, connections_kept l l' outputs_place (outputs_place + 1) w refl, switches_kept l l' outputs_place (outputs_place + 1) w refl), rw (number_kept l l' outputs_place (outputs_place + 1) w transitions_place refl, transitions_kept l l' outputs_place (outputs_place + 1) w refl, atoms_kept l l' outputs_place (outputs_place + 1) w refl, assignments_kept l l' outputs_place (outputs_place + 1) w refl))

  pub locals_counted : l' ≡ set l locals_place n → (timing_in l' ≡ with_locals (timing_in l) n (timing_in l).local) × (behavior_in l' ≡ behavior_in l)
  unfolding timing_in behavior_in
  locals_counted e =
      let w : Changed l l' locals_place (locals_place + 1) = put_changed l l' (n ∷ []) locals_place e in
      let own : get_or l' locals_place 0 ≡ n = put_at l l' (n ∷ []) locals_place e 0 locals_place (omega arith) (omega arith) (omega arith) in
      (rw (number_kept l l' locals_place (locals_place + 1) w modes_place refl, number_kept l l' locals_place (locals_place + 1) w initial_place refl, number_kept l l' locals_place (locals_place + 1) w threads_place refl, number_kept l l' locals_place (locals_place + 1) w inputs_place refl, number_kept l l' locals_place (locals_place + 1) w outputs_place refl, own, number_kept l l' locals_place (locals_place + 1) w connections_place refl, number_kept l l' locals_place (locals_place + 1) w switches_place refl, threads_kept l l' locals_place (locals_place + 1) w refl, inputs_kept l l' locals_place (locals_place + 1) w refl, outputs_kept l l' locals_place (locals_place + 1) w refl, locals_kept l l' locals_place (locals_place + 1) w refl, connections_kept l l' locals_place (locals_place + 1) w refl, switches_kept l l' locals_place (locals_place + 1) w refl), rw (number_kept l l' locals_place (locals_place + 1) w transitions_place refl, transitions_kept l l' locals_place (locals_place + 1) w refl, atoms_kept l l' locals_place (locals_place + 1) w refl, assignments_kept l l' locals_place (locals_place + 1) w refl))

  pub connections_counted : l' ≡ set l connections_place n → (timing_in l' ≡ with_connections (timing_in l) n (timing_in l).connection) × (behavior_in l' ≡ behavior_in l)
  unfolding timing_in behavior_in
  connections_counted e =
      let w : Changed l l' connections_place (connections_place + 1) = put_changed l l' (n ∷ []) connections_place e in
      let own : get_or l' connections_place 0 ≡ n = put_at l l' (n ∷ []) connections_place e 0 connections_place (omega arith) (omega arith) (omega arith) in
      (rw (number_kept l l' connections_place (connections_place + 1) w modes_place refl, number_kept l l' connections_place (connections_place + 1) w initial_place refl, number_kept l l' connections_place (connections_place + 1) w threads_place refl, number_kept l l' connections_place (connections_place + 1) w inputs_place refl, number_kept l l' connections_place (connections_place + 1) w outputs_place refl, number_kept l l' connections_place (connections_place + 1) w locals_place refl, own, number_kept l l' connections_place (connections_place + 1) w switches_place refl, threads_kept l l' connections_place (connections_place + 1) w refl, inputs_kept l l' connections_place (connections_place + 1) w refl, outputs_kept l l' connections_place (connections_place + 1) w refl, locals_kept l l' connections_place (connections_place + 1) w refl, connections_kept l l' connections_place (connections_place + 1) w refl, switches_kept l l' connections_place (connections_place + 1) w refl), rw (number_kept l l' connections_place (connections_place + 1) w transitions_place refl, transitions_kept l l' connections_place (connections_place + 1) w refl, atoms_kept l l' connections_place (connections_place + 1) w refl, assignments_kept l l' connections_place (connections_place + 1) w refl))

  pub switches_counted : l' ≡ set l switches_place n → (timing_in l' ≡ with_switches (timing_in l) n (timing_in l).switch) × (behavior_in l' ≡ behavior_in l)
  unfolding timing_in behavior_in
  switches_counted e =
      let w : Changed l l' switches_place (switches_place + 1) = put_changed l l' (n ∷ []) switches_place e in
      let own : get_or l' switches_place 0 ≡ n = put_at l l' (n ∷ []) switches_place e 0 switches_place (omega arith) (omega arith) (omega arith) in
      (rw (number_kept l l' switches_place (switches_place + 1) w modes_place refl, number_kept l l' switches_place (switches_place + 1) w initial_place refl, number_kept l l' switches_place (switches_place + 1) w threads_place refl, number_kept l l' switches_place (switches_place + 1) w inputs_place refl, number_kept l l' switches_place (switches_place + 1) w outputs_place refl, number_kept l l' switches_place (switches_place + 1) w locals_place refl, number_kept l l' switches_place (switches_place + 1) w connections_place refl, own, threads_kept l l' switches_place (switches_place + 1) w refl, inputs_kept l l' switches_place (switches_place + 1) w refl, outputs_kept l l' switches_place (switches_place + 1) w refl, locals_kept l l' switches_place (switches_place + 1) w refl, connections_kept l l' switches_place (switches_place + 1) w refl, switches_kept l l' switches_place (switches_place + 1) w refl), rw (number_kept l l' switches_place (switches_place + 1) w transitions_place refl, transitions_kept l l' switches_place (switches_place + 1) w refl, atoms_kept l l' switches_place (switches_place + 1) w refl, assignments_kept l l' switches_place (switches_place + 1) w refl))

  pub transitions_counted : l' ≡ set l transitions_place n → (timing_in l' ≡ timing_in l) × (behavior_in l' ≡ record { transitions = n; transition = (behavior_in l).transition; atom = (behavior_in l).atom; assignment = (behavior_in l).assignment })
  unfolding timing_in behavior_in
  transitions_counted e =
      let w : Changed l l' transitions_place (transitions_place + 1) = put_changed l l' (n ∷ []) transitions_place e in
      let own : get_or l' transitions_place 0 ≡ n = put_at l l' (n ∷ []) transitions_place e 0 transitions_place (omega arith) (omega arith) (omega arith) in
      (rw (number_kept l l' transitions_place (transitions_place + 1) w modes_place refl, number_kept l l' transitions_place (transitions_place + 1) w initial_place refl, number_kept l l' transitions_place (transitions_place + 1) w threads_place refl, number_kept l l' transitions_place (transitions_place + 1) w inputs_place refl, number_kept l l' transitions_place (transitions_place + 1) w outputs_place refl, number_kept l l' transitions_place (transitions_place + 1) w locals_place refl, number_kept l l' transitions_place (transitions_place + 1) w connections_place refl, number_kept l l' transitions_place (transitions_place + 1) w switches_place refl, threads_kept l l' transitions_place (transitions_place + 1) w refl, inputs_kept l l' transitions_place (transitions_place + 1) w refl, outputs_kept l l' transitions_place (transitions_place + 1) w refl, locals_kept l l' transitions_place (transitions_place + 1) w refl, connections_kept l l' transitions_place (transitions_place + 1) w refl, switches_kept l l' transitions_place (transitions_place + 1) w refl), rw (own, transitions_kept l l' transitions_place (transitions_place + 1) w refl, atoms_kept l l' transitions_place (transitions_place + 1) w refl, assignments_kept l l' transitions_place (transitions_place + 1) w refl))
