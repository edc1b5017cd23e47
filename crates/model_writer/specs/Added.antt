-- A record added to a model in a list: l is the list before, l₂ after.
use Rattle.std.specs.Prelude.{◌≡◌, refl, List, [], ◌∷◌, ℕ, ◌+◌, ◌*◌, ◌%◌, ◌<◌, ◌≤◌, min, get_or, set, length}
use Rattle.std.proofs.Common.{sym, ◌∙◌, ap, arith}
use Rattle.std.proofs.Math.Decide.{dec_lt}
use Rattle.std.proofs.lemmas.List.Edits.{sets}
use Rattle.numbers.specs.declared.Duration.{Duration}
use Rattle.numbers.specs.Lists.{store}
use Rattle.numbers.specs.ListLaws.{store_past}
use Rattle.model_format.specs.declared.Head.{Head}
use Rattle.model_format.specs.declared.Thread.{Thread}
use Rattle.model_format.specs.declared.Owned.{Owned}
use Rattle.model_format.specs.declared.Connection.{Connection}
use Rattle.model_format.specs.declared.ModeTransition.{ModeTransition}
use Rattle.model_format.specs.declared.Transition.{Transition}
use Rattle.model_format.specs.declared.Atom.{Atom}
use Rattle.model_format.specs.declared.Assignment.{Assignment}
use Rattle.model_format.specs.declared.Behavior.{Behavior}
use Rattle.model_format.specs.declared.Model.{Model}
use Rattle.model_format.specs.declared.Record.TheVariants.{HeadRecord, ThreadRecord, InputRecord, OutputRecord, LocalRecord, ConnectionRecord, ModeRecord, TransitionRecord, AtomRecord, AssignmentRecord}
use Rattle.model_format.specs.Model.{max_each, max_times, transition_at, h1_of, h2_of}
use Rattle.model_format.specs.Reading.{last_transition, add_head, add_thread, add_input, add_output, add_local, add_connection, add_switch, add_transition, add_atom, add_assignment, add_record}
use Rattle.model_words.specs.Words.{modes_place, initial_place, threads_place, inputs_place, outputs_place, locals_place, connections_place, switches_place, transitions_place, model_words, timing_in, behavior_in, model_in}
use Rattle.model_items.specs.Replaced.{with_thread, with_input, with_output, with_local, with_connection, with_switch, with_transition, with_atom_count, with_assignment_count, with_atom, with_assignment}
use Rattle.model_items.specs.Kept.{Changed, number_kept, threads_kept, inputs_kept, outputs_kept, locals_kept, connections_kept, switches_kept, transitions_kept, atoms_kept, assignments_kept}
use Rattle.model_items.specs.Stored.{put_changed, put_at}
use Rattle.model_writer.specs.Counts.{threads_counted, inputs_counted, outputs_counted, locals_counted, connections_counted, switches_counted, transitions_counted}

timing_of_lem : (a b : Model) → a ≡ b → a.timing ≡ b.timing
timing_of_lem a b e = ap (λ (m : Model). m.timing) e

behavior_of_lem : (a b : Model) → a ≡ b → a.behavior ≡ b.behavior
behavior_of_lem a b e = ap (λ (m : Model). m.behavior) e

pub head_added : (l l₁ l₂ : List ℕ) (x : Head) → model_words ≤ length l → l₁ ≡ set l modes_place x.modes → l₂ ≡ set l₁ initial_place x.initial →
    x.modes < 256 → x.initial < 256 → model_in l₂ ≡ add_record (model_in l) (HeadRecord x)
unfolding timing_in behavior_in add_record add_head
head_added l l₁ l₂ x z e f g h =
    let s : l₂ ≡ sets l modes_place (x.modes ∷ x.initial ∷ []) = rw (f, e) in
    let w : Changed l l₂ modes_place (initial_place + 1) = put_changed l l₂ (x.modes ∷ x.initial ∷ []) modes_place s in
    let a : get_or l₂ modes_place 0 ≡ x.modes = put_at l l₂ (x.modes ∷ x.initial ∷ []) modes_place s 0 modes_place (omega arith) (omega arith) (omega arith) in
    let b : get_or l₂ initial_place 0 ≡ x.initial = put_at l l₂ (x.modes ∷ x.initial ∷ []) modes_place s 1 initial_place (omega arith) (omega arith) (omega arith) in
    let i : x.modes % 256 ≡ x.modes = omega arith in
    let j : x.initial % 256 ≡ x.initial = omega arith in
    rw (a, b, i, j, number_kept l l₂ modes_place (initial_place + 1) w threads_place refl, number_kept l l₂ modes_place (initial_place + 1) w inputs_place refl, number_kept l l₂ modes_place (initial_place + 1) w outputs_place refl, number_kept l l₂ modes_place (initial_place + 1) w locals_place refl, number_kept l l₂ modes_place (initial_place + 1) w connections_place refl, number_kept l l₂ modes_place (initial_place + 1) w switches_place refl, number_kept l l₂ modes_place (initial_place + 1) w transitions_place refl, threads_kept l l₂ modes_place (initial_place + 1) w refl, inputs_kept l l₂ modes_place (initial_place + 1) w refl, outputs_kept l l₂ modes_place (initial_place + 1) w refl, locals_kept l l₂ modes_place (initial_place + 1) w refl, connections_kept l l₂ modes_place (initial_place + 1) w refl, switches_kept l l₂ modes_place (initial_place + 1) w refl, transitions_kept l l₂ modes_place (initial_place + 1) w refl, atoms_kept l l₂ modes_place (initial_place + 1) w refl, assignments_kept l l₂ modes_place (initial_place + 1) w refl)

module _ (l l₁ l₂ : List ℕ) (n : ℕ) where
  pub thread_added : (x : Thread) → n ≡ (timing_in l).threads → model_in l₁ ≡ with_thread (model_in l) n x → l₂ ≡ set l₁ threads_place (n + 1) → model_words ≤ length l₁ → model_in l₂ ≡ add_record (model_in l) (ThreadRecord x)
  unfolding add_record add_thread
  thread_added x e f d z =
      let c = threads_counted l₁ l₂ (n + 1) z d in
      rw (c.0, c.1, timing_of_lem _ _ f, behavior_of_lem _ _ f, e)

  pub input_added : (x : Owned) → n ≡ (timing_in l).inputs → model_in l₁ ≡ with_input (model_in l) n x → l₂ ≡ set l₁ inputs_place (n + 1) → model_words ≤ length l₁ → model_in l₂ ≡ add_record (model_in l) (InputRecord x)
  unfolding add_record add_input
  input_added x e f d z =
      let c = inputs_counted l₁ l₂ (n + 1) z d in
      rw (c.0, c.1, timing_of_lem _ _ f, behavior_of_lem _ _ f, e)

  pub output_added : (x : ℕ) → n ≡ (timing_in l).outputs → model_in l₁ ≡ with_output (model_in l) n x → l₂ ≡ set l₁ outputs_place (n + 1) → model_words ≤ length l₁ → model_in l₂ ≡ add_record (model_in l) (OutputRecord x)
  unfolding add_record add_output
  output_added x e f d z =
      let c = outputs_counted l₁ l₂ (n + 1) z d in
      rw (c.0, c.1, timing_of_lem _ _ f, behavior_of_lem _ _ f, e)

  pub local_added : (x : Owned) → n ≡ (timing_in l).locals → model_in l₁ ≡ with_local (model_in l) n x → l₂ ≡ set l₁ locals_place (n + 1) → model_words ≤ length l₁ → model_in l₂ ≡ add_record (model_in l) (LocalRecord x)
  unfolding add_record add_local
  local_added x e f d z =
      let c = locals_counted l₁ l₂ (n + 1) z d in
      rw (c.0, c.1, timing_of_lem _ _ f, behavior_of_lem _ _ f, e)

  pub connection_added : (x : Connection) → n ≡ (timing_in l).connections → model_in l₁ ≡ with_connection (model_in l) n x → l₂ ≡ set l₁ connections_place (n + 1) → model_words ≤ length l₁ → model_in l₂ ≡ add_record (model_in l) (ConnectionRecord x)
  unfolding add_record add_connection
  connection_added x e f d z =
      let c = connections_counted l₁ l₂ (n + 1) z d in
      rw (c.0, c.1, timing_of_lem _ _ f, behavior_of_lem _ _ f, e)

  pub switch_added : (x y : ModeTransition) (h1 h2 : Duration) → y ≡ record { from = x.from; to = x.to; h1 = h1; h2 = h2 } →
      (h1.0 ≡ h1_of (timing_in l) x.from) × (h2.0 ≡ h2_of (timing_in l) x.from x.to) →
      n ≡ (timing_in l).switches → model_in l₁ ≡ with_switch (model_in l) n y → l₂ ≡ set l₁ switches_place (n + 1) → model_words ≤ length l₁ → model_in l₂ ≡ add_record (model_in l) (ModeRecord x)
  unfolding add_record add_switch
  switch_added x y h1 h2 g h e f d z =
      let c = switches_counted l₁ l₂ (n + 1) z d in
      rw (c.0, c.1, timing_of_lem _ _ f, behavior_of_lem _ _ f, g, ← h.0, ← h.1, e)

  pub transition_added : (x : Transition) → n ≡ (behavior_in l).transitions → model_in l₁ ≡ with_transition (model_in l) n x → l₂ ≡ set l₁ transitions_place (n + 1) → model_words ≤ length l₁ → model_in l₂ ≡ add_record (model_in l) (TransitionRecord x)
  unfolding add_record add_transition
  transition_added x e f d z =
      let c = transitions_counted l₁ l₂ (n + 1) z d in
      rw (c.0, c.1, timing_of_lem _ _ f, behavior_of_lem _ _ f, e)

pub atom_room : (b : Behavior) (k : ℕ) (x : Transition) → k ≡ last_transition b → x ≡ transition_at b k →
    (transition_at b (last_transition b)).atoms < max_each → x.atoms < max_each
atom_room b k x f g h = rw (g, f) h

pub assignment_room : (b : Behavior) (k : ℕ) (x : Transition) → k ≡ last_transition b → x ≡ transition_at b k →
    (transition_at b (last_transition b)).assignments < max_each → x.assignments < max_each
assignment_room b k x f g h = rw (g, f) h

store_drawn : {A : Type 0} (room : ℕ) (l : List A) (i n : ℕ) (a : A) → i ≡ min n room → store room l i a ≡ store room l n a
store_drawn room l i n a e = go (dec_lt n room)
  where
    go : Dec (n < room) → store room l i a ≡ store room l n a
    go (yes h) = let z : i ≡ n = omega arith in rw z
    go (no h) = store_past room l i a (omega arith) ∙ sym (store_past room l n a (omega arith))

-- of the last transition, x
module _ (l l₁ l₂ : List ℕ) (k i j : ℕ) (x : Transition) (f : k ≡ last_transition (behavior_in l)) (g : x ≡ transition_at (behavior_in l) k)
    (d : i ≡ min (k * max_each + j) max_times) where
  pub atom_added : (a : Atom) → model_in l₁ ≡ with_atom_count (model_in l) k (x.atoms + 1) → j ≡ x.atoms → model_in l₂ ≡ with_atom (model_in l₁) i a → model_in l₂ ≡ add_record (model_in l) (AtomRecord a)
  unfolding add_record add_atom
  atom_added a w q v =
      v ∙ rw (timing_of_lem _ _ w, behavior_of_lem _ _ w, store_drawn max_times (behavior_in l).atom i (k * max_each + j) a d, q, g, f)

  pub assignment_added : (a : Assignment) → model_in l₁ ≡ with_assignment_count (model_in l) k (x.assignments + 1) → j ≡ x.assignments → model_in l₂ ≡ with_assignment (model_in l₁) i a → model_in l₂ ≡ add_record (model_in l) (AssignmentRecord a)
  unfolding add_record add_assignment
  assignment_added a w q v =
      v ∙ rw (timing_of_lem _ _ w, behavior_of_lem _ _ w, store_drawn max_times (behavior_in l).assignment i (k * max_each + j) a d, q, g, f)
