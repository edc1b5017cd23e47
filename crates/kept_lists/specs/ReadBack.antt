-- The numbers of a whole model stand for it, also at the start of a longer list: for callers who prove, a model's list as reading leaves it
-- stands for the model read.
use Rattle.std.specs.Prelude.{◌≡◌, refl, drop}
use Rattle.std.proofs.Math.Path.{sym, ap}
use Rattle.std.proofs.Common.{◌∙◌, arith, zero-mul, length-drop, drop_at, drop-drop, get_or-drop}
use mathlib.Core.List.{List, [], ◌∷◌, ◌++◌, map, append_assoc}
use Prim.Native.Nat.{ℕ, zero, suc, ◌+◌, ◌*◌, ◌%◌, ◌<◌, ◌≤◌}
use Rattle.std.proofs.Math.Nat.{suc-mul, zero-add, add_comm}
use Rattle.std.proofs.Math.ListN.{get_or, length, length-append, get_or-map, get_or-append}
use Rattle.std.proofs.lemmas.List.{length-map}
use Rattle.std.proofs.Math.Seq.{get_or-append-add}
use Rattle.std.proofs.lemmas.List.Edits.{sets, sets-eq}
use Rattle.numbers.specs.Lists.{list_below}
use Rattle.numbers.specs.ListLaws.{list_below_is}
use Rattle.model_format.specs.declared.Thread.{Thread}
use Rattle.model_format.specs.declared.Owned.{Owned}
use Rattle.model_format.specs.declared.Connection.{Connection}
use Rattle.model_format.specs.declared.ModeTransition.{ModeTransition}
use Rattle.model_format.specs.declared.Transition.{Transition}
use Rattle.model_format.specs.declared.Atom.{Atom}
use Rattle.model_format.specs.declared.Assignment.{Assignment}
use Rattle.model_format.specs.declared.Model.{Model}
use Rattle.model_format.specs.Model.{max_threads, max_inputs, max_outputs, max_locals, max_connections, max_switches, max_transitions, max_times, no_thread, no_owned, no_connection, no_switch, no_transition, no_atom, no_assignment}
use Rattle.model_format.specs.Reading.{read_model}
use Rattle.model_format.specs.WellFormed.{Bytes}
use Rattle.model_words.specs.Words.{thread_size, owned_size, connection_size, switch_size, transition_size, atom_size, assignment_size, threads_from, inputs_from, outputs_from, locals_from, connections_from, switches_from, transitions_from, atoms_from, assignments_from, model_words, thread_in, owned_in, connection_in, switch_in, transition_in, atom_in, assignment_in, threads_in, inputs_in, outputs_in, locals_in, connections_in, switches_in, transitions_in, atoms_in, assignments_in, timing_in, behavior_in, model_in}
use Rattle.state_settling.specs.Words.{value_number}
use Rattle.model_settling.specs.ModelWords.{thread_fields, owned_fields, connection_fields, switch_fields, transition_fields, atom_fields, assignment_fields, joined, head_fields, words_of_model}
use Rattle.kept_lists.specs.Plain.{byte}
use Rattle.kept_lists.specs.WholeModel.{thread_again, owned_again, connection_again, switch_again, transition_again, atom_again, assignment_again, WholeModel, read_whole}

-- ---- items that stand one after the other, of z numbers each
module _ {A : Type 0} (fields : A → List ℕ) (z : ℕ) (sized : (a : A) → length (fields a) ≡ z) where
  joined_length : (l : List A) → length (joined fields l) ≡ length l * z
  unfolding joined
  joined_length [] = sym (zero-mul z)
  joined_length (a ∷ l) =
      length-append (fields a) (joined fields l) ∙ ap (λ (n : ℕ). n + length (joined fields l)) (sized a) ∙ ap (λ (n : ℕ). z + n) (joined_length l) ∙
      add_comm z (length l * z) ∙ sym (suc-mul (length l) z)

  joined_at : (d : A) (l : List A) (rest : List ℕ) (i k : ℕ) → i < length l → k < z → get_or (joined fields l ++ rest) (i * z + k) 0 ≡ get_or (fields (get_or l i d)) k 0
  unfolding joined
  joined_at d [] rest i k h j = absurd (omega arith)
  joined_at d (a ∷ l) rest zero k h j =
      let e = sized a in
      ap (λ (q : ℕ). get_or ((fields a ++ joined fields l) ++ rest) q 0) (ap (λ (n : ℕ). n + k) (zero-mul z) ∙ zero-add k) ∙
      ap (λ (r : List ℕ). get_or r k 0) (append_assoc (fields a) (joined fields l) rest) ∙ get_or-append (fields a) (joined fields l ++ rest) 0 k (omega arith)
  joined_at d (a ∷ l) rest (suc i) k h j =
      let e = sized a in
      let m = suc-mul i z in
      let p : suc i * z + k ≡ length (fields a) + (i * z + k) = omega (arith, e, m) in
      ap (λ (q : ℕ). get_or ((fields a ++ joined fields l) ++ rest) q 0) p ∙ ap (λ (r : List ℕ). get_or r (length (fields a) + (i * z + k)) 0) (append_assoc (fields a) (joined fields l) rest) ∙
      get_or-append-add (fields a) (joined fields l ++ rest) (i * z + k) 0 ∙ joined_at d l rest i k (omega arith) j

  block : (again : A → A) (item_in : List ℕ → ℕ → A) → ((W : List ℕ) (q : ℕ) (a : A) → ((k : ℕ) → k < z → get_or W (q + k) 0 ≡ get_or (fields a) k 0) → item_in W q ≡ again a) →
      (d : A) (W : List ℕ) (b n : ℕ) (l : List A) (rest : List ℕ) → drop b W ≡ joined fields l ++ rest → length l ≡ n → list_below n (λ i. item_in W (b + i * z)) ≡ map again l
  block again item_in reads d W b n l rest e h =
      list_below_is n (λ i. item_in W (b + i * z)) (map again l) (again d) (length-map l again ∙ h) (λ i k. reads W (b + i * z) (get_or l i d) (λ q j. at i q k j) ∙ sym (get_or-map again l i d))
    where
      at : (i q : ℕ) → i < n → q < z → get_or W (b + i * z + q) 0 ≡ get_or (fields (get_or l i d)) q 0
      at i q k j =
          let p : b + i * z + q ≡ b + (i * z + q) = omega arith in
          ap (λ (r : ℕ). get_or W r 0) p ∙ sym (get_or-drop b W (i * z + q) 0) ∙ ap (λ (r : List ℕ). get_or r (i * z + q) 0) e ∙ joined_at d l rest i q (omega arith) j

-- the owners of ports
owners : (W : List ℕ) (b n : ℕ) (l rest : List ℕ) → drop b W ≡ l ++ rest → length l ≡ n → list_below n (λ i. get_or W (b + i) 0 % 256) ≡ map byte l
owners W b n l rest e h =
    list_below_is n (λ i. get_or W (b + i) 0 % 256) (map byte l) 0 (length-map l byte ∙ h)
    (λ i k. ap byte (sym (get_or-drop b W i 0) ∙ ap (λ (r : List ℕ). get_or r i 0) e ∙ get_or-append l rest 0 i (omega arith)) ∙ sym (get_or-map byte l i 0))

-- ---- an item by its numbers
thread_reads : (W : List ℕ) (q : ℕ) (a : Thread) → ((k : ℕ) → k < thread_size → get_or W (q + k) 0 ≡ get_or (thread_fields a) k 0) → thread_in W q ≡ thread_again a
unfolding thread_in thread_fields
thread_reads W q a h =
    let e : get_or W q 0 ≡ get_or (thread_fields a) 0 0 = ap (λ (p : ℕ). get_or W p 0) (let z : q ≡ q + 0 = omega arith in z) ∙ h 0 (omega arith) in
    rw (e, h 1 (omega arith), h 2 (omega arith), h 3 (omega arith), h 4 (omega arith), h 5 (omega arith), h 6 (omega arith))

thread_size_lem : (a : Thread) → length (thread_fields a) ≡ thread_size
unfolding thread_fields
thread_size_lem a = refl

owned_reads : (W : List ℕ) (q : ℕ) (a : Owned) → ((k : ℕ) → k < owned_size → get_or W (q + k) 0 ≡ get_or (owned_fields a) k 0) → owned_in W q ≡ owned_again a
unfolding owned_in owned_fields value_number
owned_reads W q a h =
    let e : get_or W q 0 ≡ get_or (owned_fields a) 0 0 = ap (λ (p : ℕ). get_or W p 0) (let z : q ≡ q + 0 = omega arith in z) ∙ h 0 (omega arith) in
    rw (e, h 1 (omega arith))

owned_size_lem : (a : Owned) → length (owned_fields a) ≡ owned_size
unfolding owned_fields
owned_size_lem a = refl

connection_reads : (W : List ℕ) (q : ℕ) (a : Connection) → ((k : ℕ) → k < connection_size → get_or W (q + k) 0 ≡ get_or (connection_fields a) k 0) → connection_in W q ≡ connection_again a
unfolding connection_in connection_fields
connection_reads W q a h =
    let e : get_or W q 0 ≡ get_or (connection_fields a) 0 0 = ap (λ (p : ℕ). get_or W p 0) (let z : q ≡ q + 0 = omega arith in z) ∙ h 0 (omega arith) in
    rw (e, h 1 (omega arith), h 2 (omega arith), h 3 (omega arith))

connection_size_lem : (a : Connection) → length (connection_fields a) ≡ connection_size
unfolding connection_fields
connection_size_lem a = refl

switch_reads : (W : List ℕ) (q : ℕ) (a : ModeTransition) → ((k : ℕ) → k < switch_size → get_or W (q + k) 0 ≡ get_or (switch_fields a) k 0) → switch_in W q ≡ switch_again a
unfolding switch_in switch_fields
switch_reads W q a h =
    let e : get_or W q 0 ≡ get_or (switch_fields a) 0 0 = ap (λ (p : ℕ). get_or W p 0) (let z : q ≡ q + 0 = omega arith in z) ∙ h 0 (omega arith) in
    rw (e, h 1 (omega arith), h 2 (omega arith), h 3 (omega arith))

switch_size_lem : (a : ModeTransition) → length (switch_fields a) ≡ switch_size
unfolding switch_fields
switch_size_lem a = refl

transition_reads : (W : List ℕ) (q : ℕ) (a : Transition) → ((k : ℕ) → k < transition_size → get_or W (q + k) 0 ≡ get_or (transition_fields a) k 0) → transition_in W q ≡ transition_again a
unfolding transition_in transition_fields
transition_reads W q a h =
    let e : get_or W q 0 ≡ get_or (transition_fields a) 0 0 = ap (λ (p : ℕ). get_or W p 0) (let z : q ≡ q + 0 = omega arith in z) ∙ h 0 (omega arith) in
    rw (e, h 1 (omega arith), h 2 (omega arith), h 3 (omega arith), h 4 (omega arith))

transition_size_lem : (a : Transition) → length (transition_fields a) ≡ transition_size
unfolding transition_fields
transition_size_lem a = refl

atom_reads : (W : List ℕ) (q : ℕ) (a : Atom) → ((k : ℕ) → k < atom_size → get_or W (q + k) 0 ≡ get_or (atom_fields a) k 0) → atom_in W q ≡ atom_again a
unfolding atom_in atom_fields value_number
atom_reads W q a h =
    let e : get_or W q 0 ≡ get_or (atom_fields a) 0 0 = ap (λ (p : ℕ). get_or W p 0) (let z : q ≡ q + 0 = omega arith in z) ∙ h 0 (omega arith) in
    let e4 : get_or W (q + 3 + 1) 0 ≡ get_or (atom_fields a) 4 0 = ap (λ (p : ℕ). get_or W p 0) (let z : q + 3 + 1 ≡ q + 4 = omega arith in z) ∙ h 4 (omega arith) in
    rw (e, h 1 (omega arith), h 2 (omega arith), h 3 (omega arith), e4)

atom_size_lem : (a : Atom) → length (atom_fields a) ≡ atom_size
unfolding atom_fields
atom_size_lem a = refl

assignment_reads : (W : List ℕ) (q : ℕ) (a : Assignment) → ((k : ℕ) → k < assignment_size → get_or W (q + k) 0 ≡ get_or (assignment_fields a) k 0) → assignment_in W q ≡ assignment_again a
unfolding assignment_in assignment_fields value_number
assignment_reads W q a h =
    let e : get_or W q 0 ≡ get_or (assignment_fields a) 0 0 = ap (λ (p : ℕ). get_or W p 0) (let z : q ≡ q + 0 = omega arith in z) ∙ h 0 (omega arith) in
    let e4 : get_or W (q + 3 + 1) 0 ≡ get_or (assignment_fields a) 4 0 = ap (λ (p : ℕ). get_or W p 0) (let z : q + 3 + 1 ≡ q + 4 = omega arith in z) ∙ h 4 (omega arith) in
    let e6 : get_or W (q + 5 + 1) 0 ≡ get_or (assignment_fields a) 6 0 = ap (λ (p : ℕ). get_or W p 0) (let z : q + 5 + 1 ≡ q + 6 = omega arith in z) ∙ h 6 (omega arith) in
    rw (e, h 1 (omega arith), h 2 (omega arith), h 3 (omega arith), e4, h 5 (omega arith), e6)

assignment_size_lem : (a : Assignment) → length (assignment_fields a) ≡ assignment_size
unfolding assignment_fields
assignment_size_lem a = refl

-- the part x that stands in l from b on, before z
next : (b n : ℕ) (l x z : List ℕ) → drop b l ≡ x ++ z → length x ≡ n → drop (b + n) l ≡ z
next b n l x z e h = sym (drop-drop n b l) ∙ ap (drop n) e ∙ drop_at x z n h

-- ---- the model
module _ (m : Model) (w : WholeModel m) (rest : List ℕ) where
  abbrev W : List ℕ
  W = words_of_model m ++ rest

  abbrev assignments_on : List ℕ
  assignments_on = joined assignment_fields m.behavior.assignment ++ rest

  abbrev atoms_on : List ℕ
  atoms_on = joined atom_fields m.behavior.atom ++ assignments_on

  abbrev transitions_on : List ℕ
  transitions_on = joined transition_fields m.behavior.transition ++ atoms_on

  abbrev switches_on : List ℕ
  switches_on = joined switch_fields m.timing.switch ++ transitions_on

  abbrev connections_on : List ℕ
  connections_on = joined connection_fields m.timing.connection ++ switches_on

  abbrev locals_on : List ℕ
  locals_on = joined owned_fields m.timing.local ++ connections_on

  abbrev outputs_on : List ℕ
  outputs_on = m.timing.output ++ locals_on

  abbrev inputs_on : List ℕ
  inputs_on = joined owned_fields m.timing.input ++ outputs_on

  abbrev threads_on : List ℕ
  threads_on = joined thread_fields m.timing.thread ++ inputs_on

  flat : W ≡ head_fields m ++ threads_on
  unfolding words_of_model
  flat = simp append_assoc

  many : {A : Type 0} (f : A → List ℕ) (z : ℕ) → ((a : A) → length (f a) ≡ z) → (l : List A) (n : ℕ) → length l ≡ n → length (joined f l) ≡ n * z
  many f z sized l n h = joined_length f z sized l ∙ ap (λ (k : ℕ). k * z) h

  at_threads : drop threads_from W ≡ threads_on
  unfolding head_fields
  at_threads = ap (drop threads_from) flat

  at_inputs : drop inputs_from W ≡ inputs_on
  at_inputs = next threads_from (max_threads * thread_size) W (joined thread_fields m.timing.thread) inputs_on at_threads (many thread_fields thread_size thread_size_lem m.timing.thread max_threads w.thread.size)

  at_outputs : drop outputs_from W ≡ outputs_on
  at_outputs = next inputs_from (max_inputs * owned_size) W (joined owned_fields m.timing.input) outputs_on at_inputs (many owned_fields owned_size owned_size_lem m.timing.input max_inputs w.input.size)

  at_locals : drop locals_from W ≡ locals_on
  at_locals = next outputs_from max_outputs W m.timing.output locals_on at_outputs w.output.size

  at_connections : drop connections_from W ≡ connections_on
  at_connections = next locals_from (max_locals * owned_size) W (joined owned_fields m.timing.local) connections_on at_locals (many owned_fields owned_size owned_size_lem m.timing.local max_locals w.local.size)

  at_switches : drop switches_from W ≡ switches_on
  at_switches = next connections_from (max_connections * connection_size) W (joined connection_fields m.timing.connection) switches_on at_connections (many connection_fields connection_size connection_size_lem m.timing.connection max_connections w.connection.size)

  at_transitions : drop transitions_from W ≡ transitions_on
  at_transitions = next switches_from (max_switches * switch_size) W (joined switch_fields m.timing.switch) transitions_on at_switches (many switch_fields switch_size switch_size_lem m.timing.switch max_switches w.switch.size)

  at_atoms : drop atoms_from W ≡ atoms_on
  at_atoms = next transitions_from (max_transitions * transition_size) W (joined transition_fields m.behavior.transition) atoms_on at_transitions (many transition_fields transition_size transition_size_lem m.behavior.transition max_transitions w.transition.size)

  at_assignments : drop assignments_from W ≡ assignments_on
  at_assignments = next atoms_from (max_times * atom_size) W (joined atom_fields m.behavior.atom) assignments_on at_atoms (many atom_fields atom_size atom_size_lem m.behavior.atom max_times w.atom.size)

  at_rest : drop model_words W ≡ rest
  at_rest = next assignments_from (max_times * assignment_size) W (joined assignment_fields m.behavior.assignment) rest at_assignments (many assignment_fields assignment_size assignment_size_lem m.behavior.assignment max_times w.assignment.size)

  threads_back : threads_in W ≡ m.timing.thread
  unfolding threads_in
  threads_back = block thread_fields thread_size thread_size_lem thread_again thread_in thread_reads no_thread W threads_from max_threads m.timing.thread inputs_on at_threads w.thread.size ∙ w.thread.same

  inputs_back : inputs_in W ≡ m.timing.input
  unfolding inputs_in
  inputs_back = block owned_fields owned_size owned_size_lem owned_again owned_in owned_reads no_owned W inputs_from max_inputs m.timing.input outputs_on at_inputs w.input.size ∙ w.input.same

  outputs_back : outputs_in W ≡ m.timing.output
  unfolding outputs_in
  outputs_back = owners W outputs_from max_outputs m.timing.output locals_on at_outputs w.output.size ∙ w.output.same

  locals_back : locals_in W ≡ m.timing.local
  unfolding locals_in
  locals_back = block owned_fields owned_size owned_size_lem owned_again owned_in owned_reads no_owned W locals_from max_locals m.timing.local connections_on at_locals w.local.size ∙ w.local.same

  connections_back : connections_in W ≡ m.timing.connection
  unfolding connections_in
  connections_back = block connection_fields connection_size connection_size_lem connection_again connection_in connection_reads no_connection W connections_from max_connections m.timing.connection switches_on at_connections w.connection.size ∙ w.connection.same

  switches_back : switches_in W ≡ m.timing.switch
  unfolding switches_in
  switches_back = block switch_fields switch_size switch_size_lem switch_again switch_in switch_reads no_switch W switches_from max_switches m.timing.switch transitions_on at_switches w.switch.size ∙ w.switch.same

  transitions_back : transitions_in W ≡ m.behavior.transition
  unfolding transitions_in
  transitions_back = block transition_fields transition_size transition_size_lem transition_again transition_in transition_reads no_transition W transitions_from max_transitions m.behavior.transition atoms_on at_transitions w.transition.size ∙ w.transition.same

  atoms_back : atoms_in W ≡ m.behavior.atom
  unfolding atoms_in
  atoms_back = block atom_fields atom_size atom_size_lem atom_again atom_in atom_reads no_atom W atoms_from max_times m.behavior.atom assignments_on at_atoms w.atom.size ∙ w.atom.same

  assignments_back : assignments_in W ≡ m.behavior.assignment
  unfolding assignments_in
  assignments_back = block assignment_fields assignment_size assignment_size_lem assignment_again assignment_in assignment_reads no_assignment W assignments_from max_times m.behavior.assignment rest at_assignments w.assignment.size ∙ w.assignment.same

  timing_back : timing_in W ≡ m.timing
  unfolding timing_in head_fields
  timing_back = rw (threads_back, inputs_back, outputs_back, locals_back, connections_back, switches_back, flat, w.modes, w.initial)

  behavior_back : behavior_in W ≡ m.behavior
  unfolding behavior_in head_fields
  behavior_back = rw (transitions_back, atoms_back, assignments_back, flat)

  model_back : model_in W ≡ m
  model_back = rw (timing_back, behavior_back)

-- the numbers of a whole model are as many as its list has
words_size : (m : Model) → WholeModel m → length (words_of_model m) ≡ model_words
words_size m w =
    let e = ap length (at_rest m w (0 ∷ [])) in
    let f = length-drop model_words (words_of_model m ++ (0 ∷ [])) in
    let g = length-append (words_of_model m) (0 ∷ []) in
    omega (arith, e, f, g)

pub read_back : (s d : List ℕ) → Bytes s → model_words ≤ length d → model_in (sets d 0 (words_of_model (read_model s).model)) ≡ (read_model s).model
read_back s d b h =
    let m = (read_model s).model in
    let w = read_whole s b in
    let n = words_size m w in
    ap model_in (sets-eq (words_of_model m) d 0 (omega arith)) ∙ model_back m w (drop (0 + length (words_of_model m)) d)
