-- An item whose numbers are put one after the other.
use Rattle.std.specs.Prelude.{◌≡◌, refl, ◌++◌, set, length, take, drop}
use Rattle.std.proofs.Common.{sym, ◌∙◌, ap, append_assoc, length-set, drop-cons, drop-drop, List, [], ◌∷◌, ℕ, suc, ◌+◌, ◌-◌, ◌*◌, ◌%◌, ◌<◌, ◌≤◌, arith, get_or}
use Rattle.std.proofs.Math.Decide.{dec_lt}
use Rattle.std.proofs.lemmas.List.Edits.{sets, sets-eq}
use Rattle.std.proofs.Math.Seq.{drop-length}
use Rattle.numbers.specs.ListLaws.{sets_before, sets_after, sets_at}
use Rattle.numbers.specs.Values.{signed, bits_of}
use Rattle.model_format.specs.declared.Thread.{Thread}
use Rattle.model_format.specs.declared.Owned.{Owned}
use Rattle.model_format.specs.declared.Connection.{Connection}
use Rattle.model_format.specs.declared.ModeTransition.{ModeTransition}
use Rattle.model_format.specs.declared.Transition.{Transition}
use Rattle.model_format.specs.declared.Atom.{Atom}
use Rattle.model_format.specs.declared.Assignment.{Assignment}
use Rattle.model_format.specs.Model.{max_threads, max_inputs, max_outputs, max_locals, max_connections, max_switches, max_transitions, max_times}
use Rattle.model_words.specs.Words.{thread_size, owned_size, connection_size, switch_size, transition_size, atom_size, assignment_size, threads_from, inputs_from, outputs_from, locals_from, connections_from, switches_from, transitions_from, atoms_from, assignments_from, model_words, thread_in, owned_in, connection_in, switch_in, transition_in, atom_in, assignment_in, model_in}
use Rattle.model_items.specs.Replaced.{with_thread, with_input, with_output, with_local, with_connection, with_switch, with_transition, with_atom, with_assignment}
use Rattle.model_items.specs.Kept.{Changed}
use Rattle.model_items.specs.Changed.{thread_changed, input_changed, output_changed, local_changed, connection_changed, switch_changed, transition_changed, atom_changed, assignment_changed}

-- ---- the numbers vs put from p on
module _ (l l' vs : List ℕ) (p : ℕ) (w : l' ≡ sets l p vs) where
  pub put_changed : Changed l l' p (p + length vs)
  put_changed q n = ap (λ (k : List ℕ). get_or k q 0) w ∙ go (dec_lt q p) (dec_lt q (p + length vs))
    where
      go : Dec (q < p) → Dec (q < p + length vs) → get_or (sets l p vs) q 0 ≡ get_or l q 0
      go (yes h) k = sets_before vs l p q 0 h
      go (no h) (yes k) = absurd (n (omega arith) k)
      go (no h) (no k) = sets_after vs l p q 0 (omega arith)

  pub put_at : (k q : ℕ) → q ≡ p + k → k < length vs → p + length vs ≤ length l → get_or l' q 0 ≡ get_or vs k 0
  put_at k q e h z = ap (λ (k : List ℕ). get_or k q 0) w ∙ rw e (sets_at vs l p k 0 h (omega arith))

-- the n numbers vs copied into the code's &mut l[p..p + n], which then is y
pub numbers_put : (l vs y : List ℕ) (p n : ℕ) → length vs ≡ n → y ≡ vs → p + n ≤ length l → take p l ++ (y ++ drop (p + n - p) (drop p l)) ≡ sets l p vs
numbers_put l vs y p n w e h =
    let k : p + n - p ≡ n = omega arith in
    rw (k, e, drop-drop n p l, ← w) (sym (append_assoc (take p l) vs (drop (p + length vs) l)) ∙ sym (sets-eq vs l p (omega (arith, w))))

-- ---- the loop that puts them: of vs, the numbers from i on are still to be put
pub record Putting (l : List ℕ) (p : ℕ) (vs x : List ℕ) (i : ℕ) : Type 0 where
  pub size : length x ≡ length l
  pub left : sets x (p + i) (drop i vs) ≡ sets l p vs

pub none_put : (l : List ℕ) (p : ℕ) (vs : List ℕ) → Putting l p vs l 0
none_put l p vs = let e : p + 0 ≡ p = omega arith in record { size = refl; left = ap (λ (q : ℕ). sets l q vs) e }

pub one_put : {l vs x : List ℕ} (p i : ℕ) → Putting l p vs x i → i < length vs → Putting l p vs (set x (p + i) (get_or vs i 0)) (i + 1)
one_put {l} {vs} {x} p i w h =
    let y = set x (p + i) (get_or vs i 0) in
    let e : p + (i + 1) ≡ suc (p + i) = omega arith in
    let f : i + 1 ≡ suc i = omega arith in record {
      size = length-set x (p + i) (get_or vs i 0) ∙ w.size;
      left = ap (λ (q : ℕ). sets y q (drop (i + 1) vs)) e ∙ ap (λ (q : ℕ). sets y (suc (p + i)) (drop q vs)) f ∙ ap (λ (r : List ℕ). sets x (p + i) r) (sym (drop-cons vs i 0 h)) ∙ w.left;
    }

pub all_put : {l vs x : List ℕ} (p i : ℕ) → Putting l p vs x i → i ≤ length vs → length vs ≤ i → x ≡ sets l p vs
all_put {l} {vs} {x} p i w h k =
    let e : i ≡ length vs = omega arith in
    sym (ap (λ (r : List ℕ). sets x (p + i) r) (ap (λ (j : ℕ). drop j vs) e ∙ drop-length vs)) ∙ w.left

-- ---- the item of each kind
module _ (l l' : List ℕ) (p i : ℕ) (x : Thread) (z : model_words ≤ length l) (h : i < max_threads) (a : p ≡ threads_from + i * thread_size)
    (e : l' ≡ sets l p (x.period.0 ∷ x.deadline.0 ∷ x.bcet.0 ∷ x.wcet.0 ∷ x.modes ∷ x.critical ∷ x.first ∷ []))
    (d₄ : x.modes < 256) (d₅ : x.critical < 256) (d₆ : x.first < 256) where
  thread_reads : thread_in l' p ≡ x
  unfolding thread_in
  thread_reads =
      let vs : List ℕ = x.period.0 ∷ x.deadline.0 ∷ x.bcet.0 ∷ x.wcet.0 ∷ x.modes ∷ x.critical ∷ x.first ∷ [] in
      let at : (k q : ℕ) → q ≡ p + k → k < thread_size → get_or l' q 0 ≡ get_or vs k 0 = λ k q w v. put_at l l' vs p e k q w v (omega arith) in
      let r₄ : x.modes % 256 ≡ x.modes = omega arith in
      let r₅ : x.critical % 256 ≡ x.critical = omega arith in
      let r₆ : x.first % 256 ≡ x.first = omega arith in
      rw (at 0 p (omega arith) (omega arith), at 1 (p + 1) (omega arith) (omega arith), at 2 (p + 2) (omega arith) (omega arith), at 3 (p + 3) (omega arith) (omega arith), at 4 (p + 4) (omega arith) (omega arith), at 5 (p + 5) (omega arith) (omega arith), at 6 (p + 6) (omega arith) (omega arith), r₄, r₅, r₆)

  pub thread_put : model_in l' ≡ with_thread (model_in l) i x
  thread_put = thread_changed l l' i x h (rw (← a) (put_changed l l' (x.period.0 ∷ x.deadline.0 ∷ x.bcet.0 ∷ x.wcet.0 ∷ x.modes ∷ x.critical ∷ x.first ∷ []) p e)) (rw (← a) thread_reads)

-- an input port or a local
module _ (l l' : List ℕ) (p i : ℕ) (x : Owned) (b : ℕ) (z : model_words ≤ length l)
    (e : l' ≡ sets l p (x.owner ∷ b ∷ []))
    (d₀ : x.owner < 256) (d₁ : b ≡ bits_of x.start.0) (f₁ : signed (bits_of x.start.0) ≡ x.start.0) where
  owned_reads : p + owned_size ≤ model_words → owned_in l' p ≡ x
  unfolding owned_in
  owned_reads y =
      let vs : List ℕ = x.owner ∷ b ∷ [] in
      let at : (k q : ℕ) → q ≡ p + k → k < owned_size → get_or l' q 0 ≡ get_or vs k 0 = λ k q w v. put_at l l' vs p e k q w v (omega arith) in
      let r₀ : x.owner % 256 ≡ x.owner = omega arith in
      rw (at 0 p (omega arith) (omega arith), at 1 (p + 1) (omega arith) (omega arith), r₀, d₁, f₁)

  pub input_put : i < max_inputs → p ≡ inputs_from + i * owned_size → model_in l' ≡ with_input (model_in l) i x
  input_put h a = input_changed l l' i x h (rw (← a) (put_changed l l' (x.owner ∷ b ∷ []) p e)) (rw (← a) (owned_reads (omega arith)))

  pub local_put : i < max_locals → p ≡ locals_from + i * owned_size → model_in l' ≡ with_local (model_in l) i x
  local_put h a = local_changed l l' i x h (rw (← a) (put_changed l l' (x.owner ∷ b ∷ []) p e)) (rw (← a) (owned_reads (omega arith)))

module _ (l l' : List ℕ) (p i : ℕ) (x : Connection) (z : model_words ≤ length l) (h : i < max_connections) (a : p ≡ connections_from + i * connection_size)
    (e : l' ≡ sets l p (x.kind ∷ x.source ∷ x.target ∷ x.modes ∷ []))
    (d₀ : x.kind < 256) (d₁ : x.source < 65536) (d₂ : x.target < 65536) (d₃ : x.modes < 256) where
  connection_reads : connection_in l' p ≡ x
  unfolding connection_in
  connection_reads =
      let vs : List ℕ = x.kind ∷ x.source ∷ x.target ∷ x.modes ∷ [] in
      let at : (k q : ℕ) → q ≡ p + k → k < connection_size → get_or l' q 0 ≡ get_or vs k 0 = λ k q w v. put_at l l' vs p e k q w v (omega arith) in
      let r₀ : x.kind % 256 ≡ x.kind = omega arith in
      let r₁ : x.source % 65536 ≡ x.source = omega arith in
      let r₂ : x.target % 65536 ≡ x.target = omega arith in
      let r₃ : x.modes % 256 ≡ x.modes = omega arith in
      rw (at 0 p (omega arith) (omega arith), at 1 (p + 1) (omega arith) (omega arith), at 2 (p + 2) (omega arith) (omega arith), at 3 (p + 3) (omega arith) (omega arith), r₀, r₁, r₂, r₃)

  pub connection_put : model_in l' ≡ with_connection (model_in l) i x
  connection_put = connection_changed l l' i x h (rw (← a) (put_changed l l' (x.kind ∷ x.source ∷ x.target ∷ x.modes ∷ []) p e)) (rw (← a) connection_reads)

module _ (l l' : List ℕ) (p i : ℕ) (x : ModeTransition) (z : model_words ≤ length l) (h : i < max_switches) (a : p ≡ switches_from + i * switch_size)
    (e : l' ≡ sets l p (x.from ∷ x.to ∷ x.h1.0 ∷ x.h2.0 ∷ []))
    (d₀ : x.from < 256) (d₁ : x.to < 256) where
  switch_reads : switch_in l' p ≡ x
  unfolding switch_in
  switch_reads =
      let vs : List ℕ = x.from ∷ x.to ∷ x.h1.0 ∷ x.h2.0 ∷ [] in
      let at : (k q : ℕ) → q ≡ p + k → k < switch_size → get_or l' q 0 ≡ get_or vs k 0 = λ k q w v. put_at l l' vs p e k q w v (omega arith) in
      let r₀ : x.from % 256 ≡ x.from = omega arith in
      let r₁ : x.to % 256 ≡ x.to = omega arith in
      rw (at 0 p (omega arith) (omega arith), at 1 (p + 1) (omega arith) (omega arith), at 2 (p + 2) (omega arith) (omega arith), at 3 (p + 3) (omega arith) (omega arith), r₀, r₁)

  pub switch_put : model_in l' ≡ with_switch (model_in l) i x
  switch_put = switch_changed l l' i x h (rw (← a) (put_changed l l' (x.from ∷ x.to ∷ x.h1.0 ∷ x.h2.0 ∷ []) p e)) (rw (← a) switch_reads)

module _ (l l' : List ℕ) (p i : ℕ) (x : Transition) (z : model_words ≤ length l) (h : i < max_transitions) (a : p ≡ transitions_from + i * transition_size)
    (e : l' ≡ sets l p (x.thread ∷ x.from ∷ x.to ∷ x.atoms ∷ x.assignments ∷ []))
    (d₀ : x.thread < 256) (d₁ : x.from < 256) (d₂ : x.to < 256) (d₃ : x.atoms < 256) (d₄ : x.assignments < 256) where
  transition_reads : transition_in l' p ≡ x
  unfolding transition_in
  transition_reads =
      let vs : List ℕ = x.thread ∷ x.from ∷ x.to ∷ x.atoms ∷ x.assignments ∷ [] in
      let at : (k q : ℕ) → q ≡ p + k → k < transition_size → get_or l' q 0 ≡ get_or vs k 0 = λ k q w v. put_at l l' vs p e k q w v (omega arith) in
      let r₀ : x.thread % 256 ≡ x.thread = omega arith in
      let r₁ : x.from % 256 ≡ x.from = omega arith in
      let r₂ : x.to % 256 ≡ x.to = omega arith in
      let r₃ : x.atoms % 256 ≡ x.atoms = omega arith in
      let r₄ : x.assignments % 256 ≡ x.assignments = omega arith in
      rw (at 0 p (omega arith) (omega arith), at 1 (p + 1) (omega arith) (omega arith), at 2 (p + 2) (omega arith) (omega arith), at 3 (p + 3) (omega arith) (omega arith), at 4 (p + 4) (omega arith) (omega arith), r₀, r₁, r₂, r₃, r₄)

  pub transition_put : model_in l' ≡ with_transition (model_in l) i x
  transition_put = transition_changed l l' i x h (rw (← a) (put_changed l l' (x.thread ∷ x.from ∷ x.to ∷ x.atoms ∷ x.assignments ∷ []) p e)) (rw (← a) transition_reads)

module _ (l l' : List ℕ) (p i : ℕ) (x : Atom) (b : ℕ) (z : model_words ≤ length l) (h : i < max_times) (a : p ≡ atoms_from + i * atom_size)
    (e : l' ≡ sets l p (x.op ∷ x.tag ∷ x.number ∷ x.right.tag ∷ b ∷ []))
    (d₀ : x.op < 256) (d₁ : x.tag < 256) (d₂ : x.number < 65536) (d₃ : x.right.tag < 256) (d₄ : b ≡ bits_of x.right.value.0) (f₄ : signed (bits_of x.right.value.0) ≡ x.right.value.0) where
  atom_reads : atom_in l' p ≡ x
  unfolding atom_in
  atom_reads =
      let vs : List ℕ = x.op ∷ x.tag ∷ x.number ∷ x.right.tag ∷ b ∷ [] in
      let at : (k q : ℕ) → q ≡ p + k → k < atom_size → get_or l' q 0 ≡ get_or vs k 0 = λ k q w v. put_at l l' vs p e k q w v (omega arith) in
      let r₀ : x.op % 256 ≡ x.op = omega arith in
      let r₁ : x.tag % 256 ≡ x.tag = omega arith in
      let r₂ : x.number % 65536 ≡ x.number = omega arith in
      let r₃ : x.right.tag % 256 ≡ x.right.tag = omega arith in
      rw (at 0 p (omega arith) (omega arith), at 1 (p + 1) (omega arith) (omega arith), at 2 (p + 2) (omega arith) (omega arith), at 3 (p + 3) (omega arith) (omega arith), at 4 (p + 3 + 1) (omega arith) (omega arith), r₀, r₁, r₂, r₃, d₄, f₄)

  pub atom_put : model_in l' ≡ with_atom (model_in l) i x
  atom_put = atom_changed l l' i x h (rw (← a) (put_changed l l' (x.op ∷ x.tag ∷ x.number ∷ x.right.tag ∷ b ∷ []) p e)) (rw (← a) atom_reads)

module _ (l l' : List ℕ) (p i : ℕ) (x : Assignment) (b c : ℕ) (z : model_words ≤ length l) (h : i < max_times) (a : p ≡ assignments_from + i * assignment_size)
    (e : l' ≡ sets l p (x.tag ∷ x.number ∷ x.op ∷ x.first.tag ∷ b ∷ x.second.tag ∷ c ∷ []))
    (d₀ : x.tag < 256) (d₁ : x.number < 65536) (d₂ : x.op < 256) (d₃ : x.first.tag < 256) (d₄ : b ≡ bits_of x.first.value.0) (f₄ : signed (bits_of x.first.value.0) ≡ x.first.value.0) (d₅ : x.second.tag < 256) (d₆ : c ≡ bits_of x.second.value.0) (f₆ : signed (bits_of x.second.value.0) ≡ x.second.value.0) where
  assignment_reads : assignment_in l' p ≡ x
  unfolding assignment_in
  assignment_reads =
      let vs : List ℕ = x.tag ∷ x.number ∷ x.op ∷ x.first.tag ∷ b ∷ x.second.tag ∷ c ∷ [] in
      let at : (k q : ℕ) → q ≡ p + k → k < assignment_size → get_or l' q 0 ≡ get_or vs k 0 = λ k q w v. put_at l l' vs p e k q w v (omega arith) in
      let r₀ : x.tag % 256 ≡ x.tag = omega arith in
      let r₁ : x.number % 65536 ≡ x.number = omega arith in
      let r₂ : x.op % 256 ≡ x.op = omega arith in
      let r₃ : x.first.tag % 256 ≡ x.first.tag = omega arith in
      let r₅ : x.second.tag % 256 ≡ x.second.tag = omega arith in
      rw (at 0 p (omega arith) (omega arith), at 1 (p + 1) (omega arith) (omega arith), at 2 (p + 2) (omega arith) (omega arith), at 3 (p + 3) (omega arith) (omega arith), at 4 (p + 3 + 1) (omega arith) (omega arith), at 5 (p + 5) (omega arith) (omega arith), at 6 (p + 5 + 1) (omega arith) (omega arith), r₀, r₁, r₂, r₃, d₄, f₄, r₅, d₆, f₆)

  pub assignment_put : model_in l' ≡ with_assignment (model_in l) i x
  assignment_put = assignment_changed l l' i x h (rw (← a) (put_changed l l' (x.tag ∷ x.number ∷ x.op ∷ x.first.tag ∷ b ∷ x.second.tag ∷ c ∷ []) p e)) (rw (← a) assignment_reads)

module _ (l l' : List ℕ) (i x : ℕ) (z : model_words ≤ length l) (h : i < max_outputs) (e : l' ≡ set l (outputs_from + i) x) (d : x < 256) where
  pub output_put : model_in l' ≡ with_output (model_in l) i x
  output_put =
      let r : x % 256 ≡ x = omega arith in
      output_changed l l' i x h (put_changed l l' (x ∷ []) (outputs_from + i) e) (rw (put_at l l' (x ∷ []) (outputs_from + i) e 0 (outputs_from + i) (omega arith) (omega arith) (omega arith)) r)
