-- A transition of which one number is put: how many atoms it has, or how many assignments.
use Rattle.std.specs.Prelude.{◌≡◌, refl, List, [], ◌∷◌, ℕ, ◌+◌, ◌*◌, ◌%◌, ◌<◌, ◌≤◌, set, length}
use Rattle.std.proofs.Common.{arith, get_or}
use Rattle.model_format.specs.Model.{max_transitions, transition_at}
use Rattle.model_format.specs.Reading.{with_counts}
use Rattle.model_words.specs.Words.{transition_size, transitions_from, model_words, transition_in, behavior_in, model_in}
use Rattle.model_words.specs.Laws.{transition_there}
use Rattle.model_items.specs.Replaced.{with_atom_count, with_assignment_count}
use Rattle.model_items.specs.Kept.{Changed}
use Rattle.model_items.specs.Changed.{transition_changed}
use Rattle.model_items.specs.Stored.{put_changed, put_at}

-- the transition whose numbers begin at p
module _ (l l' : List ℕ) (p n : ℕ) (z : p + transition_size ≤ length l) (d : n < 256) where
  atoms_read : l' ≡ set l (p + 3) n → transition_in l' p ≡ with_counts (transition_in l p) n (transition_in l p).assignments
  unfolding transition_in
  atoms_read e =
      let c : Changed l l' (p + 3) (p + 3 + 1) = put_changed l l' (n ∷ []) (p + 3) e in
      let v : get_or l' (p + 3) 0 ≡ n = put_at l l' (n ∷ []) (p + 3) e 0 (p + 3) (omega arith) (omega arith) (omega arith) in
      let r : n % 256 ≡ n = omega arith in
      rw (c p (λ y w. omega arith), c (p + 1) (λ y w. omega arith), c (p + 2) (λ y w. omega arith), v, r, c (p + 4) (λ y w. omega arith))

  assignments_read : l' ≡ set l (p + 4) n → transition_in l' p ≡ with_counts (transition_in l p) (transition_in l p).atoms n
  unfolding transition_in
  assignments_read e =
      let c : Changed l l' (p + 4) (p + 4 + 1) = put_changed l l' (n ∷ []) (p + 4) e in
      let v : get_or l' (p + 4) 0 ≡ n = put_at l l' (n ∷ []) (p + 4) e 0 (p + 4) (omega arith) (omega arith) (omega arith) in
      let r : n % 256 ≡ n = omega arith in
      rw (c p (λ y w. omega arith), c (p + 1) (λ y w. omega arith), c (p + 2) (λ y w. omega arith), c (p + 3) (λ y w. omega arith), v, r)

-- transition i
module _ (l l' : List ℕ) (i n : ℕ) (z : model_words ≤ length l) (h : i < max_transitions) (d : n < 256) where
  there : transition_in l (transitions_from + i * transition_size) ≡ transition_at (behavior_in l) i
  there = transition_there l i (transition_in l (transitions_from + i * transition_size)) h refl

  pub atom_count_put : l' ≡ set l (transitions_from + i * transition_size + 3) n → model_in l' ≡ with_atom_count (model_in l) i n
  atom_count_put e =
      let p : ℕ = transitions_from + i * transition_size in
      let c : Changed l l' (p + 3) (p + 3 + 1) = put_changed l l' (n ∷ []) (p + 3) e in
      transition_changed l l' i _ h (λ q u. c q (λ y w. u (omega arith) (omega arith))) (rw (← there) (atoms_read l l' p n (omega arith) d e))

  pub assignment_count_put : l' ≡ set l (transitions_from + i * transition_size + 4) n → model_in l' ≡ with_assignment_count (model_in l) i n
  assignment_count_put e =
      let p : ℕ = transitions_from + i * transition_size in
      let c : Changed l l' (p + 4) (p + 4 + 1) = put_changed l l' (n ∷ []) (p + 4) e in
      transition_changed l l' i _ h (λ q u. c q (λ y w. u (omega arith) (omega arith))) (rw (← there) (assignments_read l l' p n (omega arith) d e))
