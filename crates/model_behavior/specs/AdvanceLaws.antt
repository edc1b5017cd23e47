-- Laws of the transition taken.
use Rattle.std.specs.Prelude.{◌≡◌, refl, Bool, cond, List, [], ◌∷◌, ℕ, zero, suc, ◌<◌, ◌≤◌, get_or, set}
use Rattle.std.proofs.Common.{◌∙◌, ap, arith}
use Rattle.std.proofs.Math.Bool.{true, false}
use Rattle.std.proofs.Math.Dec.{ltb}
use borrow.Author.Tests.{lt-ltb, le-ltb}
use Rattle.numbers.specs.Lists.{item, store}
use Rattle.model_format.specs.declared.Transition.{Transition}
use Rattle.model_format.specs.declared.Behavior.{Behavior}
use Rattle.model_format.specs.declared.Model.{Model}
use Rattle.model_format.specs.Model.{max_threads, transition_at}
use Rattle.model_semantics.specs.declared.State.{State}
use Rattle.model_semantics.specs.State.{behavior_of, with_ports, with_behavior}
use Rattle.model_semantics.specs.Effects.{first_open, taken_transition, assign, advance}
use Rattle.model_behavior.specs.AssignLaws.{assigned, assigned_none}

-- ---- an item stored where it was
set_kept : {A : Type 0} (l : List A) (i : ℕ) (d : A) → set l i (get_or l i d) ≡ l
set_kept [] i d = refl
set_kept (a ∷ l) zero d = refl
set_kept {A = A} (a ∷ l) (suc i) d = ap (λ (r : List A). a ∷ r) (set_kept l i d)

store_kept : {A : Type 0} (room : ℕ) (l : List A) (i : ℕ) (d : A) → store room l i (item room l i d) ≡ l
store_kept room l i d = go (ltb i room)
  where
    go : (c : Bool) → cond c (set l i (cond c (get_or l i d) d)) l ≡ l
    go true = set_kept l i d
    go false = refl

behavior_kept : (s : State) (t : ℕ) → with_behavior s t (behavior_of s t) ≡ s
unfolding with_behavior behavior_of
behavior_kept s t = rw (store_kept max_threads s.threads.behavior t 0)

nothing_assigned : (b : Behavior) (s : State) (t k : ℕ) → s ≡ with_ports (with_behavior s t (behavior_of s t)) (assign b s.ports k 0)
unfolding assigned with_ports
nothing_assigned b s t k = rw (behavior_kept s t) (assigned_none b s k)

-- ---- the transition taken, where none is open and where k is the first
module _ (m : Model) (s : State) (t k n : ℕ) (e : k ≡ first_open m.behavior s t) (f : n ≡ m.behavior.transitions) where
  pub advance_none : n ≤ k → s ≡ advance m s t
  unfolding advance taken_transition
  advance_none l =
      let y : ltb (first_open m.behavior s t) m.behavior.transitions ≡ false = le-ltb (first_open m.behavior s t) m.behavior.transitions (omega arith) in
      rw y (nothing_assigned m.behavior s t (first_open m.behavior s t))

  pub advance_some : (x : Transition) (q r : State) → k < n → x ≡ transition_at m.behavior k → q ≡ assigned m.behavior s k x.assignments →
      r ≡ with_behavior q t x.to → r ≡ advance m s t
  unfolding advance taken_transition assigned with_behavior with_ports
  advance_some x q r l g h i =
      let y : ltb (first_open m.behavior s t) m.behavior.transitions ≡ true = lt-ltb (first_open m.behavior s t) m.behavior.transitions (omega arith) in
      i ∙ rw (h, g, e, y)
