-- Names for what the search for an open transition has at hand, and laws in the forms of its loops and branches.
use Rattle.std.specs.Prelude.{◌≡◌, refl, Bool, cond, ◌&&◌, not, ℕ, zero, suc, ◌+◌, ◌<◌, ◌≤◌, min, eqb, Option, Some, None, MatchOption, unwrap_or}
use Rattle.std.specs.List.{find, range_with_len}
use Rattle.std.specs.Option.{option_map}
use Rattle.std.proofs.Math.Path.{sym}
use Rattle.std.proofs.Common.{◌∙◌, arith, le-ltb, below_more, subst}
use Rattle.std.proofs.Math.Bool.{true, false}
use Rattle.std.proofs.Math.Decide.{dec_lt, ℕ_discrete}
use Rattle.numbers.specs.Lists.{all_below}
use Rattle.numbers.specs.ListLaws.{all_next, all_zero, all_not, first_none, first_found}
use Rattle.model_format.specs.declared.Transition.{Transition}
use Rattle.model_format.specs.declared.Atom.{Atom}
use Rattle.model_format.specs.declared.Behavior.{Behavior}
use Rattle.model_format.specs.Model.{max_transitions, no_transition, transition_at, atom_at}
use Rattle.model_semantics.specs.declared.Ports.{Ports}
use Rattle.model_semantics.specs.declared.State.{State}
use Rattle.model_semantics.specs.State.{behavior_of}
use Rattle.model_semantics.specs.Effects.{atom_holds, is_open, first_open}

-- ---- bools
not_false : (b : Bool) → not b ≡ false → b ≡ true
not_false true e = refl
not_false false e = cc

not_true : (b : Bool) → not b ≡ true → b ≡ false
not_true true e = cc
not_true false e = refl

and_open : (a b c : Bool) → (a && b) ≡ true → (a && (b && c)) ≡ c
and_open true true c e = refl
and_open true false c e = cc
and_open false b c e = cc

and_shut : (a b c : Bool) → (a && b) ≡ false → (a && (b && c)) ≡ false
and_shut true true c e = cc
and_shut true false c e = refl
and_shut false b c e = refl

-- ---- the first n atoms of transition k hold
unfoldable pub guard_holds : Behavior → Ports → ℕ → ℕ → Bool
guard_holds b p k n = all_below n (λ j. atom_holds p (atom_at b k j))

module _ (b : Behavior) (p : Ports) (k : ℕ) where
  pub guard_none : guard_holds b p k 0 ≡ true
  unfolding guard_holds
  guard_none = all_zero (λ j. atom_holds p (atom_at b k j))

  module _ (j : ℕ) (a : Atom) (r : Bool) (e : a ≡ atom_at b k j) (f : r ≡ atom_holds p a) where
    pub guard_on : not r ≡ false → guard_holds b p k j ≡ true → guard_holds b p k (j + 1) ≡ true
    unfolding guard_holds
    guard_on g h =
        let y : atom_holds p (atom_at b k j) ≡ true = rw (← e, ← f) (not_false r g) in
        all_next j (λ i. atom_holds p (atom_at b k i)) ∙ rw (h, y)

    pub guard_off : (n : ℕ) → j < n → not r ≡ true → false ≡ guard_holds b p k n
    unfolding guard_holds
    guard_off n h g =
        let y : atom_holds p (atom_at b k j) ≡ false = rw (← e, ← f) (not_true r g) in
        sym (all_not n (λ i. atom_holds p (atom_at b k i)) j h y)

  pub guard_all : (j n : ℕ) → j ≤ n → n ≤ j → guard_holds b p k j ≡ true → true ≡ guard_holds b p k n
  guard_all j n u h e = let q : n ≡ j = omega arith in rw (q, e)

-- ---- transition x is one of thread t from a behaviour state
unfoldable pub starts_from : Transition → ℕ → ℕ → Bool
starts_from x t from = eqb x.thread t && eqb x.from from

-- transition k of thread t is open, from a behaviour state
unfoldable pub is_open_from : Behavior → Ports → ℕ → ℕ → ℕ → Bool
is_open_from b p from t k =
    eqb (transition_at b k).thread t && (eqb (transition_at b k).from from && guard_holds b p k (transition_at b k).atoms)

module _ (b : Behavior) (p : Ports) (from t k : ℕ) (x : Transition) (r : Bool) (e : x ≡ transition_at b k) (f : r ≡ starts_from x t from) where
  pub open_not : not r ≡ true → false ≡ is_open_from b p from t k
  unfolding starts_from is_open_from
  open_not h = sym (rw (← e) (and_shut (eqb x.thread t) (eqb x.from from) (guard_holds b p k x.atoms) (sym f ∙ not_true r h)))

  pub open_by_guard : (n : ℕ) (h : Bool) → not r ≡ false → n ≡ x.atoms → h ≡ guard_holds b p k n → h ≡ is_open_from b p from t k
  unfolding starts_from is_open_from
  open_by_guard n h i j l =
      l ∙ sym (rw (← e) (and_open (eqb x.thread t) (eqb x.from from) (guard_holds b p k x.atoms) (sym f ∙ not_false r i) ∙ rw j))

-- ---- a search come to k
pub record Passed (b : Behavior) (p : Ports) (from t k : ℕ) : Type 0 where
  pub shut : (j : ℕ) → j < k → is_open_from b p from t j ≡ false

module _ (b : Behavior) (p : Ports) (from t : ℕ) where
  pub passed_none : Passed b p from t 0
  passed_none = record { shut = λ j h. absurd (omega arith) }

  pub passed_next : (k : ℕ) (r : Bool) → Passed b p from t k → r ≡ is_open_from b p from t k → r ≡ false → Passed b p from t (k + 1)
  passed_next k r h e f = record { shut = λ j l. go j l (ℕ_discrete j k) }
    where
      go : (j : ℕ) → j < k + 1 → Dec (j ≡ k) → is_open_from b p from t j ≡ false
      go j l (yes q) = rw q (sym e ∙ f)
      go j l (no q) = h.shut j (omega arith)

-- the first number below n that passes a test, where there is one
abbrev FirstBelow : (ℕ → Bool) → ℕ → Option ℕ → Type 0
FirstBelow p n r = MatchOption r ((j : ℕ) → j < n → p j ≡ false) (λ k. (k < n) × (p k ≡ true) × ((j : ℕ) → j < k → p j ≡ false))

one_found : (p : ℕ → Bool) (n a : ℕ) (c : Bool) → p a ≡ c → ((j : ℕ) → j < a → p j ≡ false) →
    (((j : ℕ) → j < a + 1 → p j ≡ false) → FirstBelow p (a + 1 + n) (find p (range_with_len (a + 1) n))) →
    FirstBelow p (a + suc n) (cond c (Some a) (find p (range_with_len (a + 1) n)))
one_found p n a true e h g = (omega arith, e, h)
one_found p n a false e h g =
    let m : a + 1 + n ≡ a + suc n = omega arith in
    subst (λ k. FirstBelow p k (find p (range_with_len (a + 1) n))) m (g (below_more _ _ h e))

first_of : (p : ℕ → Bool) (n a : ℕ) → ((j : ℕ) → j < a → p j ≡ false) → FirstBelow p (a + n) (find p (range_with_len a n))
first_of p zero a h = λ j l. h j (omega arith)
first_of p (suc n) a h = one_found p n a (p a) refl h (first_of p n (a + 1))

-- transitions past the room are blank, and a blank one is as open as another
blank_open : (b : Behavior) (p : Ports) (from t k : ℕ) → max_transitions ≤ k → is_open_from b p from t k ≡ (eqb no_transition.thread t && (eqb no_transition.from from && true))
unfolding is_open_from transition_at
blank_open b p from t k h = rw (le-ltb k max_transitions h, guard_none b p k)

module _ (b : Behavior) (s : State) (from t n k : ℕ) (e : from ≡ behavior_of s t) (f : n ≡ min b.transitions (max_transitions + 1)) (h : Passed b s.ports from t k) where
  is_open_lem : (j : ℕ) → is_open_from b s.ports from t j ≡ is_open b s t j
  unfolding is_open_from is_open guard_holds
  is_open_lem j = rw e

  pub first_is : (r : Bool) → k < n → r ≡ is_open_from b s.ports from t k → r ≡ true → k ≡ first_open b s t
  unfolding first_open
  first_is r l g i =
      sym (first_found b.transitions (is_open b s t) k (omega arith) (sym (is_open_lem k) ∙ sym g ∙ i) (λ j u. sym (is_open_lem j) ∙ h.shut j u))

  pub first_end : (count : ℕ) → count ≡ b.transitions → n ≤ k → count ≡ first_open b s t
  unfolding first_open
  first_end count g l = g ∙ sym (first_none b.transitions (is_open b s t) (λ j u. sym (is_open_lem j) ∙ go j u (dec_lt j k)))
    where
      go : (j : ℕ) → j < b.transitions → Dec (j < k) → is_open_from b s.ports from t j ≡ false
      go j u (yes v) = h.shut j v
      go j u (no v) =
          blank_open b s.ports from t j (omega arith) ∙ sym (blank_open b s.ports from t max_transitions (omega arith)) ∙ h.shut max_transitions (omega arith)

module _ (b : Behavior) (s : State) (from t n : ℕ) (e : from ≡ behavior_of s t) (f : n ≡ min b.transitions (max_transitions + 1)) where
  -- the search's answer, or else the number of transitions
  pub first_by_find : (r : Option ℕ) → option_map (λ k. k) r ≡ find (is_open_from b s.ports from t) (range_with_len 0 n) → (count : ℕ) → count ≡ b.transitions → (k : ℕ) → k ≡ unwrap_or r count → k ≡ first_open b s t
  first_by_find r g count h k i = i ∙ go r (subst (FirstBelow (is_open_from b s.ports from t) (0 + n)) (sym g) (first_of (is_open_from b s.ports from t) n 0 (λ j l. absurd (omega arith))))
    where
      go : (o : Option ℕ) → FirstBelow (is_open_from b s.ports from t) (0 + n) (option_map (λ k. k) o) → unwrap_or o count ≡ first_open b s t
      go None q = first_end b s from t n n e f (record { shut = λ j l. q j (omega arith) }) count h (omega arith)
      go (Some j) q = first_is b s from t n j e f (record { shut = q.2 }) (is_open_from b s.ports from t j) (omega (arith, q.0)) refl q.1
