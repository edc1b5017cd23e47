-- Laws of assignments made in place.
use Rattle.std.specs.Prelude.{◌≡◌, Bool, true, false, cond, ℕ, ◌+◌, ◌<◌, ◌≤◌, eqb, get_or, set, length}
use Rattle.std.proofs.Math.Path.{refl}
use Rattle.std.proofs.Common.{◌∙◌, arith, get_or-set_same, get_or-set_other}
use mathlib.Core.List.{List}
use Rattle.std.proofs.Math.Decide.{ℕ_discrete}
use borrow.Author.Tests.{eq-eqb, ne_eqb}
use Rattle.numbers.specs.declared.Value.{Value}
use Rattle.numbers.specs.Lists.{store, fold_below}
use Rattle.numbers.specs.ListLaws.{fold_next}
use Rattle.numbers.specs.Values.{value, signed}
use Rattle.model_format.specs.declared.Assignment.{Assignment}
use Rattle.model_format.specs.declared.Behavior.{Behavior}
use Rattle.model_format.specs.Model.{max_outputs, max_locals, assignment_at}
use Rattle.model_semantics.specs.declared.Ports.{Ports}
use Rattle.model_semantics.specs.declared.State.{State}
use Rattle.model_semantics.specs.State.{with_ports}
use Rattle.model_semantics.specs.Effects.{assigned_value, assign}
use Rattle.model_state.specs.Words.{value_in}
use Rattle.model_state.specs.Parts.{with_output, with_local, put_output, put_local}

-- ---- the new values of the first n assignments of transition k, all from the ports before, each as a number
pub record NewValues (b : Behavior) (p : Ports) (k n : ℕ) (values : List ℕ) : Type 0 where
  pub at : (j : ℕ) → j < n → value_in (get_or values j 0) ≡ assigned_value p (assignment_at b k j)

module _ (b : Behavior) (p : Ports) (k : ℕ) where
  pub values_none : (values : List ℕ) → NewValues b p k 0 values
  values_none values = record { at = λ j h. absurd (omega arith) }

  pub values_next : (n : ℕ) (values after : List ℕ) (a : Assignment) (v : Value) (x : ℕ) → NewValues b p k n values → n < length values → a ≡ assignment_at b k n →
      v ≡ assigned_value p a → value_in x ≡ v → after ≡ set values n x → NewValues b p k (n + 1) after
  values_next n values after a v x h z e f g i = record { at = λ j l. rw i (go j l (ℕ_discrete j n)) }
    where
      go : (j : ℕ) → j < n + 1 → Dec (j ≡ n) → value_in (get_or (set values n x) j 0) ≡ assigned_value p (assignment_at b k j)
      go j l (yes q) = rw (q, get_or-set_same values n x 0 z, ← e) (g ∙ f)
      go j l (no q) = rw (get_or-set_other values n j x 0 q) (h.at j (omega arith))

  pub values_all : (j n : ℕ) (values : List ℕ) → n ≤ j → NewValues b p k j values → NewValues b p k n values
  values_all j n values l h = record { at = λ i u. h.at i (omega arith) }

-- ---- one store
unfoldable pub store_one : State → Assignment → Value → State
store_one s a v = cond (eqb a.tag 3) (put_output s a.number v) (put_local s a.number v)

module _ (s q : State) (a : Assignment) (v : Value) (i : ℕ) (e : i ≡ a.number) where
  pub store_output : a.tag ≡ 3 → q ≡ put_output s i v → q ≡ store_one s a v
  unfolding store_one
  store_output g h = h ∙ rw (e, eq-eqb _ _ g)

  pub store_local : (a.tag ≡ 3 → ⊥) → q ≡ put_local s i v → q ≡ store_one s a v
  unfolding store_one
  store_local g h = h ∙ rw (e, ne_eqb _ _ g)

-- ---- all stores
-- the state with the first n assignments of transition k made
unfoldable pub assigned : Behavior → State → ℕ → ℕ → State
assigned b s k n = with_ports s (assign b s.ports k n)

module _ (b : Behavior) (s : State) (k : ℕ) where
  pub assigned_none : s ≡ assigned b s k 0
  unfolding assigned with_ports assign fold_below
  assigned_none = refl

  outputs : ℕ → List Value → List Value
  outputs j l = let a = assignment_at b k j in cond (eqb a.tag 3) (store max_outputs l a.number (assigned_value s.ports a)) l

  locals : ℕ → List Value → List Value
  locals j l = let a = assignment_at b k j in cond (eqb a.tag 3) l (store max_locals l a.number (assigned_value s.ports a))

  assigned_more : (j : ℕ) → store_one (assigned b s k j) (assignment_at b k j) (assigned_value s.ports (assignment_at b k j)) ≡ assigned b s k (j + 1)
  unfolding store_one put_output put_local with_output with_local assigned with_ports assign outputs locals
  assigned_more j =
      rw (fold_next j outputs s.ports.output, fold_next j locals s.ports.local)
      (go (eqb (assignment_at b k j).tag 3) (assignment_at b k j) (fold_below j outputs s.ports.output) (fold_below j locals s.ports.local))
    where
      with : List Value → List Value → State
      with o l = with_ports s (record { input = s.ports.input; buffer = s.ports.buffer; output = o; local = l })

      go : (c : Bool) (a : Assignment) (o l : List Value) →
          cond c (with (store max_outputs o a.number (assigned_value s.ports a)) l) (with o (store max_locals l a.number (assigned_value s.ports a))) ≡
          with (cond c (store max_outputs o a.number (assigned_value s.ports a)) o) (cond c l (store max_locals l a.number (assigned_value s.ports a)))
      go true a o l = refl
      go false a o l = refl

  pub assigned_next : (j n : ℕ) (q r : State) (a : Assignment) (values : List ℕ) (x : ℕ) (v : Value) → q ≡ assigned b s k j → j < n → NewValues b s.ports k n values →
      a ≡ assignment_at b k j → x ≡ get_or values j 0 → v ≡ value (signed x) → r ≡ store_one q a v → r ≡ assigned b s k (j + 1)
  unfolding value_in
  assigned_next j n q r a values x v e l h f g i o = o ∙ rw (e, f, i, g, h.at j l) (assigned_more j)

  pub assigned_all : (j n : ℕ) (q : State) → j ≤ n → n ≤ j → q ≡ assigned b s k j → q ≡ assigned b s k n
  assigned_all j n q l h e = let z : n ≡ j = omega arith in rw z e
