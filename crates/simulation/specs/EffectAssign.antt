-- Assignments of a transition: the outputs and locals that they set, and the expression that a connection sends.
use Rattle.std.specs.Prelude.{◌≡◌, ℕ, ◌<◌, ◌≤◌, length}
use Rattle.std.proofs.Math.Path.{refl}
use Rattle.std.proofs.Common.{sym, ◌∙◌, eq-eqb, ne_eqb, eqb-true, ltb-true}
use mathlib.Core.Bool.{Bool, true, false, cond, ◌&&◌, not}
use mathlib.Core.List.{List, [], ◌∷◌}
use native.Mathlib.Omega.{arith}
use Rattle.std.proofs.Math.Decide.{ℕ_discrete}
use Rattle.std.proofs.Math.Dec.{eqb}
use Rattle.std.proofs.lemmas.Bool.{eqb-false, not-true}
use Rattle.numbers.specs.declared.Value.{Value}
use Rattle.numbers.specs.Lists.{item, store}
use Rattle.numbers.specs.ListLaws.{length_store}
use Rattle.numbers.specs.Values.{natural, combine}
use Rattle.model_format.specs.declared.Assignment.{Assignment}
use Rattle.model_format.specs.declared.Timing.{Timing}
use Rattle.model_format.specs.declared.Behavior.{Behavior}
use Rattle.model_format.specs.Model.{max_outputs, assignment_at, max_locals, local_tag, output_tag}
use Rattle.model_format.specs.Reading.{names_item}
use Rattle.model_format.specs.WellFormed.{GoodTiming, GoodAssignment}
use Rattle.model_semantics.specs.declared.State.{State}
use Rattle.model_semantics.specs.State.{output_value}
use Rattle.model_semantics.specs.Effects.{assigned_value, assign}
use Rattle.table_format.specs.declared.Update.{Update}
use Rattle.table_format.specs.Variables.{output_var, local_var, local_room}
use Rattle.table_semantics.specs.Rules.{value_of, applies}
use Rattle.translation.specs.Parts.{variable, Expression, copied, update}
use Rattle.translation.specs.Rules.{variable_of, assigned_expression, assignment_updates, sent_expression}
use Rattle.simulation.specs.Compared.{Dispatched}
use Rattle.simulation.specs.Match.{Match}
use Rattle.simulation.specs.Guards.{eqb_swap}
use Rattle.simulation.specs.GuardComplete.{operand_same}
use Rattle.simulation.specs.Writes.{updated, worth, variable_worth, item_store, shifted, fold_related, one, Apart, Within, apart_join, within_join, column_filled}
use Rattle.simulation.specs.Effects.{ValuesShown}

-- ---- a target is a local or an output port
pub record Target (m : Timing) (tag number : ℕ) : Type 0 where
  pub else : (tag ≡ output_tag → ⊥) → tag ≡ local_tag
  pub local : tag ≡ local_tag → number < m.locals
  pub output : tag ≡ output_tag → number < m.outputs

good_target : (m : Timing) (a : Assignment) → GoodAssignment m a → Target m a.tag a.number
unfolding names_item
good_target m a g = record {
  else = λ n. go (ℕ_discrete a.tag local_tag) n;
  local = λ e. ltb-true a.number m.locals (rw e at g.names);
  output = λ e. ltb-true a.number m.outputs (rw e at g.names);
}
  where
    go : Dec (a.tag ≡ local_tag) → (a.tag ≡ output_tag → ⊥) → a.tag ≡ local_tag
    go (yes e) n = e
    go (no k) n =
        let z : false ≡ true = rw (ne_eqb a.tag local_tag k, ne_eqb a.tag output_tag n) at g.tag in
        absurd (mathlib.Core.Bool.false≢true z)

module _ (m : Timing) (g : GoodTiming m) (tag number : ℕ) (t : Target m tag number) where
  target_range : (output_var 0 ≤ variable_of tag number) × (variable_of tag number < local_var local_room)
  unfolding variable_of
  target_range = go (ℕ_discrete tag output_tag)
    where
      go : Dec (tag ≡ output_tag) → (output_var 0 ≤ variable_of tag number) × (variable_of tag number < local_var local_room)
      go (yes e) = let a : number < m.outputs = t.output e in let b : m.outputs ≤ max_outputs = g.outputs in rw e (omega arith, omega arith)
      go (no n) =
          let e : tag ≡ local_tag = t.else n in
          let a : number < m.locals = t.local e in
          let b : m.locals ≤ max_locals = g.locals in
          rw e (omega arith, omega arith)

  -- the target among the outputs, and among the locals
  pub output_target : (i : ℕ) → i < max_outputs → eqb (output_var i) (variable_of tag number) ≡ (eqb tag output_tag && eqb i number)
  unfolding variable_of
  output_target i l = go (ℕ_discrete tag output_tag)
    where
      go : Dec (tag ≡ output_tag) → eqb (output_var i) (variable_of tag number) ≡ (eqb tag output_tag && eqb i number)
      go (yes e) = rw e (shifted (output_var 0) i number)
      go (no n) = let e : tag ≡ local_tag = t.else n in rw e (ne_eqb (output_var i) (local_var number) (λ q. omega arith))

  pub local_target : (i : ℕ) → i < max_locals → eqb (local_var i) (variable_of tag number) ≡ (not (eqb tag output_tag) && eqb i number)
  unfolding variable_of
  local_target i l = go (ℕ_discrete tag output_tag)
    where
      go : Dec (tag ≡ output_tag) → eqb (local_var i) (variable_of tag number) ≡ (not (eqb tag output_tag) && eqb i number)
      go (yes e) = let a : number < m.outputs = t.output e in let b : m.outputs ≤ max_outputs = g.outputs in rw e (ne_eqb (local_var i) (output_var number) (λ q. omega arith))
      go (no n) = let e : tag ≡ local_tag = t.else n in rw e (shifted (local_var 0) i number)

-- equal variables, equal tags and numbers
same_target_lem : (m : Timing) → GoodTiming m → (a x c z : ℕ) → Target m a x → Target m c z → variable_of a x ≡ variable_of c z → (a ≡ c) × (x ≡ z)
unfolding variable_of
same_target_lem m g a x c z p q e = go (ℕ_discrete a output_tag) (ℕ_discrete c output_tag)
  where
    few : m.outputs ≤ max_outputs
    few = g.outputs

    go : Dec (a ≡ output_tag) → Dec (c ≡ output_tag) → (a ≡ c) × (x ≡ z)
    go (yes i) (yes j) = let r : output_var x ≡ output_var z = rw (i, j) at e in (omega arith, omega arith)
    go (yes i) (no j) =
        let o : x < m.outputs = p.output i in
        let r : output_var x ≡ local_var z = rw (i, q.else j) at e in
        absurd (omega arith)
    go (no i) (yes j) =
        let o : z < m.outputs = q.output j in
        let r : local_var x ≡ output_var z = rw (p.else i, j) at e in
        absurd (omega arith)
    go (no i) (no j) =
        let u : a ≡ local_tag = p.else i in
        let w : c ≡ local_tag = q.else j in
        let r : local_var x ≡ local_var z = rw (u, w) at e in
        (omega arith, omega arith)

-- ---- the first assignments of transition k
module _ (m : Timing) (g : GoodTiming m) (b : Behavior) (k count : ℕ)
    (good : (j : ℕ) → j < count → GoodAssignment m (assignment_at b k j))
    (single : (i j : ℕ) → i < j → j < count → ((assignment_at b k i).tag ≡ (assignment_at b k j).tag) × ((assignment_at b k i).number ≡ (assignment_at b k j).number) → ⊥) where
  abbrev target_of : ℕ → ℕ
  target_of j = variable_of (assignment_at b k j).tag (assignment_at b k j).number

  abbrev assign_one : ℕ → List Update
  assign_one j = update (target_of j) (assigned_expression (assignment_at b k j)) ∷ []

  target_at : (j : ℕ) → j < count → Target m (assignment_at b k j).tag (assignment_at b k j).number
  target_at j l = good_target m (assignment_at b k j) (good j l)

  pub assign_within : Within (output_var 0) (local_var local_room) (assignment_updates b k count)
  unfolding assignment_updates
  assign_within = within_join target_of assign_one (output_var 0) (local_var local_room) count (λ j l. one _ refl) (λ j l. target_range m g (assignment_at b k j).tag (assignment_at b k j).number (target_at j l))

  pub assign_apart : Apart (assignment_updates b k count)
  unfolding assignment_updates
  assign_apart = apart_join target_of assign_one count (λ j l. one _ refl) (λ i j p q e. single i j p q (same_target_lem m g _ _ _ _ (target_at i (omega arith)) (target_at j q) e))

  -- ---- their values, under a match
  module _ (d : Dispatched) (s : State) (v : List Value) (h : Match m d s v) (n : ℕ) where
    assigned_same : (j : ℕ) → j < count → worth n v (assigned_expression (assignment_at b k j)) ≡ assigned_value s.ports (assignment_at b k j)
    unfolding assigned_expression assigned_value combine
    assigned_same j l = go (assignment_at b k j) (good j l)
      where
        go : (a : Assignment) → GoodAssignment m a → worth n v (assigned_expression a) ≡ assigned_value s.ports a
        go a w = by (ℕ_discrete a.op 0)
          where
            by : Dec (a.op ≡ 0) → worth n v (assigned_expression a) ≡ assigned_value s.ports a
            by (yes e) = rw (eq-eqb a.op 0 e) (operand_same m d s v g h n a.first w.first)
            by (no e) = simp (ne_eqb a.op 0 e, operand_same m d s v g h n a.first w.first, operand_same m d s v g h n a.second w.second)

    -- one assignment, at a variable that is or is not its target
    one_assigned : (j : ℕ) → j < count → (i : ℕ) (x : Value) (z : Bool) → eqb i (target_of j) ≡ z →
        updated n v (assign_one j) i x ≡ cond z (assigned_value s.ports (assignment_at b k j)) x
    unfolding updated applies
    one_assigned j l i x z e = rw (e, assigned_same j l)

    pub outputs_shown : (w : List Value) → ValuesShown (output_var 0) max_outputs m.outputs s.ports.output v →
        ((i : ℕ) → i < max_outputs → value_of w (output_var i) ≡ updated n v (assignment_updates b k count) (output_var i) (value_of v (output_var i))) →
        ValuesShown (output_var 0) max_outputs m.outputs (assign b s.ports k count).output w
    unfolding assign assignment_updates
    outputs_shown w c e =
        column_filled n v w count assign_one _ (λ j. eqb (assignment_at b k j).tag output_tag) (λ j. (assignment_at b k j).number) (λ j. assigned_value s.ports (assignment_at b k j))
        (λ j l x. refl) (λ j l q. (target_at j l).output (eqb-true (assignment_at b k j).tag output_tag q))
        (λ j l i p x. one_assigned j l (output_var i) x _ (output_target m g (assignment_at b k j).tag (assignment_at b k j).number (target_at j l) i p)) c e

    pub locals_shown : (w : List Value) → ValuesShown (local_var 0) max_locals m.locals s.ports.local v →
        ((i : ℕ) → i < max_locals → value_of w (local_var i) ≡ updated n v (assignment_updates b k count) (local_var i) (value_of v (local_var i))) →
        ValuesShown (local_var 0) max_locals m.locals (assign b s.ports k count).local w
    unfolding assign assignment_updates
    locals_shown w c e =
        column_filled n v w count assign_one _ (λ j. not (eqb (assignment_at b k j).tag output_tag)) (λ j. (assignment_at b k j).number) (λ j. assigned_value s.ports (assignment_at b k j))
        (λ j l x. turned (eqb (assignment_at b k j).tag output_tag) x _)
        (λ j l q. (target_at j l).local ((target_at j l).else (eqb-false (assignment_at b k j).tag output_tag (not-true _ q))))
        (λ j l i p x. one_assigned j l (local_var i) x _ (local_target m g (assignment_at b k j).tag (assignment_at b k j).number (target_at j l) i p)) c e
      where
        turned : (z : Bool) (x y : List Value) → cond z x y ≡ cond (not z) y x
        turned true x y = refl
        turned false x y = refl

    -- ---- "from the assigned expression or the old port": what is sent is the new output
    module _ (o : ℕ) (few : o < max_outputs) where
      abbrev send_next : ℕ → Expression → Expression
      send_next j x = cond (eqb (assignment_at b k j).tag output_tag && eqb (assignment_at b k j).number o) (assigned_expression (assignment_at b k j)) x

      abbrev store_next : ℕ → List Value → List Value
      store_next j l = cond (eqb (assignment_at b k j).tag output_tag) (store max_outputs l (assignment_at b k j).number (assigned_value s.ports (assignment_at b k j))) l

      abbrev Sent : Expression → List Value → Type 0
      Sent x l = (length l ≡ max_outputs) × (worth n v x ≡ item max_outputs l o (natural 0))

      -- an expression for output i, and its value stored there
      sent_stored : (e x : Expression) (y : Value) (l : List Value) (i : ℕ) → worth n v e ≡ y → Sent x l → Sent (cond (eqb o i) e x) (store max_outputs l i y)
      sent_stored e x y l i q r =
          (length_store max_outputs l i y ∙ r.0, go (eqb o i) ∙ sym (item_store max_outputs l i o y (natural 0) few r.0))
        where
          go : (z : Bool) → worth n v (cond z e x) ≡ cond z y (item max_outputs l o (natural 0))
          go true = q
          go false = r.1

      sent_next : (j : ℕ) → j < count → (x : Expression) (l : List Value) → Sent x l → Sent (send_next j x) (store_next j l)
      sent_next j p x l r = rw (eqb_swap (assignment_at b k j).number o) (go (eqb (assignment_at b k j).tag output_tag))
        where
          go : (z : Bool) → Sent (cond (z && eqb o (assignment_at b k j).number) (assigned_expression (assignment_at b k j)) x)
              (cond z (store max_outputs l (assignment_at b k j).number (assigned_value s.ports (assignment_at b k j))) l)
          go true = sent_stored (assigned_expression (assignment_at b k j)) x (assigned_value s.ports (assignment_at b k j)) l (assignment_at b k j).number (assigned_same j p) r
          go false = r

      pub sent_same : ValuesShown (output_var 0) max_outputs m.outputs s.ports.output v → worth n v (sent_expression b k count o) ≡ output_value (assign b s.ports k count) o
      unfolding sent_expression assign output_value
      sent_same c =
          (fold_related Sent count send_next store_next (copied (variable (output_var o))) s.ports.output (c.sized, variable_worth n v (output_var o) ∙ c.shows o few) sent_next).1
