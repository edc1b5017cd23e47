-- The numbers by which a well-formed model names ports and locals are those that the table has room for.
use Rattle.std.specs.Prelude.{◌≡◌, refl, Bool, true, false, ◌||◌, eqb}
use Prim.Native.Nat.{ℕ, zero, suc, ◌<◌, ◌≤◌}
use Rattle.std.proofs.Common.{arith}
use borrow.Author.Tests.{ltb-true, eqb-true}
use Rattle.numbers.specs.Values.{bits_of}
use Rattle.records.specs.declared.Operand.{Operand}
use Rattle.model_format.specs.declared.Atom.{Atom}
use Rattle.model_format.specs.declared.Assignment.{Assignment}
use Rattle.model_format.specs.declared.Timing.{Timing}
use Rattle.model_format.specs.declared.Behavior.{Behavior}
use Rattle.model_format.specs.declared.Model.{Model}
use Rattle.model_format.specs.declared.Transition.{Transition}
use Rattle.model_format.specs.Model.{transition_at, atom_at, assignment_at}
use Rattle.model_format.specs.Reading.{names_item}
use Rattle.model_format.specs.WellFormed.{GoodOperand, GoodAtom, GoodAssignment, GoodTiming, WellFormed}
use Rattle.translate_guards.specs.Named.{item_room, NamedOperand, NamedAtom, NamedAssignment, NamedFirst}

either_below : (n a b c : ℕ) → a < c → b < c → (eqb n a || eqb n b) ≡ true → n < c
either_below n a b c h k e = go (eqb n a) refl e
  where
    go : (x : Bool) → eqb n a ≡ x → (x || eqb n b) ≡ true → n < c
    go true p q = let r = eqb-true n a p in omega arith
    go false p q = let r = eqb-true n b q in omega arith

either_above : (n a b : ℕ) → (eqb n (suc a) || eqb n (suc b)) ≡ true → n ≡ 0 → ⊥
either_above n a b e z = absurd (go (eqb n (suc a)) refl e)
  where
    go : (x : Bool) → eqb n (suc a) ≡ x → (x || eqb n (suc b)) ≡ true → ⊥
    go true p q = let r = eqb-true n (suc a) p in omega arith
    go false p q = let r = eqb-true n (suc b) q in omega arith

module _ (m : Timing) (g : GoodTiming m) where
  item_small : (tag n : ℕ) → (tag ≡ 0 → ⊥) → tag < 4 → names_item m tag n ≡ true → n < item_room
  unfolding names_item
  item_small zero n z h e = absurd (z refl)
  item_small (suc zero) n z h e = omega (arith, g.inputs, ltb-true n m.inputs e)
  item_small (suc (suc zero)) n z h e = omega (arith, g.locals, ltb-true n m.locals e)
  item_small (suc (suc (suc zero))) n z h e = omega (arith, g.outputs, ltb-true n m.outputs e)
  item_small (suc (suc (suc (suc tag)))) n z h e = absurd (omega arith)

  operand_named : (o : Operand) → GoodOperand m o → NamedOperand o
  operand_named o r = record { number = λ z. let k = ltb-true o.tag 3 r.tag in item_small o.tag (bits_of o.value.0) z (omega arith) r.names }

  atom_named : (a : Atom) → GoodAtom m a → NamedAtom a
  atom_named a r = record {
    number = item_small a.tag a.number (either_above a.tag 0 1 r.tag) (either_below a.tag 1 2 4 (omega arith) (omega arith) r.tag) r.names;
    right = operand_named a.right r.right;
  }

  assignment_named : (a : Assignment) → GoodAssignment m a → NamedAssignment a
  assignment_named a r = record {
    number = item_small a.tag a.number (either_above a.tag 1 2 r.tag) (either_below a.tag 2 3 4 (omega arith) (omega arith) r.tag) r.names;
    first = operand_named a.first r.first;
    second = operand_named a.second r.second;
  }

-- of transition k, which is x
module _ {m : Model} (w : WellFormed m) (k : ℕ) (h : k < m.behavior.transitions) (x : Transition) (e : x ≡ transition_at m.behavior k) where
  pub guard_named : (j : ℕ) → j < x.atoms → (a : Atom) → a ≡ atom_at m.behavior k j → NamedAtom a
  guard_named j l a g = rw g (atom_named m.timing w.timing (atom_at m.behavior k j) (w.behavior.atom k j h (rw (← e) l)))

  pub assigned_named : NamedFirst m.behavior k x.assignments
  assigned_named = record { assignment = λ j l. assignment_named m.timing w.timing _ (w.behavior.assignment k j h (rw (← e) l)) }

-- assignment j, which is a
pub first_named : {b : Behavior} {k n : ℕ} → NamedFirst b k n → (j : ℕ) → j < n → (a : Assignment) → a ≡ assignment_at b k j → NamedAssignment a
first_named f j l a e = rw e (f.assignment j l)

pub none_named : (b : Behavior) (k : ℕ) → NamedFirst b k 0
none_named b k = record { assignment = λ j h. absurd (omega arith) }
