-- Kinds 08 to 0A: an accepted record keeps what holds while a model is read.
use Rattle.std.specs.Prelude.{◌≡◌, refl, true, false, cond, ◌&&◌, ℕ, ◌+◌, ◌<◌, ◌≤◌, eqb, ltb}
use Rattle.std.proofs.Common.{sym, ap, ◌∙◌, arith, SFits, ltb-true, leb-false, eq-eqb}
use Rattle.std.proofs.Math.Decide.{ℕ_discrete}
use Rattle.std.specs.Int.{w32}
use Rattle.std.proofs.lemmas.Bool.{not-false}
use Rattle.numbers.specs.Lists.{item, store}
use Rattle.numbers.specs.ListLaws.{item_store_same, item_store_other, none_below}
use Rattle.records.specs.declared.Operand.{Operand}
use Rattle.records.specs.Refusals.{is_none}
use Rattle.model_format.specs.declared.Transition.{Transition}
use Rattle.model_format.specs.declared.Atom.{Atom}
use Rattle.model_format.specs.declared.Assignment.{Assignment}
use Rattle.model_format.specs.declared.Record.TheVariants.{TransitionRecord, AtomRecord, AssignmentRecord}
use Rattle.model_format.specs.declared.Timing.{Timing}
use Rattle.model_format.specs.declared.Behavior.{Behavior}
use Rattle.model_format.specs.declared.Reading.{Reading}
use Rattle.model_format.specs.Format.{rank_of}
use Rattle.model_format.specs.Model.{max_transitions, max_each, no_transition, no_atom, no_assignment, transition_at, assignment_at}
use Rattle.model_format.specs.Reading.{in_order, is_state, names_item, operand_tag, operand_names, left_tag, target_tag, is_assigned, last_transition, misplaced, open_transition, transition_faults, atom_faults, assignment_faults, cause_of, add_transition, with_counts, add_atom, add_assignment, add_record, with_behavior, next_reading}
use Rattle.model_format.specs.WellFormed.{GoodOperand, GoodAtom, GoodAssignment}
use Rattle.model_format.specs.Arrays.{Filled, filled_more, filled_again, rows_as, rows_next, rows_more}
use Rattle.model_format.specs.Faultless.{both_true, faultless, order_item, order_atom, order_assignment}
use Rattle.model_format.specs.Sound.{GoodTransition, SameTarget, Never, SoundBehavior, Sound}

-- record k leaves the behaviour b
behavior_next : (a : Reading) (k : ℕ) (b : Behavior) → Sound a → 0 < a.last → 8 ≤ k → 0 < b.transitions → SoundBehavior a.model.timing b →
    Sound (record { last = k; model = with_behavior a.model b })
behavior_next a k b s l h g n = record {
  head = λ p. s.head l;
  fresh = λ e. absurd (omega arith);
  early = λ p. absurd (omega arith);
  late = λ p. g;
  timing = s.timing;
  behavior = n;
}

-- ---- 08 behaviour transition
transition_added : (m : Timing) (b : Behavior) (x : Transition) → SoundBehavior m b → b.transitions < max_transitions → GoodTransition m.threads x →
    x.atoms ≡ 0 → x.assignments ≡ 0 → SoundBehavior m (add_transition b x)
unfolding add_transition transition_at
transition_added m b x s h g e f = record {
  transition = filled_more max_transitions no_transition (GoodTransition m.threads) b.transitions b.transition x s.transition g h;
  atom = rows_next no_atom (GoodAtom m) Never b.transitions (λ k. (transition_at b k).atoms) (λ k. (at k).atoms)
      b.atom s.atom
      (λ k l. ap (λ (y : Transition). y.atoms) (old k (λ z. omega arith))) (ap (λ (y : Transition). y.atoms) new ∙ e);
  assignment = rows_next no_assignment (GoodAssignment m) SameTarget b.transitions (λ k. (transition_at b k).assignments) (λ k. (at k).assignments)
      b.assignment s.assignment
      (λ k l. ap (λ (y : Transition). y.assignments) (old k (λ z. omega arith))) (ap (λ (y : Transition). y.assignments) new ∙ f);
}
  where
    at : ℕ → Transition
    at k = item max_transitions (store max_transitions b.transition b.transitions x) k no_transition

    old : (k : ℕ) → (k ≡ b.transitions → ⊥) → at k ≡ transition_at b k
    old k o = item_store_other max_transitions b.transition b.transitions k x no_transition o

    new : at b.transitions ≡ x
    new = item_store_same max_transitions b.transition b.transitions x no_transition h (let z = s.transition.size in omega arith)

pub transition_next : (a : Reading) (x : Transition) → x.atoms ≡ 0 → x.assignments ≡ 0 → Sound a →
    is_none (cause_of a (TransitionRecord x)) ≡ true → Sound (next_reading a (TransitionRecord x))
unfolding cause_of add_record rank_of add_transition in_order
transition_next a x e g s h =
    let m = a.model.timing in
    let b = a.model.behavior in
    let f = faultless (transition_faults (misplaced a (TransitionRecord x)) a.model x) h in
    let o = order_item a.last 8 (not-false _ f.order) in
    let r = both_true (is_state x.from) (is_state x.to) (not-false _ f.ranges) in
    behavior_next a 8 (add_transition b x) s o.0 (omega arith) (omega arith)
    (transition_added m b x s.behavior (leb-false max_transitions b.transitions f.excess)
    (record {
      thread = leb-false m.threads x.thread f.names;
      from = ltb-true x.from 8 r.0;
      to = ltb-true x.to 8 r.1;
      atoms = omega arith;
      assignments = omega arith;
    }) e g)

-- ---- the last transition, with other counts
module _ (m : Timing) (b : Behavior) (s : SoundBehavior m b) (h : 0 < b.transitions) (atoms assignments : ℕ) where
  abbrev recounted : Transition
  recounted = with_counts (transition_at b (last_transition b)) atoms assignments

  abbrev recounted_at : ℕ → Transition
  recounted_at k = item max_transitions (store max_transitions b.transition (last_transition b) recounted) k no_transition

  other_at : (k : ℕ) → (k ≡ last_transition b → ⊥) → recounted_at k ≡ transition_at b k
  unfolding transition_at
  other_at k o = item_store_other max_transitions b.transition (last_transition b) k recounted no_transition o

  last_at : (k : ℕ) → k ≡ last_transition b → recounted_at k ≡ recounted
  last_at k o = rw o (item_store_same max_transitions b.transition (last_transition b) recounted no_transition
      (let w = s.transition.within in omega arith) (let w = s.transition.within in let z = s.transition.size in omega arith))

  -- a count that stays
  kept : (f : Transition → ℕ) → f recounted ≡ f (transition_at b (last_transition b)) → (k : ℕ) → f (recounted_at k) ≡ f (transition_at b k)
  kept f e k = go (ℕ_discrete k (last_transition b))
    where
      go : Dec (k ≡ last_transition b) → f (recounted_at k) ≡ f (transition_at b k)
      go (yes o) = ap f (last_at k o) ∙ e ∙ ap (λ (i : ℕ). f (transition_at b i)) (sym o)
      go (no o) = ap f (other_at k o)

  last_good : GoodTransition m.threads (transition_at b (last_transition b))
  unfolding transition_at
  last_good = s.transition.each (last_transition b) (omega arith)

  refilled : atoms ≤ max_each → assignments ≤ max_each →
      Filled max_transitions no_transition (GoodTransition m.threads) b.transitions (store max_transitions b.transition (last_transition b) recounted)
  refilled p q =
      filled_again max_transitions no_transition (GoodTransition m.threads) b.transitions b.transition recounted s.transition
      (record { thread = last_good.thread; from = last_good.from; to = last_good.to; atoms = p; assignments = q }) (last_transition b) (omega arith)

-- ---- 09 guard atom
atom_added : (m : Timing) (b : Behavior) (x : Atom) → SoundBehavior m b → 0 < b.transitions → (transition_at b (last_transition b)).atoms < max_each →
    GoodAtom m x → SoundBehavior m (add_atom b x)
unfolding add_atom transition_at
atom_added m b x s h l g = record {
  transition = refilled m b s h n q (omega arith) (last_good m b s h n q).assignments;
  atom = rows_more no_atom (GoodAtom m) Never b.transitions (λ k. (transition_at b k).atoms) (λ k. (recounted_at m b s h n q k).atoms)
      b.atom s.atom
      (last_transition b) x (omega arith) s.transition.within l (λ k c. (s.transition.each k c).atoms)
      (ap (λ (y : Transition). y.atoms) (last_at m b s h n q (last_transition b) refl))
      (λ k o. ap (λ (y : Transition). y.atoms) (other_at m b s h n q k o)) g (λ j c z. z);
  assignment = rows_as no_assignment (GoodAssignment m) SameTarget b.transitions (λ k. (transition_at b k).assignments) (λ k. (recounted_at m b s h n q k).assignments)
      b.assignment s.assignment
      (λ k c. kept m b s h n q (λ y. y.assignments) refl k);
}
  where
    n : ℕ
    n = (transition_at b (last_transition b)).atoms + 1

    q : ℕ
    q = (transition_at b (last_transition b)).assignments

good_operand : (m : Timing) (o : Operand) → SFits w32 o.value.0 → operand_tag o ≡ true → operand_names m o ≡ true → GoodOperand m o
good_operand m o f t n = record { fits = f; tag = t; names = rw t at n }

pub atom_next : (a : Reading) (x : Atom) → SFits w32 x.right.value.0 → Sound a → is_none (cause_of a (AtomRecord x)) ≡ true → Sound (next_reading a (AtomRecord x))
unfolding cause_of add_record rank_of add_atom
atom_next a x w s h =
    let m = a.model.timing in
    let b = a.model.behavior in
    let y = open_transition a in
    let f = faultless (atom_faults (misplaced a (AtomRecord x)) m y.thread y.atoms x) h in
    let o = order_atom a.last (not-false (in_order a.last 9) f.order) in
    let r = both_true (ltb x.op 6) (left_tag x && operand_tag x.right) (not-false _ f.ranges) in
    let t = both_true (left_tag x) (operand_tag x.right) r.1 in
    let n = both_true (cond (left_tag x) (names_item m x.tag x.number) true) (operand_names m x.right) (not-false _ f.names) in
    behavior_next a 9 (add_atom b x) s (omega arith) (omega arith) (s.late o)
    (atom_added m b x s.behavior (s.late o) (leb-false max_each y.atoms f.excess)
    (record {
      op = ltb-true x.op 6 r.0;
      tag = t.0;
      names = rw t.0 at n.0;
      right = good_operand m x.right w t.1 n.1;
    }))

-- ---- 0A assignment
assignment_added : (m : Timing) (b : Behavior) (x : Assignment) → SoundBehavior m b → 0 < b.transitions → (transition_at b (last_transition b)).assignments < max_each →
    GoodAssignment m x → is_assigned b x ≡ false → SoundBehavior m (add_assignment b x)
unfolding add_assignment transition_at assignment_at is_assigned
assignment_added m b x s h l g d = record {
  transition = refilled m b s h n q (last_good m b s h n q).atoms (omega arith);
  atom = rows_as no_atom (GoodAtom m) Never b.transitions (λ k. (transition_at b k).atoms) (λ k. (recounted_at m b s h n q k).atoms)
      b.atom s.atom
      (λ k c. kept m b s h n q (λ y. y.atoms) refl k);
  assignment = rows_more no_assignment (GoodAssignment m) SameTarget b.transitions (λ k. (transition_at b k).assignments) (λ k. (recounted_at m b s h n q k).assignments)
      b.assignment s.assignment
      (last_transition b) x (omega arith) s.transition.within l (λ k c. (s.transition.each k c).assignments)
      (ap (λ (y : Transition). y.assignments) (last_at m b s h n q (last_transition b) refl))
      (λ k o. ap (λ (y : Transition). y.assignments) (other_at m b s h n q k o)) g new;
}
  where
    n : ℕ
    n = (transition_at b (last_transition b)).atoms

    q : ℕ
    q = (transition_at b (last_transition b)).assignments + 1

    new : (j : ℕ) → j < (transition_at b (last_transition b)).assignments → SameTarget (assignment_at b (last_transition b) j) x → ⊥
    new j c t =
        let y = assignment_at b (last_transition b) j in
        let e = none_below (transition_at b (last_transition b)).assignments
        (λ i. eqb (assignment_at b (last_transition b) i).tag x.tag && eqb (assignment_at b (last_transition b) i).number x.number) d j c in
        let f : true ≡ false = rw (eq-eqb y.tag x.tag t.0, eq-eqb y.number x.number t.1) at e in
        let z : ◌≡◌ {A = ℕ} 0 1 = cc in
        omega arith

pub assignment_next : (a : Reading) (x : Assignment) → SFits w32 x.first.value.0 → SFits w32 x.second.value.0 → Sound a →
    is_none (cause_of a (AssignmentRecord x)) ≡ true → Sound (next_reading a (AssignmentRecord x))
unfolding cause_of add_record rank_of add_assignment
assignment_next a x w v s h =
    let m = a.model.timing in
    let b = a.model.behavior in
    let y = open_transition a in
    let f = faultless (assignment_faults (misplaced a (AssignmentRecord x)) a.model y.thread y.assignments x) h in
    let o = order_assignment a.last (not-false (in_order a.last 10) f.order) in
    let r = both_true (target_tag x) (ltb x.op 3 && (operand_tag x.first && operand_tag x.second)) (not-false _ f.ranges) in
    let p = both_true (ltb x.op 3) (operand_tag x.first && operand_tag x.second) r.1 in
    let t = both_true (operand_tag x.first) (operand_tag x.second) p.1 in
    let n = both_true (cond (target_tag x) (names_item m x.tag x.number) true) (operand_names m x.first && operand_names m x.second) (not-false _ f.names) in
    let k = both_true (operand_names m x.first) (operand_names m x.second) n.1 in
    behavior_next a 10 (add_assignment b x) s (omega arith) (omega arith) (s.late o)
    (assignment_added m b x s.behavior (s.late o) (leb-false max_each y.assignments f.excess)
    (record {
      op = ltb-true x.op 3 p.0;
      tag = r.0;
      names = rw r.0 at n.0;
      first = good_operand m x.first w t.0 k.0;
      second = good_operand m x.second v t.1 k.1;
    }) f.twice)
