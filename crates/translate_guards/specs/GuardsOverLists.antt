-- The same laws of what is written into a lent slice from a place on, for callers who prove over these and hold no writer.
use Rattle.std.specs.Prelude.{◌≡◌, Bool, true, false, cond, ◌&&◌, List, [], ◌∷◌, ℕ, ◌≤◌, length, eqb}
use Rattle.std.proofs.Common.{sym, ◌∙◌, true≢false, eq-eqb, ne_eqb}
use Rattle.std.proofs.lemmas.Bool.{false≢true}
use Rattle.numbers.specs.Lists.{join_below, only}
use Rattle.model_format.specs.declared.Behavior.{Behavior}
use Rattle.model_format.specs.declared.Transition.{Transition}
use Rattle.model_format.specs.Model.{transition_at, atom_at}
use Rattle.records.specs.declared.Operand.{Operand}
use Rattle.model_format.specs.declared.Atom as model-atom
use Rattle.table_format.specs.declared.Atom.{Atom}
use Rattle.table_format.specs.declared.Record.TheVariants.{Clause}
use Rattle.table_format.specs.Variables.{behavior_var}
use Rattle.table_format.specs.Format.{record_to}
use Rattle.table_writer.specs.Wrote.{Wrote}
use Rattle.translation.specs.Parts.{constant, differs, plain, negated_op, variable}
use Rattle.translation.specs.Rules.{variable_of, operand_of, atom_with, guard_clauses, negated_guard, per_transition, earlier_clause, otherwise_clause, guard_clause, negated_atom, where_of, earlier_from, shut_clause}
use Rattle.table_writer.specs.Lists.{Counted, joins_atoms, joins_clauses, wrote_none, wrote_both, wrote_clause, loop_ends}
use Rattle.table_writer.specs.WroteRules.{WroteAtoms, WroteClauses}
use Rattle.translate_guards.specs.Guards.{guard_at, negated_at, starts_from, earlier_at, otherwise_at}

-- atom j of transition k, which is a
module _ {d e : List ℕ} {at p : ℕ} (b : Behavior) (k j : ℕ) (a : model-atom.Atom) (h : a ≡ atom_at b k j) where
  pub guard_one : WroteClauses d at (guard_clause a) e p → WroteClauses d at (guard_at b k j) e p
  guard_one w = rw (← h) w

  pub negated_one : WroteAtoms d at (negated_atom a) e p → WroteAtoms d at (negated_at b k j) e p
  negated_one w = rw (← h) w

-- the whole guard of transition k, which is x
module _ {d e : List ℕ} {at p : ℕ} (b : Behavior) (k j : ℕ) (x : Transition) (g : x ≡ transition_at b k) (h : j ≤ x.atoms) (l : x.atoms ≤ j) where
  pub guard_end : WroteClauses d at (join_below j (guard_at b k)) e p → WroteClauses d at (guard_clauses b k) e p
  unfolding guard_clauses
  guard_end w = loop_ends joins_clauses (guard_at b k) (transition_at b k).atoms j (rw (← g) h) (rw (← g) l) w

  pub negated_end : WroteAtoms d at (join_below j (negated_at b k)) e p → WroteAtoms d at (negated_guard b k) e p
  unfolding negated_guard
  negated_end w = loop_ends joins_atoms (negated_at b k) (transition_at b k).atoms j (rw (← g) h) (rw (← g) l) w

-- ---- one atom
pub with_written : {d e : List ℕ} {at p : ℕ} (a : model-atom.Atom) (op j : ℕ) (o : Operand) → j ≡ variable_of a.tag a.number → o ≡ operand_of a.right →
    WroteAtoms d at (record { op = op; variable = j; right = o } ∷ []) e p → WroteAtoms d at (plain (atom_with (λ k. op) a)) e p
with_written a op j o h g w = rw (← h, ← g) w

pub opposite_written : {d e : List ℕ} {at p : ℕ} (a : model-atom.Atom) (op : ℕ) → op ≡ negated_op a.op →
    WroteAtoms d at (plain (atom_with (λ k. op) a)) e p → WroteAtoms d at (plain (atom_with negated_op a)) e p
opposite_written a op h w = rw (← h) w

-- transition e is x, and r says whether it starts from there
module _ (b : Behavior) (t from e : ℕ) (x : Transition) (g : x ≡ transition_at b e) (r : Bool) (k : r ≡ starts_from x t from) where
  starts_is : r ≡ starts_from (transition_at b e) t from
  starts_is = rw (← g) k

  pub earlier_written : {d h : List ℕ} {at q : ℕ} → r ≡ true → WroteClauses d at (negated_guard b e ∷ []) h q → WroteClauses d at (earlier_at b t from e) h q
  earlier_written {d} {h} {at} {q} s w = go (eqb (transition_at b e).thread t) (eqb (transition_at b e).from from) (sym starts_is ∙ s)
    where
      go : (y z : Bool) → (y && z) ≡ true → WroteClauses d at (cond y (only z (negated_guard b e)) []) h q
      go true true s = w
      go true false s = absurd (false≢true s)
      go false z s = absurd (false≢true s)

  pub earlier_none : {d : List ℕ} {at : ℕ} → r ≡ false → Counted at → WroteClauses d at (earlier_at b t from e) d at
  earlier_none {d} {at} s h = go (eqb (transition_at b e).thread t) (eqb (transition_at b e).from from) (sym starts_is ∙ s)
    where
      go : (y z : Bool) → (y && z) ≡ false → WroteClauses d at (cond y (only z (negated_guard b e)) []) d at
      go true true s = absurd (true≢false s)
      go true false s = wrote_none joins_clauses h
      go false z s = wrote_none joins_clauses h

pub earlier_end : {d g : List ℕ} {at q : ℕ} (b : Behavior) (t k e : ℕ) (x : Transition) → x ≡ transition_at b k → WroteClauses d at (join_below e (earlier_at b t x.from)) g q → e ≤ k → k ≤ e →
    WroteClauses d at (per_transition b t k (earlier_clause b k)) g q
earlier_end b t k e x i w h l = loop_ends joins_clauses (earlier_at b t (transition_at b k).from) k e h l (rw i at w)

pub shut_written : {d e g f : List ℕ} {at p q r : ℕ} (t from v : ℕ) (negated : List Atom) → v ≡ behavior_var t → Counted (length d) →
    Wrote d at (record_to Clause []) e p → WroteAtoms e p (differs v (constant from) ∷ []) g q → WroteAtoms g q negated f r → WroteClauses d at (shut_clause t from negated ∷ []) f r
shut_written t from v negated y l w a c =
    wrote_clause (shut_clause t from negated) l w
    (λ l. wrote_both joins_atoms (differs (behavior_var t) (constant from) ∷ []) negated l (rw y at a) c)

-- transition k is x
module _ (b : Behavior) (t k : ℕ) (x : Transition) (g : x ≡ transition_at b k) where
  pub otherwise_written : {d e : List ℕ} {at p : ℕ} → x.thread ≡ t → WroteClauses d at (shut_clause t x.from (negated_guard b k) ∷ []) e p → WroteClauses d at (otherwise_at b t k) e p
  otherwise_written s w = rw (← g, eq-eqb _ _ s) w

  pub otherwise_none : {d : List ℕ} {at : ℕ} → (x.thread ≡ t → ⊥) → Counted at → WroteClauses d at (otherwise_at b t k) d at
  otherwise_none s h = rw (← g, ne_eqb _ _ s) (wrote_none joins_clauses h)

pub otherwise_end : {d e : List ℕ} {at p : ℕ} (b : Behavior) (t k n : ℕ) → n ≡ b.transitions → k ≤ n → n ≤ k → WroteClauses d at (join_below k (otherwise_at b t)) e p →
    WroteClauses d at (per_transition b t b.transitions (otherwise_clause b t)) e p
otherwise_end b t k n q h l w = loop_ends joins_clauses (otherwise_at b t) b.transitions k (rw (← q) h) (rw (← q) l) w
