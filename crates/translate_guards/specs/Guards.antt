-- Laws of writing guards: each list as its definition has it.
use Rattle.std.specs.Prelude.{◌≡◌, Bool, true, false, cond, ◌&&◌, List, [], ◌∷◌, ℕ, ◌≤◌, eqb}
use Rattle.std.proofs.Common.{sym, ◌∙◌, true≢false, eq-eqb, ne_eqb}
use Rattle.std.proofs.lemmas.Bool.{false≢true}
use Rattle.numbers.specs.Lists.{join_below, only}
use Rattle.model_format.specs.declared.Behavior.{Behavior}
use Rattle.model_format.specs.declared.Transition.{Transition}
use Rattle.model_format.specs.Model.{transition_at, atom_at}
use Rattle.records.specs.declared.Operand.{Operand}
use Rattle.model_format.specs.declared.Atom as model-atom
use Rattle.table_format.specs.declared.Atom.{Atom}
use Rattle.table_format.specs.declared.Record.TheVariants.{Clause}
use Rattle.table_format.specs.Variables.{behavior_var}
use Rattle.table_format.specs.Format.{record_to}
use Rattle.translation.specs.Parts.{constant, differs, plain, negated_op, variable}
use Rattle.translation.specs.Rules.{variable_of, operand_of, atom_with, guard_clauses, negated_guard, per_transition, earlier_clause, otherwise_clause, guard_clause, negated_atom, where_of, earlier_from, shut_clause}
use Rattle.table_writer.specs.Lists.{joins_atoms, joins_clauses}
use Rattle.table_writer.specs.Writes.{Writes, WritesAtoms, WritesClauses}
use Rattle.table_writer.specs.WritesLaws.{writes_none, writes_both, writes_end, writes_clause}
use Rattle.table_writer.specs.declared.encoding.Writer.{Writer}

-- ---- the lists of the loops
abbrev pub guard_at : Behavior → ℕ → ℕ → List (List Atom)
guard_at b k j = guard_clause (atom_at b k j)

abbrev pub negated_at : Behavior → ℕ → ℕ → List Atom
negated_at b k j = negated_atom (atom_at b k j)

-- atom j of transition k, which is a
module _ {u v : Writer} (b : Behavior) (k j : ℕ) (a : model-atom.Atom) (h : a ≡ atom_at b k j) where
  pub guard_one : WritesClauses u (guard_clause a) v → WritesClauses u (guard_at b k j) v
  guard_one w = rw (← h) w

  pub negated_one : WritesAtoms u (negated_atom a) v → WritesAtoms u (negated_at b k j) v
  negated_one w = rw (← h) w

-- the whole guard of transition k, which is x
module _ {u v : Writer} (b : Behavior) (k j : ℕ) (x : Transition) (g : x ≡ transition_at b k) (h : j ≤ x.atoms) (l : x.atoms ≤ j) where
  pub guard_end : WritesClauses u (join_below j (guard_at b k)) v → WritesClauses u (guard_clauses b k) v
  unfolding guard_clauses
  guard_end w = writes_end joins_clauses (guard_at b k) (transition_at b k).atoms j (rw (← g) h) (rw (← g) l) w

  pub negated_end : WritesAtoms u (join_below j (negated_at b k)) v → WritesAtoms u (negated_guard b k) v
  unfolding negated_guard
  negated_end w = writes_end joins_atoms (negated_at b k) (transition_at b k).atoms j (rw (← g) h) (rw (← g) l) w

-- ---- one atom
pub with_written : {u v : Writer} (a : model-atom.Atom) (op j : ℕ) (o : Operand) → j ≡ variable_of a.tag a.number → o ≡ operand_of a.right →
    WritesAtoms u (record { op = op; variable = j; right = o } ∷ []) v → WritesAtoms u (plain (atom_with (λ k. op) a)) v
with_written a op j o h g w = rw (← h, ← g) w

pub opposite_written : {u v : Writer} (a : model-atom.Atom) (op : ℕ) → op ≡ negated_op a.op →
    WritesAtoms u (plain (atom_with (λ k. op) a)) v → WritesAtoms u (plain (atom_with negated_op a)) v
opposite_written a op h w = rw (← h) w

-- ---- other transitions
-- transition x is one of thread t, from a behaviour state given
abbrev pub starts_from : Transition → ℕ → ℕ → Bool
starts_from x t from = eqb x.thread t && eqb x.from from

-- transition e, from a behaviour state given
abbrev pub earlier_at : Behavior → ℕ → ℕ → ℕ → List (List Atom)
earlier_at b t from = where_of b t (earlier_from b from)

abbrev pub otherwise_at : Behavior → ℕ → ℕ → List (List Atom)
otherwise_at b t = where_of b t (otherwise_clause b t)

-- transition e is x, and r says whether it starts from there
module _ (b : Behavior) (t from e : ℕ) (x : Transition) (g : x ≡ transition_at b e) (r : Bool) (k : r ≡ starts_from x t from) where
  starts_is : r ≡ starts_from (transition_at b e) t from
  starts_is = rw (← g) k

  pub earlier_written : {u v : Writer} → r ≡ true → WritesClauses u (negated_guard b e ∷ []) v → WritesClauses u (earlier_at b t from e) v
  earlier_written {u} {v} s w = go (eqb (transition_at b e).thread t) (eqb (transition_at b e).from from) (sym starts_is ∙ s)
    where
      go : (y z : Bool) → (y && z) ≡ true → WritesClauses u (cond y (only z (negated_guard b e)) []) v
      go true true s = w
      go true false s = absurd (false≢true s)
      go false z s = absurd (false≢true s)

  pub earlier_none : {u : Writer} → r ≡ false → WritesClauses u (earlier_at b t from e) u
  earlier_none {u} s = go (eqb (transition_at b e).thread t) (eqb (transition_at b e).from from) (sym starts_is ∙ s)
    where
      go : (y z : Bool) → (y && z) ≡ false → WritesClauses u (cond y (only z (negated_guard b e)) []) u
      go true true s = absurd (true≢false s)
      go true false s = writes_none joins_clauses
      go false z s = writes_none joins_clauses

pub earlier_end : {u v : Writer} (b : Behavior) (t k e : ℕ) (x : Transition) → x ≡ transition_at b k → WritesClauses u (join_below e (earlier_at b t x.from)) v → e ≤ k → k ≤ e →
    WritesClauses u (per_transition b t k (earlier_clause b k)) v
earlier_end b t k e x i w h l = writes_end joins_clauses (earlier_at b t (transition_at b k).from) k e h l (rw i at w)

pub shut_written : {u v w z : Writer} (t from j : ℕ) (negated : List Atom) → j ≡ behavior_var t →
    Writes u (record_to Clause []) v → WritesAtoms v (differs j (constant from) ∷ []) w → WritesAtoms w negated z → WritesClauses u (shut_clause t from negated ∷ []) z
shut_written t from j negated y c a n =
    writes_clause (shut_clause t from negated) c (writes_both joins_atoms (differs (behavior_var t) (constant from) ∷ []) negated (rw y at a) n)

-- transition k is x
module _ (b : Behavior) (t k : ℕ) (x : Transition) (g : x ≡ transition_at b k) where
  pub otherwise_written : {u v : Writer} → x.thread ≡ t → WritesClauses u (shut_clause t x.from (negated_guard b k) ∷ []) v → WritesClauses u (otherwise_at b t k) v
  otherwise_written s w = rw (← g, eq-eqb _ _ s) w

  pub otherwise_none : {u : Writer} → (x.thread ≡ t → ⊥) → WritesClauses u (otherwise_at b t k) u
  otherwise_none s = rw (← g, ne_eqb _ _ s) (writes_none joins_clauses)

pub otherwise_end : {u v : Writer} (b : Behavior) (t k n : ℕ) → n ≡ b.transitions → k ≤ n → n ≤ k → WritesClauses u (join_below k (otherwise_at b t)) v →
    WritesClauses u (per_transition b t b.transitions (otherwise_clause b t)) v
otherwise_end b t k n q h l w = writes_end joins_clauses (otherwise_at b t) b.transitions k (rw (← q) h) (rw (← q) l) w
