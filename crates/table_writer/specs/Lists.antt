-- Laws of lists of atoms, clauses, updates and rules that are written one after the other.
use Rattle.std.specs.Prelude.{◌≡◌, refl, List, [], ◌∷◌, ◌++◌, ℕ, ◌+◌, ◌^◌, ◌<◌, ◌≤◌, length}
use Rattle.std.proofs.Common.{arith}
use Rattle.numbers.specs.Lists.{join_below}
use Rattle.numbers.specs.ListLaws.{join_next, join_zero}
use Rattle.table_format.specs.declared.RuleHead.{RuleHead}
use Rattle.table_format.specs.declared.Atom.{Atom}
use Rattle.table_format.specs.declared.Update.{Update}
use Rattle.table_format.specs.declared.InitialValue.{InitialValue}
use Rattle.table_format.specs.declared.Record.{Record}
use Rattle.table_format.specs.declared.Record.TheVariants.{Head, Clause, Atomic, Change}
use Rattle.table_format.specs.Format.{record_to}
use Rattle.table_format.specs.Table.{atoms_to, clauses_to, updates_to, rules_to, initial_to}
use Rattle.table_format.specs.BytesLaws.{atoms_append, clauses_append, rules_append}
use Rattle.table_writer.specs.Written.{records_none, records_one, records_then, keeps_length}
use Rattle.table_writer.specs.Wrote.{Wrote, WroteRecords}
use Rattle.table_writer.specs.WroteRules.{WroteAtoms, WroteClauses, WroteUpdates, WroteRules}

-- the records of two lists are those of the one and then those of the other
pub record Joins {A : Type 0} (f : List A → List Record) : Type 0 where
  pub none : f [] ≡ []
  pub both : (l r : List A) → f (l ++ r) ≡ f l ++ f r

pub joins_atoms : Joins (λ l. atoms_to l [])
unfolding atoms_to
joins_atoms = record { none = refl; both = both }
  where
    both : (l r : List Atom) → atoms_to (l ++ r) [] ≡ atoms_to l [] ++ atoms_to r []
    both [] r = refl
    both (a ∷ l) r = rw (both l r)

pub joins_clauses : Joins (λ l. clauses_to l [])
unfolding clauses_to
joins_clauses = record { none = refl; both = both }
  where
    both : (l r : List (List Atom)) → clauses_to (l ++ r) [] ≡ clauses_to l [] ++ clauses_to r []
    both [] r = refl
    both (c ∷ l) r = rw (both l r, atoms_append c (clauses_to l []) (clauses_to r []))

pub joins_updates : Joins (λ l. updates_to l [])
unfolding updates_to
joins_updates = record { none = refl; both = both }
  where
    both : (l r : List Update) → updates_to (l ++ r) [] ≡ updates_to l [] ++ updates_to r []
    both [] r = refl
    both (u ∷ l) r = rw (both l r)

pub joins_initial : Joins (λ l. initial_to l [])
unfolding initial_to
joins_initial = record { none = refl; both = both }
  where
    both : (l r : List InitialValue) → initial_to (l ++ r) [] ≡ initial_to l [] ++ initial_to r []
    both [] r = refl
    both (x ∷ l) r = rw (both l r)

pub joins_rules : Joins rules_to
unfolding rules_to
joins_rules = record { none = refl; both = rules_append }

-- ---- places and slices that a machine has
abbrev pub Counted : ℕ → Type 0
Counted n = n < 2 ^ 64

-- a slice keeps its length
kept : {d e : List ℕ} {at p : ℕ} {bs : List ℕ} → Wrote d at bs e p → Counted (length d) → Counted (length e)
kept w h = let l = keeps_length w in omega arith

-- ---- nothing, two lists, and one list more of a loop
module _ {A : Type 0} {f : List A → List Record} (j : Joins f) where
  pub wrote_none : {d : List ℕ} {at : ℕ} → Counted at → WroteRecords d at (f []) d at
  wrote_none {d} {at} h = rw j.none (records_none d at (omega arith))

  pub wrote_both : {d e g : List ℕ} {at p q : ℕ} (l r : List A) → Counted (length d) →
      WroteRecords d at (f l) e p → WroteRecords e p (f r) g q → WroteRecords d at (f (l ++ r)) g q
  wrote_both l r h w x = rw (j.both l r) (records_then (f l) (f r) (omega arith) w x)

  -- where the second list is written in parts
  pub wrote_then : {d e g : List ℕ} {at p q : ℕ} (l r : List A) → Counted (length d) →
      WroteRecords d at (f l) e p → (Counted (length e) → WroteRecords e p (f r) g q) → WroteRecords d at (f (l ++ r)) g q
  wrote_then l r h w x = wrote_both l r h w (x (kept w h))

  pub loop_begins : {d : List ℕ} {at : ℕ} (x : ℕ → List A) → Counted at → WroteRecords d at (f (join_below 0 x)) d at
  loop_begins x h = rw (join_zero x) (wrote_none h)

  pub loop_next : {d e g : List ℕ} {at p q : ℕ} (i : ℕ) (x : ℕ → List A) → Counted (length d) →
      WroteRecords d at (f (join_below i x)) e p → WroteRecords e p (f (x i)) g q → WroteRecords d at (f (join_below (i + 1) x)) g q
  loop_next i x h w v = rw (join_next i x) (wrote_both (join_below i x) (x i) h w v)

  -- the loop has reached n
  pub loop_ends : {d e : List ℕ} {at p : ℕ} (x : ℕ → List A) (n i : ℕ) → i ≤ n → n ≤ i → WroteRecords d at (f (join_below i x)) e p → WroteRecords d at (f (join_below n x)) e p
  loop_ends x n i h l w = let q : n ≡ i = omega arith in rw q w

-- ---- one thing
pub wrote_atom : {d e : List ℕ} {at p : ℕ} (a : Atom) → Wrote d at (record_to (Atomic a) []) e p → WroteAtoms d at (a ∷ []) e p
unfolding atoms_to
wrote_atom a w = records_one (Atomic a) w

pub wrote_update : {d e : List ℕ} {at p : ℕ} (u : Update) → Wrote d at (record_to (Change u) []) e p → WroteUpdates d at (u ∷ []) e p
unfolding updates_to
wrote_update u w = records_one (Change u) w

-- a clause and its atoms
pub wrote_clause : {d e g : List ℕ} {at p q : ℕ} (l : List Atom) → Counted (length d) →
    Wrote d at (record_to Clause []) e p → (Counted (length e) → WroteAtoms e p l g q) → WroteClauses d at (l ∷ []) g q
unfolding clauses_to
wrote_clause l h w x = records_then (Clause ∷ []) (atoms_to l []) (omega arith) (records_one Clause w) (x (kept w h))

-- a rule's head, clauses and updates
pub wrote_rule : {d e g k : List ℕ} {at p q r : ℕ} (x : RuleHead) (cs : List (List Atom)) (us : List Update) → Counted (length d) →
    Wrote d at (record_to (Head x) []) e p → (Counted (length e) → WroteClauses e p cs g q) → (Counted (length g) → WroteUpdates g q us k r) →
    WroteRules d at (record { head = x; clauses = cs; updates = us } ∷ []) k r
unfolding rules_to
wrote_rule x cs us h w c u =
    let v = c (kept w h) in
    let m = records_then (Head x ∷ []) (clauses_to cs []) (omega arith) (records_one (Head x) w) v in
    rw (clauses_append cs [] (updates_to us [])) (records_then (Head x ∷ clauses_to cs []) (updates_to us []) (omega arith) m (u (kept v (kept w h))))

-- one without updates
pub wrote_still : {d e g : List ℕ} {at p q : ℕ} (x : RuleHead) (cs : List (List Atom)) → Counted (length d) →
    Wrote d at (record_to (Head x) []) e p → (Counted (length e) → WroteClauses e p cs g q) → WroteRules d at (record { head = x; clauses = cs; updates = [] } ∷ []) g q
unfolding rules_to updates_to
wrote_still x cs h w c = records_then (Head x ∷ []) (clauses_to cs []) (omega arith) (records_one (Head x) w) (c (kept w h))
