-- Laws of what a writer writes: one list behind the other, over a loop, and a rule by its parts.
use Rattle.std.specs.Prelude.{◌≡◌, refl, List, [], ◌∷◌, ◌++◌, ℕ, ◌+◌, ◌≤◌}
use Rattle.std.proofs.Common.{◌∙◌, arith}
use Rattle.numbers.specs.Lists.{join_below}
use Rattle.numbers.specs.ListLaws.{join_next, join_zero}
use Rattle.table_format.specs.declared.RuleHead.{RuleHead}
use Rattle.table_format.specs.declared.Atom.{Atom}
use Rattle.table_format.specs.declared.Update.{Update}
use Rattle.table_format.specs.declared.Record.{Record}
use Rattle.table_format.specs.declared.Record.TheVariants.{Head, Clause, Atomic, Change}
use Rattle.table_format.specs.Format.{record_to}
use Rattle.table_writer.specs.Wrote.{Wrote}
use Rattle.table_writer.specs.Written.{and_then}
use Rattle.table_writer.specs.Lists.{Joins, Counted, wrote_none, wrote_both, wrote_atom, wrote_update, wrote_clause, wrote_rule, wrote_still}
use Rattle.table_writer.specs.Writes.{Writes, WritesRecords, WritesAtoms, WritesClauses, WritesUpdates, WritesRules}
use Rattle.table_writer.specs.declared.encoding.Writer.{Writer}

-- bytes and then bytes
pub writes_on : {u v w : Writer} (a b : List ℕ) → Writes u a v → Writes v b w → Writes u (a ++ b) w
writes_on {u} a b x y = record {
  wrote = and_then a b (let h = u.size in omega arith) x.wrote y.wrote;
  lender = y.lender ∙ x.lender;
}

-- ---- nothing, two lists, and one list more of a loop
module _ {A : Type 0} {f : List A → List Record} (j : Joins f) where
  pub writes_none : {w : Writer} → WritesRecords w (f []) w
  writes_none {w} = record { wrote = wrote_none j w.place; lender = refl }

  pub writes_both : {u v w : Writer} (l r : List A) → WritesRecords u (f l) v → WritesRecords v (f r) w → WritesRecords u (f (l ++ r)) w
  writes_both {u} l r x y = record {
    wrote = wrote_both j l r u.size x.wrote y.wrote;
    lender = y.lender ∙ x.lender;
  }

  pub writes_begin : {u : Writer} (x : ℕ → List A) → WritesRecords u (f (join_below 0 x)) u
  writes_begin x = rw (join_zero x) writes_none

  pub writes_next : {u v w : Writer} (i : ℕ) (x : ℕ → List A) → WritesRecords u (f (join_below i x)) v → WritesRecords v (f (x i)) w → WritesRecords u (f (join_below (i + 1) x)) w
  writes_next i x a b = rw (join_next i x) (writes_both (join_below i x) (x i) a b)

  -- the loop has reached n
  pub writes_end : {u v : Writer} (x : ℕ → List A) (n i : ℕ) → i ≤ n → n ≤ i → WritesRecords u (f (join_below i x)) v → WritesRecords u (f (join_below n x)) v
  writes_end x n i h l a = let q : n ≡ i = omega arith in rw q a

-- ---- one thing
pub writes_atom : {u v : Writer} (a : Atom) → Writes u (record_to (Atomic a) []) v → WritesAtoms u (a ∷ []) v
writes_atom a x = record { wrote = wrote_atom a x.wrote; lender = x.lender }

pub writes_update : {u v : Writer} (a : Update) → Writes u (record_to (Change a) []) v → WritesUpdates u (a ∷ []) v
writes_update a x = record { wrote = wrote_update a x.wrote; lender = x.lender }

-- a clause and its atoms
pub writes_clause : {u v w : Writer} (l : List Atom) → Writes u (record_to Clause []) v → WritesAtoms v l w → WritesClauses u (l ∷ []) w
writes_clause {u} l x y = record {
  wrote = wrote_clause l u.size x.wrote (λ h. y.wrote);
  lender = y.lender ∙ x.lender;
}

-- a rule's head, clauses and updates
pub writes_rule : {u v w z : Writer} (x : RuleHead) (cs : List (List Atom)) (us : List Update) →
    Writes u (record_to (Head x) []) v → WritesClauses v cs w → WritesUpdates w us z → WritesRules u (record { head = x; clauses = cs; updates = us } ∷ []) z
writes_rule {u} x cs us h c a = record {
  wrote = wrote_rule x cs us u.size h.wrote (λ n. c.wrote) (λ n. a.wrote);
  lender = a.lender ∙ (c.lender ∙ h.lender);
}

-- one without updates
pub writes_still : {u v w : Writer} (x : RuleHead) (cs : List (List Atom)) →
    Writes u (record_to (Head x) []) v → WritesClauses v cs w → WritesRules u (record { head = x; clauses = cs; updates = [] } ∷ []) w
writes_still {u} x cs h c = record {
  wrote = wrote_still x cs u.size h.wrote (λ n. c.wrote);
  lender = c.lender ∙ h.lender;
}

-- a writer made over the slice d, and the slice e after it: what it has written there
pub writes_lent : {u v : Writer} {d e : List ℕ} {at : ℕ} (bs : List ℕ) → u.bytes.now ≡ d → u.at ≡ at → Writes u bs v → e ≡ v.bytes.now → Wrote d at bs e v.at
writes_lent bs h k x q = rw (← h, ← k, q) x.wrote
