-- Laws of what is written: under the names of a definition, where a test passes, over a loop.
use Rattle.std.specs.Prelude.{◌≡◌, Bool, true, false, cond, List, [], ◌∷◌, ℕ}
use Rattle.numbers.specs.Values.{natural}
use Rattle.records.specs.declared.Operand.{Operand}
use Rattle.table_format.specs.declared.Record.{Record}
use Rattle.table_writer.specs.Writes.{WritesRecords, WritesAtoms, WritesClauses, WritesUpdates}
use Rattle.table_writer.specs.WritesLaws.{writes_none, writes_both}
use Rattle.table_writer.specs.Lists.{Joins}
use Rattle.table_writer.specs.declared.encoding.Writer.{Writer}

-- ---- a variable by its number: j is what the code has computed, k what the definition names
pub same_variable : {j k : ℕ} → j ≡ k → ◌≡◌ {A = Operand} (record { tag = 1; value = natural j }) (record { tag = 1; value = natural k })
same_variable q = rw q

module _ {u v : Writer} where
  pub atom_named : (op : ℕ) {j k : ℕ} {a b : Operand} → j ≡ k → a ≡ b → WritesAtoms u (record { op = op; variable = j; right = a } ∷ []) v →
      WritesAtoms u (record { op = op; variable = k; right = b } ∷ []) v
  atom_named op q r w = rw (q, r) at w

  pub clause_named : (op : ℕ) (a : Operand) {j k : ℕ} → j ≡ k → WritesClauses u ((record { op = op; variable = j; right = a } ∷ []) ∷ []) v →
      WritesClauses u ((record { op = op; variable = k; right = a } ∷ []) ∷ []) v
  clause_named op a q w = rw q at w

  pub update_named : (w op : ℕ) (x : Operand) {c i j k : ℕ} {a b : Operand} → c ≡ i → j ≡ k → a ≡ b →
      WritesUpdates u (record { condition = c; wanted = w; target = j; op = op; first = a; second = x } ∷ []) v →
      WritesUpdates u (record { condition = i; wanted = w; target = k; op = op; first = b; second = x } ∷ []) v
  update_named w op x q r s y = rw (q, r, s) at y

module _ {A : Type 0} {f : List A → List Record} (j : Joins f) where
  -- one thing and those behind it
  pub wrote_more : {u v w : Writer} (a : A) (r : List A) → WritesRecords u (f (a ∷ [])) v → WritesRecords v (f r) w → WritesRecords u (f (a ∷ r)) w
  wrote_more a r x y = writes_both j (a ∷ []) r x y

  -- a list that is written where a test passes; b is what the code has computed
  pub where_passed : {u v : Writer} (l : List A) {b : Bool} → b ≡ true → WritesRecords u (f l) v → WritesRecords u (f (cond b l [])) v
  where_passed l h w = rw h w

  pub where_failed : {u : Writer} (l : List A) {b : Bool} → b ≡ false → WritesRecords u (f (cond b l [])) u
  where_failed l h = rw h (writes_none j)
