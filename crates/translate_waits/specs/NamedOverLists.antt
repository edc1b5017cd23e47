-- The same laws of what is written into a lent slice from a place on, for callers who prove over these and hold no writer.
use Rattle.std.specs.Prelude.{◌≡◌, Bool, true, false, cond, List, [], ◌∷◌, ℕ, length}
use Rattle.numbers.specs.Values.{natural}
use Rattle.records.specs.declared.Operand.{Operand}
use Rattle.table_format.specs.declared.Record.{Record}
use Rattle.table_writer.specs.Wrote.{WroteRecords}
use Rattle.table_writer.specs.Lists.{Joins, Counted, wrote_none, wrote_then}
use Rattle.table_writer.specs.WroteRules.{WroteAtoms, WroteClauses, WroteUpdates}

module _ {d e : List ℕ} {at p : ℕ} where
  pub atom_named : (op : ℕ) {j k : ℕ} {a b : Operand} → j ≡ k → a ≡ b → WroteAtoms d at (record { op = op; variable = j; right = a } ∷ []) e p →
      WroteAtoms d at (record { op = op; variable = k; right = b } ∷ []) e p
  atom_named op q r w = rw (q, r) at w

  pub clause_named : (op : ℕ) (a : Operand) {j k : ℕ} → j ≡ k → WroteClauses d at ((record { op = op; variable = j; right = a } ∷ []) ∷ []) e p →
      WroteClauses d at ((record { op = op; variable = k; right = a } ∷ []) ∷ []) e p
  clause_named op a q w = rw q at w

  pub update_named : (w op : ℕ) (x : Operand) {c i j k : ℕ} {a b : Operand} → c ≡ i → j ≡ k → a ≡ b →
      WroteUpdates d at (record { condition = c; wanted = w; target = j; op = op; first = a; second = x } ∷ []) e p →
      WroteUpdates d at (record { condition = i; wanted = w; target = k; op = op; first = b; second = x } ∷ []) e p
  update_named w op x q r s v = rw (q, r, s) at v

module _ {A : Type 0} {f : List A → List Record} (j : Joins f) where
  -- one thing and those behind it
  pub wrote_more : {d e g : List ℕ} {at p q : ℕ} (a : A) (r : List A) → Counted (length d) →
      WroteRecords d at (f (a ∷ [])) e p → (Counted (length e) → WroteRecords e p (f r) g q) → WroteRecords d at (f (a ∷ r)) g q
  wrote_more a r h w x = wrote_then j (a ∷ []) r h w x

  -- a list that is written where a test passes; b is what the code has computed
  pub where_passed : {d e : List ℕ} {at p : ℕ} (l : List A) {b : Bool} → b ≡ true → WroteRecords d at (f l) e p → WroteRecords d at (f (cond b l [])) e p
  where_passed l h w = rw h w

  pub where_failed : {d : List ℕ} {at : ℕ} (l : List A) {b : Bool} → b ≡ false → Counted at → WroteRecords d at (f (cond b l [])) d at
  where_failed l h k = rw h (wrote_none j k)
