-- What the list of offered events holds after some rules, and what one more enabled rule adds to it.
use Rattle.std.specs.Prelude.{◌≡◌, true, List, [], ◌∷◌, ◌++◌, ℕ, ◌+◌, ◌*◌, ◌≤◌, length}
use Rattle.std.proofs.lemmas.List.Edits.{sets}
use Rattle.numbers.specs.declared.Value.{Value}
use Rattle.table_format.specs.declared.RuleHead.{RuleHead}
use Rattle.table_format.specs.declared.Atom.{Atom}
use Rattle.table_format.specs.declared.Update.{Update}
use Rattle.table_format.specs.Table.{Rule}
use Rattle.table_semantics.specs.Rules.{all_hold}
use Rattle.table_semantics.specs.Machine.{is_busy}
use Rattle.enabled.specs.Enabled.{numbers_of, table_offers}
use Rattle.enabled.specs.Told.{offer_size}
use Rattle.table_offers.specs.declared.Seen.{Seen}

-- a count has 64 bits: each lies below
abbrev pub count_end : ℕ
count_end = 18446744073709551616

-- after some rules. Where there is no room for all of the list, nothing is said of its numbers
pub record Told (values : List Value) (rules : List Rule) (before : List ℕ) (seen : Seen) (output : List ℕ) : Type 0 where
  pub count : seen.count ≡ length (table_offers rules values)
  pub busy : seen.busy ≡ is_busy values rules
  pub size : length output ≡ length before
  pub numbers : offer_size * seen.count ≤ length before → output ≡ sets before 0 (numbers_of (table_offers rules values))

-- some rules more, whatever came before
pub record GoesOn (values : List Value) (more : List Rule) (seen : Seen) (output : List ℕ) (seen' : Seen) (output' : List ℕ) : Type 0 where
  pub kept : length output' ≡ length output
  pub goes : (rules : List Rule) (before : List ℕ) → Told values rules before seen output → Told values (rules ++ more) before seen' output'

-- an enabled rule more, by its head: whatever its clauses, which hold, and its updates
abbrev pub Adds : RuleHead → Seen → List ℕ → Seen → List ℕ → Type 0
Adds head seen output seen' output' =
    (seen'.count ≤ seen.count + 1) × (length output' ≡ length output) × ((values : List Value) (clauses : List (List Atom)) (updates : List Update) → all_hold values clauses ≡ true →
    GoesOn values (record { head = head; clauses = clauses; updates = updates } ∷ []) seen output seen' output')
