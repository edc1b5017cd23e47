-- By the index that is made of a table, however much of it there was room for, and by none, a step on lent variables is the table's own.
use Rattle.std.specs.Prelude.{◌≡◌, List, [], ℕ, length}
use Rattle.std.proofs.lemmas.List.Edits.{sets}
use Rattle.records.specs.Events.{event_of}
use Rattle.table_format.specs.Table.{table_of}
use Rattle.table_semantics.specs.Machine.{step}
use Rattle.table_index.specs.Index.{index_of}
use Rattle.table_index.specs.IndexLaws.{rules_by_made, rules_by_none, step_by_index}
use Rattle.futonkestrel_lending.specs.Lending.{variables_in, step_on}

module _ (table d event : List ℕ) where
  pub step_by_made : (room index : List ℕ) → index ≡ sets room 0 (index_of table (length room)) →
      step_on table index d event ≡ step (table_of table).rules (variables_in d) (event_of event)
  step_by_made room index e = step_by_index table index (rules_by_made table room index e) (variables_in d) (event_of event)

  pub step_by_none : step_on table [] d event ≡ step (table_of table).rules (variables_in d) (event_of event)
  step_by_none = step_by_index table [] (rules_by_none table) (variables_in d) (event_of event)
