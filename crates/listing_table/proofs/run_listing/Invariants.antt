use Rattle.std.proofs.Common.{◌≡◌}
use Rattle.table_format.specs.Table.{table_of}
use Rattle.table_semantics.specs.Machine.{start_variables, clock_of, machine_of, run_table}
use Rattle.table_semantics.specs.Runs.{variables_of}
use Rattle.table_index.specs.Index.{rules_by}
use Rattle.listing.specs.Listing.{listing}
use Rattle.listing_writer.specs.Runs.{Running}
use Rattle.listing_table.proofs.run_listing.Given as goal

abbrev pub invariant-loop-at : goal.invariant-loop-at
invariant-loop-at l = (goal.iterator-loop-at).can_next l.at-iterator
    × (goal.iterator-loop-at).is_finite l.at-iterator
    × (l.at-iterator.script.now ≡ l.script)
    × (rules_by l.table l.index ≡ (table_of l.table).rules)
    × Running (machine_of (table_of l.table).rules) clock_of l.script l.initial.out (listing (machine_of (table_of l.table).rules) clock_of (start_variables (table_of l.table)) l.script) (run_table l.table l.script).refusal l.out l.place l.at-iterator.at (variables_of l.bits) l.taken
