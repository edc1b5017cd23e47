use Rattle.std.proofs.Common.{rules}
use Rattle.listing.specs.Programs.{table_listing}
use Rattle.run_table.proofs.table_main.Goals as goal

pub returns : goal.returns
returns c = c.run_program.ensures.shows table_listing (λ m s o n p k. search rules)
