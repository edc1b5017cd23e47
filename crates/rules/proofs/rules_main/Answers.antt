use Rattle.std.proofs.Common.{rules}
use Rattle.listing.specs.Programs.{rules_listing}
use Rattle.rules.proofs.rules_main.Goals as goal

pub returns : goal.returns
returns c = c.run_program.ensures.shows rules_listing (λ m s o n p k. search rules)
