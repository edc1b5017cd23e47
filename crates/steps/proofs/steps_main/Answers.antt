use Rattle.std.proofs.Common.{rules}
use Rattle.listing.specs.Programs.{steps_listing}
use Rattle.steps.proofs.steps_main.Goals as goal

pub returns : goal.returns
returns c = c.run_program.ensures.shows steps_listing (λ m s o n p k. search rules)
