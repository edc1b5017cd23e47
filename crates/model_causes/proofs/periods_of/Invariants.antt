use Rattle.std.proofs.Common.{◌≡◌}
use Rattle.model_format.specs.Laws.{periods_below}
use Rattle.model_words.specs.Words.{timing_in}
use Rattle.model_causes.proofs.periods_of.Given as goal

abbrev pub invariant-loop-t : goal.invariant-loop-t
invariant-loop-t l = (l.h1 ≡ periods_below (timing_in l.model) l.switch.from l.switch.from l.t) × (l.h2 ≡ periods_below (timing_in l.model) l.switch.from l.switch.to l.t)
