use Rattle.std.proofs.Common.{◌∙◌}
use Rattle.records.specs.Laws.{figure_tick, figure_other}
use Rattle.records.proofs.figure_of.Goals as goal

pub returns-then-event-eq-TICK : goal.returns-then-event-eq-TICK
returns-then-event-eq-TICK c = figure_tick _ c.if-event-eq-TICK.true

pub returns-else-event-eq-TICK : goal.returns-else-event-eq-TICK
returns-else-event-eq-TICK c = c.from.ensures ∙ figure_other c.args.event c.if-event-eq-TICK.false
