use Rattle.std.proofs.Common.{◌∙◌, ap, List}
use Rattle.table_format.specs.Table.{Rule}
use Rattle.table_semantics.specs.Rules.{enabled_rules}
use Rattle.table_semantics.specs.Machine.{fire}
use Rattle.table_semantics.specs.Runs.{values, variables_of}
use Rattle.table_semantics.proofs.MachineLaws.{step_broken, step_ticks, step_fires}
use Rattle.table_machine.specs.Running.{rest_none, tick_size, fire_size}
use Rattle.table_machine.proofs.step_listed.Goals as goal

pub returns-then-is_broken : goal.returns-then-is_broken
returns-then-is_broken c = step_broken _ (variables_of c.args.bits.now) c.args.event _ c.is_broken.ensures c.if-is_broken.true

pub shape_of-bits-then-event-eq-TICK : goal.shape_of-bits-then-event-eq-TICK
shape_of-bits-then-event-eq-TICK c = tick_size c.args.bits.now _ _ _ _ c.tick.ensures

pub returns-then-event-eq-TICK : goal.returns-then-event-eq-TICK
returns-then-event-eq-TICK c = c.tick.ensures ∙ step_ticks _ (variables_of c.args.bits.now) c.args.event _ c.is_broken.ensures c.if-is_broken.false c.if-event-eq-TICK.true

pub shape_of-bits-then-all : goal.shape_of-bits-then-all
shape_of-bits-then-all c = fire_size c.args.bits.now _ _ c.args.event _ c.fire_enabled.ensures

pub returns-then-all : goal.returns-then-all
returns-then-all c = c.fire_enabled.ensures ∙ ap (λ (l : List Rule). fire (variables_of c.args.bits.now) c.args.event (enabled_rules (values c.args.bits.now) c.args.event.kind c.args.event.id l)) (rest_none c.args.all.table.now c.args.all.words.now _ c.if-all.true) ∙ step_fires _ (variables_of c.args.bits.now) c.args.event _ c.is_broken.ensures c.if-is_broken.false c.if-event-eq-TICK.false

pub shape_of-bits : goal.shape_of-bits
shape_of-bits c = fire_size c.args.bits.now _ _ c.args.event _ c.fire_enabled-2.ensures

pub returns : goal.returns
returns c = c.fire_enabled-2.ensures ∙ step_fires _ (variables_of c.args.bits.now) c.args.event _ c.is_broken.ensures c.if-is_broken.false c.if-event-eq-TICK.false
