use Rattle.model_words.specs.Words.{behavior_in}
use Rattle.table_writer.specs.Lists.{joins_updates}
use Rattle.table_writer.specs.WritesLaws.{writes_begin, writes_next}
use Rattle.translate_guards.specs.NamedLaws.{first_named}
use Rattle.translate_complete.specs.Assigned.{assignment_of, assignment_one, assignments_end}
use Rattle.translate_complete.proofs.updates.put_assignments.Goals as goal

pub loop-number-init : goal.loop-number-init
loop-number-init c = writes_begin joins_updates _

pub put_assignment-requires : goal.put_assignment-requires
put_assignment-requires c = first_named c.requires _ c.loop-number-test.true _ c.assignment_at-assignment.ensures

pub loop-number-preserved : goal.loop-number-preserved
loop-number-preserved c = writes_next joins_updates _ (assignment_of (behavior_in c.args.model.now) c.args.transition) c.loop-number.invariant (assignment_one (behavior_in c.args.model.now) c.args.transition _ _ c.assignment_at-assignment.ensures c.put_assignment.ensures)

pub returns : goal.returns
returns c = assignments_end (behavior_in c.args.model.now) c.args.transition _ _ c.loop-number.auto.number-end c.loop-number-test.false c.loop-number.invariant
