use Rattle.model_words.specs.Words.{behavior_in}
use Rattle.table_writer.specs.Lists.{joins_atoms}
use Rattle.table_writer.specs.WritesLaws.{writes_begin, writes_next}
use Rattle.translate_guards.specs.NamedLaws.{guard_named}
use Rattle.translate_guards.specs.Guards.{negated_at, negated_one, negated_end}
use Rattle.translate_guards.proofs.guards.put_negated.Goals as goal

pub loop-number-init : goal.loop-number-init
loop-number-init c = writes_begin joins_atoms _

pub put_opposite-requires : goal.put_opposite-requires
put_opposite-requires c = guard_named c.requires.0 _ c.requires.1 _ c.transition_at-own.ensures _ c.loop-number-test.true _ c.atom_at-atom.ensures

pub loop-number-preserved : goal.loop-number-preserved
loop-number-preserved c =
    let b = behavior_in c.args.model.now in
    writes_next joins_atoms _ (negated_at b c.args.transition) c.loop-number.invariant (negated_one b c.args.transition _ _ c.atom_at-atom.ensures c.put_opposite.ensures)

pub returns : goal.returns
returns c = negated_end (behavior_in c.args.model.now) c.args.transition _ _ c.transition_at-own.ensures c.loop-number.auto.number-end c.loop-number-test.false c.loop-number.invariant
