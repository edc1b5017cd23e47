use Rattle.model_words.specs.Words.{behavior_in}
use Rattle.table_writer.specs.Lists.{joins_clauses}
use Rattle.table_writer.specs.WritesLaws.{writes_begin, writes_next}
use Rattle.translate_guards.specs.NamedLaws.{guard_named}
use Rattle.translate_guards.specs.Guards.{guard_at, guard_one, guard_end}
use Rattle.translate_guards.proofs.guards.put_guard.Goals as goal

pub loop-number-init : goal.loop-number-init
loop-number-init c = writes_begin joins_clauses _

pub put_plain-requires : goal.put_plain-requires
put_plain-requires c = guard_named c.requires.0 _ c.requires.1 _ c.transition_at-own.ensures _ c.loop-number-test.true _ c.atom_at-atom.ensures

pub loop-number-preserved : goal.loop-number-preserved
loop-number-preserved c =
    let b = behavior_in c.args.model.now in
    writes_next joins_clauses _ (guard_at b c.args.transition) c.loop-number.invariant (guard_one b c.args.transition _ _ c.atom_at-atom.ensures c.put_plain.ensures)

pub returns : goal.returns
returns c = guard_end (behavior_in c.args.model.now) c.args.transition _ _ c.transition_at-own.ensures c.loop-number.auto.number-end c.loop-number-test.false c.loop-number.invariant
