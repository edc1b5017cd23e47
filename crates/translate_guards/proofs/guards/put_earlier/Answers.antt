use Rattle.model_words.specs.Words.{behavior_in}
use Rattle.table_writer.specs.Lists.{joins_clauses}
use Rattle.table_writer.specs.WritesLaws.{writes_begin, writes_next}
use Rattle.translate_guards.specs.Guards.{earlier_at, earlier_end}
use Rattle.translate_guards.proofs.guards.put_earlier.Goals as goal

pub loop-earlier-init : goal.loop-earlier-init
loop-earlier-init c = writes_begin joins_clauses _

pub loop-earlier-preserved : goal.loop-earlier-preserved
loop-earlier-preserved c = writes_next joins_clauses _ (earlier_at (behavior_in c.args.model.now) _ _) c.loop-earlier.invariant c.put_not_open.ensures

pub returns : goal.returns
returns c = earlier_end (behavior_in c.args.model.now) _ _ _ _ c.transition_at-own.ensures c.loop-earlier.invariant c.loop-earlier.auto.earlier-end c.loop-earlier-test.false
