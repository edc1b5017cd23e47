use Rattle.model_words.specs.Words.{behavior_in}
use Rattle.table_writer.specs.Lists.{joins_clauses}
use Rattle.table_writer.specs.WritesLaws.{writes_begin, writes_next}
use Rattle.translate_guards.specs.Guards.{otherwise_at}
use Rattle.translate_guards.proofs.guards.put_otherwise.Goals as goal

pub loop-transition-init : goal.loop-transition-init
loop-transition-init c = writes_begin joins_clauses _

pub loop-transition-preserved : goal.loop-transition-preserved
loop-transition-preserved c = writes_next joins_clauses _ (otherwise_at (behavior_in c.args.model.now) _) c.loop-transition.invariant c.put_not_taken.ensures
