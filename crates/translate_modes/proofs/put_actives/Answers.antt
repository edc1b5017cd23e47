use Rattle.model_words.specs.Words.{timing_in}
use Rattle.table_writer.specs.Lists.{joins_updates}
use Rattle.table_writer.specs.WritesLaws.{writes_begin, writes_next}
use Rattle.translation.specs.Rules.{active_update}
use Rattle.translate_modes.proofs.put_actives.Goals as goal

pub loop-thread-init : goal.loop-thread-init
loop-thread-init c = writes_begin joins_updates _

pub loop-thread-preserved : goal.loop-thread-preserved
loop-thread-preserved c = writes_next joins_updates _ (active_update (timing_in c.args.model.now) c.args.mode) c.loop-thread.invariant c.put_active.ensures
