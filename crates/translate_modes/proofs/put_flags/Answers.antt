use Rattle.model_words.specs.Words.{timing_in}
use Rattle.table_writer.specs.Lists.{joins_updates}
use Rattle.table_writer.specs.WritesLaws.{writes_begin, writes_next}
use Rattle.translation.specs.Rules.{flag_update}
use Rattle.translate_modes.proofs.put_flags.Goals as goal

pub loop-connection-init : goal.loop-connection-init
loop-connection-init c = writes_begin joins_updates _

pub loop-connection-preserved : goal.loop-connection-preserved
loop-connection-preserved c = writes_next joins_updates _ (flag_update (timing_in c.args.model.now) c.args.old c.args.new) c.loop-connection.invariant c.put_flag.ensures
