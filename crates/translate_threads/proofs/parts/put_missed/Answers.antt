use Rattle.std.proofs.Common.{refl}
use Rattle.table_writer.specs.Lists.{joins_updates}
use Rattle.translate_waits.specs.Named.{same_variable, update_named, wrote_more}
use Rattle.translate_threads.proofs.parts.put_missed.Goals as goal

pub returns : goal.returns
returns c = wrote_more joins_updates _ _
    c.put_state.ensures
    (update_named _ _ _ refl c.missed_var-missed.ensures (same_variable c.missed_var-missed.ensures) c.sum.ensures)
