use Rattle.std.proofs.Common.{refl}
use Rattle.table_writer.specs.Lists.{joins_updates}
use Rattle.translate_waits.specs.Named.{update_named, wrote_more}
use Rattle.translate_threads.proofs.put_start_updates.Goals as goal

pub returns : goal.returns
returns c = wrote_more joins_updates _ _ c.put_state.ensures (wrote_more joins_updates _ _ c.set.ensures (wrote_more joins_updates _ _ (update_named _ _ _ refl c.end_var-end.ensures refl c.chosen.ensures) (c.put_start_ports.ensures)))
