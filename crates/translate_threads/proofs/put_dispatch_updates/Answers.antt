use Rattle.std.proofs.Common.{refl}
use Rattle.table_writer.specs.Lists.{joins_updates}
use Rattle.translate_waits.specs.Named.{update_named, wrote_more}
use Rattle.translate_threads.proofs.put_dispatch_updates.Goals as goal

pub returns : goal.returns
returns c = rw (← c.thread_at-own.ensures) (wrote_more joins_updates _ _ c.put_state.ensures (wrote_more joins_updates _ _ (update_named _ _ _ refl c.dispatch_var-dispatch.ensures refl c.copy.ensures) (wrote_more joins_updates _ _ (update_named _ _ _ refl c.due_var-due.ensures refl c.sum.ensures) (c.put_dispatch_ports.ensures))))
