use Rattle.table_writer.specs.Lists.{joins_clauses}
use Rattle.translate_waits.specs.Named.{wrote_more}
use Rattle.translate_threads.proofs.put_dispatch_clauses.Goals as goal

pub returns : goal.returns
returns c = rw (← c.thread_at-own.ensures) (wrote_more joins_clauses _ _ c.put_state_is.ensures (wrote_more joins_clauses _ _ c.put_active_is.ensures (wrote_more joins_clauses _ _ c.multiple.ensures (c.put_delayed_waits.ensures))))
