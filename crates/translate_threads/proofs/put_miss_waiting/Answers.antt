use Rattle.table_writer.specs.Lists.{joins_clauses}
use Rattle.translate_waits.specs.Named.{wrote_more}
use Rattle.translate_threads.specs.Bodies.{wrote_body}
use Rattle.translate_threads.proofs.put_miss_waiting.Goals as goal

pub returns : goal.returns
returns c = wrote_body _ _ _ c.rule.ensures
    (wrote_more joins_clauses _ _ c.put_state_is.ensures (wrote_more joins_clauses _ _ c.put_active_is.ensures (c.put_due_is_now.ensures)))
    (c.put_missed.ensures)
