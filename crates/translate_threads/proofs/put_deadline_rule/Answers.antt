use Rattle.table_writer.specs.Lists.{joins_clauses, joins_updates}
use Rattle.translate_waits.specs.Named.{wrote_more}
use Rattle.translate_threads.specs.Bodies.{wrote_body}
use Rattle.translate_threads.proofs.put_deadline_rule.Goals as goal

pub returns : goal.returns
returns c = wrote_body _ _ _ c.rule.ensures
    (wrote_more joins_clauses _ _ c.put_state_is.ensures (wrote_more joins_clauses _ _ c.put_due_is_now.ensures (c.put_active_is.ensures)))
    (wrote_more joins_updates _ _ c.put_state.ensures (c.put_sends.ensures))
