use Rattle.translation.specs.Rules.{activate_rules}
use Rattle.table_writer.specs.Lists.{joins_clauses}
use Rattle.translate_waits.specs.Named.{wrote_more}
use Rattle.translate_threads.specs.Bodies.{wrote_body}
use Rattle.translate_threads.proofs.put_activate.Goals as goal

pub returns : goal.returns
unfolding activate_rules
returns c = wrote_body _ _ _ c.rule.ensures
    (wrote_more joins_clauses _ _ c.put_active_is.ensures (c.put_state_is.ensures))
    (c.put_state.ensures)
