use Rattle.translation.specs.Rules.{start_rules}
use Rattle.translate_threads.specs.Bodies.{wrote_body}
use Rattle.translate_threads.proofs.put_start.Goals as goal

pub returns : goal.returns
unfolding start_rules
returns c = rw (← c.thread_at-own.ensures) (wrote_body _ _ _ c.rule.ensures (c.put_start_clauses.ensures) (c.put_start_updates.ensures))
