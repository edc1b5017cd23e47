use Rattle.translation.specs.Rules.{dispatch_rules}
use Rattle.translate_threads.specs.Bodies.{wrote_body}
use Rattle.translate_threads.proofs.put_dispatch.Goals as goal

pub returns : goal.returns
unfolding dispatch_rules
returns c = wrote_body _ _ _ c.rule.ensures (c.put_dispatch_clauses.ensures) (c.put_dispatch_updates.ensures)
