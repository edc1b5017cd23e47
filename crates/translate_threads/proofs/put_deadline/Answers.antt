use Rattle.translation.specs.Rules.{deadline_rules}
use Rattle.translate_threads.specs.Bodies.{wrote_bodies}
use Rattle.translate_threads.proofs.put_deadline.Goals as goal

pub returns : goal.returns
unfolding deadline_rules
returns c = wrote_bodies _ _ _ _ c.put_deadline_rule.ensures (c.put_deadline_rule-2.ensures)
