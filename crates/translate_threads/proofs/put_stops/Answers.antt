use Rattle.translate_threads.specs.Bodies.{wrote_bodies}
use Rattle.translate_threads.proofs.put_stops.Goals as goal

pub returns : goal.returns
returns c = wrote_bodies _ _ _ _ c.put_deactivate_rule.ensures (wrote_bodies _ _ _ _ c.put_deactivate_rule-2.ensures (c.put_deactivate_rule-3.ensures))
