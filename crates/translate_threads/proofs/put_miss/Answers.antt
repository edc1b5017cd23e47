use Rattle.translation.specs.Rules.{miss_rules}
use Rattle.translate_threads.specs.Bodies.{wrote_bodies}
use Rattle.translate_threads.proofs.put_miss.Goals as goal

pub returns : goal.returns
unfolding miss_rules
returns c = wrote_bodies _ _ _ _ c.put_miss_waiting.ensures (wrote_bodies _ _ _ _ c.put_miss_waiting-2.ensures (wrote_bodies _ _ _ _ c.put_miss_running.ensures (c.put_miss_running-2.ensures)))
