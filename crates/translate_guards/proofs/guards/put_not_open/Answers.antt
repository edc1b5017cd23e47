use Rattle.model_words.specs.Words.{behavior_in}
use Rattle.translate_guards.specs.Guards.{earlier_written, earlier_none}
use Rattle.translate_guards.proofs.guards.put_not_open.Goals as goal

pub put_failing-requires : goal.put_failing-requires
put_failing-requires c = c.requires

pub returns-then-starts_from : goal.returns-then-starts_from
returns-then-starts_from c = earlier_written (behavior_in c.args.model.now) _ _ _ _ c.transition_at-own.ensures _ c.starts_from.ensures c.if-starts_from.true c.put_failing.ensures

pub returns-else-starts_from : goal.returns-else-starts_from
returns-else-starts_from c = earlier_none (behavior_in c.args.model.now) _ _ _ _ c.transition_at-own.ensures _ c.starts_from.ensures c.if-starts_from.false
