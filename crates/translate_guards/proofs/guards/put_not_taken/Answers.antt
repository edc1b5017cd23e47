use Rattle.model_words.specs.Words.{behavior_in}
use Rattle.translate_guards.specs.Guards.{otherwise_written, otherwise_none}
use Rattle.translate_guards.proofs.guards.put_not_taken.Goals as goal

pub put_shut-requires : goal.put_shut-requires
put_shut-requires c = c.requires

pub returns-then-own-thread : goal.returns-then-own-thread
returns-then-own-thread c = otherwise_written (behavior_in c.args.model.now) _ _ _ c.transition_at-own.ensures c.if-own-thread.true c.put_shut.ensures

pub returns-else-own-thread : goal.returns-else-own-thread
returns-else-own-thread c = otherwise_none (behavior_in c.args.model.now) _ _ _ c.transition_at-own.ensures c.if-own-thread.false
