use Rattle.model_words.specs.Words.{timing_in, behavior_in}
use Rattle.translate_guards.specs.NamedLaws.{none_named}
use Rattle.translate_complete.specs.Complete.{default_updates_lem}
use Rattle.translate_complete.proofs.put_default_updates.Goals as goal

pub put_sends-requires : goal.put_sends-requires
put_sends-requires c = (c.requires, none_named _ _)

pub returns : goal.returns
returns c = default_updates_lem _ (timing_in c.args.model.now) (behavior_in c.args.model.now) 0 c.put_ends.ensures c.put_sends.ensures
