use Rattle.model_words.specs.Words.{model_in}
use Rattle.translate_complete.specs.Complete.{transition_rule_lem}
use Rattle.translate_complete.proofs.put_transition_rule.Goals as goal

pub put_open-requires : goal.put_open-requires
put_open-requires c = c.requires

pub put_earlier-requires : goal.put_earlier-requires
put_earlier-requires c = c.requires

pub put_transition_updates-requires : goal.put_transition_updates-requires
put_transition_updates-requires c = c.requires

pub returns : goal.returns
returns c = transition_rule_lem (model_in c.args.model.now) _ c.rule.ensures _ c.put_open.ensures c.put_earlier.ensures c.put_transition_updates.ensures
