use Rattle.model_words.specs.Words.{model_in}
use Rattle.translate_complete.specs.Complete.{default_rule_lem}
use Rattle.translate_complete.proofs.put_default_rule.Goals as goal

pub put_default_clauses-requires : goal.put_default_clauses-requires
put_default_clauses-requires c = c.requires

pub put_default_updates-requires : goal.put_default_updates-requires
put_default_updates-requires c = c.requires.timing

pub returns : goal.returns
returns c = default_rule_lem (model_in c.args.model.now) _ c.rule.ensures c.put_default_clauses.ensures c.put_default_updates.ensures
