use Rattle.model_words.specs.Words.{model_in}
use Rattle.translate_guards.specs.NamedLaws.{assigned_named}
use Rattle.translate_complete.specs.Complete.{updates_written}
use Rattle.translate_complete.proofs.put_transition_updates.Goals as goal

pub put_assignments-requires : goal.put_assignments-requires
put_assignments-requires c = assigned_named c.requires.0 _ c.requires.1 _ c.transition_at-own.ensures

pub put_sends-requires : goal.put_sends-requires
put_sends-requires c = (c.requires.0.timing, assigned_named c.requires.0 _ c.requires.1 _ c.transition_at-own.ensures)

pub returns : goal.returns
returns c = updates_written (model_in c.args.model.now) _ _ _ _ c.transition_at-own.ensures c.behavior_var.ensures c.put_ends.ensures c.set.ensures c.put_assignments.ensures c.put_sends.ensures
