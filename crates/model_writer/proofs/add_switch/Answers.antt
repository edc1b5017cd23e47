use Rattle.std.proofs.Common.{refl, rules}
use Rattle.model_writer.specs.Added.{switch_added}
use Rattle.model_writer.proofs.add_switch.Goals as goal

pub returns : goal.returns
returns c = switch_added c.args.model.now _ _ _ _ _ _ _ refl c.requires.hyperperiods c.switches-count.ensures c.put_switch.ensures c.put_count.ensures (search rules)
