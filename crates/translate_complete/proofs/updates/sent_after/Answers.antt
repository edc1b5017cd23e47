use Rattle.translate_complete.specs.Assigned.{sent_new, sent_old}
use Rattle.translate_complete.proofs.updates.sent_after.Goals as goal

pub assigned-requires : goal.assigned-requires
assigned-requires c = c.requires

pub returns-then-assignment-port : goal.returns-then-assignment-port
returns-then-assignment-port c = sent_new _ _ _ _ c.if-assignment-port.true c.assigned.ensures

pub returns : goal.returns
returns c = sent_old c.args.assignment c.args.port _ c.if-assignment-port.false
