use Rattle.std.proofs.Common.{sym, ap, not}
use Rattle.model_tests.specs.TestLaws.{calm_by}
use Rattle.model_tests.proofs.modes.acts.Goals as goal

pub returns-then-not-may_act : goal.returns-then-not-may_act
returns-then-not-may_act c = sym (calm_by _ _ _ _ _ _ _ c.requires c.thread_at.ensures c.job_of.ensures c.may_act.ensures (ap not c.if-not-may_act.true))
