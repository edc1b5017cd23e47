use Rattle.std.proofs.Common.{arith}
use Rattle.model_state.specs.Words.{state_in}
use Rattle.model_words.specs.Words.{timing_in}
use Rattle.model_enabled.specs.Walks.{loop_start, loop_on}
use Rattle.model_enabled.specs.Counts.{kinds_within, kinds_over}
use Rattle.model_enabled.proofs.put_events.Goals as goal

pub loop-k-init : goal.loop-k-init
loop-k-init c = loop_start _

pub put_kind-n-requires : goal.put_kind-n-requires
put_kind-n-requires c = (omega arith, kinds_within (timing_in c.args.model.now) (state_in c.args.state.now) _ c.loop-k-test.true c.loop-k.invariant)

pub loop-k-preserved : goal.loop-k-preserved
loop-k-preserved c = loop_on _ c.loop-k.invariant c.put_kind-n.ensures

pub returns : goal.returns
returns c = kinds_over (timing_in c.args.model.now) (state_in c.args.state.now) _ (omega arith) (omega arith) c.loop-k.invariant
