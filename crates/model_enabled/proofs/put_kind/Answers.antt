use Rattle.std.proofs.Common.{arith}
use Rattle.model_state.specs.Words.{state_in}
use Rattle.model_words.specs.Words.{timing_in}
use Rattle.model_enabled.specs.Walks.{loop_start, loop_on}
use Rattle.model_enabled.specs.Counts.{ids_within, kind_over}
use Rattle.model_enabled.proofs.put_kind.Goals as goal

pub loop-i-init : goal.loop-i-init
loop-i-init c = loop_start _

pub put_event-n-requires : goal.put_event-n-requires
put_event-n-requires c = ids_within (timing_in c.args.model.now) (state_in c.args.state.now) c.args.kind _ c.requires.1 (let e = c.items_of-items.ensures in let l = c.loop-i-test.true in omega arith) c.loop-i.invariant

pub loop-i-preserved : goal.loop-i-preserved
loop-i-preserved c = loop_on _ c.loop-i.invariant c.put_event-n.ensures

pub returns : goal.returns
returns c = kind_over (timing_in c.args.model.now) (state_in c.args.state.now) c.args.kind _ _ c.requires.0 c.items_of-items.ensures (omega arith) (omega arith) c.loop-i.invariant
