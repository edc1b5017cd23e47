use Rattle.model_state.specs.Words.{byte_in}
use Rattle.state_settling.specs.Passes.{settled_mark, each_mapped}
use Rattle.state_settling.specs.Settled.{state_settled}
use Rattle.state_settling.proofs.settle_state.Goals as goal

pub returns : goal.returns
returns c = state_settled c.args.state.now _ _ _ _ _ c.requires c.slice_known-1.given (each_mapped byte_in c.settle_each.ensures) (each_mapped settled_mark c.settle_each-2.ensures) (each_mapped byte_in c.settle_each-3.ensures) (each_mapped byte_in c.settle_each-4.ensures) (each_mapped settled_mark c.settle_each-5.ensures)
