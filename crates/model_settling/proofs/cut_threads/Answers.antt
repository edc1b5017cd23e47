use Rattle.model_settling.specs.Settled.{threads_cut}
use Rattle.model_settling.proofs.cut_threads.Goals as goal

pub returns : goal.returns
returns c = threads_cut c.cut_items.ensures c.cut_items-2.ensures c.cut_items-3.ensures c.cut_items-4.ensures
