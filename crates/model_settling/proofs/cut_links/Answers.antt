use Rattle.model_settling.specs.Settled.{links_cut}
use Rattle.model_settling.proofs.cut_links.Goals as goal

pub returns : goal.returns
returns c = links_cut c.cut_items.ensures c.cut_items-2.ensures c.cut_items-3.ensures
