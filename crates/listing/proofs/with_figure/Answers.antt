use Rattle.listing.specs.LineLaws.{figure_written}
use Rattle.listing.proofs.with_figure.Goals as goal

pub returns : goal.returns
returns c = figure_written _ _ c.with_byte.ensures c.with_decimal.ensures
