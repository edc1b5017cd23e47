use borrow.Author.Rules.{rules}
use Rattle.listing.specs.LineLaws.{line_written}
use Rattle.listing.proofs.event_line.Goals as goal

pub returns : goal.returns
returns c = (line_written _ _ _ _ c.figure_of-figure.ensures c.empty_line.ensures.0 c.with_figure-text.ensures c.with_figure-text-2.ensures c.with_figure-text-3.ensures c.with_figure.ensures, search rules)
