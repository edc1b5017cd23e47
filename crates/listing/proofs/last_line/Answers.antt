use borrow.Author.Rules.{rules}
use Rattle.listing.specs.LineLaws.{last_written}
use Rattle.listing.proofs.last_line.Goals as goal

pub returns : goal.returns
returns c = (last_written _ _ _ _ c.number_of-number.ensures c.empty_line.ensures.0 c.with_figure-text.ensures c.with_figure-text-2.ensures c.with_figure.ensures c.with_byte-text.ensures c.with_byte.ensures c.with_byte-2.ensures c.with_byte-3.ensures, search rules)
