use borrow.Author.Rules.{rules}
use Rattle.listing.specs.Lines.{text_of}
use Rattle.listing.proofs.empty_line.Goals as goal

pub returns : goal.returns
unfolding text_of
returns c = search rules
