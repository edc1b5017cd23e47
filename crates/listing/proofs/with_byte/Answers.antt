use borrow.Author.Rules.{rules}
use Rattle.listing.specs.LineLaws.{byte_written}
use Rattle.listing.proofs.with_byte.Goals as goal

pub returns : goal.returns
returns c = byte_written _ (search rules) _ c.requires
