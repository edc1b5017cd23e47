use Rattle.listing_writer.specs.PrintLaws.{hands_back}
use Rattle.listing.specs.Parts.{table_part}
use Rattle.listing_table.proofs.table_part.Goals as goal

pub returns : goal.returns
returns c = hands_back _ c.table_listing-printed.ensures c.tell_printed.ensures c.part_of.ensures (table_part _ _)
