use Rattle.listing_writer.specs.PrintLaws.{hands_back}
use Rattle.listing.specs.Parts.{model_part}
use Rattle.listing_model.proofs.steps_part.Goals as goal

pub returns : goal.returns
returns c = hands_back _ c.steps_listing-printed.ensures c.tell_printed.ensures c.part_of.ensures (model_part _ _)
