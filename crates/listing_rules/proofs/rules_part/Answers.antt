use Rattle.listing_writer.specs.PrintLaws.{hands_back}
use Rattle.listing_rules.specs.Rules.{made_accepted}
use Rattle.listing.specs.Parts.{rules_part}
use Rattle.model_reader.specs.Accepted.{bytes_known}
use Rattle.listing_rules.proofs.rules_part.Goals as goal

pub returns : goal.returns
returns c = (hands_back _ c.rules_listing-printed.ensures.0 c.tell_printed.ensures c.part_of.ensures (rules_part _ _ (made_accepted _ (bytes_known c.args.model.now c.shared_slice_known-1.given))), c.rules_listing-printed.ensures.1)
