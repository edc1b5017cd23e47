use Rattle.std.proofs.Common.{rules, refl, ◌∙◌}
use Rattle.table_writer.specs.WritesLaws.{writes_lent}
use Rattle.listing_writer.specs.Places.{left_begin, text_on, text_end}
use Rattle.listing_writer.proofs.put_text.Goals as goal

pub loop-byte-init : goal.loop-byte-init
loop-byte-init c = (refl, left_begin _ _ _ (search rules) (search rules))

pub loop-byte-preserved : goal.loop-byte-preserved
loop-byte-preserved c = (c.byte.ensures.lender ∙ c.loop-byte.invariant.0, text_on _ _ c.loop-byte.invariant.1 c.loop-byte-test.true c.byte.ensures.wrote)

pub returns : goal.returns
returns c =
    let l = c.loop-byte.invariant.0 in
    writes_lent {u = c.new-writer.result} {v = c.loop-byte.writer} _ c.new-writer.ensures.held c.new-writer.ensures.place (record { wrote = text_end _ _ c.loop-byte.invariant.1 c.loop-byte-test.false; lender = l }) (search rules)
