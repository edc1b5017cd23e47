use Rattle.std.proofs.Common.{◌≡◌, drop}
use Rattle.listing_writer.specs.Places.{Left}
use Rattle.listing_writer.proofs.put_text.Given as goal

abbrev pub invariant-loop-byte : goal.invariant-loop-byte
invariant-loop-byte l = (l.writer.bytes.ghost_name ≡ l.initial.writer.bytes.ghost_name)
    × Left l.initial.writer.bytes.now l.initial.writer.at l.text l.writer.bytes.now l.writer.at (drop l.byte-index l.text)
