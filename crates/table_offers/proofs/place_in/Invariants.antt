use Rattle.std.proofs.Common.{◌≡◌}
use Rattle.table_offers.specs.Inserted.{place_in}
use Rattle.table_offers.proofs.place_in.Given as goal

abbrev pub invariant-loop-last : goal.invariant-loop-last
invariant-loop-last l = place_in l.output l.last l.rank ≡ place_in l.output l.count l.rank
