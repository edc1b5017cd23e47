use Rattle.std.proofs.Common.{◌-◌}
use Rattle.listing.specs.Listing.{most_digits}
use Rattle.listing.specs.LineLaws.{Digits}
use Rattle.listing.proofs.with_decimal.Given as goal

abbrev pub invariant-loop : goal.invariant-loop
invariant-loop l = Digits l.initial.out l.out l.n l.rest (most_digits - l.counter)
