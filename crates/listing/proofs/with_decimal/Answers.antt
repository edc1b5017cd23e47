use Rattle.std.proofs.Common.{rules, arith, ◌≡◌, ◌+◌, ◌-◌, ◌<◌, ◌≤◌, ℕ}
use Rattle.listing.specs.Listing.{most_digits}
use Rattle.listing.specs.LineLaws.{digits_begin, digits_on, digits_last, digits_end}
use Rattle.listing.proofs.with_decimal.Goals as goal

pub loop-init : goal.loop-init
loop-init c = digits_begin _ _ (search rules)

pub with_byte-out-requires : goal.with_byte-out-requires
with_byte-out-requires c = let h = c.loop-test.true in record { padded = c.loop.invariant.room.padded; left = omega (arith, c.loop.invariant.room.left) }

pub returns-then-rest-lt10 : goal.returns-then-rest-lt10
returns-then-rest-lt10 c = let h = c.loop-test.true in digits_last c.loop.invariant (omega arith) c.digit.ensures c.with_byte-out.ensures c.if-rest-lt10.true

pub loop-preserved : goal.loop-preserved
loop-preserved c =
    let h = c.loop-test.true in
    let e : most_digits - (c.loop.counter + 1) ≡ most_digits - c.loop.counter - 1 = omega arith in
    rw e (digits_on c.loop.invariant (omega arith) c.digit.ensures c.with_byte-out.ensures c.if-rest-lt10.false)

pub returns : goal.returns
returns c = let h = c.loop-test.false in digits_end c.loop.invariant (omega arith)
