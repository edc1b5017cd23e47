use Rattle.std.proofs.Common.{◌≡◌, ◌∙◌, ◌+◌, ◌-◌, arith}
use Rattle.table_offers.specs.Inserted.{place_stop, place_down, place_none}
use Rattle.table_offers.proofs.place_in.Goals as goal

pub returns-then-rank_at-rank : goal.returns-then-rank_at-rank
returns-then-rank_at-rank c =
    let l = c.loop-last-test.true in
    let e : c.loop-last.last - 1 + 1 ≡ c.loop-last.last = omega arith in
    e ∙ place_stop c.args.output.now c.args.rank c.loop-last.last _ l c.rank_at.ensures c.if-rank_at-rank.true ∙ c.loop-last.invariant

pub loop-last-preserved : goal.loop-last-preserved
loop-last-preserved c = place_down c.args.output.now c.args.rank c.loop-last.last _ c.loop-last-test.true c.rank_at.ensures c.if-rank_at-rank.false ∙ c.loop-last.invariant

pub returns : goal.returns
returns c = place_none c.args.output.now c.args.rank c.loop-last.last (let l = c.loop-last-test.false in omega arith) ∙ c.loop-last.invariant
