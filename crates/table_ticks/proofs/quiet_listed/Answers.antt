use Rattle.std.proofs.Common.{◌∙◌, arith}
use Rattle.table_index.specs.Listed.{pair_words}
use Rattle.table_ticks.specs.QuietListed.{quiet_pair, quiet_all}
use Rattle.table_ticks.proofs.quiet_listed.Goals as goal

pub loop-pair-preserved : goal.loop-pair-preserved
loop-pair-preserved c =
    let i = c.loop-pair.invariant in
    let s = c.in-Some.ensures.steps in
    let z = s.0 ∙ i.2 in
    let w = pair_words _ _ _ s.1.0 (s.1.1 ∙ i.2) in
    (omega arith, tt, z, quiet_pair c.args.table.now _ _ _ _ _ _ _ w _ c.ticks_to_listed-limit.ensures i.3)

pub returns : goal.returns
returns c =
    let i = c.loop-pair.invariant in
    let e = c.in-None.ensures.steps.1.0 in
    quiet_all c.args.table.now _ _ _ _ _ (omega arith) i.3
