use Rattle.std.proofs.Common.{◌∙◌, arith}
use Rattle.table_index.specs.Listed.{pair_words}
use Rattle.table_search.specs.FindListed.{finds_pair, finds_all, found_other_key}
use Rattle.table_search.proofs.find_listed.Goals as goal

pub loop-pair-preserved-then-pair-key : goal.loop-pair-preserved-then-pair-key
loop-pair-preserved-then-pair-key c =
    let i = c.loop-pair.invariant in
    let s = c.in-Some.ensures.steps in
    let z = s.0 ∙ i.2 in
    let w = pair_words _ _ _ s.1.0 (s.1.1 ∙ i.2) in
    (omega arith, tt, z, finds_pair c.args.table.now _ c.args.event _ _ _ _ _ _ w _ c.found_listed-found.ensures i.3)

pub loop-pair-preserved : goal.loop-pair-preserved
loop-pair-preserved c =
    let i = c.loop-pair.invariant in
    let s = c.in-Some.ensures.steps in
    let z = s.0 ∙ i.2 in
    let w = pair_words _ _ _ s.1.0 (s.1.1 ∙ i.2) in
    (omega arith, tt, z, finds_pair c.args.table.now _ c.args.event _ _ _ _ _ _ w _ (found_other_key c.args.table.now _ c.args.event _ _ _ _ c.key_of-key.ensures c.if-pair-key.false) i.3)

pub returns : goal.returns
returns c =
    let i = c.loop-pair.invariant in
    let e = c.in-None.ensures.steps.1.0 in
    finds_all c.args.table.now _ c.args.event _ _ _ (omega arith) i.3
