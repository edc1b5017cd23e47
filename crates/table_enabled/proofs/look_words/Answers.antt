use Rattle.std.proofs.Common.{◌∙◌, arith}
use Rattle.table_index.specs.Listed.{listed_over, pair_words}
use Rattle.table_enabled.specs.Walk.{going_next, going_end, words_pair, pair_size, looks_guarded}
use Rattle.table_enabled.proofs.look_words.Goals as goal

pub loop-pair-preserved-then-may_hold : goal.loop-pair-preserved-then-may_hold
loop-pair-preserved-then-may_hold c =
    let i = c.loop-pair.invariant in
    let s = c.in-Some.ensures.steps in
    let z = s.0 ∙ i.2 in
    let w = pair_words _ _ _ s.1.0 (s.1.1 ∙ i.2) in
    let n = pair_size _ _ _ w in
    let m = i.3 in
    let r = c.look_listed-seen.ensures.0 in
    (omega arith, tt, z, omega arith, going_next _ _ _ _ _ _ _ _ _ _ _ (words_pair c.args.table.now _ _ _ w) i.4 c.look_listed-seen.ensures.1)

pub loop-pair-preserved : goal.loop-pair-preserved
loop-pair-preserved c =
    let i = c.loop-pair.invariant in
    let s = c.in-Some.ensures.steps in
    let z = s.0 ∙ i.2 in
    let w = pair_words _ _ _ s.1.0 (s.1.1 ∙ i.2) in
    let n = pair_size _ _ _ w in
    let m = i.3 in (
      omega arith,
      tt,
      z,
      omega arith,
      going_next _ _ _ _ _ _ _ _ _ _ _ (words_pair c.args.table.now _ _ _ w) i.4
          (looks_guarded c.args.table.now _ _ _ _ _ _ c.may_hold.ensures c.if-may_hold.false).1,
    )

pub returns : goal.returns
returns c =
    let i = c.loop-pair.invariant in
    let e = c.in-None.ensures.steps.1.0 in
    let m = i.3 in
    (omega arith, going_end _ _ _ _ _ _ _ (listed_over c.args.table.now _ 0 (omega arith)) i.4)
