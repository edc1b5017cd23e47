use Rattle.std.proofs.Common.{sym, ◌∙◌, arith}
use Rattle.table_counts.specs.Noted.{sent_all}
use Rattle.table_counts.proofs.transitions.list_sent.Goals as goal

pub note_sent-requires : goal.note_sent-requires
note_sent-requires c = let e = c.connections-c-end.ensures in let l = c.loop-c-test.true in (c.requires.0, (omega arith, c.loop-c.invariant))

pub shape_of-sent : goal.shape_of-sent
shape_of-sent c = c.loop-c.invariant.size ∙ sym c.requires.1.size

pub returns : goal.returns
returns c = let e = c.connections-c-end.ensures in
    let l = c.loop-c-test.false in
    sent_all _ _ (omega arith) c.loop-c.invariant
