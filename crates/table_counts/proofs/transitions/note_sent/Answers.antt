use Rattle.std.proofs.Common.{◌∙◌, rules}
use Rattle.table_counts.specs.Noted.{sent_kept, sent_few, sent_next}
use Rattle.table_counts.proofs.transitions.note_sent.Goals as goal

pub returns-then-connection-ne-IMMEDIATE : goal.returns-then-connection-ne-IMMEDIATE
returns-then-connection-ne-IMMEDIATE c = sent_kept _ c.requires.0 _ c.requires.1.0 c.connection_at-connection.ensures c.requires.1.1 c.if-connection-ne-IMMEDIATE.true

pub overflow_add-sends : goal.overflow_add-sends
overflow_add-sends c = let few = sent_few _ c.requires.0 _ c.requires.1.0 c.connection_at-connection.ensures c.requires.1.1 (c.from-owner.ensures ∙ c.output_owner.ensures) c.if-connection-ne-IMMEDIATE.false in
    let e = c.item_or-sends.ensures in
    search rules

pub returns : goal.returns
returns c = sent_next _ c.requires.0 _ c.requires.1.0 c.connection_at-connection.ensures c.requires.1.1 (c.from-owner.ensures ∙ c.output_owner.ensures) c.if-connection-ne-IMMEDIATE.false c.item_or-sends.ensures c.put_item.ensures
