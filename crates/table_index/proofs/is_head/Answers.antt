use Rattle.table_index.specs.IndexLaws.{short_no_head, past_no_head, head_by_kind}
use Rattle.table_index.proofs.is_head.Goals as goal

pub returns-then-table-lt-RULE_SIZE : goal.returns-then-table-lt-RULE_SIZE
returns-then-table-lt-RULE_SIZE c = short_no_head c.args.table.now _ c.if-table-lt-RULE_SIZE.true

pub returns-then-table-at : goal.returns-then-table-at
returns-then-table-at c = past_no_head c.args.table.now _ c.if-table-lt-RULE_SIZE.false c.if-table-at.true

pub returns : goal.returns
returns c = head_by_kind c.args.table.now _ c.if-table-lt-RULE_SIZE.false c.if-table-at.false
