use Rattle.table_index.specs.IndexLaws.{room_none, room_few, room_some}
use Rattle.table_index.proofs.room_for.Goals as goal

pub returns-then-table-gt-LONGEST_TABLE : goal.returns-then-table-gt-LONGEST_TABLE
returns-then-table-gt-LONGEST_TABLE c = room_none c.args.table.now _ c.if-table-gt-LONGEST_TABLE.true

pub returns-then-size-lt-WORDS : goal.returns-then-size-lt-WORDS
returns-then-size-lt-WORDS c = room_few c.args.table.now _ c.if-table-gt-LONGEST_TABLE.false c.if-size-lt-WORDS.true

pub returns : goal.returns
returns c = room_some c.args.table.now _ c.if-table-gt-LONGEST_TABLE.false
