use Rattle.std.proofs.Common.{rules}
use Rattle.model_reader.specs.Walk.{read_whole, read_emptied}
use Rattle.model_reader.proofs.read_all.Goals as goal

pub read_records-refusal-requires : goal.read_records-refusal-requires
read_records-refusal-requires c = (search rules, c.clear.ensures)

pub returns-else-not-is_none : goal.returns-else-not-is_none
returns-else-not-is_none c = read_whole _ _ _ c.read_records-refusal.ensures _ c.is_none.ensures c.if-not-is_none.false

pub returns-then-not-is_none : goal.returns-then-not-is_none
returns-then-not-is_none c = read_emptied _ _ _ c.read_records-refusal.ensures _ _ c.is_none.ensures c.if-not-is_none.true c.clear-then-not-is_none.ensures
