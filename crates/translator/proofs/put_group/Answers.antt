use Rattle.std.proofs.Common.{rules}
use Rattle.model_words.specs.Words.{timing_in}
use Rattle.table_writer.specs.Lists.{joins_rules}
use Rattle.table_writer.specs.WritesLaws.{writes_begin, writes_next}
use Rattle.translator.specs.Groups.{items_few}
use Rattle.translator.proofs.put_group.Goals as goal

pub loop-item-init : goal.loop-item-init
loop-item-init c = writes_begin joins_rules _

pub overflow_cast-item : goal.overflow_cast-item
overflow_cast-item c = let k = items_few (timing_in c.args.words.now) c.args.kind c.requires in let e = c.items_of-item-end.ensures in let l = c.loop-item-test.true in search rules

pub loop-item-preserved : goal.loop-item-preserved
loop-item-preserved c = writes_next joins_rules _ _ c.loop-item.invariant c.put_item.ensures
