use Rattle.std.proofs.Common.{◌∙◌}
use Rattle.table_format.specs.Format.{update_of}
use Rattle.table_updates.specs.Applied.{update_left, update_past_again, update_past, update_twice, update_full, update_held}
use Rattle.table_updates.proofs.gather_update.Goals as goal

pub returns-then-not-applies : goal.returns-then-not-applies
returns-then-not-applies c = update_left _ _ (update_of c.args.part.now) _ c.applies.ensures _ _ _ _ c.if-not-applies.true

pub returns-then-is_written : goal.returns-then-is_written
returns-then-is_written c = update_past_again _ _ (update_of c.args.part.now) _ c.applies.ensures _ _ _ _ c.if-not-applies.false _ c.target_of-target.ensures c.if-target-ge-VARIABLES.true c.requires _ (c.is_written.ensures _) c.if-is_written.true

pub returns-then-target-ge-VARIABLES : goal.returns-then-target-ge-VARIABLES
returns-then-target-ge-VARIABLES c = update_past _ _ (update_of c.args.part.now) _ c.applies.ensures _ _ _ _ c.if-not-applies.false _ c.target_of-target.ensures c.if-target-ge-VARIABLES.true c.requires _ (c.is_written.ensures _) c.if-is_written.false

pub returns-then-mark : goal.returns-then-mark
returns-then-mark c = update_twice _ _ (update_of c.args.part.now) _ c.applies.ensures _ _ _ _ c.if-not-applies.false _ c.target_of-target.ensures c.if-target-ge-VARIABLES.false c.requires _ c.mark.ensures.0 _ c.mark.ensures.1 c.if-mark.true

pub returns-then-held-count : goal.returns-then-held-count
returns-then-held-count c = update_full _ _ (update_of c.args.part.now) _ c.applies.ensures _ _ _ _ c.if-not-applies.false _ c.target_of-target.ensures c.if-target-ge-VARIABLES.false c.requires _ c.mark.ensures.0 _ c.mark.ensures.1 c.if-mark.false c.if-held-count.true

pub returns : goal.returns
returns c = update_held _ _ (update_of c.args.part.now) _ c.applies.ensures _ _ _ _ c.if-not-applies.false _ c.target_of-target.ensures c.if-target-ge-VARIABLES.false c.requires _ c.mark.ensures.0 _ c.mark.ensures.1 c.if-mark.false c.if-held-count.false _ (c.bits_of.ensures ∙ c.new_value.ensures)
