use Rattle.translation.specs.Shown.{blocks_of, shown_in}
use Rattle.table_format.specs.Variables.{behavior_var, missed_var, flag_var}
use Rattle.model_semantics.specs.State.{behavior_of, missed_of, is_live}
use Rattle.model_state.specs.Words.{state_in}
use Rattle.translate_shown.specs.Blocks.{block_is, count_shown_lem, mark_shown, shown_here, shown_on}
use Rattle.translate_shown.proofs.of_count.Goals as goal

pub returns-then-in_block : goal.returns-then-in_block
unfolding shown_in blocks_of
returns-then-in_block c = shown_here (block_is (behavior_var 0) c.args.variable c.threads.ensures c.in_block.ensures) _ c.if-in_block.true (count_shown_lem c.item_of.ensures (behavior_of (state_in c.args.state.now)) c.behavior_of.ensures c.count.ensures)

pub returns-then-in_block-2 : goal.returns-then-in_block-2
unfolding shown_in blocks_of
returns-then-in_block-2 c = shown_on (block_is (behavior_var 0) c.args.variable c.threads.ensures c.in_block.ensures) _ c.if-in_block.false (shown_here (block_is (missed_var 0) c.args.variable c.threads-2.ensures c.in_block-2.ensures) _ c.if-in_block-2.true (count_shown_lem c.item_of-then-in_block-2.ensures (missed_of (state_in c.args.state.now)) c.missed_of.ensures c.count-then-in_block-2.ensures))

pub returns-then-in_block-3 : goal.returns-then-in_block-3
unfolding shown_in blocks_of
returns-then-in_block-3 c = shown_on (block_is (behavior_var 0) c.args.variable c.threads.ensures c.in_block.ensures) _ c.if-in_block.false (shown_on (block_is (missed_var 0) c.args.variable c.threads-2.ensures c.in_block-2.ensures) _ c.if-in_block-2.false (shown_here (block_is (flag_var 0) c.args.variable c.connections.ensures c.in_block-3.ensures) _ c.if-in_block-3.true (mark_shown c.item_of-then-in_block-3.ensures (is_live (state_in c.args.state.now)) c.is_live.ensures c.mark.ensures)))

pub returns : goal.returns
unfolding shown_in blocks_of
returns c = shown_on (block_is (behavior_var 0) c.args.variable c.threads.ensures c.in_block.ensures) _ c.if-in_block.false (shown_on (block_is (missed_var 0) c.args.variable c.threads-2.ensures c.in_block-2.ensures) _ c.if-in_block-2.false (shown_on (block_is (flag_var 0) c.args.variable c.connections.ensures c.in_block-3.ensures) _ c.if-in_block-3.false c.of_port.ensures))
