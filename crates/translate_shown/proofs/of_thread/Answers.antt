use Rattle.translation.specs.Shown.{blocks_of, shown_in}
use Rattle.table_format.specs.Variables.{active_var, state_var, dispatch_var}
use Rattle.model_semantics.specs.State.{is_active, code_of, dispatch_time}
use Rattle.model_state.specs.Words.{state_in}
use Rattle.translate_shown.specs.Blocks.{block_is, count_shown_lem, mark_shown, time_shown, shown_here, shown_on}
use Rattle.translate_shown.proofs.of_thread.Goals as goal

pub returns-then-in_block : goal.returns-then-in_block
unfolding shown_in blocks_of
returns-then-in_block c = shown_here (block_is (active_var 0) c.args.variable c.threads.ensures c.in_block.ensures) _ c.if-in_block.true (mark_shown c.item_of.ensures (is_active (state_in c.args.state.now)) c.is_active.ensures c.mark.ensures)

pub returns-then-in_block-2 : goal.returns-then-in_block-2
unfolding shown_in blocks_of
returns-then-in_block-2 c = shown_on (block_is (active_var 0) c.args.variable c.threads.ensures c.in_block.ensures) _ c.if-in_block.false (shown_here (block_is (state_var 0) c.args.variable c.threads-2.ensures c.in_block-2.ensures) _ c.if-in_block-2.true (count_shown_lem c.item_of-then-in_block-2.ensures (code_of (state_in c.args.state.now)) c.code_of.ensures c.count.ensures))

pub returns-then-in_block-3 : goal.returns-then-in_block-3
unfolding shown_in blocks_of
returns-then-in_block-3 c = shown_on (block_is (active_var 0) c.args.variable c.threads.ensures c.in_block.ensures) _ c.if-in_block.false (shown_on (block_is (state_var 0) c.args.variable c.threads-2.ensures c.in_block-2.ensures) _ c.if-in_block-2.false (shown_here (block_is (dispatch_var 0) c.args.variable c.threads-3.ensures c.in_block-3.ensures) _ c.if-in_block-3.true (time_shown c.item_of-then-in_block-3.ensures (dispatch_time (state_in c.args.state.now)) c.dispatch_time-time.ensures c.count-then-in_block-3.ensures)))

pub returns : goal.returns
unfolding shown_in blocks_of
returns c = shown_on (block_is (active_var 0) c.args.variable c.threads.ensures c.in_block.ensures) _ c.if-in_block.false (shown_on (block_is (state_var 0) c.args.variable c.threads-2.ensures c.in_block-2.ensures) _ c.if-in_block-2.false (shown_on (block_is (dispatch_var 0) c.args.variable c.threads-3.ensures c.in_block-3.ensures) _ c.if-in_block-3.false c.of_count.ensures))
