use Rattle.translation.specs.Shown.{blocks_of, shown_in}
use Rattle.table_format.specs.Variables.{input_var, buffer_var, output_var, local_var}
use Rattle.model_semantics.specs.State.{input_value, buffer_value, output_value, local_value}
use Rattle.model_state.specs.Words.{state_in}
use Rattle.translate_shown.specs.Blocks.{block_is, value_shown, shown_here, shown_on, same_value_lem}
use mathlib.Core.Path.{refl}
use Rattle.translate_shown.proofs.of_port.Goals as goal

pub returns-then-in_block : goal.returns-then-in_block
unfolding shown_in blocks_of
returns-then-in_block c = shown_here (block_is (input_var 0) c.args.variable c.inputs.ensures c.in_block.ensures) _ c.if-in_block.true (value_shown c.item_of.ensures (input_value (state_in c.args.state.now).ports) c.input_value.ensures)

pub returns-then-in_block-2 : goal.returns-then-in_block-2
unfolding shown_in blocks_of
returns-then-in_block-2 c = shown_on (block_is (input_var 0) c.args.variable c.inputs.ensures c.in_block.ensures) _ c.if-in_block.false (shown_here (block_is (buffer_var 0) c.args.variable c.inputs-2.ensures c.in_block-2.ensures) _ c.if-in_block-2.true (value_shown c.item_of-then-in_block-2.ensures (buffer_value (state_in c.args.state.now).ports) c.buffer_value.ensures))

pub returns-then-in_block-3 : goal.returns-then-in_block-3
unfolding shown_in blocks_of
returns-then-in_block-3 c = shown_on (block_is (input_var 0) c.args.variable c.inputs.ensures c.in_block.ensures) _ c.if-in_block.false (shown_on (block_is (buffer_var 0) c.args.variable c.inputs-2.ensures c.in_block-2.ensures) _ c.if-in_block-2.false (shown_here (block_is (output_var 0) c.args.variable c.outputs.ensures c.in_block-3.ensures) _ c.if-in_block-3.true (value_shown c.item_of-then-in_block-3.ensures (output_value (state_in c.args.state.now).ports) c.output_value.ensures)))

pub returns-then-in_block-4 : goal.returns-then-in_block-4
unfolding shown_in blocks_of
returns-then-in_block-4 c = shown_on (block_is (input_var 0) c.args.variable c.inputs.ensures c.in_block.ensures) _ c.if-in_block.false (shown_on (block_is (buffer_var 0) c.args.variable c.inputs-2.ensures c.in_block-2.ensures) _ c.if-in_block-2.false (shown_on (block_is (output_var 0) c.args.variable c.outputs.ensures c.in_block-3.ensures) _ c.if-in_block-3.false (shown_here (block_is (local_var 0) c.args.variable c.locals.ensures c.in_block-4.ensures) _ c.if-in_block-4.true (value_shown c.item_of-then-in_block-4.ensures (local_value (state_in c.args.state.now).ports) c.local_value.ensures))))

pub returns : goal.returns
unfolding shown_in blocks_of
returns c = shown_on (block_is (input_var 0) c.args.variable c.inputs.ensures c.in_block.ensures) _ c.if-in_block.false (shown_on (block_is (buffer_var 0) c.args.variable c.inputs-2.ensures c.in_block-2.ensures) _ c.if-in_block-2.false (shown_on (block_is (output_var 0) c.args.variable c.outputs.ensures c.in_block-3.ensures) _ c.if-in_block-3.false (shown_on (block_is (local_var 0) c.args.variable c.locals.ensures c.in_block-4.ensures) _ c.if-in_block-4.false (same_value_lem refl))))
