use Rattle.table_format.specs.Variables.{active_var, state_var, dispatch_var, behavior_var, missed_var, flag_var, input_var, buffer_var, output_var, local_var}
use Rattle.model_words.specs.Words.{timing_in}
use Rattle.translate_shown.specs.Blocks.{block_is, shown_is}
use Rattle.translate_shown.proofs.is_shown.Goals as goal

pub returns : goal.returns
returns c = shown_is (timing_in c.args.model.now) _ (block_is (active_var 0) c.args.variable c.threads-threads.ensures c.in_block-8.ensures) (block_is (state_var 0) c.args.variable c.threads-threads.ensures c.in_block-9.ensures) (block_is (dispatch_var 0) c.args.variable c.threads-threads.ensures c.in_block-10.ensures) (block_is (behavior_var 0) c.args.variable c.threads-threads.ensures c.in_block-5.ensures) (block_is (missed_var 0) c.args.variable c.threads-threads.ensures c.in_block-6.ensures) (block_is (flag_var 0) c.args.variable c.connections-connections.ensures c.in_block-7.ensures) (block_is (input_var 0) c.args.variable c.inputs-inputs.ensures c.in_block.ensures) (block_is (buffer_var 0) c.args.variable c.inputs-inputs.ensures c.in_block-2.ensures) (block_is (output_var 0) c.args.variable c.outputs-outputs.ensures c.in_block-3.ensures) (block_is (local_var 0) c.args.variable c.locals-locals.ensures c.in_block-4.ensures)
