use Rattle.translation.specs.Shown.{stands_for}
use Rattle.model_words.specs.Words.{timing_in}
use Rattle.model_state.specs.Words.{state_in}
use Rattle.translate_starts.specs.Starts.{start_same, starts_skip}
use Rattle.table_writer.specs.Lists.{joins_initial}
use Rattle.table_writer.specs.WritesLaws.{writes_begin, writes_next, writes_end}
use Rattle.std.proofs.Common.{arith}
use Rattle.translate_starts.proofs.put_starts.Goals as goal

pub loop-variable-init : goal.loop-variable-init
loop-variable-init c = (omega arith, writes_begin joins_initial _)

pub loop-variable-preserved-then-is_shown : goal.loop-variable-preserved-then-is_shown
loop-variable-preserved-then-is_shown c = (omega arith, writes_next joins_initial _ _ c.loop-variable.invariant.1 (start_same _ c.shown-value.result (stands_for (timing_in c.args.model.now) (state_in c.args.state.now) _) (record { bits = c.shown-value.ensures }) c.put_start.ensures))

pub loop-variable-preserved : goal.loop-variable-preserved
loop-variable-preserved c = (omega arith, starts_skip (timing_in c.args.model.now) (state_in c.args.state.now) _ _ c.is_shown.ensures c.if-is_shown.false c.loop-variable.invariant.1)

pub returns : goal.returns
returns c = writes_end joins_initial _ _ _ c.loop-variable.invariant.0 c.loop-variable-test.false c.loop-variable.invariant.1
