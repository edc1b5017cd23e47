use Rattle.std.proofs.Common.{◌∙◌, arith, ap, List}
use Rattle.table_index.specs.Index.{rules_in}
use Rattle.table_ticks.specs.Ticks.{set_back, ticks_begin, ticks_last, ticks_on, ticks_busy, ticks_end}
use Rattle.table_ticks.specs.Ticking.{later_none, later_next}
use Rattle.table_semantics.specs.Runs.{variables_of}
use Rattle.numbers.specs.declared.Value.{Value}
use Rattle.table_semantics.specs.Machine.{now_in}
use Rattle.table_rules.specs.Bits.{put_length}
use Rattle.table_ticks.specs.Copies.{later_size}
use Rattle.table_ticks.proofs.tick.Goals as goal

pub loop-tick-init : goal.loop-tick-init
loop-tick-init c = (later_none _, ticks_begin _ (variables_of c.args.bits.now) _)

pub shape_of-bits-then-is_last_clock : goal.shape_of-bits-then-is_last_clock
shape_of-bits-then-is_last_clock c = put_length c.loop-tick.bits _ 0 c.bits_of.result c.put.ensures ∙ later_size _ _ _ c.loop-tick.invariant.0

pub returns-then-is_last_clock : goal.returns-then-is_last_clock
returns-then-is_last_clock c = set_back c.args.bits.now c.loop-tick.bits _ _ _ _ _ c.loop-tick.invariant.0 c.value_in-first.ensures c.bits_of.ensures c.put.ensures ∙ ticks_last (rules_in c.args.all.table.now c.args.all.words.now c.args.all.rest) (variables_of c.args.bits.now) _ _ _ c.quiet_ticks-quiet.ensures c.loop-tick.invariant.1 c.loop-tick-test.true _ (c.value_in.ensures ∙ ap (λ (w : List Value). now_in w) c.loop-tick.invariant.0) _ c.is_last_clock.ensures c.if-is_last_clock.true

pub loop-tick-preserved : goal.loop-tick-preserved
loop-tick-preserved c = (c.advance.ensures ∙ rw c.loop-tick.invariant.0 (later_next _ _), ticks_on (rules_in c.args.all.table.now c.args.all.words.now c.args.all.rest) (variables_of c.args.bits.now) _ _ _ c.quiet_ticks-quiet.ensures c.loop-tick.invariant.1 c.loop-tick-test.true _ (c.value_in.ensures ∙ ap (λ (w : List Value). now_in w) c.loop-tick.invariant.0) _ c.is_last_clock.ensures c.if-is_last_clock.false)

pub shape_of-bits-then-quiet-n : goal.shape_of-bits-then-quiet-n
shape_of-bits-then-quiet-n c = put_length c.loop-tick.bits _ 0 c.bits_of-then-quiet-n.result c.put-then-quiet-n.ensures ∙ later_size _ _ _ c.loop-tick.invariant.0

pub returns-then-quiet-n : goal.returns-then-quiet-n
returns-then-quiet-n c = set_back c.args.bits.now c.loop-tick.bits _ _ _ _ _ c.loop-tick.invariant.0 c.value_in-first.ensures c.bits_of-then-quiet-n.ensures c.put-then-quiet-n.ensures ∙ ticks_busy (rules_in c.args.all.table.now c.args.all.words.now c.args.all.rest) (variables_of c.args.bits.now) _ _ _ c.quiet_ticks-quiet.ensures c.loop-tick.invariant.1 c.loop-tick.auto._tick-end c.loop-tick-test.false (let a = c.loop-tick.auto._tick-end in let b = c.loop-tick-test.false in let d = c.if-quiet-n.true in omega arith)

pub shape_of-bits : goal.shape_of-bits
shape_of-bits c = later_size _ _ _ c.loop-tick.invariant.0

pub returns : goal.returns
returns c = rw c.loop-tick.invariant.0 (ticks_end (rules_in c.args.all.table.now c.args.all.words.now c.args.all.rest) (variables_of c.args.bits.now) _ _ _ c.quiet_ticks-quiet.ensures c.loop-tick.invariant.1 (let a = c.loop-tick-test.false in let d = c.if-quiet-n.false in omega arith))
