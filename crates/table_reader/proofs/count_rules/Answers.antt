use Rattle.std.proofs.Common.{◌∙◌, arith, rules}
use Rattle.table_reader.specs.Steps.{step_place}
use Rattle.table_reader.specs.Counted.{count_fits, count_on, count_end_lem}
use Rattle.table_reader.proofs.count_rules.Goals as goal

pub loop-at-init : goal.loop-at-init
loop-at-init c = (search rules, search rules, omega arith)

pub overflow_add-count : goal.overflow_add-count
overflow_add-count c =
    let p = step_place c.args.table.now _ _ c.loop-at-test.true c.step_at-step.ensures in
    let m = count_fits c.args.table.now _ _ _ c.loop-at-test.true c.step_at-step.ensures c.rules_in-count.ensures in
    record { fits = omega arith }

pub loop-at-smaller : goal.loop-at-smaller
loop-at-smaller c = let p = step_place c.args.table.now _ _ c.loop-at-test.true c.step_at-step.ensures in omega arith

pub loop-at-preserved : goal.loop-at-preserved
loop-at-preserved c =
    let p = step_place c.args.table.now _ _ c.loop-at-test.true c.step_at-step.ensures in
    let m = count_fits c.args.table.now _ _ _ c.loop-at-test.true c.step_at-step.ensures c.rules_in-count.ensures in
    (p.1, omega arith, count_on c.args.table.now _ _ _ c.loop-at-test.true c.step_at-step.ensures c.rules_in-count.ensures _ ∙ c.loop-at.invariant.2)

pub returns : goal.returns
returns c = count_end_lem c.args.table.now _ _ c.loop-at-test.false ∙ c.loop-at.invariant.2
