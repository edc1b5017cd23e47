use Rattle.std.proofs.Common.{refl, sym, ◌∙◌, arith, replicate}
use Rattle.table_format.specs.Table.{table_of}
use Rattle.table_index.specs.IndexLaws.{rules_by_made, step_by_index}
use Rattle.table_semantics.proofs.MachineLaws.{answer_of, state_of}
use Rattle.records.specs.Walk.{next_listed, tally_end, listed_taken, listed_passed}
use Rattle.table_semantics.specs.Machine.{machine_of, tally_table}
use Rattle.table_semantics.specs.Runs.{variables_of}
use Rattle.table_runs.proofs.run_on.Goals as goal

pub loop-listed-init : goal.loop-listed-init
unfolding tally_table
loop-listed-init c =
    let b = c.new-listed-items.ensures in
    rw (c.into_iter-listed-iterator.ensures.into_iter_gives, b.0, b.1) (tt, tt, refl, omega arith, omega arith, rules_by_made c.args.table.now (replicate 2050 0) _ c.list_rules.ensures.1, rw (c.all_bits-bits.ensures, c.start_variables.ensures))

pub loop-listed-preserved-then-is_none : goal.loop-listed-preserved-then-is_none
loop-listed-preserved-then-is_none c =
    let i = c.loop-listed.invariant in
    let s = c.in-Some.ensures.steps in
    let w = s.1 in
    let e = rw i.2 at w.event in
    let h = rw i.2 at w.within in
    let g = next_listed c.args.script.now _ e h in
    let a = c.step_on-answer.ensures ∙ step_by_index _ _ i.5 _ _ in (
      tt,
      tt,
      s.0 ∙ i.2,
      rw w.next g.1,
      rw w.next (omega arith),
      i.5,
      rw w.next
          (listed_taken c.args.script.now _ e (machine_of (table_of c.args.table.now).rules) (variables_of c.loop-listed.bits) h _ _ _ _ (answer_of _ _ _ _ _ a) (state_of _ _ _ _ _ a)
          (sym c.is_none.ensures ∙ c.if-is_none.true)) ∙ i.6,
    )

pub loop-listed-preserved : goal.loop-listed-preserved
loop-listed-preserved c =
    let i = c.loop-listed.invariant in
    let s = c.in-Some.ensures.steps in
    let w = s.1 in
    let e = rw i.2 at w.event in
    let h = rw i.2 at w.within in
    let g = next_listed c.args.script.now _ e h in
    let a = c.step_on-answer.ensures ∙ step_by_index _ _ i.5 _ _ in (
      tt,
      tt,
      s.0 ∙ i.2,
      rw w.next g.1,
      rw w.next (omega arith),
      i.5,
      rw w.next
          (listed_passed c.args.script.now _ e (machine_of (table_of c.args.table.now).rules) (variables_of c.loop-listed.bits) h _ _ _ _ (answer_of _ _ _ _ _ a) (state_of _ _ _ _ _ a)
          (sym c.is_none.ensures ∙ c.if-is_none.false)) ∙ i.6,
    )

pub returns : goal.returns
returns c =
    let i = c.loop-listed.invariant in
    let e = rw i.2 at c.in-None.ensures.steps.1.0 in
    rw c.variables_of.ensures (tally_end (machine_of (table_of c.args.table.now).rules) c.args.script.now _ (variables_of c.loop-listed.bits) _ _ e ∙ i.6)
