use Rattle.std.proofs.Common.{refl, sym, ◌∙◌, arith, replicate, ap, not}
use Rattle.table_format.specs.Table.{table_of}
use Rattle.table_index.specs.IndexLaws.{rules_by_made, step_by_index}
use Rattle.table_semantics.proofs.MachineLaws.{answer_of, state_of, refused_same}
use borrow.Author.Tests.{not-true}
use Rattle.records.specs.Walk.{next_listed, run_end, listed_on, listed_refused}
use Rattle.table_semantics.specs.Machine.{machine_of, run_table}
use Rattle.table_semantics.specs.Runs.{variables_of}
use Rattle.table_runs.proofs.run_table.Goals as goal

pub loop-at-init : goal.loop-at-init
unfolding run_table
loop-at-init c =
    let b = c.new-at-items.ensures in
    rw (c.into_iter-at-iterator.ensures.into_iter_gives, b.0, b.1) (tt, tt, refl, omega arith, omega arith, rules_by_made c.args.table.now (replicate 2050 0) _ c.list_rules.ensures.1, rw (c.all_bits-bits.ensures, c.start_variables.ensures))

pub returns-then-not-is_none : goal.returns-then-not-is_none
returns-then-not-is_none c =
    let i = c.loop-at.invariant in
    let w = c.in-Some.ensures.steps.1 in
    let e = rw i.2 at w.event in
    let h = rw i.2 at w.within in
    let a = c.step_on-answer.ensures ∙ step_by_index _ _ i.5 _ _ in
    let n = sym c.is_none.ensures ∙ not-true c.is_none.result (ap not c.if-not-is_none.true) in
    c.ended.ensures ∙ rw (c.in_script.ensures, w.start, refused_same _ _ _ _ _ a n)
    (listed_refused c.args.script.now _ e (machine_of (table_of c.args.table.now).rules) (variables_of c.loop-at.bits) h _ _ (answer_of _ _ _ _ _ a) n ∙ i.6)

pub loop-at-preserved : goal.loop-at-preserved
loop-at-preserved c =
    let i = c.loop-at.invariant in
    let s = c.in-Some.ensures.steps in
    let w = s.1 in
    let e = rw i.2 at w.event in
    let h = rw i.2 at w.within in
    let g = next_listed c.args.script.now _ e h in
    let a = c.step_on-answer.ensures ∙ step_by_index _ _ i.5 _ _ in (
      tt,
      tt,
      s.0 ∙ i.2,
      rw w.next g.1,
      rw w.next (omega arith),
      i.5,
      rw w.next
          (listed_on c.args.script.now _ e (machine_of (table_of c.args.table.now).rules) (variables_of c.loop-at.bits) h _ _ _ (answer_of _ _ _ _ _ a) (state_of _ _ _ _ _ a)
          (sym c.is_none.ensures ∙ c.if-not-is_none.false)) ∙ i.6,
    )

pub returns : goal.returns
returns c =
    let i = c.loop-at.invariant in
    let e = rw i.2 at c.in-None.ensures.steps.1.0 in
    c.ended-2.ensures ∙ rw c.no_refusal.ensures (run_end (machine_of (table_of c.args.table.now).rules) c.args.script.now _ (variables_of c.loop-at.bits) _ e ∙ i.6)
