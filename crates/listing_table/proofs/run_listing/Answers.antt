use Rattle.std.proofs.Common.{rules, sym, ap, ◌∙◌, ◌≡◌, ℕ, replicate}
use Rattle.table_semantics.specs.Machine.{clock_of, run_table}
use Rattle.table_semantics.proofs.MachineLaws.{answer_of, state_of, refused_same}
use Rattle.table_index.specs.IndexLaws.{rules_by_made, step_by_index}
use Rattle.listing_writer.specs.Runs.{run_begin, run_on, run_refused, run_end}
use Rattle.listing_table.proofs.run_listing.Goals as goal

pub loop-at-init : goal.loop-at-init
unfolding run_table
loop-at-init c =
    let z : ◌≡◌ {A = ℕ} c.into_iter-at-iterator.result.at 0 = search rules in
    (tt, tt, search rules, rules_by_made _ (replicate 2050 0) _ c.list_rules.ensures.1, rw (z, c.all_bits-bits.ensures, c.start_variables.ensures) (run_begin _ _ _ _ _ (search rules) (search rules)))

pub returns-then-not-is_none : goal.returns-then-not-is_none
returns-then-not-is_none c =
    let inv = c.loop-at.invariant in
    let w = c.in-Some.ensures.steps.1 in
    let by = c.step_on-answer.ensures ∙ step_by_index _ _ inv.3 _ _ in
    run_refused _ _ _ inv.4 _ _ _ _ (rw inv.2 at w.within) (rw inv.2 at w.event) (answer_of _ _ _ _ _ by) c.is_none.ensures _ c.if-not-is_none.true (c.clock_in.ensures ∙ ap clock_of (refused_same _ _ _ _ _ by (sym c.is_none.ensures ∙ c.if-not-is_none.true))) (rw w.start at c.in_script-refusal.ensures) c.put_end.ensures

pub loop-at-preserved : goal.loop-at-preserved
loop-at-preserved c =
    let inv = c.loop-at.invariant in
    let w = c.in-Some.ensures.steps.1 in
    let by = c.step_on-answer.ensures ∙ step_by_index _ _ inv.3 _ _ in
    (tt, tt, c.in-Some.ensures.steps.0 ∙ inv.2, inv.3, rw w.next (run_on _ _ _ inv.4 _ _ _ _ (rw inv.2 at w.within) (rw inv.2 at w.event) (answer_of _ _ _ _ _ by) c.is_none.ensures _ (state_of _ _ _ _ _ by) c.if-not-is_none.false c.clock_in-in-loop-at.ensures c.put_event-place.ensures))

pub returns : goal.returns
returns c =
    let inv = c.loop-at.invariant in
    run_end _ _ _ inv.4 _ _ (rw inv.2 at c.in-None.ensures.steps.1.0) c.clock_in-clock.ensures c.no_refusal.ensures c.put_end-2.ensures
