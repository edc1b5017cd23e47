use Rattle.std.proofs.Common.{rules, ap, ◌∙◌, ◌≡◌, ℕ}
use Rattle.numbers.specs.declared.Duration.{Duration}
use Rattle.model_semantics.specs.declared.Stepped.{Stepped}
use Rattle.model_semantics.specs.Machine.{run_model}
use Rattle.listing_writer.specs.Runs.{run_begin, run_on, run_refused, run_end}
use Rattle.listing_model.proofs.run_listing.Goals as goal

pub loop-at-init : goal.loop-at-init
unfolding run_model
loop-at-init c =
    let z : ◌≡◌ {A = ℕ} c.into_iter-at-iterator.result.at 0 = search rules in
    (tt, tt, search rules, search rules, c.now_of-clock.ensures, rw (z, c.start_in.ensures) (run_begin _ _ _ _ _ (search rules) (search rules)))

pub returns-then-not-is_none : goal.returns-then-not-is_none
returns-then-not-is_none c =
    let inv = c.loop-at.invariant in
    let w = c.in-Some.ensures.steps.1 in
    run_refused _ _ _ inv.5 _ _ _ _ (rw inv.2 at w.within) (rw inv.2 at w.event) (ap (λ (r : Stepped). r.answer) c.step-answer.ensures.same) c.is_none.ensures _ c.if-not-is_none.true (ap (λ (d : Duration). d.0) inv.4) (rw w.start at c.in_script-refusal.ensures) c.put_end.ensures

pub loop-at-preserved : goal.loop-at-preserved
loop-at-preserved c =
    let inv = c.loop-at.invariant in
    let w = c.in-Some.ensures.steps.1 in
    (tt, tt, c.in-Some.ensures.steps.0 ∙ inv.2, search rules, c.now_of-next.ensures, rw w.next (run_on _ _ _ inv.5 _ _ _ _ (rw inv.2 at w.within) (rw inv.2 at w.event) (ap (λ (r : Stepped). r.answer) c.step-answer.ensures.same) c.is_none.ensures _ (ap (λ (r : Stepped). r.state) c.step-answer.ensures.same) c.if-not-is_none.false (ap (λ (d : Duration). d.0) c.now_of-next.ensures) c.put_event-place.ensures))

pub returns : goal.returns
returns c =
    let inv = c.loop-at.invariant in
    run_end _ _ _ inv.5 _ _ (rw inv.2 at c.in-None.ensures.steps.1.0) (ap (λ (d : Duration). d.0) inv.4) c.no_refusal.ensures c.put_end-2.ensures
