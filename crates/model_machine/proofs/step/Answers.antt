use Rattle.std.proofs.Common.{refl}
use Rattle.model_time.specs.AnswerLaws.{answers_as, refused_at_once}
use Rattle.model_machine.specs.StepLaws.{step_broken, step_activate, step_deactivate, step_dispatch, step_start, step_complete, step_deadline, step_miss, step_request, step_enter, step_leave, step_tick, step_unknown}
use Rattle.model_machine.proofs.step.Goals as goal

pub returns-then-is_broken : goal.returns-then-is_broken
returns-then-is_broken c = refused_at_once _ _ _ (step_broken _ _ _ _ c.is_broken.ensures c.if-is_broken.true)

pub returns-in-1 : goal.returns-in-1
returns-in-1 c = answers_as _ _ _ _ _ c.on_activate.ensures (step_activate _ _ _ _ c.is_broken.ensures c.if-is_broken.false _ c.from-t.ensures _ c.in-1.is refl)

pub returns-in-2 : goal.returns-in-2
returns-in-2 c = answers_as _ _ _ _ _ c.on_deactivate.ensures (step_deactivate _ _ _ _ c.is_broken.ensures c.if-is_broken.false _ c.from-t.ensures _ c.in-2.is refl)

pub returns-in-3 : goal.returns-in-3
returns-in-3 c = answers_as _ _ _ _ _ c.on_dispatch.ensures (step_dispatch _ _ _ _ c.is_broken.ensures c.if-is_broken.false _ c.from-t.ensures _ c.in-3.is refl)

pub returns-in-4 : goal.returns-in-4
returns-in-4 c = answers_as _ _ _ _ _ c.on_start.ensures (step_start _ _ _ _ c.is_broken.ensures c.if-is_broken.false _ c.in-4.is refl)

pub returns-in-5 : goal.returns-in-5
returns-in-5 c = answers_as _ _ _ _ _ c.on_complete.ensures (step_complete _ _ _ _ c.is_broken.ensures c.if-is_broken.false _ c.from-t.ensures _ c.in-5.is refl)

pub returns-in-6 : goal.returns-in-6
returns-in-6 c = answers_as _ _ _ _ _ c.on_deadline.ensures (step_deadline _ _ _ _ c.is_broken.ensures c.if-is_broken.false _ c.from-t.ensures _ c.in-6.is refl)

pub returns-in-7 : goal.returns-in-7
returns-in-7 c = answers_as _ _ _ _ _ c.on_miss.ensures (step_miss _ _ _ _ c.is_broken.ensures c.if-is_broken.false _ c.from-t.ensures _ c.in-7.is refl)

pub returns-in-8 : goal.returns-in-8
returns-in-8 c = answers_as _ _ _ _ _ c.on_request.ensures (step_request _ _ _ _ c.is_broken.ensures c.if-is_broken.false _ c.in-8.is refl)

pub returns-in-9 : goal.returns-in-9
returns-in-9 c = answers_as _ _ _ _ _ c.on_enter.ensures (step_enter _ _ _ _ c.is_broken.ensures c.if-is_broken.false _ c.from-t.ensures _ c.in-9.is refl)

pub returns-in-10 : goal.returns-in-10
returns-in-10 c = answers_as _ _ _ _ _ c.on_leave.ensures (step_leave _ _ _ _ c.is_broken.ensures c.if-is_broken.false _ c.from-t.ensures _ c.in-10.is refl)

pub returns-in-11 : goal.returns-in-11
returns-in-11 c = answers_as _ _ _ _ _ c.ticks.ensures (step_tick _ _ _ _ c.is_broken.ensures c.if-is_broken.false _ c.in-11.is refl)

pub returns-in_default : goal.returns-in_default
returns-in_default c = let r = c.in_default.in_default-own.rest in refused_at_once _ _ _ (step_unknown _ _ _ _ c.is_broken.ensures c.if-is_broken.false r.0.0.0.0.0.0.0.0.0.0.1 r.0.0.0.0.0.0.0.0.0.1 r.0.0.0.0.0.0.0.0.1 r.0.0.0.0.0.0.0.1 r.0.0.0.0.0.0.1 r.0.0.0.0.0.1 r.0.0.0.0.1 r.0.0.0.1 r.0.0.1 r.0.1 r.1)
