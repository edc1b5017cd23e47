use Rattle.std.proofs.Common.{true}
use Rattle.model_enabled.specs.Takes.{take_activate, take_deactivate, take_dispatch, take_complete, take_deadline, take_miss, take_request, take_enter, take_leave}
use Rattle.model_enabled.proofs.may_take.Goals as goal

pub returns-in-1 : goal.returns-in-1
returns-in-1 c = take_activate _ _ _ _ _ _ c.in-1.is c.threads.ensures c.can_activate.ensures

pub returns-in-2 : goal.returns-in-2
returns-in-2 c = take_deactivate _ _ _ _ _ _ c.in-2.is c.threads-in-2.ensures c.can_deactivate.ensures

pub returns-in-3 : goal.returns-in-3
returns-in-3 c = take_dispatch _ _ _ _ _ _ c.in-3.is c.threads-in-3.ensures c.can_dispatch.ensures

pub returns-in-5 : goal.returns-in-5
returns-in-5 c = take_complete _ _ _ _ _ _ c.in-5.is c.threads-in-5.ensures c.can_complete.ensures

pub returns-in-6 : goal.returns-in-6
returns-in-6 c = take_deadline _ _ _ _ _ _ c.in-6.is c.threads-in-6.ensures c.can_meet_deadline.ensures

pub returns-in-7 : goal.returns-in-7
returns-in-7 c = take_miss _ _ _ _ _ _ c.in-7.is c.threads-in-7.ensures c.can_miss.ensures

pub returns-in-8 : goal.returns-in-8
returns-in-8 c = take_request _ _ _ _ _ true c.in-8.is c.switches.ensures

pub returns-in-9 : goal.returns-in-9
returns-in-9 c = take_enter _ _ _ _ _ _ c.in-9.is c.switches-in-9.ensures c.can_enter.ensures

pub returns-in_default : goal.returns-in_default
returns-in_default c = let r = c.in_default.in_default-own.rest in take_leave _ _ _ _ _ _ r.0.0.0.0.0.0.0.0.1 r.0.0.0.0.0.0.0.1 r.0.0.0.0.0.0.1 r.0.0.0.0.0.1 r.0.0.0.0.1 r.0.0.0.1 r.0.0.1 r.0.1 r.1 c.switches-in_default.ensures c.can_leave.ensures
