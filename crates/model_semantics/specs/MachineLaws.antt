-- What holds of every answer to an event: of a broken one, of one that a test decides, and of TICK.
use Rattle.std.specs.Prelude.{Bool, true, false, cond, ◌&&◌, ℕ, eqb, ltb}
use Rattle.records.specs.declared.Cause.TheVariants.{BrokenEvent}
use Rattle.records.specs.declared.Event.{Event}
use Rattle.records.specs.Events.{activate_kind, deactivate_kind, dispatch_kind, start_kind, complete_kind, deadline_kind, miss_kind, request_kind, enter_kind, leave_kind, tick_kind, is_broken}
use Rattle.model_format.specs.declared.Timing.{Timing}
use Rattle.model_format.specs.declared.Model.{Model}
use Rattle.model_semantics.specs.declared.State.{State}
use Rattle.model_semantics.specs.declared.Stepped.{Stepped}
use Rattle.model_semantics.specs.State.{with_code}
use Rattle.model_semantics.specs.Tests.{waiting_dispatch, can_activate, can_deactivate, can_dispatch, can_start, can_complete, can_meet_deadline, can_miss, can_enter, can_leave}
use Rattle.model_semantics.specs.Effects.{dispatch, start, complete, meet_deadline, miss, deactivate, request, enter, leave}
use Rattle.model_semantics.specs.Machine.{refuse, attempt, ticks, on_activate, on_deactivate, on_dispatch, on_start, on_complete, on_deadline, on_miss, on_request, on_enter, on_leave, step}

either : (P : Stepped → Type 0) (b : Bool) (x y : Stepped) → P x → P y → P (cond b x y)
either P true x y p q = p
either P false x y p q = q

module _ (P : Stepped → Type 0) (s : State) (tried : (b : Bool) (x : State) → P (attempt b x s)) where
  on_activate_lem : (n t : ℕ) → P (on_activate n s t)
  unfolding on_activate
  on_activate_lem n t = tried (ltb t n && can_activate s t) (with_code s t waiting_dispatch)

  module _ (m : Timing) (t : ℕ) where
    on_deactivate_lem : P (on_deactivate m s t)
    unfolding on_deactivate
    on_deactivate_lem = tried (ltb t m.threads && can_deactivate m s t) (deactivate m s t)

    on_dispatch_lem : P (on_dispatch m s t)
    unfolding on_dispatch
    on_dispatch_lem = tried (ltb t m.threads && can_dispatch m s t) (dispatch m s t)

    on_start_lem : (n : ℕ) → P (on_start m s t n)
    unfolding on_start
    on_start_lem n = tried (can_start m s t n) (start m s t n)

    on_deadline_lem : P (on_deadline m s t)
    unfolding on_deadline
    on_deadline_lem = tried (ltb t m.threads && can_meet_deadline m s t) (meet_deadline m s t)

    on_miss_lem : P (on_miss m s t)
    unfolding on_miss
    on_miss_lem = tried (ltb t m.threads && can_miss m s t) (miss m s t)

    on_request_lem : P (on_request m s t)
    unfolding on_request
    on_request_lem = tried (ltb t m.switches) (request m s t)

    on_enter_lem : P (on_enter m s t)
    unfolding on_enter
    on_enter_lem = tried (ltb t m.switches && can_enter m s t) (enter m s t)

    on_leave_lem : P (on_leave m s t)
    unfolding on_leave
    on_leave_lem = tried (ltb t m.switches && can_leave m s t) (leave m s t)

  on_complete_lem : (m : Model) (t : ℕ) → P (on_complete m s t)
  unfolding on_complete
  on_complete_lem m t = tried (ltb t m.timing.threads && can_complete s t) (complete m s t)

  pub step_is : (m : Model) (e : Event) → P (refuse BrokenEvent s) → P (ticks m.timing s e.amount s) → P (step m s e)
  unfolding step
  step_is m e broken ticked =
      let x = m.timing in
      let t = e.id in
      either P (is_broken e) _ _ broken
      (either P (eqb e.kind activate_kind) _ _ (on_activate_lem x.threads t)
      (either P (eqb e.kind deactivate_kind) _ _ (on_deactivate_lem x t)
      (either P (eqb e.kind dispatch_kind) _ _ (on_dispatch_lem x t)
      (either P (eqb e.kind start_kind) _ _ (on_start_lem x t e.amount)
      (either P (eqb e.kind complete_kind) _ _ (on_complete_lem m t)
      (either P (eqb e.kind deadline_kind) _ _ (on_deadline_lem x t)
      (either P (eqb e.kind miss_kind) _ _ (on_miss_lem x t)
      (either P (eqb e.kind request_kind) _ _ (on_request_lem x t)
      (either P (eqb e.kind enter_kind) _ _ (on_enter_lem x t)
      (either P (eqb e.kind leave_kind) _ _ (on_leave_lem x t)
      (either P (eqb e.kind tick_kind) _ _ ticked broken)))))))))))
