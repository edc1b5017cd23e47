-- One event of the model by its kind: what the machine does, in one equation.
use Rattle.std.specs.Prelude.{◌≡◌, refl, Bool, true, false, ◌&&◌, ℕ, eqb, ltb}
use Rattle.std.proofs.Common.{eqb-true, arith}
use Rattle.records.specs.declared.Event.{Event}
use Rattle.records.specs.declared.Cause.TheVariants.{BrokenEvent}
use Rattle.records.specs.declared.Notation.TheVariants.{Script}
use Rattle.records.specs.Format.{record_size}
use Rattle.records.specs.Events.{activate_kind, deactivate_kind, dispatch_kind, start_kind, complete_kind, deadline_kind, miss_kind, request_kind, enter_kind, leave_kind, tick_kind, is_broken}
use Rattle.model_format.specs.declared.Model.{Model}
use Rattle.model_semantics.specs.declared.State.{State}
use Rattle.model_semantics.specs.State.{with_code}
use Rattle.model_semantics.specs.Tests.{waiting_dispatch, can_activate, can_deactivate, can_dispatch, can_start, can_complete, can_meet_deadline, can_miss, can_enter, can_leave}
use Rattle.model_semantics.specs.Effects.{dispatch, start, complete, meet_deadline, miss, deactivate, request, enter, leave}
use Rattle.model_semantics.specs.Machine.{refuse, attempt, ticks, step, on_activate, on_deactivate, on_dispatch, on_start, on_complete, on_deadline, on_miss, on_request, on_enter, on_leave}

module _ (m : Model) (s : State) (e : Event) where
  pub model_broken : is_broken e ≡ true → step m s e ≡ refuse BrokenEvent s
  unfolding step
  model_broken b = rw b

  pub model_activate : e.kind ≡ activate_kind → step m s e ≡ attempt (ltb e.id m.timing.threads && can_activate s e.id) (with_code s e.id waiting_dispatch) s
  unfolding step on_activate is_broken record_size
  model_activate k = rw k

  pub model_deactivate : e.kind ≡ deactivate_kind → step m s e ≡ attempt (ltb e.id m.timing.threads && can_deactivate m.timing s e.id) (deactivate m.timing s e.id) s
  unfolding step on_deactivate is_broken record_size
  model_deactivate k = rw k

  pub model_dispatch : e.kind ≡ dispatch_kind → step m s e ≡ attempt (ltb e.id m.timing.threads && can_dispatch m.timing s e.id) (dispatch m.timing s e.id) s
  unfolding step on_dispatch is_broken record_size
  model_dispatch k = rw k

  pub model_start : e.kind ≡ start_kind → step m s e ≡ attempt (can_start m.timing s e.id e.amount) (start m.timing s e.id e.amount) s
  unfolding step on_start is_broken record_size
  model_start k = rw k

  pub model_complete : e.kind ≡ complete_kind → step m s e ≡ attempt (ltb e.id m.timing.threads && can_complete s e.id) (complete m s e.id) s
  unfolding step on_complete is_broken record_size
  model_complete k = rw k

  pub model_deadline : e.kind ≡ deadline_kind → step m s e ≡ attempt (ltb e.id m.timing.threads && can_meet_deadline m.timing s e.id) (meet_deadline m.timing s e.id) s
  unfolding step on_deadline is_broken record_size
  model_deadline k = rw k

  pub model_miss : e.kind ≡ miss_kind → step m s e ≡ attempt (ltb e.id m.timing.threads && can_miss m.timing s e.id) (miss m.timing s e.id) s
  unfolding step on_miss is_broken record_size
  model_miss k = rw k

  pub model_request : e.kind ≡ request_kind → step m s e ≡ attempt (ltb e.id m.timing.switches) (request m.timing s e.id) s
  unfolding step on_request is_broken record_size
  model_request k = rw k

  pub model_enter : e.kind ≡ enter_kind → step m s e ≡ attempt (ltb e.id m.timing.switches && can_enter m.timing s e.id) (enter m.timing s e.id) s
  unfolding step on_enter is_broken record_size
  model_enter k = rw k

  pub model_leave : e.kind ≡ leave_kind → step m s e ≡ attempt (ltb e.id m.timing.switches && can_leave m.timing s e.id) (leave m.timing s e.id) s
  unfolding step on_leave is_broken record_size
  model_leave k = rw k

  pub model_tick : e.kind ≡ tick_kind → is_broken e ≡ false → step m s e ≡ ticks m.timing s e.amount s
  unfolding step
  model_tick k b = rw (b, k)

-- ---- an event that is not broken has one of the eleven kinds
pub data OneOf (k : ℕ) : Type 0 where
  is_activate : k ≡ activate_kind → OneOf k
  is_deactivate : k ≡ deactivate_kind → OneOf k
  is_dispatch : k ≡ dispatch_kind → OneOf k
  is_start : k ≡ start_kind → OneOf k
  is_complete : k ≡ complete_kind → OneOf k
  is_deadline : k ≡ deadline_kind → OneOf k
  is_miss : k ≡ miss_kind → OneOf k
  is_request : k ≡ request_kind → OneOf k
  is_enter : k ≡ enter_kind → OneOf k
  is_leave : k ≡ leave_kind → OneOf k
  is_tick : k ≡ tick_kind → OneOf k

is_or_not : (k n : ℕ) {X : Type 0} → (k ≡ n → X) → (eqb k n ≡ false → X) → X
is_or_not k n {X} y f = go (eqb k n) refl
  where
    go : (b : Bool) → eqb k n ≡ b → X
    go true e = y (eqb-true k n e)
    go false e = f e

one_of_size : (k : ℕ) → (record_size Script k ≡ 0 → ⊥) → OneOf k
unfolding record_size
one_of_size k z =
    is_or_not k activate_kind is_activate λ a. is_or_not k deactivate_kind is_deactivate λ b. is_or_not k dispatch_kind is_dispatch λ c. is_or_not k start_kind is_start λ d. is_or_not k complete_kind is_complete λ e. is_or_not k deadline_kind is_deadline
    λ f. is_or_not k miss_kind is_miss λ g. is_or_not k request_kind is_request λ h. is_or_not k enter_kind is_enter λ i. is_or_not k leave_kind is_leave λ j. is_or_not k tick_kind is_tick
    λ l. absurd (z (rw (a, b, c, d, e, f, g, h, i, j, l)))

pub one_of : (e : Event) → is_broken e ≡ false → OneOf e.kind
unfolding is_broken
one_of e b = one_of_size e.kind (λ z. true_is_not_false (rw z at b))
  where
    true_is_not_false : true ≡ false → ⊥
    true_is_not_false p = let z : ◌≡◌ {A = ℕ} 0 1 = cc in omega arith
