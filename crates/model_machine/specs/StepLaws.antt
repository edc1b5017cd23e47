-- Laws of one event: which arm of the match answers it.
use Rattle.std.specs.Prelude.{◌≡◌, Bool, true, false, ℕ}
use borrow.Author.Tests.{ne_eqb}
use Rattle.records.specs.declared.Cause.TheVariants.{BrokenEvent}
use Rattle.records.specs.declared.Event.{Event}
use Rattle.records.specs.Events.{activate_kind, deactivate_kind, dispatch_kind, start_kind, complete_kind, deadline_kind, miss_kind, request_kind, enter_kind, leave_kind, tick_kind, is_broken}
use Rattle.model_format.specs.declared.Model.{Model}
use Rattle.model_semantics.specs.declared.State.{State}
use Rattle.model_semantics.specs.declared.Stepped.{Stepped}
use Rattle.model_semantics.specs.Machine.{refuse, ticks, on_activate, on_deactivate, on_dispatch, on_start, on_complete, on_deadline, on_miss, on_request, on_enter, on_leave, step}

-- b says whether the event e is broken, t is its id
module _ (m : Model) (s : State) (e : Event) (b : Bool) (f : b ≡ is_broken e) where
  pub step_broken : b ≡ true → refuse BrokenEvent s ≡ step m s e
  unfolding step
  step_broken h = rw (← f, h)

  module _ (h : b ≡ false) where
    module _ (t : ℕ) (w : t ≡ e.id) (r : Stepped) where
      pub step_activate : e.kind ≡ activate_kind → r ≡ on_activate m.timing.threads s t → r ≡ step m s e
      unfolding step
      step_activate k g = rw (← f, h, k, g, w)

      pub step_deactivate : e.kind ≡ deactivate_kind → r ≡ on_deactivate m.timing s t → r ≡ step m s e
      unfolding step
      step_deactivate k g = rw (← f, h, k, g, w)

      pub step_dispatch : e.kind ≡ dispatch_kind → r ≡ on_dispatch m.timing s t → r ≡ step m s e
      unfolding step
      step_dispatch k g = rw (← f, h, k, g, w)

      pub step_complete : e.kind ≡ complete_kind → r ≡ on_complete m s t → r ≡ step m s e
      unfolding step
      step_complete k g = rw (← f, h, k, g, w)

      pub step_deadline : e.kind ≡ deadline_kind → r ≡ on_deadline m.timing s t → r ≡ step m s e
      unfolding step
      step_deadline k g = rw (← f, h, k, g, w)

      pub step_miss : e.kind ≡ miss_kind → r ≡ on_miss m.timing s t → r ≡ step m s e
      unfolding step
      step_miss k g = rw (← f, h, k, g, w)

      pub step_enter : e.kind ≡ enter_kind → r ≡ on_enter m.timing s t → r ≡ step m s e
      unfolding step
      step_enter k g = rw (← f, h, k, g, w)

      pub step_leave : e.kind ≡ leave_kind → r ≡ on_leave m.timing s t → r ≡ step m s e
      unfolding step
      step_leave k g = rw (← f, h, k, g, w)

    module _ (r : Stepped) where
      pub step_start : e.kind ≡ start_kind → r ≡ on_start m.timing s e.id e.amount → r ≡ step m s e
      unfolding step
      step_start k g = rw (← f, h, k, g)

      pub step_request : e.kind ≡ request_kind → r ≡ on_request m.timing s e.id → r ≡ step m s e
      unfolding step
      step_request k g = rw (← f, h, k, g)

      pub step_tick : e.kind ≡ tick_kind → r ≡ ticks m.timing s e.amount s → r ≡ step m s e
      unfolding step
      step_tick k g = rw (← f, h, k, g)

    -- the kinds that the match leaves
    pub step_unknown : (e.kind ≡ activate_kind → ⊥) → (e.kind ≡ deactivate_kind → ⊥) → (e.kind ≡ dispatch_kind → ⊥) → (e.kind ≡ start_kind → ⊥) → (e.kind ≡ complete_kind → ⊥) → (e.kind ≡ deadline_kind → ⊥) →
        (e.kind ≡ miss_kind → ⊥) → (e.kind ≡ request_kind → ⊥) → (e.kind ≡ enter_kind → ⊥) → (e.kind ≡ leave_kind → ⊥) → (e.kind ≡ tick_kind → ⊥) → refuse BrokenEvent s ≡ step m s e
    unfolding step
    step_unknown k₁ k₂ k₃ k₄ k₅ k₆ k₇ k₈ k₉ k₁₀ k₁₁ =
        let n = e.kind in
        rw (← f, h, ne_eqb n activate_kind k₁, ne_eqb n deactivate_kind k₂, ne_eqb n dispatch_kind k₃, ne_eqb n start_kind k₄, ne_eqb n complete_kind k₅, ne_eqb n deadline_kind k₆, ne_eqb n miss_kind k₇, ne_eqb n request_kind k₈, ne_eqb n enter_kind k₉, ne_eqb n leave_kind k₁₀, ne_eqb n tick_kind k₁₁)
