-- Each of the eleven events: the model's test is the guard of the rule that fires, and its effect is what the rule's updates do.
use Rattle.std.specs.Prelude.{◌≡◌, Bool, true, false, ◌&&◌, ℕ, ◌<◌}
use Rattle.std.proofs.Math.Path.{refl, sym, fun_ext}
use Rattle.std.proofs.Common.{◌∙◌, arith, ltb-true}
use Rattle.std.proofs.Math.Dec.{ltb, leb}
use Rattle.records.specs.declared.Event.{Event}
use Rattle.records.specs.declared.Cause.TheVariants.{None, BrokenEvent}
use Rattle.records.specs.Refusals.{number_of}
use Rattle.records.specs.Events.{activate_kind, deactivate_kind, dispatch_kind, start_kind, complete_kind, deadline_kind, miss_kind, request_kind, enter_kind, leave_kind, is_broken}
use Rattle.model_format.specs.declared.Model.{Model}
use Rattle.model_format.specs.Model.{thread_at}
use Rattle.model_format.specs.WellFormed.{WellFormed}
use Rattle.model_semantics.specs.declared.State.{State}
use Rattle.model_semantics.specs.State.{is_active}
use Rattle.model_semantics.specs.Tests.{can_activate, can_deactivate, can_dispatch, can_start, can_complete, can_meet_deadline, can_miss, can_enter, can_leave}
use Rattle.model_semantics.specs.Machine as model-machine
use Rattle.table_semantics.specs.declared.Variables.{Variables}
use Rattle.table_semantics.specs.Machine as table-machine
use Rattle.translation.specs.Shown.{bit}
use Rattle.translation.specs.Rules.{rules_of, activate_rules, dispatch_rules, start_rules, enter_rules, leave_rules}
use Rattle.simulation.specs.Compared.{Dispatched}
use Rattle.simulation.specs.Match.{Match}
use Rattle.simulation.specs.Effects.{first_updates, after_dispatch}
use Rattle.simulation.specs.EffectSimple.{activate_does, request_does}
use Rattle.simulation.specs.EffectDeactivate.{deactivate_does}
use Rattle.simulation.specs.EffectDeadline.{deadline_does, miss_does}
use Rattle.simulation.specs.EffectDispatch.{dispatch_does}
use Rattle.simulation.specs.EffectStart.{start_does}
use Rattle.simulation.specs.EffectComplete.{complete_does}
use Rattle.simulation.specs.EffectModes.{enter_does, leave_does}
use Rattle.simulation.specs.GuardStart.{may_start, start_test}
use Rattle.simulation.specs.GuardComplete.{complete_rule}
use Rattle.simulation.specs.GuardRules.{activate_rules_lem, deactivate_rules_lem, dispatch_rules_lem, start_rules_lem, complete_rules_lem, request_rules_lem, deadline_rules_lem, miss_rules_lem, enter_rules_lem, leave_rules_lem}
use Rattle.reached.specs.Kinds.{model_broken, model_activate, model_deactivate, model_dispatch, model_start, model_complete, model_deadline, model_miss, model_request, model_enter, model_leave}
use Rattle.simulation.specs.Kinds.{table_broken, table_fires}
use Rattle.simulation.specs.Step.{After, refused_states, by_rule_lem, by_start, other_does}

-- the first of two tests that both pass
both : (a b : Bool) → (a && b) ≡ true → (a ≡ true) × (b ≡ true)
both true b e = (refl, e)
both false b e = let z : ◌≡◌ {A = Bool} true false = sym e in (sym z, cc)

and_assoc : (a b c : Bool) → ((a && b) && c) ≡ (a && (b && c))
and_assoc true b c = refl
and_assoc false b c = refl

within : (i n : ℕ) (c : Bool) → (ltb i n && c) ≡ true → i < n
within i n c e = ltb-true i n (both (ltb i n) c e).0

module _ (m : Model) (w : WellFormed m) (d : Dispatched) (s : State) (v : Variables) (h : Match m.timing d s v.value) (e : Event) where
  abbrev Agreed : Type 0
  Agreed = After m.timing d e (model-machine.step m s e) (table-machine.step (rules_of m) v e)

  pub broken_after : is_broken e ≡ true → Agreed
  unfolding number_of
  broken_after b = rw (model_broken m s e b, table_broken (rules_of m) v e b) (record { answer = refl; states = refused_states e BrokenEvent refl h })

  module _ (b : is_broken e ≡ false) where
    pub activate_after : e.kind ≡ activate_kind → Agreed
    unfolding activate_rules first_updates
    activate_after k =
        rw (model_activate m s e k, table_fires (rules_of m) v e activate_kind k b refl, activate_rules_lem m d s v.value w h e.id)
        (by_rule_lem m.timing d s _ v e h (ltb e.id m.timing.threads && can_activate s e.id) _ activate_kind (rw k) (λ c. other_does e None (λ z. omega arith) (activate_does m.timing w.timing d s v.value h e.amount e.id (within e.id m.timing.threads _ c))))

    pub deactivate_after : e.kind ≡ deactivate_kind → Agreed
    deactivate_after k =
        rw (model_deactivate m s e k, table_fires (rules_of m) v e deactivate_kind k b refl, deactivate_rules_lem m d s v.value w h e.id)
        (by_rule_lem m.timing d s _ v e h (ltb e.id m.timing.threads && can_deactivate m.timing s e.id) _ deactivate_kind (rw k) (λ c. other_does e None (λ z. omega arith) (deactivate_does m.timing w.timing d s v.value h e.amount e.id (within e.id m.timing.threads _ c))))

    pub deadline_after : e.kind ≡ deadline_kind → Agreed
    deadline_after k =
        rw (model_deadline m s e k, table_fires (rules_of m) v e deadline_kind k b refl, deadline_rules_lem m d s v.value w h e.id)
        (by_rule_lem m.timing d s _ v e h (ltb e.id m.timing.threads && can_meet_deadline m.timing s e.id) _ deadline_kind (rw k) (λ c. other_does e None (λ z. omega arith) (deadline_does m.timing w.timing d s v.value h e.amount e.id (within e.id m.timing.threads _ c) (bit (is_active s e.id)))))

    pub enter_after : e.kind ≡ enter_kind → Agreed
    unfolding enter_rules first_updates
    enter_after k =
        rw (model_enter m s e k, table_fires (rules_of m) v e enter_kind k b refl, enter_rules_lem m d s v.value w h e.id)
        (by_rule_lem m.timing d s _ v e h (ltb e.id m.timing.switches && can_enter m.timing s e.id) _ enter_kind (rw k) (λ c. other_does e None (λ z. omega arith) (enter_does m.timing w.timing d s v.value h e.amount e.id)))

    pub leave_after : e.kind ≡ leave_kind → Agreed
    unfolding leave_rules first_updates
    leave_after k =
        rw (model_leave m s e k, table_fires (rules_of m) v e leave_kind k b refl, leave_rules_lem m d s v.value w h e.id)
        (by_rule_lem m.timing d s _ v e h (ltb e.id m.timing.switches && can_leave m.timing s e.id) _ leave_kind (rw k) (λ c. other_does e None (λ z. omega arith) (leave_does m.timing w.timing d s v.value h e.amount e.id)))

    pub miss_after : e.kind ≡ miss_kind → Agreed
    miss_after k =
        rw (model_miss m s e k, table_fires (rules_of m) v e miss_kind k b refl, miss_rules_lem m d s v.value w h e.id)
        (by_rule_lem m.timing d s _ v e h (ltb e.id m.timing.threads && can_miss m.timing s e.id) _ miss_kind (rw k)
        (λ c. other_does e None (λ z. omega arith) (miss_does m.timing w.timing d s v.value h e.amount e.id (within e.id m.timing.threads _ c) (both (ltb e.id m.timing.threads) (can_miss m.timing s e.id) c).1)))

    pub request_after : e.kind ≡ request_kind → Agreed
    request_after k =
        rw (model_request m s e k, table_fires (rules_of m) v e request_kind k b refl, request_rules_lem m d s v.value w h e.id)
        (by_rule_lem m.timing d s _ v e h (ltb e.id m.timing.switches) _ request_kind (rw k) (λ c. other_does e None (λ z. omega arith) (request_does m.timing w.timing d s v.value h e.amount e.id)))

    pub dispatch_after : e.kind ≡ dispatch_kind → Agreed
    unfolding dispatch_rules first_updates
    dispatch_after k =
        rw (model_dispatch m s e k, table_fires (rules_of m) v e dispatch_kind k b refl, dispatch_rules_lem m d s v.value w h e.id)
        (by_rule_lem m.timing d s _ v e h (ltb e.id m.timing.threads && can_dispatch m.timing s e.id) _ dispatch_kind (rw k)
        (λ c. rw (fun_ext (after_dispatch d e k)) (dispatch_does m.timing w.timing d s v.value h e.amount e.id (within e.id m.timing.threads _ c))))

    pub start_after : e.kind ≡ start_kind → Agreed
    unfolding start_rules first_updates
    start_after k =
        let x = m.timing in
        let t = e.id in
        let n = e.amount in
        let c = ltb t x.threads && may_start x s t in
        let test : can_start x s t n ≡ (c && (leb (thread_at x t).bcet.0 n && leb n (thread_at x t).wcet.0)) = start_test x s t n ∙ sym (and_assoc (ltb t x.threads) (may_start x s t) _) in
        rw (model_start m s e k, table_fires (rules_of m) v e start_kind k b refl, start_rules_lem m d s v.value w h t, test)
        (by_start x d s _ v e h c _ start_kind k
        (λ y z. other_does e None (λ z. omega arith) (start_does x w.timing d s v.value h n t (within t x.threads _ y) (test ∙ rw (y, z)))))

    pub complete_after : e.kind ≡ complete_kind → Agreed
    complete_after k =
        rw (model_complete m s e k, table_fires (rules_of m) v e complete_kind k b refl, complete_rules_lem m d s v.value w h e.id)
        (by_rule_lem m.timing d s _ v e h (ltb e.id m.timing.threads && can_complete s e.id) (complete_rule m s e.id) complete_kind (rw k)
        (λ c. other_does e None (λ z. omega arith) (complete_does m w d s v.value h e.amount e.id (within e.id m.timing.threads _ c) (both (ltb e.id m.timing.threads) (can_complete s e.id) c).1)))
