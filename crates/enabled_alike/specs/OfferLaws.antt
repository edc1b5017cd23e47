-- Of states that match, the enabled rules of each kind and id are the event that the model's test allows.
use Rattle.std.specs.Prelude.{◌≡◌, refl, Bool, true, false, cond, ◌&&◌, List, [], ◌∷◌, ℕ, zero, suc, ◌+◌, ◌<◌, ltb, leb}
use Rattle.std.proofs.Common.{◌∙◌, arith, ltb-true, le-leb}
use Rattle.std.proofs.Math.Bool.{and-true}
use Rattle.numbers.specs.declared.Value.{Value}
use Rattle.numbers.specs.Lists.{join_below, only}
use Rattle.records.specs.Events.{activate_kind, deactivate_kind, dispatch_kind, start_kind, complete_kind, deadline_kind, miss_kind, request_kind, enter_kind, leave_kind}
use Rattle.model_format.specs.declared.Model.{Model}
use Rattle.model_format.specs.Model.{thread_at}
use Rattle.model_format.specs.WellFormed.{WellFormed}
use Rattle.model_semantics.specs.declared.State.{State}
use Rattle.model_semantics.specs.State.{is_active, code_of}
use Rattle.model_semantics.specs.Effects.{rest_code}
use Rattle.model_semantics.specs.Tests as tests
use Rattle.table_semantics.specs.Rules.{enabled_rules}
use Rattle.table_semantics.specs.Machine as table-machine
use Rattle.translation.specs.Shown.{bit}
use Rattle.translation.specs.Parts.{Body, stamped}
use Rattle.translation.specs.Rules.{activate_rules, deactivate_rule, dispatch_rules, start_rules, deadline_rule, enter_rules, leave_rules, rules_of}
use Rattle.simulation.specs.Compared.{Dispatched}
use Rattle.simulation.specs.Match.{Match}
use Rattle.simulation.specs.GuardSimple.{request_rule}
use Rattle.simulation.specs.GuardStart.{may_start, start_test}
use Rattle.simulation.specs.GuardComplete.{complete_rule}
use Rattle.simulation.specs.GuardDeadline.{miss_rule}
use Rattle.simulation.specs.GuardRules.{activate_rules_lem, deactivate_rules_lem, dispatch_rules_lem, start_rules_lem, complete_rules_lem, deadline_rules_lem, miss_rules_lem, request_rules_lem, enter_rules_lem, leave_rules_lem}
use Rattle.simulation.specs.Quiet.{busy_same}
use Rattle.simulation.specs.Ticks.{same_below}
use Rattle.enabled.specs.Enabled.{Offer, in_order, may_take, offer_of, model_offers, model_may_tick, offers_by, table_offers, table_may_tick, ids, last_offered}

-- ---- lists joined of equal lists
join_same : {A : Type 0} (n : ℕ) (f g : ℕ → List A) → ((i : ℕ) → i < n → f i ≡ g i) → join_below n f ≡ join_below n g
unfolding join_below
join_same zero f g e = refl
join_same (suc n) f g e = rw (join_same n f g (λ i l. e i (omega arith)), e n (omega arith))

-- the kinds by number, as "in order" goes through them
record EachKind (P : ℕ → Type 0) : Type 0 where
  activate : P activate_kind
  deactivate : P deactivate_kind
  dispatch : P dispatch_kind
  start : P start_kind
  complete : P complete_kind
  deadline : P deadline_kind
  miss : P miss_kind
  request : P request_kind
  enter : P enter_kind
  leave : P leave_kind

each_kind : (P : ℕ → Type 0) → EachKind P → (k : ℕ) → k < last_offered → P (k + 1)
each_kind P x zero l = x.activate
each_kind P x (suc zero) l = x.deactivate
each_kind P x (suc (suc zero)) l = x.dispatch
each_kind P x (suc (suc (suc zero))) l = x.start
each_kind P x (suc (suc (suc (suc zero)))) l = x.complete
each_kind P x (suc (suc (suc (suc (suc zero))))) l = x.deadline
each_kind P x (suc (suc (suc (suc (suc (suc zero)))))) l = x.miss
each_kind P x (suc (suc (suc (suc (suc (suc (suc zero))))))) l = x.request
each_kind P x (suc (suc (suc (suc (suc (suc (suc (suc zero)))))))) l = x.enter
each_kind P x (suc (suc (suc (suc (suc (suc (suc (suc (suc zero))))))))) l = x.leave
each_kind P x (suc (suc (suc (suc (suc (suc (suc (suc (suc (suc k)))))))))) l = absurd (omega arith)

in_order_same : (f g : ℕ → ℕ → List Offer) → EachKind (λ k. (i : ℕ) → f k i ≡ g k i) → in_order f ≡ in_order g
unfolding in_order
in_order_same f g x =
    join_same last_offered (λ k. join_below ids (λ i. f (k + 1) i)) (λ k. join_below ids (λ i. g (k + 1) i))
    (λ k l. join_same ids (λ i. f (k + 1) i) (λ i. g (k + 1) i) (λ i b. each_kind (λ k. (i : ℕ) → f k i ≡ g k i) x k l i))

-- the rules of an item where they are enabled, which make one offer
of_item : (k i : ℕ) (c : Bool) (o : Offer) (l : List Body) → o ∷ [] ≡ offers_by (stamped k i l) → only c o ≡ offers_by (stamped k i (cond c l []))
unfolding offers_by stamped
of_item k i true o l e = e
of_item k i false o l e = refl

module _ (m : Model) (w : WellFormed m) (d : Dispatched) (s : State) (v : List Value) (h : Match m.timing d s v) where
  -- START with the shortest length: the length is no hindrance
  start_allowed : (i : ℕ) → tests.can_start m.timing s i (thread_at m.timing i).bcet.0 ≡ (ltb i m.timing.threads && may_start m.timing s i)
  start_allowed i = start_test m.timing s i (thread_at m.timing i).bcet.0 ∙ go (ltb i m.timing.threads) refl
    where
      go : (b : Bool) → ltb i m.timing.threads ≡ b →
          (b && (may_start m.timing s i && (leb (thread_at m.timing i).bcet.0 (thread_at m.timing i).bcet.0 && leb (thread_at m.timing i).bcet.0 (thread_at m.timing i).wcet.0))) ≡
          (b && may_start m.timing s i)
      go true e =
          rw (
            le-leb (thread_at m.timing i).bcet.0 (thread_at m.timing i).bcet.0 (omega arith),
            le-leb (thread_at m.timing i).bcet.0 (thread_at m.timing i).wcet.0 (w.timing.thread i (ltb-true i m.timing.threads e)).wcet,
          )
          (and-true (may_start m.timing s i))
      go false e = refl

  abbrev Offered : ℕ → Type 0
  Offered k = (i : ℕ) → only (may_take m.timing s k i) (offer_of m.timing k i) ≡ offers_by (enabled_rules v k i (rules_of m))

  each_offered : EachKind Offered
  unfolding may_take offers_by stamped activate_rules dispatch_rules start_rules enter_rules leave_rules
  each_offered = record {
    activate = λ i. rw (activate_rules_lem m d s v w h i) (of_item activate_kind i (ltb i m.timing.threads && tests.can_activate s i) (offer_of m.timing activate_kind i) (activate_rules m.timing i) refl);
    deactivate = λ i. rw (deactivate_rules_lem m d s v w h i) (of_item deactivate_kind i (ltb i m.timing.threads && tests.can_deactivate m.timing s i) (offer_of m.timing deactivate_kind i) (deactivate_rule m.timing i (code_of s i) ∷ []) refl);
    dispatch = λ i. rw (dispatch_rules_lem m d s v w h i) (of_item dispatch_kind i (ltb i m.timing.threads && tests.can_dispatch m.timing s i) (offer_of m.timing dispatch_kind i) (dispatch_rules m.timing i) refl);
    start = λ i. rw (start_rules_lem m d s v w h i, start_allowed i) (of_item start_kind i (ltb i m.timing.threads && may_start m.timing s i) (offer_of m.timing start_kind i) (start_rules m.timing i) refl);
    complete = λ i. rw (complete_rules_lem m d s v w h i) (of_item complete_kind i (ltb i m.timing.threads && tests.can_complete s i) (offer_of m.timing complete_kind i) (complete_rule m s i ∷ []) refl);
    deadline = λ i. rw (deadline_rules_lem m d s v w h i) (of_item deadline_kind i (ltb i m.timing.threads && tests.can_meet_deadline m.timing s i) (offer_of m.timing deadline_kind i) (deadline_rule m.timing i (bit (is_active s i)) (rest_code s i) ∷ []) refl);
    miss = λ i. rw (miss_rules_lem m d s v w h i) (of_item miss_kind i (ltb i m.timing.threads && tests.can_miss m.timing s i) (offer_of m.timing miss_kind i) (miss_rule m.timing s i ∷ []) refl);
    request = λ i. rw (request_rules_lem m d s v w h i) (of_item request_kind i (ltb i m.timing.switches) (offer_of m.timing request_kind i) (request_rule m.timing s i ∷ []) refl);
    enter = λ i. rw (enter_rules_lem m d s v w h i) (of_item enter_kind i (ltb i m.timing.switches && tests.can_enter m.timing s i) (offer_of m.timing enter_kind i) (enter_rules m.timing i) refl);
    leave = λ i. rw (leave_rules_lem m d s v w h i) (of_item leave_kind i (ltb i m.timing.switches && tests.can_leave m.timing s i) (offer_of m.timing leave_kind i) (leave_rules m.timing i) refl);
  }

  pub same_events : model_offers m.timing s ≡ table_offers (rules_of m) v
  unfolding model_offers table_offers
  same_events = in_order_same _ _ each_offered

  pub same_tick : model_may_tick m.timing s ≡ table_may_tick (rules_of m) v
  unfolding model_may_tick table_may_tick
  same_tick = rw (busy_same m d s v w h, same_below m.timing d s v h)
