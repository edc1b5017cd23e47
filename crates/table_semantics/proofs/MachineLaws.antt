-- The machine's answers: how the enabled rules decide, one event, and a refused event.
use Rattle.std.specs.Prelude.{◌≡◌, refl, Bool, true, false, cond, List, [], ◌∷◌, ℕ, zero, suc, eqb}
use Rattle.std.proofs.Common.{◌∙◌, ap, arith, ne_eqb}
use Rattle.numbers.specs.declared.Value.{Value}
use Rattle.records.specs.declared.Event.{Event}
use Rattle.table_format.specs.Table.{Rule}
use Rattle.table_semantics.specs.Rules.{enabled_rules, Write, writes, inconsistent, written}
use Rattle.table_semantics.specs.Machine.{is_busy, refuse, accept, allows_length, fire, now_in, ticks, step}
use Rattle.numbers.specs.Values.{natural, less_value}
use Rattle.records.specs.declared.Cause.{Cause}
use Rattle.records.specs.declared.Cause.TheVariants.{BrokenEvent, NotEnabled, LastClock, InconsistentUpdates}
use Rattle.records.specs.Events.{tick_kind, is_broken, last_clock}
use Rattle.records.specs.Refusals.{number_of, is_none}
use Rattle.table_semantics.specs.declared.Variables.{Variables}
use Rattle.table_semantics.specs.declared.Stepped.{Stepped}
use Rattle.table_semantics.specs.Runs.{variables_of, stepped_to}
use Rattle.table_semantics.specs.Choices.{choice, firing, one_tick}

-- ---- the enabled rules decide
pub fire_by_choice : (s : Variables) (e : Event) (l : List Rule) → firing s e (choice l) ≡ fire s e l
unfolding firing choice fire
fire_by_choice s e [] = refl
fire_by_choice s e (r ∷ []) = refl
fire_by_choice s e (r ∷ q ∷ l) = refl

-- the one enabled rule: "12 comes before the length, 13 last"
module _ (s : Variables) (e : Event) (r : Rule) where
  pub fire_outside : allows_length e r ≡ false → refuse NotEnabled s ≡ fire s e (r ∷ [])
  unfolding fire
  fire_outside h = rw h

  pub fire_twice : allows_length e r ≡ true → inconsistent (writes e.amount s.value r.updates) ≡ true → refuse InconsistentUpdates s ≡ fire s e (r ∷ [])
  unfolding fire
  fire_twice h i = rw (h, i)

  pub fire_takes : allows_length e r ≡ true → inconsistent (writes e.amount s.value r.updates) ≡ false →
      accept (written (writes e.amount s.value r.updates) s.value) ≡ fire s e (r ∷ [])
  unfolding fire
  fire_takes h i = rw (h, i)

-- ---- one event
module _ (l : List Rule) (s : Variables) (e : Event) (b : Bool) (g : b ≡ is_broken e) where
  pub step_broken : b ≡ true → refuse BrokenEvent s ≡ step l s e
  unfolding step
  step_broken h = rw (← g, h)

  pub step_ticks : b ≡ false → e.kind ≡ tick_kind → ticks l s e.amount s.value ≡ step l s e
  unfolding step
  step_ticks h k = rw (← g, h, k)

  pub step_fires : b ≡ false → (e.kind ≡ tick_kind → ⊥) → fire s e (enabled_rules s.value e.kind e.id l) ≡ step l s e
  unfolding step
  step_fires h k = rw (← g, h, ne_eqb e.kind tick_kind k)

-- ---- a refused event leaves the variables as they were
taken_not_refused : {A : Type 0} → true ≡ false → A
taken_not_refused h = let z : ◌≡◌ {A = ℕ} 0 1 = cc in absurd (omega arith)

ticks_same : (l : List Rule) (s : Variables) (n : ℕ) (v : List Value) → is_none (ticks l s n v).answer ≡ false → (ticks l s n v).state ≡ s
unfolding ticks number_of
ticks_same l s zero v h = taken_not_refused h
ticks_same l s (suc n) v h = go (is_busy v l) (less_value (now_in v) (natural last_clock)) (ticks_same l s n (one_tick v)) h
  where
    r : Stepped
    r = ticks l s n (one_tick v)

    go : (a b : Bool) → (is_none r.answer ≡ false → r.state ≡ s) →
        is_none (cond a (refuse NotEnabled s) (cond b r (refuse LastClock s))).answer ≡ false →
        (cond a (refuse NotEnabled s) (cond b r (refuse LastClock s))).state ≡ s
    go true b ih h = refl
    go false true ih h = ih h
    go false false ih h = refl

fire_same : (s : Variables) (e : Event) (l : List Rule) → is_none (fire s e l).answer ≡ false → (fire s e l).state ≡ s
unfolding fire number_of
fire_same s e [] h = refl
fire_same s e (r ∷ []) h = go (allows_length e r) (inconsistent w) h
  where
    w : List Write
    w = writes e.amount s.value r.updates

    go : (a b : Bool) → is_none (cond a (cond b (refuse InconsistentUpdates s) (accept (written w s.value))) (refuse NotEnabled s)).answer ≡ false →
        (cond a (cond b (refuse InconsistentUpdates s) (accept (written w s.value))) (refuse NotEnabled s)).state ≡ s
    go true true h = refl
    go true false h = taken_not_refused h
    go false b h = refl
fire_same s e (r ∷ q ∷ l) h = refl

step_same : (l : List Rule) (s : Variables) (e : Event) → is_none (step l s e).answer ≡ false → (step l s e).state ≡ s
unfolding step
step_same l s e h = go (is_broken e) (eqb e.kind tick_kind) h
  where
    t : Stepped
    t = ticks l s e.amount s.value

    f : Stepped
    f = fire s e (enabled_rules s.value e.kind e.id l)

    go : (a b : Bool) → is_none (cond a (refuse BrokenEvent s) (cond b t f)).answer ≡ false → (cond a (refuse BrokenEvent s) (cond b t f)).state ≡ s
    go true b h = refl
    go false true h = ticks_same l s e.amount s.value h
    go false false h = fire_same s e (enabled_rules s.value e.kind e.id l) h

-- c is the answer of an event, v' are the bits that it leaves
module _ (l : List Rule) (s : Variables) (e : Event) (c : Cause) (v' : List ℕ) (q : stepped_to c v' ≡ step l s e) where
  pub answer_of : c ≡ (step l s e).answer
  answer_of = ap (λ (o : Stepped). o.answer) q

  pub state_of : variables_of v' ≡ (step l s e).state
  state_of = ap (λ (o : Stepped). o.state) q

  pub refused_same : is_none c ≡ false → variables_of v' ≡ s
  refused_same h = state_of ∙ step_same l s e (rw (← answer_of) h)
