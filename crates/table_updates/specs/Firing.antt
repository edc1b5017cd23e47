-- Firing the one enabled rule, in the forms that the code has.
use Rattle.std.specs.Prelude.{◌≡◌, Bool, true, false, ◌&&◌, List, [], ◌∷◌, leb}
use Rattle.std.proofs.Common.{sym, ap, ◌∙◌, arith, ℕ, ne_eqb}
use Rattle.records.specs.declared.Cause.TheVariants.{NotEnabled, InconsistentUpdates}
use Rattle.records.specs.declared.Event.{Event}
use Rattle.records.specs.Events.{start_kind}
use Rattle.table_format.specs.declared.RuleHead.{RuleHead}
use Rattle.table_semantics.specs.declared.Variables.{Variables}
use Rattle.table_semantics.specs.Machine.{refuse, accept, allows_length, fire}
use Rattle.table_semantics.specs.Runs.{values, variables_of, stepped_to}
use Rattle.table_format.specs.Variables.{variables}
use Rattle.table_rules.specs.At.{rule_at}
use Rattle.table_semantics.proofs.MachineLaws as laws
use Rattle.table_updates.specs.declared.Stop.{Stop}
use Rattle.table_updates.specs.declared.Stop.TheVariants.{Twice, NoRoom}
use Rattle.table_updates.specs.Applied.{writes_from, Stops, Takes, head_allows}

-- ---- the one enabled rule: a is whether it allows the event's length, w what its updates have come to
module _ (t : List ℕ) (s : Variables) (e : Event) (p : ℕ) (h : RuleHead) (a : Bool) (g : a ≡ head_allows e h) where
  pub fire_outside : a ≡ false → refuse NotEnabled s ≡ fire s e (rule_at t p h ∷ [])
  unfolding allows_length head_allows
  fire_outside z = laws.fire_outside s e (rule_at t p h) (sym g ∙ z)

  module _ (z : a ≡ true) (v : List ℕ) (f : s ≡ variables_of v) (v' : List ℕ) where
    -- there is room for as many writes as there are variables
    pub fire_stops : (q : Stop) → v' ≡ v → Stops (writes_from e.amount (values v) t p) variables q → stepped_to InconsistentUpdates v' ≡ fire s e (rule_at t p h ∷ [])
    unfolding allows_length head_allows Stops
    fire_stops Twice k y = ap (refuse InconsistentUpdates) (ap variables_of k ∙ sym f) ∙ laws.fire_twice s e (rule_at t p h) (sym g ∙ z) (rw f y)
    fire_stops NoRoom k y = absurd (y (omega arith))

    pub fire_takes : Takes (writes_from e.amount (values v) t p) v v' → accept (values v') ≡ fire s e (rule_at t p h ∷ [])
    unfolding allows_length head_allows
    fire_takes y = ap accept (y.taken ∙ rw f) ∙ laws.fire_takes s e (rule_at t p h) (sym g ∙ z) (rw f y.once)

pub allows_other : (e : Event) (h : RuleHead) → (e.kind ≡ start_kind → ⊥) → true ≡ head_allows e h
unfolding head_allows
allows_other e h k = rw (ne_eqb e.kind start_kind k)

pub allows_start : (e : Event) (h : RuleHead) → e.kind ≡ start_kind → (leb h.low e.amount && leb e.amount h.high) ≡ head_allows e h
unfolding head_allows
allows_start e h k = rw k
