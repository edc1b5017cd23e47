-- One event: both machines give the same answer and leave states that match.
use Rattle.std.specs.Prelude.{◌≡◌, Bool, cond, ◌&&◌, List, [], ◌∷◌, ℕ, eqb}
use Rattle.std.proofs.Math.Path.{refl, fun_ext}
use Rattle.std.proofs.Common.{sym, subst}
use Rattle.std.proofs.Math.Bool.{true, false}
use Rattle.std.proofs.Math.Dec.{leb}
use Rattle.numbers.specs.declared.Value.{Value}
use Rattle.records.specs.declared.Event.{Event}
use Rattle.records.specs.declared.Cause.{Cause}
use Rattle.records.specs.declared.Cause.TheVariants.{None, NotEnabled}
use Rattle.records.specs.Refusals.{number_of, is_none}
use Rattle.records.specs.Events.{dispatch_kind, start_kind}
use Rattle.model_format.specs.declared.Timing.{Timing}
use Rattle.model_semantics.specs.declared.State.{State}
use Rattle.model_semantics.specs.declared.Stepped as model-stepped
use Rattle.model_semantics.specs.Machine as model-machine
use Rattle.table_semantics.specs.declared.Variables.{Variables}
use Rattle.table_semantics.specs.declared.Stepped as table-stepped
use Rattle.table_semantics.specs.Machine as table-machine
use Rattle.table_format.specs.declared.Update.{Update}
use Rattle.translation.specs.Parts.{Body, stamped}
use Rattle.simulation.specs.Compared.{Dispatched, and_after}
use Rattle.simulation.specs.Match.{Match}
use Rattle.simulation.specs.Effects.{Does, after_other, after_refused}

-- what the two machines gave to an event: the same answer, and states that match, with the event among those taken
pub record After (m : Timing) (d : Dispatched) (e : Event) (r : model-stepped.Stepped) (q : table-stepped.Stepped) : Type 0 where
  pub answer : r.answer ≡ q.answer
  pub states : Match m (and_after d e r.answer) r.state q.state.value

-- ---- an event that is refused, or that is no DISPATCH, dispatches nothing
pub refused_states : {m : Timing} {d : Dispatched} {s : State} {v : List Value} (e : Event) (c : Cause) → is_none c ≡ false → Match m d s v → Match m (and_after d e c) s v
refused_states {m} {d} {s} {v} e c n h = subst (λ (x : Dispatched). Match m x s v) (sym (fun_ext (after_refused d e c n))) h

pub other_states : {m : Timing} {d : Dispatched} {s : State} {v : List Value} (e : Event) (c : Cause) → (e.kind ≡ dispatch_kind → ⊥) → Match m d s v → Match m (and_after d e c) s v
other_states {m} {d} {s} {v} e c n h = subst (λ (x : Dispatched). Match m x s v) (sym (fun_ext (after_other d e c n))) h

-- ---- one rule b stands for the event where c passes; a says that its length is allowed
module _ (m : Timing) (d : Dispatched) (s r : State) (v : Variables) (e : Event) (h : Match m d s v.value) where
  pub refused_both : After m d e (model-machine.refuse NotEnabled s) (table-machine.refuse NotEnabled v)
  unfolding number_of
  refused_both = record { answer = refl; states = refused_states e NotEnabled refl h }

  fired : (b : Body) (k : ℕ) → table-machine.allows_length e (record { head = record { kind = k; id = e.id; low = b.low; high = b.high }; clauses = b.clauses; updates = b.updates }) ≡ true →
      Does m (and_after d e None) r e.amount v.value b.updates → After m d e (model-machine.accept r) (table-machine.fire v e (stamped k e.id (b ∷ [])))
  unfolding table-machine.fire stamped
  fired b k a x = rw (a, x.consistent) (record { answer = refl; states = x.matches })

  pub by_rule_lem : (c : Bool) (b : Body) (k : ℕ) → eqb e.kind start_kind ≡ false → (c ≡ true → Does m (and_after d e None) r e.amount v.value b.updates) →
      After m d e (model-machine.attempt c r s) (table-machine.fire v e (stamped k e.id (cond c (b ∷ []) [])))
  unfolding table-machine.allows_length table-machine.fire stamped
  by_rule_lem true b k n x = fired b k (rw n) (x refl)
  by_rule_lem false b k n x = refused_both

  -- START: the rule is enabled before its length is looked at
  pub by_start : (c : Bool) (b : Body) (k : ℕ) → e.kind ≡ start_kind → (c ≡ true → (leb b.low e.amount && leb e.amount b.high) ≡ true → Does m (and_after d e None) r e.amount v.value b.updates) →
      After m d e (model-machine.attempt (c && (leb b.low e.amount && leb e.amount b.high)) r s) (table-machine.fire v e (stamped k e.id (cond c (b ∷ []) [])))
  unfolding table-machine.allows_length table-machine.fire stamped
  by_start true b k n x = by_length (leb b.low e.amount && leb e.amount b.high) refl
    where
      by_length : (a : Bool) → (leb b.low e.amount && leb e.amount b.high) ≡ a → After m d e (model-machine.attempt a r s) (table-machine.fire v e (stamped k e.id (b ∷ [])))
      by_length true f = fired b k (rw (n, f)) (x refl f)
      by_length false f =
          let a : table-machine.allows_length e (record { head = record { kind = k; id = e.id; low = b.low; high = b.high }; clauses = b.clauses; updates = b.updates }) ≡ false = rw (n, f) in
          rw a refused_both
  by_start false b k n x = refused_both

-- the same of what an event does
pub other_does : {m : Timing} {d : Dispatched} {r : State} {n : ℕ} {v : List Value} {us : List Update} (e : Event) (c : Cause) → (e.kind ≡ dispatch_kind → ⊥) → Does m d r n v us → Does m (and_after d e c) r n v us
other_does e c k x = record { consistent = x.consistent; matches = other_states e c k x.matches }
