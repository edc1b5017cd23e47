-- From one event to whole lists: machines that agree on each event go in lockstep, and their runs tell the same.
use Rattle.std.specs.Prelude.{◌≡◌, refl, Bool, cond, ℕ, ◌+◌}
use Rattle.std.proofs.Common.{sym, ap}
use Rattle.std.proofs.Math.Bool.{true, false}
use mathlib.Core.List.{List, [], ◌∷◌}
use Rattle.std.proofs.Math.ListN.{length}
use Rattle.numbers.specs.declared.Value.{Value}
use Rattle.numbers.specs.Values.{bits_of}
use Rattle.records.specs.declared.Event.{Event}
use Rattle.records.specs.Refusals.{is_none}
use Rattle.records.specs.Events.{event_of}
use Rattle.records.specs.Run.{Machine, Ended, run_from, stages_from}
use Rattle.model_format.specs.declared.Timing.{Timing}
use Rattle.model_semantics.specs.declared.State.{State}
use Rattle.model_semantics.specs.State.{now_of}
use Rattle.table_semantics.specs.declared.Variables.{Variables}
use Rattle.table_semantics.specs.Machine.{clock_of}
use Rattle.simulation.specs.Compared.{Dispatched, and_after, Alike, Lockstep}
use Rattle.simulation.specs.Match.{Match}

-- both machines answer an event alike, and the states that they leave match
pub record Agree (m : Timing) (a : Machine State) (b : Machine Variables) (d : Dispatched) (s : State) (v : Variables) (e : Event) : Type 0 where
  pub answer : a.answer s e ≡ b.answer v e
  pub states : Match m (and_after d e (a.answer s e)) (a.after s e) (b.after v e).value

-- runs that stop at the first refusal tell the same
pub record SameEnd (r : Ended State) (q : Ended Variables) : Type 0 where
  pub taken : r.taken ≡ q.taken
  pub refusal : r.refusal ≡ q.refusal
  pub clock : now_of r.state ≡ clock_of q.state

same_clock : (m : Timing) (d : Dispatched) (s : State) (v : Variables) → Match m d s v.value → now_of s ≡ clock_of v
same_clock m d s v h = ap (λ (x : Value). bits_of x.0) (sym h.now)

module _ (m : Timing) (a : Machine State) (b : Machine Variables)
    (alike : (d : Dispatched) (s : State) (v : Variables) → Match m d s v.value → Alike m d s v)
    (agree : (d : Dispatched) (s : State) (v : Variables) (e : Event) → Match m d s v.value → Agree m a b d s v e)
  where
    pub lockstep : (l : List (List ℕ)) (d : Dispatched) (s : State) (v : Variables) (p : ℕ) → Match m d s v.value → Lockstep m d (stages_from a s p l) (stages_from b v p l)
    unfolding Lockstep stages_from
    lockstep [] d s v p h = tt
    lockstep (x ∷ l) d s v p h =
        let e = event_of x in
        let g = agree d s v e h in
        let f = and_after d e (a.answer s e) in (
          record { event = refl; answer = g.answer; start = refl; end = refl; alike = alike f (a.after s e) (b.after v e) g.states },
          lockstep l f (a.after s e) (b.after v e) (p + length x) g.states,
        )

    pub same_run : (l : List (List ℕ)) (d : Dispatched) (s : State) (v : Variables) (k p : ℕ) → Match m d s v.value → SameEnd (run_from a s k p l) (run_from b v k p l)
    unfolding run_from
    same_run [] d s v k p h = record { taken = refl; refusal = refl; clock = same_clock m d s v h }
    same_run (x ∷ l) d s v k p h =
        let e = event_of x in
        let g = agree d s v e h in
        rw (← g.answer)
        (by_answer (is_none (a.answer s e)) (same_run l (and_after d e (a.answer s e)) (a.after s e) (b.after v e) (k + 1) (p + length x) g.states)
        (record { taken = refl; refusal = refl; clock = same_clock m d s v h }))
      where
        by_answer : (c : Bool) {r t : Ended State} {q u : Ended Variables} → SameEnd r q → SameEnd t u → SameEnd (cond c r t) (cond c q u)
        by_answer true y n = y
        by_answer false y n = n
