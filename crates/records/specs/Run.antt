-- A run over an event list, for any machine: the model's and the table's are instances.
use Rattle.std.specs.Prelude.{cond, List, [], ◌∷◌, ℕ, ◌+◌, length}
use Rattle.records.specs.declared.Cause.{Cause}
use Rattle.records.specs.declared.Notation.TheVariants.{Script}
use Rattle.records.specs.declared.Refusal.{Refusal}
use Rattle.records.specs.declared.Event.{Event}
use Rattle.records.specs.Format.{parts}
use Rattle.records.specs.Refusals.{is_none, in_script, no_refusal}
use Rattle.records.specs.Events.{event_of}

-- A machine answers an event in a state, and leaves a state: the next one, or, where it refuses, the state before.
pub record Machine (S : Type 0) : Type 0 where
  pub answer : S → Event → Cause
  pub after : S → Event → S

-- where a run has come to: events taken, the refusal that stopped it, the state
pub record Ended (S : Type 0) : Type 0 where
  pub taken : ℕ
  pub refusal : Refusal
  pub state : S

-- "A run stops at the first refusal and tells the events taken": k events are taken, the next part begins at p.
unfoldable pub run_from : {S : Type 0} → Machine S → S → ℕ → ℕ → List (List ℕ) → Ended S
run_from m s k p [] = record { taken = k; refusal = no_refusal; state = s }
run_from m s k p (x ∷ l) =
    let e = event_of x in
    let c = m.answer s e in
    let r = run_from m (m.after s e) (k + 1) (p + length x) l in
    cond (is_none c) r (record { taken = k; refusal = in_script c p (p + length x); state = s })

abbrev pub run : {S : Type 0} → Machine S → S → List ℕ → Ended S
run m s script = run_from m s 0 0 (parts Script script)

-- One event of a list: its answer, its part, and the state after it.
pub record Stage (S : Type 0) : Type 0 where
  pub event : Event
  pub answer : Cause
  pub start : ℕ
  pub end : ℕ
  pub state : S

-- "Where events go on after a refused one, from the states it left": every event of the list, in order.
unfoldable pub stages_from : {S : Type 0} → Machine S → S → ℕ → List (List ℕ) → List (Stage S)
stages_from m s p [] = []
stages_from m s p (x ∷ l) =
    let e = event_of x in
    record { event = e; answer = m.answer s e; start = p; end = p + length x; state = m.after s e } ∷ stages_from m (m.after s e) (p + length x) l

abbrev pub stages : {S : Type 0} → Machine S → S → List ℕ → List (Stage S)
stages m s script = stages_from m s 0 (parts Script script)

-- The end of that loop: how many events were taken, how many refused, and the state that it leaves.
pub record Tally (S : Type 0) : Type 0 where
  pub taken : ℕ
  pub refused : ℕ
  pub state : S

unfoldable pub tally_from : {S : Type 0} → S → ℕ → ℕ → List (Stage S) → Tally S
tally_from s k r [] = record { taken = k; refused = r; state = s }
tally_from s k r (x ∷ l) =
    let taken = tally_from x.state (k + 1) r l in
    let refused = tally_from x.state k (r + 1) l in
    cond (is_none x.answer) taken refused

abbrev pub tally : {S : Type 0} → Machine S → S → List ℕ → Tally S
tally m s script = tally_from s 0 0 (stages m s script)
