-- "`rules` translates first and prints the same": from demand 3, the same bytes wherever the table is made.
use Rattle.std.specs.Prelude.{◌≡◌, refl, true, ℕ, ◌+◌}
use Rattle.std.proofs.Common.{sym, ap, arith}
use mathlib.Core.List.{List, [], ◌∷◌}
use Rattle.std.proofs.Math.ListN.{length}
use Rattle.numbers.specs.declared.Value.{Value}
use Rattle.numbers.specs.Values.{bits_of}
use Rattle.records.specs.declared.Notation.TheVariants.{Script}
use Rattle.records.specs.Format.{parts}
use Rattle.records.specs.Refusals.{is_none, number_of}
use Rattle.records.specs.Events.{event_of}
use Rattle.records.specs.Run.{Machine, stages_from}
use Rattle.model_format.specs.declared.Timing.{Timing}
use Rattle.model_format.specs.declared.Model.{Model}
use Rattle.model_format.specs.Reading.{read_model}
use Rattle.model_format.specs.WellFormed.{Bytes}
use Rattle.model_format.specs.Accepted.{accepted_well_formed}
use Rattle.model_semantics.specs.declared.State.{State}
use Rattle.model_semantics.specs.State.{now_of}
use Rattle.model_semantics.specs.Machine.{start_state, model_stages, machine_of as model_machine}
use Rattle.table_format.specs.Table.{table_of}
use Rattle.table_semantics.specs.declared.Variables.{Variables}
use Rattle.table_semantics.specs.Machine.{start_variables, clock_of, table_stages, machine_of as table_machine}
use Rattle.translation.specs.Shown.{blocks_of, shown_in, stands_for}
use Rattle.translation.specs.Translate.{translated, table_bytes}
use Rattle.simulation.specs.Compared.{Dispatched, none_yet, and_after, Alike, Lockstep, Demand3}
use Rattle.simulation.specs.Simulation.{was_accepted, demand_3}
use Rattle.listing.specs.Listing.{listing_from, listing}
use Rattle.listing.specs.Programs.{room, steps_listing, table_listing, rules_listing}

same_clock : (m : Timing) (d : Dispatched) (s : State) (v : Variables) → Alike m d s v → now_of s ≡ clock_of v
unfolding stands_for shown_in blocks_of
same_clock m d s v h = sym (ap (λ (x : Value). bits_of x.0) (h.others 0 (omega arith) refl))

-- machines whose stages go in lockstep have the same listing
module _ (m : Timing) (a : Machine State) (b : Machine Variables) where
  same_lines : (l : List (List ℕ)) (d : Dispatched) (s : State) (v : Variables) (k p : ℕ) → Alike m d s v → Lockstep m d (stages_from a s p l) (stages_from b v p l) →
      listing_from a now_of s k l ≡ listing_from b clock_of v k l
  unfolding listing_from stages_from Lockstep
  same_lines [] d s v k p h q = rw (same_clock m d s v h)
  same_lines (x ∷ l) d s v k p h q =
      let e = event_of x in
      let f = and_after d e (a.answer s e) in
      let rest = same_lines l f (a.after s e) (b.after v e) (k + 1) (p + length x) q.0.alike q.1 in
      rw (← q.0.answer, ← same_clock m d s v h, ← same_clock m f (a.after s e) (b.after v e) q.0.alike, ← rest)

same_listing : (m : Model) (script table : List ℕ) → Demand3 m script table →
    listing (model_machine m) now_of (start_state m.timing) script ≡ listing (table_machine (table_of table).rules) clock_of (start_variables (table_of table)) script
unfolding model_stages table_stages
same_listing m script table h =
    same_lines m.timing (model_machine m) (table_machine (table_of table).rules) (parts Script script) none_yet (start_state m.timing) (start_variables (table_of table)) 0 0 h.start h.lockstep

-- where the table is made and demand 3 holds of it
pub demand_prints_same : (model script : List ℕ) → is_none (translated model room).refusal.cause ≡ true → Demand3 (read_model model).model script (table_bytes (read_model model).model) →
    rules_listing model script ≡ steps_listing model script
unfolding rules_listing steps_listing table_listing number_of
demand_prints_same model script e h =
    let a = (was_accepted model room (translated model room) refl e).reading in
    rw (e, a, h.accepted) (sym (same_listing (read_model model).model script (table_bytes (read_model model).model) h))

-- so of every model and script
pub rules_print_same : (model script : List ℕ) → Bytes model → is_none (translated model room).refusal.cause ≡ true → rules_listing model script ≡ steps_listing model script
rules_print_same model script b e =
    let a = (was_accepted model room (translated model room) refl e).reading in
    demand_prints_same model script e (demand_3 (read_model model).model (accepted_well_formed model b a) script)
