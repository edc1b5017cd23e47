-- Runs as the declared structs and the list of the state have them.
use Rattle.std.specs.Prelude.{List, ℕ}
use Rattle.records.specs.Run.{Ended, Tally, tally}
use Rattle.model_format.specs.declared.Model.{Model}
use Rattle.model_semantics.specs.declared.State.{State}
use Rattle.model_semantics.specs.Machine.{start_state, machine_of}
use Rattle.model_state.specs.Words.{state_in}
use Rattle.model_runs.specs.declared.Stop.{Stop}
use Rattle.model_runs.specs.declared.Counts.{Counts}

-- "A run stops at the first refusal and tells the events taken"
abbrev pub ended_in : Stop → List ℕ → Ended State
ended_in r l = record { taken = r.taken; refusal = r.refusal; state = state_in l }

-- "Where events go on after a refused one, from the states it left"
abbrev pub tally_in : Counts → List ℕ → Tally State
tally_in r l = record { taken = r.taken; refused = r.refused; state = state_in l }

-- the run of a model that goes on so
abbrev pub tally_model : Model → List ℕ → Tally State
tally_model m script = tally (machine_of m) (start_state m.timing) script
