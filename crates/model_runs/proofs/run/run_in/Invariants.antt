use Rattle.std.proofs.Common.{◌≡◌, ◌≤◌, length, drop}
use Rattle.records.specs.declared.Notation.TheVariants as notations
use Rattle.records.specs.Format.{parts}
use Rattle.records.specs.Run.{run_from}
use Rattle.model_semantics.specs.Machine.{machine_of, run_model}
use Rattle.model_state.specs.Words.{state_in}
use Rattle.model_words.specs.Words.{model_in}
use Rattle.model_runs.proofs.run.run_in.Given as goal

abbrev pub invariant-loop-at : goal.invariant-loop-at
invariant-loop-at l =
    let walk = l.at-iterator in
    (goal.iterator-loop-at).can_next walk × (goal.iterator-loop-at).is_finite walk × (walk.script.now ≡ l.script) × (l.taken ≤ walk.at) × (walk.at ≤ length l.script) × (length l.state ≡ length l.initial.state)
    × (run_from (machine_of (model_in l.model)) (state_in l.state) l.taken walk.at (parts notations.Script (drop walk.at l.script)) ≡ run_model (model_in l.model) l.script)
