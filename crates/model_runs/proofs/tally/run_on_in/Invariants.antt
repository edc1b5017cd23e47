use Rattle.std.proofs.Common.{◌≡◌, ◌≤◌, ◌+◌, length, drop}
use Rattle.records.specs.declared.Notation.TheVariants as notations
use Rattle.records.specs.Format.{parts}
use Rattle.records.specs.Run.{stages_from, tally_from}
use Rattle.model_semantics.specs.Machine.{machine_of}
use Rattle.model_state.specs.Words.{state_in}
use Rattle.model_words.specs.Words.{model_in}
use Rattle.model_runs.specs.Runs.{tally_model}
use Rattle.model_runs.proofs.tally.run_on_in.Given as goal

abbrev pub invariant-loop-listed : goal.invariant-loop-listed
invariant-loop-listed l =
    let walk = l.listed-iterator in
    (goal.iterator-loop-listed).can_next walk × (goal.iterator-loop-listed).is_finite walk × (walk.script.now ≡ l.script) × (l.taken + l.refused ≤ walk.at) × (walk.at ≤ length l.script) × (length l.state ≡ length l.initial.state)
    × (tally_from (state_in l.state) l.taken l.refused (stages_from (machine_of (model_in l.model)) (state_in l.state) walk.at (parts notations.Script (drop walk.at l.script))) ≡ tally_model (model_in l.model) l.script)
