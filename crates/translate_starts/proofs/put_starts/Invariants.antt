use Rattle.std.proofs.Common.{◌≤◌, ◌-◌}
use Rattle.model_words.specs.Words.{timing_in}
use Rattle.model_state.specs.Words.{state_in}
use Rattle.translate_starts.specs.Starts.{starts_in}
use Rattle.table_format.specs.Variables.{variables}
use Rattle.table_writer.specs.Writes.{WritesInitial}
use Rattle.translate_starts.proofs.put_starts.Given as goal

abbrev pub invariant-loop-variable : goal.invariant-loop-variable
invariant-loop-variable l = (l.variable ≤ variables) × WritesInitial l.initial.out (starts_in (timing_in l.model) (state_in l.state) l.variable) l.out

abbrev pub decreases-loop-variable : goal.decreases-loop-variable
decreases-loop-variable l = variables - l.variable
