use Rattle.model_state.specs.Words.{state_in}
use Rattle.model_words.specs.Words.{timing_in}
use Rattle.model_ports.specs.Ports.{Marked}
use Rattle.model_ports.proofs.ports.fed_ports.Given as goal

abbrev pub invariant-loop-c : goal.invariant-loop-c
invariant-loop-c l = Marked (timing_in l.model) (state_in l.state) l.c l.marks
