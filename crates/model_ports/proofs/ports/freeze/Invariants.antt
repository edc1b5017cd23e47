use Rattle.std.proofs.Common.{◌≡◌, length}
use Rattle.model_state.specs.Words.{state_in}
use Rattle.model_words.specs.Words.{timing_in}
use Rattle.model_ports.specs.Ports.{frozen_below}
use Rattle.model_ports.proofs.ports.freeze.Given as goal

abbrev pub invariant-loop-i : goal.invariant-loop-i
invariant-loop-i l = (length l.state ≡ length l.initial.state) × (state_in l.state ≡ frozen_below (timing_in l.model) (state_in l.initial.state) l.fed l.t l.i)
