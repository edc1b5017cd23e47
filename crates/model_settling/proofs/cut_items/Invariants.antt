use Rattle.model_settling.specs.Cut.{CutBelow}
use Rattle.model_settling.proofs.cut_items.Given as goal

abbrev pub invariant-loop-i : goal.invariant-loop-i
invariant-loop-i l = CutBelow l.widths l.initial.items l.items l.i
