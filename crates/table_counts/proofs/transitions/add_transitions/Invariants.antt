use Rattle.model_words.specs.Words.{behavior_in, model_in}
use Rattle.translation_sizes.specs.Items.{transition_counts}
use Rattle.table_counts.specs.Loops.{Counting}
use Rattle.table_counts.specs.Noted.{Noted}
use Rattle.table_counts.proofs.transitions.add_transitions.Given as goal

abbrev pub invariant-loop-k : goal.invariant-loop-k
invariant-loop-k l = Counting (transition_counts (model_in l.model)) l.k-end l.k l.sum × Noted (behavior_in l.model) l.k l.noted
