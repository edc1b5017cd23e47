use Rattle.model_words.specs.Words.{timing_in}
use Rattle.table_counts.specs.Noted.{Sent}
use Rattle.table_counts.proofs.transitions.list_sent.Given as goal

abbrev pub invariant-loop-c : goal.invariant-loop-c
invariant-loop-c l = Sent (timing_in l.model) l.c l.sent
