use Rattle.table_counts.specs.Noted.{noted_none, sent_none}
use Rattle.table_counts.proofs.transitions.transitions_counts.Goals as goal

pub list_sent-requires : goal.list_sent-requires
list_sent-requires c = (c.requires.timing, sent_none _)

pub add_transitions-requires : goal.add_transitions-requires
add_transitions-requires c = (c.requires, (noted_none _, c.list_sent.ensures))
