use Rattle.table_sizes.specs.Together.{first_small, second_small, third_small, fourth_small, items_told}
use Rattle.table_sizes.proofs.item_counts.Goals as goal

pub add-requires : goal.add-requires
add-requires c = first_small _ c.requires c.threads_counts-threads.ensures c.inputs_counts-inputs.ensures c.connections_counts-connections.ensures c.switches_counts-switches.ensures c.transitions_counts-transitions.ensures

pub add-requires-2 : goal.add-requires-2
add-requires-2 c = second_small _ c.requires c.threads_counts-threads.ensures c.inputs_counts-inputs.ensures c.connections_counts-connections.ensures c.switches_counts-switches.ensures c.transitions_counts-transitions.ensures c.add.ensures

pub add-requires-3 : goal.add-requires-3
add-requires-3 c = third_small _ c.requires c.threads_counts-threads.ensures c.inputs_counts-inputs.ensures c.connections_counts-connections.ensures c.switches_counts-switches.ensures c.transitions_counts-transitions.ensures c.add.ensures c.add-2.ensures

pub add-requires-4 : goal.add-requires-4
add-requires-4 c = fourth_small _ c.requires c.threads_counts-threads.ensures c.inputs_counts-inputs.ensures c.connections_counts-connections.ensures c.switches_counts-switches.ensures c.transitions_counts-transitions.ensures c.add.ensures c.add-2.ensures c.add-3.ensures

pub returns : goal.returns
returns c = items_told _ c.requires c.threads_counts-threads.ensures c.inputs_counts-inputs.ensures c.connections_counts-connections.ensures c.switches_counts-switches.ensures c.transitions_counts-transitions.ensures c.add.ensures c.add-2.ensures c.add-3.ensures c.add-4.ensures
