use Rattle.table_sizes.specs.Leaves.{immediate_told, delayed_told, none_told}
use Rattle.table_sizes.proofs.items.connection_counts.Goals as goal

pub returns-in-0 : goal.returns-in-0
returns-in-0 c = immediate_told _ _ c.connection_at-connection.ensures c.in-0.is c.count.ensures

pub returns-in-1 : goal.returns-in-1
returns-in-1 c = delayed_told _ _ c.connection_at-connection.ensures c.in-1.is c.count-in-1.ensures

pub returns-in_default : goal.returns-in_default
returns-in_default c = none_told _ _ c.connection_at-connection.ensures c.in_default.in_default-own.rest.0.1 c.in_default.in_default-own.rest.1 c.nothing.ensures
