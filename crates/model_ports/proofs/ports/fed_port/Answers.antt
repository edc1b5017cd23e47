use Rattle.model_ports.specs.Ports.{fed_by}
use Rattle.model_ports.proofs.ports.fed_port.Goals as goal

pub returns : goal.returns
returns c = fed_by _ _ _ _ _ c.connection_at-connection.ensures c.is_live.ensures _ c.from.ensures _ c.then_some.ensures
