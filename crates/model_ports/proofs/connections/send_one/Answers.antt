use Rattle.model_ports.specs.Sends.{send_goes, send_stays}
use Rattle.model_ports.proofs.connections.send_one.Goals as goal

pub returns-then-goes : goal.returns-then-goes
returns-then-goes c = send_goes _ _ _ _ _ _ _ c.if-goes.true c.from.ensures c.output_value-value.ensures c.from-then-goes.ensures c.put_buffer.ensures

pub returns-else-goes : goal.returns-else-goes
returns-else-goes c = send_stays _ _ _ c.if-goes.false
