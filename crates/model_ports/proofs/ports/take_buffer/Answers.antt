use Rattle.model_ports.specs.Ports.{take_mine, take_other}
use Rattle.model_ports.proofs.ports.take_buffer.Goals as goal

pub returns-then-mine : goal.returns-then-mine
returns-then-mine c = take_mine _ _ _ _ _ c.if-mine.true c.buffer_value.ensures c.put_input.ensures

pub returns-else-mine : goal.returns-else-mine
returns-else-mine c = take_other _ _ _ c.if-mine.false
