use Rattle.model_ports.specs.Ports.{takes_other, takes_fed, takes_unfed}
use Rattle.model_ports.proofs.ports.takes.Goals as goal

pub returns-then-owner-t : goal.returns-then-owner-t
returns-then-owner-t c = takes_other _ _ _ _ c.if-owner-t.true

pub returns-then-fed : goal.returns-then-fed
returns-then-fed c = takes_fed _ _ _ _ c.if-owner-t.false c.if-fed.true

pub returns-else-fed : goal.returns-else-fed
returns-else-fed c = takes_unfed _ _ _ _ c.if-owner-t.false c.if-fed.false
