use Rattle.std.proofs.Common.{arith, sym, ◌∙◌}
use Rattle.model_ports.specs.Ports.{marked_none, marked_fed, marked_unfed, marked_all}
use Rattle.model_ports.proofs.ports.fed_ports.Goals as goal
use Rattle.model_ports.proofs.ports.fed_ports.Goals.{in-Some, in_default}

pub loop-c-init : goal.loop-c-init
loop-c-init c = marked_none _ _

pub loop-c-preserved : goal.loop-c-preserved
loop-c-preserved c =
    elim c.match-fed_port.branch [
      | in-Some w ↦ rw (w.marks-is, w.put_item.ensures) (marked_fed _ _ _ _ c.loop-c.invariant _ (sym c.fed_port.ensures ∙ w.in-Some.is))
      | in_default w ↦ rw w.marks-is (marked_unfed _ _ _ _ c.loop-c.invariant (sym c.fed_port.ensures ∙ w.in_default.is))
    ]

pub returns : goal.returns
returns c = marked_all _ _ _ _ _ (rw c.connections.ensures at c.min-count.ensures) (omega arith) (omega arith) c.loop-c.invariant
