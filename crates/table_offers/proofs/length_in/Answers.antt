use Rattle.std.proofs.Common.{eq-eqb, ne_eqb}
use Rattle.table_offers.proofs.length_in.Goals as goal

pub returns-then-kind-eq-START : goal.returns-then-kind-eq-START
returns-then-kind-eq-START c = rw (eq-eqb _ _ c.if-kind-eq-START.true)

pub returns-else-kind-eq-START : goal.returns-else-kind-eq-START
returns-else-kind-eq-START c = rw (ne_eqb _ _ c.if-kind-eq-START.false)
