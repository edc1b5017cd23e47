use Rattle.std.proofs.Common.{ne_eqb}
use Rattle.table_faults.proofs.longest.Goals as goal

pub returns-then-kind-eq-START : goal.returns-then-kind-eq-START
returns-then-kind-eq-START c = rw c.if-kind-eq-START.true

pub returns-else-kind-eq-START : goal.returns-else-kind-eq-START
returns-else-kind-eq-START c = rw (ne_eqb _ _ c.if-kind-eq-START.false)
