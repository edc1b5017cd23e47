use Rattle.table_format.specs.KindLaws.{between_kinds}
use Rattle.table_faults.proofs.has_rules.Goals as goal

pub returns : goal.returns
returns c = between_kinds _
