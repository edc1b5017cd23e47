use Rattle.table_format.specs.Decoded.{initial_fields}
use Rattle.table_format.proofs.initial_of.Goals as goal

pub returns : goal.returns
returns c = initial_fields c.args.part.now _ _ c.u16_at.ensures c.value_at.ensures
