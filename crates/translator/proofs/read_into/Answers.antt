use Rattle.model_reader.specs.Lent.{whole_read}
use Rattle.std.proofs.Common.{rules}
use Rattle.translator.proofs.read_into.Goals as goal

pub returns : goal.returns
returns c = whole_read (search rules) c.read_model_into.ensures
