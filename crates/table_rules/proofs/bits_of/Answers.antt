use Rattle.std.proofs.Common.{w32, rules}
use Rattle.std.proofs.lemmas.Int.{to_z-of_z}
use Rattle.table_rules.proofs.bits_of.Goals as goal

pub returns : goal.returns
returns c = rw (c.bits.ensures, to_z-of_z w32 c.args.x.0 (search rules))
