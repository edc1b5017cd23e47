use Rattle.std.proofs.Common.{◌∙◌, ap, not, rules}
use Rattle.numbers.specs.ValueLaws.{same_by_eq}
use Rattle.numbers.specs.Values.{natural}
use Rattle.table_sizes.specs.Leaves.{value_told}
use Rattle.table_sizes.proofs.starts.value_starts.Goals as goal

pub returns : goal.returns
returns c = value_told c.args.start (c.ne.ensures ∙ ap not (same_by_eq c.args.start (natural 0) (search rules) (search rules))) c.from.ensures
