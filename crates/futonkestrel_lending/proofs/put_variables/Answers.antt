use Rattle.std.proofs.Common.{rules}
use Rattle.futonkestrel_lending.specs.Laws.{within}
use Rattle.futonkestrel_lending.specs.Lending.{numbers_of}
use Rattle.futonkestrel_lending.proofs.put_variables.Goals as goal

pub returns : goal.returns
returns c = c.put_numbers.ensures (numbers_of c.args.variables) (λ j n h k. within c.args.variables j h n (search rules))
