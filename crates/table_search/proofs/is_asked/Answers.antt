use Rattle.std.proofs.Common.{refl}
use Rattle.table_search.specs.Enabled.{is_asked}
use Rattle.table_search.proofs.is_asked.Goals as goal

pub returns : goal.returns
unfolding is_asked
returns c = refl
