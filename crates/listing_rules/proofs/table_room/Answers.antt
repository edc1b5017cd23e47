use Rattle.std.proofs.Common.{sym, ℕ}
use Rattle.std.proofs.lemmas.List.{length-replicate}
use Rattle.listing_rules.proofs.table_room.Goals as goal

pub returns : goal.returns
returns c = sym (length-replicate {A = ℕ} 65536 0)
