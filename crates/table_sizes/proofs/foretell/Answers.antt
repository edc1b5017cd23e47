use Rattle.std.proofs.Common.{arith, ℕ}
use Rattle.std.proofs.lemmas.List.{length-replicate}
use Rattle.model_reader.specs.Accepted.{bytes_known, read_good}
use Rattle.model_reader.specs.Lent.{zeros_empty}
use Rattle.model_reader.specs.Walk.{read_whole}
use Rattle.model_words.specs.Words.{model_words}
use Rattle.table_sizes.specs.Told.{refusal_told, table_told}
use Rattle.table_sizes.proofs.foretell.Goals as goal

pub read_records-refusal-requires : goal.read_records-refusal-requires
read_records-refusal-requires c = (let n = length-replicate {A = ℕ} model_words 0 in omega (arith, n), zeros_empty)

pub returns-then-not-is_none : goal.returns-then-not-is_none
returns-then-not-is_none c = refusal_told c.args.model.now _ _ c.read_records-refusal.ensures c.is_none.ensures c.if-not-is_none.true c.no_size.ensures

pub size_of-size-requires : goal.size_of-size-requires
size_of-size-requires c = read_good c.args.model.now _ _ (read_whole _ _ _ c.read_records-refusal.ensures _ c.is_none.ensures c.if-not-is_none.false) c.is_none.ensures (bytes_known c.args.model.now c.shared_slice_known-1.given) c.if-not-is_none.false

pub returns : goal.returns
returns c = table_told c.args.model.now _ _ (read_whole _ _ _ c.read_records-refusal.ensures _ c.is_none.ensures c.if-not-is_none.false) c.is_none.ensures c.if-not-is_none.false c.size_of-size.ensures c.no_refusal.ensures
