use Rattle.model_reader.specs.Accepted.{bytes_known, read_good}
use Rattle.translation_sizes.specs.Foretelling.{size_bytes}
use Rattle.translator.specs.Tables.{model_refused, output_short, table_made}
use Rattle.translator.proofs.translate.Goals as goal

pub returns-then-not-is_none : goal.returns-then-not-is_none
returns-then-not-is_none c = model_refused c.args.model.now c.args.output.now _ _ c.read_into-refusal.ensures c.is_none.ensures c.if-not-is_none.true

pub size_of-length-requires : goal.size_of-length-requires
size_of-length-requires c = read_good c.args.model.now _ _ c.read_into-refusal.ensures c.is_none.ensures (bytes_known c.args.model.now c.shared_slice_known-1.given) c.if-not-is_none.false

pub returns-then-output-length : goal.returns-then-output-length
returns-then-output-length c = rw c.in_model-told.ensures (output_short c.args.model.now c.args.output.now _ _ c.read_into-refusal.ensures c.is_none.ensures c.if-not-is_none.false _ (size_bytes _ c.size_of-length.ensures) c.if-output-length.true)

pub put_table-requires : goal.put_table-requires
put_table-requires c = read_good c.args.model.now _ _ c.read_into-refusal.ensures c.is_none.ensures (bytes_known c.args.model.now c.shared_slice_known-1.given) c.if-not-is_none.false

pub returns : goal.returns
returns c = rw c.no_refusal.ensures (table_made c.args.model.now c.args.output.now _ _ c.read_into-refusal.ensures c.is_none.ensures (bytes_known c.args.model.now c.shared_slice_known-1.given) c.if-not-is_none.false _ (size_bytes _ c.size_of-length.ensures) c.if-output-length.false _ _ c.put_table.ensures)
