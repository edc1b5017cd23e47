use Rattle.std.proofs.Common.{rules}
use Rattle.model_reader.specs.Lent.{whole_read}
use Rattle.listing_model.specs.Steps.{steps_run, steps_refused}
use Rattle.listing_model.proofs.steps_listing.Goals as goal

pub returns-then-is_none : goal.returns-then-is_none
returns-then-is_none c = steps_run c.args.model.now c.args.script.now _ _ (whole_read (search rules) c.read_model_into-refusal.ensures) c.is_none.ensures c.if-is_none.true c.run_listing.ensures

pub returns : goal.returns
returns c = steps_refused c.args.model.now c.args.script.now _ _ (whole_read (search rules) c.read_model_into-refusal.ensures) c.is_none.ensures c.if-is_none.false c.put_end.ensures
