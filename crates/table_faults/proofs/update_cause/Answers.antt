use Rattle.table_format.specs.FieldFaults.{update_names_lem}
use Rattle.table_faults.specs.FieldTests.{judged_fits, judged_unfit}
use Rattle.table_faults.proofs.update_cause.Goals as goal

pub returns-then-update_fits : goal.returns-then-update_fits
returns-then-update_fits c = judged_fits c.args.in_order _ _ _ c.update_fits.ensures _ (update_names_lem _ _) c.if-update_fits.true c.judged.ensures

pub returns : goal.returns
returns c = judged_unfit c.args.in_order _ _ _ c.update_fits.ensures _ _ c.update_names.ensures c.if-update_fits.false c.judged-2.ensures
