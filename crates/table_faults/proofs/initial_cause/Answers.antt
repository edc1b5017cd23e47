use Rattle.table_format.specs.FieldFaults.{initial_names_lem}
use Rattle.table_faults.specs.FieldTests.{judged_fits, judged_unfit}
use Rattle.table_faults.proofs.initial_cause.Goals as goal

pub returns-then-initial_fits : goal.returns-then-initial_fits
returns-then-initial_fits c = judged_fits c.args.in_order _ _ _ c.initial_fits.ensures _ (initial_names_lem _ _) c.if-initial_fits.true c.judged.ensures

pub returns : goal.returns
returns c = judged_unfit c.args.in_order _ _ _ c.initial_fits.ensures _ _ c.is_variable.ensures c.if-initial_fits.false c.judged-2.ensures
