use Rattle.table_format.specs.FieldFaults.{atom_names_lem}
use Rattle.table_faults.specs.FieldTests.{judged_fits, judged_unfit}
use Rattle.table_faults.proofs.atom_cause.Goals as goal

pub returns-then-atom_fits : goal.returns-then-atom_fits
returns-then-atom_fits c = judged_fits c.args.in_order _ _ _ c.atom_fits.ensures _ (atom_names_lem _) c.if-atom_fits.true c.judged.ensures

pub returns : goal.returns
returns c = judged_unfit c.args.in_order _ _ _ c.atom_fits.ensures _ _ c.atom_names.ensures c.if-atom_fits.false c.judged-2.ensures
