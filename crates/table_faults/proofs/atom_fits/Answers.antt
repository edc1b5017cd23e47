use Rattle.table_faults.specs.FieldTests.{atom_compares, atom_multiple}
use Rattle.table_faults.proofs.atom_fits.Goals as goal

pub returns-then-op-lt-MULTIPLE_OF : goal.returns-then-op-lt-MULTIPLE_OF
returns-then-op-lt-MULTIPLE_OF c = atom_compares _ _ _ c.is_variable-there.ensures c.if-op-lt-MULTIPLE_OF.true c.operand_fits.ensures

pub returns : goal.returns
returns c = atom_multiple _ _ _ c.is_variable-there.ensures c.if-op-lt-MULTIPLE_OF.false c.above_zero.ensures
