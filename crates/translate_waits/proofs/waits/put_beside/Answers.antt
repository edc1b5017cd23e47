use Rattle.std.proofs.Common.{refl}
use Rattle.table_writer.specs.Lists.{joins_atoms}
use Rattle.table_writer.specs.WritesLaws.{writes_clause}
use Rattle.translate_waits.specs.Named.{same_variable, atom_named, wrote_more}
use Rattle.translate_waits.proofs.waits.put_beside.Goals as goal

pub flag_var-flag-requires : goal.flag_var-flag-requires
flag_var-flag-requires c = c.requires

pub returns : goal.returns
returns c = writes_clause _ c.clause.ensures (wrote_more joins_atoms _ _ (atom_named _ c.flag_var-flag.ensures refl c.compared.ensures) (wrote_more joins_atoms _ _ (atom_named _ c.state_var-state.ensures refl c.compared-2.ensures) (wrote_more joins_atoms _ _ (atom_named _ c.state_var-state.ensures refl c.compared-3.ensures) (atom_named _ c.dispatch_var-dispatch.ensures (same_variable c.dispatch_var-own.ensures) c.related.ensures))))
