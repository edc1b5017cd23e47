use Rattle.std.proofs.Common.{refl}
use Rattle.table_writer.specs.Lists.{joins_updates}
use Rattle.translate_waits.specs.Named.{update_named, wrote_more}
use Rattle.translate_threads.proofs.parts.put_job_ends.Goals as goal

pub returns : goal.returns
returns c = wrote_more joins_updates _ _
    c.set.ensures
    (update_named _ _ _ refl c.end_var-end.ensures refl c.set-2.ensures)
