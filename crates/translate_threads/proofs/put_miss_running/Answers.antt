use Rattle.model_words.specs.Words.{timing_in}
use Rattle.translation.specs.Rules.{miss_updates, job_ends}
use Rattle.table_writer.specs.Lists.{joins_clauses, joins_updates}
use Rattle.table_writer.specs.WritesLaws.{writes_both}
use Rattle.translate_waits.specs.Named.{clause_named, wrote_more}
use Rattle.translate_threads.specs.Bodies.{wrote_body}
use Rattle.translate_threads.proofs.put_miss_running.Goals as goal

pub returns : goal.returns
returns c = wrote_body _ _ _ c.rule.ensures
    (wrote_more joins_clauses _ _ c.put_state_is.ensures (wrote_more joins_clauses _ _ c.put_active_is.ensures (wrote_more joins_clauses _ _ c.put_due_is_now.ensures (clause_named _ _ c.end_var-end.ensures c.different.ensures))))
    (writes_both joins_updates (miss_updates c.args.thread c.args.code) (job_ends (timing_in c.args.model.now) c.args.thread) c.put_missed.ensures (c.put_job_ends.ensures))
