use Rattle.model_words.specs.Words.{timing_in}
use Rattle.translate_threads.specs.Deactivates.{left_running, left_waiting}
use Rattle.translate_threads.proofs.put_left.Goals as goal

pub returns-then-code-eq-EXECUTION : goal.returns-then-code-eq-EXECUTION
returns-then-code-eq-EXECUTION c = left_running (timing_in c.args.model.now) _ _ c.if-code-eq-EXECUTION.true c.put_job_ends.ensures

pub returns-else-code-eq-EXECUTION : goal.returns-else-code-eq-EXECUTION
returns-else-code-eq-EXECUTION c = left_waiting (timing_in c.args.model.now) _ _ c.if-code-eq-EXECUTION.false
