use Rattle.futonkestrel_starts.specs.StartLaws.{start_narrow, start_kept}
use Rattle.futonkestrel_starts.proofs.model_start_test.Goals as goal

pub returns-then-state-lt-STATE_WORDS : goal.returns-then-state-lt-STATE_WORDS
returns-then-state-lt-STATE_WORDS c = start_narrow _ _ _ _ c.if-state-lt-STATE_WORDS.true c.number.ensures

pub returns : goal.returns
returns c = start_kept _ _ _ _ c.if-state-lt-STATE_WORDS.false c.number-2.ensures c.start_fault-step.ensures c.put_item.ensures
