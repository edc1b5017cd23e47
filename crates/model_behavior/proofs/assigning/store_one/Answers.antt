use Rattle.model_behavior.specs.AssignLaws.{store_output, store_local}
use Rattle.model_behavior.proofs.assigning.store_one.Goals as goal

pub returns-then-assignment-eq-OUTPUT_TAG : goal.returns-then-assignment-eq-OUTPUT_TAG
returns-then-assignment-eq-OUTPUT_TAG c = store_output _ _ _ _ _ c.from-i.ensures c.if-assignment-eq-OUTPUT_TAG.true c.put_output.ensures

pub returns : goal.returns
returns c = store_local _ _ _ _ _ c.from-i.ensures c.if-assignment-eq-OUTPUT_TAG.false c.put_local.ensures
