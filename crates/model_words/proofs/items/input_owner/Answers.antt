use Rattle.std.proofs.Common.{refl}
use Rattle.model_words.specs.Laws.{owner_there, owner_missing}
use Rattle.model_words.proofs.items.input_owner.Goals as goal

pub returns-then-port-ge-MAX_INPUTS : goal.returns-then-port-ge-MAX_INPUTS
returns-then-port-ge-MAX_INPUTS c = owner_missing _ _ _ c.if-port-ge-MAX_INPUTS.true refl

pub returns : goal.returns
returns c = owner_there _ _ _ c.if-port-ge-MAX_INPUTS.false c.byte_in.ensures
