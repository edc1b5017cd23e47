use Rattle.translation.specs.ShownLaws.{block_below, block_from}
use mathlib.Core.Path.{sym}
use Rattle.translate_shown.proofs.in_block.Goals as goal

pub returns-then-variable-base : goal.returns-then-variable-base
returns-then-variable-base c = sym (block_below _ _ _ c.if-variable-base.true)

pub returns : goal.returns
returns c = sym (block_from _ _ _ c.if-variable-base.false)
