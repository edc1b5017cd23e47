-- Which variables stand for something.
use Rattle.std.specs.Prelude.{Bool, false, ◌||◌, List, [], ◌∷◌, ℕ}
use Rattle.model_format.specs.declared.Timing.{Timing}
use Rattle.translation.specs.Shown.{Block, in_block, blocks_of}

unfoldable pub in_any : List Block → ℕ → Bool
in_any [] variable = false
in_any (block ∷ blocks) variable = in_block block.base block.count variable || in_any blocks variable

unfoldable pub is_shown : Timing → ℕ → Bool
is_shown timing variable = in_any (blocks_of timing) variable
