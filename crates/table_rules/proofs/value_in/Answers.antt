use Rattle.std.proofs.Common.{◌∙◌, ap, ℕ}
use Rattle.numbers.specs.Values.{value, signed}
use Rattle.table_rules.specs.Bits.{value_within, value_past}
use Rattle.table_rules.proofs.value_in.Goals as goal

pub returns-then-j-lt-VARIABLES : goal.returns-then-j-lt-VARIABLES
returns-then-j-lt-VARIABLES c = c.value_of.ensures ∙ ap (λ (n : ℕ). value (signed n)) c.item_or.ensures ∙ value_within c.args.bits.now _ c.if-j-lt-VARIABLES.true

pub returns-else-j-lt-VARIABLES : goal.returns-else-j-lt-VARIABLES
returns-else-j-lt-VARIABLES c = c.value_of-else-j-lt-VARIABLES.ensures ∙ value_past c.args.bits.now _ c.if-j-lt-VARIABLES.false
