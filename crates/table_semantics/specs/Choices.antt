-- What firing asks of the enabled rules, and the variables one tick later.
use Rattle.std.specs.Prelude.{List, [], ◌∷◌}
use Rattle.numbers.specs.declared.Value.{Value}
use Rattle.numbers.specs.Lists.{store}
use Rattle.numbers.specs.Values.{natural, plus}
use Rattle.records.specs.declared.Event.{Event}
use Rattle.records.specs.declared.Cause.TheVariants.{NotEnabled, ConflictingRules}
use Rattle.table_format.specs.Table.{Rule}
use Rattle.table_format.specs.Variables.{variables, now_var}
use Rattle.table_semantics.specs.Machine.{refuse, fire, now_in}
use Rattle.table_semantics.specs.declared.Variables.{Variables}
use Rattle.table_semantics.specs.declared.Stepped.{Stepped}

-- none, one or more: all that firing asks of a list of rules
pub data Choice : Type 0 where
  none : Choice
  one : Rule → Choice
  several : Choice

unfoldable pub choice : List Rule → Choice
choice [] = none
choice (r ∷ []) = one r
choice (r ∷ q ∷ l) = several

-- ---- the enabled rules decide
unfoldable pub firing : Variables → Event → Choice → Stepped
firing s e none = refuse NotEnabled s
firing s e (one r) = fire s e (r ∷ [])
firing s e several = refuse ConflictingRules s

-- the variables one tick later
abbrev pub one_tick : List Value → List Value
one_tick v = store variables v now_var (plus (now_in v) (natural 1))
