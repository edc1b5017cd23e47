-- What is enabled of a table, an index of any content and variables that a caller lends: what is told of it, and the list of numbers.
use Rattle.std.specs.Prelude.{Bool, List, ℕ, take}
use Rattle.table_format.specs.Variables.{variables}
use Rattle.table_semantics.specs.Runs.{values}
use Rattle.table_index.specs.Index.{rules_by}
use Rattle.enabled.specs.declared.Enabled.{Enabled}
use Rattle.enabled.specs.Enabled.{Offer, table_offers, table_may_tick}
use Rattle.enabled.specs.Told.{told_from, list_from}

-- ---- by as many variables as there are
abbrev pub offers_in : List ℕ → List ℕ → List ℕ → List Offer
offers_in table index bits = table_offers (rules_by table index) (values bits)

abbrev pub may_tick_in : List ℕ → List ℕ → List ℕ → Bool
may_tick_in table index bits = table_may_tick (rules_by table index) (values bits)

-- ---- by the variables of a slice: what lies behind them is no concern of ours
unfoldable pub enabled_by : List ℕ → List ℕ → List ℕ → ℕ → Enabled
enabled_by table index lent room = told_from variables lent (offers_in table index (take variables lent)) (may_tick_in table index (take variables lent)) room

unfoldable pub list_by : List ℕ → List ℕ → List ℕ → List ℕ → List ℕ
list_by table index lent out = list_from variables lent (offers_in table index (take variables lent)) out
