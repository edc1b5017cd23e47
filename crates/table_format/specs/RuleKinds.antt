-- The kinds of events that have rules.
use Rattle.std.specs.Prelude.{Bool, false, ◌||◌, List, [], ◌∷◌, ℕ, eqb}
use Rattle.records.specs.Events.{activate_kind, deactivate_kind, dispatch_kind, start_kind, complete_kind, deadline_kind, miss_kind, request_kind, enter_kind, leave_kind}

-- "event kind (01 to 0A)", in the order of a made table
abbrev pub rule_kinds : List ℕ
rule_kinds = activate_kind ∷ deactivate_kind ∷ dispatch_kind ∷ start_kind ∷ complete_kind ∷ deadline_kind ∷ miss_kind ∷ request_kind ∷ enter_kind ∷ leave_kind ∷ []

unfoldable pub is_one_of : List ℕ → ℕ → Bool
is_one_of [] k = false
is_one_of (x ∷ l) k = eqb k x || is_one_of l k

abbrev pub has_rules : ℕ → Bool
has_rules kind = is_one_of rule_kinds kind
