-- By the index that is made of a table, and by none, what is offered is what the table's rules offer.
use Rattle.std.specs.Prelude.{◌≡◌, List, [], ℕ, length}
use Rattle.std.proofs.Common.{ap}
use Rattle.std.proofs.lemmas.List.Edits.{sets}
use Rattle.table_format.specs.Table.{Rule, table_of}
use Rattle.table_semantics.specs.Runs.{values}
use Rattle.table_index.specs.Index.{index_of, rules_by}
use Rattle.table_index.specs.IndexLaws.{rules_by_made, rules_by_none}
use Rattle.enabled.specs.Enabled.{table_offers, table_may_tick}
use Rattle.table_enabled.specs.EnabledBy.{offers_in}

pub offers_by_made : (s d d' b : List ℕ) → d' ≡ sets d 0 (index_of s (length d)) →
    (offers_in s d' b ≡ table_offers (table_of s).rules (values b)) × (table_may_tick (rules_by s d') (values b) ≡ table_may_tick (table_of s).rules (values b))
offers_by_made s d d' b e = let r = rules_by_made s d d' e in (ap (λ (l : List Rule). table_offers l (values b)) r, ap (λ (l : List Rule). table_may_tick l (values b)) r)

pub offers_by_none : (s b : List ℕ) →
    (offers_in s [] b ≡ table_offers (table_of s).rules (values b)) × (table_may_tick (rules_by s []) (values b) ≡ table_may_tick (table_of s).rules (values b))
offers_by_none s b = let r = rules_by_none s in (ap (λ (l : List Rule). table_offers l (values b)) r, ap (λ (l : List Rule). table_may_tick l (values b)) r)
