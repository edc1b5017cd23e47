-- The table of a well-formed model is well formed: a reader accepts it, its bytes stand for it, and its size is what the model's items add.
use Rattle.std.specs.Prelude.{◌≡◌}
use Rattle.std.proofs.Common.{◌∙◌}
use Rattle.records.specs.Refusals.{no_refusal}
use Rattle.model_format.specs.declared.Model.{Model}
use Rattle.model_format.specs.WellFormed.{WellFormed}
use Rattle.table_format.specs.Table.{table_of}
use Rattle.table_format.specs.Reading.{read_table}
use Rattle.table_format.specs.WellFormed.{WellFormedTable}
use Rattle.table_format.specs.RoundTrip.{round_trip}
use Rattle.translation.specs.Translate.{table_from, table_bytes}
use Rattle.translation.specs.GoodRules.{rules_good}
use Rattle.translation.specs.GoodStarts.{initial_rising}
use Rattle.translation_sizes.specs.Sizes.{size_of}
use Rattle.translation_sizes.specs.Counts.{size_by}
use Rattle.translation_sizes.proofs.TableCounts.{table_size_lem}
use Rattle.translation_sizes.specs.Items.{item_counts, item_starts}
use Rattle.translation_sizes.specs.Starts.{starts_total}
use Rattle.translation_sizes.proofs.Total.{rules_total}
use Rattle.translation_sizes.proofs.Longest.{table_short}

module _ (m : Model) (w : WellFormed m) where
  table_well_formed : WellFormedTable (table_from m)
  unfolding table_from
  table_well_formed = record { initial = initial_rising m w; rules = rules_good m w; short = table_short m w }

  pub translation_back : (read_table (table_bytes m) ≡ no_refusal) × (table_of (table_bytes m) ≡ table_from m)
  translation_back = round_trip (table_from m) table_well_formed

  pub size_total : size_of (table_bytes m) ≡ size_by (item_starts m.timing) (item_counts m)
  unfolding table_from
  size_total = table_size_lem (table_from m) table_well_formed ∙ rw (starts_total m w.timing, rules_total m w)
