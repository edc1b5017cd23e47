-- Laws of the listing of a table's run: r is what reading the table gave, b whether it was accepted.
use Rattle.std.specs.Prelude.{◌≡◌, Bool, true, false, List, ℕ}
use Rattle.records.specs.declared.Refusal.{Refusal}
use Rattle.records.specs.Refusals.{is_none}
use Rattle.table_format.specs.Table.{table_of}
use Rattle.table_format.specs.Reading.{read_table}
use Rattle.table_semantics.specs.Machine.{start_variables, clock_of, machine_of, run_table}
use Rattle.listing.specs.Listing.{listing, refused_listing}
use Rattle.listing.specs.Programs.{table_listing}
use Rattle.listing.specs.Outcomes.{table_outcome}
use Rattle.listing_writer.specs.declared.Printed.{Printed}
use Rattle.table_writer.specs.Wrote.{Wrote}
use Rattle.listing_writer.specs.PrintLaws.{prints_end}
use Rattle.listing_writer.specs.Prints.{Prints}

module _ {d e : List ℕ} {x : Printed} (table script : List ℕ) (r : Refusal) (b : Bool) (h : r ≡ read_table table) (g : b ≡ is_none r.cause) where
  pub table_run : b ≡ true → Prints (listing (machine_of (table_of table).rules) clock_of (start_variables (table_of table)) script) (run_table table script).refusal d x e →
      Prints (table_listing table script) (table_outcome table script).refusal d x e
  unfolding table_listing table_outcome
  table_run t w = rw (← h, ← g, t) w

  pub table_refused : b ≡ false → (Wrote d 0 (refused_listing r.cause) e x.length × (x.refusal ≡ r)) → Prints (table_listing table script) (table_outcome table script).refusal d x e
  unfolding table_listing table_outcome
  table_refused t w = rw (← h, ← g, t) (prints_end w)
