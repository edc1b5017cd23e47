-- What `make_table` promises of the bytes that it reads, writes and prints.
use Rattle.std.specs.Prelude.{◌≡◌, true, false, cond, List, [], ℕ, take, length}
use Rattle.command.specs.Counts.{IsPrefixLen}
use Rattle.records.specs.Refusals.{is_none}
use Rattle.translation.specs.Translate.{translated, output_after}
use Rattle.listing.specs.Listing.{refused_listing}
use Rattle.table_writer.specs.Wrote.{Wrote}
use Rattle.make_table.specs.declared.Made.{Made}

-- what is printed: nothing where the table is made, else the last line
abbrev pub made_text : List ℕ → ℕ → List ℕ
made_text model room = let c = (translated model room).refusal.cause in cond (is_none c) [] (refused_listing c)

-- The table of the bytes that were read lies at the start of `table`, which is else untouched; `out` begins with what is printed, and is
-- untouched behind it. Where the file could not be read, nothing is made or printed and both are untouched.
pub record Makes (model table out : List ℕ) (r : Made) (table_after out_after : List ℕ) : Type 0 where
  pub models : IsPrefixLen r.model model
  pub translates : r.good ≡ true → (table_after ≡ output_after (take r.model model) table) × (r.bytes ≡ (translated (take r.model model) (length table)).bytes)
  pub prints : r.good ≡ true → Wrote out 0 (made_text (take r.model model) (length table)) out_after r.printed
  pub unread : r.good ≡ false → (table_after ≡ table) × (out_after ≡ out) × (r.bytes ≡ 0) × (r.printed ≡ 0)
