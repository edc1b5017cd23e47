-- What a program promises of the bytes that it reads and prints.
use Rattle.std.specs.Prelude.{◌≡◌, Bool, true, false, ◌&&◌, List, ℕ, take, leb}
use Rattle.command.specs.Counts.{IsPrefixLen}
use Rattle.records.specs.declared.Cause.TheVariants.{BrokenEvent, InconsistentUpdates}
use Rattle.records.specs.Refusals.{number_of}
use Rattle.table_writer.specs.Wrote.{Wrote}
use Rattle.command.specs.declared.Shown.{Shown}

-- What is printed is the listing of the bytes that were read: `out` begins with it, and is untouched behind it. Where a file could not be
-- read, nothing is printed and `out` is untouched.
pub record Shows (listing : List ℕ → List ℕ → List ℕ) (model script before : List ℕ) (r : Shown) (after : List ℕ) : Type 0 where
  pub models : IsPrefixLen r.model model
  pub scripts : IsPrefixLen r.script script
  pub listed : r.good ≡ true → Wrote before 0 (listing (take r.model model) (take r.script script)) after r.printed
  pub unread : r.good ≡ false → (after ≡ before) × (r.printed ≡ 0)

-- "The part refused is handed back from the model or the script, whichever holds it": the numbers of refused events, whose part the script holds
unfoldable pub is_of_event : ℕ → Bool
is_of_event n = leb (number_of BrokenEvent) n && leb n (number_of InconsistentUpdates)
