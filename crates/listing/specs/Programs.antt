-- What the programs print, from the bytes that they read.
use Rattle.std.specs.Prelude.{◌≡◌, true, cond, List, ℕ}
use Rattle.records.specs.Refusals.{is_none}
use Rattle.model_format.specs.Reading.{read_model}
use Rattle.model_semantics.specs.State.{now_of}
use Rattle.model_semantics.specs.Machine.{start_state, machine_of as model_machine}
use Rattle.table_format.specs.Table.{table_of}
use Rattle.table_format.specs.Reading.{read_table}
use Rattle.table_semantics.specs.Machine.{start_variables, clock_of, machine_of as table_machine}
use Rattle.translation.specs.Translate.{translated, table_bytes}
use Rattle.listing.specs.Listing.{listing, refused_listing}

-- "the first 65,536 bytes of each file; 8 for a longer table"
abbrev pub room : ℕ
room = 65536

-- `steps`: the run of a model
unfoldable pub steps_listing : List ℕ → List ℕ → List ℕ
steps_listing model script =
    let r = read_model model in
    let lines = listing (model_machine r.model) now_of (start_state r.model.timing) script in
    cond (is_none r.refusal.cause) lines (refused_listing r.refusal.cause)

-- the run of a table
unfoldable pub table_listing : List ℕ → List ℕ → List ℕ
table_listing table script =
    let lines = listing (table_machine (table_of table).rules) clock_of (start_variables (table_of table)) script in
    cond (is_none (read_table table).cause) lines (refused_listing (read_table table).cause)

-- "`rules` translates first and prints the same"
unfoldable pub rules_listing : List ℕ → List ℕ → List ℕ
rules_listing model script =
    let r = translated model room in
    let lines = table_listing (table_bytes (read_model model).model) script in
    cond (is_none r.refusal.cause) lines (refused_listing r.refusal.cause)

-- "prints the same": where the table is made, the two listings are equal bytes
abbrev pub PrintsSame : List ℕ → List ℕ → Type 0
PrintsSame model script = is_none (translated model room).refusal.cause ≡ true → rules_listing model script ≡ steps_listing model script
