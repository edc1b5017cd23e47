-- "Given a model, tell the table's bytes, rules, clauses, atoms and updates": what they are, over the table's bytes as laid down.
use Rattle.std.specs.Prelude.{cond, List, [], ◌∷◌, ℕ, ◌+◌, length, eqb}
use Rattle.records.specs.Kinds.{table_rule, table_clause, table_atom, table_update}
use Rattle.records.specs.Refusals.{is_none, no_refusal}
use Rattle.model_format.specs.Reading.{read_model}
use Rattle.table_format.specs.declared.Record.{Record}
use Rattle.table_format.specs.Format.{records, kind_of}
use Rattle.translation.specs.Translate.{table_bytes}
use Rattle.translation_sizes.specs.declared.TableSize.{TableSize}
use Rattle.translation_sizes.specs.declared.Sized.{Sized}

-- how many of the records are of a kind
unfoldable pub count_of : ℕ → List Record → ℕ
count_of kind [] = 0
count_of kind (x ∷ l) = cond (eqb (kind_of x) kind) 1 0 + count_of kind l

-- "The byte count equals what is then written, each other count the records of its kind there"
unfoldable pub size_of : List ℕ → TableSize
size_of table = record {
  bytes = length table;
  rules = count_of table_rule (records table);
  clauses = count_of table_clause (records table);
  atoms = count_of table_atom (records table);
  updates = count_of table_update (records table);
}

abbrev pub no_size : TableSize
no_size = record { bytes = 0; rules = 0; clauses = 0; atoms = 0; updates = 0 }

-- "Every model gets the refusals of translation, 8 aside": the refusal of reading, and no counts; or the size of the table
unfoldable pub sized : List ℕ → Sized
sized model =
    let r = read_model model in
    cond (is_none r.refusal.cause) (record { refusal = no_refusal; size = size_of (table_bytes r.model) }) (record { refusal = r.refusal; size = no_size })
