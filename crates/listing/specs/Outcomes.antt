-- What a run comes to, from the bytes that are given, and the part that its refusal hands back.
use Rattle.std.specs.Prelude.{cond, List, [], ℕ, length, take, drop, ltb}
use Rattle.records.specs.declared.Notation.{Notation}
use Rattle.records.specs.declared.Notation.TheVariants as notations
use Rattle.records.specs.declared.Holder.{Holder}
use Rattle.records.specs.declared.Holder.TheVariants as holders
use Rattle.records.specs.declared.Refusal.{Refusal}
use Rattle.records.specs.Format.{part_length_at}
use Rattle.records.specs.Refusals.{is_none}
use Rattle.records.specs.Run.{Ended}
use Rattle.model_format.specs.Reading.{read_model}
use Rattle.model_semantics.specs.State.{now_of}
use Rattle.model_semantics.specs.Machine.{run_model}
use Rattle.table_format.specs.Reading.{read_table, longest_table}
use Rattle.table_semantics.specs.Machine.{clock_of, run_table}
use Rattle.translation.specs.Translate.{translated, table_bytes}
use Rattle.listing.specs.Programs.{room}

-- "A run stops at the first refusal and tells the events taken"; a model or table that is refused takes no event.
pub record Outcome : Type 0 where
  pub refusal : Refusal
  pub taken : ℕ
  pub clock : ℕ

abbrev pub refused_outcome : Refusal → Outcome
refused_outcome r = record { refusal = r; taken = 0; clock = 0 }

abbrev pub outcome_of : {S : Type 0} → (S → ℕ) → Ended S → Outcome
outcome_of clock e = record { refusal = e.refusal; taken = e.taken; clock = clock e.state }

-- the run of a model
unfoldable pub model_outcome : List ℕ → List ℕ → Outcome
model_outcome model script =
    let r = read_model model in
    cond (is_none r.refusal.cause) (outcome_of now_of (run_model r.model script)) (refused_outcome r.refusal)

-- the run of a table
unfoldable pub table_outcome : List ℕ → List ℕ → Outcome
table_outcome table script =
    let r = read_table table in
    cond (is_none r.cause) (outcome_of clock_of (run_table table script)) (refused_outcome r)

-- the run of a model's table, where there is room for it
unfoldable pub rules_outcome : List ℕ → List ℕ → Outcome
rules_outcome model script =
    let r = translated model room in
    cond (is_none r.refusal.cause) (table_outcome (table_bytes (read_model model).model) script) (refused_outcome r.refusal)

-- "kind byte to body end, or to the input's end if cut or unknown": what cutting an input gives at a place; nothing at its end.
abbrev pub cut_at : Notation → List ℕ → ℕ → List ℕ
cut_at w s p = take (part_length_at w s p) (drop p s)

-- "A table too long hands back its whole, before any record is read."
unfoldable pub part_of_input : Notation → List ℕ → ℕ → List ℕ
part_of_input notations.Model s p = cut_at notations.Model s p
part_of_input notations.Table s p = cond (ltb longest_table (length s)) s (cut_at notations.Table s p)
part_of_input notations.Script s p = cut_at notations.Script s p

-- "from the model or the script, whichever holds it"; w is the notation of the model, or of the table that stands for it.
unfoldable pub part_in : Holder → Notation → ℕ → List ℕ → List ℕ → List ℕ
part_in holders.Model w p model script = part_of_input w model p
part_in holders.Script w p model script = part_of_input notations.Script script p

-- "The part refused", from the place of the refusal alone; empty where nothing is refused.
unfoldable pub cut_part : Notation → Refusal → List ℕ → List ℕ → List ℕ
cut_part w r model script = cond (is_none r.cause) [] (part_in r.holder w r.start model script)
