-- Translating a model: its table to the byte, and refusal 8.
use Rattle.std.specs.Prelude.{cond, not, List, ◌++◌, ℕ, length, drop, ltb}
use Rattle.numbers.specs.Lists.{join_below, only}
use Rattle.numbers.specs.Values.{natural, same_value}
use Rattle.records.specs.declared.Cause.TheVariants.{ShortOutput}
use Rattle.records.specs.Refusals.{is_none, in_model, no_refusal}
use Rattle.model_format.specs.declared.Model.{Model}
use Rattle.model_format.specs.Reading.{read_model}
use Rattle.model_semantics.specs.Machine.{start_state}
use Rattle.table_format.specs.declared.InitialValue.{InitialValue}
use Rattle.table_format.specs.Variables.{variables}
use Rattle.table_format.specs.Table.{Table, encode}
use Rattle.translation.specs.declared.Translation.{Translation}
use Rattle.translation.specs.Shown.{stands_for}
use Rattle.translation.specs.Rules.{rules_of}

-- "Starts for variables not 0"
unfoldable pub initial_of : Model → List InitialValue
initial_of m =
    join_below variables (λ j. let v = stands_for m.timing (start_state m.timing) j in only (not (same_value v (natural 0))) (record { variable = j; value = v }))

unfoldable pub table_from : Model → Table
table_from m = record { initial = initial_of m; rules = rules_of m }

-- the bytes of the table of a model
abbrev pub table_bytes : Model → List ℕ
table_bytes m = encode (table_from m)

-- the refusal of the model, or 8, "output shorter than the table", with the "empty part at the model's end", or how many bytes are written
unfoldable pub translated : List ℕ → ℕ → Translation
translated model room =
    let r = read_model model in
    let b = table_bytes r.model in
    cond (is_none r.refusal.cause)
    (cond (ltb room (length b)) (record { refusal = in_model ShortOutput (length model) (length model); bytes = 0 }) (record { refusal = no_refusal; bytes = length b }))
    (record { refusal = r.refusal; bytes = 0 })

-- the output afterwards: the table and what lay past it, or the output as it was
unfoldable pub output_after : List ℕ → List ℕ → List ℕ
output_after model out =
    let b = table_bytes (read_model model).model in
    cond (is_none (translated model (length out)).refusal.cause) (b ++ drop (length b) out) out
