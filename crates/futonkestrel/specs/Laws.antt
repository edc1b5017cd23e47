-- From what translating promises to what a caller of the static library has.
use Rattle.std.proofs.Common.{sym, ◌∙◌, eq-eqb}
use Rattle.std.specs.Prelude.{List, ℕ}
use Rattle.records.specs.Refusals.{number_of}
use Rattle.translation.specs.declared.Translation.{Translation}
use Rattle.translator.specs.Translates.{Translates}
use Rattle.futonkestrel_lending.specs.Lending.{Tells, told_translation}
use Rattle.futonkestrel.specs.Exports.{Exports}

pub exported : {model out after before told : List ℕ} {r : ℕ} {t : Translation} → Translates model out t after →
    Tells t.refusal.cause (told_translation t) before r told → Exports model out after before r told
exported {t = result} t w = record {
  tells = rw t.told at w;
  output = t.output;
  simulated = λ script z. rw (← t.told) (t.simulated script (eq-eqb (number_of result.refusal.cause) 0 (sym w.number ∙ z)));
  offered = λ script z. rw (← t.told) (t.offered script (eq-eqb (number_of result.refusal.cause) 0 (sym w.number ∙ z)));
}
