-- What telling the size of a table beforehand promises.
use Rattle.std.specs.Prelude.{◌≡◌, cond, List, ℕ, length, ltb}
use Rattle.records.specs.declared.Cause.TheVariants.{ShortOutput}
use Rattle.records.specs.Refusals.{is_none, in_model, no_refusal}
use Rattle.translation.specs.declared.Translation.{Translation}
use Rattle.translation.specs.Translate.{translated}
use Rattle.translation_sizes.specs.declared.Sized.{Sized}
use Rattle.translation_sizes.specs.Sizes.{sized}

-- a table of so many bytes, translated into an output of so many: "8 appears just when the output is shorter than the byte count"
abbrev pub written : List ℕ → ℕ → ℕ → Translation
written model bytes room =
    cond (ltb room bytes) (record { refusal = in_model ShortOutput (length model) (length model); bytes = 0 }) (record { refusal = no_refusal; bytes = bytes })

-- what is told, and what every translation of the model then gives
pub record Foretells (model : List ℕ) (result : Sized) : Type 0 where
  pub told : result ≡ sized model
  pub translates : (room : ℕ) → translated model room ≡ cond (is_none result.refusal.cause) (written model result.size.bytes room) (record { refusal = result.refusal; bytes = 0 })
