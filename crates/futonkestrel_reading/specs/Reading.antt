-- What is promised to callers who have a model read into numbers of their own: what is told, and every number that they lend.
use Rattle.std.specs.Prelude.{◌≡◌, cond, List, ℕ, length, ltb}
use Rattle.std.proofs.lemmas.List.Edits.{sets}
use Rattle.records.specs.declared.Cause.TheVariants.{ShortOutput}
use Rattle.records.specs.declared.Refusal.{Refusal}
use Rattle.records.specs.Refusals.{is_none, in_model}
use Rattle.model_format.specs.Reading.{read_model}
use Rattle.model_words.specs.Words.{model_words}
use Rattle.model_settling.specs.ModelWords.{words_of_model}
use Rattle.futonkestrel_lending.specs.Lending.{Tells, told_refusal}

-- as of a translation the refusal of the model, or 8, with the "empty part at the model's end", where there is room for fewer numbers than a
-- model takes
unfoldable pub read_answer : List ℕ → ℕ → Refusal
read_answer model room =
    let r = (read_model model).refusal in
    cond (is_none r.cause) (cond (ltb room model_words) (in_model ShortOutput (length model) (length model)) r) r

-- the list afterwards: the numbers of the model and what lay behind them, or the list as it was
unfoldable pub read_words : List ℕ → List ℕ → List ℕ
read_words model words = cond (is_none (read_answer model (length words)).cause) (sets words 0 (words_of_model (read_model model).model)) words

-- with the number of what is refused, and where it is
pub record ReadsModel (model words after told : List ℕ) (r : ℕ) (told' : List ℕ) : Type 0 where
  pub tells : Tells (read_answer model (length words)).cause (told_refusal (read_answer model (length words))) told r told'
  pub list : after ≡ read_words model words
