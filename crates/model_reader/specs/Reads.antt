-- Reading a model into a list of numbers that the caller lends.
use Rattle.std.specs.Prelude.{◌≡◌, cond, List, ℕ, ◌<◌, ◌≤◌, length, drop, ltb}
use Rattle.records.specs.declared.Refusal.{Refusal}
use Rattle.records.specs.declared.Cause.TheVariants.{ShortOutput}
use Rattle.records.specs.Refusals.{is_none, in_model}
use Rattle.model_format.specs.declared.ModelRead.{ModelRead}
use Rattle.model_format.specs.Model.{empty_model}
use Rattle.model_format.specs.Reading.{read_model}
use Rattle.model_words.specs.Words.{model_words, model_in}

-- what reading gave, with the list that holds the model
abbrev pub read_as : Refusal → List ℕ → ModelRead
read_as r l = record { refusal = r; model = model_in l }

-- the same where the list of a refused model has the records before the bad one
abbrev pub read_with : Refusal → List ℕ → ModelRead
read_with r l = record { refusal = r; model = cond (is_none r.cause) (model_in l) empty_model }

-- "8 .. output too small", at the end of the model; else what is wrong with the model
unfoldable pub read_refusal : List ℕ → List ℕ → Refusal
read_refusal s l = cond (ltb (length l) model_words) (in_model ShortOutput (length s) (length s)) (read_model s).refusal

-- The bytes s are read into the list l, which becomes l': the model, or the empty one where it is refused; numbers past a model's stay. A
-- list that is too short stays as it was.
pub record ReadInto (s l l' : List ℕ) (r : Refusal) : Type 0 where
  pub refusal : r ≡ read_refusal s l
  pub model : model_words ≤ length l → model_in l' ≡ (read_model s).model
  pub rest : model_words ≤ length l → drop model_words l' ≡ drop model_words l
  pub kept : length l < model_words → l' ≡ l
