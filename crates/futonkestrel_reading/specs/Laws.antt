-- From what reading leaves in a list of numbers to what a caller has.
use Rattle.std.specs.Prelude.{◌≡◌, Bool, true, false, List, ◌++◌, ℕ, ◌<◌, ◌≤◌, length, take, drop}
use Rattle.std.proofs.Common.{◌∙◌, ap, arith}
use borrow.Author.Tests.{lt-ltb, le-ltb}
use Rattle.records.specs.declared.Cause.TheVariants.{ShortOutput}
use Rattle.records.specs.declared.Refusal.{Refusal}
use Rattle.records.specs.Refusals.{is_none, number_of, in_model}
use Rattle.model_format.specs.Reading.{read_model}
use Rattle.model_words.specs.Words.{model_words, model_in}
use Rattle.model_reader.specs.Reads.{ReadInto}
use Rattle.model_settling.specs.ModelWords.{words_of_model}
use Rattle.futonkestrel_lending.specs.Lending.{Tells, told_refusal}
use Rattle.futonkestrel_lending.specs.Laws.{front_put}
use Rattle.futonkestrel_reading.specs.Reading.{read_answer, read_words, ReadsModel}

-- ---- a model read: on a list that has its numbers and no more
pub read_settled : {model words after x : List ℕ} {f : Refusal} → length words ≡ model_words → ReadInto model words after f → x ≡ words_of_model (model_in after) → x ≡ words_of_model (read_model model).model
read_settled n i e = e ∙ ap words_of_model (i.model (omega arith))

-- judged as f before anything is written; b tells whether nothing is wrong with it
module _ (model words told : List ℕ) {f : Refusal} (e : f ≡ (read_model model).refusal) {b : Bool} (g : b ≡ is_none f.cause) {r : ℕ} {told' : List ℕ} where
  pub read_refused : b ≡ false → Tells f.cause (told_refusal f) told r told' → ReadsModel model words words told r told'
  unfolding read_answer read_words
  read_refused z w = record { tells = rw (← e, ← g, z) w; list = rw (← e, ← g, z, ← g, z) }

  pub read_narrow : {s : Refusal} → b ≡ true → length words < model_words → s ≡ in_model ShortOutput (length model) (length model) → Tells s.cause (told_refusal s) told r told' → ReadsModel model words words told r told'
  unfolding read_answer read_words number_of
  read_narrow z h i w = record { tells = rw (← e, ← g, z, lt-ltb (length words) model_words h) (rw i at w); list = rw (← e, ← g, z, lt-ltb (length words) model_words h) }

  pub read_made : (y : List ℕ) → b ≡ true → model_words ≤ length words → length y ≡ length (take model_words words) → y ≡ words_of_model (read_model model).model →
      Tells f.cause (told_refusal f) told r told' → ReadsModel model words (y ++ drop model_words words) told r told'
  unfolding read_answer read_words
  read_made y z h n i w = record {
    tells = rw (← e, ← g, z, le-ltb (length words) model_words h) w;
    list = rw (← e, ← g, z, le-ltb (length words) model_words h, ← g, z) (front_put model_words words y (words_of_model (read_model model).model) h n i);
  }
