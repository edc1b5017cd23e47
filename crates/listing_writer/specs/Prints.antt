-- What writing a listing promises, and what the open calls promise that hand the refused record back.
use Rattle.std.specs.Prelude.{◌≡◌, List, [], ◌∷◌, ℕ, min, length}
use Rattle.std.proofs.lemmas.List.Edits.{sets}
use Rattle.records.specs.declared.Notation.{Notation}
use Rattle.records.specs.declared.Refusal.{Refusal}
use Rattle.records.specs.Refusals.{number_of, part_of}
use Rattle.table_writer.specs.Wrote.{Wrote, farthest}
use Rattle.listing.specs.Outcomes.{cut_part}
use Rattle.listing_writer.specs.declared.Printed.{Printed}

-- the text lies at the start of the slice, and the refusal told is the one that stopped the run
pub record Prints (text : List ℕ) (refused : Refusal) (before : List ℕ) (r : Printed) (after : List ℕ) : Type 0 where
  pub wrote : Wrote before 0 text after r.length
  pub told : r.refusal ≡ refused

-- what is told beside the part, in this order; a slice with fewer places gets as many
abbrev pub told_printed : ℕ → Refusal → List ℕ
told_printed n r = n ∷ number_of r.cause ∷ r.start ∷ r.end ∷ []

-- "The part refused is handed back from the model or the script, whichever holds it": w is the notation of the model, or of the table
-- that stands for it. The part has the bytes that the refusal names, and they are what cutting the input gives at its place.
pub record HandsBack (w : Notation) (text : List ℕ) (refused : Refusal) (model script out told part out_after told_after : List ℕ) : Type 0 where
  pub wrote : Wrote out 0 text out_after (min (length text) farthest)
  pub tells : told_after ≡ sets told 0 (told_printed (min (length text) farthest) refused)
  pub is_part : part ≡ part_of refused model script
  pub is_cut : part ≡ cut_part w refused model script
