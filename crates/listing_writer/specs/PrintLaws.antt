-- Laws of listings and of the refused record that is handed back.
use Rattle.std.specs.Prelude.{◌≡◌, List, ℕ, min, length}
use Rattle.std.proofs.Common.{◌∙◌, arith}
use Rattle.std.proofs.lemmas.List.Edits.{sets}
use Rattle.records.specs.declared.Notation.{Notation}
use Rattle.records.specs.declared.Refusal.{Refusal}
use Rattle.records.specs.Refusals.{part_of}
use Rattle.listing.specs.Listing.{refused_listing}
use Rattle.table_writer.specs.Wrote.{Wrote, farthest}
use Rattle.listing.specs.Outcomes.{cut_part}
use Rattle.listing_writer.specs.declared.Printed.{Printed}
use Rattle.listing_writer.specs.Prints.{Prints, told_printed, HandsBack}

-- the last line alone
pub prints_end : {c : Refusal} {d e : List ℕ} {x : Printed} → (Wrote d 0 (refused_listing c.cause) e x.length × (x.refusal ≡ c)) → Prints (refused_listing c.cause) c d x e
prints_end w = record { wrote = w.0; told = w.1 }

module _ {w : Notation} {text : List ℕ} {refused : Refusal} {model script out told part out_after told_after : List ℕ} where
  pub hands_back : (r : Printed) → Prints text refused out r out_after → told_after ≡ sets told 0 (told_printed r.length r.refusal) →
      part ≡ part_of r.refusal model script → part_of refused model script ≡ cut_part w refused model script →
      HandsBack w text refused model script out told part out_after told_after
  hands_back r p t h c =
      let n : r.length ≡ min (length text) farthest = let e = p.wrote.place in omega arith in
      record {
        wrote = rw n at p.wrote;
        tells = rw (p.told, n) at t;
        is_part = rw p.told at h;
        is_cut = (rw p.told at h) ∙ c;
      }
