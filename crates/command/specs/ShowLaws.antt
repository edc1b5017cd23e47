-- Laws of what a program prints.
use Rattle.std.specs.Prelude.{◌≡◌, refl, true, false, List, ℕ, take, get_or, replicate}
use Rattle.std.proofs.Common.{sym, true≢false}
use Rattle.command.specs.Counts.{IsPrefixLen}
use Rattle.records.specs.declared.Notation.{Notation}
use Rattle.records.specs.declared.Refusal.{Refusal}
use Rattle.table_writer.specs.Wrote.{Wrote}
use Rattle.listing_writer.specs.Prints.{HandsBack}
use Rattle.command.specs.declared.Shown.{Shown}
use Rattle.command.specs.Shows.{Shows}

module _ {listing : List ℕ → List ℕ → List ℕ} {model script : List ℕ} (r : Shown) (m s : ℕ) (a : IsPrefixLen m model) (b : IsPrefixLen s script) where
  pub shows_nothing : {out : List ℕ} → r ≡ record { model = m; script = s; good = false; printed = 0 } → Shows listing model script out r out
  shows_nothing e = rw e (record { models = a; scripts = b; listed = λ p. absurd (true≢false (sym p)); unread = λ p. (refl, refl) })

  pub shows_listing : {before after : List ℕ} (n : ℕ) → r ≡ record { model = m; script = s; good = true; printed = n } →
      Wrote before 0 (listing (take m model) (take s script)) after n → Shows listing model script before r after
  shows_listing n e w = rw e (record { models = a; scripts = b; listed = λ p. w; unread = λ p. absurd (true≢false p) })

-- of the four numbers that are told, the first is the length of the listing
pub length_told : {w : Notation} {text : List ℕ} {refused : Refusal} {model script out part out_after told_after : List ℕ} →
    HandsBack w text refused model script out (replicate 4 0) part out_after told_after → Wrote out 0 text out_after (get_or told_after 0 0)
length_told h = rw h.tells h.wrote
