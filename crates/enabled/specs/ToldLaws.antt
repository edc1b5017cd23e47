-- Laws of what is told of the enabled events, and of their numbers.
use Rattle.std.specs.Prelude.{◌≡◌, refl, Bool, List, [], ◌∷◌, ◌++◌, ℕ, ◌*◌, ◌<◌, ◌≤◌}
use Rattle.std.proofs.Common.{arith, length, lt-ltb, le-ltb}
use Rattle.std.proofs.lemmas.List.Edits.{sets}
use Rattle.records.specs.declared.Cause.TheVariants.{None, ShortOutput}
use Rattle.enabled.specs.declared.Enabled.{Enabled}
use Rattle.enabled.specs.Enabled.{Offer, numbers_of}
use Rattle.enabled.specs.Told.{offer_size, is_short, told_of, list_of, nothing_told, told_from, list_from}

-- ---- numbers
pub numbers_append : (a b : List Offer) → numbers_of (a ++ b) ≡ numbers_of a ++ numbers_of b
unfolding numbers_of
numbers_append [] b = refl
numbers_append (o ∷ a) b = rw (numbers_append a b)

pub length_numbers : (l : List Offer) → length (numbers_of l) ≡ offer_size * length l
unfolding numbers_of
length_numbers [] = refl
length_numbers (o ∷ l) = let h = length_numbers l in omega arith

-- ---- what is told, and the list afterwards
abbrev pub Tells : List Offer → Bool → List ℕ → Enabled → List ℕ → Type 0
Tells offers tick d r after = (r ≡ told_of offers tick (length d)) × (after ≡ list_of offers d)

abbrev pub TellsFrom : ℕ → List ℕ → List Offer → Bool → List ℕ → Enabled → List ℕ → Type 0
TellsFrom size lent offers tick d r after = (r ≡ told_from size lent offers tick (length d)) × (after ≡ list_from size lent offers d)

module _ (offers : List Offer) (tick : Bool) (d : List ℕ) {n : ℕ} {t : Bool} (c : n ≡ length offers) (e : t ≡ tick) where
  pub told_short : length d < offer_size * n → Tells offers tick d (record { answer = ShortOutput; count = n; tick = t }) d
  unfolding told_of list_of is_short
  told_short l = let b = lt-ltb (length d) (offer_size * length offers) (rw c at l) in rw (b, c, e) (refl, refl)

  pub told_fits : {after : List ℕ} → offer_size * n ≤ length d → after ≡ sets d 0 (numbers_of offers) → Tells offers tick d (record { answer = None; count = n; tick = t }) after
  unfolding told_of list_of is_short
  told_fits l w = let b = le-ltb (length d) (offer_size * length offers) (rw c at l) in rw (b, c, e) (refl, w)

module _ (size : ℕ) (lent : List ℕ) (offers : List Offer) (tick : Bool) (d : List ℕ) where
  pub from_short : length lent < size → TellsFrom size lent offers tick d nothing_told d
  unfolding told_from list_from
  from_short l = rw (lt-ltb (length lent) size l) (refl, refl)

  pub from_all : {r : Enabled} {after : List ℕ} → size ≤ length lent → Tells offers tick d r after → TellsFrom size lent offers tick d r after
  unfolding told_from list_from
  from_all l w = rw (le-ltb (length lent) size l) w
