-- What a caller is told of the enabled events, and the list of numbers that it lends for them.
use Rattle.std.specs.Prelude.{Bool, false, cond, List, ℕ, ◌*◌, ltb, length}
use Rattle.std.proofs.lemmas.List.Edits.{sets}
use Rattle.records.specs.declared.Cause.TheVariants.{None, ShortOutput}
use Rattle.enabled.specs.declared.Enabled.{Enabled}
use Rattle.enabled.specs.Enabled.{Offer, numbers_of}

-- how many numbers an event takes
abbrev pub offer_size : ℕ
offer_size = 4

-- so many numbers are no room for all events
unfoldable pub is_short : List Offer → ℕ → Bool
is_short offers room = ltb room (offer_size * length offers)

-- 8 where there is no room, "the output is too short"; the count tells how much room the events take
unfoldable pub told_of : List Offer → Bool → ℕ → Enabled
told_of offers tick room = record { answer = cond (is_short offers room) ShortOutput None; count = length offers; tick = tick }

-- the numbers from the start of the list on; where there is no room for all, the list as it was
unfoldable pub list_of : List Offer → List ℕ → List ℕ
list_of offers d = cond (is_short offers (length d)) d (sets d 0 (numbers_of offers))

-- ---- by a lent list that stands for a state where it has so many numbers: fewer hold none, and nothing is enabled
abbrev pub nothing_told : Enabled
nothing_told = record { answer = ShortOutput; count = 0; tick = false }

unfoldable pub told_from : ℕ → List ℕ → List Offer → Bool → ℕ → Enabled
told_from size lent offers tick room = cond (ltb (length lent) size) nothing_told (told_of offers tick room)

unfoldable pub list_from : ℕ → List ℕ → List Offer → List ℕ → List ℕ
list_from size lent offers d = cond (ltb (length lent) size) d (list_of offers d)
