-- The refusals: their numbers, and the part that each hands back.
use Rattle.std.specs.Prelude.{Bool, ◌||◌, List, ℕ, ◌-◌, take, drop, eqb}
use Rattle.records.specs.declared.Cause.{Cause}
use Rattle.records.specs.declared.Cause.TheVariants.{None, CutRecord, WrongKind, TooMany, WrongField, OtherThread, SetTwice, LongHyperperiod, ShortOutput, BrokenEvent, NotEnabled, LastClock, ConflictingRules, InconsistentUpdates, NamesNothing, FaultyTime}
use Rattle.records.specs.declared.Holder.{Holder}
use Rattle.records.specs.declared.Holder.TheVariants as holders
use Rattle.records.specs.declared.Refusal.{Refusal}

-- "Refused records", and document 02's "14 names nothing, 15 faulty time": the number of each cause; 0 where nothing is refused
unfoldable pub number_of : Cause → ℕ
number_of None = 0
number_of CutRecord = 1
number_of WrongKind = 2
number_of TooMany = 3
number_of WrongField = 4
number_of OtherThread = 5
number_of SetTwice = 6
number_of LongHyperperiod = 7
number_of ShortOutput = 8
number_of BrokenEvent = 9
number_of NotEnabled = 10
number_of LastClock = 11
number_of ConflictingRules = 12
number_of InconsistentUpdates = 13
number_of NamesNothing = 14
number_of FaultyTime = 15

-- nothing is refused
abbrev pub is_none : Cause → Bool
is_none c = eqb (number_of c) 0

-- a field of a record is at fault: "14, 15, then 4 stand in the old place of 4"
unfoldable pub is_field_fault : Cause → Bool
is_field_fault c = eqb (number_of c) 14 || (eqb (number_of c) 15 || eqb (number_of c) 4)

abbrev pub in_model : Cause → ℕ → ℕ → Refusal
in_model c p q = record { cause = c; holder = holders.Model; start = p; end = q }

abbrev pub in_script : Cause → ℕ → ℕ → Refusal
in_script c p q = record { cause = c; holder = holders.Script; start = p; end = q }

abbrev pub no_refusal : Refusal
no_refusal = in_model None 0 0

-- "The part refused is handed back from the model or the script, whichever holds it"
abbrev pub chosen_slice : Holder → List ℕ → List ℕ → List ℕ
chosen_slice holders.Model m s = m
chosen_slice holders.Script m s = s

unfoldable pub part_of : Refusal → List ℕ → List ℕ → List ℕ
part_of r m s = take (r.end - r.start) (drop r.start (chosen_slice r.holder m s))
