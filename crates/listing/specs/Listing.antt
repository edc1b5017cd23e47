-- "Decimal lines: step, clock after, kind, id or n. Last: taken, refusal (0 none), clock".
use Rattle.std.specs.Prelude.{cond, List, [], ◌∷◌, ◌++◌, ℕ, zero, suc, ◌+◌, ◌/◌, ◌%◌, ltb}
use Rattle.records.specs.declared.Event.{Event}
use Rattle.records.specs.declared.Cause.{Cause}
use Rattle.records.specs.declared.Notation.TheVariants.{Script}
use Rattle.records.specs.Format.{parts}
use Rattle.records.specs.Refusals.{number_of, is_none}
use Rattle.records.specs.Events.{event_of, figure_of}
use Rattle.records.specs.Run.{Machine}

-- the byte of the digit 0; those of the others follow
abbrev pub zero_digit : ℕ
zero_digit = 48

-- the decimal digits of a number, before the bytes r; f digits at most
unfoldable pub digits_in : ℕ → ℕ → List ℕ → List ℕ
digits_in zero n r = r
digits_in (suc f) n r =
    let d = (zero_digit + n % 10) ∷ r in
    let more = digits_in f (n / 10) d in
    cond (ltb n 10) d more

-- a number of 64 bits has no more
abbrev pub most_digits : ℕ
most_digits = 20

abbrev pub decimal : ℕ → List ℕ → List ℕ
decimal n r = digits_in most_digits n r

abbrev pub space : ℕ
space = 32

abbrev pub newline : ℕ
newline = 10

-- the line of the event that was taken as the given step
unfoldable pub line : ℕ → ℕ → Event → List ℕ
line step clock e =
    decimal step (space ∷ decimal clock (space ∷ decimal e.kind (space ∷ decimal (figure_of e) (newline ∷ []))))

-- the bytes of "end", before the bytes r
abbrev pub end_text : List ℕ → List ℕ
end_text r = 101 ∷ 110 ∷ 100 ∷ r

-- the last line: "end", events taken, refusal, clock
unfoldable pub last_line : ℕ → Cause → ℕ → List ℕ
last_line taken c clock =
    end_text (space ∷ decimal taken (space ∷ decimal (number_of c) (space ∷ decimal clock (newline ∷ []))))

-- "a refused model or table prints that line alone, taken and clock 0"
abbrev pub refused_listing : Cause → List ℕ
refused_listing c = last_line 0 c 0

-- The listing of a run from state s on, with k events taken; clock tells the clock of a state.
unfoldable pub listing_from : {S : Type 0} → Machine S → (S → ℕ) → S → ℕ → List (List ℕ) → List ℕ
listing_from m clock s k [] = last_line k Cause.None (clock s)
listing_from m clock s k (x ∷ l) =
    let e = event_of x in
    let t = m.after s e in
    let rest = line (k + 1) (clock t) e ++ listing_from m clock t (k + 1) l in
    cond (is_none (m.answer s e)) rest (last_line k (m.answer s e) (clock s))

abbrev pub listing : {S : Type 0} → Machine S → (S → ℕ) → S → List ℕ → List ℕ
listing m clock s script = listing_from m clock s 0 (parts Script script)
