-- Laws of the definitions, in the forms that the code's tests have.
use Rattle.std.specs.Prelude.{◌≡◌, Bool, true, false, cond, ◌&&◌, List, ℕ, ◌+◌, ◌<◌, ◌≤◌, ltb, get_or, length}
use Rattle.std.proofs.Common.{sym, ◌∙◌, ap, arith, subst, lt-ltb, le-ltb, ne_eqb}
use Rattle.std.proofs.Math.Decide.{dec_lt}
use Rattle.numbers.specs.Lists.{any_below, fold_below}
use Rattle.numbers.specs.ListLaws.{any_next, any_some, fold_next}
use Rattle.numbers.specs.Multiples.{lcm_up_to}
use Rattle.records.specs.declared.Notation.TheVariants as notations
use Rattle.records.specs.Format.{record_size}
use Rattle.records.specs.Events.{last_clock}
use Rattle.model_format.specs.declared.Timing.{Timing}
use Rattle.model_format.specs.declared.Record.TheVariants.{Cut, Unknown}
use Rattle.model_format.specs.Format.{record_of, record_of_whole}
use Rattle.model_format.specs.Model.{thread_at, critical_in, hyperperiod}

-- ---- the record of a part: k is its kind byte, m the size of a record of that kind
module _ (x : List ℕ) (k m : ℕ) (f : k ≡ get_or x 0 0) (e : m ≡ record_size notations.Model k) where
  pub record_unknown : m ≡ 0 → Unknown ≡ record_of x
  unfolding record_of
  record_unknown z = rw (← f, ← e, z)

  pub record_cut : (m ≡ 0 → ⊥) → length x < m → Cut ≡ record_of x
  unfolding record_of
  record_cut z l = rw (← f, ← e, ne_eqb m 0 z, lt-ltb (length x) m l)

  pub record_whole : (m ≡ 0 → ⊥) → m ≤ length x → record_of_whole k x ≡ record_of x
  unfolding record_of
  record_whole z l = rw (← f, ← e, ne_eqb m 0 z, le-ltb (length x) m l)

-- ---- an item stored in a list, which then is x
-- what holds where item i is stored, and where it is past the room
pub by_room : {room i : ℕ} {x y l : List ℕ} (P : List ℕ → Type 0) → x ≡ cond (ltb i room) y l → (i < room → P y) → (room ≤ i → P l) → P x
by_room {room} {i} {x} {y} {l} P e f g = go (dec_lt i room)
  where
    go : Dec (i < room) → P x
    go (yes h) = let z : x ≡ y = rw (lt-ltb i room h) at e in subst P (sym z) (f h)
    go (no h) = let k : room ≤ i = omega arith in let z : x ≡ l = rw (le-ltb i room k) at e in subst P (sym z) (g k)

-- ---- hyperperiods, a thread at a time
abbrev pub with_period : Timing → ℕ → ℕ → ℕ → ℕ → ℕ
with_period m old new t h = cond (critical_in (thread_at m t) old && critical_in (thread_at m t) new) (lcm_up_to last_clock h (thread_at m t).period.0) h

-- the threads below t
abbrev pub periods_below : Timing → ℕ → ℕ → ℕ → ℕ
periods_below m old new t = fold_below t (with_period m old new) 1

pub periods_next : (m : Timing) (old new t h r : ℕ) → h ≡ periods_below m old new t → r ≡ with_period m old new t h → r ≡ periods_below m old new (t + 1)
periods_next m old new t h r e f = f ∙ ap (with_period m old new t) e ∙ sym (fold_next t (with_period m old new) 1)

pub periods_all : (m : Timing) (old new t h : ℕ) → h ≡ periods_below m old new t → t ≡ m.threads → h ≡ hyperperiod m old new
unfolding hyperperiod
periods_all m old new t h e f = e ∙ rw f

-- ---- a search for a number below n that passes p, come to i
module _ (p : ℕ → Bool) (n i : ℕ) where
  pub search_hit : i < n → p i ≡ true → true ≡ any_below n p
  search_hit l e = sym (any_some n p i l e)

  pub search_on : any_below i p ≡ false → p i ≡ false → any_below (i + 1) p ≡ false
  search_on e f = rw (any_next i p, e, f)

  pub search_end : i ≤ n → n ≤ i → any_below i p ≡ false → false ≡ any_below n p
  search_end l h e = let q : n ≡ i = omega arith in rw (q, e)
