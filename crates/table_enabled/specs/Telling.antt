-- From what a walk over the rules has seen to what a caller is told, and to the numbers that the caller gets.
use Rattle.std.specs.Prelude.{◌≡◌, refl, Bool, ◌&&◌, not, List, ◌++◌, ℕ, suc, ◌+◌, ◌-◌, ◌*◌, ◌/◌, ◌<◌, ◌≤◌, get_or, set, length, take, drop}
use Rattle.std.proofs.Common.{sym, ◌∙◌, ap, arith, add-one, drop-cons, take_at}
use Rattle.std.proofs.Math.Nat.{sub-zero}
use Rattle.std.proofs.lemmas.List.Edits.{sets, sets-eq}
use Rattle.std.proofs.lemmas.List.{length-take-le}
use Rattle.numbers.specs.Values.{natural, less_value}
use Rattle.records.specs.declared.Cause.TheVariants.{None, ShortOutput}
use Rattle.records.specs.Events.{last_clock}
use Rattle.table_format.specs.Variables.{variables}
use Rattle.table_semantics.specs.Machine.{now_in}
use Rattle.table_semantics.specs.Runs.{values}
use Rattle.table_index.specs.Index.{rules_by}
use Rattle.enabled.specs.declared.Enabled.{Enabled}
use Rattle.enabled.specs.Enabled.{numbers_of, table_may_tick}
use Rattle.enabled.specs.Told.{offer_size, nothing_told}
use Rattle.enabled.specs.ToldLaws.{length_numbers, Tells, told_short, told_fits, from_short, from_all}
use Rattle.table_offers.specs.declared.Seen.{Seen}
use Rattle.table_offers.specs.Adds.{Told}
use Rattle.table_enabled.specs.EnabledBy.{offers_in, may_tick_in, enabled_by, list_by}

-- ---- the loop that copies the first n numbers of a list: i of them are copied
abbrev pub copied_from : List ℕ → ℕ → List ℕ → ℕ → List ℕ
copied_from l n d i = sets d i (take (n - i) (drop i l))

pub copy_begin : (l : List ℕ) (n : ℕ) (d : List ℕ) → copied_from l n d 0 ≡ sets d 0 (take n l)
copy_begin l n d = rw (sub-zero n)

pub copy_next : (l : List ℕ) (n : ℕ) (d : List ℕ) (i : ℕ) → i < n → i < length l → copied_from l n (set d i (get_or l i 0)) (i + 1) ≡ copied_from l n d i
copy_next l n d i h k =
    let a : n - i ≡ suc (n - suc i) = omega arith in
    rw (add-one i, a, drop-cons l i 0 k)

pub copy_end : (l : List ℕ) (n : ℕ) (d : List ℕ) (i : ℕ) → n ≤ i → d ≡ copied_from l n d i
copy_end l n d i h = let a : n - i ≡ 0 = omega arith in rw a

-- by the library's copy
pub copied_front : (l d r : List ℕ) (n : ℕ) → n ≤ length l → n ≤ length d → r ≡ take n l → r ++ drop n d ≡ sets d 0 (take n l)
copied_front l d r n h k e =
    let f : length (take n l) ≡ n = length-take-le n l h in
    let z : 0 + length (take n l) ≡ n = omega (arith, f) in
    rw e (sym (sets-eq (take n l) d 0 (omega (arith, f)) ∙ rw z))

-- ---- what is told
front : (d l : List ℕ) → length l ≤ length d → take (length l) (sets d 0 l) ≡ l
front d l h = ap (take (length l)) (sets-eq l d 0 (omega arith)) ∙ take_at l (drop (0 + length l) d) (length l) refl

-- l: the clock is not at its last
module _ (s d b : List ℕ) (l : Bool) (e : l ≡ less_value (now_in (values b)) (natural last_clock)) (q : List ℕ) (t : Seen) (q' : List ℕ) (k : Told (values b) (rules_by s d) q t q') where
  may_tick : (not t.busy && l) ≡ may_tick_in s d b
  unfolding table_may_tick
  may_tick = rw (k.busy, e)

  module _ (out : List ℕ) where
    pub tells_short : length out / offer_size < t.count →
        Tells (offers_in s d b) (may_tick_in s d b) out (record { answer = ShortOutput; count = t.count; tick = not t.busy && l }) out
    tells_short h = told_short (offers_in s d b) (may_tick_in s d b) out k.count may_tick (omega arith)

    module _ (h : t.count ≤ length out / offer_size) (out' : List ℕ) where
      written : out' ≡ sets out 0 (numbers_of (offers_in s d b)) →
          Tells (offers_in s d b) (may_tick_in s d b) out (record { answer = None; count = t.count; tick = not t.busy && l }) out'
      written w = told_fits (offers_in s d b) (may_tick_in s d b) out k.count may_tick (omega arith) w

      -- from a list that had room for all
      pub tells_copied : offer_size * t.count ≤ length q → out' ≡ sets out 0 (take (offer_size * t.count) q') →
          Tells (offers_in s d b) (may_tick_in s d b) out (record { answer = None; count = t.count; tick = not t.busy && l }) out'
      tells_copied g w =
          let o = numbers_of (offers_in s d b) in
          let n : offer_size * t.count ≡ length o = ap (λ (i : ℕ). offer_size * i) k.count ∙ sym (length_numbers (offers_in s d b)) in
          let f : take (offer_size * t.count) q' ≡ o = rw (n, k.numbers g) (front q o (omega arith)) in
          written (w ∙ ap (λ (r : List ℕ). sets out 0 r) f)

      -- by a second walk
      pub tells_walked : (t' : Seen) → Told (values b) (rules_by s d) out t' out' →
          Tells (offers_in s d b) (may_tick_in s d b) out (record { answer = None; count = t.count; tick = not t.busy && l }) out'
      tells_walked t' m = let n = k.count in let w = m.count in written (m.numbers (omega arith))

-- ---- by lent variables
module _ (s d lent out : List ℕ) where
  pub by_short : length lent < variables → (nothing_told ≡ enabled_by s d lent (length out)) × (out ≡ list_by s d lent out)
  unfolding enabled_by list_by
  by_short h = from_short variables lent (offers_in s d (take variables lent)) (may_tick_in s d (take variables lent)) out h

  pub by_all : variables ≤ length lent → (r : Enabled) (out' : List ℕ) → Tells (offers_in s d (take variables lent)) (may_tick_in s d (take variables lent)) out r out' →
      (r ≡ enabled_by s d lent (length out)) × (out' ≡ list_by s d lent out)
  unfolding enabled_by list_by
  by_all h r out' w = from_all variables lent (offers_in s d (take variables lent)) (may_tick_in s d (take variables lent)) out h w
