-- Events written one after the other, and where nothing more is enabled.
use Rattle.std.specs.Prelude.{◌≡◌, refl, Bool, true, false, cond, not, List, [], ◌∷◌, ◌++◌, ℕ, ◌+◌, ◌*◌, min, ltb, length, set}
use Rattle.std.proofs.Common.{sym, ◌∙◌, ap, arith, add-zero, add-one, length-append}
use Rattle.std.proofs.Math.Numerals.{add-two, add-three}
use Rattle.std.proofs.lemmas.List.Edits.{sets}
use Rattle.std.proofs.Math.Seq.{length-sets}
use Rattle.std.proofs.lemmas.Bool.{not-true, not-false}
use Rattle.numbers.specs.Lists.{join_below, only}
use Rattle.numbers.specs.ListLaws.{join_next, join_zero}
use Rattle.records.specs.Events.{request_kind}
use Rattle.model_format.specs.declared.Thread.{Thread}
use Rattle.model_format.specs.declared.Timing.{Timing}
use Rattle.model_format.specs.Model.{max_threads, thread_at}
use Rattle.model_semantics.specs.declared.State.{State}
use Rattle.table_writer.specs.Written.{sets_append}
use Rattle.enabled.specs.Enabled.{Offer, ids, length_in, numbers_of, may_take, offer_of}
use Rattle.enabled.specs.Told.{offer_size}
use Rattle.enabled.specs.ToldLaws.{numbers_append, length_numbers}

-- ---- the events l are written behind n events; there are next of them then
pub record Listed (before : List ℕ) (n : ℕ) (l : List Offer) (after : List ℕ) (next : ℕ) : Type 0 where
  pub numbers : after ≡ sets before (offer_size * n) (numbers_of l)
  pub count : next ≡ n + length l

-- the ids that a kind is looked at for
unfoldable pub items_of : Timing → ℕ → ℕ
items_of m kind = cond (ltb kind request_kind) (min m.threads max_threads) (min m.switches ids)

-- how many kinds are on threads, and on mode transitions
abbrev pub thread_kinds : ℕ
thread_kinds = 7

abbrev pub switch_kinds : ℕ
switch_kinds = 3

-- no state has more events enabled
unfoldable pub most : Timing → ℕ
most m = thread_kinds * min m.threads max_threads + switch_kinds * min m.switches ids

-- no walk comes so far
abbrev pub farthest : ℕ
farthest = 65535

unfoldable pub of_kind : Timing → State → ℕ → List Offer
of_kind m s kind = join_below ids (λ i. only (may_take m s kind i) (offer_of m kind i))

-- ---- one after the other
pub listed_none : (d : List ℕ) (n : ℕ) → Listed d n [] d n
unfolding numbers_of
listed_none d n = record { numbers = refl; count = sym (add-zero n) }

pub listed_then : {d e f : List ℕ} {n p q : ℕ} (a b : List Offer) → Listed d n a e p → Listed e p b f q → Listed d n (a ++ b) f q
listed_then {d} {e} {f} {n} {p} {q} a b w x = record {
  numbers = x.numbers ∙ rw (w.numbers, place, numbers_append a b) (sym (sets_append d (numbers_of a) (numbers_of b) (offer_size * n)));
  count = let u = w.count in let v = x.count in let l = length-append a b in omega arith;
}
  where
    place : offer_size * p ≡ offer_size * n + length (numbers_of a)
    place = let u = w.count in let l = length_numbers a in omega arith

pub keeps_length : {d e : List ℕ} {n p : ℕ} {l : List Offer} → Listed d n l e p → length e ≡ length d
keeps_length {d} {e} {n} {p} {l} w = ap length w.numbers ∙ length-sets d (offer_size * n) (numbers_of l)

-- ---- one event, where it is enabled
pub event_off : {d : List ℕ} {n : ℕ} (b : Bool) (o : Offer) {c : Bool} → c ≡ b → not c ≡ true → Listed d n (only b o) d n
event_off {d} {n} b o {c} e h = rw (← e, not-true c h) (listed_none d n)

-- x is the thread of that number, k the kind as it is written
pub event_on : {d after : List ℕ} (n : ℕ) (m : Timing) (s : State) (kind i : ℕ) {c : Bool} {x : Thread} {k low high : ℕ} → c ≡ may_take m s kind i → not c ≡ false → x ≡ thread_at m i →
    low ≡ length_in kind x.bcet.0 → high ≡ length_in kind x.wcet.0 → k ≡ kind → after ≡ sets d (offer_size * n) (k ∷ i ∷ low ∷ high ∷ []) →
    Listed d n (only (may_take m s kind i) (offer_of m kind i)) after (n + 1)
unfolding numbers_of
event_on n m s kind i {c} e h x low high k w = rw (← e, not-false c h) (record { numbers = w ∙ rw (k, low, high, x); count = refl })

-- its four numbers, stored one by one
pub four_stored : (d : List ℕ) {e f g h : List ℕ} (n i j k l : ℕ) → e ≡ set d (offer_size * n) i → f ≡ set e (offer_size * n + 1) j → g ≡ set f (offer_size * n + 2) k → h ≡ set g (offer_size * n + 3) l →
    h ≡ sets d (offer_size * n) (i ∷ j ∷ k ∷ l ∷ [])
four_stored d n i j k l a b c w = w ∙ rw (c, b, a, add-one (offer_size * n), add-two (offer_size * n), add-three (offer_size * n))

-- ---- a loop: the events of the first i are written
pub record Looping (x : ℕ → List Offer) (start : List ℕ) (n : ℕ) (d : List ℕ) (p i : ℕ) : Type 0 where
  pub same : length d ≡ length start
  pub written : Listed start n (join_below i x) d p

module _ (x : ℕ → List Offer) where
  pub loop_start : {d : List ℕ} {n : ℕ} → Looping x d n d n 0
  loop_start {d} {n} = record { same = refl; written = rw (join_zero x) (listed_none d n) }

  module _ {start d : List ℕ} {n p i : ℕ} (g : Looping x start n d p i) where
    pub loop_on : {e : List ℕ} {q : ℕ} → Listed d p (x i) e q → Looping x start n e q (i + 1)
    loop_on w = record { same = keeps_length w ∙ g.same; written = rw (join_next i x) (listed_then (join_below i x) (x i) g.written w) }
