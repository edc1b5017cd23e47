-- Laws of the definitions, one for each way in which the code returns.
use Rattle.std.specs.Prelude.{◌≡◌, Bool, true, false, List, ℕ, ◌+◌, ◌-◌, ◌<◌, ◌≤◌, min, get_or, length, take, drop, eqb}
use Rattle.std.proofs.Common.{sym, ◌∙◌, arith, length-drop, drop_of_length-le, take_all}
use Rattle.std.proofs.Math.Decide.{dec_lt}
use Rattle.std.proofs.Math.Seq.{take-nil}
use borrow.Author.Tests.{ne_eqb, lt-ltb, le-ltb}
use Rattle.numbers.specs.declared.Value.{Value}
use Rattle.numbers.specs.Values.{value, signed, u16_at, u32_at, value_at}
use Rattle.numbers.specs.ValueLaws.{byte_past, u32_past}
use Rattle.records.specs.declared.Notation.{Notation}
use Rattle.records.specs.declared.Notation.TheVariants.{Script}
use Rattle.records.specs.declared.Event.{Event}
use Rattle.records.specs.Format.{record_size, part_length, part_length_at, is_whole, operand_at}
use Rattle.records.specs.Events.{start_kind, tick_kind, no_event, event_of, figure_of}

-- ---- the length of a part: m is the size of a record of kind k, n bytes are left
module _ (w : Notation) (k n m : ℕ) (e : m ≡ record_size w k) where
  pub part_unknown : m ≡ 0 → n ≡ part_length w k n
  unfolding part_length
  part_unknown z = rw (← e, z)

  pub part_cut : (m ≡ 0 → ⊥) → n < m → n ≡ part_length w k n
  unfolding part_length
  part_cut z l = rw (← e, ne_eqb m 0 z, lt-ltb n m l)

  pub part_whole : (m ≡ 0 → ⊥) → m ≤ n → m ≡ part_length w k n
  unfolding part_length
  part_whole z l = rw (← e, ne_eqb m 0 z, le-ltb n m l)

  pub part_within : (m ≡ 0 → ⊥) → (r : ℕ) → r ≡ min n m → r ≡ part_length w k n
  part_within h r e = go (dec_lt n m)
    where
      go : Dec (n < m) → r ≡ part_length w k n
      go (yes l) = let f : r ≡ n = omega arith in f ∙ part_cut h l
      go (no l) = let f : r ≡ m = omega arith in f ∙ part_whole h (omega arith)

module _ (w : Notation) (s : List ℕ) (p : ℕ) where
  pub length_at : p < length s → part_length w (get_or s p 0) (length s - p) ≡ part_length_at w s p
  unfolding part_length_at
  length_at h = rw (lt-ltb p (length s) h)

  pub length_past : length s ≤ p → 0 ≡ part_length_at w s p
  unfolding part_length_at
  length_past h = rw (le-ltb p (length s) h)

-- ---- whole records: k is the first byte
module _ (w : Notation) (x : List ℕ) (k m : ℕ) (f : k ≡ get_or x 0 0) (e : m ≡ record_size w k) where
  pub whole_unknown : m ≡ 0 → false ≡ is_whole w x
  whole_unknown z = rw (← f, ← e, z)

  pub whole_known : (m ≡ 0 → ⊥) → eqb (length x) m ≡ is_whole w x
  whole_known z = rw (← f, ← e, ne_eqb m 0 z)

-- ---- operands: v is the value that the code has read
module _ (s : List ℕ) (p : ℕ) (v : Value) where
  pub operand_within : v ≡ value_at s (p + 1) → record { tag = get_or s p 0; value = v } ≡ operand_at s p
  unfolding operand_at
  operand_within e = rw e

  pub operand_past : length s ≤ p → v ≡ value (signed 0) → record { tag = 0; value = v } ≡ operand_at s p
  unfolding operand_at
  operand_past h e = rw (e, ← byte_past s p h, u32_past s (p + 1) (omega arith))

-- ---- parts: places drawn in to the list's length
pub drawn_in : (s : List ℕ) (a e p q : ℕ) → q ≡ min e (length s) → p ≡ min a q → take (q - p) (drop p s) ≡ take (e - a) (drop a s)
drawn_in s a e p q f g = go (dec_lt q a) (dec_lt (length s) e)
  where
    go : Dec (q < a) → Dec (length s < e) → take (q - p) (drop p s) ≡ take (e - a) (drop a s)
    go (no n) (no k) =
        let x : p ≡ a = omega arith in
        let y : q ≡ e = omega arith in
        rw (x, y)
    go (no n) (yes k) =
        let x : p ≡ a = omega arith in
        let y : q ≡ length s = omega arith in
        rw (x, y) (take_all (length s - a) (drop a s) (simp length-drop (omega arith)) ∙ sym (take_all (e - a) (drop a s) (simp length-drop (omega arith))))
    go (yes n) (no k) =
        let x : q - p ≡ 0 = omega arith in
        let y : e - a ≡ 0 = omega arith in
        rw (x, y)
    go (yes n) (yes k) =
        let x : q - p ≡ 0 = omega arith in
        let y : length s ≤ a = omega arith in
        rw (x, drop_of_length-le s y, take-nil)

-- ---- events: b is whether the part is whole, k its first byte, n and i what the code has read
module _ (x : List ℕ) (b : Bool) (w : b ≡ is_whole Script x) where
  pub event_none : b ≡ false → no_event ≡ event_of x
  unfolding event_of
  event_none h = rw (← w, h)

  module _ (k n : ℕ) (h : b ≡ true) (f : k ≡ get_or x 0 0) where
    pub event_tick : k ≡ tick_kind → n ≡ u16_at x 1 → record { kind = k; id = 0; amount = n } ≡ event_of x
    unfolding event_of
    event_tick e g = rw (← w, h, ← f, e, g)

    module _ (i : ℕ) (u : k ≡ tick_kind → ⊥) (g : i ≡ get_or x 1 0) where
      pub event_start : k ≡ start_kind → n ≡ u32_at x 2 → record { kind = k; id = i; amount = n } ≡ event_of x
      unfolding event_of
      event_start e m = rw (← w, h, ← f, ← g, e, m)

      pub event_other : (k ≡ start_kind → ⊥) → record { kind = k; id = i; amount = 0 } ≡ event_of x
      unfolding event_of
      event_other e = rw (← w, h, ← f, ← g, ne_eqb k tick_kind u, ne_eqb k start_kind e)

pub figure_tick : (e : Event) → e.kind ≡ tick_kind → e.amount ≡ figure_of e
unfolding figure_of
figure_tick e h = rw h

pub figure_other : (e : Event) → (e.kind ≡ tick_kind → ⊥) → e.id ≡ figure_of e
unfolding figure_of
figure_other e h = rw (ne_eqb e.kind tick_kind h)
