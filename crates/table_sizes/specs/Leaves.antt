-- What one item adds, as the code tells it.
use Rattle.std.specs.Prelude.{◌≡◌, refl, Bool, true, false, not, ℕ, ◌+◌, ◌*◌, ◌≤◌, eqb}
use Rattle.std.proofs.Math.Path.{sym, ap}
use Rattle.std.specs.Int.{from_bool}
use Rattle.std.proofs.Common.{◌∙◌, arith}
use borrow.Author.Tests.{ne_eqb}
use Rattle.numbers.specs.declared.Value.{Value}
use Rattle.numbers.specs.Values.{natural, same_value}
use Rattle.model_format.specs.declared.Thread.{Thread}
use Rattle.model_format.specs.declared.Owned.{Owned}
use Rattle.model_format.specs.declared.Connection.{Connection}
use Rattle.model_format.specs.declared.Timing.{Timing}
use Rattle.model_format.specs.Model.{thread_at, input_at, local_at, connection_at, in_mode, is_critical, immediate, delayed}
use Rattle.translation.specs.Shown.{bit}
use Rattle.translation_sizes.specs.declared.Counts.{Counts}
use Rattle.translation_sizes.specs.Counts.{counts, nothing, count_below, bytes_by, size_by}
use Rattle.translation_sizes.specs.CountLaws.{updates_each}
use Rattle.translation_sizes.specs.Items.{thread_counts, input_counts, connection_counts, switch_counts, head_starts, thread_starts, connection_starts, input_starts, local_starts}

module _ (m : Timing) {r : Counts} where
  -- x is thread t, b whether it is critical
  module _ (t : ℕ) {x : Thread} {b : Bool} (e : x ≡ thread_at m t) (h : b ≡ is_critical x) where
    pub critical_told : b ≡ true → r ≡ counts 11 32 32 25 → r ≡ thread_counts m t
    unfolding thread_counts
    critical_told l k = k ∙ rw (← e, ← h, l)

    pub stopped_told : b ≡ false → r ≡ counts 14 38 38 30 → r ≡ thread_counts m t
    unfolding thread_counts
    stopped_told l k = k ∙ rw (← e, ← h, l)

  pub inputs_told : (n : ℕ) → n ≡ m.inputs → r ≡ counts 0 0 0 n → r ≡ count_below m.inputs (input_counts m)
  unfolding input_counts
  inputs_told n h e = e ∙ (ap (counts 0 0 0) h ∙ sym (updates_each m.inputs))

  pub switch_told : (q a f : ℕ) → a ≡ m.threads → f ≡ m.connections → r ≡ counts 4 10 11 (7 + a + 2 * f) → r ≡ switch_counts m q
  unfolding switch_counts
  switch_told q a f h k e = e ∙ ap (counts 4 10 11) (omega arith)

  -- x is connection c
  module _ (c : ℕ) {x : Connection} (e : x ≡ connection_at m c) where
    pub immediate_told : x.kind ≡ immediate → r ≡ counts 0 2 9 2 → r ≡ connection_counts m c
    unfolding connection_counts
    immediate_told h k = k ∙ rw (← e, h)

    pub delayed_told : x.kind ≡ delayed → r ≡ counts 0 1 4 2 → r ≡ connection_counts m c
    unfolding connection_counts
    delayed_told h k = k ∙ rw (← e, h)

    pub none_told : (x.kind ≡ immediate → ⊥) → (x.kind ≡ delayed → ⊥) → r ≡ nothing → r ≡ connection_counts m c
    unfolding connection_counts
    none_told h l k = k ∙ rw (← e, ne_eqb x.kind immediate h, ne_eqb x.kind delayed l)

-- ---- start records
module _ (m : Timing) {i : ℕ} (h : i ≡ m.initial) where
  pub head_told : {n : ℕ} → n ≡ bit (not (eqb i 0)) → 2 + n ≡ head_starts m
  unfolding head_starts
  head_told e = rw (← h, ← e)

  pub thread_begun : (t : ℕ) {x : Thread} {p : Bool} {a n : ℕ} → x ≡ thread_at m t → p ≡ in_mode x.modes i → a ≡ bit p → n ≡ bit (not (eqb x.first 0)) → a + n ≡ thread_starts m t
  unfolding thread_starts
  thread_begun t e q k l = rw (← e, ← h, ← q, ← k, ← l)

  pub connection_begun : (c : ℕ) {x : Connection} {p : Bool} {a : ℕ} → x ≡ connection_at m c → p ≡ in_mode x.modes i → a ≡ bit p → a ≡ connection_starts m c
  unfolding connection_starts
  connection_begun c e q k = k ∙ rw (← e, ← h, ← q)

-- a start value x
module _ (x : Value) {p : Bool} (h : p ≡ same_value x (natural 0)) where
  pub value_blank : p ≡ true → (0 ≡ bit (not (same_value x (natural 0)))) × (0 ≤ 1)
  value_blank k = (rw (← h, k), omega arith)

  pub value_begun : p ≡ false → (1 ≡ bit (not (same_value x (natural 0)))) × (1 ≤ 1)
  value_begun k = (rw (← h, k), omega arith)

-- n is whether it is not 0, of an input port or a local
module _ (m : Timing) (i : ℕ) {x : Owned} {n : ℕ} (h : n ≡ bit (not (same_value x.start (natural 0)))) where
  pub input_begun : x ≡ input_at m i → n + n ≡ input_starts m i
  unfolding input_starts
  input_begun e = rw (← e, ← h)

  pub local_begun : x ≡ local_at m i → n ≡ local_starts m i
  unfolding local_starts
  local_begun e = h ∙ rw (← e)

-- a test as the number that the code makes of it
pub bit_told : (p : Bool) → from_bool p ≡ bit p
bit_told true = refl
bit_told false = refl

pub value_told : (x : Value) {p : Bool} {n : ℕ} → p ≡ not (same_value x (natural 0)) → n ≡ from_bool p → (n ≡ bit (not (same_value x (natural 0)))) × (n ≤ 1)
value_told x {p} h e = (e ∙ (bit_told p ∙ ap bit h), rw e (few p))
  where
    few : (p : Bool) → from_bool p ≤ 1
    few true = omega arith
    few false = omega arith

pub within_two : {n : ℕ} → n ≤ 1 → n ≤ 2
within_two h = omega arith

-- ---- n bytes
pub size_told : {n : ℕ} (starts : ℕ) (x : Counts) → n ≡ 7 * starts + bytes_by x →
    record { bytes = n; rules = x.rules; clauses = x.clauses; atoms = x.atoms; updates = x.updates } ≡ size_by starts x
unfolding size_by
size_told starts x e = rw e
