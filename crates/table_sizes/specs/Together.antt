-- What all items add, and the table's size, from their parts as the code has them: each sum is small, and is what it should be.
use Rattle.std.specs.Prelude.{◌≡◌, refl, ℕ, ◌+◌, ◌*◌, ◌≤◌, eqb, not}
use Rattle.std.proofs.Common.{sym, ◌∙◌, arith}
use Rattle.model_format.specs.declared.Timing.{Timing}
use Rattle.model_format.specs.declared.Model.{Model}
use Rattle.model_format.specs.WellFormed.{GoodTiming, WellFormed}
use Rattle.translation_sizes.specs.Sums.{sum_below}
use Rattle.translation_sizes.specs.SumLaws.{sum_most}
use Rattle.translation.specs.Translate.{table_bytes}
use Rattle.translation_sizes.specs.declared.TableSize.{TableSize}
use Rattle.translation_sizes.specs.declared.Counts.{Counts}
use Rattle.translation_sizes.specs.Sizes.{size_of}
use Rattle.translation_sizes.specs.Counts.{◌and◌, count_below, size_by}
use Rattle.translation_sizes.specs.Items.{thread_counts, input_counts, connection_counts, switch_counts, transition_counts, item_counts, head_starts, thread_starts, connection_starts, input_starts, local_starts, item_starts}
use Rattle.translation_sizes.proofs.Longest.{bit_few, thread_few, connection_few, input_few, local_few}
use Rattle.translation_sizes.proofs.MadeTable.{size_total}
use Rattle.table_sizes.specs.Leaves.{within_two}
use Rattle.table_counts.specs.Bounds.{AtMost, item_most, kind_most, most, Small, at_most, and_most, threads_most, inputs_most, connections_most, switches_most, transitions_most}

-- ---- all items, kind by kind
module _ (m : Model) (w : WellFormed m) {t i c q k : Counts} (et : t ≡ count_below m.timing.threads (thread_counts m.timing)) (ei : i ≡ count_below m.timing.inputs (input_counts m.timing))
    (ec : c ≡ count_below m.timing.connections (connection_counts m.timing)) (eq : q ≡ count_below m.timing.switches (switch_counts m.timing))
    (ek : k ≡ count_below m.behavior.transitions (transition_counts m)) where
  kind_small : {y : Counts} → AtMost kind_most y → Small y
  kind_small {y} h = at_most kind_most most y (omega arith) h

  q_few : AtMost kind_most q
  q_few = rw eq (switches_most m.timing w.timing)

  k_few : AtMost kind_most k
  k_few = rw ek (transitions_most m w)

  c_few : AtMost kind_most c
  c_few = rw ec (connections_most m.timing w.timing)

  i_few : AtMost kind_most i
  i_few = rw ei (inputs_most m.timing w.timing)

  pub first_small : Small q × Small k
  first_small = (kind_small q_few, kind_small k_few)

  module _ {x : Counts} (ex : x ≡ q and k) where
    x_few : AtMost (kind_most + kind_most) x
    x_few = rw ex (and_most kind_most kind_most q k q_few k_few)

    pub second_small : Small c × Small x
    second_small = (kind_small c_few, at_most (kind_most + kind_most) most x (omega arith) x_few)

    module _ {y : Counts} (ey : y ≡ c and x) where
      y_few : AtMost (kind_most + (kind_most + kind_most)) y
      y_few = rw ey (and_most kind_most (kind_most + kind_most) c x c_few x_few)

      pub third_small : Small i × Small y
      third_small = (kind_small i_few, at_most (kind_most + (kind_most + kind_most)) most y (omega arith) y_few)

      module _ {z : Counts} (ez : z ≡ i and y) where
        pub fourth_small : Small t × Small z
        fourth_small = (
          rw et (kind_small (threads_most m.timing w.timing)),
          rw ez (at_most (kind_most + (kind_most + (kind_most + kind_most))) most (i and y) (omega arith) (and_most kind_most (kind_most + (kind_most + kind_most)) i y i_few y_few)),
        )

        pub items_told : {r : Counts} → r ≡ t and z → r ≡ item_counts m
        unfolding item_counts
        items_told h = h ∙ rw (ez, ey, ex, et, ei, ec, eq, ek)

items_small : (m : Model) (w : WellFormed m) → Small (item_counts m)
unfolding item_counts
items_small m w =
    let x = m.timing in
    let g = w.timing in
    at_most (kind_most + (kind_most + (kind_most + (kind_most + kind_most)))) most (item_counts m) (omega arith)
    (and_most kind_most _ _ _ (threads_most x g)
    (and_most kind_most _ _ _ (inputs_most x g) (and_most kind_most _ _ _ (connections_most x g) (and_most kind_most kind_most _ _ (switches_most x g) (transitions_most m w)))))

-- ---- start records
begun_few : (n : ℕ) (f : ℕ → ℕ) → n ≤ 1024 → ((i : ℕ) → f i ≤ 2) → sum_below n f ≤ 2048
begun_few n f l h = omega (arith, sum_most n 2 f (λ i k. h i))

module _ (m : Timing) (g : GoodTiming m) {h t c i v : ℕ} (eh : h ≡ head_starts m) (et : t ≡ sum_below m.threads (thread_starts m)) (ec : c ≡ sum_below m.connections (connection_starts m))
    (ei : i ≡ sum_below m.inputs (input_starts m)) (ev : v ≡ sum_below m.locals (local_starts m)) where
  pub head_few : h ≤ 3
  unfolding head_starts
  head_few = omega (arith, eh, bit_few (not (eqb m.initial 0)))

  pub threads_few : t ≤ 2048
  threads_few = let n = g.threads in rw et (begun_few m.threads (thread_starts m) (omega arith) (thread_few m))

  pub connections_few : c ≤ 2048
  connections_few = let n = g.connections in rw ec (begun_few m.connections (connection_starts m) (omega arith) (λ c. within_two (connection_few m c)))

  pub inputs_few : i ≤ 2048
  inputs_few = let n = g.inputs in rw ei (begun_few m.inputs (input_starts m) (omega arith) (input_few m))

  pub locals_few : v ≤ 2048
  locals_few = let n = g.locals in rw ev (begun_few m.locals (local_starts m) (omega arith) (λ v. within_two (local_few m v)))

  pub starts_told : h + t + c + i + v ≡ item_starts m
  unfolding item_starts
  starts_told = rw (← eh, ← et, ← ec, ← ei, ← ev)

starts_few : (m : Timing) → GoodTiming m → item_starts m ≤ 3 * item_most
unfolding item_starts
starts_few m g =
    omega (
      arith,
      head_few m g refl refl refl refl refl,
      threads_few m g refl refl refl refl refl,
      connections_few m g refl refl refl refl refl,
      inputs_few m g refl refl refl refl refl,
      locals_few m g refl refl refl refl refl,
    )

-- ---- the table
module _ (m : Model) (w : WellFormed m) {s : ℕ} {x : Counts} (es : s ≡ item_starts m.timing) (ex : x ≡ item_counts m) where
  pub size_small : (s ≤ 3 * item_most) × Small x
  size_small = (rw es (starts_few m.timing w.timing), rw ex (items_small m w))

  pub size_known : {r : TableSize} → r ≡ size_by s x → r ≡ size_of (table_bytes m)
  size_known h = h ∙ (rw (es, ex) (sym (size_total m w)))
