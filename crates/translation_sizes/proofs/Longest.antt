-- The longest table that a model can have, from the exact length of its table.
use Rattle.std.specs.Prelude.{◌≡◌, Bool, cond, ◌&&◌, not, ℕ, zero, suc, ◌+◌, ◌*◌, ◌<◌, ◌≤◌, length}
use Rattle.std.proofs.Math.Path.{refl}
use Rattle.std.proofs.Common.{◌∙◌}
use Rattle.std.proofs.Math.Bool.{true, false}
use native.Mathlib.Omega.{arith}
use Rattle.std.proofs.Math.Dec.{eqb}
use Rattle.numbers.specs.Lists.{fold_below}
use Rattle.numbers.specs.Values.{natural, same_value}
use Rattle.model_format.specs.declared.Timing.{Timing}
use Rattle.model_format.specs.declared.Model.{Model}
use Rattle.model_format.specs.Model.{max_threads, max_inputs, max_connections, max_locals, max_switches, max_transitions, thread_at, input_at, local_at, connection_at, transition_at, in_mode, is_critical, immediate, delayed, is_kind, source_thread}
use Rattle.model_format.specs.WellFormed.{GoodTiming, WellFormed}
use Rattle.table_format.specs.Reading.{longest_table}
use Rattle.translation.specs.Shown.{bit}
use Rattle.translation.specs.Translate.{table_from, table_bytes}
use Rattle.translation_sizes.specs.declared.Counts.{Counts}
use Rattle.translation_sizes.specs.Counts.{counts, nothing, count_below, bytes_by}
use Rattle.translation_sizes.specs.Sums.{sum_below}
use Rattle.translation_sizes.specs.SumLaws.{sum_within, sum_wider}
use Rattle.translation_sizes.proofs.TableCounts.{table_bytes_lem}
use Rattle.translation_sizes.specs.Items.{stop_counts, thread_counts, input_counts, delayed_counts, immediate_counts, connection_counts, earlier_at, earlier_counts, sent_at, sent_counts, transition_counts, switch_counts, item_counts, head_starts, thread_starts, connection_starts, input_starts, local_starts, item_starts}
use Rattle.translation_sizes.specs.Starts.{starts_total}
use Rattle.translation_sizes.proofs.Total.{rules_total}

-- No made table is longer. A model with the most of everything, no start value 0, no thread critical, all of its transitions those of one thread in one behaviour
-- state, has one as long.
abbrev pub longest_made_table : ℕ
longest_made_table = 174485

-- ---- many items
bytes_below : (n : ℕ) (f : ℕ → Counts) (g : ℕ → ℕ) → ((i : ℕ) → i < n → bytes_by (f i) ≤ g i) → bytes_by (count_below n f) ≤ sum_below n g
unfolding fold_below
bytes_below zero f g h = omega arith
bytes_below (suc n) f g h = omega (arith, bytes_below n f g (λ i l. h i (omega arith)), h n (omega arith))

bytes_within : (n top c : ℕ) (f : ℕ → Counts) → n ≤ top → ((i : ℕ) → i < n → bytes_by (f i) ≤ c) → bytes_by (count_below n f) ≤ top * c
bytes_within n top c f l h = omega (arith, bytes_below n f (λ i. c) h, sum_within n top c (λ i. c) l (λ i k. omega arith))

any_bytes : (b : Bool) (c : ℕ) (x : Counts) → bytes_by x ≤ c → bytes_by (cond b x nothing) ≤ c
any_bytes true c x h = h
any_bytes false c x h = omega arith

-- ---- threads, input ports, connections, mode transitions
module _ (m : Timing) (g : GoodTiming m) where
  stop_bytes : (critical : Bool) → bytes_by (cond critical nothing stop_counts) ≤ 178
  stop_bytes true = omega arith
  stop_bytes false = omega arith

  threads_bytes : bytes_by (count_below m.threads (thread_counts m)) ≤ max_threads * 1044
  unfolding thread_counts
  threads_bytes = bytes_within m.threads max_threads 1044 (thread_counts m) g.threads (λ t l. omega (arith, stop_bytes (is_critical (thread_at m t))))

  inputs_bytes : bytes_by (count_below m.inputs (input_counts m)) ≤ max_inputs * 17
  unfolding input_counts
  inputs_bytes = bytes_within m.inputs max_inputs 17 (input_counts m) g.inputs (λ i l. omega arith)

  connection_bytes : (c : ℕ) → bytes_by (connection_counts m c) ≤ 117
  unfolding connection_counts
  connection_bytes c = go (is_kind m immediate c) (is_kind m delayed c)
    where
      go : (a b : Bool) → bytes_by (cond a immediate_counts (cond b delayed_counts nothing)) ≤ 117
      go true b = omega arith
      go false b = any_bytes b 117 delayed_counts (omega arith)

  connections_bytes : bytes_by (count_below m.connections (connection_counts m)) ≤ max_connections * 117
  connections_bytes = bytes_within m.connections max_connections 117 (connection_counts m) g.connections (λ c l. connection_bytes c)

  switches_bytes : bytes_by (count_below m.switches (switch_counts m)) ≤ max_switches * 1632
  unfolding switch_counts
  switches_bytes = bytes_within m.switches max_switches 1632 (switch_counts m) g.switches (λ q l. omega (arith, g.threads, g.connections))

  sent_bytes : (t : ℕ) → bytes_by (sent_counts m t) ≤ max_connections * 17
  unfolding sent_counts sent_at
  sent_bytes t =
      bytes_within m.connections max_connections 17 (sent_at m t) g.connections
      (λ c l. any_bytes (is_kind m immediate c && eqb (source_thread m c) t) 17 (counts 0 0 0 1) (omega arith))

-- ---- transitions: number k has at most k earlier ones
module _ (m : Model) (w : WellFormed m) where
  earlier_bytes : (t from k : ℕ) → k < m.behavior.transitions → bytes_by (earlier_counts m.behavior t from k) ≤ k * 37
  unfolding earlier_counts earlier_at
  earlier_bytes t from k l =
      bytes_within k k 37 (earlier_at m.behavior t from) (omega arith)
      (λ e i.
      let x = transition_at m.behavior e in
      any_bytes (eqb x.thread t && eqb x.from from) 37 (counts 0 1 x.atoms 0) (omega (arith, w.behavior.atoms e (omega arith))))

  transition_bytes : (k : ℕ) → k < m.behavior.transitions → bytes_by (transition_counts m k) ≤ 807 + k * 37
  unfolding transition_counts
  transition_bytes k l =
      let x = transition_at m.behavior k in
      omega (arith, w.behavior.atoms k l, w.behavior.assignments k l, earlier_bytes x.thread x.from k l, sent_bytes m.timing w.timing x.thread)

  all_transitions : sum_below max_transitions (λ k. 807 + k * 37) ≡ 126240
  unfolding fold_below
  all_transitions = refl

  transitions_bytes : bytes_by (count_below m.behavior.transitions (transition_counts m)) ≤ 126240
  transitions_bytes =
      omega (
        arith,
        bytes_below m.behavior.transitions (transition_counts m) (λ k. 807 + k * 37) transition_bytes,
        sum_wider m.behavior.transitions max_transitions (λ k. 807 + k * 37) w.behavior.transitions,
        all_transitions,
      )

-- ---- start records
pub bit_few : (b : Bool) → bit b ≤ 1
bit_few true = omega arith
bit_few false = omega arith

module _ (m : Timing) where
  pub thread_few : (t : ℕ) → thread_starts m t ≤ 2
  unfolding thread_starts
  thread_few t = omega (arith, bit_few (in_mode (thread_at m t).modes m.initial), bit_few (not (eqb (thread_at m t).first 0)))

  pub connection_few : (c : ℕ) → connection_starts m c ≤ 1
  unfolding connection_starts
  connection_few c = bit_few (in_mode (connection_at m c).modes m.initial)

  pub input_few : (i : ℕ) → input_starts m i ≤ 2
  unfolding input_starts
  input_few i = omega (arith, bit_few (not (same_value (input_at m i).start (natural 0))))

  pub local_few : (v : ℕ) → local_starts m v ≤ 1
  unfolding local_starts
  local_few v = bit_few (not (same_value (local_at m v).start (natural 0)))

  starts_most : GoodTiming m → item_starts m ≤ 163
  unfolding item_starts head_starts
  starts_most g =
      omega (
        arith,
        bit_few (not (eqb m.initial 0)),
        sum_within m.threads max_threads 2 (thread_starts m) g.threads (λ t l. thread_few t),
        sum_within m.connections max_connections 1 (connection_starts m) g.connections (λ c l. connection_few c),
        sum_within m.inputs max_inputs 2 (input_starts m) g.inputs (λ i l. input_few i),
        sum_within m.locals max_locals 1 (local_starts m) g.locals (λ v l. local_few v),
      )

-- ---- the table
module _ (m : Model) (w : WellFormed m) where
  length_total : length (table_bytes m) ≡ 7 * item_starts m.timing + bytes_by (item_counts m)
  unfolding table_from
  length_total = table_bytes_lem (table_from m) ∙ rw (starts_total m w.timing, rules_total m w)

  pub table_most : length (table_bytes m) ≤ longest_made_table
  unfolding item_counts
  table_most =
      let x = m.timing in
      let g = w.timing in
      omega (arith, length_total, starts_most x g, threads_bytes x g, inputs_bytes x g, connections_bytes x g, switches_bytes x g, transitions_bytes m w)

  pub table_short : length (table_bytes m) ≤ longest_table
  table_short = omega (arith, table_most)
