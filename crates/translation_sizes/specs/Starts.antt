-- The start records of a model's table are those that its items add.
use Rattle.std.specs.Prelude.{◌≡◌, refl, Bool, true, cond, ◌&&◌, not, List, [], ◌∷◌, length, replicate, eqb}
use Rattle.std.proofs.Common.{◌∙◌, lt-ltb}
use Rattle.std.proofs.Math.Path.{ap}
use Rattle.std.proofs.Math.Bool.{false}
use Prim.Native.Nat.{ℕ, zero, suc, ◌+◌, ◌-◌, ◌<◌, ◌≤◌}
use native.Mathlib.Omega.{arith}
use Rattle.std.proofs.Math.Decide.{dec_lt, ℕ_discrete}
use Rattle.std.proofs.Math.ListN.{length-replicate}
use Rattle.std.proofs.lemmas.List.{get_or-replicate}
use Rattle.numbers.specs.declared.Value.{Value}
use Rattle.numbers.specs.Lists.{item, store, fold_below, only}
use Rattle.numbers.specs.ListLaws.{length_store, item_store_same, item_store_other, item_past}
use Rattle.numbers.specs.Values.{duration, natural, same_value}
use Rattle.model_format.specs.declared.Timing.{Timing}
use Rattle.model_format.specs.declared.Model.{Model}
use Rattle.model_format.specs.Model.{max_threads, max_inputs, max_outputs, max_locals, max_connections, thread_at, input_at, local_at, connection_at, in_mode}
use Rattle.model_format.specs.WellFormed.{GoodTiming}
use Rattle.model_semantics.specs.declared.State.{State}
use Rattle.model_semantics.specs.State.{is_active, code_of, dispatch_time, behavior_of, missed_of, is_live, input_value, buffer_value, output_value, local_value}
use Rattle.model_semantics.specs.Effects.{active_in, in_both, live_in}
use Rattle.model_semantics.specs.Machine.{start_state}
use Rattle.table_format.specs.Variables.{variables, clock_vars}
use Rattle.translation_sizes.specs.Sums.{sum_below}
use Rattle.translation_sizes.specs.SumLaws.{length_join, sum_plus}
use Rattle.translation.specs.Shown.{bit, in_block, Block, clock_number, blocks_of, shown_in, stands_for}
use Rattle.translation.specs.ShownLaws.{in_block_lem, out_block, Avoids, shown_none}
use Rattle.translation.specs.Translate.{initial_of}
use Rattle.translation_sizes.specs.Items.{head_starts, thread_starts, connection_starts, input_starts, local_starts, item_starts}

sum_same : (n : ℕ) (f g : ℕ → ℕ) → ((i : ℕ) → i < n → f i ≡ g i) → sum_below n f ≡ sum_below n g
unfolding fold_below
sum_same zero f g h = refl
sum_same (suc n) f g h = omega (arith, sum_same n f g (λ i l. h i (omega arith)), h n (omega arith))

sum_zero : (n : ℕ) (f : ℕ → ℕ) → ((i : ℕ) → i < n → f i ≡ 0) → sum_below n f ≡ 0
unfolding fold_below
sum_zero zero f h = refl
sum_zero (suc n) f h = omega (arith, sum_zero n f (λ i l. h i (omega arith)), h n (omega arith))

-- ---- variables of a block
module _ (base n : ℕ) (g : ℕ → ℕ) where
  abbrev inside : ℕ → ℕ
  inside j = cond (in_block base n j) (g (j - base)) 0

  -- those before it, the first k of them, and d after them
  sum_before : sum_below base inside ≡ 0
  sum_before = sum_zero base inside (λ j l. rw (out_block base n j (λ p q. omega arith)))

  sum_first : (k : ℕ) → k ≤ n → sum_below (k + base) inside ≡ sum_below k g
  unfolding fold_below
  sum_first zero h = let e : 0 + base ≡ base = omega arith in ap (λ j. sum_below j inside) e ∙ sum_before
  sum_first (suc k) h =
      let e : k + base - base ≡ k = omega arith in
      let v : inside (k + base) ≡ g k = rw (in_block_lem base n (k + base) (omega arith) (omega arith), e) in
      let q : suc k + base ≡ suc (k + base) = omega arith in
      ap (λ j. sum_below j inside) q ∙ omega (arith, sum_first k (omega arith))

  sum_after : (d : ℕ) → sum_below (d + (n + base)) inside ≡ sum_below n g
  unfolding fold_below
  sum_after zero = let e : 0 + (n + base) ≡ n + base = omega arith in ap (λ j. sum_below j inside) e ∙ sum_first n (omega arith)
  sum_after (suc d) =
      let v : inside (d + (n + base)) ≡ 0 = rw (out_block base n (d + (n + base)) (λ p q. omega arith)) in
      let q : suc d + (n + base) ≡ suc (d + (n + base)) = omega arith in
      ap (λ j. sum_below j inside) q ∙ omega (arith, sum_after d)

  sum_inside : (top : ℕ) → base + n ≤ top → sum_below top inside ≡ sum_below n g
  sum_inside top h = let e : top ≡ (top - (n + base)) + (n + base) = omega arith in ap (λ k. sum_below k inside) e ∙ sum_after (top - (n + base))

-- ---- blocks that lie apart, below top
unfoldable Apart : ℕ → List Block → Type 0
Apart top [] = Unit {0}
Apart top (b ∷ l) = (b.base + b.count ≤ top) × ((j : ℕ) → b.base ≤ j → j < b.base + b.count → Avoids j l) × Apart top l

-- 1 for a value that is not 0
abbrev started : Value → ℕ
started v = bit (not (same_value v (natural 0)))

unfoldable started_in : State → List Block → ℕ
started_in s [] = 0
started_in s (b ∷ l) = sum_below b.count (λ i. started (b.shows s i)) + started_in s l

blocks_started : (top : ℕ) (s : State) (l : List Block) → Apart top l → sum_below top (λ j. started (shown_in l s j)) ≡ started_in s l
unfolding shown_in started_in Apart
blocks_started top s [] a = sum_zero top _ (λ j h. refl)
blocks_started top s (b ∷ l) a =
    let f : ℕ → ℕ = λ i. started (b.shows s i) in
    sum_same top (λ j. started (shown_in (b ∷ l) s j)) (λ j. inside b.base b.count f j + started (shown_in l s j)) (λ j h. by j (dec_lt j b.base) (dec_lt j (b.base + b.count))) ∙
    (sum_plus top (inside b.base b.count f) (λ j. started (shown_in l s j)) ∙
    (ap (λ n. n + sum_below top (λ j. started (shown_in l s j))) (sum_inside b.base b.count f top a.0) ∙
    ap (λ n. sum_below b.count f + n) (blocks_started top s l a.2)))
  where
    by : (j : ℕ) → Dec (j < b.base) → Dec (j < b.base + b.count) →
        started (cond (in_block b.base b.count j) (b.shows s (j - b.base)) (shown_in l s j)) ≡
        cond (in_block b.base b.count j) (started (b.shows s (j - b.base))) 0 + started (shown_in l s j)
    by j (yes p) q = rw (out_block b.base b.count j (λ x y. omega arith)) (omega arith)
    by j (no p) (yes q) = rw (in_block_lem b.base b.count j (omega arith) q, shown_none s j l (a.1 j (omega arith) q)) (omega arith)
    by j (no p) (no q) = rw (out_block b.base b.count j (λ x y. omega arith)) (omega arith)

module _ (m : Timing) (g : GoodTiming m) where
  blocks_apart : Apart variables (blocks_of m)
  unfolding Apart Avoids blocks_of
  blocks_apart = (omega arith, (λ j p q. omega arith), (omega arith, (λ j p q. omega arith), (omega arith, (λ j p q. omega arith), (omega arith, (λ j p q. omega arith), (omega arith, (λ j p q. omega arith), (omega arith, (λ j p q. omega arith), (omega arith, (λ j p q. omega arith), (omega arith, (λ j p q. omega arith), (omega arith, (λ j p q. omega arith), (omega arith, (λ j p q. omega arith), (omega arith, (λ j p q. tt), tt)))))))))))

-- ---- arrays that begin blank, with a c stored at c for each c below n
module _ {A : Type 0} (room : ℕ) (d : A) where
  blank_item : (i : ℕ) → item room (replicate room d) i d ≡ d
  blank_item i = go (dec_lt i room)
    where
      go : Dec (i < room) → item room (replicate room d) i d ≡ d
      go (yes l) = rw (lt-ltb i room l) (get_or-replicate room i d d l)
      go (no l) = item_past room (replicate room d) i d (omega arith)

  module _ (a : ℕ → A) where
    abbrev filled : ℕ → List A
    filled n = fold_below n (λ c l. store room l c (a c)) (replicate room d)

    filled_length : (n : ℕ) → length (filled n) ≡ room
    unfolding fold_below
    filled_length zero = length-replicate room d
    filled_length (suc n) = length_store room (filled n) n (a n) ∙ filled_length n

    filled_item : (n i : ℕ) → n ≤ room → i < n → item room (filled n) i d ≡ a i
    unfolding fold_below
    filled_item zero i h l = absurd (omega arith)
    filled_item (suc n) i h l = go (filled_item n i (omega arith)) (ℕ_discrete i n)
      where
        go : (i < n → item room (filled n) i d ≡ a i) → Dec (i ≡ n) → item room (store room (filled n) n (a n)) i d ≡ a i
        go ih (yes e) = rw e (item_store_same room (filled n) n (a n) d (omega arith) (omega (arith, filled_length n)))
        go ih (no e) = item_store_other room (filled n) n i (a n) d e ∙ ih (omega arith)

-- ---- the start state
bit_started : (b : Bool) → started (natural (bit b)) ≡ bit b
bit_started true = refl
bit_started false = refl

and_same : (b : Bool) → (b && b) ≡ b
and_same true = refl
and_same false = refl

module _ (m : Timing) (g : GoodTiming m) where
  abbrev begins : State
  begins = start_state m

  active_started : (t : ℕ) → t < m.threads → started (natural (bit (is_active begins t))) ≡ bit (in_mode (thread_at m t).modes m.initial)
  unfolding start_state active_in is_active
  active_started t l =
      bit_started (is_active begins t) ∙ ap bit (filled_item max_threads false (λ c. in_mode (thread_at m c).modes m.initial) m.threads t g.threads l)

  behavior_started : (t : ℕ) → t < m.threads → started (natural (behavior_of begins t)) ≡ bit (not (eqb (thread_at m t).first 0))
  unfolding start_state behavior_of
  behavior_started t l = ap (λ n. started (natural n)) (filled_item max_threads 0 (λ c. (thread_at m c).first) m.threads t g.threads l)

  live_started : (c : ℕ) → c < m.connections → started (natural (bit (is_live begins c))) ≡ connection_starts m c
  unfolding start_state live_in is_live in_both connection_starts
  live_started c l =
      bit_started (is_live begins c) ∙
      ap bit (filled_item max_connections false (λ e. in_both (connection_at m e).modes m.initial m.initial) m.connections c g.connections l ∙ and_same (in_mode (connection_at m c).modes m.initial))

  input_started : (i : ℕ) → i < m.inputs → started (input_value begins.ports i) ≡ started (input_at m i).start
  unfolding start_state input_value
  input_started i l = ap started (filled_item max_inputs (natural 0) (λ c. (input_at m c).start) m.inputs i g.inputs l)

  buffer_started : (i : ℕ) → i < m.inputs → started (buffer_value begins.ports i) ≡ started (input_at m i).start
  unfolding start_state buffer_value
  buffer_started i l = ap started (filled_item max_inputs (natural 0) (λ c. (input_at m c).start) m.inputs i g.inputs l)

  local_started : (v : ℕ) → v < m.locals → started (local_value begins.ports v) ≡ local_starts m v
  unfolding start_state local_value local_starts
  local_started v l = ap started (filled_item max_locals (natural 0) (λ c. (local_at m c).start) m.locals v g.locals l)

  -- what is 0 at the start
  threads_blank : (t : ℕ) → (started (natural (code_of begins t)) ≡ 0) × (started (natural (dispatch_time begins t)) ≡ 0) × (started (natural (missed_of begins t)) ≡ 0)
  unfolding start_state code_of dispatch_time missed_of
  threads_blank t = (
    ap (λ n. started (natural n)) (blank_item max_threads 0 t),
    ap (λ d. started (natural d.0)) (blank_item max_threads (duration 0) t),
    ap (λ n. started (natural n)) (blank_item max_threads 0 t),
  )

  output_blank : (o : ℕ) → started (output_value begins.ports o) ≡ 0
  unfolding start_state output_value
  output_blank o = ap started (blank_item max_outputs (natural 0) o)

  clock_started : sum_below clock_vars (λ j. started (natural (clock_number begins.clock j))) ≡ head_starts m
  unfolding start_state fold_below head_starts
  clock_started = omega arith

  blocks_begun : started_in begins (blocks_of m) ≡ item_starts m
  unfolding started_in blocks_of item_starts thread_starts input_starts
  blocks_begun =
      let active : ℕ → ℕ = λ t. bit (in_mode (thread_at m t).modes m.initial) in
      let first : ℕ → ℕ = λ t. bit (not (eqb (thread_at m t).first 0)) in
      let port : ℕ → ℕ = λ i. started (input_at m i).start in
      omega (
        arith,
        clock_started,
        sum_same m.threads (λ t. started (natural (bit (is_active begins t)))) active active_started,
        sum_zero m.threads (λ t. started (natural (code_of begins t))) (λ t l. (threads_blank t).0),
        sum_zero m.threads (λ t. started (natural (dispatch_time begins t))) (λ t l. (threads_blank t).1),
        sum_same m.threads (λ t. started (natural (behavior_of begins t))) first behavior_started,
        sum_zero m.threads (λ t. started (natural (missed_of begins t))) (λ t l. (threads_blank t).2),
        sum_same m.connections (λ c. started (natural (bit (is_live begins c)))) (connection_starts m) live_started,
        sum_same m.inputs (λ i. started (input_value begins.ports i)) port input_started,
        sum_same m.inputs (λ i. started (buffer_value begins.ports i)) port buffer_started,
        sum_zero m.outputs (λ o. started (output_value begins.ports o)) (λ o l. output_blank o),
        sum_same m.locals (λ v. started (local_value begins.ports v)) (local_starts m) local_started,
        sum_plus m.threads active first,
        sum_plus m.inputs port port,
      )

only_length : {A : Type 0} (b : Bool) (a : A) → length (only b a) ≡ bit b
only_length true a = refl
only_length false a = refl

pub starts_total : (m : Model) → GoodTiming m.timing → length (initial_of m) ≡ item_starts m.timing
unfolding initial_of stands_for
starts_total m g =
    let x = m.timing in
    let value : ℕ → Value = λ j. shown_in (blocks_of x) (start_state x) j in
    length_join variables (λ j. only (not (same_value (value j) (natural 0))) (record { variable = j; value = value j })) ∙
    (sum_same variables _ (λ j. started (value j)) (λ j l. only_length (not (same_value (value j) (natural 0))) _) ∙
    (blocks_started variables (start_state x) (blocks_of x) (blocks_apart x g) ∙ blocks_begun x g))
