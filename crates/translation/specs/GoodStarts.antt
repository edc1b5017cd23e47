-- The start records of a well-formed model's table: numbers that rise, values of 32 bits.
use Rattle.std.proofs.Math.Path.{refl}
use Rattle.std.specs.Prelude.{Bool, List, [], ◌∷◌, replicate, eqb}
use Rattle.std.proofs.Math.Bool.{not}
use Prim.Native.Nat.{ℕ, ◌-◌, ◌<◌}
use Rattle.std.proofs.Common.{arith, SFits}
use Rattle.std.specs.Int.{w32}
use Rattle.numbers.specs.declared.Duration.{Duration}
use Rattle.numbers.specs.declared.Value.{Value}
use Rattle.numbers.specs.Lists.{item, store, fold_below}
use Rattle.numbers.specs.Values.{duration, natural, same_value}
use Rattle.model_format.specs.declared.Timing.{Timing}
use Rattle.model_format.specs.declared.Model.{Model}
use Rattle.model_format.specs.Model.{max_threads, max_inputs, max_outputs, max_locals, thread_at, input_at, local_at}
use Rattle.model_format.specs.WellFormed.{GoodTiming, WellFormed}
use Rattle.model_semantics.specs.State.{none, is_active, code_of, dispatch_time, behavior_of, missed_of, is_live, input_value, buffer_value, output_value, local_value}
use Rattle.model_semantics.specs.declared.State.{State}
use Rattle.model_semantics.specs.Machine.{start_state}
use Rattle.table_format.specs.Variables.{variables, now_var, mode_var, phase_var, pending_var, entered_var}
use Rattle.table_format.specs.All.{All, ◌also◌, one_cond, fold_keeps, all_replicate, all_store, all_item, blank_item}
use Rattle.table_format.specs.WellFormed.{Rising, rising_picked}
use Rattle.translation.specs.Shown.{bit, in_block, Block, clock_number, blocks_of, shown_in, stands_for}
use Rattle.translation.specs.Translate.{initial_of}
use Rattle.translation.specs.GoodRules.{bit_small}

-- ---- the values that variables begin with go into 32 bits
abbrev FitsValue : Value → Type 0
FitsValue v = SFits w32 v.0

abbrev IsByte : ℕ → Type 0
IsByte n = n < 256

small_fits : (n : ℕ) → n < 256 → FitsValue (natural n)
small_fits n h = record { sfits = omega arith }

-- what every block shows, any variable does
shown_all : (P : Value → Type 0) (s : State) (j : ℕ) → P (natural 0) → (l : List Block) → All (λ (b : Block). (i : ℕ) → P (b.shows s i)) l → P (shown_in l s j)
unfolding shown_in
shown_all P s j z [] h = z
shown_all P s j z (b ∷ l) h = one_cond P (in_block b.base b.count j) _ _ (λ e. h.0 (j - b.base)) (λ e. shown_all P s j z l h.1)

-- an array that begins at 0, with a c stored at c for each c below n
stored_fits : (room n : ℕ) (a : ℕ → Value) → ((c : ℕ) → c < n → FitsValue (a c)) → (i : ℕ) →
    FitsValue (item room (fold_below n (λ c l. store room l c (a c)) (replicate room (natural 0))) i (natural 0))
stored_fits room n a h i =
    all_item FitsValue room (fold_below n (λ c l. store room l c (a c)) (replicate room (natural 0))) i (natural 0)
    (fold_keeps (All FitsValue) n (λ c l. store room l c (a c)) (replicate room (natural 0)) (all_replicate FitsValue room (natural 0) (small_fits 0 (omega arith)))
    (λ c l k f. all_store FitsValue room l c (a c) f (h c k)))
    (small_fits 0 (omega arith))

module _ (m : Timing) (g : GoodTiming m) where
  code_small : (t : ℕ) → code_of (start_state m) t < 256
  unfolding code_of start_state
  code_small t = blank_item IsByte max_threads t 0 (omega arith)

  missed_small : (t : ℕ) → missed_of (start_state m) t < 256
  unfolding missed_of start_state
  missed_small t = blank_item IsByte max_threads t 0 (omega arith)

  time_small : (t : ℕ) → dispatch_time (start_state m) t < 256
  unfolding dispatch_time start_state
  time_small t = blank_item (λ (d : Duration). IsByte d.0) max_threads t (duration 0) (omega arith)

  behavior_small : (t : ℕ) → behavior_of (start_state m) t < 256
  unfolding behavior_of start_state
  behavior_small t =
      all_item IsByte max_threads (start_state m).threads.behavior t 0
      (fold_keeps (All IsByte) m.threads (λ t l. store max_threads l t (thread_at m t).first) (replicate max_threads 0)
      (all_replicate IsByte max_threads 0 (omega arith))
      (λ t l h k. all_store IsByte max_threads l t (thread_at m t).first k (omega (arith, (g.thread t h).first))))
      (omega arith)

  local_fits : (v : ℕ) → FitsValue (local_value (start_state m).ports v)
  unfolding local_value start_state
  local_fits v = stored_fits max_locals m.locals (λ c. (local_at m c).start) g.local v

  input_fits : (i : ℕ) → FitsValue (input_value (start_state m).ports i)
  unfolding input_value start_state
  input_fits i = stored_fits max_inputs m.inputs (λ c. (input_at m c).start) g.start i

  buffer_fits : (i : ℕ) → FitsValue (buffer_value (start_state m).ports i)
  unfolding buffer_value start_state
  buffer_fits i = stored_fits max_inputs m.inputs (λ c. (input_at m c).start) g.start i

  output_fits : (o : ℕ) → FitsValue (output_value (start_state m).ports o)
  unfolding output_value start_state
  output_fits o = blank_item FitsValue max_outputs o (natural 0) (small_fits 0 (omega arith))

  bit_fits : (b : Bool) → FitsValue (natural (bit b))
  bit_fits b = let l = bit_small b in small_fits (bit b) (omega arith)

  clock_fits : (j : ℕ) → FitsValue (natural (clock_number (start_state m).clock j))
  unfolding start_state
  clock_fits j =
      let Small : ℕ → Type 0 = λ n. FitsValue (natural n) in
      one_cond Small (eqb j now_var) _ _ (λ e. small_fits 0 (omega arith)) (λ e.
      one_cond Small (eqb j mode_var) _ _ (λ e. small_fits m.initial (omega (arith, g.initial, g.modes))) (λ e.
      one_cond Small (eqb j phase_var) _ _ (λ e. small_fits 0 (omega arith)) (λ e.
      one_cond Small (eqb j pending_var) _ _ (λ e. small_fits none (omega arith)) (λ e.
      one_cond Small (eqb j entered_var) _ _ (λ e. small_fits 0 (omega arith)) (λ e. small_fits none (omega arith))))))

  start_fits : (j : ℕ) → FitsValue (stands_for m (start_state m) j)
  unfolding stands_for blocks_of
  start_fits j =
      shown_all FitsValue (start_state m) j (small_fits 0 (omega arith)) (blocks_of m)
      (clock_fits also (λ t. bit_fits (is_active (start_state m) t)) also (λ t. small_fits _ (code_small t)) also (λ t. small_fits _ (time_small t)) also
      (λ t. small_fits _ (behavior_small t)) also (λ t. small_fits _ (missed_small t)) also (λ c. bit_fits (is_live (start_state m) c)) also
      input_fits also buffer_fits also output_fits also local_fits also tt)

-- ---- the start records
module _ (m : Model) (w : WellFormed m) where
  pub initial_rising : Rising 1 (initial_of m)
  unfolding initial_of stands_for shown_in blocks_of start_state
  initial_rising =
      let value = stands_for m.timing (start_state m.timing) in
      rising_picked (λ j. not (same_value (value j) (natural 0))) value refl (start_fits m.timing w.timing) variables (omega arith)
