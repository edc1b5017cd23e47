-- The start variables of the table made from a model stand for the model's start state.
use Rattle.std.specs.Prelude.{◌≡◌, Bool, not, List, [], ◌∷◌, ◌++◌, ℤ, pos, negsuc, length, replicate}
use Rattle.std.proofs.Math.Path.{refl, sym, ap}
use Rattle.std.proofs.Common.{◌∙◌, arith, SFits, lt-ltb, eqb-true}
use Rattle.std.proofs.Math.Bool.{true, false}
use Rattle.std.proofs.lemmas.Bool.{false≢true, not-false}
use Prim.Native.Nat.{ℕ, zero, suc, ◌+◌, ◌<◌, ◌≤◌}
use Rattle.std.proofs.Math.Decide.{ℕ_discrete, dec_lt}
use Rattle.std.proofs.Math.ListN.{length-replicate}
use Rattle.std.proofs.lemmas.List.{get_or-replicate}
use Rattle.std.specs.Int.{w32}
use Rattle.numbers.specs.declared.Value.{Value}
use Rattle.numbers.specs.Lists.{item, store, fold_below, join_below, only}
use Rattle.numbers.specs.ListLaws.{length_store, item_store_same, item_store_other, item_past}
use Rattle.numbers.specs.Values.{value, duration, natural, bits_of, same_value}
use Rattle.model_format.specs.declared.Timing.{Timing}
use Rattle.model_format.specs.declared.Model.{Model}
use Rattle.model_format.specs.Model.{max_threads, max_inputs, max_outputs, max_locals, max_connections, thread_at, input_at, local_at, connection_at, in_mode}
use Rattle.model_format.specs.WellFormed.{GoodTiming, WellFormed}
use Rattle.model_semantics.specs.declared.State.{State}
use Rattle.model_semantics.specs.State.{is_active, code_of, dispatch_time, behavior_of, missed_of, is_live, input_value, buffer_value, output_value, local_value}
use Rattle.model_semantics.specs.Effects.{active_in, in_both, live_in}
use Rattle.model_semantics.specs.Machine.{start_state}
use Rattle.table_format.specs.declared.InitialValue.{InitialValue}
use Rattle.table_format.specs.Variables.{variables, now_var, phase_var, pending_var, entered_var, cpu_var, clock_vars, active_var, state_var, dispatch_var, due_var, end_var, behavior_var, missed_var, flag_var, input_var, buffer_var, output_var, local_var, mode_var}
use Rattle.table_semantics.specs.Rules.{value_of}
use Rattle.table_semantics.specs.Machine.{begun, start_variables}
use Rattle.translation.specs.Shown.{stands_for, blocks_of, shown_in}
use Rattle.translation.specs.Translate.{initial_of, table_from}
use Rattle.simulation.specs.Compared.{none_yet}
use Rattle.simulation.specs.Match.{Match, Blank}
use Rattle.simulation.specs.Effects.{InParts, JobShown, job_of, whole}
use Rattle.simulation.specs.Stands.{each_variable, stands_active, stands_code, stands_dispatched, stands_behavior, stands_missed, stands_flag, stands_input, stands_buffer, stands_output, stands_local, stands_spare, stands_due, stands_end}
use Rattle.simulation.specs.Writes.{fold_related}

-- ---- arrays that begin alike, with a c stored at c for each c below k
module _ {A : Type 0} (room : ℕ) (d : A) where
  item_blank : (i : ℕ) → item room (replicate room d) i d ≡ d
  item_blank i = go (dec_lt i room)
    where
      go : Dec (i < room) → item room (replicate room d) i d ≡ d
      go (yes l) = rw (lt-ltb i room l) (get_or-replicate room i d d l)
      go (no l) = item_past room (replicate room d) i d (omega arith)

  module _ (a : ℕ → A) where
    abbrev filled : ℕ → List A
    filled k = fold_below k (λ c l. store room l c (a c)) (replicate room d)

    filled_length : (k : ℕ) → length (filled k) ≡ room
    filled_length k = fold_related (λ (x : List A) (y : ℕ). length x ≡ room) k (λ c l. store room l c (a c)) (λ c y. y) (replicate room d) 0 (length-replicate room d)
        (λ c p x y r. length_store room x c (a c) ∙ r)

    filled_blank : (k i : ℕ) → k ≤ i → item room (filled k) i d ≡ d
    filled_blank k i l = fold_related (λ (x : List A) (y : ℕ). item room x i d ≡ d) k (λ c l. store room l c (a c)) (λ c y. y) (replicate room d) 0 (item_blank i)
        (λ c p x y r. item_store_other room x c i (a c) d (λ e. omega arith) ∙ r)

    -- a fact of d and of every a c below k
    filled_each : (P : A → Type 0) → P d → (k : ℕ) → ((c : ℕ) → c < k → P (a c)) → (i : ℕ) → P (item room (filled k) i d)
    filled_each P p k h i =
        (fold_related (λ (x : List A) (y : ℕ). (length x ≡ room) × P (item room x i d)) k (λ c l. store room l c (a c)) (λ c y. y) (replicate room d) 0
        (length-replicate room d, rw (item_blank i) p) (λ c q x y r. (length_store room x c (a c) ∙ r.0, go c q x r (ℕ_discrete i c) (dec_lt i room)))).1
      where
        go : (c : ℕ) → c < k → (x : List A) → (length x ≡ room) × P (item room x i d) → Dec (i ≡ c) → Dec (i < room) → P (item room (store room x c (a c)) i d)
        go c q x r (yes e) (yes l) =
            let z : length x ≡ room = r.0 in
            rw (← e, item_store_same room x i (a i) d l (omega arith)) (h i (omega arith))
        go c q x r (yes e) (no l) = rw (item_past room (store room x c (a c)) i d (omega arith)) p
        go c q x r (no e) l = rw (item_store_other room x c i (a c) d e) r.1

-- ---- a value that has the bits of 0 is 0
abbrev Plain : Value → Type 0
Plain x = same_value x (natural 0) ≡ true → x ≡ natural 0

plain_natural : (n : ℕ) → Plain (natural n)
plain_natural n e = ap natural (eqb-true n 0 e)

plain_fits : (x : Value) → SFits w32 x.0 → Plain x
plain_fits x f e = ap value (go x.0 f (eqb-true (bits_of x.0) 0 e))
  where
    go : (z : ℤ) → SFits w32 z → bits_of z ≡ 0 → z ≡ pos 0
    go (pos n) f e = ap pos e
    go (negsuc n) f e = let l : n < 2147483648 = f.sfits in absurd (omega arith)

-- ---- the start state: rooms, and what is blank
module _ (m : Timing) where
  abbrev begins : State
  begins = start_state m

  start_blank : Blank m begins
  unfolding start_state active_in live_in is_active code_of dispatch_time behavior_of missed_of is_live input_value buffer_value output_value local_value
  start_blank = record {
    active = λ t. filled_blank max_threads false (λ c. in_mode (thread_at m c).modes m.initial) m.threads t;
    code = λ t l. item_blank max_threads 0 t;
    dispatched = λ t l. ap (λ x. x.0) (item_blank max_threads (duration 0) t);
    behavior = λ t. filled_blank max_threads 0 (λ c. (thread_at m c).first) m.threads t;
    missed = λ t l. item_blank max_threads 0 t;
    live = λ c. filled_blank max_connections false (λ e. in_both (connection_at m e).modes m.initial m.initial) m.connections c;
    input = λ i. filled_blank max_inputs (natural 0) (λ c. (input_at m c).start) m.inputs i;
    buffer = λ i. filled_blank max_inputs (natural 0) (λ c. (input_at m c).start) m.inputs i;
    output = λ o l. item_blank max_outputs (natural 0) o;
    local = λ i. filled_blank max_locals (natural 0) (λ c. (local_at m c).start) m.locals i;
  }

  start_code : (t : ℕ) → code_of begins t ≡ 0
  unfolding start_state code_of
  start_code t = item_blank max_threads 0 t

  never_yet : (t : ℕ) → (dispatch_time begins t ≡ 0) × (missed_of begins t ≡ 0)
  unfolding start_state dispatch_time missed_of
  never_yet t = (ap (λ x. x.0) (item_blank max_threads (duration 0) t), item_blank max_threads 0 t)

  -- no start value but 0 has the bits of 0
  module _ (g : GoodTiming m) where
    start_plain : (j : ℕ) → j < variables → Plain (stands_for m begins j)
    start_plain = each_variable (λ j. Plain (stands_for m begins j)) (record {
      now = unfold stands_for shown_in blocks_of in plain_natural _;
      mode = unfold stands_for shown_in blocks_of in plain_natural _;
      phase = unfold stands_for shown_in blocks_of in plain_natural _;
      pending = unfold stands_for shown_in blocks_of in plain_natural _;
      entered = unfold stands_for shown_in blocks_of in plain_natural _;
      cpu = unfold stands_for shown_in blocks_of in plain_natural _;
      spare = λ j l. rw (stands_spare m g begins start_blank j l) (plain_natural 0);
      active = λ t l. rw (stands_active m g begins start_blank t l) (plain_natural _);
      code = λ t l. rw (stands_code m g begins start_blank t l) (plain_natural _);
      dispatched = λ t l. rw (stands_dispatched m g begins start_blank t l) (plain_natural _);
      due = λ t l. rw (stands_due m g begins start_blank t l) (plain_natural 0);
      end = λ t l. rw (stands_end m g begins start_blank t l) (plain_natural 0);
      behavior = λ t l. rw (stands_behavior m g begins start_blank t l) (plain_natural _);
      missed = λ t l. rw (stands_missed m g begins start_blank t l) (plain_natural _);
      flag = λ c l. rw (stands_flag m g begins start_blank c l) (plain_natural _);
      input = λ i l. rw (stands_input m g begins start_blank i l) (ports_plain i).0;
      buffer = λ i l. rw (stands_buffer m g begins start_blank i l) (ports_plain i).1;
      output = λ i l. rw (stands_output m g begins start_blank i l) (ports_plain i).2;
      local = λ i l. rw (stands_local m g begins start_blank i l) (ports_plain i).3;
    })
      where
        ports_plain : (i : ℕ) → Plain (input_value begins.ports i) × Plain (buffer_value begins.ports i) × Plain (output_value begins.ports i) × Plain (local_value begins.ports i)
        ports_plain i = unfold start_state input_value buffer_value output_value local_value in (
          filled_each max_inputs (natural 0) (λ c. (input_at m c).start) Plain (plain_natural 0) m.inputs (λ c l. plain_fits (input_at m c).start (g.start c l)) i,
          filled_each max_inputs (natural 0) (λ c. (input_at m c).start) Plain (plain_natural 0) m.inputs (λ c l. plain_fits (input_at m c).start (g.start c l)) i,
          rw (item_blank max_outputs (natural 0) i) (plain_natural 0),
          filled_each max_locals (natural 0) (λ c. (local_at m c).start) Plain (plain_natural 0) m.locals (λ c l. plain_fits (local_at m c).start (g.local c l)) i,
        )

-- ---- "Starts for variables not 0"
begun_append : (a b : List InitialValue) (v : List Value) → begun (a ++ b) v ≡ begun b (begun a v)
unfolding begun
begun_append [] b v = refl
begun_append (x ∷ a) b v = begun_append a b (store variables v x.variable x.value)

module _ (x : ℕ → Value) (plain : (j : ℕ) → j < variables → Plain (x j)) where
  abbrev start_one : ℕ → List InitialValue
  start_one j = only (not (same_value (x j) (natural 0))) (record { variable = j; value = x j })

  abbrev zeros : List Value
  zeros = replicate variables (natural 0)

  abbrev start_below : ℕ → List Value
  start_below k = begun (join_below k start_one) zeros

  one_length : (b : Bool) (k : ℕ) (v : List Value) → length (begun (only b (record { variable = k; value = x k })) v) ≡ length v
  unfolding begun
  one_length true k v = length_store variables v k (x k)
  one_length false k v = refl

  start_length : (k : ℕ) → length (start_below k) ≡ variables
  unfolding join_below begun
  start_length zero = length-replicate variables (natural 0)
  start_length (suc k) = rw (begun_append (join_below k start_one) (start_one k) zeros) (one_length (not (same_value (x k) (natural 0))) k (start_below k) ∙ start_length k)

  one_other : (b : Bool) (k : ℕ) (v : List Value) (j : ℕ) → (j ≡ k → ⊥) → value_of (begun (only b (record { variable = k; value = x k })) v) j ≡ value_of v j
  unfolding begun
  one_other true k v j n = item_store_other variables v k j (x k) (natural 0) n
  one_other false k v j n = refl

  one_same : (b : Bool) (k : ℕ) (v : List Value) → length v ≡ variables → k < variables → (b ≡ false → x k ≡ value_of v k) →
      value_of (begun (only b (record { variable = k; value = x k })) v) k ≡ x k
  unfolding begun
  one_same true k v z l h = item_store_same variables v k (x k) (natural 0) l (omega arith)
  one_same false k v z l h = sym (h refl)

  start_past : (k j : ℕ) → k ≤ j → value_of (start_below k) j ≡ natural 0
  unfolding join_below begun
  start_past zero j l = item_blank variables (natural 0) j
  start_past (suc k) j l =
      rw (begun_append (join_below k start_one) (start_one k) zeros)
      (one_other (not (same_value (x k) (natural 0))) k (start_below k) j (λ e. omega arith) ∙ start_past k j (omega arith))

  start_at : (k j : ℕ) → j < k → k ≤ variables → value_of (start_below k) j ≡ x j
  unfolding join_below
  start_at zero j l b = absurd (omega arith)
  start_at (suc k) j l b = rw (begun_append (join_below k start_one) (start_one k) zeros) (go (ℕ_discrete j k) (λ q. start_at k j q (omega arith)))
    where
      go : Dec (j ≡ k) → (j < k → value_of (start_below k) j ≡ x j) → value_of (begun (start_one k) (start_below k)) j ≡ x j
      go (yes e) ih =
          rw e (one_same (not (same_value (x k) (natural 0))) k (start_below k) (start_length k) (omega arith)
          (λ q. plain k (omega arith) (not-false (same_value (x k) (natural 0)) q) ∙ sym (start_past k k (omega arith))))
      go (no n) ih = one_other (not (same_value (x k) (natural 0))) k (start_below k) j n ∙ ih (omega arith)

-- ---- the match
module _ (m : Timing) (g : GoodTiming m) (v : List Value) (size : length v ≡ variables) (stands : (j : ℕ) → j < variables → value_of v j ≡ stands_for m (start_state m) j) where
  start_parts : InParts m none_yet (start_state m) v
  unfolding start_state active_in live_in is_live input_value buffer_value output_value local_value stands_for shown_in blocks_of
  start_parts = let s = start_state m in let b = start_blank m in record {
    size = size;
    ticks = omega arith;
    clock = record {
      now = stands now_var (omega arith);
      mode = stands mode_var (omega arith);
      phase = stands phase_var (omega arith);
      pending = stands pending_var (omega arith);
      entered = stands entered_var (omega arith);
      cpu = stands cpu_var (omega arith);
      spare = λ j l. stands (clock_vars + j) (omega arith) ∙ stands_spare m g s b j l;
    };
    sized = record {
      active = filled_length max_threads false (λ c. in_mode (thread_at m c).modes m.initial) m.threads;
      code = refl;
      dispatched = refl;
      long = refl;
      spent = refl;
      behavior = filled_length max_threads 0 (λ c. (thread_at m c).first) m.threads;
      missed = refl;
    };
    jobs = start_job;
    live = record {
      sized = filled_length max_connections false (λ e. in_both (connection_at m e).modes m.initial m.initial) m.connections;
      blank = b.live;
      shows = λ c l. stands (flag_var c) (omega arith) ∙ stands_flag m g s b c l;
    };
    ports = record {
      input = record { sized = filled_length max_inputs (natural 0) (λ c. (input_at m c).start) m.inputs; blank = b.input; shows = λ i l. stands (input_var i) (omega arith) ∙ stands_input m g s b i l };
      buffer = record { sized = filled_length max_inputs (natural 0) (λ c. (input_at m c).start) m.inputs; blank = b.buffer; shows = λ i l. stands (buffer_var i) (omega arith) ∙ stands_buffer m g s b i l };
      output = record { sized = refl; blank = b.output; shows = λ i l. stands (output_var i) (omega arith) ∙ stands_output m g s b i l };
      local = record {
        sized = filled_length max_locals (natural 0) (λ c. (local_at m c).start) m.locals;
        blank = b.local;
        shows = λ i l. stands (local_var i) (omega arith) ∙ stands_local m g s b i l;
      };
    };
  }
    where
      start_job : (t : ℕ) → t < max_threads → JobShown m false 0 (job_of (start_state m) t) v t
      start_job t l = let s = start_state m in let b = start_blank m in let c = start_code m t in record {
        active = stands (active_var t) (omega arith) ∙ stands_active m g s b t l;
        code = stands (state_var t) (omega arith) ∙ stands_code m g s b t l;
        dispatched = stands (dispatch_var t) (omega arith) ∙ stands_dispatched m g s b t l;
        due = λ p e. absurd (false≢true e);
        no_due = λ p. stands (due_var t) (omega arith) ∙ stands_due m g s b t l;
        end = λ p e. absurd (omega arith);
        no_end = λ p. stands (end_var t) (omega arith) ∙ stands_end m g s b t l;
        behavior = stands (behavior_var t) (omega arith) ∙ stands_behavior m g s b t l;
        missed = stands (missed_var t) (omega arith) ∙ stands_missed m g s b t l;
        blank = λ p. record { active = b.active t p; code = b.code t p; dispatched = b.dispatched t p; behavior = b.behavior t p; missed = b.missed t p };
        reached = record {
          codes = omega arith;
          ran = λ e. absurd (omega arith);
          long = λ e. absurd (omega arith);
          begun = λ e. absurd (omega arith);
          past = omega (arith, (never_yet m t).0);
          missed = omega (arith, (never_yet m t).1);
          missed_before = λ e. absurd (omega arith);
        };
      }

pub start_match : (m : Model) → WellFormed m → Match m.timing none_yet (start_state m.timing) (start_variables (table_from m)).value
unfolding start_variables table_from initial_of
start_match m f =
    let x : ℕ → Value = stands_for m.timing (start_state m.timing) in
    let p = start_plain m.timing f.timing in
    whole m.timing none_yet (start_state m.timing) _ f.timing.threads
    (start_parts m.timing f.timing _ (start_length x p variables) (λ j l. start_at x p variables j l (omega arith)))
