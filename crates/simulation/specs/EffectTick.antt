-- One tick of a quiet state.
use Rattle.std.specs.Prelude.{◌≡◌, Bool, eqb, length}
use Rattle.std.proofs.Math.Path.{refl, ap}
use Rattle.std.proofs.Common.{◌∙◌, arith, eq-eqb, lt-ltb}
use Rattle.std.proofs.Math.Bool.{true, false, cond}
use mathlib.Core.List.{List}
use Prim.Native.Nat.{ℕ, zero, suc, ◌+◌, ◌<◌, ◌≤◌}
use Rattle.std.proofs.Math.Decide.{ℕ_discrete, dec_lt}
use Rattle.numbers.specs.declared.Duration.{Duration}
use Rattle.numbers.specs.declared.Value.{Value}
use Rattle.numbers.specs.Lists.{item, store, fold_below}
use Rattle.numbers.specs.ListLaws.{length_store, item_store_same, item_store_other}
use Rattle.numbers.specs.Values.{duration, natural, plus, one_more}
use Rattle.numbers.specs.ValueLaws.{plus_small}
use Rattle.records.specs.Events.{last_clock}
use Rattle.model_format.specs.declared.Timing.{Timing}
use Rattle.model_format.specs.Model.{max_threads}
use Rattle.model_format.specs.Reading.{longest_time}
use Rattle.model_format.specs.WellFormed.{GoodTiming}
use Rattle.model_semantics.specs.declared.State.{State}
use Rattle.model_semantics.specs.State.{is_active, code_of, dispatch_time, length_of, spent_of, behavior_of, missed_of, now_of, with_now, with_spent}
use Rattle.model_semantics.specs.Tests.{execution, is_busy}
use Rattle.model_semantics.specs.Effects.{tick}
use Rattle.table_format.specs.Variables.{variables, now_var, mode_var, phase_var, pending_var, entered_var, cpu_var, flag_var, clock_vars, active_var, state_var, dispatch_var, due_var, end_var, behavior_var, missed_var}
use Rattle.table_semantics.specs.Rules.{value_of}
use Rattle.simulation.specs.Compared.{Dispatched}
use Rattle.simulation.specs.Match.{Match}
use Rattle.simulation.specs.Ticks.{tick_variables}
use Rattle.simulation.specs.Quiet.{quiet_unspent}
use Rattle.simulation.specs.Writes.{column_kept, fold_related}
use Rattle.simulation.specs.Effects.{InParts, JobShown, job_of, in_parts, whole, ports_kept}

-- ---- Spent of all threads
-- a state with other Spents
with_spents : State → List Duration → State
with_spents s l = record {
  clock = s.clock;
  threads = record { active = s.threads.active; code = s.threads.code; dispatched = s.threads.dispatched; length = s.threads.length; spent = l; behavior = s.threads.behavior; missed = s.threads.missed };
  live = s.live;
  ports = s.ports;
}

module _ (s : State) where
  abbrev spend_next : ℕ → List Duration → List Duration
  spend_next t l = cond (eqb (code_of s t) execution) (store max_threads l t (duration (one_more (spent_of s t)))) l

  abbrev spends : ℕ → List Duration
  spends k = fold_below k spend_next s.threads.spent

  spent_fold : (k : ℕ) → fold_below k (λ t x. cond (eqb (code_of s t) execution) (with_spent x t (one_more (spent_of s t))) x) s ≡ with_spents s (spends k)
  unfolding with_spents with_spent
  spent_fold k =
      fold_related (λ (x : State) (l : List Duration). x ≡ with_spents s l) k (λ t x. cond (eqb (code_of s t) execution) (with_spent x t (one_more (spent_of s t))) x) spend_next s s.threads.spent
      refl (λ t p x l r. rw r (go t l (eqb (code_of s t) execution)))
    where
      go : (t : ℕ) (l : List Duration) (b : Bool) →
          cond b (with_spent (with_spents s l) t (one_more (spent_of s t))) (with_spents s l) ≡ with_spents s (cond b (store max_threads l t (duration (one_more (spent_of s t)))) l)
      go t l true = refl
      go t l false = refl

  spends_length : length s.threads.spent ≡ max_threads → (k : ℕ) → length (spends k) ≡ max_threads
  spends_length z k = fold_related (λ (x : List Duration) (y : ℕ). length x ≡ max_threads) k spend_next (λ t y. y) s.threads.spent 0 z
      (λ t p x y r. go t x (eqb (code_of s t) execution) ∙ r)
    where
      go : (t : ℕ) (x : List Duration) (b : Bool) → length (cond b (store max_threads x t (duration (one_more (spent_of s t)))) x) ≡ length x
      go t x true = length_store max_threads x t _
      go t x false = refl

  -- a running thread spends one more
  spends_at : length s.threads.spent ≡ max_threads → (k t : ℕ) → t < k → t < max_threads → code_of s t ≡ execution → item max_threads (spends k) t (duration 0) ≡ duration (one_more (spent_of s t))
  unfolding fold_below
  spends_at z zero t l b e = absurd (omega arith)
  spends_at z (suc k) t l b e = go (ℕ_discrete t k) (λ p. spends_at z k t p b e)
    where
      past : (c : Bool) → (t ≡ k → ⊥) → item max_threads (spends k) t (duration 0) ≡ duration (one_more (spent_of s t)) →
          item max_threads (cond c (store max_threads (spends k) k (duration (one_more (spent_of s k)))) (spends k)) t (duration 0) ≡ duration (one_more (spent_of s t))
      past true n r = item_store_other max_threads (spends k) k t _ (duration 0) n ∙ r
      past false n r = r

      go : Dec (t ≡ k) → (t < k → item max_threads (spends k) t (duration 0) ≡ duration (one_more (spent_of s t))) →
          item max_threads (spend_next k (spends k)) t (duration 0) ≡ duration (one_more (spent_of s t))
      go (yes q) ih =
          let y : length (spends t) ≡ max_threads = spends_length z t in
          rw (← q, eq-eqb (code_of s t) execution e) (item_store_same max_threads (spends t) t (duration (one_more (spent_of s t))) (duration 0) b (omega arith))
      go (no n) ih = past (eqb (code_of s k) execution) n (ih (omega arith))

-- ---- the tick
module _ (m : Timing) (g : GoodTiming m) (d : Dispatched) (s : State) (v : List Value) (match : Match m d s v) (quiet : is_busy m s ≡ false) (below : now_of s < last_clock) where
  abbrev h : InParts m d s v
  h = in_parts m d s v match

  abbrev later : State
  later = with_now (with_spents s (spends s m.threads)) (now_of s + 1)

  abbrev after : List Value
  after = tick_variables v

  now_next : value_of after now_var ≡ natural (now_of s + 1)
  now_next =
      let z : length v ≡ variables = h.size in
      item_store_same variables v now_var (plus (value_of v now_var) (natural 1)) (natural 0) (omega arith) (omega arith) ∙ rw h.clock.now (plus_small (now_of s) 1 (omega arith))

  tick_kept : (j : ℕ) → 1 ≤ j → value_of after j ≡ value_of v j
  tick_kept j l = item_store_other variables v now_var j (plus (value_of v now_var) (natural 1)) (natural 0) (λ e. omega arith)

  -- the length is not spent before it, so one more is spent as it is said
  one_spent : (t : ℕ) → t < m.threads → code_of s t ≡ execution → (spent_of later t ≡ spent_of s t + 1) × (spent_of s t < length_of s t)
  unfolding with_now with_spents one_more spent_of
  one_spent t l e =
      let few : m.threads ≤ max_threads = g.threads in
      let a : spent_of s t < length_of s t = quiet_unspent m d s v match quiet t l e in
      let b : length_of s t ≤ longest_time = match.reached.long t e in
      (ap (λ x. x.0) (spends_at s h.sized.spent m.threads t l (omega arith) e) ∙ rw (lt-ltb (spent_of s t) 4294967295 (omega arith)), a)

  -- a thread that runs is one of the model's
  runs_there : (t : ℕ) → code_of s t ≡ execution → t < m.threads
  runs_there t e = go (dec_lt t m.threads)
    where
      go : Dec (t < m.threads) → t < m.threads
      go (yes l) = l
      go (no l) = let z : code_of s t ≡ 0 = match.blank.code t (omega arith) in absurd (omega arith)

  job_ticked : (t : ℕ) → t < max_threads → JobShown m (d t) (now_of s + 1) (job_of later t) after t
  unfolding with_now with_spents is_active code_of dispatch_time length_of behavior_of missed_of
  job_ticked t l = let x : JobShown m (d t) (now_of s) (job_of s t) v t = h.jobs t l in record {
    active = tick_kept (active_var t) (omega arith) ∙ x.active;
    code = tick_kept (state_var t) (omega arith) ∙ x.code;
    dispatched = tick_kept (dispatch_var t) (omega arith) ∙ x.dispatched;
    due = λ b e. tick_kept (due_var t) (omega arith) ∙ x.due b e;
    no_due = λ b. tick_kept (due_var t) (omega arith) ∙ x.no_due b;
    end = λ b e. tick_kept (end_var t) (omega arith) ∙ (x.end b e ∙ ap natural (let a = one_spent t b e in omega arith));
    no_end = λ b. tick_kept (end_var t) (omega arith) ∙ x.no_end b;
    behavior = tick_kept (behavior_var t) (omega arith) ∙ x.behavior;
    missed = tick_kept (missed_var t) (omega arith) ∙ x.missed;
    blank = λ b. record { active = (x.blank b).active; code = (x.blank b).code; dispatched = (x.blank b).dispatched; behavior = (x.blank b).behavior; missed = (x.blank b).missed };
    reached = record {
      codes = x.reached.codes;
      ran = λ e. let a = one_spent t (runs_there t e) e in omega arith;
      long = x.reached.long;
      begun = x.reached.begun;
      past = let a = x.reached.past in omega arith;
      missed = let a = x.reached.missed in omega arith;
      missed_before = x.reached.missed_before;
    };
  }

  ticked : InParts m d later after
  unfolding with_now with_spents
  ticked = record {
    size = length_store variables v now_var (plus (value_of v now_var) (natural 1)) ∙ h.size;
    ticks = omega arith;
    clock = record {
      now = now_next;
      mode = tick_kept mode_var (omega arith) ∙ h.clock.mode;
      phase = tick_kept phase_var (omega arith) ∙ h.clock.phase;
      pending = tick_kept pending_var (omega arith) ∙ h.clock.pending;
      entered = tick_kept entered_var (omega arith) ∙ h.clock.entered;
      cpu = tick_kept cpu_var (omega arith) ∙ h.clock.cpu;
      spare = λ j l. tick_kept (clock_vars + j) (omega arith) ∙ h.clock.spare j l;
    };
    sized = record {
      active = h.sized.active;
      code = h.sized.code;
      dispatched = h.sized.dispatched;
      long = h.sized.long;
      spent = spends_length s h.sized.spent m.threads;
      behavior = h.sized.behavior;
      missed = h.sized.missed;
    };
    jobs = job_ticked;
    live = column_kept h.live (λ c l. tick_kept (flag_var c) (omega arith));
    ports = ports_kept h.ports (λ j a b. tick_kept j (omega arith));
  }

  pub tick_match : Match m d (tick m s) (tick_variables v)
  unfolding tick
  tick_match = rw (spent_fold s m.threads) (whole m d later after g.threads ticked)
