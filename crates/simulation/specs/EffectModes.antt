-- ENTER and LEAVE.
use Rattle.std.specs.Prelude.{◌≡◌, refl, Bool, true, false, List, [], ◌∷◌, ◌++◌, ℕ, ◌+◌, ◌<◌, ◌≤◌}
use Rattle.std.proofs.Common.{◌∙◌, ap}
use native.Mathlib.Omega.{arith}
use Rattle.numbers.specs.declared.Value.{Value}
use Rattle.numbers.specs.Lists.{item}
use Rattle.model_format.specs.declared.Timing.{Timing}
use Rattle.model_format.specs.Model.{max_threads, max_connections, thread_at, connection_at, switch_at, in_mode}
use Rattle.model_format.specs.WellFormed.{GoodTiming}
use Rattle.model_semantics.specs.declared.State.{State}
use Rattle.model_semantics.specs.State.{none, is_active, code_of, dispatch_time, length_of, spent_of, behavior_of, missed_of, with_live, with_mode, with_phase, with_entered, with_active}
use Rattle.model_semantics.specs.Effects.{active_in, in_both, live_in, enter, leave}
use Rattle.table_format.specs.declared.Update.{Update}
use Rattle.table_format.specs.Variables.{variables, now_var, mode_var, phase_var, pending_var, entered_var, cpu_var, active_var, flag_var, clock_vars, thread_room, connection_room, thread_var, thread_columns}
use Rattle.table_semantics.specs.Rules.{value_of, writes}
use Rattle.translation.specs.Shown.{bit}
use Rattle.translation.specs.Parts.{constant, variable, copied, update, set_to}
use Rattle.translation.specs.Rules.{active_updates, flag_updates, enter_rules, leave_rules}
use Rattle.simulation.specs.Compared.{Dispatched}
use Rattle.simulation.specs.Match.{Match}
use Rattle.simulation.specs.Writes.{updated, updated_append, value_written, updated_miss, updated_here, updated_there, updated_set, length_written, constant_worth, variable_worth, Misses, Apart, Within, one, apart_consistent, misses_append, misses_within, clear_within, apart_append, apart_join, within_join, Column, column_filled, NotActive, NotFlag}
use Rattle.simulation.specs.Effects.{Does, first_updates, InParts, Job, JobShown, LiveShown, flag_of, job_blank, in_parts, whole, afterwards, kept, ports_kept, job_kept}

-- ---- Flags by a mask
module _ (m : Timing) (g : GoodTiming m) (old new : ℕ) where
  abbrev flag_one : ℕ → List Update
  flag_one c = set_to (flag_var c) (bit (in_both (connection_at m c).modes old new)) ∷ []

  pub flags_within : Within (flag_var 0) (flag_var connection_room) (flag_updates m old new)
  flags_within = within_join flag_var flag_one (flag_var 0) (flag_var connection_room) m.connections (λ c l. one _ refl) (λ c l. let few : m.connections ≤ max_connections = g.connections in (omega arith, omega arith))

  pub flags_apart : Apart (flag_updates m old new)
  flags_apart = apart_join flag_var flag_one m.connections (λ c l. one _ refl) (λ c e l b q. omega arith)

  pub flags_shown : (n : ℕ) (l : List Bool) (v w : List Value) → LiveShown m l v →
      ((i : ℕ) → i < max_connections → value_of w (flag_var i) ≡ updated n v (flag_updates m old new) (flag_var i) (value_of v (flag_var i))) → LiveShown m (live_in m old new l) w
  unfolding live_in
  flags_shown n l v w h e =
      column_filled n v w m.connections flag_one _ (λ c. true) (λ c. c) (λ c. in_both (connection_at m c).modes old new)
      (λ c b x. refl) (λ c b q. b) (λ c b i a x. updated_set n v (flag_var 0) c (bit (in_both (connection_at m c).modes old new)) i x) h e

-- ---- Active by a mask
module _ (m : Timing) (g : GoodTiming m) (mode : ℕ) where
  abbrev active_one : ℕ → List Update
  active_one t = set_to (active_var t) (bit (in_mode (thread_at m t).modes mode)) ∷ []

  pub active_within : Within (active_var 0) (active_var thread_room) (active_updates m mode)
  active_within = within_join active_var active_one (active_var 0) (active_var thread_room) m.threads (λ c l. one _ refl) (λ c l. let few : m.threads ≤ max_threads = g.threads in (omega arith, omega arith))

  pub active_apart : Apart (active_updates m mode)
  active_apart = apart_join active_var active_one m.threads (λ c l. one _ refl) (λ c e l b q. omega arith)

  abbrev ActiveShown : List Bool → List Value → Type 0
  ActiveShown l v = Column flag_of false (active_var 0) max_threads m.threads l v

  pub active_shown : (n : ℕ) (l : List Bool) (v w : List Value) → ActiveShown l v →
      ((i : ℕ) → i < max_threads → value_of w (active_var i) ≡ updated n v (active_updates m mode) (active_var i) (value_of v (active_var i))) → ActiveShown (active_in m mode l) w
  unfolding active_in
  active_shown n l v w h e =
      column_filled n v w m.threads active_one _ (λ c. true) (λ c. c) (λ c. in_mode (thread_at m c).modes mode)
      (λ c b x. refl) (λ c b q. b) (λ c b i a x. updated_set n v (active_var 0) c (bit (in_mode (thread_at m c).modes mode)) i x) h e

-- another Active, and the other variables of the thread kept
job_active : {m : Timing} {d : Bool} {now : ℕ} {x : Job} {v w : List Value} {t : ℕ} (b : Bool) → JobShown m d now x v t →
    value_of w (active_var t) ≡ flag_of b → (m.threads ≤ t → b ≡ false) → ((k : ℕ) → 2 ≤ k → k ≤ thread_columns → value_of w (thread_var k t) ≡ value_of v (thread_var k t)) →
    JobShown m d now (record { active = b; code = x.code; dispatched = x.dispatched; long = x.long; spent = x.spent; behavior = x.behavior; missed = x.missed }) w t
job_active b h e f k = record {
  active = e;
  code = k 2 (omega arith) (omega arith) ∙ h.code;
  dispatched = k 3 (omega arith) (omega arith) ∙ h.dispatched;
  due = λ l p. k 4 (omega arith) (omega arith) ∙ h.due l p;
  no_due = λ l. k 4 (omega arith) (omega arith) ∙ h.no_due l;
  end = λ l p. k 5 (omega arith) (omega arith) ∙ h.end l p;
  no_end = λ l. k 5 (omega arith) (omega arith) ∙ h.no_end l;
  behavior = k 6 (omega arith) (omega arith) ∙ h.behavior;
  missed = k 7 (omega arith) (omega arith) ∙ h.missed;
  blank = λ l. record { active = f l; code = (h.blank l).code; dispatched = (h.blank l).dispatched; behavior = (h.blank l).behavior; missed = (h.blank l).missed };
  reached = record {
    codes = h.reached.codes;
    ran = h.reached.ran;
    long = h.reached.long;
    begun = h.reached.begun;
    past = h.reached.past;
    missed = h.reached.missed;
    missed_before = h.reached.missed_before;
  };
}

module _ (m : Timing) (g : GoodTiming m) (d : Dispatched) (s : State) (v : List Value) (h : InParts m d s v) (n q : ℕ) where
  -- ---- ENTER
  abbrev activates : List Update
  activates = active_updates m (switch_at m q).to

  abbrev flags : List Update
  flags = flag_updates m (switch_at m q).from (switch_at m q).to

  abbrev changes : List Update
  changes = set_to phase_var 2 ∷ update entered_var (copied (variable now_var)) ∷ activates ++ flags

  abbrev after : List Value
  after = afterwards n v changes

  flags_miss : (j : ℕ) → NotFlag j → Misses j flags
  flags_miss j b = misses_within (flag_var 0) (flag_var connection_room) j flags (flags_within m g (switch_at m q).from (switch_at m q).to) b

  activates_miss : (j : ℕ) → NotActive j → Misses j activates
  activates_miss j b = misses_within (active_var 0) (active_var thread_room) j activates (active_within m g (switch_at m q).to) b

  masks_miss : (j : ℕ) → NotActive j → NotFlag j → Misses j (activates ++ flags)
  masks_miss j a b = misses_append j activates flags (activates_miss j a) (flags_miss j b)

  enter_kept : (j : ℕ) → j < variables → (j ≡ phase_var → ⊥) × (j ≡ entered_var → ⊥) → NotActive j → NotFlag j → value_of after j ≡ value_of v j
  unfolding Misses
  enter_kept j l a b e = kept n v changes h.size j l (a.0, (a.1, masks_miss j b e))

  -- past the first two updates
  masks_left : (j : ℕ) → j < variables → (j ≡ phase_var → ⊥) → (j ≡ entered_var → ⊥) → value_of after j ≡ updated n v (activates ++ flags) j (value_of v j)
  masks_left j l a b =
      value_written n v changes v j h.size l ∙
      (updated_there n v j (set_to phase_var 2) _ _ a ∙ updated_there n v j (update entered_var (copied (variable now_var))) (activates ++ flags) _ b)

  abbrev active_now : List Bool
  active_now = active_in m (switch_at m q).to s.threads.active

  active_after : ActiveShown m g (switch_at m q).to active_now after
  unfolding is_active
  active_after =
      active_shown m g (switch_at m q).to n s.threads.active v after
      (record { sized = h.sized.active; blank = λ i b. (job_blank m d s v g.threads h i b).active; shows = λ i l. (h.jobs i l).active })
      (λ i l. masks_left (active_var i) (omega arith) (omega arith) (omega arith) ∙
      (updated_append n v activates flags (active_var i) _ ∙ updated_miss n v (active_var i) flags _ (flags_miss (active_var i) (omega arith))))

  flags_after : LiveShown m (live_in m (switch_at m q).from (switch_at m q).to s.live) after
  flags_after =
      flags_shown m g (switch_at m q).from (switch_at m q).to n s.live v after h.live
      (λ i l. masks_left (flag_var i) (omega arith) (omega arith) (omega arith) ∙
      (updated_append n v activates flags (flag_var i) _ ∙ ap (updated n v flags (flag_var i)) (updated_miss n v (flag_var i) activates _ (activates_miss (flag_var i) (omega arith)))))

  enter_match : InParts m d (enter m s q) after
  unfolding enter with_live with_active with_entered with_phase is_active code_of dispatch_time length_of spent_of behavior_of missed_of Misses
  enter_match = record {
    size = length_written (writes n v changes) v ∙ h.size;
    ticks = h.ticks;
    clock = record {
      now = enter_kept now_var (omega arith) (omega arith) (omega arith) (omega arith) ∙ h.clock.now;
      mode = enter_kept mode_var (omega arith) (omega arith) (omega arith) (omega arith) ∙ h.clock.mode;
      phase = value_written n v changes v phase_var h.size (omega arith) ∙
          (updated_here n v phase_var (copied (constant 2)) _ _ (λ e. omega arith, masks_miss phase_var (omega arith) (omega arith)) ∙ constant_worth n v 2);
      pending = enter_kept pending_var (omega arith) (omega arith) (omega arith) (omega arith) ∙ h.clock.pending;
      entered = value_written n v changes v entered_var h.size (omega arith) ∙
          (updated_there n v entered_var (set_to phase_var 2) _ _ (λ e. omega arith) ∙
          (updated_here n v entered_var (copied (variable now_var)) (activates ++ flags) _ (masks_miss entered_var (omega arith) (omega arith)) ∙
          (variable_worth n v now_var ∙ h.clock.now)));
      cpu = enter_kept cpu_var (omega arith) (omega arith) (omega arith) (omega arith) ∙ h.clock.cpu;
      spare = λ j l. enter_kept (clock_vars + j) (omega arith) (omega arith) (omega arith) (omega arith) ∙ h.clock.spare j l;
    };
    sized = record {
      active = active_after.sized;
      code = h.sized.code;
      dispatched = h.sized.dispatched;
      long = h.sized.long;
      spent = h.sized.spent;
      behavior = h.sized.behavior;
      missed = h.sized.missed;
    };
    jobs = λ t l. job_active (item max_threads active_now t false) (h.jobs t l) (active_after.shows t l) (active_after.blank t)
        (λ k a b. enter_kept (thread_var k t) (omega arith) (omega arith) (omega arith) (omega arith));
    live = flags_after;
    ports = ports_kept h.ports (λ j a b. enter_kept j b (omega arith) (omega arith) (omega arith));
  }

  masks_apart : Apart (activates ++ flags)
  masks_apart =
      apart_append activates flags (clear_within (active_var 0) (active_var thread_room) activates flags (active_within m g (switch_at m q).to) (λ j a b. flags_miss j (omega arith)))
      (active_apart m g (switch_at m q).to) (flags_apart m g (switch_at m q).from (switch_at m q).to)

  enters : Does m d (enter m s q) n v changes
  unfolding Apart Misses
  enters = record {
    consistent = apart_consistent n v changes ((λ e. omega arith, masks_miss phase_var (omega arith) (omega arith)), (masks_miss entered_var (omega arith) (omega arith), masks_apart));
    matches = whole m d (enter m s q) after g.threads enter_match;
  }

  -- ---- LEAVE
  abbrev lasting : List Update
  lasting = flag_updates m (switch_at m q).to (switch_at m q).to

  abbrev leaving : List Update
  leaving = set_to phase_var 0 ∷ set_to pending_var none ∷ set_to mode_var (switch_at m q).to ∷ lasting

  abbrev left : List Value
  left = afterwards n v leaving

  lasting_miss : (j : ℕ) → NotFlag j → Misses j lasting
  lasting_miss j b = misses_within (flag_var 0) (flag_var connection_room) j lasting (flags_within m g (switch_at m q).to (switch_at m q).to) b

  leave_kept : (j : ℕ) → j < variables → (j ≡ phase_var → ⊥) × (j ≡ pending_var → ⊥) × (j ≡ mode_var → ⊥) → NotFlag j → value_of left j ≡ value_of v j
  unfolding Misses
  leave_kept j l a b = kept n v leaving h.size j l (a.0, (a.1, (a.2, lasting_miss j b)))

  leave_match : InParts m d (leave m s q) left
  unfolding leave with_live with_mode with_phase is_active code_of dispatch_time length_of spent_of behavior_of missed_of Misses
  leave_match = record {
    size = length_written (writes n v leaving) v ∙ h.size;
    ticks = h.ticks;
    clock = record {
      now = leave_kept now_var (omega arith) (omega arith) (omega arith) ∙ h.clock.now;
      mode = value_written n v leaving v mode_var h.size (omega arith) ∙
          (updated_there n v mode_var (set_to phase_var 0) _ _ (λ e. omega arith) ∙
          (updated_there n v mode_var (set_to pending_var none) _ _ (λ e. omega arith) ∙
          (updated_here n v mode_var (copied (constant (switch_at m q).to)) lasting _ (lasting_miss mode_var (omega arith)) ∙ constant_worth n v (switch_at m q).to)));
      phase = value_written n v leaving v phase_var h.size (omega arith) ∙
          (updated_here n v phase_var (copied (constant 0)) _ _ (λ e. omega arith, (λ e. omega arith, lasting_miss phase_var (omega arith))) ∙ constant_worth n v 0);
      pending = value_written n v leaving v pending_var h.size (omega arith) ∙
          (updated_there n v pending_var (set_to phase_var 0) _ _ (λ e. omega arith) ∙
          (updated_here n v pending_var (copied (constant none)) _ _ (λ e. omega arith, lasting_miss pending_var (omega arith)) ∙ constant_worth n v none));
      entered = leave_kept entered_var (omega arith) (omega arith) (omega arith) ∙ h.clock.entered;
      cpu = leave_kept cpu_var (omega arith) (omega arith) (omega arith) ∙ h.clock.cpu;
      spare = λ j l. leave_kept (clock_vars + j) (omega arith) (omega arith) (omega arith) ∙ h.clock.spare j l;
    };
    sized = h.sized;
    jobs = λ t l. job_kept (h.jobs t l) (λ k a b. leave_kept (thread_var k t) (omega arith) (omega arith) (omega arith));
    live = flags_shown m g (switch_at m q).to (switch_at m q).to n s.live v left h.live (λ i l.
        value_written n v leaving v (flag_var i) h.size (omega arith) ∙
        (updated_there n v (flag_var i) (set_to phase_var 0) _ _ (omega arith) ∙
        (updated_there n v (flag_var i) (set_to pending_var none) _ _ (omega arith) ∙ updated_there n v (flag_var i) (set_to mode_var (switch_at m q).to) lasting _ (omega arith))));
    ports = ports_kept h.ports (λ j a b. leave_kept j b (omega arith) (omega arith));
  }

  leaves : Does m d (leave m s q) n v leaving
  unfolding Apart Misses
  leaves = record {
    consistent = apart_consistent n v leaving (
      (λ e. omega arith, (λ e. omega arith, lasting_miss phase_var (omega arith))),
      ((λ e. omega arith, lasting_miss pending_var (omega arith)), (lasting_miss mode_var (omega arith), flags_apart m g (switch_at m q).to (switch_at m q).to)),
    );
    matches = whole m d (leave m s q) left g.threads leave_match;
  }

module _ (m : Timing) (g : GoodTiming m) (d : Dispatched) (s : State) (v : List Value) (h : Match m d s v) (n q : ℕ) where
  pub enter_does : Does m d (enter m s q) n v (first_updates (enter_rules m q))
  unfolding first_updates enter_rules
  enter_does = enters m g d s v (in_parts m d s v h) n q

  pub leave_does : Does m d (leave m s q) n v (first_updates (leave_rules m q))
  unfolding first_updates leave_rules
  leave_does = leaves m g d s v (in_parts m d s v h) n q
