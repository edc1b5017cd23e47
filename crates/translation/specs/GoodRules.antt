-- Each rule of a well-formed model is one that a reader of the table accepts.
use Rattle.std.specs.Prelude.{◌≡◌, refl, Bool, ◌&&◌, ◌||◌}
use Rattle.std.proofs.Math.Bool.{true, false, cond}
use mathlib.Core.List.{List, [], ◌∷◌, ◌++◌}
use Prim.Native.Nat.{ℕ, zero, suc, ◌<◌, ◌≤◌}
use native.Mathlib.Omega.{arith}
use Rattle.std.proofs.Math.Dec.{eqb}
use borrow.Author.Tests.{ltb-true, eqb-true, eqb-false}
use Rattle.numbers.specs.Values.{bits_of, copy_op, equals_op, differs_op, below_op, at_least_op, above_op, at_most_op}
use Rattle.records.specs.declared.Operand.{Operand}
use Rattle.records.specs.Format.{constant_tag}
use Rattle.records.specs.Events.{activate_kind, deactivate_kind, dispatch_kind, start_kind, complete_kind, deadline_kind, miss_kind, request_kind, enter_kind, leave_kind}
use Rattle.model_format.specs.declared.Timing.{Timing}
use Rattle.model_format.specs.declared.Model.{Model}
use Rattle.model_format.specs.Model.{thread_at, input_owner, connection_at, switch_at, transition_at, atom_at, assignment_at, in_mode, is_critical, immediate, delayed, is_kind, source_thread, target_thread, input_tag, local_tag, output_tag}
use Rattle.model_format.specs.WellFormed.{GoodOperand as ReadOperand, GoodTiming, WellFormed}
use Rattle.model_format.specs.Reading.{names_item}
use Rattle.model_semantics.specs.State.{none}
use Rattle.model_semantics.specs.Effects.{in_both}
use Rattle.model_semantics.specs.Tests.{waiting_mode, waiting_dispatch, waiting_execution, execution, completed, steady, requested, changing, runs}
use Rattle.table_format.specs.declared.Atom.{Atom}
use Rattle.table_format.specs.declared.Update.{Update}
use Rattle.table_format.specs.Format.{multiple_op, no_multiple_op}
use Rattle.table_format.specs.Variables.{variables, now_var, mode_var, phase_var, pending_var, entered_var, active_var, state_var, dispatch_var, due_var, end_var, behavior_var, missed_var, flag_var, input_var, buffer_var, output_var}
use Rattle.table_format.specs.RuleKinds.{is_one_of}
use Rattle.table_format.specs.All.{All, ◌also◌, one_cond, fold_keeps, all_append, all_join, all_when, all_only}
use Rattle.table_format.specs.Reading.{operand_fits}
use Rattle.table_format.specs.WellFormed.{GoodAtom, GoodUpdate, GoodRule}
use Rattle.translation.specs.Shown.{bit}
use Rattle.translation.specs.Parts.{constant, variable, chosen_length, differs, multiple_of, plain, negated_op, Expression, copied, sum_of, update_when, update, set_to, body}
use Rattle.translation.specs.GoodParts.{GoodOperand, constant_good, variable_good, length_good, compare_good, constant_compare, variable_compare, multiple_good, GoodExpression, copied_good, taken_good, sum_good, update_good, when_good, set_good, GoodBody, groups_good}
use Rattle.translation.specs.Rules.{cpu_var_for, state_is, active_is, due_is_now, end_is_now, activate_rules, deactivate_rule, stop_rules, deactivate_rules, per_into, delayed_clause, immediate_into, is_immediate_port, take_buffer, per_input, dispatch_port, dispatch_rules, beside_clause, coming_clause, start_port, start_rules, variable_of, operand_of, atom_with, guard_clauses, negated_guard, per_transition, earlier_clause, otherwise_clause, assigned_expression, assignment_updates, old_output, sent_expression, send_updates, job_ends, transition_rule, default_rule, complete_rules, deadline_rule, deadline_rules, miss_updates, miss_waiting, miss_running, miss_rules, request_rules, phase_is, active_updates, flag_updates, enter_rules, leave_rules, items_of, timing_rules, rules_for, groups_for, groups_of, rules_of}

-- a rule for any length
body_good : (kind : ℕ) (clauses : List (List Atom)) (updates : List Update) → All (All GoodAtom) clauses → All (GoodUpdate kind) updates → GoodBody kind (body clauses updates)
body_good kind clauses updates h k = record { shortest = omega arith; longest = omega arith; clauses = h; updates = k }

pub bit_small : (b : Bool) → bit b < 2
bit_small true = omega arith
bit_small false = omega arith

-- ---- a thread's own variables
module _ (t : ℕ) (h : t < 16) where
  state_good : (code : ℕ) → code < 8 → All GoodAtom (state_is t code)
  state_good code k = constant_compare equals_op (state_var t) code (omega arith) (omega arith) (omega arith) also tt

  active_good : (b : ℕ) → b < 8 → All GoodAtom (active_is t b)
  active_good b k = constant_compare equals_op (active_var t) b (omega arith) (omega arith) (omega arith) also tt

  due_good : All GoodAtom (due_is_now t)
  due_good = variable_compare equals_op (due_var t) now_var (omega arith) (omega arith) (omega arith) also tt

  end_good : All GoodAtom (end_is_now t)
  end_good = variable_compare equals_op (end_var t) now_var (omega arith) (omega arith) (omega arith) also tt

  set_state : (kind code : ℕ) → code < 8 → GoodUpdate kind (set_to (state_var t) code)
  set_state kind code k = set_good kind (state_var t) code (omega arith) (omega arith) (omega arith)

  ends_good : (m : Timing) (kind : ℕ) → All (GoodUpdate kind) (job_ends m t)
  ends_good m kind = set_good kind (cpu_var_for m t) none (omega arith) (omega arith) (omega arith) also set_good kind (end_var t) 0 (omega arith) (omega arith) (omega arith) also tt

  -- ---- "1, 2"
  activate_good : (m : Timing) → All (GoodBody activate_kind) (activate_rules m t)
  unfolding activate_rules
  activate_good m =
      body_good activate_kind _ _ (active_good 1 (omega arith) also state_good waiting_mode (omega arith) also tt) (set_state activate_kind waiting_dispatch (omega arith) also tt) also tt

  -- the processor is left where the job ran
  left_good : (m : Timing) (kind : ℕ) (ran : Bool) → All (GoodUpdate kind) (cond ran (job_ends m t) [])
  left_good m kind true = ends_good m kind
  left_good m kind false = tt

  leaves_good : (m : Timing) (code : ℕ) → code < 8 → GoodBody deactivate_kind (deactivate_rule m t code)
  leaves_good m code k =
      body_good deactivate_kind _ _ (active_good 0 (omega arith) also state_good code k also tt) (set_state deactivate_kind waiting_mode (omega arith) also left_good m deactivate_kind (runs code))

  deactivate_good : (m : Timing) → All (GoodBody deactivate_kind) (deactivate_rules m t)
  unfolding deactivate_rules
  deactivate_good m = leaves_good m waiting_dispatch (omega arith) also stops_good (is_critical (thread_at m t))
    where
      stops_good : (critical : Bool) → All (GoodBody deactivate_kind) (cond critical [] (stop_rules m t))
      stops_good true = tt
      stops_good false = leaves_good m waiting_execution (omega arith) also leaves_good m execution (omega arith) also leaves_good m completed (omega arith) also tt

  -- ---- "7"
  missed_good : (code : ℕ) → code < 8 → All (GoodUpdate miss_kind) (miss_updates t code)
  missed_good code k =
      set_state miss_kind code k also
      update_good miss_kind (missed_var t) (sum_of (variable (missed_var t)) (constant 1)) (omega arith) (omega arith)
      (sum_good miss_kind (variable (missed_var t)) (constant 1) (variable_good false (missed_var t) (omega arith)) (constant_good false 1 (omega arith))) also tt

  waiting_good : (active code : ℕ) → active < 8 → code < 8 → GoodBody miss_kind (miss_waiting t active code)
  waiting_good active code a k = body_good miss_kind _ _ (state_good waiting_execution (omega arith) also active_good active a also due_good also tt) (missed_good code k)

  running_good : (m : Timing) (active code : ℕ) → active < 8 → code < 8 → GoodBody miss_kind (miss_running m t active code)
  running_good m active code a k =
      body_good miss_kind _ _
      (state_good execution (omega arith) also active_good active a also due_good also
      (variable_compare differs_op (end_var t) now_var (omega arith) (omega arith) (omega arith) also tt) also tt)
      (all_append (GoodUpdate miss_kind) (miss_updates t code) (job_ends m t) (missed_good code k) (ends_good m miss_kind))

  miss_good : (m : Timing) → All (GoodBody miss_kind) (miss_rules m t)
  unfolding miss_rules
  miss_good m =
      waiting_good 1 waiting_dispatch (omega arith) (omega arith) also waiting_good 0 waiting_mode (omega arith) (omega arith) also
      running_good m 1 waiting_dispatch (omega arith) (omega arith) also running_good m 0 waiting_mode (omega arith) (omega arith) also tt

-- ---- a model's timing
module _ (m : Timing) (g : GoodTiming m) where
  source_small : (c : ℕ) → c < m.connections → source_thread m c < 16
  source_small c h = omega (arith, g.threads, g.output (connection_at m c).source (g.source c h))

  thread_small : (t : ℕ) → t < m.threads → t < 16
  thread_small t h = omega (arith, g.threads)

  switch_small : (q : ℕ) → q < m.switches → q < 16
  switch_small q h = omega (arith, g.switches)

  connection_small : (c : ℕ) → c < m.connections → c < 32
  connection_small c h = omega (arith, g.connections)

  input_small : (i : ℕ) → i < m.inputs → i < 32
  input_small i h = omega (arith, g.inputs)

  -- clauses for the connections of a kind into a thread
  into_good : (kind t : ℕ) (f : ℕ → List (List Atom)) → ((c : ℕ) → c < m.connections → All (All GoodAtom) (f c)) → All (All GoodAtom) (per_into m kind t f)
  into_good kind t f h =
      all_join (All GoodAtom) m.connections (λ c. cond (is_kind m kind c && eqb (target_thread m c) t) (f c) [])
      (λ c l. all_when (All GoodAtom) (is_kind m kind c && eqb (target_thread m c) t) (f c) (λ e. h c l))

  -- updates for the input ports of a thread
  input_good : (kind t : ℕ) (f : ℕ → List Update) → ((i : ℕ) → i < m.inputs → All (GoodUpdate kind) (f i)) → All (GoodUpdate kind) (per_input m t f)
  input_good kind t f h =
      all_join (GoodUpdate kind) m.inputs (λ i. cond (eqb (input_owner m i) t) (f i) [])
      (λ i l. all_when (GoodUpdate kind) (eqb (input_owner m i) t) (f i) (λ e. h i l))

  -- an input port takes its buffer
  take_good : (kind i : ℕ) → i < m.inputs → GoodUpdate kind (update (input_var i) (take_buffer i))
  take_good kind i h =
      let l = input_small i h in
      update_good kind (input_var i) (take_buffer i) (omega arith) (omega arith) (taken_good kind (buffer_var i) (omega arith))

  -- where the immediate connection into it is live, or not
  take_when : (kind i wanted : ℕ) → i < m.inputs → wanted < 256 → is_immediate_port m i ≡ true →
      GoodUpdate kind (update_when (flag_var (immediate_into m i)) wanted (input_var i) (take_buffer i))
  take_when kind i wanted h w e =
      let l = input_small i h in
      let c = connection_small (immediate_into m i) (ltb-true (immediate_into m i) m.connections e) in
      when_good kind (input_var i) (take_buffer i) (omega arith) (omega arith) (taken_good kind (buffer_var i) (omega arith)) (flag_var (immediate_into m i)) wanted (omega arith) w

  -- ---- "3"
  delayed_good : (c : ℕ) → c < m.connections → All GoodAtom (delayed_clause m c)
  delayed_good c h =
      let u = source_small c h in
      let l = connection_small c h in
      constant_compare equals_op (flag_var c) 0 (omega arith) (omega arith) (omega arith) also
      constant_compare equals_op (state_var (source_thread m c)) waiting_mode (omega arith) (omega arith) (omega arith) also
      constant_compare equals_op (state_var (source_thread m c)) waiting_dispatch (omega arith) (omega arith) (omega arith) also
      variable_compare differs_op (due_var (source_thread m c)) now_var (omega arith) (omega arith) (omega arith) also tt

  dispatch_good : (t : ℕ) → t < m.threads → All (GoodBody dispatch_kind) (dispatch_rules m t)
  unfolding dispatch_rules
  dispatch_good t h =
      let l = thread_small t h in
      let x = g.thread t h in
      body_good dispatch_kind _ _
      (state_good t l waiting_dispatch (omega arith) also active_good t l 1 (omega arith) also
      (multiple_good multiple_op now_var (thread_at m t).period.0 (omega arith) (omega arith) (omega arith) (omega arith) (omega arith) also tt) also
      into_good delayed t (λ c. delayed_clause m c ∷ []) (λ c k. delayed_good c k also tt))
      (set_state t l dispatch_kind waiting_execution (omega arith) also
      update_good dispatch_kind (dispatch_var t) (copied (variable now_var)) (omega arith) (omega arith) (taken_good dispatch_kind now_var (omega arith)) also
      update_good dispatch_kind (due_var t) (sum_of (variable now_var) (constant (thread_at m t).deadline.0)) (omega arith) (omega arith)
      (sum_good dispatch_kind (variable now_var) (constant (thread_at m t).deadline.0) (variable_good false now_var (omega arith)) (constant_good false (thread_at m t).deadline.0 (omega arith))) also
      input_good dispatch_kind t (dispatch_port m)
      (λ i k. one_cond (GoodUpdate dispatch_kind) (is_immediate_port m i) (update_when (flag_var (immediate_into m i)) 0 (input_var i) (take_buffer i)) (update (input_var i) (take_buffer i))
      (λ e. take_when dispatch_kind i 0 k (omega arith) e) (λ e. take_good dispatch_kind i k) also tt)) also tt

  -- ---- "4"
  beside_good : (t c : ℕ) → t < 16 → c < m.connections → All GoodAtom (beside_clause m t c)
  beside_good t c k h =
      let u = source_small c h in
      let l = connection_small c h in
      constant_compare equals_op (flag_var c) 0 (omega arith) (omega arith) (omega arith) also
      constant_compare below_op (state_var (source_thread m c)) waiting_execution (omega arith) (omega arith) (omega arith) also
      constant_compare equals_op (state_var (source_thread m c)) completed (omega arith) (omega arith) (omega arith) also
      variable_compare differs_op (dispatch_var (source_thread m c)) (dispatch_var t) (omega arith) (omega arith) (omega arith) also tt

  coming_good : (t c : ℕ) → t < 16 → c < m.connections → All GoodAtom (coming_clause m t c)
  coming_good t c k h =
      let u = source_small c h in
      let l = connection_small c h in
      let x = g.thread (source_thread m c) (g.output (connection_at m c).source (g.source c h)) in
      constant_compare equals_op (flag_var c) 0 (omega arith) (omega arith) (omega arith) also
      constant_compare equals_op (active_var (source_thread m c)) 0 (omega arith) (omega arith) (omega arith) also
      constant_compare at_least_op (state_var (source_thread m c)) waiting_execution (omega arith) (omega arith) (omega arith) also
      variable_compare differs_op (dispatch_var t) now_var (omega arith) (omega arith) (omega arith) also
      multiple_good no_multiple_op now_var (thread_at m (source_thread m c)).period.0 (omega arith) (omega arith) (omega arith) (omega arith) (omega arith) also tt

  start_good : (t : ℕ) → t < m.threads → All (GoodBody start_kind) (start_rules m t)
  unfolding start_rules
  start_good t h =
      let l = thread_small t h in
      let x = g.thread t h in
      record {
        shortest = omega arith;
        longest = omega arith;
        clauses =
            state_good t l waiting_execution (omega arith) also
            (constant_compare equals_op (cpu_var_for m t) none (omega arith) (omega arith) (omega arith) also tt) also
            (variable_compare differs_op (due_var t) now_var (omega arith) (omega arith) (omega arith) also tt) also
            into_good immediate t (λ c. beside_clause m t c ∷ coming_clause m t c ∷ []) (λ c k. beside_good t c l k also coming_good t c l k also tt);
        updates =
            set_state t l start_kind execution (omega arith) also
            set_good start_kind (cpu_var_for m t) t (omega arith) (omega arith) (omega arith) also
            update_good start_kind (end_var t) (sum_of (variable now_var) chosen_length) (omega arith) (omega arith)
            (sum_good start_kind (variable now_var) chosen_length (variable_good true now_var (omega arith)) length_good) also
            input_good start_kind t (start_port m)
            (λ i k. all_only (GoodUpdate start_kind) (is_immediate_port m i) (update_when (flag_var (immediate_into m i)) 1 (input_var i) (take_buffer i)) (λ e. take_when start_kind i 1 k (omega arith) e));
      } also tt

  -- ---- buffers that a thread's connections of a kind fill
  send_good : (event kind t : ℕ) (from : ℕ → Expression) → ((o : ℕ) → o < m.outputs → GoodExpression event (from o)) → All (GoodUpdate event) (send_updates m kind t from)
  send_good event kind t from h =
      all_join (GoodUpdate event) m.connections
      (λ c. cond (is_kind m kind c && eqb (source_thread m c) t) (update_when (flag_var c) 1 (buffer_var (connection_at m c).target) (from (connection_at m c).source) ∷ []) [])
      (λ c l. all_only (GoodUpdate event) (is_kind m kind c && eqb (source_thread m c) t) (update_when (flag_var c) 1 (buffer_var (connection_at m c).target) (from (connection_at m c).source))
      (λ e.
      let i = input_small (connection_at m c).target (g.target c l) in
      let k = connection_small c l in
      when_good event (buffer_var (connection_at m c).target) (from (connection_at m c).source) (omega arith) (omega arith)
      (h (connection_at m c).source (g.source c l)) (flag_var c) 1 (omega arith) (omega arith)))

  output_good : (event o : ℕ) → o < m.outputs → GoodExpression event (old_output o)
  output_good event o h = taken_good event (output_var o) (omega (arith, g.outputs))

  -- ---- "6"
  deadline_good : (t : ℕ) → t < m.threads → All (GoodBody deadline_kind) (deadline_rules m t)
  unfolding deadline_rules
  deadline_good t h = one 1 waiting_dispatch (omega arith) (omega arith) also one 0 waiting_mode (omega arith) (omega arith) also tt
    where
      l : t < 16
      l = thread_small t h

      one : (active code : ℕ) → active < 8 → code < 8 → GoodBody deadline_kind (deadline_rule m t active code)
      one active code a k =
          body_good deadline_kind _ _ (state_good t l completed (omega arith) also due_good t l also active_good t l active a also tt)
          (set_state t l deadline_kind code k also send_good deadline_kind delayed t old_output (output_good deadline_kind))

  -- ---- "8"
  request_good : (q : ℕ) → q < m.switches → All (GoodBody request_kind) (request_rules m q)
  unfolding request_rules
  request_good q h =
      let l = switch_small q h in
      let f : (switch_at m q).from < 8 = omega (arith, g.from q h, g.modes) in
      body_good request_kind _ _
      ((constant_compare equals_op phase_var steady (omega arith) (omega arith) (omega arith) also tt) also
      (constant_compare equals_op mode_var (switch_at m q).from (omega arith) (omega arith) (omega arith) also tt) also tt)
      (set_good request_kind phase_var requested (omega arith) (omega arith) (omega arith) also set_good request_kind pending_var q (omega arith) (omega arith) (omega arith) also tt) also
      body_good request_kind _ _
      ((constant_compare differs_op phase_var steady (omega arith) (omega arith) (omega arith) also
      constant_compare differs_op mode_var (switch_at m q).from (omega arith) (omega arith) (omega arith) also tt) also tt) tt also tt

  -- ---- "9, 10"
  phase_good : (phase q : ℕ) (r : List (List Atom)) → phase < 8 → q < m.switches → All (All GoodAtom) r → All (All GoodAtom) (phase_is phase q ++ r)
  phase_good phase q r k h f =
      let l = switch_small q h in
      (constant_compare equals_op phase_var phase (omega arith) (omega arith) (omega arith) also tt) also
      (constant_compare equals_op pending_var q (omega arith) (omega arith) (omega arith) also tt) also f

  actives_good : (kind mode : ℕ) → All (GoodUpdate kind) (active_updates m mode)
  actives_good kind mode =
      all_join (GoodUpdate kind) m.threads (λ t. set_to (active_var t) (bit (in_mode (thread_at m t).modes mode)) ∷ [])
      (λ t h.
      let l = thread_small t h in
      let b = bit_small (in_mode (thread_at m t).modes mode) in
      set_good kind (active_var t) (bit (in_mode (thread_at m t).modes mode)) (omega arith) (omega arith) (omega arith) also tt)

  flags_good : (kind old new : ℕ) → All (GoodUpdate kind) (flag_updates m old new)
  flags_good kind old new =
      all_join (GoodUpdate kind) m.connections (λ c. set_to (flag_var c) (bit (in_both (connection_at m c).modes old new)) ∷ [])
      (λ c h.
      let l = connection_small c h in
      let b = bit_small (in_both (connection_at m c).modes old new) in
      set_good kind (flag_var c) (bit (in_both (connection_at m c).modes old new)) (omega arith) (omega arith) (omega arith) also tt)

  enter_good : (q : ℕ) → q < m.switches → All (GoodBody enter_kind) (enter_rules m q)
  unfolding enter_rules
  enter_good q h =
      let k = g.h1 q h in
      body_good enter_kind _ _
      (phase_good requested q (plain (multiple_of now_var (constant (switch_at m q).h1.0)) ∷ []) (omega arith) h
      ((multiple_good multiple_op now_var (switch_at m q).h1.0 (omega arith) (omega arith) (omega arith) (omega arith) (omega arith) also tt) also tt))
      (set_good enter_kind phase_var changing (omega arith) (omega arith) (omega arith) also
      update_good enter_kind entered_var (copied (variable now_var)) (omega arith) (omega arith) (taken_good enter_kind now_var (omega arith)) also
      all_append (GoodUpdate enter_kind) (active_updates m (switch_at m q).to) (flag_updates m (switch_at m q).from (switch_at m q).to)
      (actives_good enter_kind (switch_at m q).to) (flags_good enter_kind (switch_at m q).from (switch_at m q).to)) also tt

  leave_good : (q : ℕ) → q < m.switches → All (GoodBody leave_kind) (leave_rules m q)
  unfolding leave_rules
  leave_good q h =
      let k = g.h2 q h in
      let f : (switch_at m q).to < 8 = omega (arith, g.to q h, g.modes) in
      body_good leave_kind _ _
      (phase_good changing q (plain (differs now_var (variable entered_var)) ∷ plain (multiple_of now_var (constant (switch_at m q).h2.0)) ∷ []) (omega arith) h
      ((variable_compare differs_op now_var entered_var (omega arith) (omega arith) (omega arith) also tt) also
      (multiple_good multiple_op now_var (switch_at m q).h2.0 (omega arith) (omega arith) (omega arith) (omega arith) (omega arith) also tt) also tt))
      (set_good leave_kind phase_var steady (omega arith) (omega arith) (omega arith) also
      set_good leave_kind pending_var none (omega arith) (omega arith) (omega arith) also
      set_good leave_kind mode_var (switch_at m q).to (omega arith) (omega arith) (omega arith) also
      flags_good leave_kind (switch_at m q).to (switch_at m q).to) also tt

-- ---- "5"
-- a number that one of two tests names lies between them
between : (n a b : ℕ) → (eqb n a || eqb n b) ≡ true → a ≤ b → (a ≤ n) × (n ≤ b)
between n a b h l = go (eqb n a) refl h
  where
    go : (x : Bool) → eqb n a ≡ x → (x || eqb n b) ≡ true → (a ≤ n) × (n ≤ b)
    go true e h = let q = eqb-true n a e in (omega arith, omega arith)
    go false e h = let q = eqb-true n b h in (omega arith, omega arith)

negated_small : (op : ℕ) → negated_op op < 6
unfolding negated_op
negated_small op =
    one_cond Small (eqb op equals_op) differs_op _ (λ e. omega arith) (λ e.
    one_cond Small (eqb op differs_op) equals_op _ (λ e. omega arith) (λ e.
    one_cond Small (eqb op below_op) at_least_op _ (λ e. omega arith) (λ e.
    one_cond Small (eqb op at_least_op) below_op _ (λ e. omega arith) (λ e.
    one_cond Small (eqb op above_op) at_most_op above_op (λ e. omega arith) (λ e. omega arith)))))
  where
    Small : ℕ → Type 0
    Small n = n < 6

module _ (m : Model) (w : WellFormed m) where
  names_good : (tag n : ℕ) → 1 ≤ tag → tag ≤ 3 → names_item m.timing tag n ≡ true → (0 < variable_of tag n) × (variable_of tag n < variables)
  unfolding names_item variable_of
  names_good zero n l h e = absurd (omega arith)
  names_good (suc zero) n l h e = let k = ltb-true n m.timing.inputs e in (omega arith, omega (arith, w.timing.inputs))
  names_good (suc (suc zero)) n l h e = let k = ltb-true n m.timing.locals e in (omega arith, omega (arith, w.timing.locals))
  names_good (suc (suc (suc zero))) n l h e = let k = ltb-true n m.timing.outputs e in (omega arith, omega (arith, w.timing.outputs))
  names_good (suc (suc (suc (suc tag)))) n l h e = absurd (omega arith)

  operand_good : (b : Bool) (o : Operand) → ReadOperand m.timing o → GoodOperand b (operand_of o)
  unfolding operand_of operand_fits
  operand_good b o r =
      one_cond (GoodOperand b) (eqb o.tag constant_tag) o (variable (variable_of o.tag (bits_of o.value.0)))
      (λ e. record { fits = rw e; value = r.fits })
      (λ e.
      let k = ltb-true o.tag 3 r.tag in
      let n : o.tag ≡ constant_tag → ⊥ = eqb-false o.tag constant_tag e in
      variable_good b (variable_of o.tag (bits_of o.value.0)) (names_good o.tag (bits_of o.value.0) (omega arith) (omega arith) r.names).1)

  module _ (k : ℕ) (l : k < m.behavior.transitions) where
    atom_good : (f : ℕ → ℕ) (j : ℕ) → ((op : ℕ) → op < 6 → f op < 6) → j < (transition_at m.behavior k).atoms → GoodAtom (atom_with f (atom_at m.behavior k j))
    atom_good f j s h =
        let a = atom_at m.behavior k j in
        let r = w.behavior.atom k j l h in
        let (p, q) = between a.tag input_tag local_tag r.tag (omega arith) in
        compare_good (f a.op) (variable_of a.tag a.number) (operand_of a.right) (s a.op r.op)
        (names_good a.tag a.number p (omega arith) r.names).1 (operand_good false a.right r.right)

    guard_good : All (All GoodAtom) (guard_clauses m.behavior k)
    unfolding guard_clauses
    guard_good =
        all_join (All GoodAtom) (transition_at m.behavior k).atoms (λ j. plain (atom_with (λ op. op) (atom_at m.behavior k j)) ∷ [])
        (λ j h. (atom_good (λ op. op) j (λ op s. s) h also tt) also tt)

    negated_good : All GoodAtom (negated_guard m.behavior k)
    unfolding negated_guard
    negated_good =
        all_join GoodAtom (transition_at m.behavior k).atoms (λ j. plain (atom_with negated_op (atom_at m.behavior k j)))
        (λ j h. atom_good negated_op j (λ op s. negated_small op) h also tt)

    assigned_good : (j : ℕ) → j < (transition_at m.behavior k).assignments → GoodExpression complete_kind (assigned_expression (assignment_at m.behavior k j))
    unfolding assigned_expression
    assigned_good j h =
        let a = assignment_at m.behavior k j in
        let r = w.behavior.assignment k j l h in
        let first = operand_good false a.first r.first in
        one_cond (GoodExpression complete_kind) (eqb a.op copy_op) (copied (operand_of a.first)) (record { op = a.op; first = operand_of a.first; second = operand_of a.second })
        (λ e. copied_good complete_kind (operand_of a.first) first)
        (λ e. record { op = r.op; first = first; second = operand_good false a.second r.second })

    assignments_good : All (GoodUpdate complete_kind) (assignment_updates m.behavior k (transition_at m.behavior k).assignments)
    unfolding assignment_updates
    assignments_good =
        all_join (GoodUpdate complete_kind) (transition_at m.behavior k).assignments
        (λ j. update (variable_of (assignment_at m.behavior k j).tag (assignment_at m.behavior k j).number) (assigned_expression (assignment_at m.behavior k j)) ∷ [])
        (λ j h.
        let a = assignment_at m.behavior k j in
        let r = w.behavior.assignment k j l h in
        let (p, q) = between a.tag local_tag output_tag r.tag (omega arith) in
        let (s, n) = names_good a.tag a.number (omega arith) q r.names in
        update_good complete_kind (variable_of a.tag a.number) (assigned_expression a) s n (assigned_good j h) also tt)

    sent_good : (o : ℕ) → o < m.timing.outputs → GoodExpression complete_kind (sent_expression m.behavior k (transition_at m.behavior k).assignments o)
    unfolding sent_expression
    sent_good o h =
        fold_keeps (GoodExpression complete_kind) (transition_at m.behavior k).assignments
        (λ j x. cond (eqb (assignment_at m.behavior k j).tag output_tag && eqb (assignment_at m.behavior k j).number o) (assigned_expression (assignment_at m.behavior k j)) x)
        (old_output o) (output_good m.timing w.timing complete_kind o h)
        (λ j x i f.
        one_cond (GoodExpression complete_kind) (eqb (assignment_at m.behavior k j).tag output_tag && eqb (assignment_at m.behavior k j).number o)
        (assigned_expression (assignment_at m.behavior k j)) x (λ e. assigned_good j i) (λ e. f))

  -- lists for a thread's transitions below n
  transitions_good : {A : Type 0} (P : A → Type 0) (t n : ℕ) (f : ℕ → List A) → n ≤ m.behavior.transitions → ((k : ℕ) → k < n → All P (f k)) →
      All P (per_transition m.behavior t n f)
  transitions_good P t n f l h =
      all_join P n (λ k. cond (eqb (transition_at m.behavior k).thread t) (f k) [])
      (λ k i. all_when P (eqb (transition_at m.behavior k).thread t) (f k) (λ e. h k i))

  module _ (t : ℕ) (l : t < 16) where
    transition_good : (k : ℕ) → k < m.behavior.transitions → GoodBody complete_kind (transition_rule m t k)
    unfolding transition_rule
    transition_good k h =
        let b = m.behavior in
        let ends = ends_good t l m.timing complete_kind in
        let n = (transition_at b k).assignments in
        body_good complete_kind _ _
        (state_good t l execution (omega arith) also end_good t l also
        (constant_compare equals_op (behavior_var t) (transition_at b k).from (omega arith) (omega arith) (omega (arith, w.behavior.from k h)) also tt) also
        all_append (All GoodAtom) (guard_clauses b k) (per_transition b t k (earlier_clause b k)) (guard_good k h)
        (transitions_good (All GoodAtom) t k (earlier_clause b k) (omega arith)
        (λ e i. all_only (All GoodAtom) (eqb (transition_at b e).from (transition_at b k).from) (negated_guard b e) (λ q. negated_good e (omega arith)))))
        (set_state t l complete_kind completed (omega arith) also
        ends.0 also ends.1.0 also
        set_good complete_kind (behavior_var t) (transition_at b k).to (omega arith) (omega arith) (omega (arith, w.behavior.to k h)) also
        all_append (GoodUpdate complete_kind) (assignment_updates b k n) (send_updates m.timing immediate t (sent_expression b k n)) (assignments_good k h)
        (send_good m.timing w.timing complete_kind immediate t (sent_expression b k n) (sent_good k h)))

    default_good : GoodBody complete_kind (default_rule m t)
    unfolding default_rule
    default_good =
        let b = m.behavior in
        let ends = ends_good t l m.timing complete_kind in
        body_good complete_kind _ _
        (state_good t l execution (omega arith) also end_good t l also
        transitions_good (All GoodAtom) t b.transitions (otherwise_clause b t) (omega arith)
        (λ k h.
        (constant_compare differs_op (behavior_var t) (transition_at b k).from (omega arith) (omega arith) (omega (arith, w.behavior.from k h)) also negated_good k h) also tt))
        (set_state t l complete_kind completed (omega arith) also
        ends.0 also ends.1.0 also
        send_good m.timing w.timing complete_kind immediate t old_output (output_good m.timing w.timing complete_kind))

    complete_good : All (GoodBody complete_kind) (complete_rules m t)
    unfolding complete_rules
    complete_good =
        all_append (GoodBody complete_kind) (per_transition m.behavior t m.behavior.transitions (λ k. transition_rule m t k ∷ [])) (default_rule m t ∷ [])
        (transitions_good (GoodBody complete_kind) t m.behavior.transitions (λ k. transition_rule m t k ∷ []) (omega arith) (λ k h. transition_good k h also tt))
        (default_good also tt)

  -- ---- all rules
  pub rules_good : All GoodRule (rules_of m)
  unfolding groups_for items_of timing_rules rules_for is_one_of
  rules_good =
      let x = m.timing in
      let g = w.timing in
      let threads : x.threads ≤ 256 = omega (arith, g.threads) in
      let switches : x.switches ≤ 256 = omega (arith, g.switches) in
      groups_good (groups_of m)
      (record { known = refl; count = threads; bodies = λ t h. activate_good t (thread_small x g t h) x } also
      record { known = refl; count = threads; bodies = λ t h. deactivate_good t (thread_small x g t h) x } also
      record { known = refl; count = threads; bodies = dispatch_good x g } also
      record { known = refl; count = threads; bodies = start_good x g } also
      record { known = refl; count = threads; bodies = λ t h. complete_good t (thread_small x g t h) } also
      record { known = refl; count = threads; bodies = deadline_good x g } also
      record { known = refl; count = threads; bodies = λ t h. miss_good t (thread_small x g t h) x } also
      record { known = refl; count = switches; bodies = request_good x g } also
      record { known = refl; count = switches; bodies = enter_good x g } also
      record { known = refl; count = switches; bodies = leave_good x g } also tt)
