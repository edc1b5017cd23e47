-- What a variable stands for, block by block; and so the comparison of document 01, from the invariant.
use Rattle.std.specs.Prelude.{◌≡◌, Bool, true, ◌||◌, List, ℕ, zero, suc, ◌+◌, ◌-◌, ◌<◌, ◌≤◌}
use Rattle.std.proofs.Math.Path.{refl, sym, ap}
use Rattle.std.proofs.Common.{◌∙◌, subst, true≢false, arith}
use Rattle.std.proofs.Math.Bool.{false}
use Rattle.std.proofs.Math.Decide.{dec_lt}
use Rattle.numbers.specs.declared.Value.{Value}
use Rattle.numbers.specs.Values.{natural}
use Rattle.model_format.specs.declared.Timing.{Timing}
use Rattle.model_format.specs.Model.{max_threads, max_connections, max_inputs, max_outputs, max_locals}
use Rattle.model_format.specs.WellFormed.{GoodTiming}
use Rattle.model_semantics.specs.declared.State.{State}
use Rattle.model_semantics.specs.State.{is_active, code_of, dispatch_time, behavior_of, missed_of, is_live, input_value, buffer_value, output_value, local_value}
use Rattle.table_format.specs.Variables.{variables, now_var, mode_var, phase_var, pending_var, entered_var, cpu_var, clock_vars, spare_vars, thread_room, connection_room, input_room, output_room, local_room, active_var, state_var, dispatch_var, due_var, end_var, behavior_var, missed_var, flag_var, input_var, buffer_var, output_var, local_var}
use Rattle.table_semantics.specs.Rules.{value_of}
use Rattle.translation.specs.Shown.{bit, in_block, blocks_of, shown_in, stands_for}
use Rattle.translation.specs.ShownLaws.{in_block_lem, Avoids, shown_none, stands_block}
use Rattle.simulation.specs.Compared.{Dispatched, Alike, is_due_or_end}
use Rattle.simulation.specs.Match.{Match, Blank}

module _ (m : Timing) (g : GoodTiming m) (s : State) (b : Blank m s) where
  pub stands_active : (i : ℕ) → i < max_threads → stands_for m s (active_var i) ≡ natural (bit (is_active s i))
  unfolding Avoids blocks_of
  stands_active i l = stands_block m s 1 i refl (omega arith) (omega arith) (λ e. ap (λ c. natural (bit c)) (b.active i e))

  pub stands_code : (i : ℕ) → i < max_threads → stands_for m s (state_var i) ≡ natural (code_of s i)
  unfolding Avoids blocks_of
  stands_code i l = stands_block m s 2 i refl (omega arith) (omega arith) (λ e. ap natural (b.code i e))

  pub stands_dispatched : (i : ℕ) → i < max_threads → stands_for m s (dispatch_var i) ≡ natural (dispatch_time s i)
  unfolding Avoids blocks_of
  stands_dispatched i l = stands_block m s 3 i refl (omega arith) (omega arith) (λ e. ap natural (b.dispatched i e))

  pub stands_behavior : (i : ℕ) → i < max_threads → stands_for m s (behavior_var i) ≡ natural (behavior_of s i)
  unfolding Avoids blocks_of
  stands_behavior i l = stands_block m s 4 i refl (omega arith) (omega arith) (λ e. ap natural (b.behavior i e))

  pub stands_missed : (i : ℕ) → i < max_threads → stands_for m s (missed_var i) ≡ natural (missed_of s i)
  unfolding Avoids blocks_of
  stands_missed i l = stands_block m s 5 i refl (omega arith) (omega arith) (λ e. ap natural (b.missed i e))

  pub stands_flag : (i : ℕ) → i < max_connections → stands_for m s (flag_var i) ≡ natural (bit (is_live s i))
  unfolding Avoids blocks_of
  stands_flag i l = stands_block m s 6 i refl (omega arith) (omega arith) (λ e. ap (λ c. natural (bit c)) (b.live i e))

  pub stands_input : (i : ℕ) → i < max_inputs → stands_for m s (input_var i) ≡ input_value s.ports i
  unfolding Avoids blocks_of
  stands_input i l = stands_block m s 7 i refl (omega arith) (omega arith) (b.input i)

  pub stands_buffer : (i : ℕ) → i < max_inputs → stands_for m s (buffer_var i) ≡ buffer_value s.ports i
  unfolding Avoids blocks_of
  stands_buffer i l = stands_block m s 8 i refl (omega arith) (omega arith) (b.buffer i)

  pub stands_output : (i : ℕ) → i < max_outputs → stands_for m s (output_var i) ≡ output_value s.ports i
  unfolding Avoids blocks_of
  stands_output i l = stands_block m s 9 i refl (omega arith) (omega arith) (b.output i)

  pub stands_local : (i : ℕ) → i < max_locals → stands_for m s (local_var i) ≡ local_value s.ports i
  unfolding Avoids blocks_of
  stands_local i l = stands_block m s 10 i refl (omega arith) (omega arith) (b.local i)

  -- Due, End and the spare variables stand for nothing
  stands_nothing : (j : ℕ) → Avoids j (blocks_of m) → stands_for m s j ≡ natural 0
  unfolding stands_for
  stands_nothing j h = shown_none s j (blocks_of m) h

  pub stands_spare : (j : ℕ) → j < spare_vars → stands_for m s (clock_vars + j) ≡ natural 0
  unfolding Avoids blocks_of
  stands_spare j l = stands_nothing (clock_vars + j) (omega arith)

  pub stands_due : (t : ℕ) → t < max_threads → stands_for m s (due_var t) ≡ natural 0
  unfolding Avoids blocks_of
  stands_due t l = stands_nothing (due_var t) (omega arith)

  pub stands_end : (t : ℕ) → t < max_threads → stands_for m s (end_var t) ≡ natural 0
  unfolding Avoids blocks_of
  stands_end t l = stands_nothing (end_var t) (omega arith)

-- ---- a fact of every variable, from each block
within_block : (P : ℕ → Type 0) (base n j : ℕ) → base ≤ j → j < base + n → ((i : ℕ) → i < n → P (base + i)) → P j
within_block P base n j p q f = let e : base + (j - base) ≡ j = omega arith in subst P e (f (j - base) (omega arith))

pub record EachBlock (P : ℕ → Type 0) : Type 0 where
  pub now : P now_var
  pub mode : P mode_var
  pub phase : P phase_var
  pub pending : P pending_var
  pub entered : P entered_var
  pub cpu : P cpu_var
  pub spare : (j : ℕ) → j < spare_vars → P (clock_vars + j)
  pub active : (t : ℕ) → t < thread_room → P (active_var t)
  pub code : (t : ℕ) → t < thread_room → P (state_var t)
  pub dispatched : (t : ℕ) → t < thread_room → P (dispatch_var t)
  pub due : (t : ℕ) → t < thread_room → P (due_var t)
  pub end : (t : ℕ) → t < thread_room → P (end_var t)
  pub behavior : (t : ℕ) → t < thread_room → P (behavior_var t)
  pub missed : (t : ℕ) → t < thread_room → P (missed_var t)
  pub flag : (c : ℕ) → c < connection_room → P (flag_var c)
  pub input : (i : ℕ) → i < input_room → P (input_var i)
  pub buffer : (i : ℕ) → i < input_room → P (buffer_var i)
  pub output : (o : ℕ) → o < output_room → P (output_var o)
  pub local : (v : ℕ) → v < local_room → P (local_var v)

first_six : (P : ℕ → Type 0) → EachBlock P → (j : ℕ) → j < clock_vars → P j
first_six P f zero l = f.now
first_six P f (suc zero) l = f.mode
first_six P f (suc (suc zero)) l = f.phase
first_six P f (suc (suc (suc zero))) l = f.pending
first_six P f (suc (suc (suc (suc zero)))) l = f.entered
first_six P f (suc (suc (suc (suc (suc zero))))) l = f.cpu
first_six P f (suc (suc (suc (suc (suc (suc j)))))) l = absurd (omega arith)

pub each_variable : (P : ℕ → Type 0) → EachBlock P → (j : ℕ) → j < variables → P j
each_variable P f j l = six (dec_lt j clock_vars)
  where
    -- from base on, the blocks of n variables that are left
    next : (base n : ℕ) → base ≤ j → ((i : ℕ) → i < n → P (base + i)) → (base + n ≤ j → P j) → P j
    next base n p g k = go (dec_lt j (base + n))
      where
        go : Dec (j < base + n) → P j
        go (yes q) = within_block P base n j p q g
        go (no q) = k (omega arith)

    six : Dec (j < clock_vars) → P j
    six (yes q) = first_six P f j q
    six (no q) =
        next clock_vars spare_vars (omega arith) f.spare (λ a.
        next (active_var 0) thread_room a f.active (λ a.
        next (state_var 0) thread_room a f.code (λ a.
        next (dispatch_var 0) thread_room a f.dispatched (λ a.
        next (due_var 0) thread_room a f.due (λ a.
        next (end_var 0) thread_room a f.end (λ a.
        next (behavior_var 0) thread_room a f.behavior (λ a.
        next (missed_var 0) thread_room a f.missed (λ a.
        next (flag_var 0) connection_room a f.flag (λ a.
        next (input_var 0) input_room a f.input (λ a.
        next (buffer_var 0) input_room a f.buffer (λ a.
        next (output_var 0) output_room a f.output (λ a.
        next (local_var 0) local_room a f.local (λ a. absurd (omega arith))))))))))))))

-- ---- the comparison
module _ (m : Timing) (g : GoodTiming m) (d : Dispatched) (s : State) (v : List Value) (h : Match m d s v) where
  first_false : (a b : Bool) → (a || b) ≡ false → a ≡ false
  first_false true b e = e
  first_false false b e = refl

  second_false : (a b : Bool) → (a || b) ≡ false → b ≡ false
  second_false true b e = absurd (true≢false e)
  second_false false b e = e

  past_block : (base t : ℕ) → in_block base m.threads (base + t) ≡ false → m.threads ≤ t
  past_block base t e = go (dec_lt t m.threads)
    where
      go : Dec (t < m.threads) → m.threads ≤ t
      go (yes l) = absurd (true≢false (sym (in_block_lem base m.threads (base + t) (omega arith) (omega arith)) ∙ e))
      go (no l) = omega arith

  pub match_alike : Alike m d s (record { value = v })
  unfolding stands_for shown_in blocks_of
  match_alike = record {
    others = each_variable (λ j. is_due_or_end m j ≡ false → value_of v j ≡ stands_for m s j) (record {
      now = λ e. h.now;
      mode = λ e. h.mode;
      phase = λ e. h.phase;
      pending = λ e. h.pending;
      entered = λ e. h.entered;
      cpu = λ e. h.cpu;
      spare = λ j l e. h.spare j l ∙ sym (stands_spare m g s h.blank j l);
      active = λ t l e. h.active t l ∙ sym (stands_active m g s h.blank t l);
      code = λ t l e. h.code t l ∙ sym (stands_code m g s h.blank t l);
      dispatched = λ t l e. h.dispatched t l ∙ sym (stands_dispatched m g s h.blank t l);
      due = λ t l e. h.no_due t l (past_block (due_var 0) t (first_false _ _ e)) ∙ sym (stands_due m g s h.blank t l);
      end = λ t l e. h.no_end t l (past_block (end_var 0) t (second_false (in_block (due_var 0) m.threads (end_var t)) _ e)) ∙ sym (stands_end m g s h.blank t l);
      behavior = λ t l e. h.behavior t l ∙ sym (stands_behavior m g s h.blank t l);
      missed = λ t l e. h.missed t l ∙ sym (stands_missed m g s h.blank t l);
      flag = λ c l e. h.flag c l ∙ sym (stands_flag m g s h.blank c l);
      input = λ i l e. h.input i l ∙ sym (stands_input m g s h.blank i l);
      buffer = λ i l e. h.buffer i l ∙ sym (stands_buffer m g s h.blank i l);
      output = λ o l e. h.output o l ∙ sym (stands_output m g s h.blank o l);
      local = λ i l e. h.local i l ∙ sym (stands_local m g s h.blank i l);
    });
    due = h.due;
    end = h.end;
  }
