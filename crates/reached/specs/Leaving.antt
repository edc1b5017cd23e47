-- A thread that is not critical and not Active has a job only at the clock of ENTER: it is stopped before time goes on.
use Rattle.std.specs.Prelude.{◌≡◌, Bool, cond, ◌&&◌, not, ℕ, ◌<◌, ◌≤◌, length}
use Rattle.std.proofs.Math.Path.{refl, ap}
use Rattle.std.proofs.Common.{sym, ◌∙◌, arith}
use Rattle.std.proofs.Math.Bool.{true, false, or-true, true≢false}
use Rattle.std.proofs.lemmas.Bool.{false≢true}
use Rattle.std.proofs.Math.Decide.{ℕ_discrete}
use Rattle.std.proofs.Math.Dec.{eqb}
use borrow.Author.Tests.{eq-eqb, eqb-true, not-true}
use Rattle.numbers.specs.declared.Duration.{Duration}
use Rattle.numbers.specs.Lists.{store, any_below}
use Rattle.numbers.specs.ListLaws.{length_store, none_below}
use Rattle.model_format.specs.declared.Timing.{Timing}
use Rattle.model_format.specs.declared.Model.{Model}
use Rattle.model_format.specs.Model.{max_threads, thread_at, switch_at, is_critical}
use Rattle.model_format.specs.Faultless.{both_false}
use Rattle.model_semantics.specs.declared.State.{State}
use Rattle.model_semantics.specs.State.{is_active, code_of, now_of, with_live, with_ports, with_now, with_entered, with_mode, with_phase, with_cpu, with_active, with_code, with_dispatch_time, with_job, with_behavior, with_missed}
use Rattle.model_semantics.specs.Tests.{waiting_mode, waiting_dispatch, waiting_execution, execution, completed, steady, changing, is_unfinished, has_job, can_activate, can_deactivate, can_dispatch, can_complete, can_leave, thread_busy, is_busy}
use Rattle.model_semantics.specs.StartLaws.{start_passed}
use Rattle.model_semantics.specs.DeactivateLaws.{deactivated}
use Rattle.model_semantics.specs.Effects.{dispatch, start, end_job, rest_code, advance, finish, complete, meet_deadline, miss, request, enter, leave, tick}
use Rattle.model_semantics.specs.Machine.{start_state}
use Rattle.reached.specs.Reachable.{Reachable}
use Rattle.reached.specs.Moves.{both, Move, activates, deactivates, dispatches, starts, completes, meets, misses, requests, enters, leaves, ticks_once, invariant}
use Rattle.reached.specs.Kept.{code_there, code_elsewhere, start_code, rest_idle, end_now, end_code, end_stays, spends}

-- the clock of ENTER, while the mode transition is under way
abbrev pub Entering : State → Type 0
Entering s = (s.clock.phase ≡ changing) × (now_of s ≡ s.clock.entered.0)

pub record Leaving (m : Timing) (s : State) : Type 0 where
  pub sized : length s.threads.code ≡ max_threads
  pub entering : (t : ℕ) → t < m.threads → is_critical (thread_at m t) ≡ false → is_active s t ≡ false → has_job (code_of s t) ≡ true → Entering s

-- ---- a code stored for thread t, who had a job if it has one now and is not Active; Active and what Entering asks for stay
module _ (m : Timing) (s r : State) (t code : ℕ) (l : t < max_threads) (e : r.threads.code ≡ store max_threads s.threads.code t code)
    (active : r.threads.active ≡ s.threads.active) (stays : Entering s → Entering r) (h : Leaving m s) where
  stored_leaving : (has_job code ≡ true → is_active s t ≡ false → has_job (code_of s t) ≡ true) → Leaving m r
  unfolding is_active
  stored_leaving had = record { sized = rw e (length_store max_threads s.threads.code t code ∙ h.sized); entering = λ u b c a j. stays (h.entering u b c (same_active u a) (old u (same_active u a) j (ℕ_discrete u t))) }
    where
      same_active : (u : ℕ) → is_active r u ≡ false → is_active s u ≡ false
      same_active u a = rw active at a

      old : (u : ℕ) → is_active s u ≡ false → has_job (code_of r u) ≡ true → Dec (u ≡ t) → has_job (code_of s u) ≡ true
      old u a j (yes k) =
          let there : code_of r u ≡ code = ap (code_of r) k ∙ code_there s r t code e l h.sized in
          ap (λ (x : ℕ). has_job (code_of s x)) k ∙ had (rw there at j) (sym (ap (is_active s) k) ∙ a)
      old u a j (no k) = rw (code_elsewhere s r t code e u k) at j

-- no such thread has a job, and codes and Active stay
abbrev NoneLeaves : Timing → State → Type 0
NoneLeaves m s = (t : ℕ) → t < m.threads → is_critical (thread_at m t) ≡ false → is_active s t ≡ false → has_job (code_of s t) ≡ true → ⊥

all_left : (m : Timing) (s r : State) → length s.threads.code ≡ max_threads → r.threads.code ≡ s.threads.code → r.threads.active ≡ s.threads.active → NoneLeaves m s → Leaving m r
unfolding is_active code_of
all_left m s r z e f none = record { sized = rw e z; entering = λ t l c a j. absurd (none t l c (rw f at a) (rw e at j)) }

none_leaves : (m : Timing) (s : State) → Leaving m s → (Entering s → ⊥) → NoneLeaves m s
none_leaves m s h n t l c a j = n (h.entering t l c a j)

-- ---- what the tests say
runs_on_lem : (s : State) (t : ℕ) → can_complete s t ≡ true → has_job (code_of s t) ≡ true
unfolding can_complete has_job is_unfinished
runs_on_lem s t c = let k : code_of s t ≡ execution = eqb-true (code_of s t) execution (both (eqb (code_of s t) execution) _ c).0 in rw k

dispatched_active : (m : Timing) (s : State) (t : ℕ) → can_dispatch m s t ≡ true → is_active s t ≡ true
unfolding can_dispatch
dispatched_active m s t c = (both (is_active s t) _ (both (eqb (code_of s t) waiting_dispatch) _ c).1).0

-- "Now ≠ EnteredAt"
later : (m : Timing) (s : State) (q : ℕ) → can_leave m s q ≡ true → Entering s → ⊥
unfolding can_leave
later m s q c i =
    let phase = (both (eqb s.clock.phase changing) _ c).1 in
    let pending = (both (eqb s.clock.pending q) _ phase).1 in
    let late = not-true (eqb (now_of s) s.clock.entered.0) (both (not (eqb (now_of s) s.clock.entered.0)) _ pending).0 in
    true≢false (sym (eq-eqb (now_of s) s.clock.entered.0 i.1) ∙ late)

-- a quiet state has no thread that could be stopped
module _ (m : Timing) (s : State) (q : is_busy m s ≡ false) (t : ℕ) (l : t < m.threads) where
  quiet_thread : thread_busy m s t ≡ false
  unfolding is_busy
  quiet_thread = none_below m.threads (thread_busy m s) (both_false (any_below m.threads (thread_busy m s)) _ q).0 t l

  quiet_left : is_critical (thread_at m t) ≡ false → is_active s t ≡ false → has_job (code_of s t) ≡ true → ⊥
  unfolding thread_busy can_deactivate
  quiet_left c a j = true≢false (rw (c, a, j, or-true (eqb (code_of s t) waiting_dispatch), or-true (can_activate s t)) at quiet_thread)

module _ (m : Model) (few : m.timing.threads ≤ max_threads) where
  abbrev x : Timing
  x = m.timing

  -- the end of a job
  end_leaving : (s r : State) (t code : ℕ) → t < max_threads → has_job code ≡ false → r.threads.code ≡ store max_threads s.threads.code t code → r.threads.active ≡ s.threads.active →
      (Entering s → Entering r) → Leaving x s → Leaving x r
  end_leaving s r t code l idle e f stays h = stored_leaving x s r t code l e f stays h (λ j. absurd (false≢true (sym idle ∙ j)))

  ends_entering : (s : State) (t code : ℕ) → Entering s → Entering (end_job x s t code)
  ends_entering s t code h = let k = end_stays x s t code in (k.1 ∙ h.0, end_now x s t code ∙ h.1 ∙ ap (λ (d : Duration). d.0) (sym k.2))

  move_leaving : (s r : State) → Leaving x s → Move m s r → Leaving x r
  unfolding dispatch start advance finish complete meet_deadline miss request enter leave tick with_live with_ports with_now with_entered with_mode with_phase with_active with_code with_dispatch_time with_behavior with_missed with_job with_cpu
  move_leaving s r h (activates t l c) = end_leaving s _ t waiting_dispatch (omega arith) (unfold has_job is_unfinished in refl) refl refl (λ q. q) h
  move_leaving s r h (deactivates t l c) =
      deactivated (Leaving x) x s t (λ j. end_leaving s _ t waiting_mode (omega arith) (unfold has_job is_unfinished in refl) (end_code x s t waiting_mode) (end_stays x s t waiting_mode).0 (ends_entering s t waiting_mode) h)
      (λ j. end_leaving s _ t waiting_mode (omega arith) (unfold has_job is_unfinished in refl) refl refl (λ q. q) h)
  move_leaving s r h (dispatches t l c) =
      stored_leaving x s _ t waiting_execution (omega arith) refl refl (λ q. q) h (λ j a. absurd (true≢false (sym (dispatched_active x s t c) ∙ a)))
  move_leaving s r h (starts t n c) =
      let p = start_passed x s t n c in
      let l = p.there in
      stored_leaving x s _ t execution (omega arith) refl refl (λ q. q) h (λ j a. ap has_job p.waits ∙ (unfold has_job is_unfinished in refl))
  move_leaving s r h (completes t l c) =
      let k = end_stays x (advance m s t) t completed in
      stored_leaving x s _ t completed (omega arith) (end_code x (advance m s t) t completed) k.0 (ends_entering (advance m s t) t completed) h (λ j a. runs_on_lem s t c)
  move_leaving s r h (meets t l c) = end_leaving s _ t (rest_code s t) (omega arith) (rest_idle (is_active s t)) refl refl (λ q. q) h
  move_leaving s r h (misses t l c) =
      end_leaving s _ t (rest_code s t) (omega arith) (rest_idle (is_active s t)) (end_code x s t (rest_code s t)) (end_stays x s t (rest_code s t)).0 (ends_entering s t (rest_code s t)) h
  move_leaving s r h (requests q l) = go (eqb s.clock.phase steady && eqb s.clock.mode (switch_at x q).from) refl
    where
      go : (b : Bool) → (eqb s.clock.phase steady && eqb s.clock.mode (switch_at x q).from) ≡ b → Leaving x (cond b (with_phase s 1 q) s)
      go true e =
          let k : s.clock.phase ≡ steady = eqb-true s.clock.phase steady (both (eqb s.clock.phase steady) _ e).0 in
          all_left x s _ h.sized refl refl (none_leaves x s h (λ i. let z : s.clock.phase ≡ changing = i.0 in omega arith))
      go false e = h
  move_leaving s r h (enters q l c) = record { sized = h.sized; entering = λ t l c a j. (refl, refl) }
  move_leaving s r h (leaves q l c) = all_left x s _ h.sized refl refl (none_leaves x s h (later x s q c))
  move_leaving s r h (ticks_once c l) = let k = spends s x.threads in all_left x s _ h.sized k.0 k.3 (quiet_left x s c)

  start_leaving : Leaving x (start_state x)
  unfolding has_job is_unfinished
  start_leaving = record { sized = unfold start_state in refl; entering = λ t l c a j. absurd (false≢true (sym (ap has_job (start_code x t)) ∙ j)) }

  pub leaving_reached : (s : State) → Reachable m s → Leaving x s
  leaving_reached = invariant m (Leaving x) move_leaving start_leaving
