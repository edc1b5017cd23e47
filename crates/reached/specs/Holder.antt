-- A thread that runs is the one that its processor names.
use Rattle.std.specs.Prelude.{◌≡◌, Bool, cond, ◌&&◌, ℕ, ◌<◌, ◌≤◌, length}
use Rattle.std.proofs.Math.Path.{refl}
use Rattle.std.proofs.Common.{sym, ◌∙◌, ap, arith}
use Rattle.std.proofs.Math.Bool.{true, false}
use Rattle.std.proofs.lemmas.Bool.{false≢true}
use Rattle.std.proofs.Math.Decide.{ℕ_discrete}
use Rattle.std.proofs.Math.Dec.{eqb}
use Rattle.numbers.specs.Lists.{store}
use Rattle.numbers.specs.ListLaws.{length_store}
use Rattle.model_format.specs.declared.Timing.{Timing}
use Rattle.model_format.specs.declared.Model.{Model}
use Rattle.model_format.specs.Model.{max_threads, switch_at}
use Rattle.model_semantics.specs.declared.State.{State}
use Rattle.model_semantics.specs.State.{none, is_active, code_of, cpu_for, with_live, with_ports, with_now, with_entered, with_mode, with_phase, with_cpu, with_active, with_code, with_dispatch_time, with_job, with_behavior, with_missed}
use Rattle.model_semantics.specs.Tests.{waiting_mode, waiting_dispatch, waiting_execution, execution, completed, runs, can_complete}
use Rattle.model_semantics.specs.StartLaws.{start_passed}
use Rattle.model_semantics.specs.DeactivateLaws.{deactivated, idle_still}
use Rattle.model_semantics.specs.Effects.{dispatch, start, rest_code, advance, finish, complete, meet_deadline, miss, request, enter, leave, tick}
use Rattle.model_semantics.specs.Machine.{start_state}
use Rattle.reached.specs.Reachable.{Reachable}
use Rattle.reached.specs.Moves.{Move, activates, deactivates, dispatches, starts, completes, meets, misses, requests, enters, leaves, ticks_once, invariant}
use Rattle.reached.specs.Kept.{end_cpu, end_code, code_there, code_elsewhere, start_code, rest_idle, spends}

pub record Held (m : Timing) (s : State) : Type 0 where
  pub sized : length s.threads.code ≡ max_threads
  pub holder : (t : ℕ) → runs (code_of s t) ≡ true → cpu_for m s t ≡ t

-- ---- codes and processor as they were
same_held : {m : Timing} {s r : State} → r.threads.code ≡ s.threads.code → r.clock.cpu ≡ s.clock.cpu → Held m s → Held m r
unfolding code_of
same_held e c h = record { sized = rw e h.sized; holder = λ t q. c ∙ h.holder t (rw e at q) }

-- ---- a code stored for thread t
module _ (m : Timing) (s r : State) (t code : ℕ) (l : t < max_threads) (e : r.threads.code ≡ store max_threads s.threads.code t code) (h : Held m s) where
  stored_held : (runs code ≡ true → cpu_for m r t ≡ t) → ((u : ℕ) → (u ≡ t → ⊥) → runs (code_of s u) ≡ true → cpu_for m r u ≡ u) → Held m r
  stored_held here there = record { sized = rw e (length_store max_threads s.threads.code t code ∙ h.sized); holder = λ u q. go u q (ℕ_discrete u t) }
    where
      go : (u : ℕ) → runs (code_of r u) ≡ true → Dec (u ≡ t) → cpu_for m r u ≡ u
      go u q (yes k) = let c : code_of r u ≡ code = ap (code_of r) k ∙ code_there s r t code e l h.sized in here (rw c at q) ∙ sym k
      go u q (no k) = there u k (rw (code_elsewhere s r t code e u k) at q)

-- ---- where the processor is free no thread runs
none_runs : (m : Timing) (s : State) (u : ℕ) → Held m s → s.clock.cpu ≡ none → runs (code_of s u) ≡ true → ⊥
unfolding code_of
none_runs m s u h c q = let k : u ≡ none = sym (h.holder u q) ∙ c in false≢true (rw k at q)

-- ---- the end of a job
end_held : (m : Timing) (s r : State) (t code : ℕ) → t < max_threads → runs code ≡ false → r.threads.code ≡ store max_threads s.threads.code t code →
    r.clock.cpu ≡ cond (runs (code_of s t)) none s.clock.cpu → Held m s → Held m r
end_held m s r t code l f e c h = stored_held m s r t code l e h (λ q. absurd (false≢true (sym f ∙ q))) (λ u n q. c ∙ go (runs (code_of s t)) refl u n q)
  where
    go : (b : Bool) → runs (code_of s t) ≡ b → (u : ℕ) → (u ≡ t → ⊥) → runs (code_of s u) ≡ true → cond b none s.clock.cpu ≡ u
    go true k u n q = absurd (n (sym (h.holder u q) ∙ h.holder t k))
    go false k u n q = h.holder u q

module _ (m : Model) (few : m.timing.threads ≤ max_threads) where
  move_held : (s r : State) → Held m.timing s → Move m s r → Held m.timing r
  unfolding dispatch start advance finish complete meet_deadline miss request enter leave tick can_complete with_live with_ports with_now with_entered with_mode with_phase with_active with_code with_dispatch_time with_behavior with_missed with_job with_cpu
  move_held s r h (activates t l c) = stored_held m.timing s _ t waiting_dispatch (omega arith) refl h (λ q. absurd (false≢true q)) (λ u n q. h.holder u q)
  move_held s r h (deactivates t l c) =
      deactivated (Held m.timing) m.timing s t (λ j. end_held m.timing s _ t waiting_mode (omega arith) refl (end_code m.timing s t waiting_mode) (end_cpu m.timing s t waiting_mode) h)
      (λ j. stored_held m.timing s _ t waiting_mode (omega arith) refl h (λ q. absurd (false≢true q)) (λ u n q. h.holder u q))
  move_held s r h (dispatches t l c) = stored_held m.timing s _ t waiting_execution (omega arith) refl h (λ q. absurd (false≢true q)) (λ u n q. h.holder u q)
  move_held s r h (starts t n c) =
      let p = start_passed m.timing s t n c in
      let l = p.there in
      stored_held m.timing s _ t execution (omega arith) refl h (λ q. refl) (λ u k q. absurd (none_runs m.timing s u h p.free q))
  move_held s r h (completes t l c) =
      end_held m.timing (advance m s t) _ t completed (omega arith) refl (end_code m.timing (advance m s t) t completed) (end_cpu m.timing (advance m s t) t completed) (same_held refl refl h)
  move_held s r h (meets t l c) =
      stored_held m.timing s _ t (rest_code s t) (omega arith) refl h (λ q. absurd (false≢true (sym (idle_still (rest_code s t) (rest_idle (is_active s t))) ∙ q))) (λ u n q. h.holder u q)
  move_held s r h (misses t l c) = end_held m.timing s _ t (rest_code s t) (omega arith) (idle_still (rest_code s t) (rest_idle (is_active s t))) (end_code m.timing s t (rest_code s t)) (end_cpu m.timing s t (rest_code s t)) h
  move_held s r h (requests q l) = go (eqb s.clock.phase 0 && eqb s.clock.mode (switch_at m.timing q).from)
    where
      go : (b : Bool) → Held m.timing (cond b (with_phase s 1 q) s)
      go true = same_held refl refl h
      go false = h
  move_held s r h (enters q l c) = same_held refl refl h
  move_held s r h (leaves q l c) = same_held refl refl h
  move_held s r h (ticks_once c l) = let k = spends s m.timing.threads in same_held k.0 k.1 h

  start_held : Held m.timing (start_state m.timing)
  start_held = record { sized = unfold start_state in refl; holder = λ t q. absurd (false≢true (sym (ap runs (start_code m.timing t)) ∙ q)) }

  pub held_reached : (s : State) → Reachable m s → Held m.timing s
  held_reached = invariant m (Held m.timing) move_held start_held
