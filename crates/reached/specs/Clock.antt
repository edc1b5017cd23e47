-- No clock is past the last.
use Rattle.std.specs.Prelude.{◌≡◌, refl, Bool, true, false, cond, ◌&&◌, ℕ, ◌≤◌, eqb}
use Rattle.std.proofs.Common.{arith}
use Rattle.records.specs.Events.{last_clock}
use Rattle.model_format.specs.declared.Timing.{Timing}
use Rattle.model_format.specs.declared.Model.{Model}
use Rattle.model_format.specs.Model.{switch_at}
use Rattle.model_semantics.specs.declared.State.{State}
use Rattle.model_semantics.specs.State.{now_of, with_live, with_ports, with_now, with_entered, with_mode, with_phase, with_cpu, with_active, with_code, with_dispatch_time, with_job, with_behavior, with_missed}
use Rattle.model_semantics.specs.Tests.{waiting_mode}
use Rattle.model_semantics.specs.Effects.{dispatch, start, rest_code, advance, finish, complete, meet_deadline, miss, request, enter, leave, tick}
use Rattle.model_semantics.specs.DeactivateLaws.{deactivated}
use Rattle.model_semantics.specs.Machine.{start_state}
use Rattle.reached.specs.Reachable.{Reachable}
use Rattle.reached.specs.Moves.{Move, activates, deactivates, dispatches, starts, completes, meets, misses, requests, enters, leaves, ticks_once, invariant}
use Rattle.reached.specs.Kept.{end_now}

-- ---- only TICK moves the clock
one_now : (b : Bool) (x y : State) (n : ℕ) → now_of x ≡ n → now_of y ≡ n → now_of (cond b x y) ≡ n
one_now true x y n p q = p
one_now false x y n p q = q

request_now : (m : Timing) (s : State) (q : ℕ) → now_of (request m s q) ≡ now_of s
unfolding request with_phase
request_now m s q = one_now (eqb s.clock.phase 0 && eqb s.clock.mode (switch_at m q).from) (with_phase s 1 q) s (now_of s) refl refl

move_now : (m : Model) (s r : State) → now_of s ≤ last_clock → Move m s r → now_of r ≤ last_clock
unfolding dispatch start advance finish complete meet_deadline miss enter leave tick with_live with_ports with_now with_entered with_mode with_phase with_active with_code with_dispatch_time with_behavior with_missed with_job with_cpu
move_now m s r h (activates t l c) = h
move_now m s r h (deactivates t l c) = deactivated (λ x. now_of x ≤ last_clock) m.timing s t (λ j. omega (arith, end_now m.timing s t waiting_mode)) (λ j. h)
move_now m s r h (dispatches t l c) = h
move_now m s r h (starts t n c) = h
move_now m s r h (completes t l c) = omega (arith, end_now m.timing (advance m s t) t 4)
move_now m s r h (meets t l c) = h
move_now m s r h (misses t l c) = omega (arith, end_now m.timing s t (rest_code s t))
move_now m s r h (requests q l) = omega (arith, request_now m.timing s q)
move_now m s r h (enters q l c) = h
move_now m s r h (leaves q l c) = h
move_now m s r h (ticks_once c l) = omega arith

pub clock_reached : (m : Model) (s : State) → Reachable m s → now_of s ≤ last_clock
unfolding start_state
clock_reached m s r = invariant m (λ x. now_of x ≤ last_clock) (move_now m) (omega arith) s r
