-- Some mode is in the mask of every live connection.
use Rattle.std.specs.Prelude.{◌≡◌, Bool, cond, ◌&&◌, length, replicate}
use Rattle.std.proofs.Math.Path.{refl}
use Rattle.std.proofs.Common.{sym, ◌∙◌, lt-ltb}
use Rattle.std.proofs.Math.Bool.{true, false}
use Rattle.std.proofs.lemmas.Bool.{false≢true}
use mathlib.Core.List.{List}
use Prim.Native.Nat.{ℕ, zero, suc, ◌<◌, ◌≤◌}
use native.Mathlib.Omega.{arith}
use Rattle.std.proofs.Math.Decide.{ℕ_discrete, dec_lt}
use Rattle.std.proofs.Math.Dec.{eqb}
use Rattle.std.proofs.lemmas.List.{get_or-replicate}
use Rattle.numbers.specs.Lists.{item, fold_below, store}
use Rattle.numbers.specs.ListLaws.{length_store, item_past, item_store_same, item_store_other}
use Rattle.model_format.specs.declared.Timing.{Timing}
use Rattle.model_format.specs.declared.Model.{Model}
use Rattle.model_format.specs.Model.{max_connections, connection_at, switch_at, in_mode}
use Rattle.model_semantics.specs.declared.State.{State}
use Rattle.model_semantics.specs.State.{is_live, with_live, with_ports, with_now, with_entered, with_mode, with_phase, with_cpu, with_active, with_code, with_dispatch_time, with_job, with_behavior, with_missed}
use Rattle.model_semantics.specs.Tests.{waiting_mode, completed}
use Rattle.model_semantics.specs.Effects.{dispatch, start, rest_code, advance, finish, complete, meet_deadline, miss, request, in_both, live_in, enter, leave, tick}
use Rattle.model_semantics.specs.DeactivateLaws.{deactivated}
use Rattle.model_semantics.specs.Machine.{start_state}
use Rattle.reached.specs.Reachable.{Reachable}
use Rattle.reached.specs.Moves.{both, Move, activates, deactivates, dispatches, starts, completes, meets, misses, requests, enters, leaves, ticks_once, invariant}
use Rattle.reached.specs.Kept.{end_live, spends}

pub record OneMode (m : Timing) (s : State) : Type 0 where
  pub sized : length s.live ≡ max_connections
  pub mode : ℕ
  pub live : (c : ℕ) → is_live s c ≡ true → (c < m.connections) × (in_mode (connection_at m c).modes mode ≡ true)

-- ---- connections as they were
same_live : {m : Timing} {s r : State} → r.live ≡ s.live → OneMode m s → OneMode m r
unfolding is_live
same_live e h = record { sized = rw e h.sized; mode = h.mode; live = λ c q. h.live c (rw e at q) }

-- ---- Flags where the mask holds both of two modes
module _ (m : Timing) (few : m.connections ≤ max_connections) (old new : ℕ) (l : List Bool) (size : length l ≡ max_connections)
    (there : (c : ℕ) → item max_connections l c false ≡ true → c < m.connections) where
  abbrev flags : ℕ → List Bool
  flags n = fold_below n (λ c a. store max_connections a c (in_both (connection_at m c).modes old new)) l

  flags_hold : (n : ℕ) → n ≤ m.connections →
      (length (flags n) ≡ max_connections) × ((c : ℕ) → item max_connections (flags n) c false ≡ true → (c < m.connections) × (c < n → in_both (connection_at m c).modes old new ≡ true))
  unfolding fold_below
  flags_hold zero k = (size, λ c q. (there c q, λ b. absurd (omega arith)))
  flags_hold (suc n) k = go (flags n) (flags_hold n (omega arith))
    where
      go : (a : List Bool) → (length a ≡ max_connections) × ((c : ℕ) → item max_connections a c false ≡ true → (c < m.connections) × (c < n → in_both (connection_at m c).modes old new ≡ true)) →
          (length (store max_connections a n (in_both (connection_at m n).modes old new)) ≡ max_connections) ×
          ((c : ℕ) → item max_connections (store max_connections a n (in_both (connection_at m n).modes old new)) c false ≡ true → (c < m.connections) × (c < suc n → in_both (connection_at m c).modes old new ≡ true))
      go a h = (length_store max_connections a n _ ∙ h.0, λ c q. at c q (ℕ_discrete c n))
        where
          at : (c : ℕ) → item max_connections (store max_connections a n (in_both (connection_at m n).modes old new)) c false ≡ true → Dec (c ≡ n) →
              (c < m.connections) × (c < suc n → in_both (connection_at m c).modes old new ≡ true)
          at c q (yes e) = (omega arith, λ b. rw e (sym (let z = h.0 in item_store_same max_connections a n (in_both (connection_at m n).modes old new) false (omega arith) (omega arith)) ∙ rw e at q))
          at c q (no e) =
              let r = h.1 c (rw (item_store_other max_connections a n c (in_both (connection_at m n).modes old new) false e) at q) in
              (r.0, λ b. r.1 (omega arith))

  -- so one of the two modes is in the mask of every connection that is live afterwards
  both_live : (c : ℕ) → item max_connections (live_in m old new l) c false ≡ true → (c < m.connections) × (in_mode (connection_at m c).modes old ≡ true)
  unfolding live_in in_both
  both_live c q =
      let r = (flags_hold m.connections (omega arith)).1 c q in
      (r.0, (both (in_mode (connection_at m c).modes old) _ (r.1 r.0)).0)

  live_size : length (live_in m old new l) ≡ max_connections
  unfolding live_in
  live_size = (flags_hold m.connections (omega arith)).0

module _ (m : Model) (few : m.timing.connections ≤ max_connections) where
  flags_mode : (s r : State) (old new : ℕ) → r.live ≡ live_in m.timing old new s.live → OneMode m.timing s → OneMode m.timing r
  unfolding is_live
  flags_mode s r old new e h = record {
    sized = rw e (live_size m.timing few old new s.live h.sized (λ c q. (h.live c q).0));
    mode = old;
    live = λ c q. both_live m.timing few old new s.live h.sized (λ c q. (h.live c q).0) c (rw e at q);
  }

  move_mode : (s r : State) → OneMode m.timing s → Move m s r → OneMode m.timing r
  unfolding dispatch start advance finish complete meet_deadline miss request enter leave tick with_live with_ports with_now with_entered with_mode with_phase with_active with_code with_dispatch_time with_behavior with_missed with_job with_cpu
  move_mode s r h (activates t l c) = same_live refl h
  move_mode s r h (deactivates t l c) = deactivated (OneMode m.timing) m.timing s t (λ j. same_live (end_live m.timing s t waiting_mode) h) (λ j. same_live refl h)
  move_mode s r h (dispatches t l c) = same_live refl h
  move_mode s r h (starts t n c) = same_live refl h
  move_mode s r h (completes t l c) = same_live (end_live m.timing (advance m s t) t completed) h
  move_mode s r h (meets t l c) = same_live refl h
  move_mode s r h (misses t l c) = same_live (end_live m.timing s t (rest_code s t)) h
  move_mode s r h (requests q l) = go (eqb s.clock.phase 0 && eqb s.clock.mode (switch_at m.timing q).from)
    where
      go : (b : Bool) → OneMode m.timing (cond b (with_phase s 1 q) s)
      go true = same_live refl h
      go false = h
  move_mode s r h (enters q l c) = flags_mode s _ (switch_at m.timing q).from (switch_at m.timing q).to refl h
  move_mode s r h (leaves q l c) = flags_mode s _ (switch_at m.timing q).to (switch_at m.timing q).to refl h
  move_mode s r h (ticks_once c l) = same_live (spends s m.timing.threads).2 h

  none_live : (c : ℕ) → item max_connections (replicate max_connections false) c false ≡ false
  none_live c = go (dec_lt c max_connections)
    where
      go : Dec (c < max_connections) → item max_connections (replicate max_connections false) c false ≡ false
      go (yes l) = rw (lt-ltb c max_connections l) (get_or-replicate max_connections c false false l)
      go (no l) = item_past max_connections (replicate max_connections false) c false (omega arith)

  start_mode : OneMode m.timing (start_state m.timing)
  unfolding start_state is_live
  start_mode =
      let there : (c : ℕ) → item max_connections (replicate max_connections false) c false ≡ true → c < m.timing.connections = λ c q. absurd (false≢true (sym (none_live c) ∙ q)) in
      record {
        sized = live_size m.timing few m.timing.initial m.timing.initial (replicate max_connections false) refl there;
        mode = m.timing.initial;
        live = both_live m.timing few m.timing.initial m.timing.initial (replicate max_connections false) refl there;
      }

  pub mode_reached : (s : State) → Reachable m s → OneMode m.timing s
  mode_reached = invariant m (OneMode m.timing) move_mode start_mode
