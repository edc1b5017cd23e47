-- Laws of the answers to the events of modes, in the forms in which the code has them.
use Rattle.std.specs.Prelude.{◌≡◌, Bool, true, false, ◌&&◌, List, ℕ, ◌<◌, ◌≤◌, ltb}
use Rattle.std.proofs.Math.Path.{refl}
use Rattle.std.proofs.Common.{lt-ltb, le-ltb}
use Rattle.records.specs.declared.Cause.TheVariants.{None, NotEnabled}
use Rattle.model_format.specs.declared.Timing.{Timing}
use Rattle.model_semantics.specs.State.{with_code}
use Rattle.model_semantics.specs.Tests.{waiting_dispatch, can_activate, can_deactivate, can_enter, can_leave}
use Rattle.model_semantics.specs.Effects.{deactivate, request, enter, leave}
use Rattle.model_semantics.specs.Machine.{on_activate, on_deactivate, on_request, on_enter, on_leave}
use Rattle.model_state.specs.Words.{state_in}
use Rattle.model_time.specs.Answers.{Answers}
use Rattle.model_time.specs.AnswerLaws.{accepted_keeps}

-- ---- an event that is accepted, and one that is not enabled: n is how many items there are, c what the test gave, x the list after
module _ (count : ℕ) (l : List ℕ) (t n : ℕ) (c : Bool) where
  pub activate_made : (x : List ℕ) → n ≡ count → c ≡ can_activate (state_in l) t → (ltb t n && c) ≡ true → state_in x ≡ with_code (state_in l) t waiting_dispatch → Answers None l x (on_activate count (state_in l) t)
  unfolding on_activate
  activate_made x e f h g = record { same = rw (g, rw (e, f) at h); kept = accepted_keeps }

  pub activate_failed : n ≡ count → c ≡ can_activate (state_in l) t → (ltb t n && c) ≡ false → Answers NotEnabled l l (on_activate count (state_in l) t)
  unfolding on_activate
  activate_failed e f h = record { same = rw (rw (e, f) at h); kept = λ z. refl }

module _ (m : Timing) (l : List ℕ) (t n : ℕ) (c : Bool) where
  pub deactivate_made : (x : List ℕ) → n ≡ m.threads → c ≡ can_deactivate m (state_in l) t → (ltb t n && c) ≡ true → state_in x ≡ deactivate m (state_in l) t → Answers None l x (on_deactivate m (state_in l) t)
  unfolding on_deactivate
  deactivate_made x e f h g = record { same = rw (g, rw (e, f) at h); kept = accepted_keeps }

  pub deactivate_failed : n ≡ m.threads → c ≡ can_deactivate m (state_in l) t → (ltb t n && c) ≡ false → Answers NotEnabled l l (on_deactivate m (state_in l) t)
  unfolding on_deactivate
  deactivate_failed e f h = record { same = rw (rw (e, f) at h); kept = λ z. refl }

  pub enter_made : (x : List ℕ) → n ≡ m.switches → c ≡ can_enter m (state_in l) t → (ltb t n && c) ≡ true → state_in x ≡ enter m (state_in l) t → Answers None l x (on_enter m (state_in l) t)
  unfolding on_enter
  enter_made x e f h g = record { same = rw (g, rw (e, f) at h); kept = accepted_keeps }

  pub enter_failed : n ≡ m.switches → c ≡ can_enter m (state_in l) t → (ltb t n && c) ≡ false → Answers NotEnabled l l (on_enter m (state_in l) t)
  unfolding on_enter
  enter_failed e f h = record { same = rw (rw (e, f) at h); kept = λ z. refl }

  pub leave_made : (x : List ℕ) → n ≡ m.switches → c ≡ can_leave m (state_in l) t → (ltb t n && c) ≡ true → state_in x ≡ leave m (state_in l) t → Answers None l x (on_leave m (state_in l) t)
  unfolding on_leave
  leave_made x e f h g = record { same = rw (g, rw (e, f) at h); kept = accepted_keeps }

  pub leave_failed : n ≡ m.switches → c ≡ can_leave m (state_in l) t → (ltb t n && c) ≡ false → Answers NotEnabled l l (on_leave m (state_in l) t)
  unfolding on_leave
  leave_failed e f h = record { same = rw (rw (e, f) at h); kept = λ z. refl }

-- REQUEST, which asks for its item alone
module _ (m : Timing) (l : List ℕ) (id q n : ℕ) (w : q ≡ id) (e : n ≡ m.switches) where
  pub request_made : (x : List ℕ) → q < n → state_in x ≡ request m (state_in l) id → Answers None l x (on_request m (state_in l) id)
  unfolding on_request
  request_made x h g = record { same = rw (g, rw (w, e) at (lt-ltb q n h)); kept = accepted_keeps }

  pub request_failed : n ≤ q → Answers NotEnabled l l (on_request m (state_in l) id)
  unfolding on_request
  request_failed h = record { same = rw (rw (w, e) at (le-ltb q n h)); kept = λ z. refl }
