-- Laws of the effects of mode transitions.
use Rattle.std.specs.Prelude.{◌≡◌, Bool, true, false, ◌&&◌, List, ℕ, ◌+◌, ◌≤◌, min, eqb}
use Rattle.std.proofs.Math.Path.{refl, ap}
use Rattle.std.proofs.Common.{◌∙◌, le-ltb}
use Rattle.numbers.specs.Lists.{store, fold_below}
use Rattle.numbers.specs.ListLaws.{fold_next}
use Rattle.model_format.specs.declared.Thread.{Thread}
use Rattle.model_format.specs.declared.Connection.{Connection}
use Rattle.model_format.specs.declared.ModeTransition.{ModeTransition}
use Rattle.model_format.specs.declared.Timing.{Timing}
use Rattle.model_format.specs.Model.{max_threads, max_connections, thread_at, connection_at, switch_at, in_mode}
use Rattle.model_semantics.specs.declared.Clock.{Clock}
use Rattle.model_semantics.specs.declared.State.{State}
use Rattle.model_semantics.specs.State.{none, with_live, with_entered, with_mode, with_phase, with_active}
use Rattle.model_semantics.specs.Effects.{request, active_in, in_both, live_in, enter, leave}
use Rattle.model_state.specs.Parts.{put_active, put_live}
use Rattle.model_tests.specs.Rooms.{fold_end}

-- ---- Active and Flag when the first n have been set
abbrev pub activating : Timing → ℕ → ℕ → List Bool → List Bool
activating m mode t a = store max_threads a t (in_mode (thread_at m t).modes mode)

unfoldable pub active_below : Timing → State → ℕ → ℕ → State
active_below m s mode n = with_active s (fold_below n (activating m mode) s.threads.active)

module _ (m : Timing) (s : State) (mode : ℕ) where
  pub active_none : s ≡ active_below m s mode 0
  unfolding active_below fold_below with_active
  active_none = refl

  module _ (n t : ℕ) (e : n ≡ min m.threads max_threads) (q : State) (f : q ≡ active_below m s mode t) where
    pub active_next : (x : Thread) (b : Bool) (r : State) → x ≡ thread_at m t → b ≡ in_mode x.modes mode → r ≡ put_active q t b → r ≡ active_below m s mode (t + 1)
    unfolding active_below put_active with_active
    active_next x b r g h k = k ∙ rw (f, h, g, fold_next t (activating m mode) s.threads.active)

    pub active_all : t ≤ n → n ≤ t → q ≡ with_active s (active_in m mode s.threads.active)
    unfolding active_below active_in
    active_all h g = f ∙ ap (with_active s) (fold_end m.threads max_threads n t (activating m mode) s.threads.active e h g (λ j x b. rw (le-ltb j max_threads b)))

abbrev pub flagging : Timing → ℕ → ℕ → ℕ → List Bool → List Bool
flagging m old new c a = store max_connections a c (in_both (connection_at m c).modes old new)

unfoldable pub live_below : Timing → State → ℕ → ℕ → ℕ → State
live_below m s old new n = with_live s (fold_below n (flagging m old new) s.live)

module _ (m : Timing) (s : State) (old new : ℕ) where
  pub live_none : s ≡ live_below m s old new 0
  unfolding live_below fold_below with_live
  live_none = refl

  module _ (n c : ℕ) (e : n ≡ min m.connections max_connections) (q : State) (f : q ≡ live_below m s old new c) where
    pub live_next : (x : Connection) (a b : Bool) (r : State) → x ≡ connection_at m c → a ≡ in_mode x.modes old → b ≡ in_mode x.modes new → r ≡ put_live q c (a && b) →
        r ≡ live_below m s old new (c + 1)
    unfolding live_below put_live with_live in_both
    live_next x a b r g h i k = k ∙ rw (f, h, i, g, fold_next c (flagging m old new) s.live)

    pub live_all : c ≤ n → n ≤ c → q ≡ with_live s (live_in m old new s.live)
    unfolding live_below live_in
    live_all h g = f ∙ ap (with_live s) (fold_end m.connections max_connections n c (flagging m old new) s.live e h g (λ j x b. rw (le-ltb j max_connections b)))

-- ---- each event
module _ (m : Timing) (s : State) (q i : ℕ) (x : ModeTransition) (k : Clock) (e : i ≡ q) (f : x ≡ switch_at m i) (g : k ≡ s.clock) where
  pub request_taken : (r : State) → (eqb k.phase 0 && eqb k.mode x.from) ≡ true → r ≡ with_phase s 1 q → r ≡ request m s q
  unfolding request
  request_taken r h w = w ∙ rw (← e, ← f, ← g, h)

  pub request_ignored_lem : (eqb k.phase 0 && eqb k.mode x.from) ≡ false → s ≡ request m s q
  unfolding request
  request_ignored_lem h = rw (← e, ← f, ← g, h)

module _ (m : Timing) (s : State) (q : ℕ) (x : ModeTransition) (f : x ≡ switch_at m q) where
  pub enter_is : (a b c d : State) (k : Clock) → k ≡ s.clock → a ≡ with_phase s 2 k.pending → b ≡ with_entered a k.now.0 → c ≡ with_active b (active_in m x.to b.threads.active) →
      d ≡ with_live c (live_in m x.from x.to c.live) → d ≡ enter m s q
  unfolding enter with_phase with_entered with_active with_live
  enter_is a b c d k g h i j l = l ∙ rw (j, i, h, g, f)

  pub leave_is : (a b c : State) → a ≡ with_phase s 0 none → b ≡ with_mode a x.to → c ≡ with_live b (live_in m x.to x.to b.live) → c ≡ leave m s q
  unfolding leave with_phase with_mode with_live
  leave_is a b c g h i = i ∙ rw (h, g, f)
