-- A view of a state stays one: after any event it shows the state after it, and counts it where it was taken.
use Rattle.std.specs.Prelude.{◌≡◌, refl, Bool, true, false, cond, ℕ, zero, suc, ltb}
use Rattle.std.proofs.Common.{arith}
use Rattle.records.specs.declared.Cause.{Cause}
use Rattle.records.specs.declared.Cause.TheVariants.{BrokenEvent, NotEnabled, LastClock}
use Rattle.records.specs.declared.Event.{Event}
use Rattle.records.specs.Events.{last_clock}
use Rattle.records.specs.Refusals.{number_of, is_none}
use Rattle.model_format.specs.declared.Timing.{Timing}
use Rattle.model_format.specs.declared.Model.{Model}
use Rattle.model_semantics.specs.declared.State.{State}
use Rattle.model_semantics.specs.declared.Stepped.{Stepped}
use Rattle.model_semantics.specs.State.{now_of}
use Rattle.model_semantics.specs.Tests.{is_busy}
use Rattle.model_semantics.specs.Effects.{tick}
use Rattle.model_semantics.specs.Machine.{refuse, accept, attempt, ticks, step}
use Rattle.model_semantics.specs.MachineLaws.{step_is}
use Rattle.checking_loop.specs.View.{next_count, view_of, view_after}

-- ---- a refused event leaves the state as it was
Keeps : State → Stepped → Type 0
Keeps s r = is_none r.answer ≡ false → r.state ≡ s

either : (s : State) (b : Bool) (x y : Stepped) → Keeps s x → Keeps s y → Keeps s (cond b x y)
either s true x y p q = p
either s false x y p q = q

refused : (s : State) (c : Cause) → Keeps s (refuse c s)
unfolding Keeps
refused s c h = refl

taken : (s x : State) → Keeps s (accept x)
unfolding Keeps number_of
taken s x h = let z : ◌≡◌ {A = ℕ} 0 1 = cc in absurd (omega arith)

ticks_keep : (m : Timing) (s₀ : State) (n : ℕ) (s : State) → Keeps s₀ (ticks m s₀ n s)
unfolding ticks
ticks_keep m s₀ zero s = taken s₀ s
ticks_keep m s₀ (suc n) s =
    let r = ticks m s₀ n (tick m s) in
    let late = cond (ltb (now_of s) last_clock) r (refuse LastClock s₀) in
    either s₀ (is_busy m s) (refuse NotEnabled s₀) late (refused s₀ NotEnabled)
    (either s₀ (ltb (now_of s) last_clock) r (refuse LastClock s₀) (ticks_keep m s₀ n (tick m s)) (refused s₀ LastClock))

tries : (s : State) (b : Bool) (x : State) → Keeps s (attempt b x s)
tries s b x = either s b (accept x) (refuse NotEnabled s) (taken s x) (refused s NotEnabled)

step_keeps : (m : Model) (s : State) (e : Event) → Keeps s (step m s e)
step_keeps m s e = step_is (Keeps s) s (tries s) m e (refused s BrokenEvent) (ticks_keep m.timing s e.amount s)

-- ----
pub view_shows : (m : Model) (s : State) (e : Event) (k : ℕ) → view_after (view_of s k) (step m s e) ≡ view_of (step m s e).state (cond (is_none (step m s e).answer) (next_count k) k)
unfolding view_after Keeps
view_shows m s e k = go (step m s e) (is_none (step m s e).answer) refl (step_keeps m s e)
  where
    go : (r : Stepped) (b : Bool) → is_none r.answer ≡ b → Keeps s r → cond (is_none r.answer) (view_of r.state (next_count k)) (view_of s k) ≡ view_of r.state (cond (is_none r.answer) (next_count k) k)
    go r true h p = rw h
    go r false h p = rw (h, p h)
