-- TICK n on both machines, from one tick: 10 before 11 at each tick, and a refusal gives back the states before all of them.
use Rattle.std.specs.Prelude.{◌≡◌, refl, Bool, true, false, cond, List, ltb}
use Rattle.std.proofs.Common.{ap, ltb-true}
use Prim.Native.Nat.{ℕ, zero, suc, ◌<◌}
use Rattle.numbers.specs.declared.Value.{Value}
use Rattle.numbers.specs.Lists.{store}
use Rattle.numbers.specs.Values.{natural, plus, less_value}
use Rattle.records.specs.Events.{last_clock}
use Rattle.model_format.specs.declared.Timing.{Timing}
use Rattle.model_semantics.specs.declared.State.{State}
use Rattle.model_semantics.specs.declared.Stepped as model-stepped
use Rattle.model_semantics.specs.State.{now_of}
use Rattle.model_semantics.specs.Tests as tests
use Rattle.model_semantics.specs.Effects.{tick}
use Rattle.model_semantics.specs.Machine as model-machine
use Rattle.table_format.specs.Variables.{variables, now_var}
use Rattle.table_format.specs.Table.{Rule}
use Rattle.table_semantics.specs.declared.Variables.{Variables}
use Rattle.table_semantics.specs.declared.Stepped as table-stepped
use Rattle.table_semantics.specs.Machine as table-machine
use Rattle.simulation.specs.Compared.{Dispatched}
use Rattle.simulation.specs.Match.{Match}

-- what the two machines gave: the same answer, and states that match
pub record Agreed (m : Timing) (d : Dispatched) (r : model-stepped.Stepped) (q : table-stepped.Stepped) : Type 0 where
  pub answer : r.answer ≡ q.answer
  pub states : Match m d r.state q.state.value

-- the variables one tick further
abbrev pub tick_variables : List Value → List Value
tick_variables v = store variables v now_var (plus (table-machine.now_in v) (natural 1))

pub same_below : (m : Timing) (d : Dispatched) (s : State) (v : List Value) → Match m d s v → less_value (table-machine.now_in v) (natural last_clock) ≡ ltb (now_of s) last_clock
same_below m d s v h = ap (λ (x : Value). less_value x (natural last_clock)) h.now

by_test : (m : Timing) (d : Dispatched) (c : Bool) {r t : model-stepped.Stepped} {q u : table-stepped.Stepped} → (c ≡ true → Agreed m d r q) → (c ≡ false → Agreed m d t u) → Agreed m d (cond c r t) (cond c q u)
by_test m d true y n = y refl
by_test m d false y n = n refl

module _ (m : Timing) (rules : List Rule) (d : Dispatched)
    (quiet : (s : State) (v : List Value) → Match m d s v → table-machine.is_busy v rules ≡ tests.is_busy m s)
    (one-tick : (s : State) (v : List Value) → Match m d s v → tests.is_busy m s ≡ false → now_of s < last_clock → Match m d (tick m s) (tick_variables v))
    (s₀ : State) (v₀ : Variables) (h₀ : Match m d s₀ v₀.value)
  where
    pub ticks_agree : (n : ℕ) (s : State) (v : List Value) → Match m d s v → Agreed m d (model-machine.ticks m s₀ n s) (table-machine.ticks rules v₀ n v)
    unfolding model-machine.ticks table-machine.ticks
    ticks_agree zero s v h = record { answer = refl; states = h }
    ticks_agree (suc n) s v h =
        rw (quiet s v h, same_below m d s v h)
        (by_test m d (tests.is_busy m s) (λ b. record { answer = refl; states = h₀ })
        (λ b. by_test m d (ltb (now_of s) last_clock) (λ l. ticks_agree n (tick m s) (tick_variables v) (one-tick s v h b (ltb-true (now_of s) last_clock l)))
        (λ l. record { answer = refl; states = h₀ })))
