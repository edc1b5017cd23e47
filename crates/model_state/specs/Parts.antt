-- The state with one more part changed, and lists that differ in what time changes.
use Rattle.std.specs.Prelude.{◌≡◌, List, Bool, cond, ℕ, ◌+◌, ◌<◌, ◌≤◌, ltb, get_or, set, length}
use Rattle.numbers.specs.declared.Value.{Value}
use Rattle.numbers.specs.Lists.{store}
use Rattle.numbers.specs.Values.{duration}
use Rattle.model_format.specs.Model.{max_threads, max_inputs, max_outputs, max_locals, max_connections}
use Rattle.model_semantics.specs.declared.State.{State}
use Rattle.model_state.specs.Words.{now_place, spent_base, behavior_base}
use Rattle.model_semantics.specs.State.{with_threads, with_active, with_live, with_ports}

-- ---- Length alone; the effects set it with Spent
unfoldable pub with_length : State → ℕ → ℕ → State
with_length s t n = with_threads s (record { active = s.threads.active; code = s.threads.code; dispatched = s.threads.dispatched; length = store max_threads s.threads.length t (duration n); spent = s.threads.spent; behavior = s.threads.behavior; missed = s.threads.missed })

-- ---- the ports with one array changed
unfoldable pub with_input : State → List Value → State
with_input s l = with_ports s (record { input = l; buffer = s.ports.buffer; output = s.ports.output; local = s.ports.local })

unfoldable pub with_buffer : State → List Value → State
with_buffer s l = with_ports s (record { input = s.ports.input; buffer = l; output = s.ports.output; local = s.ports.local })

unfoldable pub with_output : State → List Value → State
with_output s l = with_ports s (record { input = s.ports.input; buffer = s.ports.buffer; output = l; local = s.ports.local })

unfoldable pub with_local : State → List Value → State
with_local s l = with_ports s (record { input = s.ports.input; buffer = s.ports.buffer; output = s.ports.output; local = l })

-- ---- one item of an array changed; past the array, nothing
unfoldable pub put_active : State → ℕ → Bool → State
put_active s t b = with_active s (store max_threads s.threads.active t b)

unfoldable pub put_live : State → ℕ → Bool → State
put_live s c b = with_live s (store max_connections s.live c b)

unfoldable pub put_input : State → ℕ → Value → State
put_input s i v = with_input s (store max_inputs s.ports.input i v)

unfoldable pub put_buffer : State → ℕ → Value → State
put_buffer s i v = with_buffer s (store max_inputs s.ports.buffer i v)

unfoldable pub put_output : State → ℕ → Value → State
put_output s o v = with_output s (store max_outputs s.ports.output o v)

unfoldable pub put_local : State → ℕ → Value → State
put_local s v x = with_local s (store max_locals s.ports.local v x)

-- ---- time: the number n stored as Spent of thread t, and what stands for Spent of each thread
unfoldable pub spent_stored : List ℕ → ℕ → ℕ → List ℕ
spent_stored l t n = cond (ltb t max_threads) (set l (spent_base + t) n) l

pub record SpentWords (l words : List ℕ) : Type 0 where
  pub each : (t : ℕ) → t < max_threads → get_or words t 0 ≡ get_or l (spent_base + t) 0

-- x is l but for Now and Spent
pub record BesideTime (l x : List ℕ) : Type 0 where
  pub size : length x ≡ length l
  pub same : (p : ℕ) → (p ≡ now_place → ⊥) → (spent_base ≤ p → p < behavior_base → ⊥) → get_or x p 0 ≡ get_or l p 0
