-- Spent some ticks later, thread by thread.
use Rattle.std.specs.Prelude.{cond, ℕ, eqb}
use Rattle.model_semantics.specs.declared.State.{State}
use Rattle.model_semantics.specs.State.{code_of, spent_of, with_spent}
use Rattle.model_semantics.specs.Tests.{execution}
use Rattle.model_time.specs.Quiet.{more_by, spent_by, with_spents}

-- Spent of thread t, q ticks later
unfoldable pub spend : State → ℕ → ℕ → State
spend s t q = cond (eqb (code_of s t) execution) (with_spent s t (more_by q (spent_of s t))) s

-- of the threads below n
unfoldable pub spent_below : State → ℕ → ℕ → State
spent_below s q n = with_spents s (spent_by q s.threads.code s.threads.spent n)
