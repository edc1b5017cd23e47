-- What is promised of the variables that a state of a model shows: the answer, and every number that is lent.
use Rattle.std.specs.Prelude.{ℕ, ◌+◌, ◌-◌, ◌%◌, ◌^◌, cond, ◌&&◌, List, nat_lt}
use Rattle.records.specs.declared.Cause.{Cause}
use Rattle.records.specs.declared.Cause.TheVariants.{None, ShortOutput}
use Rattle.model_format.specs.declared.Timing.{Timing}
use Rattle.model_semantics.specs.declared.State.{State}
use Rattle.model_semantics.specs.State.{code_of, length_of, spent_of, now_of}
use Rattle.model_semantics.specs.Tests.{runs, has_job, due_of}
use Rattle.table_format.specs.Variables.{thread_room, due_var, end_var}
use Rattle.translation.specs.Shown.{in_block}
use Rattle.futonkestrel_lending.specs.Lending.{lent_as, numbers_shown, is_short}
use Rattle.model_words.specs.Words.{timing_in}
use Rattle.model_state.specs.Words.{state_in}

-- ---- each variable by its 32 bits: what it stands for and, beside that, Due of a thread with a job in hand and End of one that runs; 0
-- where there is none
unfoldable pub due_number : Timing → State → ℕ → ℕ
due_number m s t = cond (nat_lt t m.threads && has_job (code_of s t)) (due_of m s t % 2 ^ 32) 0

unfoldable pub end_number : Timing → State → ℕ → ℕ
end_number m s t = cond (nat_lt t m.threads && runs (code_of s t)) ((now_of s + (length_of s t - spent_of s t)) % 2 ^ 32) 0

unfoldable pub shown_with_times : Timing → State → ℕ → ℕ
shown_with_times m s j =
    cond (in_block (due_var 0) thread_room j) (due_number m s (j - due_var 0))
    (cond (in_block (end_var 0) thread_room j) (end_number m s (j - end_var 0)) (numbers_shown m s j))

unfoldable pub shown_answer : List ℕ → Cause
shown_answer variables = cond (is_short variables) ShortOutput None

unfoldable pub shown_variables : List ℕ → List ℕ → List ℕ → List ℕ
shown_variables model state variables = cond (is_short variables) variables (lent_as variables (shown_with_times (timing_in model) (state_in state)))
