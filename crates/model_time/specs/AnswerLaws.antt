-- Laws of the answer to an event.
use Rattle.std.specs.Prelude.{◌≡◌, refl, false, List, ℕ}
use Rattle.std.proofs.Common.{sym, subst}
use Rattle.records.specs.declared.Cause.{Cause}
use Rattle.records.specs.declared.Cause.TheVariants.{None}
use Rattle.records.specs.Refusals.{number_of, is_none}
use Rattle.model_semantics.specs.declared.Stepped.{Stepped}
use Rattle.model_semantics.specs.Machine.{refuse}
use Rattle.model_state.specs.Words.{state_in}
use Rattle.model_tests.specs.JobLaws.{false_true}
use Rattle.model_time.specs.Answers.{Answers}

-- an event that is accepted need not keep the list
pub accepted_keeps : {A : Type 0} → is_none None ≡ false → A
unfolding number_of
accepted_keeps e = false_true (sym e)

pub refused_at_once : (r : Cause) (l : List ℕ) (o : Stepped) → refuse r (state_in l) ≡ o → Answers r l l o
refused_at_once r l o e = record { same = e; kept = λ z. refl }

-- the same answer, told otherwise
pub answers_as : (r : Cause) (l x : List ℕ) (o p : Stepped) → Answers r l x o → o ≡ p → Answers r l x p
answers_as r l x o p a e = subst (λ (q : Stepped). Answers r l x q) e a
