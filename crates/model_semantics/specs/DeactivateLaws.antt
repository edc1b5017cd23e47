-- DEACTIVATE does one of two things: it ends a job in hand, or only the code changes.
use Rattle.std.specs.Prelude.{◌≡◌, refl, Bool, true, false, cond, ◌||◌, ℕ, eqb}
use Rattle.std.proofs.Common.{true≢false}
use Rattle.model_format.specs.declared.Timing.{Timing}
use Rattle.model_semantics.specs.declared.State.{State}
use Rattle.model_semantics.specs.State.{code_of, with_code}
use Rattle.model_semantics.specs.Tests.{waiting_mode, waiting_execution, completed, runs, is_unfinished, has_job}
use Rattle.model_semantics.specs.Effects.{end_job, deactivate}

pub deactivated : (P : State → Type 0) (m : Timing) (s : State) (t : ℕ) → (has_job (code_of s t) ≡ true → P (end_job m s t waiting_mode)) →
    (has_job (code_of s t) ≡ false → P (with_code s t waiting_mode)) → P (deactivate m s t)
unfolding deactivate
deactivated P m s t stopped left = go (has_job (code_of s t)) stopped left
  where
    go : (b : Bool) → (b ≡ true → P (end_job m s t waiting_mode)) → (b ≡ false → P (with_code s t waiting_mode)) → P (cond b (end_job m s t waiting_mode) (with_code s t waiting_mode))
    go true p q = p refl
    go false p q = q refl

-- who runs has a job in hand
pub idle_still : (code : ℕ) → has_job code ≡ false → runs code ≡ false
unfolding has_job is_unfinished
idle_still code = go (eqb code waiting_execution) (runs code) (eqb code completed)
  where
    go : (a b c : Bool) → ((a || b) || c) ≡ false → b ≡ false
    go true b c e = absurd (true≢false e)
    go false true c e = absurd (true≢false e)
    go false false c e = refl
