-- From what reading and running a model give to what a caller has.
use Rattle.std.specs.Prelude.{◌≡◌, refl, Bool, true, false, List, ℕ, ◌≤◌, ◌<◌, length}
use borrow.Author.Tests.{lt-ltb, le-ltb}
use Rattle.records.specs.declared.Cause.TheVariants.{ShortOutput}
use Rattle.records.specs.Refusals.{is_none}
use Rattle.records.specs.Run.{Ended}
use Rattle.model_format.specs.declared.ModelRead.{ModelRead}
use Rattle.model_format.specs.Reading.{read_model}
use Rattle.model_semantics.specs.declared.State.{State}
use Rattle.model_semantics.specs.declared.Stepped.{Stepped}
use Rattle.model_semantics.specs.State.{now_of}
use Rattle.model_semantics.specs.Machine.{run_model}
use Rattle.table_format.specs.Variables.{variables}
use Rattle.listing.specs.Outcomes.{refused_outcome, model_outcome}
use Rattle.futonkestrel_lending.specs.Lending.{lent_as, numbers_shown, after_step, after_answer, after_lent, TellsOutcome}

-- ---- one event of a model
module _ (model script event d : List ℕ) {r : ModelRead} (h : r ≡ read_model model) {b : Bool} (e : b ≡ is_none r.refusal.cause) where
  pub after_refused : b ≡ false → (r.refusal.cause ≡ after_answer model script event d) × (d ≡ after_lent model script event d)
  unfolding after_answer after_lent
  after_refused g = rw (← h, ← e, g) (refl, refl)

  pub after_short : b ≡ true → length d < variables → (ShortOutput ≡ after_answer model script event d) × (d ≡ after_lent model script event d)
  unfolding after_answer after_lent
  after_short g l = rw (← h, ← e, g, lt-ltb (length d) variables l) (refl, refl)

  pub after_shown : b ≡ true → variables ≤ length d → {o : Stepped} → o ≡ after_step r.model script event → {after : List ℕ} → after ≡ lent_as d (numbers_shown r.model.timing o.state) →
      (o.answer ≡ after_answer model script event d) × (after ≡ after_lent model script event d)
  unfolding after_answer after_lent
  after_shown g l i w = rw (← h, ← e, g, le-ltb (length d) variables l, ← i) (refl, w)

-- ---- runs
module _ (model script : List ℕ) {r : ModelRead} (h : r ≡ read_model model) {b : Bool} (e : b ≡ is_none r.refusal.cause) {before after : List ℕ} {n : ℕ} where
  pub model_unread : b ≡ false → TellsOutcome (refused_outcome r.refusal) before n after → TellsOutcome (model_outcome model script) before n after
  unfolding model_outcome
  model_unread g w = rw (← h, ← e, g) w

  pub model_run : b ≡ true → {o : Ended State} → o ≡ run_model r.model script → {k : ℕ} → k ≡ now_of o.state →
      TellsOutcome (record { refusal = o.refusal; taken = o.taken; clock = k }) before n after → TellsOutcome (model_outcome model script) before n after
  unfolding model_outcome
  model_run g i q w = rw (← h, ← e, g, ← i, ← q) w
