-- Laws of the listing of `steps`: r is what reading the model gave, b whether it was accepted.
use Rattle.std.specs.Prelude.{◌≡◌, Bool, true, false, List, ℕ, length}
use Rattle.records.specs.Refusals.{is_none}
use Rattle.model_format.specs.declared.ModelRead.{ModelRead}
use Rattle.model_format.specs.Reading.{read_model}
use Rattle.model_semantics.specs.State.{now_of}
use Rattle.model_semantics.specs.Machine.{start_state, machine_of, run_model}
use Rattle.listing.specs.Listing.{listing, refused_listing}
use Rattle.listing.specs.Programs.{steps_listing}
use Rattle.listing.specs.Outcomes.{model_outcome}
use Rattle.listing_writer.specs.declared.Printed.{Printed}
use Rattle.table_writer.specs.Wrote.{Wrote}
use Rattle.listing_writer.specs.PrintLaws.{prints_end}
use Rattle.listing_writer.specs.Prints.{Prints}

module _ {d e : List ℕ} {x : Printed} (model script : List ℕ) (r : ModelRead) (b : Bool) (h : r ≡ read_model model) (g : b ≡ is_none r.refusal.cause) where
  pub steps_run : b ≡ true → Prints (listing (machine_of r.model) now_of (start_state r.model.timing) script) (run_model r.model script).refusal d x e →
      Prints (steps_listing model script) (model_outcome model script).refusal d x e
  unfolding steps_listing model_outcome
  steps_run t w = rw (← h, ← g, t) w

  pub steps_refused : b ≡ false → (Wrote d 0 (refused_listing r.refusal.cause) e x.length × (x.refusal ≡ r.refusal)) → Prints (steps_listing model script) (model_outcome model script).refusal d x e
  unfolding steps_listing model_outcome
  steps_refused t w = rw (← h, ← g, t) (prints_end w)
