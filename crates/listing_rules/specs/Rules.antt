-- Laws of the listing of `rules`: r is what translating gave, b whether a table was made.
use Rattle.std.specs.Prelude.{◌≡◌, refl, Bool, true, false, List, [], ℕ, length, take}
use Rattle.std.proofs.Common.{sym, ◌∙◌, subst}
use Rattle.records.specs.Refusals.{is_none, no_refusal}
use Rattle.model_format.specs.Reading.{read_model}
use Rattle.model_format.specs.WellFormed.{Bytes}
use Rattle.model_format.specs.Accepted.{accepted_well_formed}
use Rattle.table_format.specs.Reading.{read_table}
use Rattle.translation.specs.declared.Translation.{Translation}
use Rattle.translation.specs.Translate.{translated, table_bytes}
use Rattle.simulation.specs.Compared.{Demand3}
use Rattle.simulation.specs.Simulation.{was_accepted, demand_3}
use Rattle.translator.specs.Translates.{Translates}
use Rattle.translator.specs.Tables.{was_made, table_is}
use Rattle.listing.specs.Listing.{refused_listing}
use Rattle.listing.specs.Programs.{room, table_listing, rules_listing, PrintsSame}
use Rattle.listing.specs.Outcomes.{table_outcome, rules_outcome}
use Rattle.listing.proofs.Same.{demand_prints_same}
use Rattle.table_writer.specs.Wrote.{Wrote}
use Rattle.listing_writer.specs.declared.Printed.{Printed}
use Rattle.listing_writer.specs.PrintLaws.{prints_end}
use Rattle.listing_writer.specs.Prints.{Prints}

module _ (model out after : List ℕ) (r : Translation) (b : Bool) (size : room ≡ length out) (t : Translates model out r after) (g : b ≡ is_none r.refusal.cause) where
  -- demand 3, which translating promises, makes it the listing of `steps`
  prints_same : (script : List ℕ) → PrintsSame model script
  prints_same script e =
      let made : is_none r.refusal.cause ≡ true = rw (t.told, ← size) e in
      demand_prints_same model script e (subst (Demand3 (read_model model).model script) (table_is t made) (t.simulated script made))

  module _ {d e : List ℕ} {x : Printed} (script : List ℕ) where
    rules_run : b ≡ true → Prints (table_listing (take r.bytes after) script) (table_outcome (take r.bytes after) script).refusal d x e →
        Prints (rules_listing model script) (rules_outcome model script).refusal d x e
    unfolding rules_listing rules_outcome
    rules_run f w = rw (size, was_made t (sym g ∙ f), ← table_is t (sym g ∙ f)) w

    rules_refused : b ≡ false → (Wrote d 0 (refused_listing r.refusal.cause) e x.length × (x.refusal ≡ r.refusal)) →
        Prints (rules_listing model script) (rules_outcome model script).refusal d x e
    unfolding rules_listing rules_outcome
    rules_refused f w = rw (size, ← t.told, ← g, f) (prints_end w)

    pub lists_run : b ≡ true → Prints (table_listing (take r.bytes after) script) (table_outcome (take r.bytes after) script).refusal d x e →
        Prints (rules_listing model script) (rules_outcome model script).refusal d x e × PrintsSame model script
    lists_run f w = (rules_run f w, prints_same script)

    pub lists_refusal : b ≡ false → (Wrote d 0 (refused_listing r.refusal.cause) e x.length × (x.refusal ≡ r.refusal)) →
        Prints (rules_listing model script) (rules_outcome model script).refusal d x e × PrintsSame model script
    lists_refusal f w = (rules_refused f w, prints_same script)

-- the table that is made is one that is read
pub made_accepted : (model : List ℕ) → Bytes model → is_none (translated model room).refusal.cause ≡ true → read_table (table_bytes (read_model model).model) ≡ no_refusal
made_accepted model b e =
    let a = (was_accepted model room (translated model room) refl e).reading in
    (demand_3 (read_model model).model (accepted_well_formed model b a) []).accepted
