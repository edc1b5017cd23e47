-- That a model and a table offer the same, as one statement over an event list and a table's bytes.
use Rattle.std.specs.Prelude.{◌≡◌, List, [], ◌∷◌, ℕ, take}
use Rattle.records.specs.Run.{Stage}
use Rattle.model_format.specs.declared.Timing.{Timing}
use Rattle.model_format.specs.declared.Model.{Model}
use Rattle.model_format.specs.Reading.{read_model}
use Rattle.model_semantics.specs.declared.State.{State}
use Rattle.model_semantics.specs.Machine.{start_state, model_stages}
use Rattle.table_format.specs.Table.{Rule, table_of}
use Rattle.table_semantics.specs.declared.Variables.{Variables}
use Rattle.table_semantics.specs.Machine.{start_variables, table_stages}
use Rattle.enabled.specs.Enabled.{model_offers, model_may_tick, table_offers, table_may_tick}

-- the same events in the same order, with the same lengths; and a tick for both or for neither
pub record SameOffers (m : Timing) (rules : List Rule) (s : State) (v : Variables) : Type 0 where
  pub events : model_offers m s ≡ table_offers rules v.value
  pub tick : model_may_tick m s ≡ table_may_tick rules v.value

-- after every event, taken or refused, to the end of both lists
unfoldable pub OffersAfter : Timing → List Rule → List (Stage State) → List (Stage Variables) → Type 0
OffersAfter m rules [] [] = Unit {0}
OffersAfter m rules [] (y ∷ r) = ⊥
OffersAfter m rules (x ∷ l) [] = ⊥
OffersAfter m rules (x ∷ l) (y ∷ r) = SameOffers m rules x.state y.state × OffersAfter m rules l r

-- at the start and after every event of a list, of the rules that the bytes of a table hold
pub record OffersAlike (m : Model) (script table : List ℕ) : Type 0 where
  pub start : SameOffers m.timing (table_of table).rules (start_state m.timing) (start_variables (table_of table))
  pub after : OffersAfter m.timing (table_of table).rules (model_stages m script) (table_stages table script)

-- of the model that bytes hold, and of the first so many bytes of an output
abbrev pub Offers : List ℕ → List ℕ → ℕ → List ℕ → Type 0
Offers model script bytes after = OffersAlike (read_model model).model script (take bytes after)
