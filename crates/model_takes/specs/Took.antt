-- A record taken into a model in a list: its cause, and the model after it.
use Rattle.std.specs.Prelude.{◌≡◌, cond, List, ℕ}
use Rattle.records.specs.declared.Cause.{Cause}
use Rattle.records.specs.Refusals.{is_none}
use Rattle.model_format.specs.declared.Model.{Model}
use Rattle.model_format.specs.declared.Record.{Record}
use Rattle.model_format.specs.Reading.{cause_of, add_record}
use Rattle.model_words.specs.Words.{model_in}
use Rattle.model_causes.specs.Readings.{reading_in}

-- added where it has no cause
unfoldable pub taken : Cause → Model → Record → Model
taken c m r = cond (is_none c) (add_record m r) m

-- the record r is taken into the model of l, after one of the rank `last`: its cause, and the model of the list x after it
abbrev pub Took : ℕ → List ℕ → Record → Cause → List ℕ → Type 0
Took last l r c x = (c ≡ cause_of (reading_in last l) r) × (model_in x ≡ taken c (model_in l) r)
