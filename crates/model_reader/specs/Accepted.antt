-- A model that reading accepts is well formed.
use Rattle.std.specs.Prelude.{◌≡◌, Bool, true, List, ℕ, get_or}
use Rattle.std.proofs.Common.{sym, ◌∙◌, Fits}
use Rattle.std.specs.Int.{w8}
use Rattle.records.specs.Refusals.{is_none}
use Rattle.model_format.specs.declared.ModelRead.{ModelRead}
use Rattle.model_format.specs.Reading.{read_model}
use Rattle.model_format.specs.WellFormed.{Bytes, WellFormed}
use Rattle.model_format.specs.Accepted.{accepted_well_formed}

-- a slice of bytes is a list of bytes
pub bytes_known : (s : List ℕ) → ((i : ℕ) → Fits w8 (get_or s i 0)) → Bytes s
bytes_known s f i = (f i).fits

-- r is what reading gave, b whether it was accepted
pub read_good : (s : List ℕ) (r : ModelRead) (b : Bool) → r ≡ read_model s → b ≡ is_none r.refusal.cause → Bytes s → b ≡ true → WellFormed r.model
read_good s r b e g y f = rw e (accepted_well_formed s y (rw (← e) (sym g ∙ f)))
