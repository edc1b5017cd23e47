-- The size that is told from a model's bytes. r is what reading them gave, b whether it was accepted.
use Rattle.std.specs.Prelude.{◌≡◌, refl, Bool, true, false, List, ℕ}
use Rattle.records.specs.declared.Refusal.{Refusal}
use Rattle.records.specs.Refusals.{is_none, no_refusal}
use Rattle.model_format.specs.declared.ModelRead.{ModelRead}
use Rattle.model_format.specs.Reading.{read_model}
use Rattle.translation.specs.Translate.{table_bytes}
use Rattle.translation_sizes.specs.declared.TableSize.{TableSize}
use Rattle.translation_sizes.specs.Sizes.{size_of, no_size, sized}
use Rattle.translation_sizes.specs.Foretold.{Foretells}
use Rattle.translation_sizes.specs.Foretelling.{foretells}

module _ (model : List ℕ) (r : ModelRead) (b : Bool) (e : r ≡ read_model model) (g : b ≡ is_none r.refusal.cause) where
  pub refusal_told : b ≡ false → {z : TableSize} → z ≡ no_size → Foretells model (record { refusal = r.refusal; size = z })
  unfolding sized
  refusal_told f h = foretells model _ (rw (← e, ← g, f, h))

  pub table_told : b ≡ true → {z : TableSize} → z ≡ size_of (table_bytes r.model) → {o : Refusal} → o ≡ no_refusal → Foretells model (record { refusal = o; size = z })
  unfolding sized
  table_told f h k = foretells model _ (rw (← e, ← g, f, h, k))
