-- The size that is told is what translating then writes.
use Rattle.std.specs.Prelude.{◌≡◌, refl, Bool, true, false, cond, List, ℕ, length}
use Rattle.std.proofs.Common.{ap}
use Rattle.records.specs.Refusals.{number_of, is_none}
use Rattle.model_format.specs.Reading.{read_model}
use Rattle.translation.specs.Translate.{translated}
use Rattle.translation_sizes.specs.declared.TableSize.{TableSize}
use Rattle.translation_sizes.specs.declared.Sized.{Sized}
use Rattle.translation_sizes.specs.Sizes.{size_of, sized}
use Rattle.translation_sizes.specs.Foretold.{written, Foretells}

told_written : (model : List ℕ) (room : ℕ) →
    translated model room ≡ cond (is_none (sized model).refusal.cause) (written model (sized model).size.bytes room) (record { refusal = (sized model).refusal; bytes = 0 })
unfolding translated sized size_of number_of
told_written model room = go (is_none (read_model model).refusal.cause) refl
  where
    go : (b : Bool) → is_none (read_model model).refusal.cause ≡ b →
        translated model room ≡ cond (is_none (sized model).refusal.cause) (written model (sized model).size.bytes room) (record { refusal = (sized model).refusal; bytes = 0 })
    go true e = rw e
    go false e = rw (e, e)

pub foretells : (model : List ℕ) (result : Sized) → result ≡ sized model → Foretells model result
foretells model result e = rw e (record { told = refl; translates = told_written model })

pub size_bytes : {size : TableSize} (table : List ℕ) → size ≡ size_of table → size.bytes ≡ length table
unfolding size_of
size_bytes table e = ap (λ (z : TableSize). z.bytes) e
