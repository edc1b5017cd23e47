-- What telling a table's size beforehand promises to a caller of the static library.
use Rattle.std.specs.Prelude.{List, [], ◌∷◌, ℕ}
use Rattle.translation_sizes.specs.declared.Sized.{Sized}
use Rattle.translation_sizes.specs.Sizes.{sized}
use Rattle.translation_sizes.specs.Foretold.{Foretells}
use Rattle.futonkestrel_lending.specs.Lending.{Tells}

-- the refusal's part, then the counts
abbrev pub told_size : Sized → List ℕ
told_size s = s.refusal.start ∷ s.refusal.end ∷ s.size.bytes ∷ s.size.rules ∷ s.size.clauses ∷ s.size.atoms ∷ s.size.updates ∷ []

-- the number, and what is told; and that every translation of the model then writes as much, or is refused with 8
pub record TellsSize (model before : List ℕ) (r : ℕ) (told : List ℕ) : Type 0 where
  pub tells : Tells (sized model).refusal.cause (told_size (sized model)) before r told
  pub foretold : Foretells model (sized model)
