use mathlib.Core.Path.{◌∙◌, ap}
use Prim.Native.Nat.{ℕ}
use Rattle.numbers.specs.Values.{value, signed}
use Rattle.numbers.proofs.value_at.Goals as goal

pub returns : goal.returns
returns c = c.value_of.ensures ∙ ap (λ (n : ℕ). value (signed n)) c.u32_at.ensures
