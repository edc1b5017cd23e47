use Rattle.std.proofs.Common.{◌∙◌, ap, ℕ, replicate}
use Rattle.std.proofs.Math.Seq.{length-take-le}
use Rattle.model_start.specs.Starting.{cleared_front}
use Rattle.model_start.proofs.clear.Goals as goal

pub returns : goal.returns
returns c = cleared_front _ _ (c.fill.ensures.after (λ y e. e) ∙ ap (λ (n : ℕ). replicate n 0) (length-take-le _ _ c.requires))
