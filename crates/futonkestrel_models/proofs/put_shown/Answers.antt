use Rattle.std.proofs.Common.{rules}
use Rattle.model_words.specs.Words.{timing_in}
use Rattle.model_state.specs.Words.{state_in}
use Rattle.futonkestrel_lending.specs.Lending.{numbers_shown}
use Rattle.futonkestrel_models.proofs.put_shown.Goals as goal

pub returns : goal.returns
returns c = c.put_numbers.ensures (numbers_shown (timing_in c.args.m.now) (state_in c.args.s.now)) (λ j n h k. search rules)
