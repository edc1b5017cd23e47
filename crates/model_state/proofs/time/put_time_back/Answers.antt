use Rattle.model_state.specs.TimeLaws.{back_all}
use Rattle.model_state.proofs.time.put_time_back.Goals as goal

pub returns : goal.returns
returns c = λ l b e w. back_all l _ _ _ _ _ b c.put_item.ensures e c.put_spent_words.ensures w
