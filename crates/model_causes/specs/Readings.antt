-- Where a reader stands that keeps its model in a list of numbers, and what a part of its tests gives.
use Rattle.std.specs.Prelude.{Bool, ◌&&◌, List, ℕ, eqb}
use Rattle.numbers.specs.Lists.{any_below}
use Rattle.model_format.specs.declared.Assignment.{Assignment}
use Rattle.model_format.specs.declared.Behavior.{Behavior}
use Rattle.model_format.specs.declared.Reading.{Reading}
use Rattle.model_format.specs.Model.{assignment_at}
use Rattle.model_words.specs.Words.{model_in}

-- after a record of the rank `last`, with the model of l
abbrev pub reading_in : ℕ → List ℕ → Reading
reading_in last l = record { last = last; model = model_in l }

-- assignment j of transition k has the target of a
abbrev pub has_target : Behavior → ℕ → Assignment → ℕ → Bool
has_target b k a j = eqb (assignment_at b k j).tag a.tag && eqb (assignment_at b k j).number a.number

-- one of the first n has
abbrev pub is_among : Behavior → ℕ → ℕ → Assignment → Bool
is_among b k n a = any_below n (has_target b k a)
