use Rattle.std.proofs.Common.{◌≡◌, ◌-◌, length}
use Rattle.model_format.specs.Reading.{read_model}
use Rattle.model_words.specs.Words.{model_words}
use Rattle.model_causes.specs.Readings.{reading_in}
use Rattle.model_reader.specs.Walk.{read_at}
use Rattle.model_reader.proofs.read_records.Given as goal

abbrev pub invariant-loop-at : goal.invariant-loop-at
invariant-loop-at l = (read_at l.bytes l.at (reading_in l.last l.model) ≡ read_model l.bytes) × (length l.model ≡ model_words) × (length l.model ≡ length l.initial.model)

abbrev pub decreases-loop-at : goal.decreases-loop-at
decreases-loop-at l = length l.bytes - l.at
