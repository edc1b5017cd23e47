use Rattle.model_reader.specs.Ranks.{rank_written, rank_other}
use Rattle.model_reader.proofs.rank_of.Goals as goal

pub returns-then-kind-eq-MODEL_WRITTEN_INPUT : goal.returns-then-kind-eq-MODEL_WRITTEN_INPUT
returns-then-kind-eq-MODEL_WRITTEN_INPUT c = rank_written _ c.if-kind-eq-MODEL_WRITTEN_INPUT.true

pub returns-else-kind-eq-MODEL_WRITTEN_INPUT : goal.returns-else-kind-eq-MODEL_WRITTEN_INPUT
returns-else-kind-eq-MODEL_WRITTEN_INPUT c = rank_other _ c.if-kind-eq-MODEL_WRITTEN_INPUT.false
