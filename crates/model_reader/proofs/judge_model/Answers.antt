use Rattle.std.proofs.Common.{ℕ, arith}
use lib.ListN.{length-replicate}
use Rattle.model_words.specs.Words.{model_words}
use Rattle.model_reader.specs.Lent.{zeros_empty}
use Rattle.model_reader.specs.Walk.{read_refusal_lem}
use Rattle.model_reader.proofs.judge_model.Goals as goal

pub read_records-requires : goal.read_records-requires
read_records-requires c = (let n = length-replicate {A = ℕ} model_words 0 in omega (arith, n), zeros_empty)

pub returns : goal.returns
returns c = read_refusal_lem _ _ _ c.read_records.ensures
