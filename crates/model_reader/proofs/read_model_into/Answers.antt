use Rattle.std.proofs.Common.{sym, arith, length-take-le, rules}
use Rattle.model_words.specs.Words.{model_words}
use Rattle.model_reader.specs.Lent.{into_short, into_whole}
use Rattle.model_reader.proofs.read_model_into.Goals as goal

pub returns-then-list-lt-MODEL_WORDS : goal.returns-then-list-lt-MODEL_WORDS
returns-then-list-lt-MODEL_WORDS c = into_short _ _ _ c.if-list-lt-MODEL_WORDS.true c.in_model.ensures

pub slice_bounds-read_all-end-2 : goal.slice_bounds-read_all-end-2
slice_bounds-read_all-end-2 c = sym (length-take-le model_words c.args.list.now (omega (arith, c.if-list-lt-MODEL_WORDS.false)))

pub read_all-requires : goal.read_all-requires
read_all-requires c = omega (arith, length-take-le model_words c.args.list.now (omega (arith, c.if-list-lt-MODEL_WORDS.false)))

pub returns : goal.returns
returns c = into_whole _ _ _ _ c.if-list-lt-MODEL_WORDS.false (search rules) c.read_all.ensures
