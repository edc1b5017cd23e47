use Rattle.std.proofs.Common.{sym, arith, rules, length-take-le}
use Rattle.model_words.specs.Words.{model_words}
use Rattle.futonkestrel_reading.specs.Laws.{read_refused, read_narrow, read_made}
use Rattle.futonkestrel_reading.proofs.model_read.Goals as goal

pub returns-then-not-is_none : goal.returns-then-not-is_none
returns-then-not-is_none c = read_refused c.args.model.now c.args.words.now c.args.told.now c.judge_model-refusal.ensures c.is_none.ensures c.if-not-is_none.true c.tell_refusal.ensures

pub returns-then-words-lt-MODEL_WORDS : goal.returns-then-words-lt-MODEL_WORDS
returns-then-words-lt-MODEL_WORDS c = read_narrow c.args.model.now c.args.words.now c.args.told.now c.judge_model-refusal.ensures c.is_none.ensures c.if-not-is_none.false c.if-words-lt-MODEL_WORDS.true c.in_model-short.ensures c.tell_refusal-then-words-lt-MODEL_WORDS.ensures

pub slice_bounds-read_settled-end-2 : goal.slice_bounds-read_settled-end-2
slice_bounds-read_settled-end-2 c = sym (length-take-le model_words c.args.words.now (omega (arith, c.if-words-lt-MODEL_WORDS.false)))

pub read_settled-requires : goal.read_settled-requires
read_settled-requires c = length-take-le model_words c.args.words.now (omega (arith, c.if-words-lt-MODEL_WORDS.false))

pub returns : goal.returns
returns c = read_made c.args.model.now c.args.words.now c.args.told.now c.judge_model-refusal.ensures c.is_none.ensures _ c.if-not-is_none.false c.if-words-lt-MODEL_WORDS.false (search rules) c.read_settled.ensures c.tell_refusal-2.ensures
