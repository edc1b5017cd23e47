use Rattle.std.proofs.Common.{sym, arith, rules, length-take-le}
use Rattle.model_state.specs.Words.{state_words}
use Rattle.futonkestrel_states.specs.Laws.{start_narrow, start_made}
use Rattle.futonkestrel_states.proofs.model_start.Goals as goal

pub returns-then-state-lt-STATE_WORDS : goal.returns-then-state-lt-STATE_WORDS
returns-then-state-lt-STATE_WORDS c = start_narrow _ _ c.if-state-lt-STATE_WORDS.true

pub slice_bounds-start_settled-end-2 : goal.slice_bounds-start_settled-end-2
slice_bounds-start_settled-end-2 c = sym (length-take-le state_words c.args.state.now (omega (arith, c.if-state-lt-STATE_WORDS.false)))

pub start_settled-requires : goal.start_settled-requires
start_settled-requires c = length-take-le state_words c.args.state.now (omega (arith, c.if-state-lt-STATE_WORDS.false))

pub returns : goal.returns
returns c = start_made c.args.model.now c.args.state.now _ c.if-state-lt-STATE_WORDS.false (search rules) c.start_settled.ensures
