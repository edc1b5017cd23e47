use Rattle.std.proofs.Common.{sym, arith, rules, length-take-le}
use Rattle.model_state.specs.Words.{state_words}
use Rattle.futonkestrel_states.specs.Laws.{step_narrow, step_made}
use Rattle.futonkestrel_states.proofs.model_step.Goals as goal

pub returns-then-state-lt-STATE_WORDS : goal.returns-then-state-lt-STATE_WORDS
returns-then-state-lt-STATE_WORDS c = step_narrow _ _ _ c.if-state-lt-STATE_WORDS.true

pub slice_bounds-step_settled-end-2 : goal.slice_bounds-step_settled-end-2
slice_bounds-step_settled-end-2 c = sym (length-take-le state_words c.args.state.now (omega (arith, c.if-state-lt-STATE_WORDS.false)))

pub step_settled-requires : goal.step_settled-requires
step_settled-requires c = length-take-le state_words c.args.state.now (omega (arith, c.if-state-lt-STATE_WORDS.false))

pub returns : goal.returns
returns c = step_made c.args.model.now c.args.state.now c.args.event.now _ c.if-state-lt-STATE_WORDS.false (search rules) c.event_of-event.ensures c.step_settled.ensures
