use Rattle.model_state.specs.Words.{state_words, state_in}
use Rattle.model_words.specs.Words.{timing_in}
use Rattle.enabled.specs.Enabled.{model_offers, model_may_tick}
use Rattle.enabled.specs.ToldLaws.{from_short, from_all}
use Rattle.futonkestrel_lending.specs.ToldLaws.{tells_same}
use Rattle.futonkestrel_enabled.proofs.model_enabled.Goals as goal

pub returns-then-state-lt-STATE_WORDS : goal.returns-then-state-lt-STATE_WORDS
returns-then-state-lt-STATE_WORDS c = tells_same (from_short state_words c.args.state.now (model_offers (timing_in c.args.words.now) (state_in c.args.state.now)) (model_may_tick (timing_in c.args.words.now) (state_in c.args.state.now)) c.args.output.now c.if-state-lt-STATE_WORDS.true) c.tell_enabled.ensures

pub returns : goal.returns
returns c = tells_same (from_all state_words c.args.state.now (model_offers (timing_in c.args.words.now) (state_in c.args.state.now)) (model_may_tick (timing_in c.args.words.now) (state_in c.args.state.now)) c.args.output.now c.if-state-lt-STATE_WORDS.false c.enabled_in-e.ensures) c.tell_enabled-2.ensures
