use Rattle.model_state.specs.Words.{state_in}
use Rattle.model_words.specs.Words.{timing_in}
use Rattle.model_enabled.specs.Walks.{event_off, event_on}
use Rattle.std.proofs.Common.{ap, not}
use Rattle.model_enabled.proofs.put_event.Goals as goal

pub returns-then-not-may_take : goal.returns-then-not-may_take
returns-then-not-may_take c = event_off _ _ c.may_take.ensures (ap not c.if-not-may_take.true)

pub returns : goal.returns
returns c = event_on c.args.n (timing_in c.args.model.now) (state_in c.args.state.now) c.args.kind c.args.i c.may_take.ensures (ap not c.if-not-may_take.false) c.thread_at-thread.ensures c.length_in-low.ensures c.length_in-high.ensures c.from.ensures c.put_offer.ensures
