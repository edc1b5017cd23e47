use Rattle.model_state.specs.Words.{state_in}
use Rattle.model_words.specs.Words.{timing_in}
use Rattle.model_enabled.specs.Counts.{most_fits, count_fits, told_at_once, told_no_room, told_listed}
use Rattle.std.proofs.Common.{refl, rules}
use Rattle.model_enabled.proofs.enabled_in.Goals as goal

pub overflow_mul-most_events : goal.overflow_mul-most_events
overflow_mul-most_events c = let x = most_fits (timing_in c.args.model.now) (state_in c.args.state.now) c.most_events.ensures in search rules

pub returns-then-most_events-output : goal.returns-then-most_events-output
returns-then-most_events-output c = told_at_once (timing_in c.args.model.now) (state_in c.args.state.now) c.args.output.now c.may_tick-tick.ensures c.most_events.ensures c.if-most_events-output.true refl c.put_events-count.ensures

pub overflow_mul-count : goal.overflow_mul-count
overflow_mul-count c = let x = count_fits (timing_in c.args.model.now) (state_in c.args.state.now) c.count_events-count.ensures in search rules

pub returns-then-output-count : goal.returns-then-output-count
returns-then-output-count c = told_no_room (timing_in c.args.model.now) (state_in c.args.state.now) c.args.output.now c.may_tick-tick.ensures c.count_events-count.ensures c.if-output-count.true refl

pub returns : goal.returns
returns c = told_listed (timing_in c.args.model.now) (state_in c.args.state.now) c.args.output.now c.may_tick-tick.ensures c.count_events-count.ensures c.if-output-count.false refl c.put_events.ensures
