use Rattle.model_words.specs.Words.{timing_in}
use Rattle.translator.specs.Groups.{items_switches, items_threads}
use Rattle.translator.proofs.items_of.Goals as goal

pub returns-then-kind : goal.returns-then-kind
returns-then-kind c = items_switches (timing_in c.args.words.now) _ _ c.switches.ensures c.if-kind.true

pub returns : goal.returns
returns c = items_threads (timing_in c.args.words.now) _ _ c.threads.ensures c.if-kind.false
