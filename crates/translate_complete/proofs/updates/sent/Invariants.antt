use Rattle.std.proofs.Common.{◌≡◌}
use Rattle.model_words.specs.Words.{behavior_in}
use Rattle.translation.specs.Rules.{sent_expression}
use Rattle.translate_complete.specs.Assigned.{expression_of}
use Rattle.translate_complete.proofs.updates.sent.Given as goal

abbrev pub invariant-loop-number : goal.invariant-loop-number
invariant-loop-number l = expression_of l.expression ≡ sent_expression (behavior_in l.model) l.transition l.number l.port
