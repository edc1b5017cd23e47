use Rattle.table_rules.specs.At.{clauses_at}
use Rattle.table_ticks.specs.Copies.{first_still, first_never, first_copied}
use Rattle.table_ticks.proofs.ticks_to_enabled.Goals as goal

pub returns-then-is_enabled : goal.returns-then-is_enabled
returns-then-is_enabled c = first_still _ c.args.bits.now c.if-bits-eq0.true (clauses_at c.args.table.now c.args.from) _ c.is_enabled.ensures c.if-is_enabled.true

pub returns-else-is_enabled : goal.returns-else-is_enabled
returns-else-is_enabled c = first_never _ c.args.bits.now c.if-bits-eq0.true (clauses_at c.args.table.now c.args.from) _ c.is_enabled.ensures c.if-is_enabled.false

pub returns : goal.returns
returns c = first_copied _ c.args.bits.now _ (clauses_at c.args.table.now c.args.from) c.copied-copy.ensures c.if-bits-eq0.false _ c.advance_to_enabled.ensures
