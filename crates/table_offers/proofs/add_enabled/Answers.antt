use Rattle.std.proofs.Common.{rules, refl, ◌-◌, arith}
use Rattle.table_offers.specs.OneMore.{adds_none, adds_offer, adds_past, no_kind, some_kind}
use Rattle.table_offers.proofs.add_enabled.Goals as goal

pub returns-then-kind : goal.returns-then-kind
returns-then-kind c = adds_none c.args.head c.args.seen c.args.output.now _ refl (no_kind c.args.head.kind c.if-kind.true)

pub returns-then-output-count : goal.returns-then-output-count
returns-then-output-count c = adds_past c.args.head c.args.seen c.args.output.now _ refl (c.args.head.kind - 1) (some_kind c.args.head.kind c.if-kind.false).0 (some_kind c.args.head.kind c.if-kind.false).1 (search rules) (omega arith)

pub returns : goal.returns
returns c = adds_offer c.args.head c.args.seen c.args.output.now _ refl (c.args.head.kind - 1) (some_kind c.args.head.kind c.if-kind.false).0 (some_kind c.args.head.kind c.if-kind.false).1 (search rules) _ (search rules) c.insert.ensures
