use Rattle.std.proofs.Common.{arith}
use Rattle.table_index.specs.Guards.{guard_short, guard_no_clause, guard_no_atom, guard_more_atoms, guard_first}
use Rattle.table_index.proofs.guard_of.Goals as goal

pub returns-then-table-at : goal.returns-then-table-at
returns-then-table-at c = guard_short c.args.table.now c.args.at (let a = c.if-table-at.true in omega arith)

pub returns-then-table-at-lt11 : goal.returns-then-table-at-lt11
returns-then-table-at-lt11 c = guard_short c.args.table.now c.args.at (let a = c.if-table-at.false in let b = c.if-table-at-lt11.true in omega arith)

pub returns-then-table-at-ne-TABLE_CLAUSE : goal.returns-then-table-at-ne-TABLE_CLAUSE
returns-then-table-at-ne-TABLE_CLAUSE c = guard_no_clause c.args.table.now c.args.at (let a = c.if-table-at.false in let b = c.if-table-at-lt11.false in omega arith) c.if-table-at-ne-TABLE_CLAUSE.true

pub returns-then-table-at-ne-TABLE_ATOM : goal.returns-then-table-at-ne-TABLE_ATOM
returns-then-table-at-ne-TABLE_ATOM c = guard_no_atom c.args.table.now c.args.at (let a = c.if-table-at.false in let b = c.if-table-at-lt11.false in omega arith) c.if-table-at-ne-TABLE_CLAUSE.false c.if-table-at-ne-TABLE_ATOM.true

pub returns-then-table-at-ne-TABLE_CLAUSE-2 : goal.returns-then-table-at-ne-TABLE_CLAUSE-2
returns-then-table-at-ne-TABLE_CLAUSE-2 c = guard_more_atoms c.args.table.now c.args.at (let a = c.if-table-at.false in let b = c.if-table-at-lt11.false in omega arith) c.if-table-at-ne-TABLE_CLAUSE.false c.if-table-at-ne-TABLE_ATOM.false c.if-table-at-ne-TABLE_CLAUSE-2.true

pub returns : goal.returns
returns c = guard_first c.args.table.now c.args.at (let a = c.if-table-at.false in let b = c.if-table-at-lt11.false in omega arith) c.if-table-at-ne-TABLE_CLAUSE.false c.if-table-at-ne-TABLE_ATOM.false c.if-table-at-ne-TABLE_CLAUSE-2.false _ c.asked_in.ensures
