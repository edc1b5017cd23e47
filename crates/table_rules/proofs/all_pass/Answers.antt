use Rattle.std.proofs.Common.{◌∙◌, arith}
use Rattle.records.specs.Walk.{next_place, slice_part}
use Rattle.records.specs.declared.Notation.TheVariants as notations
use Rattle.table_rules.specs.Clauses.{pass_all, pass_end, pass_failed, pass_clause, pass_atom_cut, pass_held, pass_atom, pass_head, pass_other}
use Rattle.table_rules.proofs.all_pass.Goals as goal

pub returns-then-not-held : goal.returns-then-not-held
returns-then-not-held c = pass_failed _ _ _ c.args.table.now _ c.loop-at-test.true c.if-k-eq-TABLE_CLAUSE.true c.if-not-held.true ∙ c.loop-at.invariant ∙ pass_all _ _ c.args.table.now c.args.from

pub loop-at-preserved-then-k-eq-TABLE_CLAUSE : goal.loop-at-preserved-then-k-eq-TABLE_CLAUSE
loop-at-preserved-then-k-eq-TABLE_CLAUSE c = pass_clause _ _ _ c.args.table.now _ c.loop-at-test.true c.if-k-eq-TABLE_CLAUSE.true c.if-not-held.false ∙ c.loop-at.invariant

pub returns-then-table-at-lt-TABLE_ATOM_SIZE : goal.returns-then-table-at-lt-TABLE_ATOM_SIZE
returns-then-table-at-lt-TABLE_ATOM_SIZE c = pass_atom_cut _ _ _ c.args.table.now _ c.loop-at-test.true c.if-k-eq-TABLE_ATOM.true c.if-table-at-lt-TABLE_ATOM_SIZE.true ∙ c.loop-at.invariant ∙ pass_all _ _ c.args.table.now c.args.from

pub loop-at-preserved-then-held : goal.loop-at-preserved-then-held
loop-at-preserved-then-held c = pass_held _ _ _ c.args.table.now _ c.loop-at-test.true c.if-k-eq-TABLE_ATOM.true c.if-table-at-lt-TABLE_ATOM_SIZE.false c.if-held.true ∙ c.loop-at.invariant

pub loop-at-preserved-then-k-eq-TABLE_ATOM : goal.loop-at-preserved-then-k-eq-TABLE_ATOM
loop-at-preserved-then-k-eq-TABLE_ATOM c = pass_atom _ _ _ c.args.table.now _ c.loop-at-test.true c.if-k-eq-TABLE_ATOM.true c.if-table-at-lt-TABLE_ATOM_SIZE.false c.if-held.false _ (rw slice_part at c.passes-held.ensures) ∙ c.loop-at.invariant

pub returns-then-k-eq-TABLE_RULE : goal.returns-then-k-eq-TABLE_RULE
returns-then-k-eq-TABLE_RULE c = pass_head _ _ _ c.args.table.now _ c.loop-at-test.true c.if-k-eq-TABLE_RULE.true ∙ c.loop-at.invariant ∙ pass_all _ _ c.args.table.now c.args.from

pub overflow_add-at-in-loop-at : goal.overflow_add-at-in-loop-at
overflow_add-at-in-loop-at c = let n = next_place notations.Table c.args.table.now _ _ c.loop-at-test.true c.part_length_at-at.ensures in record { fits = omega arith }

pub loop-at-smaller : goal.loop-at-smaller
loop-at-smaller c = let n = next_place notations.Table c.args.table.now _ _ c.loop-at-test.true c.part_length_at-at.ensures in omega arith

pub loop-at-preserved : goal.loop-at-preserved
loop-at-preserved c = pass_other _ _ _ c.args.table.now _ c.loop-at-test.true c.if-k-eq-TABLE_RULE.false c.if-k-eq-TABLE_CLAUSE.false c.if-k-eq-TABLE_ATOM.false _ c.part_length_at-at.ensures ∙ c.loop-at.invariant

pub returns : goal.returns
returns c = pass_end _ _ _ c.args.table.now _ c.loop-at-test.false ∙ c.loop-at.invariant ∙ pass_all _ _ c.args.table.now c.args.from
