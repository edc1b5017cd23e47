use Rattle.std.proofs.Common.{sym, ◌∙◌, arith}
use Rattle.table_index.specs.IndexLaws.{head_at}
use Rattle.table_index.specs.Listed.{listed_no_head, listed_no_key, listed_by_guard}
use Rattle.table_index.proofs.is_listed.Goals as goal

pub returns-then-not-is_head : goal.returns-then-not-is_head
returns-then-not-is_head c = listed_no_head c.args.table.now c.args.word c.args.guard _ c.is_head.ensures c.if-not-is_head.true

pub key_at-k-requires : goal.key_at-k-requires
key_at-k-requires c = head_at c.args.table.now _ (sym c.is_head.ensures ∙ c.if-not-is_head.false)

pub returns-then-k-word : goal.returns-then-k-word
returns-then-k-word c = listed_no_key c.args.table.now c.args.word c.args.guard _ c.is_head.ensures c.if-not-is_head.false _ c.key_at-k.ensures c.if-k-word.true

pub overflow_add-at : goal.overflow_add-at
overflow_add-at c = let h = (head_at c.args.table.now _ (sym c.is_head.ensures ∙ c.if-not-is_head.false)).within in record { fits = omega arith }

pub returns : goal.returns
returns c = listed_by_guard c.args.table.now c.args.word c.args.guard _ c.is_head.ensures c.if-not-is_head.false _ c.key_at-k.ensures c.if-k-word.false _ c.guard_of.ensures
