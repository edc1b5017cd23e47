use Rattle.std.proofs.Common.{rules}
use Rattle.model_words.specs.Words.{model_in}
use Rattle.table_writer.specs.WritesLaws.{writes_lent}
use Rattle.translator.specs.Tables.{table_wrote}
use Rattle.translator.proofs.put_table.Goals as goal

pub put_rules-requires : goal.put_rules-requires
put_rules-requires c = c.requires

pub returns : goal.returns
returns c =
    let w = table_wrote (model_in c.args.words.now) c.put_initial_values.ensures c.put_rules.ensures in
    let l = w.lender in
    writes_lent _ c.new-out.ensures.held c.new-out.ensures.place w (search rules)
