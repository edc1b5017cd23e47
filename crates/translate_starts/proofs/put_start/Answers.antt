use Rattle.std.proofs.Common.{sym, ◌∙◌, refl, rules}
use Rattle.std.proofs.lemmas.Bool.{not-true, not-false}
use Rattle.numbers.specs.Values.{natural}
use Rattle.numbers.specs.ValueLaws.{same_by_eq}
use Rattle.translate_starts.specs.Starts.{start_left, start_wrote}
use Rattle.translate_starts.proofs.put_start.Goals as goal

pub returns-then-ne : goal.returns-then-ne
returns-then-ne c =
    let e = same_by_eq c.args.value (natural 0) (search rules) (search rules) in
    start_wrote _ _ _ refl (sym e ∙ not-true _ (sym c.ne.ensures ∙ c.if-ne.true)) c.initial.ensures

pub returns-else-ne : goal.returns-else-ne
returns-else-ne c =
    let e = same_by_eq c.args.value (natural 0) (search rules) (search rules) in
    start_left c.args.variable c.args.value _ refl (sym e ∙ not-false _ (sym c.ne.ensures ∙ c.if-ne.false))
