use Rattle.std.proofs.Common.{refl, sym, ◌∙◌, ◌-◌, arith, rules}
use Rattle.model_reader.specs.Walk.{read_begin, read_unknown, read_cut, whole_part, front_length, front_took, whole_on, whole_refused, read_none, read_all}
use Rattle.model_reader.proofs.read_records.Goals as goal

pub loop-at-init : goal.loop-at-init
loop-at-init c = (read_begin _ _ c.requires.1, c.requires.0, refl)

pub returns-then-size-eq0 : goal.returns-then-size-eq0
returns-then-size-eq0 c = read_unknown _ _ _ _ _ _ c.loop-at-test.true refl c.record_size-size.ensures _ c.if-size-eq0.true c.in_model.ensures ∙ c.loop-at.invariant.0

pub returns-then-bytes-at : goal.returns-then-bytes-at
returns-then-bytes-at c = read_cut _ _ _ _ _ _ c.loop-at-test.true refl c.record_size-size.ensures _ c.if-size-eq0.false c.if-bytes-at.true c.in_model-then-bytes-at.ensures ∙ c.loop-at.invariant.0

pub slice_bounds-take_whole-end-in-loop-at : goal.slice_bounds-take_whole-end-in-loop-at
slice_bounds-take_whole-end-in-loop-at c = front_length c.loop-at.model c.loop-at.invariant.1

pub take_whole-cause-requires : goal.take_whole-cause-requires
take_whole-cause-requires c = record { whole_model = let n = front_length c.loop-at.model c.loop-at.invariant.1 in omega (arith, n); whole_part = whole_part _ _ _ _ c.loop-at.last c.loop-at.model c.loop-at-test.true refl c.record_size-size.ensures _ refl c.if-size-eq0.false c.if-bytes-at.false }

pub returns-then-not-is_none : goal.returns-then-not-is_none
returns-then-not-is_none c = whole_refused _ _ _ _ _ _ c.loop-at-test.true refl c.record_size-size.ensures _ refl c.if-size-eq0.false c.if-bytes-at.false _ _ (front_took c.loop-at.model c.loop-at.invariant.1 _ _ _ _ c.take_whole-cause.ensures) _ (sym c.is_none.ensures ∙ c.if-not-is_none.true) c.in_model-then-not-is_none.ensures ∙ c.loop-at.invariant.0

pub loop-at-preserved : goal.loop-at-preserved
loop-at-preserved c = (whole_on _ _ _ _ _ _ c.loop-at-test.true refl c.record_size-size.ensures _ refl c.if-size-eq0.false c.if-bytes-at.false _ _ (front_took c.loop-at.model c.loop-at.invariant.1 _ _ _ _ c.take_whole-cause.ensures) _ c.rank_of-last.ensures (sym c.is_none.ensures ∙ c.if-not-is_none.false) ∙ c.loop-at.invariant.0, search rules, search rules)

pub returns-then-last-eq0 : goal.returns-then-last-eq0
returns-then-last-eq0 c = read_none _ _ _ _ c.loop-at-test.false _ c.if-last-eq0.true c.in_model-then-last-eq0.ensures ∙ c.loop-at.invariant.0

pub returns : goal.returns
returns c = read_all _ _ _ _ c.loop-at-test.false _ c.if-last-eq0.false c.no_refusal.ensures ∙ c.loop-at.invariant.0
