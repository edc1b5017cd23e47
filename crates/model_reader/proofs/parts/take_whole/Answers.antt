use Rattle.std.proofs.Common.{refl, ◌∙◌, ap, List, ℕ, arith, get_or}
use Rattle.records.specs.Format as records
use Rattle.model_format.specs.declared.Record.TheVariants as variants
use Rattle.model_format.specs.Format as format
use Rattle.model_takes.specs.Taken.{took_as}
use Rattle.model_reader.specs.Ranks.{sized, size_none, cut_length, cut_whole}
use Rattle.model_reader.proofs.parts.take_whole.Goals as goal

pub slice_bounds-head_of-end : goal.slice_bounds-head_of-end
unfolding records.record_size
slice_bounds-head_of-end c = cut_length c.args.part.now c.args.kind _ c.requires.whole_part.0 (sized c.args.kind _ 3 c.in-1.is refl)

pub slice_bounds-thread_of-end : goal.slice_bounds-thread_of-end
unfolding records.record_size
slice_bounds-thread_of-end c = cut_length c.args.part.now c.args.kind _ c.requires.whole_part.0 (sized c.args.kind _ 20 c.in-2.is refl)

pub slice_bounds-input_of-end : goal.slice_bounds-input_of-end
unfolding records.record_size
slice_bounds-input_of-end c = cut_length c.args.part.now c.args.kind _ c.requires.whole_part.0 (sized c.args.kind _ 2 c.in-3.is refl)

pub slice_bounds-owned_of-end : goal.slice_bounds-owned_of-end
unfolding records.record_size
slice_bounds-owned_of-end c = cut_length c.args.part.now c.args.kind _ c.requires.whole_part.0 (sized c.args.kind _ 6 c.in-11.is refl)

pub slice_bounds-item_or-end : goal.slice_bounds-item_or-end
unfolding records.record_size
slice_bounds-item_or-end c = cut_length c.args.part.now c.args.kind _ c.requires.whole_part.0 (sized c.args.kind _ 2 c.in-4.is refl)

pub slice_bounds-owned_of-end-in-5 : goal.slice_bounds-owned_of-end-in-5
unfolding records.record_size
slice_bounds-owned_of-end-in-5 c = cut_length c.args.part.now c.args.kind _ c.requires.whole_part.0 (sized c.args.kind _ 6 c.in-5.is refl)

pub slice_bounds-connection_of-end : goal.slice_bounds-connection_of-end
unfolding records.record_size
slice_bounds-connection_of-end c = cut_length c.args.part.now c.args.kind _ c.requires.whole_part.0 (sized c.args.kind _ 5 c.in-6.is refl)

pub slice_bounds-switch_of-end : goal.slice_bounds-switch_of-end
unfolding records.record_size
slice_bounds-switch_of-end c = cut_length c.args.part.now c.args.kind _ c.requires.whole_part.0 (sized c.args.kind _ 3 c.in-7.is refl)

pub slice_bounds-transition_of-end : goal.slice_bounds-transition_of-end
unfolding records.record_size
slice_bounds-transition_of-end c = cut_length c.args.part.now c.args.kind _ c.requires.whole_part.0 (sized c.args.kind _ 4 c.in-8.is refl)

pub slice_bounds-atom_of-end : goal.slice_bounds-atom_of-end
unfolding records.record_size
slice_bounds-atom_of-end c = cut_length c.args.part.now c.args.kind _ c.requires.whole_part.0 (sized c.args.kind _ 9 c.in-9.is refl)

pub slice_bounds-assignment_of-end : goal.slice_bounds-assignment_of-end
unfolding records.record_size
slice_bounds-assignment_of-end c = cut_length c.args.part.now c.args.kind _ c.requires.whole_part.0 (sized c.args.kind _ 14 c.in-10.is refl)

pub returns-in-1 : goal.returns-in-1
unfolding records.record_size
returns-in-1 c = took_as _ _ _ _ _ _ c.take.ensures (rw c.in-1.is (ap variants.HeadRecord (c.head_of.ensures ∙ ap format.head_of (cut_whole c.args.part.now c.args.kind _ c.requires.whole_part.0 (sized c.args.kind _ 3 c.in-1.is refl)))))

pub returns-in-2 : goal.returns-in-2
unfolding records.record_size
returns-in-2 c = took_as _ _ _ _ _ _ c.take-in-2.ensures (rw c.in-2.is (ap variants.ThreadRecord (c.thread_of.ensures ∙ ap format.thread_of (cut_whole c.args.part.now c.args.kind _ c.requires.whole_part.0 (sized c.args.kind _ 20 c.in-2.is refl)))))

pub returns-in-3 : goal.returns-in-3
unfolding records.record_size
returns-in-3 c = took_as _ _ _ _ _ _ c.take-in-3.ensures (rw c.in-3.is (ap variants.InputRecord (c.input_of.ensures ∙ ap format.input_of (cut_whole c.args.part.now c.args.kind _ c.requires.whole_part.0 (sized c.args.kind _ 2 c.in-3.is refl)))))

pub returns-in-11 : goal.returns-in-11
unfolding records.record_size
returns-in-11 c = took_as _ _ _ _ _ _ c.take-in-11.ensures (rw c.in-11.is (ap variants.InputRecord (c.owned_of.ensures ∙ ap format.owned_of (cut_whole c.args.part.now c.args.kind _ c.requires.whole_part.0 (sized c.args.kind _ 6 c.in-11.is refl)))))

pub returns-in-4 : goal.returns-in-4
unfolding records.record_size
returns-in-4 c = took_as _ _ _ _ _ _ c.take-in-4.ensures (rw c.in-4.is (ap variants.OutputRecord (c.item_or.ensures ∙ ap (λ (y : List ℕ). get_or y 1 0) (cut_whole c.args.part.now c.args.kind _ c.requires.whole_part.0 (sized c.args.kind _ 2 c.in-4.is refl)))))

pub returns-in-5 : goal.returns-in-5
unfolding records.record_size
returns-in-5 c = took_as _ _ _ _ _ _ c.take-in-5.ensures (rw c.in-5.is (ap variants.LocalRecord (c.owned_of-in-5.ensures ∙ ap format.owned_of (cut_whole c.args.part.now c.args.kind _ c.requires.whole_part.0 (sized c.args.kind _ 6 c.in-5.is refl)))))

pub returns-in-6 : goal.returns-in-6
unfolding records.record_size
returns-in-6 c = took_as _ _ _ _ _ _ c.take-in-6.ensures (rw c.in-6.is (ap variants.ConnectionRecord (c.connection_of.ensures ∙ ap format.connection_of (cut_whole c.args.part.now c.args.kind _ c.requires.whole_part.0 (sized c.args.kind _ 5 c.in-6.is refl)))))

pub returns-in-7 : goal.returns-in-7
unfolding records.record_size
returns-in-7 c = took_as _ _ _ _ _ _ c.take_switch.ensures (rw c.in-7.is (ap variants.ModeRecord (c.switch_of.ensures ∙ ap format.switch_of (cut_whole c.args.part.now c.args.kind _ c.requires.whole_part.0 (sized c.args.kind _ 3 c.in-7.is refl)))))

pub returns-in-8 : goal.returns-in-8
unfolding records.record_size
returns-in-8 c = took_as _ _ _ _ _ _ c.take-in-8.ensures (rw c.in-8.is (ap variants.TransitionRecord (c.transition_of.ensures ∙ ap format.transition_of (cut_whole c.args.part.now c.args.kind _ c.requires.whole_part.0 (sized c.args.kind _ 4 c.in-8.is refl)))))

pub returns-in-9 : goal.returns-in-9
unfolding records.record_size
returns-in-9 c = took_as _ _ _ _ _ _ c.take-in-9.ensures (rw c.in-9.is (ap variants.AtomRecord (c.atom_of.ensures ∙ ap format.atom_of (cut_whole c.args.part.now c.args.kind _ c.requires.whole_part.0 (sized c.args.kind _ 9 c.in-9.is refl)))))

pub returns-in-10 : goal.returns-in-10
unfolding records.record_size
returns-in-10 c = took_as _ _ _ _ _ _ c.take-in-10.ensures (rw c.in-10.is (ap variants.AssignmentRecord (c.assignment_of.ensures ∙ ap format.assignment_of (cut_whole c.args.part.now c.args.kind _ c.requires.whole_part.0 (sized c.args.kind _ 14 c.in-10.is refl)))))

pub returns-in_default : goal.returns-in_default
returns-in_default c = let r = c.in_default.in_default-own.rest in absurd (omega (arith, c.requires.whole_part, size_none c.args.kind r.0.0.0.0.0.0.0.0.0.0.1 r.0.0.0.0.0.0.0.0.0.1 r.0.0.0.0.0.0.0.0.1 r.0.0.0.0.0.0.0.1 r.0.0.0.0.0.0.1 r.0.0.0.0.0.1 r.0.0.0.0.1 r.0.0.0.1 r.0.0.1 r.0.1 r.1))
