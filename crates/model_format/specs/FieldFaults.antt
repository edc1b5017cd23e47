-- "14, 15, then 4 stand in the old place of 4": which records get one of them, and which are accepted. The tests of fields are `names`,
-- `times` and `ranges`.
use Rattle.std.specs.Prelude.{◌≡◌, refl, Bool, true, false, ◌&&◌, ◌||◌, not}
use Rattle.records.specs.declared.Cause.{Cause}
use Rattle.records.specs.Refusals.{number_of, is_none, is_field_fault}
use Rattle.model_format.specs.declared.Faults.{Faults}
use Rattle.model_format.specs.declared.Reading.{Reading}
use Rattle.model_format.specs.declared.Record.{Record}
use Rattle.model_format.specs.declared.Record.TheVariants.{HeadRecord, ThreadRecord, InputRecord, OutputRecord, LocalRecord, ConnectionRecord, ModeRecord, TransitionRecord, AtomRecord, AssignmentRecord, Cut, Unknown}
use Rattle.model_format.specs.Model.{max_inputs, max_outputs, max_locals}
use Rattle.model_format.specs.Reading.{faults, head_faults, thread_faults, port_faults, connection_faults, switch_faults, transition_faults, atom_faults, assignment_faults, misplaced, open_transition, judged, cause_of}

-- ---- the parts of `cause_of`: the faults of a record. One that is cut or of no kind is out of place, whatever else it holds.
abbrev out_of_place : Faults
out_of_place = faults true false false false false false false false

abbrev pub faults_of : Reading → Record → Faults
faults_of a (HeadRecord x) = head_faults (misplaced a (HeadRecord x)) x
faults_of a (ThreadRecord x) = thread_faults (misplaced a (ThreadRecord x)) a.model.timing x
faults_of a (InputRecord x) = port_faults (misplaced a (InputRecord x)) a.model.timing.inputs max_inputs a.model.timing x.owner
faults_of a (OutputRecord o) = port_faults (misplaced a (OutputRecord o)) a.model.timing.outputs max_outputs a.model.timing o
faults_of a (LocalRecord x) = port_faults (misplaced a (LocalRecord x)) a.model.timing.locals max_locals a.model.timing x.owner
faults_of a (ConnectionRecord x) = connection_faults (misplaced a (ConnectionRecord x)) a.model.timing x
faults_of a (ModeRecord x) = switch_faults (misplaced a (ModeRecord x)) a.model.timing x
faults_of a (TransitionRecord x) = transition_faults (misplaced a (TransitionRecord x)) a.model x
faults_of a (AtomRecord x) = atom_faults (misplaced a (AtomRecord x)) a.model.timing (open_transition a).thread (open_transition a).atoms x
faults_of a (AssignmentRecord x) = assignment_faults (misplaced a (AssignmentRecord x)) a.model (open_transition a).thread (open_transition a).assignments x
faults_of a Cut = out_of_place
faults_of a Unknown = out_of_place

-- a test of a field fails; one of those before the fields; one of those after them
abbrev pub field_fails : Faults → Bool
field_fails f = f.names || (f.times || f.ranges)

abbrev pub fails_before : Faults → Bool
fails_before f = f.order || f.excess

abbrev pub fails_after : Faults → Bool
fails_after f = f.owner || (f.twice || f.hyperperiod)

-- what the cause c of the faults f tells
abbrev Told : Faults → Cause → Type 0
Told f c = (is_field_fault c ≡ (not (fails_before f) && field_fails f)) × (is_none c ≡ not (fails_before f || (field_fails f || fails_after f)))

judged_told : (f : Faults) → Told f (judged f)
unfolding judged is_field_fault number_of
judged_told f = go f.order f.excess f.names f.times f.ranges f.owner f.twice f.hyperperiod
  where
    go : (o e n t r p q h : Bool) → Told (faults o e n t r p q h) (judged (faults o e n t r p q h))
    go true e n t r p q h = (refl, refl)
    go false true n t r p q h = (refl, refl)
    go false false true t r p q h = (refl, refl)
    go false false false true r p q h = (refl, refl)
    go false false false false true p q h = (refl, refl)
    go false false false false false true q h = (refl, refl)
    go false false false false false false true h = (refl, refl)
    go false false false false false false false true = (refl, refl)
    go false false false false false false false false = (refl, refl)

told : (a : Reading) (r : Record) → Told (faults_of a r) (cause_of a r)
unfolding cause_of is_field_fault number_of
told a (HeadRecord x) = judged_told (faults_of a (HeadRecord x))
told a (ThreadRecord x) = judged_told (faults_of a (ThreadRecord x))
told a (InputRecord x) = judged_told (faults_of a (InputRecord x))
told a (OutputRecord o) = judged_told (faults_of a (OutputRecord o))
told a (LocalRecord x) = judged_told (faults_of a (LocalRecord x))
told a (ConnectionRecord x) = judged_told (faults_of a (ConnectionRecord x))
told a (ModeRecord x) = judged_told (faults_of a (ModeRecord x))
told a (TransitionRecord x) = judged_told (faults_of a (TransitionRecord x))
told a (AtomRecord x) = judged_told (faults_of a (AtomRecord x))
told a (AssignmentRecord x) = judged_told (faults_of a (AssignmentRecord x))
told a Cut = (refl, refl)
told a Unknown = (refl, refl)

-- one of 14, 15 and 4 exactly where a test of a field fails, after kind and count
pub field_fault : (a : Reading) (r : Record) → is_field_fault (cause_of a r) ≡ (not (fails_before (faults_of a r)) && field_fails (faults_of a r))
field_fault a r = (told a r).0

-- accepted exactly where no test fails: the finer numbers refuse what was refused before them, and nothing else
pub fault_free : (a : Reading) (r : Record) → is_none (cause_of a r) ≡ not (fails_before (faults_of a r) || (field_fails (faults_of a r) || fails_after (faults_of a r)))
fault_free a r = (told a r).1
