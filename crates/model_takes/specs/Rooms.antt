-- What a record without a cause leaves room for: one item more of its kind, and hyperperiods that 32 bits hold.
use Rattle.std.specs.Prelude.{◌≡◌, true, List, ℕ, ◌<◌, ◌≤◌}
use Rattle.std.proofs.Common.{leb-false, ltb-false}
use Rattle.numbers.specs.declared.Duration.{Duration}
use Rattle.numbers.specs.Values.{duration}
use Rattle.records.specs.declared.Cause.{Cause}
use Rattle.records.specs.Refusals.{is_none}
use Rattle.records.specs.Events.{last_clock}
use Rattle.model_format.specs.declared.Thread.{Thread}
use Rattle.model_format.specs.declared.Owned.{Owned}
use Rattle.model_format.specs.declared.Connection.{Connection}
use Rattle.model_format.specs.declared.ModeTransition.{ModeTransition}
use Rattle.model_format.specs.declared.Transition.{Transition}
use Rattle.model_format.specs.declared.Atom.{Atom}
use Rattle.model_format.specs.declared.Assignment.{Assignment}
use Rattle.model_format.specs.declared.Record.{Record}
use Rattle.model_format.specs.declared.Record.TheVariants.{ThreadRecord, InputRecord, OutputRecord, LocalRecord, ConnectionRecord, ModeRecord, TransitionRecord, AtomRecord, AssignmentRecord}
use Rattle.model_format.specs.Model.{max_threads, max_inputs, max_outputs, max_locals, max_connections, max_switches, max_transitions, max_each, transition_at, h1_of, h2_of}
use Rattle.model_format.specs.Faultless.{faultless, both_false}
use Rattle.model_format.specs.Reading.{last_transition, cause_of}
use Rattle.model_faults.specs.declared.Found.{Found}
use Rattle.model_faults.specs.Causes.{found_in}
use Rattle.model_words.specs.Words.{timing_in, behavior_in}
use Rattle.model_causes.specs.Readings.{reading_in}

module _ (last : ℕ) (l : List ℕ) (r : Record) (c : Cause) (e : c ≡ cause_of (reading_in last l) r) (h : is_none c ≡ true) where
  passed : is_none (cause_of (reading_in last l) r) ≡ true
  passed = rw (← e) h

  pub thread_room_lem : (x : Thread) → r ≡ ThreadRecord x → (timing_in l).threads < max_threads
  unfolding cause_of
  thread_room_lem x d = leb-false _ _ (faultless _ (rw d at passed)).excess

  pub input_room_lem : (x : Owned) → r ≡ InputRecord x → (timing_in l).inputs < max_inputs
  unfolding cause_of
  input_room_lem x d = leb-false _ _ (faultless _ (rw d at passed)).excess

  pub output_room_lem : (x : ℕ) → r ≡ OutputRecord x → (timing_in l).outputs < max_outputs
  unfolding cause_of
  output_room_lem x d = leb-false _ _ (faultless _ (rw d at passed)).excess

  pub local_room_lem : (x : Owned) → r ≡ LocalRecord x → (timing_in l).locals < max_locals
  unfolding cause_of
  local_room_lem x d = leb-false _ _ (faultless _ (rw d at passed)).excess

  pub connection_room_lem : (x : Connection) → r ≡ ConnectionRecord x → (timing_in l).connections < max_connections
  unfolding cause_of
  connection_room_lem x d = leb-false _ _ (faultless _ (rw d at passed)).excess

  pub switch_room : (x : ModeTransition) → r ≡ ModeRecord x → (timing_in l).switches < max_switches
  unfolding cause_of
  switch_room x d = leb-false _ _ (faultless _ (rw d at passed)).excess

  pub transition_room : (x : Transition) → r ≡ TransitionRecord x → (behavior_in l).transitions < max_transitions
  unfolding cause_of
  transition_room x d = leb-false _ _ (faultless _ (rw d at passed)).excess

  pub atom_room : (x : Atom) → r ≡ AtomRecord x → (transition_at (behavior_in l) (last_transition (behavior_in l))).atoms < max_each
  unfolding cause_of
  atom_room x d = leb-false _ _ (faultless _ (rw d at passed)).excess

  pub assignment_room : (x : Assignment) → r ≡ AssignmentRecord x → (transition_at (behavior_in l) (last_transition (behavior_in l))).assignments < max_each
  unfolding cause_of
  assignment_room x d = leb-false _ _ (faultless _ (rw d at passed)).excess

  -- and hyperperiods that 32 bits hold
  module _ (x : ModeTransition) (d : r ≡ ModeRecord x) (f : Found) (g : f ≡ found_in (timing_in l) r) where
    pub found_periods : (f.h1 ≡ h1_of (timing_in l) x.from) × (f.h2 ≡ h2_of (timing_in l) x.from x.to)
    unfolding found_in
    found_periods = (rw (g, d), rw (g, d))

    pub short_periods : (f.h1 ≤ last_clock) × (f.h2 ≤ last_clock)
    unfolding cause_of
    short_periods =
        let p = both_false _ _ (faultless _ (rw d at passed)).hyperperiod in
        (rw found_periods.0 (ltb-false _ _ p.0), rw found_periods.1 (ltb-false _ _ p.1))

    pub switch_periods : (a b : Duration) → a ≡ duration f.h1 → b ≡ duration f.h2 → (a.0 ≡ h1_of (timing_in l) x.from) × (b.0 ≡ h2_of (timing_in l) x.from x.to)
    switch_periods a b i j = (rw i found_periods.0, rw j found_periods.1)
