-- What holds of a model while it is read: of the items so far, and of the last record's kind.
use Rattle.std.specs.Prelude.{◌≡◌, refl, ℕ, ◌<◌, ◌≤◌}
use Rattle.std.proofs.Common.{arith, SFits}
use Rattle.std.specs.Int.{w32}
use Rattle.std.proofs.lemmas.List.{length-replicate}
use Rattle.records.specs.Events.{last_clock}
use Rattle.model_format.specs.declared.Owned.{Owned}
use Rattle.model_format.specs.declared.Connection.{Connection}
use Rattle.model_format.specs.declared.ModeTransition.{ModeTransition}
use Rattle.model_format.specs.declared.Transition.{Transition}
use Rattle.model_format.specs.declared.Atom.{Atom}
use Rattle.model_format.specs.declared.Assignment.{Assignment}
use Rattle.model_format.specs.declared.Timing.{Timing}
use Rattle.model_format.specs.declared.Behavior.{Behavior}
use Rattle.model_format.specs.declared.Reading.{Reading}
use Rattle.model_format.specs.Model.{max_threads, max_inputs, max_outputs, max_locals, max_connections, max_switches, max_transitions, max_each, max_times, no_thread, no_owned, no_connection, no_switch, no_transition, no_atom, no_assignment, thread_at, input_at, output_owner, local_at, connection_at, switch_at, transition_at, atom_at, assignment_at, empty_model}
use Rattle.model_format.specs.Reading.{begin}
use Rattle.model_format.specs.WellFormed.{GoodThread, GoodAtom, GoodAssignment, GoodTiming, GoodBehavior, WellFormed}
use Rattle.model_format.specs.Arrays.{Filled, filled_none, Rows, rows_none}

-- ---- items
pub record GoodInput (threads : ℕ) (x : Owned) : Type 0 where
  pub owner : x.owner < threads
  pub start : SFits w32 x.start.0

pub record GoodConnection (inputs outputs : ℕ) (x : Connection) : Type 0 where
  pub source : x.source < outputs
  pub target : x.target < inputs
  pub kind : x.kind < 2

pub record GoodSwitch (modes : ℕ) (x : ModeTransition) : Type 0 where
  pub from : x.from < modes
  pub to : x.to < modes
  pub h1 : (1 ≤ x.h1.0) × (x.h1.0 ≤ last_clock)
  pub h2 : (1 ≤ x.h2.0) × (x.h2.0 ≤ last_clock)

pub record GoodTransition (threads : ℕ) (x : Transition) : Type 0 where
  pub thread : x.thread < threads
  pub from : x.from < 8
  pub to : x.to < 8
  pub atoms : x.atoms ≤ max_each
  pub assignments : x.assignments ≤ max_each

-- two assignments to one target
abbrev pub SameTarget : Assignment → Assignment → Type 0
SameTarget a b = (a.tag ≡ b.tag) × (a.number ≡ b.number)

abbrev pub Never : Atom → Atom → Type 0
Never a b = ⊥

-- ---- the model so far
pub record SoundTiming (m : Timing) : Type 0 where
  pub thread : Filled max_threads no_thread GoodThread m.threads m.thread
  pub input : Filled max_inputs no_owned (GoodInput m.threads) m.inputs m.input
  pub output : Filled max_outputs 0 (λ o. o < m.threads) m.outputs m.output
  pub local : Filled max_locals no_owned (λ x. SFits w32 x.start.0) m.locals m.local
  pub connection : Filled max_connections no_connection (GoodConnection m.inputs m.outputs) m.connections m.connection
  pub single : (c e : ℕ) → c < e → e < m.connections → (connection_at m c).target ≡ (connection_at m e).target → ⊥
  pub switch : Filled max_switches no_switch (GoodSwitch m.modes) m.switches m.switch

pub record SoundBehavior (m : Timing) (b : Behavior) : Type 0 where
  pub transition : Filled max_transitions no_transition (GoodTransition m.threads) b.transitions b.transition
  pub atom : Rows no_atom (GoodAtom m) Never b.transitions (λ k. (transition_at b k).atoms) b.atom
  pub assignment : Rows no_assignment (GoodAssignment m) SameTarget b.transitions (λ k. (transition_at b k).assignments) b.assignment

pub record SoundHead (m : Timing) : Type 0 where
  pub initial : m.initial < m.modes
  pub modes : m.modes ≤ 8

-- Before the head there is no mode transition, before kind 08 no transition, and from there on at least one.
pub record Sound (a : Reading) : Type 0 where
  pub head : 0 < a.last → SoundHead a.model.timing
  pub fresh : a.last ≡ 0 → a.model.timing.switches ≡ 0
  pub early : a.last < 8 → a.model.behavior.transitions ≡ 0
  pub late : 8 ≤ a.last → 0 < a.model.behavior.transitions
  pub timing : SoundTiming a.model.timing
  pub behavior : SoundBehavior a.model.timing a.model.behavior

-- ---- at the start
pub sound_begin : Sound begin
unfolding empty_model
sound_begin = record {
  head = λ h. absurd (omega arith);
  fresh = λ e. refl;
  early = λ h. refl;
  late = λ h. absurd (omega arith);
  timing = record {
    thread = filled_none max_threads no_thread GoodThread;
    input = filled_none max_inputs no_owned (GoodInput 0);
    output = filled_none max_outputs 0 (λ o. o < 0);
    local = filled_none max_locals no_owned (λ x. SFits w32 x.start.0);
    connection = filled_none max_connections no_connection (GoodConnection 0 0);
    single = λ c e h k. absurd (omega arith);
    switch = filled_none max_switches no_switch (GoodSwitch 0);
  };
  behavior = record {
    transition = filled_none max_transitions no_transition (GoodTransition 0);
    atom = rows_none no_atom (GoodAtom _) Never 0 _ _ (length-replicate max_times no_atom) refl;
    assignment = rows_none no_assignment (GoodAssignment _) SameTarget 0 _ _ (length-replicate max_times no_assignment) refl;
  };
}

-- ---- at the end
good_timing : (m : Timing) → SoundHead m → SoundTiming m → GoodTiming m
unfolding thread_at input_at output_owner local_at connection_at switch_at
good_timing m h s = record {
  initial = h.initial;
  modes = h.modes;
  threads = s.thread.within;
  inputs = s.input.within;
  outputs = s.output.within;
  locals = s.local.within;
  connections = s.connection.within;
  switches = s.switch.within;
  thread = s.thread.each;
  input = λ i k. (s.input.each i k).owner;
  start = λ i k. (s.input.each i k).start;
  output = s.output.each;
  local = s.local.each;
  source = λ c k. (s.connection.each c k).source;
  target = λ c k. (s.connection.each c k).target;
  kind = λ c k. (s.connection.each c k).kind;
  single = s.single;
  from = λ q k. (s.switch.each q k).from;
  to = λ q k. (s.switch.each q k).to;
  h1 = λ q k. (s.switch.each q k).h1;
  h2 = λ q k. (s.switch.each q k).h2;
}

good_behavior : (m : Timing) (b : Behavior) → SoundBehavior m b → GoodBehavior m b
unfolding transition_at atom_at assignment_at
good_behavior m b s = record {
  transitions = s.transition.within;
  thread = λ k h. (s.transition.each k h).thread;
  from = λ k h. (s.transition.each k h).from;
  to = λ k h. (s.transition.each k h).to;
  atoms = λ k h. (s.transition.each k h).atoms;
  assignments = λ k h. (s.transition.each k h).assignments;
  atom = s.atom.each;
  assignment = s.assignment.each;
  single = s.assignment.apart;
}

pub well_formed : (a : Reading) → Sound a → 0 < a.last → WellFormed a.model
well_formed a s h = record { timing = good_timing a.model.timing (s.head h) s.timing; behavior = good_behavior a.model.timing a.model.behavior s.behavior }
