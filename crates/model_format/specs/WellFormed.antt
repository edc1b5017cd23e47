-- What an accepted model has: facts that reading establishes, for proofs about models.
use Rattle.std.specs.Prelude.{◌≡◌, true, List, ℕ, ◌<◌, ◌≤◌, get_or}
use Rattle.std.specs.Int.{w32}
use Rattle.std.proofs.Common.{SFits}
use Rattle.numbers.specs.Values.{bits_of}
use Rattle.records.specs.declared.Operand.{Operand}
use Rattle.records.specs.Events.{last_clock}
use Rattle.model_format.specs.declared.Thread.{Thread}
use Rattle.model_format.specs.declared.Atom.{Atom}
use Rattle.model_format.specs.declared.Assignment.{Assignment}
use Rattle.model_format.specs.declared.Timing.{Timing}
use Rattle.model_format.specs.declared.Behavior.{Behavior}
use Rattle.model_format.specs.declared.Model.{Model}
use Rattle.model_format.specs.Model.{max_threads, max_inputs, max_outputs, max_locals, max_connections, max_switches, max_transitions, max_each, thread_at, input_at, input_owner, output_owner, local_at, connection_at, switch_at, transition_at, atom_at, assignment_at}
use Rattle.model_format.specs.Reading.{longest_time, names_item, left_tag, target_tag, operand_tag}

-- a list of bytes
abbrev pub Bytes : List ℕ → Type 0
Bytes s = (i : ℕ) → get_or s i 0 < 256

pub record GoodThread (x : Thread) : Type 0 where
  pub deadline : 1 ≤ x.deadline.0
  pub period : x.deadline.0 ≤ x.period.0
  pub longest : x.period.0 ≤ longest_time
  pub bcet : 1 ≤ x.bcet.0
  pub wcet : x.bcet.0 ≤ x.wcet.0
  pub longest_run : x.wcet.0 ≤ longest_time
  pub first : x.first < 8

-- an operand's constant has 32 bits, and its number names an item
pub record GoodOperand (m : Timing) (o : Operand) : Type 0 where
  pub fits : SFits w32 o.value.0
  pub tag : operand_tag o ≡ true
  pub names : names_item m o.tag (bits_of o.value.0) ≡ true

pub record GoodAtom (m : Timing) (a : Atom) : Type 0 where
  pub op : a.op < 6
  pub tag : left_tag a ≡ true
  pub names : names_item m a.tag a.number ≡ true
  pub right : GoodOperand m a.right

pub record GoodAssignment (m : Timing) (a : Assignment) : Type 0 where
  pub op : a.op < 3
  pub tag : target_tag a ≡ true
  pub names : names_item m a.tag a.number ≡ true
  pub first : GoodOperand m a.first
  pub second : GoodOperand m a.second

pub record GoodTiming (m : Timing) : Type 0 where
  pub initial : m.initial < m.modes
  pub modes : m.modes ≤ 8
  pub threads : m.threads ≤ max_threads
  pub inputs : m.inputs ≤ max_inputs
  pub outputs : m.outputs ≤ max_outputs
  pub locals : m.locals ≤ max_locals
  pub connections : m.connections ≤ max_connections
  pub switches : m.switches ≤ max_switches
  pub thread : (t : ℕ) → t < m.threads → GoodThread (thread_at m t)
  pub input : (i : ℕ) → i < m.inputs → input_owner m i < m.threads
  pub start : (i : ℕ) → i < m.inputs → SFits w32 (input_at m i).start.0
  pub output : (o : ℕ) → o < m.outputs → output_owner m o < m.threads
  pub local : (v : ℕ) → v < m.locals → SFits w32 (local_at m v).start.0
  pub source : (c : ℕ) → c < m.connections → (connection_at m c).source < m.outputs
  pub target : (c : ℕ) → c < m.connections → (connection_at m c).target < m.inputs
  pub kind : (c : ℕ) → c < m.connections → (connection_at m c).kind < 2
  -- no input port is connected twice
  pub single : (c e : ℕ) → c < e → e < m.connections → (connection_at m c).target ≡ (connection_at m e).target → ⊥
  pub from : (q : ℕ) → q < m.switches → (switch_at m q).from < m.modes
  pub to : (q : ℕ) → q < m.switches → (switch_at m q).to < m.modes
  pub h1 : (q : ℕ) → q < m.switches → (1 ≤ (switch_at m q).h1.0) × ((switch_at m q).h1.0 ≤ last_clock)
  pub h2 : (q : ℕ) → q < m.switches → (1 ≤ (switch_at m q).h2.0) × ((switch_at m q).h2.0 ≤ last_clock)

pub record GoodBehavior (m : Timing) (b : Behavior) : Type 0 where
  pub transitions : b.transitions ≤ max_transitions
  pub thread : (k : ℕ) → k < b.transitions → (transition_at b k).thread < m.threads
  pub from : (k : ℕ) → k < b.transitions → (transition_at b k).from < 8
  pub to : (k : ℕ) → k < b.transitions → (transition_at b k).to < 8
  pub atoms : (k : ℕ) → k < b.transitions → (transition_at b k).atoms ≤ max_each
  pub assignments : (k : ℕ) → k < b.transitions → (transition_at b k).assignments ≤ max_each
  pub atom : (k j : ℕ) → k < b.transitions → j < (transition_at b k).atoms → GoodAtom m (atom_at b k j)
  pub assignment : (k j : ℕ) → k < b.transitions → j < (transition_at b k).assignments → GoodAssignment m (assignment_at b k j)
  -- no target is assigned twice in a transition
  pub single : (k i j : ℕ) → k < b.transitions → i < j → j < (transition_at b k).assignments →
      ((assignment_at b k i).tag ≡ (assignment_at b k j).tag) × ((assignment_at b k i).number ≡ (assignment_at b k j).number) → ⊥

pub record WellFormed (m : Model) : Type 0 where
  pub timing : GoodTiming m.timing
  pub behavior : GoodBehavior m.timing m.behavior
