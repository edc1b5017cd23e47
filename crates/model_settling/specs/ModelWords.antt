-- A model as the numbers of a list, all of them in order: the inverse of what a list of numbers stands for.
use Rattle.std.specs.Prelude.{List, [], ◌∷◌, ◌++◌, ℕ}
use Rattle.model_format.specs.declared.Thread.{Thread}
use Rattle.model_format.specs.declared.Owned.{Owned}
use Rattle.model_format.specs.declared.Connection.{Connection}
use Rattle.model_format.specs.declared.ModeTransition.{ModeTransition}
use Rattle.model_format.specs.declared.Transition.{Transition}
use Rattle.model_format.specs.declared.Atom.{Atom}
use Rattle.model_format.specs.declared.Assignment.{Assignment}
use Rattle.model_format.specs.declared.Model.{Model}
use Rattle.state_settling.specs.Words.{value_number}

-- ---- the numbers of an item, field by field
unfoldable pub thread_fields : Thread → List ℕ
thread_fields t = t.period.0 ∷ t.deadline.0 ∷ t.bcet.0 ∷ t.wcet.0 ∷ t.modes ∷ t.critical ∷ t.first ∷ []

unfoldable pub owned_fields : Owned → List ℕ
owned_fields v = v.owner ∷ value_number v.start ∷ []

unfoldable pub connection_fields : Connection → List ℕ
connection_fields c = c.kind ∷ c.source ∷ c.target ∷ c.modes ∷ []

unfoldable pub switch_fields : ModeTransition → List ℕ
switch_fields q = q.from ∷ q.to ∷ q.h1.0 ∷ q.h2.0 ∷ []

unfoldable pub transition_fields : Transition → List ℕ
transition_fields k = k.thread ∷ k.from ∷ k.to ∷ k.atoms ∷ k.assignments ∷ []

unfoldable pub atom_fields : Atom → List ℕ
atom_fields a = a.op ∷ a.tag ∷ a.number ∷ a.right.tag ∷ value_number a.right.value ∷ []

unfoldable pub assignment_fields : Assignment → List ℕ
assignment_fields a = a.tag ∷ a.number ∷ a.op ∷ a.first.tag ∷ value_number a.first.value ∷ a.second.tag ∷ value_number a.second.value ∷ []

-- the numbers of every item of a kind, one item after the other
unfoldable pub joined : {A : Type 0} → (A → List ℕ) → List A → List ℕ
joined f [] = []
joined f (a ∷ l) = f a ++ joined f l

-- ---- how many modes, the initial one, and how many items there are of each kind
unfoldable pub head_fields : Model → List ℕ
head_fields m =
    m.timing.modes ∷ m.timing.initial ∷ m.timing.threads ∷ m.timing.inputs ∷ m.timing.outputs ∷ m.timing.locals ∷ m.timing.connections ∷
    m.timing.switches ∷ m.behavior.transitions ∷ []

-- ---- the model: its head, then the items of each kind; of an output port, the thread that it belongs to
unfoldable pub words_of_model : Model → List ℕ
words_of_model m =
    head_fields m ++ joined thread_fields m.timing.thread ++ joined owned_fields m.timing.input ++ m.timing.output ++ joined owned_fields m.timing.local ++
    joined connection_fields m.timing.connection ++ joined switch_fields m.timing.switch ++ joined transition_fields m.behavior.transition ++
    joined atom_fields m.behavior.atom ++ joined assignment_fields m.behavior.assignment
