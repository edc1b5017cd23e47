-- The numbers by which atoms and assignments of a model name ports and locals: the table has room for them.
use Rattle.std.specs.Prelude.{◌≡◌, ℕ, ◌<◌}
use Rattle.numbers.specs.Values.{bits_of}
use Rattle.records.specs.declared.Operand.{Operand}
use Rattle.records.specs.Format.{constant_tag}
use Rattle.model_format.specs.declared.Atom.{Atom}
use Rattle.model_format.specs.declared.Assignment.{Assignment}
use Rattle.model_format.specs.declared.Behavior.{Behavior}
use Rattle.model_format.specs.Model.{assignment_at}
use Rattle.table_format.specs.Variables.{input_room}

-- input ports, output ports and locals have the same room
abbrev pub item_room : ℕ
item_room = input_room

-- a constant names nothing
pub record NamedOperand (o : Operand) : Type 0 where
  pub number : (o.tag ≡ constant_tag → ⊥) → bits_of o.value.0 < item_room

pub record NamedAtom (a : Atom) : Type 0 where
  pub number : a.number < item_room
  pub right : NamedOperand a.right

pub record NamedAssignment (a : Assignment) : Type 0 where
  pub number : a.number < item_room
  pub first : NamedOperand a.first
  pub second : NamedOperand a.second

-- the first n assignments of transition k
pub record NamedFirst (b : Behavior) (k n : ℕ) : Type 0 where
  pub assignment : (j : ℕ) → j < n → NamedAssignment (assignment_at b k j)
