-- The same laws of what is written into a lent slice from a place on, for callers who prove over these and hold no writer.
use Rattle.std.specs.Prelude.{◌≡◌, Bool, true, false, ◌&&◌, List, [], ◌∷◌, ℕ, ◌+◌, ◌<◌, ◌≤◌, eqb}
use Rattle.std.proofs.Math.Path.{sym}
use Rattle.std.proofs.Common.{◌∙◌, arith, eq-eqb, ne_eqb}
use Rattle.numbers.specs.Lists.{join_below}
use Rattle.numbers.specs.ListLaws.{fold_zero, fold_next}
use Rattle.records.specs.declared.Operand.{Operand}
use Rattle.model_format.specs.declared.Assignment.{Assignment}
use Rattle.model_format.specs.declared.Connection.{Connection}
use Rattle.model_format.specs.declared.Timing.{Timing}
use Rattle.model_format.specs.declared.Behavior.{Behavior}
use Rattle.model_format.specs.Model.{assignment_at, connection_at, output_tag, immediate, is_kind, source_thread}
use Rattle.model_format.specs.WellFormed.{GoodTiming}
use Rattle.table_format.specs.declared.Update.{Update}
use Rattle.table_format.specs.Variables.{flag_var, buffer_var, output_var, input_room, output_room}
use Rattle.translation.specs.Parts.{constant, variable, Expression, update_when, update}
use Rattle.translation.specs.Rules.{variable_of, operand_of, assigned_expression, assignment_updates, sent_expression, send_updates, assignment_update, old_output, sent_after, send_update, where_sent}
use Rattle.table_writer.specs.Lists.{Counted, joins_updates, wrote_none, loop_ends}
use Rattle.table_writer.specs.WroteRules.{WroteUpdates}
use Rattle.translate_complete.specs.declared.updates.Expression as held
use Rattle.translate_complete.specs.Assigned.{expression_of, assignment_of, is_sent}

module _ (a : Assignment) (f s : Operand) (h : f ≡ operand_of a.first) where
  pub assigned_copy : a.op ≡ 0 → s ≡ constant 0 → expression_of (record { op = 0; first = f; second = s }) ≡ assigned_expression a
  unfolding assigned_expression
  assigned_copy z e = rw (eq-eqb _ _ z, h, e)

  pub assigned_both : (a.op ≡ 0 → ⊥) → s ≡ operand_of a.second → expression_of (record { op = a.op; first = f; second = s }) ≡ assigned_expression a
  unfolding assigned_expression
  assigned_both z e = rw (ne_eqb _ _ z, h, e)

pub assignment_written : {d e : List ℕ} {at p : ℕ} (a : Assignment) (target : ℕ) (x : Expression) → target ≡ variable_of a.tag a.number → x ≡ assigned_expression a →
    WroteUpdates d at (update target x ∷ []) e p → WroteUpdates d at (assignment_update a) e p
assignment_written a target x h g w = rw (← h, ← g) w

pub assignment_one : {d e : List ℕ} {at p : ℕ} (b : Behavior) (k j : ℕ) (a : Assignment) → a ≡ assignment_at b k j → WroteUpdates d at (assignment_update a) e p → WroteUpdates d at (assignment_of b k j) e p
assignment_one b k j a h w = rw (← h) w

pub assignments_end : {d e : List ℕ} {at p : ℕ} (b : Behavior) (k n j : ℕ) → j ≤ n → n ≤ j → WroteUpdates d at (join_below j (assignment_of b k)) e p → WroteUpdates d at (assignment_updates b k n) e p
unfolding assignment_updates
assignments_end b k n j h l w = loop_ends joins_updates (assignment_of b k) n j h l w

-- ---- what an output port holds after the assignments
module _ (a : Assignment) (o : ℕ) (x : Expression) where
  pub sent_new : (y : Expression) → (eqb a.tag output_tag && eqb a.number o) ≡ true → y ≡ assigned_expression a → y ≡ sent_after a o x
  sent_new y t h = rw t h

  pub sent_old : (eqb a.tag output_tag && eqb a.number o) ≡ false → x ≡ sent_after a o x
  sent_old t = rw t

module _ (b : Behavior) (k o : ℕ) where
  pub sent_none : (x : Expression) → x ≡ old_output o → x ≡ sent_expression b k 0 o
  unfolding sent_expression
  sent_none x h = h ∙ sym (fold_zero _ _)

  pub sent_next : (j : ℕ) (a : Assignment) (x y : Expression) → a ≡ assignment_at b k j → x ≡ sent_expression b k j o → y ≡ sent_after a o x → y ≡ sent_expression b k (j + 1) o
  unfolding sent_expression
  sent_next j a x y g h e = e ∙ rw (g, h, fold_next j (λ i z. sent_after (assignment_at b k i) o z) (old_output o))

  pub sent_all : (n j : ℕ) (x : Expression) → j ≤ n → n ≤ j → x ≡ sent_expression b k j o → x ≡ sent_expression b k n o
  sent_all n j x h l e = let q : n ≡ j = omega arith in rw q e

module _ (m : Timing) (g : GoodTiming m) (c : ℕ) (h : c < m.connections) (x : Connection) (e : x ≡ connection_at m c) where
  pub source_small : x.source < output_room
  source_small = rw e (omega (arith, g.source c h, g.outputs))

  pub target_small : x.target < input_room
  target_small = rw e (omega (arith, g.target c h, g.inputs))

-- f is its Flag, v the buffer that it fills, z what it sends
pub send_written : {d e : List ℕ} {at p : ℕ} (m : Timing) (c : ℕ) (from : ℕ → Expression) (x : Connection) (f v : ℕ) (z : Expression) → x ≡ connection_at m c → f ≡ flag_var c →
    v ≡ buffer_var x.target → z ≡ from x.source → WroteUpdates d at (update_when f 1 v z ∷ []) e p → WroteUpdates d at (send_update c (connection_at m c) from ∷ []) e p
send_written m c from x f v z xe fe ve ze k = rw (← xe) (rw (fe, ve, ze) at k)

-- r says whether it is sent
module _ (m : Timing) (t c : ℕ) (from : ℕ → Expression) (r : Bool) (k : r ≡ is_sent m t c) where
  pub sent_over : {d e : List ℕ} {at p : ℕ} → r ≡ true → WroteUpdates d at (send_update c (connection_at m c) from ∷ []) e p → WroteUpdates d at (where_sent m immediate t from c) e p
  sent_over s w = rw (← k, s) w

  pub sent_not : {d : List ℕ} {at : ℕ} → r ≡ false → Counted at → WroteUpdates d at (where_sent m immediate t from c) d at
  sent_not s h = rw (← k, s) (wrote_none joins_updates h)

pub sends_end : {d e : List ℕ} {at p : ℕ} (m : Timing) (t : ℕ) (from : ℕ → Expression) (c n : ℕ) → n ≡ m.connections → c ≤ n → n ≤ c →
    WroteUpdates d at (join_below c (where_sent m immediate t from)) e p → WroteUpdates d at (send_updates m immediate t from) e p
sends_end m t from c n q h l w = loop_ends joins_updates (where_sent m immediate t from) m.connections c (rw (← q) h) (rw (← q) l) w
