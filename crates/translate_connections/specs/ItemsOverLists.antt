-- The same laws of what is written into a lent slice from a place on, for callers who prove over these and hold no writer.
use Rattle.std.specs.Prelude.{◌≡◌, Bool, true, false, cond, ◌&&◌, List, [], ◌∷◌, ℕ, ◌<◌, ◌≤◌, eqb}
use Rattle.std.proofs.Math.Path.{sym}
use Rattle.std.proofs.Common.{◌∙◌, arith, lt-ltb, le-ltb, eq-eqb, ne_eqb}
use Rattle.numbers.specs.ListLaws.{first_found, first_none}
use Rattle.model_format.specs.declared.Timing.{Timing}
use Rattle.model_format.specs.declared.Connection.{Connection}
use Rattle.model_format.specs.Model.{immediate, input_owner, connection_at}
use Rattle.model_format.specs.WellFormed.{GoodTiming}
use Rattle.table_format.specs.declared.Update.{Update}
use Rattle.table_format.specs.Variables.{input_room, output_room, flag_var, input_var, buffer_var, output_var, no_variable}
use Rattle.translation.specs.Parts.{variable, copied, update_when, update}
use Rattle.translation.specs.Rules.{take_buffer, immediate_into, dispatch_port, start_port, feeds_at_once, old_output, send_update}
use Rattle.table_writer.specs.Lists.{joins_updates, Counted}
use Rattle.table_writer.specs.WroteRules.{WroteUpdates}
use Rattle.translate_waits.specs.Named.{same_variable}
use Rattle.translate_waits.specs.NamedOverLists.{update_named, where_passed, where_failed}

-- ---- connection c; x is the one that the code has read
module _ (m : Timing) (c : ℕ) {x : Connection} (e : x ≡ connection_at m c) where
  pub feeds_is : (i : ℕ) → (eqb x.kind immediate && eqb x.target i) ≡ feeds_at_once m i c
  feeds_is i = rw e

  pub source_small : GoodTiming m → c < m.connections → x.source < output_room
  source_small g h = rw e (omega (arith, g.source c h, g.outputs))

  pub target_small : GoodTiming m → c < m.connections → x.target < input_room
  target_small g h = rw e (omega (arith, g.target c h, g.inputs))

  pub sent_over : {d g : List ℕ} {at p : ℕ} → WroteUpdates d at (send_update c x old_output ∷ []) g p → WroteUpdates d at (send_update c (connection_at m c) old_output ∷ []) g p
  sent_over w = rw e at w

pub sent_from : {d e : List ℕ} {at p flag buffer output : ℕ} (c : ℕ) (x : Connection) → flag ≡ flag_var c → buffer ≡ buffer_var x.target → output ≡ output_var x.source →
    WroteUpdates d at (update_when flag 1 buffer (copied (variable output)) ∷ []) e p → WroteUpdates d at (send_update c x old_output ∷ []) e p
sent_from c x q r s w = update_named _ _ _ q r (same_variable s) w

-- ---- input port i
module _ (m : Timing) (i : ℕ) where
  pub into_found : {c : ℕ} {b : Bool} → c < m.connections → b ≡ feeds_at_once m i c → b ≡ true → ((k : ℕ) → k < c → feeds_at_once m i k ≡ false) → c ≡ immediate_into m i
  unfolding immediate_into
  into_found h e b z = sym (first_found _ (feeds_at_once m i) _ h (sym e ∙ b) z)

  pub into_none : {c : ℕ} → m.connections ≤ c → ((k : ℕ) → k < c → feeds_at_once m i k ≡ false) → m.connections ≡ immediate_into m i
  unfolding immediate_into
  into_none h z = sym (first_none _ (feeds_at_once m i) (λ k l. z k (omega arith)))

  module _ (t : ℕ) (l : List Update) {d : List ℕ} {at owner : ℕ} (e : owner ≡ input_owner m i) where
    pub other_port : (owner ≡ t → ⊥) → Counted at → WroteUpdates d at (cond (eqb (input_owner m i) t) l []) d at
    other_port n h = where_failed joins_updates l (rw e at (ne_eqb owner t n)) h

    pub own_port : {g : List ℕ} {p : ℕ} → owner ≡ t → WroteUpdates d at l g p → WroteUpdates d at (cond (eqb (input_owner m i) t) l []) g p
    own_port q w = where_passed joins_updates l (rw e at (eq-eqb owner t q)) w

  module _ {d : List ℕ} {at c : ℕ} (e : c ≡ immediate_into m i) where
    pub dispatch_fed : {g : List ℕ} {p flag : ℕ} → c < m.connections → flag ≡ flag_var c →
        WroteUpdates d at (update_when flag 0 (input_var i) (take_buffer i) ∷ []) g p → WroteUpdates d at (dispatch_port m i) g p
    dispatch_fed h q w = let v = rw (q, e) at w in rw (rw e at (lt-ltb c m.connections h)) v

    pub dispatch_free : {g : List ℕ} {p : ℕ} → m.connections ≤ c → WroteUpdates d at (update_when no_variable 0 (input_var i) (take_buffer i) ∷ []) g p → WroteUpdates d at (dispatch_port m i) g p
    dispatch_free h w = rw (rw e at (le-ltb c m.connections h)) w

    pub start_fed : {g : List ℕ} {p flag : ℕ} → c < m.connections → flag ≡ flag_var c →
        WroteUpdates d at (update_when flag 1 (input_var i) (take_buffer i) ∷ []) g p → WroteUpdates d at (start_port m i) g p
    start_fed h q w = let v = rw (q, e) at w in rw (rw e at (lt-ltb c m.connections h)) v

    pub start_free : m.connections ≤ c → Counted at → WroteUpdates d at (start_port m i) d at
    start_free h n = where_failed joins_updates _ (rw e at (le-ltb c m.connections h)) n
