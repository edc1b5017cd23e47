-- What is written of one connection and of one input port. Arguments that stand left in an equation are what the code has computed.
use Rattle.std.specs.Prelude.{◌≡◌, refl, Bool, true, false, cond, ◌&&◌, List, [], ◌∷◌, ℕ, ◌<◌, ◌≤◌, eqb, Option, Some, None}
use Rattle.std.proofs.lemmas.Option.{cond_some}
use Rattle.std.proofs.lemmas.Bool.{ltb-true, ltb-false}
use Rattle.std.proofs.Math.Path.{sym}
use Rattle.std.proofs.Common.{◌∙◌, arith, lt-ltb, le-ltb, eq-eqb, ne_eqb}
use Rattle.numbers.specs.ListLaws.{first_found, first_none}
use Rattle.model_format.specs.declared.Timing.{Timing}
use Rattle.model_format.specs.declared.Connection.{Connection}
use Rattle.model_format.specs.Model.{immediate, input_owner, connection_at}
use Rattle.model_format.specs.WellFormed.{GoodTiming}
use Rattle.table_format.specs.declared.Update.{Update}
use Rattle.table_format.specs.Variables.{input_room, output_room, flag_var, input_var, buffer_var, output_var, no_variable}
use Rattle.translation.specs.Parts.{variable, copied, update_when, update}
use Rattle.translation.specs.Rules.{take_buffer, is_immediate_port, immediate_into, dispatch_port, start_port, feeds_at_once, old_output, send_update}
use Rattle.table_writer.specs.Lists.{joins_updates}
use Rattle.table_writer.specs.Writes.{WritesUpdates}
use Rattle.table_writer.specs.declared.encoding.Writer.{Writer}
use Rattle.translate_waits.specs.Named.{same_variable, update_named, where_passed, where_failed}

-- n is how many the code has counted
pub few_inputs : {m : Timing} (g : GoodTiming m) {n i : ℕ} → n ≡ m.inputs → i < n → i < input_room
few_inputs g e h = omega (arith, g.inputs, e, h)

-- ---- connection c; x is the one that the code has read
module _ (m : Timing) (c : ℕ) {x : Connection} (e : x ≡ connection_at m c) where
  pub feeds_is : (i : ℕ) → (eqb x.kind immediate && eqb x.target i) ≡ feeds_at_once m i c
  feeds_is i = rw e

  pub source_small : GoodTiming m → c < m.connections → x.source < output_room
  source_small g h = rw e (omega (arith, g.source c h, g.outputs))

  pub target_small : GoodTiming m → c < m.connections → x.target < input_room
  target_small g h = rw e (omega (arith, g.target c h, g.inputs))

  pub sent_over : {u v : Writer} → WritesUpdates u (send_update c x old_output ∷ []) v → WritesUpdates u (send_update c (connection_at m c) old_output ∷ []) v
  sent_over w = rw e at w

pub sent_from : {u v : Writer} {flag buffer output : ℕ} (c : ℕ) (x : Connection) → flag ≡ flag_var c → buffer ≡ buffer_var x.target → output ≡ output_var x.source →
    WritesUpdates u (update_when flag 1 buffer (copied (variable output)) ∷ []) v → WritesUpdates u (send_update c x old_output ∷ []) v
sent_from c x q r s w = update_named _ _ _ q r (same_variable s) w

-- ---- input port i
-- what looking for the immediate connection into it finds
abbrev pub connection_into : Timing → ℕ → Option ℕ
connection_into m i = cond (is_immediate_port m i) (Some (immediate_into m i)) None

module _ (m : Timing) (i : ℕ) where
  pub into_found : {c : ℕ} {b : Bool} → c < m.connections → b ≡ feeds_at_once m i c → b ≡ true → ((k : ℕ) → k < c → feeds_at_once m i k ≡ false) → c ≡ immediate_into m i
  unfolding immediate_into
  into_found h e b z = sym (first_found _ (feeds_at_once m i) _ h (sym e ∙ b) z)

  pub into_none : {c : ℕ} → m.connections ≤ c → ((k : ℕ) → k < c → feeds_at_once m i k ≡ false) → m.connections ≡ immediate_into m i
  unfolding immediate_into
  into_none h z = sym (first_none _ (feeds_at_once m i) (λ k l. z k (omega arith)))

  pub found_into : {c : ℕ} → c < m.connections → c ≡ immediate_into m i → Some c ≡ connection_into m i
  found_into h e = rw (← e, lt-ltb _ m.connections h)

  pub none_into : m.connections ≡ immediate_into m i → None ≡ connection_into m i
  none_into e = rw (le-ltb (immediate_into m i) m.connections (omega arith))

  -- one that is found is that one, and among the model's
  pub into_small : {c : ℕ} → Some c ≡ connection_into m i → c < m.connections
  into_small e = let h = cond_some (is_immediate_port m i) _ _ (sym e) in rw h.1 at (ltb-true _ _ h.0)

  pub into_is : {c : ℕ} → Some c ≡ connection_into m i → c ≡ immediate_into m i
  into_is e = sym (cond_some (is_immediate_port m i) _ _ (sym e)).1

  pub into_nothing : {r : Option ℕ} → r ≡ connection_into m i → ((c : ℕ) → r ≡ Some c → ⊥) → m.connections ≤ immediate_into m i
  into_nothing e n = go (is_immediate_port m i) refl
    where
      go : (b : Bool) → is_immediate_port m i ≡ b → m.connections ≤ immediate_into m i
      go true h = absurd (n (immediate_into m i) (e ∙ rw h))
      go false h = ltb-false _ _ h

  module _ (t : ℕ) (l : List Update) {u : Writer} {owner : ℕ} (e : owner ≡ input_owner m i) where
    pub other_port : (owner ≡ t → ⊥) → WritesUpdates u (cond (eqb (input_owner m i) t) l []) u
    other_port n = where_failed joins_updates l (rw e at (ne_eqb owner t n))

    pub own_port : {v : Writer} → owner ≡ t → WritesUpdates u l v → WritesUpdates u (cond (eqb (input_owner m i) t) l []) v
    own_port q w = where_passed joins_updates l (rw e at (eq-eqb owner t q)) w

  module _ {u v : Writer} {c : ℕ} (e : c ≡ immediate_into m i) where
    pub dispatch_fed : {flag : ℕ} → c < m.connections → flag ≡ flag_var c →
        WritesUpdates u (update_when flag 0 (input_var i) (take_buffer i) ∷ []) v → WritesUpdates u (dispatch_port m i) v
    dispatch_fed h q w = let x = rw (q, e) at w in rw (rw e at (lt-ltb c m.connections h)) x

    pub dispatch_free : m.connections ≤ c → WritesUpdates u (update_when no_variable 0 (input_var i) (take_buffer i) ∷ []) v → WritesUpdates u (dispatch_port m i) v
    dispatch_free h w = rw (rw e at (le-ltb c m.connections h)) w

    pub start_fed : {flag : ℕ} → c < m.connections → flag ≡ flag_var c →
        WritesUpdates u (update_when flag 1 (input_var i) (take_buffer i) ∷ []) v → WritesUpdates u (start_port m i) v
    start_fed h q w = let x = rw (q, e) at w in rw (rw e at (lt-ltb c m.connections h)) x

  pub start_free : {u : Writer} {c : ℕ} → c ≡ immediate_into m i → m.connections ≤ c → WritesUpdates u (start_port m i) u
  start_free {u} {c} e h = where_failed joins_updates _ (rw e at (le-ltb c m.connections h))
