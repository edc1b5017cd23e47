-- Ports: the buffers that connections fill, and the inputs that take their buffers.
use Rattle.std.specs.Prelude.{◌≡◌, Bool, ◌&&◌, not, List, [], ◌∷◌, ℕ, ◌<◌, ◌≤◌, ltb}
use Rattle.std.proofs.Math.Path.{refl}
use Rattle.std.proofs.Common.{sym, ◌∙◌, arith}
use Rattle.std.proofs.Math.Bool.{true, false, cond, and_assoc}
use Rattle.std.proofs.Math.Decide.{ℕ_discrete, dec_lt}
use Rattle.std.proofs.Math.Dec.{eqb}
use borrow.Author.Tests.{ne_eqb, eqb-true, lt-ltb, le-ltb, ltb-true}
use Rattle.numbers.specs.declared.Value.{Value}
use Rattle.numbers.specs.Lists.{any_below, first_below}
use Rattle.numbers.specs.ListLaws.{any_some, any_none}
use Rattle.model_format.specs.declared.Timing.{Timing}
use Rattle.model_format.specs.Model.{max_connections, input_owner, connection_at, immediate, is_kind, source_thread, max_inputs, max_outputs}
use Rattle.model_format.specs.WellFormed.{GoodTiming}
use Rattle.model_semantics.specs.declared.Ports.{Ports}
use Rattle.model_semantics.specs.declared.State.{State}
use Rattle.model_semantics.specs.State.{is_live, buffer_value, output_value}
use Rattle.model_semantics.specs.Effects.{is_fed_immediately, is_port, freeze, carries, send}
use Rattle.table_format.specs.declared.Update.{Update}
use Rattle.table_format.specs.Variables.{no_variable, flag_var, input_var, buffer_var, output_var, input_room}
use Rattle.table_semantics.specs.Rules.{value_of, applies, new_value}
use Rattle.translation.specs.Parts.{Expression, update_when, update}
use Rattle.translation.specs.Rules.{immediate_into, is_immediate_port, take_buffer, per_input, dispatch_port, start_port, send_updates, old_output, where_sent}
use Rattle.simulation.specs.Guards.{bit_zero, bit_one}
use Rattle.simulation.specs.Writes.{updated, updated_only, worth, variable_worth, Single, one, single_cond, Apart, Within, apart_join, within_join, shifted, column_filled, first_passes, first_before}
use Rattle.simulation.specs.Effects.{LiveShown, ValuesShown, and_right}

-- ---- conditions on Flag
module _ (m : Timing) (s : State) (v : List Value) (live : LiveShown m s.live v) (c : ℕ) (l : c < max_connections) (target : ℕ) (x : Expression) where
  pub applies_live : applies v (update_when (flag_var c) 1 target x) ≡ is_live s c
  unfolding applies is_live
  applies_live = rw (ne_eqb (flag_var c) no_variable (λ e. omega arith), live.shows c l) (bit_one (is_live s c))

  pub applies_not_live : applies v (update_when (flag_var c) 0 target x) ≡ not (is_live s c)
  unfolding applies is_live
  applies_not_live = rw (ne_eqb (flag_var c) no_variable (λ e. omega arith), live.shows c l) (bit_zero (is_live s c))

-- ---- buffers
module _ (m : Timing) (g : GoodTiming m) (kind t : ℕ) (from : ℕ → Expression) where
  abbrev send_one : ℕ → List Update
  send_one = where_sent m kind t from

  send_single : (c : ℕ) → c < m.connections → Single (buffer_var (connection_at m c).target) (send_one c)
  send_single c l = single_cond (is_kind m kind c && eqb (source_thread m c) t) (one _ refl)

  pub send_within : Within (buffer_var 0) (buffer_var input_room) (send_updates m kind t from)
  send_within = within_join (λ c. buffer_var (connection_at m c).target) send_one (buffer_var 0) (buffer_var input_room) m.connections send_single
      (λ c l. let a : (connection_at m c).target < m.inputs = g.target c l in let b : m.inputs ≤ max_inputs = g.inputs in (omega arith, omega arith))

  pub send_apart : Apart (send_updates m kind t from)
  send_apart = apart_join (λ c. buffer_var (connection_at m c).target) send_one m.connections send_single (λ c e l b q. g.single c e l b (omega arith))

  module _ (n : ℕ) (s : State) (p : Ports) (v w : List Value) (live : LiveShown m s.live v)
      (new : (o : ℕ) → o < m.outputs → worth n v (from o) ≡ output_value p o) where
    send_same : (c : ℕ) → c < m.connections → (i : ℕ) → i < max_inputs → (x : Value) →
        updated n v (send_one c) (buffer_var i) x ≡ cond (carries m s kind t c && eqb i (connection_at m c).target) (output_value p (connection_at m c).source) x
    unfolding carries
    send_same c l i b x =
        let few : m.connections ≤ max_connections = g.connections in
        updated_only n v (is_kind m kind c && eqb (source_thread m c) t) _ (buffer_var i) x ∙
        rw (applies_live m s v live c (omega arith), shifted (buffer_var 0) i (connection_at m c).target, new (connection_at m c).source (g.source c l))
        (go (is_kind m kind c) (eqb (source_thread m c) t) (is_live s c) (eqb i (connection_at m c).target) (output_value p (connection_at m c).source))
      where
        go : (a b e z : Bool) (y : Value) → cond ((a && b) && (e && z)) y x ≡ cond ((a && (b && e)) && z) y x
        go true true e z y = refl
        go true false e z y = refl
        go false b e z y = refl

    pub send_shown : ValuesShown (buffer_var 0) max_inputs m.inputs p.buffer v →
        ((i : ℕ) → i < max_inputs → value_of w (buffer_var i) ≡ updated n v (send_updates m kind t from) (buffer_var i) (value_of v (buffer_var i))) →
        ValuesShown (buffer_var 0) max_inputs m.inputs (send m s kind t p).buffer w
    unfolding send
    send_shown h e =
        column_filled n v w m.connections send_one _ (carries m s kind t) (λ c. (connection_at m c).target) (λ c. output_value p (connection_at m c).source)
        (λ c l x. refl) (λ c l q. g.target c l) send_same h e

-- an output port as it was
pub old_output_lem : (m : Timing) → GoodTiming m → (n : ℕ) (p : Ports) (v : List Value) → ValuesShown (output_var 0) max_outputs m.outputs p.output v →
    (o : ℕ) → o < m.outputs → worth n v (old_output o) ≡ output_value p o
unfolding output_value
old_output_lem m g n p v h o l = let few : m.outputs ≤ max_outputs = g.outputs in variable_worth n v (output_var o) ∙ h.shows o (omega arith)

-- ---- the one immediate connection into an input port
module _ (m : Timing) (g : GoodTiming m) (s : State) (i : ℕ) where
  abbrev into : ℕ → Bool
  into c = is_kind m immediate c && eqb (connection_at m c).target i

  abbrev live_into : ℕ → Bool
  live_into c = is_kind m immediate c && (eqb (connection_at m c).target i && is_live s c)

  not_into : (c : ℕ) → into c ≡ false → live_into c ≡ false
  not_into c e = sym (and_assoc (is_kind m immediate c) (eqb (connection_at m c).target i) (is_live s c)) ∙ rw e

  is_into : (c : ℕ) → into c ≡ true → live_into c ≡ is_live s c
  is_into c e = sym (and_assoc (is_kind m immediate c) (eqb (connection_at m c).target i) (is_live s c)) ∙ rw e

  target_into : (c : ℕ) → into c ≡ true → (connection_at m c).target ≡ i
  target_into c e = eqb-true (connection_at m c).target i (and_right (is_kind m immediate c) _ e)

  -- two of them would have one target
  other_into : (c e : ℕ) → c < m.connections → e < m.connections → into c ≡ true → (e ≡ c → ⊥) → into e ≡ false
  other_into c e l k p n = go (into e) refl
    where
      apart : into e ≡ true → Dec (c < e) → ⊥
      apart q (yes b) = g.single c e b k (target_into c p ∙ sym (target_into e q))
      apart q (no b) = g.single e c (omega arith) l (target_into e q ∙ sym (target_into c p))

      go : (b : Bool) → into e ≡ b → b ≡ false
      go true q = absurd (apart q (dec_lt c e))
      go false q = refl

  abbrev the_one : ℕ
  the_one = first_below m.connections into

  pub fed_live : is_fed_immediately m s i ≡ cond (is_immediate_port m i) (is_live s (immediate_into m i)) false
  unfolding is_fed_immediately immediate_into
  fed_live = go (dec_lt the_one m.connections)
    where
      live : (b : Bool) → is_live s the_one ≡ b → the_one < m.connections → any_below m.connections live_into ≡ b
      live true e l = any_some m.connections live_into the_one l (is_into the_one (first_passes m.connections into l) ∙ e)
      live false e l = any_none m.connections live_into (λ c k. at c k (ℕ_discrete c the_one))
        where
          at : (c : ℕ) → c < m.connections → Dec (c ≡ the_one) → live_into c ≡ false
          at c k (yes q) = rw q (is_into the_one (first_passes m.connections into l) ∙ e)
          at c k (no q) = not_into c (other_into the_one c l k (first_passes m.connections into l) q)

      go : Dec (the_one < m.connections) → any_below m.connections live_into ≡ cond (ltb the_one m.connections) (is_live s the_one) false
      go (yes l) = rw (lt-ltb the_one m.connections l) (live (is_live s the_one) refl l)
      go (no l) = rw (le-ltb the_one m.connections (omega arith)) (any_none m.connections live_into (λ c k. not_into c (first_before m.connections into c (omega arith))))

-- ---- inputs: the updates that a rule has for each port, and the ports that take their buffers
-- what the updates of port c make of input i: its buffer, where it is c and the test holds
abbrev pub Takes : ℕ → List Value → Ports → Bool → List Update → ℕ → Type 0
Takes n v p b us c = (i : ℕ) → i < max_inputs → (x : Value) → updated n v us (input_var i) x ≡ cond (b && eqb i c) (buffer_value p c) x

module _ (m : Timing) (g : GoodTiming m) (n : ℕ) (s : State) (v : List Value) (live : LiveShown m s.live v) (buffers : ValuesShown (buffer_var 0) max_inputs m.inputs s.ports.buffer v)
    (c : ℕ) (l : c < m.inputs) where
  buffer_taken : worth n v (take_buffer c) ≡ buffer_value s.ports c
  unfolding buffer_value
  buffer_taken = let few : m.inputs ≤ max_inputs = g.inputs in variable_worth n v (buffer_var c) ∙ buffers.shows c (omega arith)

  -- an update of input c that applies where b
  one_takes : (u : Update) (b : Bool) → u.target ≡ input_var c → applies v u ≡ b → new_value n v u ≡ buffer_value s.ports c → Takes n v s.ports b (u ∷ []) c
  unfolding updated
  one_takes u b t a e i h x = rw (a, e, t, shifted (input_var 0) i c)

  pub dispatch_takes : Takes n v s.ports (not (is_fed_immediately m s c)) (dispatch_port m c) c
  dispatch_takes = rw (fed_live m g s c) (go (is_immediate_port m c) refl)
    where
      go : (b : Bool) → is_immediate_port m c ≡ b → Takes n v s.ports (not (cond b (is_live s (immediate_into m c)) false))
          (cond b (update_when (flag_var (immediate_into m c)) 0 (input_var c) (take_buffer c)) (update (input_var c) (take_buffer c)) ∷ []) c
      go true e =
          let few : m.connections ≤ max_connections = g.connections in
          let k = ltb-true (immediate_into m c) m.connections e in
          one_takes _ _ refl (applies_not_live m s v live (immediate_into m c) (omega arith) (input_var c) (take_buffer c)) buffer_taken
      go false e = one_takes (update (input_var c) (take_buffer c)) true refl (unfold applies in refl) buffer_taken

  pub start_takes : Takes n v s.ports (is_fed_immediately m s c) (start_port m c) c
  unfolding updated
  start_takes = rw (fed_live m g s c) (go (is_immediate_port m c) refl)
    where
      go : (b : Bool) → is_immediate_port m c ≡ b → Takes n v s.ports (cond b (is_live s (immediate_into m c)) false)
          (cond b (update_when (flag_var (immediate_into m c)) 1 (input_var c) (take_buffer c) ∷ []) []) c
      go true e =
          let few : m.connections ≤ max_connections = g.connections in
          let k = ltb-true (immediate_into m c) m.connections e in
          one_takes _ _ refl (applies_live m s v live (immediate_into m c) (omega arith) (input_var c) (take_buffer c)) buffer_taken
      go false e = λ i h x. refl

module _ (m : Timing) (g : GoodTiming m) (t : ℕ) (port : ℕ → List Update) (single : (i : ℕ) → Single (input_var i) (port i)) where
  abbrev port_one : ℕ → List Update
  port_one i = cond (eqb (input_owner m i) t) (port i) []

  port_single : (i : ℕ) → i < m.inputs → Single (input_var i) (port_one i)
  port_single i l = single_cond (eqb (input_owner m i) t) (single i)

  pub inputs_within : Within (input_var 0) (input_var input_room) (per_input m t port)
  inputs_within = within_join input_var port_one (input_var 0) (input_var input_room) m.inputs port_single (λ i l. let few : m.inputs ≤ max_inputs = g.inputs in (omega arith, omega arith))

  pub inputs_apart : Apart (per_input m t port)
  inputs_apart = apart_join input_var port_one m.inputs port_single (λ i e l b q. omega arith)

  pub freeze_shown : (n : ℕ) (s : State) (fed : Bool) (v w : List Value) →
      ((c : ℕ) → c < m.inputs → Takes n v s.ports (cond fed (is_fed_immediately m s c) (not (is_fed_immediately m s c))) (port c) c) →
      ValuesShown (input_var 0) max_inputs m.inputs s.ports.input v →
      ((i : ℕ) → i < max_inputs → value_of w (input_var i) ≡ updated n v (per_input m t port) (input_var i) (value_of v (input_var i))) →
      ValuesShown (input_var 0) max_inputs m.inputs (freeze m s fed t).input w
  unfolding freeze is_port updated
  freeze_shown n s fed v w takes h e =
      column_filled n v w m.inputs port_one _ (is_port m s fed t) (λ c. c) (buffer_value s.ports) (λ c l x. refl) (λ c l q. l)
      (λ c l i b x. go c i x (eqb (input_owner m c) t) (cond fed (is_fed_immediately m s c) (not (is_fed_immediately m s c))) (takes c l i b x)) h e
    where
      go : (c i : ℕ) (x : Value) (a b : Bool) → updated n v (port c) (input_var i) x ≡ cond (b && eqb i c) (buffer_value s.ports c) x →
          updated n v (cond a (port c) []) (input_var i) x ≡ cond ((a && b) && eqb i c) (buffer_value s.ports c) x
      go c i x true b r = r
      go c i x false b r = refl

pub dispatch_single : (m : Timing) (i : ℕ) → Single (input_var i) (dispatch_port m i)
dispatch_single m i = go (is_immediate_port m i)
  where
    go : (b : Bool) → Single (input_var i) (cond b (update_when (flag_var (immediate_into m i)) 0 (input_var i) (take_buffer i)) (update (input_var i) (take_buffer i)) ∷ [])
    go true = one _ refl
    go false = one _ refl

pub start_single : (m : Timing) (i : ℕ) → Single (input_var i) (start_port m i)
start_single m i = single_cond (is_immediate_port m i) (one _ refl)
