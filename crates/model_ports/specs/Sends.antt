-- Outputs that connections copy to buffers: what the walk over connections has at hand, and its laws.
use Rattle.std.specs.Prelude.{◌≡◌, Bool, cond, ◌&&◌, ℕ, ◌+◌, ◌≤◌, min, eqb}
use Rattle.std.proofs.Math.Path.{refl, ap}
use Rattle.std.proofs.Common.{◌∙◌, le-ltb}
use Rattle.std.proofs.Math.Bool.{true, false, not}
use mathlib.Core.List.{List}
use Rattle.numbers.specs.declared.Value.{Value}
use Rattle.numbers.specs.Lists.{store, fold_below}
use Rattle.numbers.specs.ListLaws.{fold_next}
use Rattle.model_format.specs.declared.Connection.{Connection}
use Rattle.model_format.specs.declared.Timing.{Timing}
use Rattle.model_format.specs.Model.{max_inputs, max_connections, connection_at, output_owner}
use Rattle.model_semantics.specs.declared.State.{State}
use Rattle.model_semantics.specs.State.{is_live, output_value, with_ports}
use Rattle.model_semantics.specs.Effects.{carries, send}
use Rattle.model_state.specs.Parts.{with_buffer, put_buffer}
use Rattle.model_tests.specs.Rooms.{fold_end}

-- connection c, which is x, is a live one of a kind from thread t
unfoldable pub carries_by : Timing → State → Connection → ℕ → ℕ → ℕ → Bool
carries_by m s x c kind t = eqb x.kind kind && (eqb (output_owner m x.source) t && is_live s c)

module _ (m : Timing) (s : State) (x : Connection) (c kind t : ℕ) (live : Bool) (e : live ≡ is_live s c) where
  pub carries_off : not (eqb x.kind kind && live) ≡ true → false ≡ carries_by m s x c kind t
  unfolding carries_by
  carries_off h = rw (← e) (go (eqb x.kind kind) (eqb (output_owner m x.source) t) live h)
    where
      go : (a b l : Bool) → not (a && l) ≡ true → false ≡ (a && (b && l))
      go true b true z = cc
      go true true false z = refl
      go true false false z = refl
      go false b l z = refl

  pub carries_on : (i o u : ℕ) → not (eqb x.kind kind && live) ≡ false → i ≡ x.source → o ≡ output_owner m i → u ≡ o → eqb u t ≡ carries_by m s x c kind t
  unfolding carries_by
  carries_on i o u h f g k = rw (k, g, f, ← e) (go (eqb x.kind kind) (eqb (output_owner m x.source) t) live h)
    where
      go : (a b l : Bool) → not (a && l) ≡ false → b ≡ (a && (b && l))
      go true true true z = refl
      go true false true z = refl
      go true b false z = cc
      go false b l z = cc

unfoldable pub send_one : State → Connection → Bool → State
send_one s x goes = cond goes (put_buffer s x.target (output_value s.ports x.source)) s

module _ (s q : State) (x : Connection) (goes : Bool) where
  pub send_goes : (i o : ℕ) (v : Value) → goes ≡ true → o ≡ x.source → v ≡ output_value s.ports o → i ≡ x.target → q ≡ put_buffer s i v → q ≡ send_one s x goes
  unfolding send_one
  send_goes i o v h e f g k = k ∙ rw (h, f, e, g)

pub send_stays : (s : State) (x : Connection) (goes : Bool) → goes ≡ false → s ≡ send_one s x goes
unfolding send_one
send_stays s x goes h = rw h

abbrev pub sending : Timing → State → ℕ → ℕ → ℕ → List Value → List Value
sending m s kind t c l = cond (carries m s kind t c) (store max_inputs l (connection_at m c).target (output_value s.ports (connection_at m c).source)) l

-- the state when the first n connections have been looked at
unfoldable pub sent_below : Timing → State → ℕ → ℕ → ℕ → State
sent_below m s kind t n = with_buffer s (fold_below n (sending m s kind t) s.ports.buffer)

module _ (m : Timing) (s : State) (kind t : ℕ) where
  pub sent_none : s ≡ sent_below m s kind t 0
  unfolding sent_below fold_below with_buffer with_ports
  sent_none = refl

  sent_more : (c : ℕ) → send_one (sent_below m s kind t c) (connection_at m c) (carries m s kind t c) ≡ sent_below m s kind t (c + 1)
  unfolding send_one sent_below output_value put_buffer with_buffer with_ports
  sent_more c =
      rw (fold_next c (sending m s kind t) s.ports.buffer) (go (carries m s kind t c) (connection_at m c) (fold_below c (sending m s kind t) s.ports.buffer))
    where
      go : (b : Bool) (x : Connection) (l : List Value) →
          send_one (with_buffer s l) x b ≡ with_buffer s (cond b (store max_inputs l x.target (output_value s.ports x.source)) l)
      go true x l = refl
      go false x l = refl

  module _ (n : ℕ) (e : n ≡ min m.connections max_connections) (c : ℕ) (q : State) (f : q ≡ sent_below m s kind t c) where
    carries_is : (x : Connection) (goes : Bool) → x ≡ connection_at m c → goes ≡ carries_by m q x c kind t → goes ≡ carries m s kind t c
    unfolding carries_by carries sent_below is_live with_buffer with_ports
    carries_is x goes g h = h ∙ rw (g, f)

    pub sent_next : (x : Connection) (goes : Bool) (r : State) → x ≡ connection_at m c → goes ≡ carries_by m q x c kind t → r ≡ send_one q x goes → r ≡ sent_below m s kind t (c + 1)
    sent_next x goes r g h k = k ∙ rw (carries_is x goes g h, f, g) (sent_more c)

    pub sent_all : c ≤ n → n ≤ c → q ≡ with_ports s (send m s kind t s.ports)
    unfolding sent_below send carries is_live with_buffer
    sent_all l k =
        f ∙ ap (with_buffer s) (fold_end m.connections max_connections n c (sending m s kind t) s.ports.buffer e l k (λ j x b. rw (le-ltb j max_connections b, off _ _)))
      where
        off : (a b : Bool) → (a && (b && false)) ≡ false
        off true true = refl
        off true false = refl
        off false b = refl
