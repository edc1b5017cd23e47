-- Input ports that take their buffers: what the walks over connections and ports have at hand, and their laws.
use Rattle.std.specs.Prelude.{◌≡◌, Bool, cond, ◌&&◌, ◌||◌, not, ℕ, ◌+◌, ◌<◌, ◌≤◌, min, get_or, set, length, replicate, Option, Some, None, unwrap_or}
use Rattle.std.proofs.Math.Path.{refl, ap}
use Rattle.std.specs.Bool.{then_some}
use Rattle.std.proofs.Common.{sym, ◌∙◌, arith, length-set, get_or-set_same, get_or-set_other, le-ltb, eq-eqb, ne_eqb}
use Rattle.std.proofs.Math.Bool.{true, false}
use mathlib.Core.List.{List}
use Rattle.std.proofs.Math.Decide.{ℕ_discrete, dec_lt}
use Rattle.std.proofs.Math.Dec.{eqb}
use Rattle.std.proofs.lemmas.List.{length-replicate, get_or-replicate, set_past}
use Rattle.numbers.specs.declared.Value.{Value}
use Rattle.numbers.specs.Lists.{store, any_below, fold_below}
use Rattle.numbers.specs.ListLaws.{any_next, any_zero, fold_next}
use Rattle.model_format.specs.declared.Connection.{Connection}
use Rattle.model_format.specs.declared.Timing.{Timing}
use Rattle.model_format.specs.Model.{max_inputs, max_connections, immediate, connection_at, input_owner}
use Rattle.model_semantics.specs.declared.State.{State}
use Rattle.model_semantics.specs.State.{is_live, buffer_value, with_ports}
use Rattle.model_semantics.specs.Effects.{is_fed_immediately, is_port, freeze}
use Rattle.model_state.specs.Parts.{with_input, put_input}
use Rattle.model_tests.specs.Rooms.{any_end, fold_end, same_choice}

-- the input port that connection c feeds while it is live and immediate; max_inputs where there is none
unfoldable pub fed_port : Timing → State → ℕ → ℕ
fed_port m s c = cond (eqb (connection_at m c).kind immediate && is_live s c) (connection_at m c).target max_inputs

module _ (m : Timing) (s : State) (c : ℕ) (x : Connection) (live : Bool) (e : x ≡ connection_at m c) (f : live ≡ is_live s c) where
  pub fed_some : (i : ℕ) → (eqb x.kind immediate && live) ≡ true → i ≡ x.target → i ≡ fed_port m s c
  unfolding fed_port
  fed_some i h g = rw (← e, ← f, h) g

  pub fed_none : (eqb x.kind immediate && live) ≡ false → max_inputs ≡ fed_port m s c
  unfolding fed_port
  fed_none h = rw (← e, ← f, h)

-- the same as an Option: none where there is none
unfoldable pub fed_input : Timing → State → ℕ → Option ℕ
fed_input m s c = then_some (eqb (connection_at m c).kind immediate && is_live s c) (connection_at m c).target

pub fed_by : (m : Timing) (s : State) (c : ℕ) (x : Connection) (live : Bool) → x ≡ connection_at m c → live ≡ is_live s c → (i : ℕ) → i ≡ x.target → (r : Option ℕ) →
    r ≡ then_some (eqb x.kind immediate && live) i → r ≡ fed_input m s c
unfolding fed_input
fed_by m s c x live e f i g r h = h ∙ rw (g, f, e)

pub fed_is : (m : Timing) (s : State) (c : ℕ) → fed_port m s c ≡ unwrap_or (fed_input m s c) max_inputs
unfolding fed_port fed_input
fed_is m s c = go (eqb (connection_at m c).kind immediate && is_live s c)
  where
    go : (b : Bool) → cond b (connection_at m c).target max_inputs ≡ unwrap_or (then_some b (connection_at m c).target) max_inputs
    go true = refl
    go false = refl

-- one of the first n connections feeds port i
abbrev pub feeding : Timing → State → ℕ → ℕ → Bool
feeding m s i c = eqb (connection_at m c).kind immediate && (eqb (connection_at m c).target i && is_live s c)

-- the marks by port when the first n connections have been looked at
pub record Marked (m : Timing) (s : State) (n : ℕ) (marks : List Bool) : Type 0 where
  pub size : length marks ≡ max_inputs
  pub each : (i : ℕ) → i < max_inputs → get_or marks i false ≡ any_below n (feeding m s i)

feeding_is : (a l : Bool) (target i : ℕ) → i < max_inputs → (a && (eqb target i && l)) ≡ eqb (cond (a && l) target max_inputs) i
feeding_is true true target i h = and_true (eqb target i)
  where
    and_true : (b : Bool) → (b && true) ≡ b
    and_true true = refl
    and_true false = refl
feeding_is true false target i h = and_false (eqb target i) ∙ sym (ne_eqb max_inputs i (λ e. omega arith))
  where
    and_false : (b : Bool) → (b && false) ≡ false
    and_false true = refl
    and_false false = refl
feeding_is false l target i h = sym (ne_eqb max_inputs i (λ e. omega arith))

module _ (m : Timing) (s : State) where
  pub marked_none : Marked m s 0 (replicate max_inputs false)
  marked_none = record {
    size = length-replicate max_inputs false;
    each = λ i h. get_or-replicate max_inputs i false false h ∙ sym (any_zero (feeding m s i));
  }

  module _ (c : ℕ) (marks : List Bool) (k : Marked m s c marks) (p : ℕ) (e : p ≡ fed_port m s c) where
    fed_here : (i : ℕ) → i < max_inputs → feeding m s i c ≡ eqb p i
    unfolding fed_port
    fed_here i h = feeding_is (eqb (connection_at m c).kind immediate) (is_live s c) (connection_at m c).target i h ∙ ap (λ (q : ℕ). eqb q i) (sym e)

    or_false : (b : Bool) → (b || false) ≡ b
    or_false true = refl
    or_false false = refl

    or_true : (b : Bool) → (b || true) ≡ true
    or_true true = refl
    or_true false = refl

    other : (i : ℕ) → i < max_inputs → (p ≡ i → ⊥) → get_or marks i false ≡ any_below (c + 1) (feeding m s i)
    other i h n = k.each i h ∙ sym (any_next c (feeding m s i) ∙ rw (fed_here i h, ne_eqb p i n) (or_false (any_below c (feeding m s i))))

    pub marked_past : max_inputs ≤ p → Marked m s (c + 1) marks
    marked_past h = record { size = k.size; each = λ i l. other i l (λ z. omega arith) }

    pub marked_next : p < max_inputs → Marked m s (c + 1) (set marks p true)
    marked_next h = record { size = length-set marks p true ∙ k.size; each = λ i l. go i l (ℕ_discrete i p) }
      where
        go : (i : ℕ) → i < max_inputs → Dec (i ≡ p) → get_or (set marks p true) i false ≡ any_below (c + 1) (feeding m s i)
        go i l (yes z) =
            ap (λ (j : ℕ). get_or (set marks p true) j false) z ∙ get_or-set_same marks p true false (omega (arith, k.size)) ∙
            sym (any_next c (feeding m s i) ∙ rw (fed_here i l, eq-eqb p i (sym z)) (or_true (any_below c (feeding m s i))))
        go i l (no z) = get_or-set_other marks p i true false z ∙ other i l (λ w. z (sym w))

    pub marked_set : Marked m s (c + 1) (set marks p true)
    marked_set = go (dec_lt p max_inputs)
      where
        go : Dec (p < max_inputs) → Marked m s (c + 1) (set marks p true)
        go (yes h) = marked_next h
        go (no h) = rw (set_past marks p true (omega (arith, k.size))) (marked_past (omega arith))

  module _ (c : ℕ) (marks : List Bool) (k : Marked m s c marks) where
    pub marked_fed : (p : ℕ) → fed_input m s c ≡ Some p → Marked m s (c + 1) (set marks p true)
    marked_fed p e = marked_set c marks k p (sym (fed_is m s c ∙ ap (λ (o : Option ℕ). unwrap_or o max_inputs) e))

    pub marked_unfed : fed_input m s c ≡ None → Marked m s (c + 1) marks
    marked_unfed e = marked_past c marks k max_inputs (sym (fed_is m s c ∙ ap (λ (o : Option ℕ). unwrap_or o max_inputs) e)) (omega arith)

  pub marked_all : (n c : ℕ) (marks : List Bool) → n ≡ min m.connections max_connections → c ≤ n → n ≤ c → Marked m s c marks → Marked m s m.connections marks
  unfolding is_live
  marked_all n c marks e h g k = record {
    size = k.size;
    each = λ i l. k.each i l ∙ any_end m.connections max_connections n c (feeding m s i) e h g (λ j b. rw (le-ltb j max_connections b) (off (eqb (connection_at m j).kind immediate) (eqb (connection_at m j).target i)));
  }
    where
      off : (a b : Bool) → (a && (b && false)) ≡ false
      off true true = refl
      off true false = refl
      off false b = refl

-- ---- the walk over the ports
unfoldable pub take_buffer : State → Bool → ℕ → State
take_buffer s mine i = cond mine (put_input s i (buffer_value s.ports i)) s

module _ (s q : State) (mine : Bool) (i : ℕ) where
  pub take_mine : (v : Value) → mine ≡ true → v ≡ buffer_value s.ports i → q ≡ put_input s i v → q ≡ take_buffer s mine i
  unfolding take_buffer
  take_mine v h e f = f ∙ rw (h, e)

pub take_other : (s : State) (mine : Bool) (i : ℕ) → mine ≡ false → s ≡ take_buffer s mine i
unfolding take_buffer
take_other s mine i h = rw h

abbrev pub freezing : Timing → State → Bool → ℕ → ℕ → List Value → List Value
freezing m s fed t i l = cond (is_port m s fed t i) (store max_inputs l i (buffer_value s.ports i)) l

-- the state when the first n input ports have been looked at
unfoldable pub frozen_below : Timing → State → Bool → ℕ → ℕ → State
frozen_below m s fed t n = with_input s (fold_below n (freezing m s fed t) s.ports.input)

-- a port of the thread, by its owner and its mark
unfoldable pub takes : ℕ → Bool → Bool → ℕ → Bool
takes owner mark fed t = eqb owner t && cond fed mark (not mark)

module _ (owner t : ℕ) (mark fed : Bool) where
  pub takes_other : (owner ≡ t → ⊥) → false ≡ takes owner mark fed t
  unfolding takes
  takes_other h = rw (ne_eqb owner t h)

  module _ (h : owner ≡ t) where
    pub takes_fed : fed ≡ true → mark ≡ takes owner mark fed t
    unfolding takes
    takes_fed f = rw (eq-eqb owner t h, f)

    pub takes_unfed : fed ≡ false → not mark ≡ takes owner mark fed t
    unfolding takes
    takes_unfed f = rw (eq-eqb owner t h, f)

module _ (m : Timing) (s : State) (fed : Bool) (t : ℕ) where
  pub frozen_none : s ≡ frozen_below m s fed t 0
  unfolding frozen_below fold_below with_input with_ports
  frozen_none = refl

  frozen_more : (i : ℕ) → take_buffer (frozen_below m s fed t i) (is_port m s fed t i) i ≡ frozen_below m s fed t (i + 1)
  unfolding take_buffer frozen_below buffer_value put_input with_input with_ports
  frozen_more i =
      rw (fold_next i (freezing m s fed t) s.ports.input) (go (is_port m s fed t i) (fold_below i (freezing m s fed t) s.ports.input))
    where
      go : (b : Bool) (l : List Value) → take_buffer (with_input s l) b i ≡ with_input s (cond b (store max_inputs l i (buffer_value s.ports i)) l)
      go true l = refl
      go false l = refl

  module _ (marks : List Bool) (k : Marked m s m.connections marks) (i n : ℕ) (e : n ≡ min m.inputs max_inputs) (q : State) (f : q ≡ frozen_below m s fed t i) where
    port_is : (o u : ℕ) (mine : Bool) → i < n → o ≡ input_owner m i → u ≡ o → mine ≡ takes u (get_or marks i false) fed t → mine ≡ is_port m s fed t i
    unfolding is_port is_fed_immediately takes
    port_is o u mine h g w z = z ∙ rw (w, g, k.each i (omega arith))

    pub frozen_next : (o u : ℕ) (mine : Bool) (r : State) → i < n → o ≡ input_owner m i → u ≡ o → mine ≡ takes u (get_or marks i false) fed t → r ≡ take_buffer q mine i →
        r ≡ frozen_below m s fed t (i + 1)
    frozen_next o u mine r h g w z v = v ∙ rw (f, port_is o u mine h g w z) (frozen_more i)

    pub frozen_all : i ≤ n → n ≤ i → q ≡ with_ports s (freeze m s fed t)
    unfolding frozen_below freeze with_input
    frozen_all h g =
        f ∙ ap (with_input s) (fold_end m.inputs max_inputs n i (freezing m s fed t) s.ports.input e h g (λ j x b. rw (le-ltb j max_inputs b) (same_choice (is_port m s fed t j) x)))
