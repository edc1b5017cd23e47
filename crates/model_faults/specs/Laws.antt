-- Laws of the definitions, in the forms that the code's tests have.
use Rattle.std.specs.Prelude.{◌≡◌, Bool, true, false, cond, ◌&&◌, ℕ, ◌*◌, ◌/◌, ◌^◌, ◌<◌, ◌≤◌}
use Rattle.std.proofs.Common.{◌∙◌, div-lt_iff_lt-mul, pow_pos, arith, pow_mono, eqb, ltb, lt-ltb, le-ltb, eq-eqb, ne_eqb}
use Rattle.std.proofs.Math.Nat.{div-eq_of_lt}
use Rattle.std.proofs.Math.Decide.{dec_lt}
use Rattle.numbers.specs.Multiples.{lcm_up_to}
use Rattle.records.specs.Events.{last_clock}
use Rattle.model_format.specs.declared.Thread.{Thread}
use Rattle.model_format.specs.declared.Reading.{Reading}
use Rattle.model_format.specs.declared.Timing.{Timing}
use Rattle.model_format.specs.declared.Connection.{Connection}
use Rattle.model_format.specs.Model.{connection_at, thread_at, critical_in}
use Rattle.model_format.specs.Laws.{with_period}
use Rattle.model_format.specs.Reading.{mask_fits}
use Rattle.model_faults.specs.declared.Stand.{Stand}

-- ---- names for parts of definitions
abbrev pub least_kind : ℕ → ℕ
least_kind last = cond (ltb 8 last) 8 last

abbrev pub stand_of : Reading → Stand
stand_of a = let m = a.model.timing in record { last = a.last; modes = m.modes; initial = m.initial; threads = m.threads; inputs = m.inputs; outputs = m.outputs; locals = m.locals; connections = m.connections; switches = m.switches }

-- ---- masks: the bits above those of the modes
module _ (m : Timing) (mask : ℕ) where
  pub mask_shifted : eqb (mask / 2 ^ m.modes) 0 ≡ mask_fits m mask
  unfolding mask_fits
  mask_shifted = go (dec_lt mask (2 ^ m.modes))
    where
      go : Dec (mask < 2 ^ m.modes) → eqb (mask / 2 ^ m.modes) 0 ≡ ltb mask (2 ^ m.modes)
      go (yes h) = rw (div-eq_of_lt h, lt-ltb mask (2 ^ m.modes) h)
      go (no h) =
          let d : mask / 2 ^ m.modes < 1 → mask < 1 * 2 ^ m.modes = (div-lt_iff_lt-mul (pow_pos m.modes)).0 in
          let n : mask / 2 ^ m.modes ≡ 0 → ⊥ = λ z. h (let l = d (omega arith) in omega arith) in
          rw (ne_eqb (mask / 2 ^ m.modes) 0 n, le-ltb mask (2 ^ m.modes) (omega arith))

  pub mask_within : mask < 256 → 8 ≤ m.modes → true ≡ mask_fits m mask
  unfolding mask_fits
  mask_within l h = let p : 256 ≤ 2 ^ m.modes = pow_mono h in rw (lt-ltb mask (2 ^ m.modes) (omega arith))

-- ---- searches
-- the connection c goes to the input port i
abbrev pub connects_to : Timing → ℕ → ℕ → Bool
connects_to m i c = eqb (connection_at m c).target i

module _ (m : Timing) (i c : ℕ) (x : Connection) (e : x ≡ connection_at m c) where
  pub connects : x.target ≡ i → connects_to m i c ≡ true
  connects f = rw (← e) (eq-eqb x.target i f)

  pub connects_not : (x.target ≡ i → ⊥) → connects_to m i c ≡ false
  connects_not f = rw (← e) (ne_eqb x.target i f)

-- a hyperperiod with a thread's period
abbrev pub with_period_of : Thread → ℕ → ℕ → ℕ → ℕ
with_period_of x old new h = cond (critical_in x old && critical_in x new) (lcm_up_to last_clock h x.period.0) h

module _ (x : Thread) (old new h : ℕ) (a b : Bool) (f : a ≡ critical_in x old) (g : b ≡ critical_in x new) where
  pub period_in : a ≡ true → b ≡ true → lcm_up_to last_clock h x.period.0 ≡ with_period_of x old new h
  period_in i j = rw (← f, ← g, i, j)

  pub period_out : a ≡ true → b ≡ false → h ≡ with_period_of x old new h
  period_out i j = rw (← f, ← g, i, j)

pub period_not : (x : Thread) (old new h : ℕ) (a : Bool) → a ≡ critical_in x old → a ≡ false → h ≡ with_period_of x old new h
period_not x old new h a f i = rw (← f, i)

pub period_at : (m : Timing) (old new t h r : ℕ) (x : Thread) → x ≡ thread_at m t → r ≡ with_period_of x old new h → r ≡ with_period m old new t h
period_at m old new t h r x e f = f ∙ rw e
