-- An accepted record has no fault, and stands where its kind may: the facts that reading tests.
use Rattle.std.specs.Prelude.{Bool, cond, ◌&&◌, ◌||◌, ℕ, ◌<◌, ◌≤◌, ltb, leb}
use Rattle.std.proofs.Common.{◌≡◌, refl, true, false, arith, ltb-true, leb-true, eqb-true, lt-ltb, le-ltb, eqb}
use Rattle.std.proofs.Math.Decide.{dec_lt}
use Rattle.records.specs.declared.Cause.{Cause}
use Rattle.records.specs.declared.Cause.TheVariants.{None, WrongKind, TooMany, WrongField, OtherThread, SetTwice, LongHyperperiod, NamesNothing, FaultyTime}
use Rattle.records.specs.Refusals.{number_of, is_none}
use Rattle.model_format.specs.declared.Faults.{Faults}
use Rattle.model_format.specs.Reading.{in_order, judged}

-- ---- tests
pub both_true : (a b : Bool) → (a && b) ≡ true → (a ≡ true) × (b ≡ true)
both_true true b h = (refl, h)
both_true false b h = let z : ◌≡◌ {A = ℕ} 0 1 = cc in absurd (omega arith)

pub both_false : (a b : Bool) → (a || b) ≡ false → (a ≡ false) × (b ≡ false)
both_false false b h = (refl, h)
both_false true b h = let z : ◌≡◌ {A = ℕ} 0 1 = cc in absurd (omega arith)

-- ---- no fault
pub record Faultless (f : Faults) : Type 0 where
  pub order : f.order ≡ false
  pub excess : f.excess ≡ false
  pub names : f.names ≡ false
  pub times : f.times ≡ false
  pub ranges : f.ranges ≡ false
  pub owner : f.owner ≡ false
  pub twice : f.twice ≡ false
  pub hyperperiod : f.hyperperiod ≡ false

passed : (b : Bool) (c r : Cause) → is_none c ≡ false → is_none (cond b c r) ≡ true → (b ≡ false) × (is_none r ≡ true)
passed false c r n h = (refl, h)
passed true c r n h = let z : ◌≡◌ {A = Bool} true false = cc in let y : ◌≡◌ {A = ℕ} 0 1 = cc in absurd (omega arith)

pub faultless : (f : Faults) → is_none (judged f) ≡ true → Faultless f
unfolding judged number_of
faultless f h =
    let c1 = passed f.order WrongKind _ refl h in
    let c2 = passed f.excess TooMany _ refl c1.1 in
    let c3 = passed f.names NamesNothing _ refl c2.1 in
    let c4 = passed f.times FaultyTime _ refl c3.1 in
    let c5 = passed f.ranges WrongField _ refl c4.1 in
    let c6 = passed f.owner OtherThread _ refl c5.1 in
    let c7 = passed f.twice SetTwice _ refl c6.1 in
    let c8 = passed f.hyperperiod LongHyperperiod None refl c7.1 in
    record { order = c1.0; excess = c2.0; names = c3.0; times = c4.0; ranges = c5.0; owner = c6.0; twice = c7.0; hyperperiod = c8.0 }

-- ---- order
module _ (last : ℕ) where
  pub order_head : in_order last 1 ≡ true → last ≡ 0
  unfolding in_order
  order_head h = eqb-true last 0 h

  -- kinds 02 to 08
  pub order_item : (k : ℕ) → (ltb 0 last && leb (cond (ltb 8 last) 8 last) k) ≡ true → (0 < last) × (k < 8 → last < 8)
  order_item k h =
      let b = both_true (ltb 0 last) (leb (cond (ltb 8 last) 8 last) k) h in
      (ltb-true 0 last b.0, λ l. go l (dec_lt 8 last) (leb-true (cond (ltb 8 last) 8 last) k b.1))
    where
      go : k < 8 → Dec (8 < last) → cond (ltb 8 last) 8 last ≤ k → last < 8
      go l (yes q) c = let z = rw (lt-ltb 8 last q) at c in absurd (omega arith)
      go l (no q) c = let z = rw (le-ltb 8 last (omega arith)) at c in omega arith

  pub order_atom : in_order last 9 ≡ true → 8 ≤ last
  unfolding in_order
  order_atom h = go (eqb last 8) (eqb last 9) refl refl h
    where
      go : (b c : Bool) → eqb last 8 ≡ b → eqb last 9 ≡ c → (b || c) ≡ true → 8 ≤ last
      go true c e f g = let z = eqb-true last 8 e in omega arith
      go false true e f g = let z = eqb-true last 9 f in omega arith
      go false false e f g = let z : ◌≡◌ {A = ℕ} 0 1 = cc in omega arith

  pub order_assignment : in_order last 10 ≡ true → 8 ≤ last
  unfolding in_order
  order_assignment h = leb-true 8 last h
