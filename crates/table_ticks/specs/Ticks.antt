-- TICK, in the forms that the code has.
use Rattle.std.specs.Prelude.{◌≡◌, Bool, not, List}
use Rattle.std.proofs.Common.{sym, ◌∙◌, ap, true, false, ℕ, suc, ◌+◌, ◌-◌, ◌<◌, ◌≤◌, arith}
use Rattle.std.proofs.Math.Nat.{sub-zero}
use borrow.Author.Tests.{not-true, not-false}
use Rattle.numbers.specs.declared.Value.{Value}
use Rattle.numbers.specs.Lists.{store, first_below}
use Rattle.numbers.specs.ListLaws.{first_within}
use Rattle.numbers.specs.Values.{value, signed, natural, less_value}
use Rattle.records.specs.declared.Cause.{Cause}
use Rattle.records.specs.declared.Cause.TheVariants.{NotEnabled, LastClock}
use Rattle.records.specs.Events.{last_clock}
use Rattle.table_format.specs.Variables.{variables}
use Rattle.table_format.specs.Table.{Rule}
use Rattle.table_semantics.specs.declared.Variables.{Variables}
use Rattle.table_semantics.specs.Machine.{refuse, accept, is_busy, now_in, ticks}
use Rattle.table_semantics.specs.Runs.{values, variables_of, stepped_to}
use Rattle.table_rules.specs.Bits.{values_store}
use Rattle.table_ticks.specs.Ticking.{later, later_next, clock_back, first_before, first_at}

-- ---- n ticks, of which those before q are quiet: i of them are over, and what is left gives the answer
pub ticks_begin : (l : List Rule) (s : Variables) (n : ℕ) → ticks l s (n - 0) (later 0 s.value) ≡ ticks l s n s.value
unfolding later
ticks_begin l s n = rw (sub-zero n)

module _ (l : List Rule) (s : Variables) (n q i : ℕ) (e : q ≡ first_below n (λ k. is_busy (later k s.value) l))
    (r : ticks l s (n - i) (later i s.value) ≡ ticks l s n s.value) where
  quiet : i < q → is_busy (later i s.value) l ≡ false
  quiet h = first_before n (λ k. is_busy (later k s.value) l) i (rw (← e) h)

  within : q ≤ n
  within = rw e (first_within n (λ k. is_busy (later k s.value) l))

  busy : i ≡ q → q < n → is_busy (later i s.value) l ≡ true
  busy h b = rw (h, e) (first_at n (λ k. is_busy (later k s.value) l) (rw (← e) b))

  -- x is the clock
  module _ (h : i < q) (x : Value) (g : x ≡ now_in (later i s.value)) (c : Bool) (k : c ≡ not (less_value x (natural last_clock))) where
    left : n - i ≡ suc (n - (i + 1))
    left = let w = within in omega arith

    pub ticks_last : c ≡ true → refuse LastClock s ≡ ticks l s n s.value
    unfolding ticks
    ticks_last y =
        let z : less_value x (natural last_clock) ≡ false = not-true _ (sym k ∙ y) in
        rw (left, quiet h, ← g, z) at r

    pub ticks_on : c ≡ false → ticks l s (n - (i + 1)) (later (i + 1) s.value) ≡ ticks l s n s.value
    unfolding ticks
    ticks_on y =
        let z : less_value x (natural last_clock) ≡ true = not-false _ (sym k ∙ y) in
        rw (← later_next i s.value, ← g) (rw (left, quiet h, ← g, z) at r)

  pub ticks_busy : i ≤ q → q ≤ i → i < n → refuse NotEnabled s ≡ ticks l s n s.value
  unfolding ticks
  ticks_busy a b c =
      let d : n - i ≡ suc (n - (i + 1)) = omega arith in
      rw (d, busy (omega arith) (omega arith)) at r

  pub ticks_end : n ≤ i → accept (later i s.value) ≡ ticks l s n s.value
  unfolding ticks
  ticks_end a = let d : n - i ≡ 0 = omega arith in rw d at r

-- the bits w, where the clock x of the bits u is set back in bits v, i ticks later
pub set_back : (u v w : List ℕ) (i k : ℕ) (x : Value) (c : Cause) → values v ≡ later i (values u) → x ≡ now_in (values u) → value (signed k) ≡ x →
    w ≡ store variables v 0 k → stepped_to c w ≡ refuse c (variables_of u)
set_back u v w i k x c e f g h =
    let q : values w ≡ values u = ap values h ∙ values_store v 0 k ∙ rw (g, e, f) (clock_back i (values u)) in
    ap (λ (l : List Value). record { answer = c; state = record { value = l } }) q
