-- A copy of the variables, on which the clock goes on: what the rules say of it they say of the variables.
use Rattle.std.specs.Prelude.{take, drop, ◌++◌, ◌-◌, ◌≡◌, Bool, true, false, ℕ, zero, suc, ◌+◌, ◌<◌, ◌≤◌, min, eqb, get_or, set, length, replicate}
use Rattle.std.proofs.Common.{refl, ap, sym, ◌∙◌, arith, get_or-set_same, get_or-set_other, cond, List, [], ◌∷◌}
use Rattle.std.proofs.Math.Decide.{dec_lt, ℕ_discrete}
use Rattle.std.proofs.Math.ListN.{get_or-eq_default, get_or-append}
use Rattle.std.proofs.lemmas.List.{length-replicate, length-append, length-take, length-drop, get_or-append-add, get_or-take, get_or-drop}
use Rattle.numbers.specs.declared.Value.{Value}
use Rattle.numbers.specs.Lists.{first_below}
use Rattle.numbers.specs.ListLaws.{length_store, item_store_same, item_store_other, first_none, first_found, first_within}
use Rattle.numbers.specs.Values.{natural, plus, value, signed, bits_of}
use Rattle.records.specs.declared.Operand.{Operand}
use Rattle.table_format.specs.declared.Atom.{Atom}
use Rattle.table_format.specs.Variables.{variables, now_var}
use Rattle.table_semantics.specs.Rules.{value_of, operand_value, holds, clause_holds, all_hold}
use Rattle.table_semantics.specs.Machine.{now_in}
use Rattle.table_semantics.specs.Choices.{one_tick}
use Rattle.table_semantics.specs.Runs.{values}
use Rattle.table_rules.specs.Bits.{length_values, value_within, value_past}
use Rattle.table_ticks.specs.Ticking.{later, later_empty, first_same}

-- ---- a copy of bits
pub record Copied (v w : List ℕ) : Type 0 where
  pub size : length w ≡ variables
  pub same : (k : ℕ) → k < variables → get_or w k 0 ≡ get_or v k 0

-- its loop: j of n are copied
pub record Copying (v : List ℕ) (n : ℕ) (w : List ℕ) (j : ℕ) : Type 0 where
  pub size : length w ≡ variables
  pub over : j ≤ n
  pub done : (k : ℕ) → k < j → get_or w k 0 ≡ get_or v k 0
  pub left : (k : ℕ) → j ≤ k → get_or w k 0 ≡ 0

zeros : (n k : ℕ) → ◌≡◌ {A = ℕ} (get_or (replicate n 0) k 0) 0
zeros zero k = refl
zeros (suc n) zero = refl
zeros (suc n) (suc k) = zeros n k

pub copying_begin : (v : List ℕ) (n : ℕ) → length {A = ℕ} (replicate variables 0) ≡ variables → Copying v n (replicate variables 0) 0
copying_begin v n e = record { size = e; over = omega arith; done = λ k h. absurd (omega arith); left = λ k h. zeros variables k }

pub copying_on : (v : List ℕ) (n : ℕ) (w : List ℕ) (j : ℕ) → Copying v n w j → n ≡ min (length v) variables → j < n → length (set w j (get_or v j 0)) ≡ variables →
    Copying v n (set w j (get_or v j 0)) (j + 1)
copying_on v n w j i e h l = record {
  size = l;
  over = omega arith;
  done = λ k b. go k b (ℕ_discrete k j);
  left = λ k b. get_or-set_other w j k (get_or v j 0) 0 (λ q. omega arith) ∙ i.left k (omega arith);
}
  where
    go : (k : ℕ) → k < j + 1 → Dec (k ≡ j) → get_or (set w j (get_or v j 0)) k 0 ≡ get_or v k 0
    go k b (yes q) = rw q (get_or-set_same w j (get_or v j 0) 0 (let s = i.size in omega arith))
    go k b (no q) = get_or-set_other w j k (get_or v j 0) 0 q ∙ i.done k (omega arith)

pub copying_end : (v : List ℕ) (n : ℕ) (w : List ℕ) (j : ℕ) → Copying v n w j → n ≡ min (length v) variables → n ≤ j → Copied v w
copying_end v n w j i e h = record { size = i.size; same = λ k b. go k b (dec_lt k j) }
  where
    go : (k : ℕ) → k < variables → Dec (k < j) → get_or w k 0 ≡ get_or v k 0
    go k b (yes q) = i.done k q
    go k b (no q) = i.left k (omega arith) ∙ sym (get_or-eq_default v 0 (let o = i.over in omega arith))

-- by the library's copy: the first n are those of v, the others as they were
pub copied_front : (v w : List ℕ) (n : ℕ) → n ≡ min (length v) variables → w ≡ take n v → Copied v (w ++ drop n (replicate variables 0))
copied_front v w n e f = record { size = size; same = λ k b. go k b (dec_lt k n) }
  where
    long : length w ≡ n
    long = ap length f ∙ length-take n v ∙ omega arith

    size : length (w ++ drop n (replicate variables 0)) ≡ variables
    size =
        let d : length {A = ℕ} (drop n (replicate variables 0)) ≡ variables - n =
        length-drop n (replicate variables 0) ∙ ap (λ (m : ℕ). m - n) (length-replicate {A = ℕ} variables 0) in
        length-append w (drop n (replicate variables 0)) ∙ omega (arith, long, d)

    go : (k : ℕ) → k < variables → Dec (k < n) → get_or (w ++ drop n (replicate variables 0)) k 0 ≡ get_or v k 0
    go k b (yes q) =
        get_or-append w (drop n (replicate variables 0)) 0 k (omega (arith, long)) ∙ ap (λ (l : List ℕ). get_or l k 0) f ∙ get_or-take n v k 0 q
    go k b (no q) =
        let m : length w + (k - n) ≡ k = omega (arith, long) in
        (rw m at (get_or-append-add w (drop n (replicate variables 0)) (k - n) 0)) ∙ get_or-drop n (replicate variables 0) (k - n) 0 ∙
        zeros variables (n + (k - n)) ∙ sym (get_or-eq_default v 0 (omega arith))

-- ---- variables that read the same
abbrev Alike : List Value → List Value → Type 0
Alike v w = (j : ℕ) → value_of v j ≡ value_of w j

alike_bits : (v w : List ℕ) → Copied v w → Alike (values w) (values v)
alike_bits v w c j = go (dec_lt j variables)
  where
    go : Dec (j < variables) → value_of (values w) j ≡ value_of (values v) j
    go (yes h) = sym (value_within w j h) ∙ ap (λ (n : ℕ). value (signed n)) (c.same j h) ∙ value_within v j h
    go (no h) = sym (value_past w j (omega arith)) ∙ value_past v j (omega arith)

module _ (v w : List Value) (a : Alike v w) where
  alike_operand : (o : Operand) → operand_value 0 v o ≡ operand_value 0 w o
  unfolding operand_value
  alike_operand o = ap (λ (x : Value). cond (eqb o.tag 0) o.value (cond (eqb o.tag 1) x (value (signed 0)))) (a (bits_of o.value.0))

  alike_atom : (x : Atom) → holds v x ≡ holds w x
  unfolding holds
  alike_atom x = rw (a x.variable, alike_operand x.right)

  alike_clause : (l : List Atom) → clause_holds v l ≡ clause_holds w l
  unfolding clause_holds
  alike_clause [] = refl
  alike_clause (x ∷ l) = rw (alike_atom x, alike_clause l)

  alike_all : (l : List (List Atom)) → all_hold v l ≡ all_hold w l
  unfolding all_hold
  alike_all [] = refl
  alike_all (c ∷ l) = rw (alike_clause c, alike_all l)

  alike_tick : 0 < length v → 0 < length w → Alike (one_tick v) (one_tick w)
  alike_tick h k j = go (ℕ_discrete j 0)
    where
      x : Value
      x = plus (now_in v) (natural 1)

      y : Value
      y = plus (now_in w) (natural 1)

      go : Dec (j ≡ 0) → value_of (one_tick v) j ≡ value_of (one_tick w) j
      go (yes e) =
          rw e
          (item_store_same variables v now_var x (natural 0) (omega arith) h ∙ ap (λ (z : Value). plus z (natural 1)) (a 0) ∙
          sym (item_store_same variables w now_var y (natural 0) (omega arith) k))
      go (no n) =
          item_store_other variables v now_var j x (natural 0) n ∙ a j ∙ sym (item_store_other variables w now_var j y (natural 0) n)

length_tick : (v : List Value) → length (one_tick v) ≡ length v
length_tick v = length_store variables v now_var (plus (now_in v) (natural 1))

length_later : (i : ℕ) (v : List Value) → length (later i v) ≡ length v
unfolding later
length_later zero v = refl
length_later (suc i) v = length_tick (later i v) ∙ length_later i v

alike_later : (i : ℕ) (v w : List Value) → Alike v w → 0 < length v → 0 < length w → Alike (later i v) (later i w)
unfolding later
alike_later zero v w a h k = a
alike_later (suc i) v w a h k =
    alike_tick (later i v) (later i w) (alike_later i v w a h k) (rw (length_later i v) h) (rw (length_later i w) k)

pub first_copied : (n : ℕ) (v w : List ℕ) (l : List (List Atom)) → Copied v w → (length v ≡ 0 → ⊥) → (r : ℕ) →
    r ≡ first_below n (λ i. all_hold (later i (values w)) l) → r ≡ first_below n (λ i. all_hold (later i (values v)) l)
first_copied n v w l c z r e =
    e ∙ first_same n (λ i. all_hold (later i (values w)) l) (λ i. all_hold (later i (values v)) l)
    (λ i. alike_all (later i (values w)) (later i (values v))
    (alike_later i (values w) (values v) (alike_bits v w c) (let p = length_values w in let s = c.size in omega arith) (let q = length_values v in omega arith)) l)

-- ---- no variables: nothing changes
nothing_later : (i : ℕ) (v : List ℕ) → length v ≡ 0 → later i (values v) ≡ values v
unfolding values
nothing_later i [] z = later_empty i
nothing_later i (x ∷ v) z = absurd (omega arith)

module _ (n : ℕ) (v : List ℕ) (z : length v ≡ 0) (l : List (List Atom)) (b : Bool) (e : b ≡ all_hold (values v) l) where
  pub first_still : b ≡ true → 0 ≡ first_below n (λ i. all_hold (later i (values v)) l)
  first_still t = go (dec_lt 0 n)
    where
      go : Dec (0 < n) → 0 ≡ first_below n (λ i. all_hold (later i (values v)) l)
      go (yes h) = sym (first_found n (λ i. all_hold (later i (values v)) l) 0 h (rw (nothing_later 0 v z, ← e) t) (λ j c. absurd (omega arith)))
      go (no h) = let w = first_within n (λ i. all_hold (later i (values v)) l) in omega arith

  pub first_never : b ≡ false → n ≡ first_below n (λ i. all_hold (later i (values v)) l)
  first_never t = sym (first_none n (λ i. all_hold (later i (values v)) l) (λ i c. rw (nothing_later i v z, ← e) t))

-- bits some ticks later are as many as before
pub later_size : (i : ℕ) (v w : List ℕ) → values w ≡ later i (values v) → length w ≡ length v
later_size i v w e = sym (length_values w) ∙ ap length e ∙ length_later i (values v) ∙ length_values v
