-- The guard of a rule: what its first clause asks one variable for. A rule whose guard fails need not be looked at.
use Rattle.std.specs.Prelude.{◌≡◌, Bool, ◌&&◌, ℕ, suc, ◌+◌, ◌-◌, ◌*◌, ◌/◌, ◌%◌, ◌<◌, ◌≤◌, get_or, length, take, drop, ltb, pos, negsuc}
use Rattle.std.proofs.Common.{refl, sym, ap, ◌∙◌, true, false, cond, List, ◌∷◌, arith, eqb, leb, w32, ne_eqb, lt-ltb, le-ltb, le-leb, ltb-true, leb-true, eqb-true}
use mir.Val.{sel}
use mir.ValLaws.{of_z-to_z}
use borrow.Author.Tests.{lt-leb}
use Rattle.numbers.specs.declared.Value.{Value}
use Rattle.numbers.specs.Values.{u16_at, u32_at, value_at, value, signed, bits_of, compares, same_value}
use Rattle.records.specs.Format.{operand_at}
use Rattle.table_format.specs.declared.Record.{Record}
use Rattle.table_format.specs.declared.Record.TheVariants.{Clause, Atomic}
use Rattle.table_format.specs.Variables.{variables}
use Rattle.table_format.specs.Format.{records, atom_of}
use Rattle.table_format.specs.Table.{gather}
use Rattle.table_semantics.specs.Rules.{value_of, operand_value, holds_op, holds, clause_holds, all_hold}
use Rattle.table_rules.specs.At.{bytes_at, clauses_at}
use Rattle.table_index.specs.Index.{asked_in, guard_at}
use Rattle.table_rules.specs.Places.{clause_records, atom_records}

-- a guard: a variable's number times 2^32, and bits. The clock is none: it changes with every tick.
unfoldable pub may_hold : List Value → ℕ → Bool
may_hold v g =
    let j = g / 4294967296 in
    cond (eqb j 0) true (cond (ltb j variables) (same_value (value_of v j) (value (signed (g % 4294967296)))) true)

abbrev pub Asks : List ℕ → ℕ → Type 0
Asks x g = (v : List Value) → may_hold v g ≡ false → holds v (atom_of x) ≡ false

abbrev pub Guards : List ℕ → ℕ → ℕ → Type 0
Guards s p g = (v : List Value) → may_hold v g ≡ false → all_hold v (clauses_at s p) ≡ false

-- where what the guard of two words has not told of their rule begins: behind the first clause, where the guard asks a variable for a value
unfoldable pub untold : ℕ → ℕ → ℕ
untold w g =
    let j = g / 4294967296 in
    let p = w / 65536 + 11 in
    cond (eqb j 0) p (cond (ltb j variables) (p + 10) p)

-- ---- the code's answer, by its ways to return
module _ (w g j : ℕ) (e : j ≡ g / 4294967296) where
  pub untold_clock : j ≡ 0 → w / 65536 + 11 ≡ untold w g
  unfolding untold
  untold_clock h = rw (← e, h)

  pub untold_none : (j ≡ 0 → ⊥) → variables ≤ j → w / 65536 + 11 ≡ untold w g
  unfolding untold
  untold_none h k = rw (← e, ne_eqb j 0 h, le-ltb j variables k)

  pub untold_by : (j ≡ 0 → ⊥) → j < variables → w / 65536 + 11 + 10 ≡ untold w g
  unfolding untold
  untold_by h k = rw (← e, ne_eqb j 0 h, lt-ltb j variables k)

module _ (v : List Value) (g j : ℕ) (e : j ≡ g / 4294967296) where
  pub may_clock : j ≡ 0 → true ≡ may_hold v g
  unfolding may_hold
  may_clock h = rw (← e, h)

  pub may_none : (j ≡ 0 → ⊥) → variables ≤ j → true ≡ may_hold v g
  unfolding may_hold
  may_none h k = rw (← e, ne_eqb j 0 h, le-ltb j variables k)

  pub may_by : (j ≡ 0 → ⊥) → j < variables → (x y : Value) → x ≡ value_of v j → y ≡ value (signed (g % 4294967296)) → same_value x y ≡ may_hold v g
  unfolding may_hold
  may_by h k x y ex ey = rw (ex, ey, ← e, ne_eqb j 0 h, lt-ltb j variables k)

pub never : {A : Type 0} → true ≡ false → A
never h = let z : ◌≡◌ {A = ℕ} 0 1 = cc in absurd (omega arith)

asks_none : (x : List ℕ) → Asks x 0
unfolding may_hold
asks_none x v h = never h

guards_none : (s : List ℕ) (p : ℕ) → Guards s p 0
unfolding may_hold
guards_none s p v h = never h

last_false : (a b c : Bool) → cond a true (cond b c true) ≡ false → c ≡ false
last_false true b c h = never h
last_false false true c h = h
last_false false false c h = never h

-- the bits of a value are below 2^32, so they are read back
bits_below : (n : ℕ) → bits_of (signed n) < 4294967296
bits_below n = go (ltb n 2147483648) refl
  where
    go : (b : Bool) → ltb n 2147483648 ≡ b → bits_of (sel b (pos n) (negsuc (4294967296 - suc n))) < 4294967296
    go true e = let l = ltb-true n 2147483648 e in omega arith
    go false e = omega arith

asks_atom : (x : List ℕ) → get_or x 1 0 ≡ 0 → get_or x 4 0 ≡ 0 → Asks x (4294967296 * u16_at x 2 + bits_of (value_at x 5).0)
unfolding may_hold holds holds_op compares operand_value atom_of operand_at
asks_atom x eo et v h =
    let n = bits_of (value_at x 5).0 in
    let l : n < 4294967296 = bits_below (u32_at x 5) in
    let d : (4294967296 * u16_at x 2 + n) / 4294967296 ≡ u16_at x 2 = omega arith in
    let m : (4294967296 * u16_at x 2 + n) % 4294967296 ≡ n = omega arith in
    let y : same_value (value_of v (u16_at x 2)) (value (signed n)) ≡ false =
    last_false (eqb (u16_at x 2) 0) (ltb (u16_at x 2) variables) (same_value (value_of v (u16_at x 2)) (value (signed n))) (rw (d, m) at h) in
    rw (eo, et) (rw (of_z-to_z w32 n (record { fits = l })) at y)

-- what an atom is said to ask for, it does ask for
asks_asked : (x : List ℕ) → Asks x (asked_in x)
unfolding asked_in
asks_asked x = go (eqb (get_or x 1 0) 0) (eqb (get_or x 4 0) 0) refl refl
  where
    go : (a b : Bool) → eqb (get_or x 1 0) 0 ≡ a → eqb (get_or x 4 0) 0 ≡ b → Asks x (cond (a && b) (4294967296 * u16_at x 2 + bits_of (value_at x 5).0) 0)
    go true true e f = asks_atom x (eqb-true (get_or x 1 0) 0 e) (eqb-true (get_or x 4 0) 0 f)
    go true false e f = asks_none x
    go false b e f = asks_none x

-- a first clause of one atom
guards_first : (s : List ℕ) (p g : ℕ) → p + 11 ≤ length s → get_or s p 0 ≡ 34 → get_or s (p + 1) 0 ≡ 35 → get_or s (p + 10) 0 ≡ 34 →
    Asks (bytes_at s (p + 1) 9) g → Guards s p g
unfolding gather all_hold clause_holds
guards_first s p g l a b c k v h =
    let q : p + 1 + 9 ≡ p + 10 = omega arith in
    let x = atom_of (bytes_at s (p + 1) 9) in
    let third = ap (λ (n : ℕ). records (drop n s)) q ∙ clause_records s (p + 10) c (omega arith) in
    let second = atom_records s (p + 1) b (omega arith) ∙ ap (λ (r : List Record). Atomic x ∷ r) third in
    let first = clause_records s p a (omega arith) ∙ ap (λ (r : List Record). Clause ∷ r) second in
    ap (λ (r : List Record). all_hold v (gather r).clauses) first ∙ rw (k v h)

-- a rule whose guard fails is not enabled
pub guard_fails : (s : List ℕ) (p : ℕ) → Guards s p (guard_at s p)
unfolding guard_at
guard_fails s p = go (leb (p + 11) (length s)) (eqb (get_or s p 0) 34) (eqb (get_or s (p + 1) 0) 35) (eqb (get_or s (p + 10) 0) 34) refl refl refl refl
  where
    go : (a b c d : Bool) → leb (p + 11) (length s) ≡ a → eqb (get_or s p 0) 34 ≡ b → eqb (get_or s (p + 1) 0) 35 ≡ c → eqb (get_or s (p + 10) 0) 34 ≡ d →
        Guards s p (cond (a && (b && (c && d))) (asked_in (bytes_at s (p + 1) 9)) 0)
    go true true true true x y z w =
        guards_first s p (asked_in (bytes_at s (p + 1) 9)) (leb-true (p + 11) (length s) x) (eqb-true (get_or s p 0) 34 y) (eqb-true (get_or s (p + 1) 0) 35 z)
        (eqb-true (get_or s (p + 10) 0) 34 w) (asks_asked (bytes_at s (p + 1) 9))
    go true true true false x y z w = guards_none s p
    go true true false d x y z w = guards_none s p
    go true false c d x y z w = guards_none s p
    go false b c d x y z w = guards_none s p

-- ---- a guard that asks a variable for a value and holds is the first clause, and that holds
last_true : (a b c : Bool) → a ≡ false → b ≡ true → cond a true (cond b c true) ≡ true → c ≡ true
last_true true b c x y h = never x
last_true false true c x y h = h
last_true false false c x y h = never (sym y)

module _ (v : List Value) (g : ℕ) (m : may_hold v g ≡ true) (z : g / 4294967296 ≡ 0 → ⊥) (l : g / 4294967296 < variables) where
  holds_atom : (x : List ℕ) → get_or x 1 0 ≡ 0 → get_or x 4 0 ≡ 0 → 4294967296 * u16_at x 2 + bits_of (value_at x 5).0 ≡ g → holds v (atom_of x) ≡ true
  unfolding may_hold holds holds_op compares operand_value atom_of operand_at
  holds_atom x eo et eg =
      let n = bits_of (value_at x 5).0 in
      let b : n < 4294967296 = bits_below (u32_at x 5) in
      let d : g / 4294967296 ≡ u16_at x 2 = omega arith in
      let r : g % 4294967296 ≡ n = omega arith in
      let y : same_value (value_of v (u16_at x 2)) (value (signed n)) ≡ true =
      last_true (eqb (u16_at x 2) 0) (ltb (u16_at x 2) variables) (same_value (value_of v (u16_at x 2)) (value (signed n)))
      (ne_eqb (u16_at x 2) 0 (rw d at z)) (lt-ltb (u16_at x 2) variables (rw d at l)) (rw (d, r) at m) in
      rw (eo, et) (rw (of_z-to_z w32 n (record { fits = b })) at y)

  holds_asked : (x : List ℕ) → asked_in x ≡ g → holds v (atom_of x) ≡ true
  unfolding asked_in
  holds_asked x = go (eqb (get_or x 1 0) 0) (eqb (get_or x 4 0) 0) refl refl
    where
      go : (a b : Bool) → eqb (get_or x 1 0) 0 ≡ a → eqb (get_or x 4 0) 0 ≡ b →
          cond (a && b) (4294967296 * u16_at x 2 + bits_of (value_at x 5).0) 0 ≡ g → holds v (atom_of x) ≡ true
      go true true e f h = holds_atom x (eqb-true (get_or x 1 0) 0 e) (eqb-true (get_or x 4 0) 0 f) h
      go true false e f h = absurd (z (omega arith))
      go false b e f h = absurd (z (omega arith))

  holds_first : (s : List ℕ) (p : ℕ) → p + 11 ≤ length s → get_or s p 0 ≡ 34 → get_or s (p + 1) 0 ≡ 35 → get_or s (p + 10) 0 ≡ 34 →
      asked_in (bytes_at s (p + 1) 9) ≡ g → all_hold v (clauses_at s (p + 10)) ≡ all_hold v (clauses_at s p)
  unfolding gather all_hold clause_holds
  holds_first s p n a b c k =
      let q : p + 1 + 9 ≡ p + 10 = omega arith in
      let x = atom_of (bytes_at s (p + 1) 9) in
      let third = clause_records s (p + 10) c (omega arith) in
      let second = atom_records s (p + 1) b (omega arith) ∙ ap (λ (r : List Record). Atomic x ∷ r) (ap (λ (n : ℕ). records (drop n s)) q ∙ third) in
      let first = clause_records s p a (omega arith) ∙ ap (λ (r : List Record). Clause ∷ r) second in
      ap (λ (r : List Record). all_hold v (gather r).clauses) third ∙
      sym (ap (λ (r : List Record). all_hold v (gather r).clauses) first ∙ rw (holds_asked (bytes_at s (p + 1) 9) k))

  pub guard_told : (s : List ℕ) (p : ℕ) → guard_at s p ≡ g → all_hold v (clauses_at s (p + 10)) ≡ all_hold v (clauses_at s p)
  unfolding guard_at
  guard_told s p = go (leb (p + 11) (length s)) (eqb (get_or s p 0) 34) (eqb (get_or s (p + 1) 0) 35) (eqb (get_or s (p + 10) 0) 34) refl refl refl refl
    where
      go : (a b c d : Bool) → leb (p + 11) (length s) ≡ a → eqb (get_or s p 0) 34 ≡ b → eqb (get_or s (p + 1) 0) 35 ≡ c → eqb (get_or s (p + 10) 0) 34 ≡ d →
          cond (a && (b && (c && d))) (asked_in (bytes_at s (p + 1) 9)) 0 ≡ g → all_hold v (clauses_at s (p + 10)) ≡ all_hold v (clauses_at s p)
      go true true true true x y k w h =
          holds_first s p (leb-true (p + 11) (length s) x) (eqb-true (get_or s p 0) 34 y) (eqb-true (get_or s (p + 1) 0) 35 k)
          (eqb-true (get_or s (p + 10) 0) 34 w) h
      go true true true false x y k w h = absurd (z (omega arith))
      go true true false d x y k w h = absurd (z (omega arith))
      go true false c d x y k w h = absurd (z (omega arith))
      go false b c d x y k w h = absurd (z (omega arith))

-- ---- the code's guards, by its ways to return
module _ (x : List ℕ) (o : ℕ) (eo : o ≡ get_or x 1 0) where
  pub asked_op : (o ≡ 0 → ⊥) → 0 ≡ asked_in x
  unfolding asked_in
  asked_op h = rw (← eo, ne_eqb o 0 h)

  module _ (zo : o ≡ 0) (t : ℕ) (et : t ≡ get_or x 4 0) where
    pub asked_tag : (t ≡ 0 → ⊥) → 0 ≡ asked_in x
    unfolding asked_in
    asked_tag h = rw (← eo, zo, ← et, ne_eqb t 0 h)

    pub asked_equal : t ≡ 0 → (j n : ℕ) → j ≡ u16_at x 2 → n ≡ bits_of (value_at x 5).0 → 4294967296 * j + n ≡ asked_in x
    unfolding asked_in
    asked_equal zt j n ej en = rw (← eo, zo, ← et, zt, ej, en)

module _ (s : List ℕ) (p : ℕ) where
  pub guard_short : length s < p + 11 → 0 ≡ guard_at s p
  unfolding guard_at
  guard_short h = rw (lt-leb (p + 11) (length s) h)

  module _ (l : p + 11 ≤ length s) where
    pub guard_no_clause : (get_or s p 0 ≡ 34 → ⊥) → 0 ≡ guard_at s p
    unfolding guard_at
    guard_no_clause h = rw (le-leb (p + 11) (length s) l, ne_eqb (get_or s p 0) 34 h)

    module _ (a : get_or s p 0 ≡ 34) where
      pub guard_no_atom : (get_or s (p + 1) 0 ≡ 35 → ⊥) → 0 ≡ guard_at s p
      unfolding guard_at
      guard_no_atom h = rw (le-leb (p + 11) (length s) l, a, ne_eqb (get_or s (p + 1) 0) 35 h)

      module _ (b : get_or s (p + 1) 0 ≡ 35) where
        pub guard_more_atoms : (get_or s (p + 10) 0 ≡ 34 → ⊥) → 0 ≡ guard_at s p
        unfolding guard_at
        guard_more_atoms h = rw (le-leb (p + 11) (length s) l, a, b, ne_eqb (get_or s (p + 10) 0) 34 h)

        pub guard_first : get_or s (p + 10) 0 ≡ 34 → (r : ℕ) → r ≡ asked_in (take (p + 10 - (p + 1)) (drop (p + 1) s)) → r ≡ guard_at s p
        unfolding guard_at
        guard_first c r e =
            let q : p + 10 - (p + 1) ≡ 9 = omega arith in
            rw (le-leb (p + 11) (length s) l, a, b, c) (rw q at e)
