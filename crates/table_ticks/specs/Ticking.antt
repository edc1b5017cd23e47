-- TICK without a walk over the table at each tick: only the clock changes, so each rule tells by itself when it stops the ticks.
use Rattle.std.specs.Prelude.{◌≡◌, refl, Bool, true, cond, ◌&&◌, ◌||◌, List, [], ◌∷◌, ℕ, zero, suc, ◌+◌, ◌-◌, ◌<◌, ◌≤◌, length, take, drop, eqb, ltb}
use Rattle.std.proofs.Common.{sym, ◌∙◌, ap, arith, add-one, ne_eqb, ltb-true, ltb-false, below_more, false}
use Rattle.std.proofs.Math.Decide.{dec_lt, ℕ_discrete}
use Rattle.std.proofs.lemmas.Bool.{eqb-false}
use Rattle.numbers.specs.declared.Value.{Value}
use Rattle.numbers.specs.Lists.{store, first_below}
use Rattle.numbers.specs.ListLaws.{item_store_other, first_none, first_found, first_within}
use Rattle.numbers.specs.Values.{natural, plus, bits_of}
use Rattle.records.specs.declared.Notation.TheVariants as notations
use Rattle.records.specs.declared.Operand.{Operand}
use Rattle.records.specs.Format.{part_length_at}
use Rattle.records.specs.Events.{request_kind}
use Rattle.table_format.specs.declared.RuleHead.{RuleHead}
use Rattle.table_format.specs.declared.Atom.{Atom}
use Rattle.table_format.specs.declared.Record.{Record}
use Rattle.table_format.specs.declared.Record.TheVariants.{Head}
use Rattle.table_format.specs.Variables.{variables, now_var}
use Rattle.table_format.specs.Format.{record_of, records, kind_of}
use Rattle.table_format.specs.Table.{Rule, gather}
use Rattle.table_format.specs.RecordsAt.{records_at, records_end}
use Rattle.table_semantics.specs.Rules.{value_of, operand_value, holds, clause_holds, all_hold}
use Rattle.table_semantics.specs.Choices.{one_tick}
use Rattle.table_index.specs.IndexLaws.{and_false}
use Rattle.table_semantics.specs.Machine.{is_busy, now_in}
use Rattle.table_rules.specs.At.{clauses_at, rules_from}
use Rattle.table_rules.specs.Clauses.{reads_clock, passes, some_passes, all_pass}
use Rattle.table_ticks.specs.Stops.{rule_stops, stops_tick, stops_never, busy_step}

-- the variables i ticks later
unfoldable pub later : ℕ → List Value → List Value
later zero v = v
later (suc i) v = one_tick (later i v)

pub later_next : (i : ℕ) (v : List Value) → one_tick (later i v) ≡ later (i + 1) v
unfolding later
later_next i v = rw (add-one i)

pub later_none : (v : List Value) → v ≡ later 0 v
unfolding later
later_none v = refl

-- ---- only the clock changes
ticked : (l w : List Value) → w ≡ now_in w ∷ l → one_tick w ≡ now_in (one_tick w) ∷ l
ticked l [] e = let n : ◌≡◌ {A = ℕ} 0 (suc (length l)) = ap length e in absurd (omega arith)
ticked l (x ∷ k) e = ap (λ (w : List Value). plus x (natural 1) ∷ drop 1 w) e

pub later_empty : (i : ℕ) → later i [] ≡ []
unfolding later
later_empty zero = refl
later_empty (suc i) = ap one_tick (later_empty i)

later_head : (i : ℕ) (x : Value) (l : List Value) → later i (x ∷ l) ≡ now_in (later i (x ∷ l)) ∷ l
unfolding later
later_head zero x l = refl
later_head (suc i) x l = ticked l (later i (x ∷ l)) (later_head i x l)

-- so the variables come back with the clock
pub clock_back : (i : ℕ) (v : List Value) → store variables (later i v) now_var (now_in v) ≡ v
clock_back i [] = ap (λ (w : List Value). store variables w now_var (natural 0)) (later_empty i)
clock_back i (x ∷ l) = ap (λ (w : List Value). store variables w now_var x) (later_head i x l)

pub later_other : (i : ℕ) (v : List Value) (j : ℕ) → eqb j now_var ≡ false → value_of (later i v) j ≡ value_of v j
unfolding later
later_other zero v j h = refl
later_other (suc i) v j h =
    item_store_other variables (later i v) now_var j (plus (now_in (later i v)) (natural 1)) (natural 0) (eqb-false j now_var h) ∙ later_other i v j h

later_operand : (i : ℕ) (v : List Value) (o : Operand) → (eqb o.tag 1 && eqb (bits_of o.value.0) now_var) ≡ false →
    operand_value 0 (later i v) o ≡ operand_value 0 v o
unfolding operand_value
later_operand i v o h = go (eqb o.tag 1) (eqb (bits_of o.value.0) now_var) refl h
  where
    go : (a b : Bool) → eqb (bits_of o.value.0) now_var ≡ b → (a && b) ≡ false →
        cond (eqb o.tag 0) o.value (cond a (value_of (later i v) (bits_of o.value.0)) (natural 0)) ≡
        cond (eqb o.tag 0) o.value (cond a (value_of v (bits_of o.value.0)) (natural 0))
    go true true e f = let z : ◌≡◌ {A = ℕ} 0 1 = cc in absurd (omega arith)
    go true false e f = rw (later_other i v (bits_of o.value.0) e)
    go false b e f = refl

or_left : (a b : Bool) → (a || b) ≡ false → a ≡ false
or_left true b h = h
or_left false b h = refl

or_right : (a b : Bool) → (a || b) ≡ false → b ≡ false
or_right true b h = let z : ◌≡◌ {A = ℕ} 0 1 = cc in absurd (omega arith)
or_right false b h = h

later_holds : (i : ℕ) (v : List Value) (a : Atom) → reads_clock a ≡ false → holds (later i v) a ≡ holds v a
unfolding holds reads_clock
later_holds i v a h =
    let x = eqb a.variable now_var in
    let y = eqb a.right.tag 1 && eqb (bits_of a.right.value.0) now_var in
    rw (later_other i v a.variable (or_left x y h), later_operand i v a.right (or_right x y h))

-- ---- so what fails with the clock left free fails at every tick
atom_fails : (i : ℕ) (v : List Value) (a : Atom) → passes true v a ≡ false → holds (later i v) a ≡ false
unfolding passes
atom_fails i v a h = later_holds i v a (or_left (reads_clock a) (holds v a) h) ∙ or_right (reads_clock a) (holds v a) h

clause_fails : (i : ℕ) (v : List Value) (l : List Atom) → some_passes true v l ≡ false → clause_holds (later i v) l ≡ false
unfolding some_passes clause_holds
clause_fails i v [] h = refl
clause_fails i v (a ∷ l) h =
    rw (atom_fails i v a (or_left (passes true v a) (some_passes true v l) h), clause_fails i v l (or_right (passes true v a) (some_passes true v l) h))

all_fail : (i : ℕ) (v : List Value) (l : List (List Atom)) → all_pass true v l ≡ false → all_hold (later i v) l ≡ false
unfolding all_pass all_hold
all_fail i v [] h = h
all_fail i v (c ∷ l) h = go (all_fail i v l) (some_passes true v c) refl h
  where
    go : (all_pass true v l ≡ false → all_hold (later i v) l ≡ false) → (b : Bool) → some_passes true v c ≡ b → (b && all_pass true v l) ≡ false →
        (clause_holds (later i v) c && all_hold (later i v) l) ≡ false
    go ih true e f = rw (ih f) (and_false (clause_holds (later i v) c))
    go ih false e f = rw (clause_fails i v c e)

-- ---- the first number that passes: all before it fail, and it does pass
pub first_before : (n : ℕ) (p : ℕ → Bool) (k : ℕ) → k < first_below n p → p k ≡ false
unfolding first_below
first_before zero p k h = absurd (omega arith)
first_before (suc n) p k h = go (first_before n p k) (ltb (first_below n p) n) (p n) refl refl h (ℕ_discrete k n)
  where
    go : (k < first_below n p → p k ≡ false) → (a b : Bool) → ltb (first_below n p) n ≡ a → p n ≡ b → k < cond a (first_below n p) (cond b n (suc n)) →
        Dec (k ≡ n) → p k ≡ false
    go ih true b e f l d = ih l
    go ih false true e f l d = ih (let g = ltb-false (first_below n p) n e in omega arith)
    go ih false false e f l (yes q) = ap p q ∙ f
    go ih false false e f l (no q) = ih (let g = ltb-false (first_below n p) n e in omega arith)

pub first_at : (n : ℕ) (p : ℕ → Bool) → first_below n p < n → p (first_below n p) ≡ true
unfolding first_below
first_at zero p h = absurd (omega arith)
first_at (suc n) p h = go (first_at n p) (ltb (first_below n p) n) (p n) refl refl h
  where
    go : (first_below n p < n → p (first_below n p) ≡ true) → (a b : Bool) → ltb (first_below n p) n ≡ a → p n ≡ b →
        cond a (first_below n p) (cond b n (suc n)) < suc n → p (cond a (first_below n p) (cond b n (suc n))) ≡ true
    go ih true b e f l = ih (ltb-true (first_below n p) n e)
    go ih false true e f l = f
    go ih false false e f l = absurd (omega arith)

-- the first that passes either
pub first_or : (n : ℕ) (p q : ℕ → Bool) → first_below (first_below n p) q ≡ first_below n (λ i. p i || q i)
first_or n p q = sym (go (dec_lt k m) (dec_lt m n))
  where
    m : ℕ
    m = first_below n p

    k : ℕ
    k = first_below m q

    both : (j : ℕ) → j < m → j < k → (p j || q j) ≡ false
    both j a b = rw (first_before n p j a, first_before m q j b)

    or_true : (a : Bool) → (a || true) ≡ true
    or_true true = refl
    or_true false = refl

    within : (k ≤ m) × (m ≤ n)
    within = (first_within m q, first_within n p)

    go : Dec (k < m) → Dec (m < n) → first_below n (λ i. p i || q i) ≡ k
    go (yes a) d = first_found n (λ i. p i || q i) k (let w = within in omega arith) (rw (first_at m q a) (or_true (p k))) (λ j b. both j (omega arith) b)
    go (no a) (yes b) =
        let e : k ≡ m = let w = within in omega arith in
        rw e (first_found n (λ i. p i || q i) m b (rw (first_at n p b)) (λ j c. both j c (omega arith)))
    go (no a) (no b) =
        let e : k ≡ n = let w = within in omega arith in
        rw e (first_none n (λ i. p i || q i) (λ j c. both j (let w = within in omega arith) (omega arith)))

pub first_same : (n : ℕ) (p q : ℕ → Bool) → ((i : ℕ) → p i ≡ q i) → first_below n p ≡ first_below n q
first_same n p q h = ap (first_below n) (λ t i. h i t)

-- ---- one rule: n is how many ticks are looked at
module _ (s : List ℕ) (v : List Value) (n q : ℕ) where
  -- the loop over the ticks: w are the variables i ticks later
  module _ (i : ℕ) (l : (k : ℕ) → k < i → all_hold (later k v) (clauses_at s q) ≡ false) where
    pub enabled_at : i < n → (b : Bool) (w : List Value) → w ≡ later i v → b ≡ all_hold w (clauses_at s q) → b ≡ true →
        i ≡ first_below n (λ k. all_hold (later k v) (clauses_at s q))
    enabled_at h b w e f t = sym (first_found n (λ k. all_hold (later k v) (clauses_at s q)) i h (rw (← e, ← f) t) l)

    pub enabled_never : i ≤ n → n ≤ i → i ≡ first_below n (λ k. all_hold (later k v) (clauses_at s q))
    enabled_never h g = let e : i ≡ n = omega arith in rw e (sym (first_none n (λ k. all_hold (later k v) (clauses_at s q)) (λ k b. l k (omega arith))))

    pub disabled_more : (b : Bool) (w : List Value) → w ≡ later i v → b ≡ all_hold w (clauses_at s q) → b ≡ false →
        (k : ℕ) → k < i + 1 → all_hold (later k v) (clauses_at s q) ≡ false
    disabled_more b w e f t = below_more (λ k. all_hold (later k v) (clauses_at s q) ≡ false) i l (rw (← e, ← f) t)

  -- k is its event kind
  module _ (k : ℕ) where
    pub request_never : k ≡ request_kind → n ≡ first_below n (λ i. rule_stops s (later i v) q k)
    unfolding rule_stops
    request_never e = sym (first_none n (λ i. rule_stops s (later i v) q k) (λ j b. rw e))

    pub none_left : n ≡ 0 → n ≡ first_below n (λ i. rule_stops s (later i v) q k)
    none_left z = let w = first_within n (λ i. rule_stops s (later i v) q k) in omega arith

    module _ (e : k ≡ request_kind → ⊥) where
      pub rule_never : (b : Bool) → b ≡ all_pass true v (clauses_at s q) → b ≡ false → n ≡ first_below n (λ i. rule_stops s (later i v) q k)
      unfolding rule_stops
      rule_never b g f =
          sym (first_none n (λ i. rule_stops s (later i v) q k) (λ j c. rw (ne_eqb k request_kind e) (all_fail j v (clauses_at s q) (sym g ∙ f))))

      pub rule_first : first_below n (λ i. all_hold (later i v) (clauses_at s q)) ≡ first_below n (λ i. rule_stops s (later i v) q k)
      unfolding rule_stops
      rule_first = first_same n (λ i. all_hold (later i v) (clauses_at s q)) (λ i. rule_stops s (later i v) q k) (λ i. rw (ne_eqb k request_kind e))

      -- one tick
      module _ (o : n ≡ 1) (b : Bool) (g : b ≡ all_hold v (clauses_at s q)) where
        pub rule_now : b ≡ true → 0 ≡ first_below n (λ i. rule_stops s (later i v) q k)
        unfolding later
        rule_now t = rule_at_lem (first_found n (λ i. all_hold (later i v) (clauses_at s q)) 0 (omega arith) (sym g ∙ t) (λ j c. absurd (omega arith)))
          where
            rule_at_lem : first_below n (λ i. all_hold (later i v) (clauses_at s q)) ≡ 0 → 0 ≡ first_below n (λ i. rule_stops s (later i v) q k)
            rule_at_lem f = sym f ∙ rule_first

        pub rule_not_now : b ≡ false → 1 ≡ first_below n (λ i. rule_stops s (later i v) q k)
        unfolding later
        rule_not_now t = sym o ∙ sym (first_none n (λ i. all_hold (later i v) (clauses_at s q)) (λ j c. only j (omega arith))) ∙ rule_first
          where
            only : (j : ℕ) → j ≡ 0 → all_hold (later j v) (clauses_at s q) ≡ false
            only j z = rw z (sym g ∙ t)

-- ---- the walk over the rules
pub record_never : (s : List ℕ) (v : List Value) (n q : ℕ) (x : Record) → (kind_of x ≡ 33 → ⊥) → n ≡ first_below n (λ i. stops_tick s (later i v) q x)
record_never s v n q x h = sym (first_none n (λ i. stops_tick s (later i v) q x) (λ k b. stops_never s (later k v) q x h))

pub record_first : (s : List ℕ) (v : List Value) (n q : ℕ) (x : Record) (h : RuleHead) → x ≡ Head h →
    first_below n (λ i. rule_stops s (later i v) q h.kind) ≡ first_below n (λ i. stops_tick s (later i v) q x)
unfolding stops_tick
record_first s v n q x h e = rw e

-- how many of n ticks are quiet, as far as the rules l tell, and as far as those from p on do
abbrev pub quiet_in : List Value → ℕ → List Rule → ℕ
quiet_in v n l = first_below n (λ i. is_busy (later i v) l)

abbrev pub quiet_from : List ℕ → List Value → ℕ → ℕ → ℕ
quiet_from s v n p = quiet_in v n (rules_from s p)

pub quiet_on : (s : List ℕ) (p m : ℕ) (x : Record) → p < length s → m ≡ part_length_at notations.Table s p → x ≡ record_of (take (p + m - p) (drop p s)) →
    (v : List Value) (n k : ℕ) → k ≡ first_below n (λ i. stops_tick s (later i v) (p + m) x) → quiet_from s v k (p + m) ≡ quiet_from s v n p
quiet_on s p m x h e f v n k g =
    rw g
    (first_or n (λ i. stops_tick s (later i v) (p + m) x) (λ i. is_busy (later i v) (gather (records (drop (p + m) s))).rules) ∙
    first_same n (λ i. stops_tick s (later i v) (p + m) x || is_busy (later i v) (gather (records (drop (p + m) s))).rules)
    (λ i. is_busy (later i v) (gather (records (drop p s))).rules)
    (λ i. rw (records_at s p m x h e f) (sym (busy_step s (later i v) (p + m) x))))

pub quiet_end : (s : List ℕ) (v : List Value) (n p : ℕ) → length s ≤ p → n ≡ quiet_from s v n p
unfolding is_busy gather
quiet_end s v n p h = sym (first_none n (λ i. is_busy (later i v) (gather (records (drop p s))).rules) (λ k b. rw (records_end s p h)))
