-- Quiet ticks by the words that list rules. Words with a guard that fails are passed over without a look at the table: listed or not, their
-- rule stops no tick.
use Rattle.std.specs.Prelude.{◌≡◌, refl, Bool, cond, ◌&&◌, ◌||◌, not, List, ◌∷◌, ◌++◌, ℕ, ◌+◌, ◌/◌, ◌%◌, ◌<◌, ◌≤◌, get_or, length, drop, eqb, ltb}
use Rattle.std.proofs.Common.{◌∙◌, ap, arith, sym, true, false, ne_eqb}
use Rattle.numbers.specs.declared.Value.{Value}
use Rattle.numbers.specs.Values.{value, signed, same_value}
use Rattle.table_format.specs.Variables.{variables}
use Rattle.table_semantics.specs.Rules.{value_of, all_hold}
use Rattle.numbers.specs.Lists.{first_below}
use Rattle.numbers.specs.ListLaws.{first_none, first_found}
use Rattle.records.specs.Events.{request_kind}
use Rattle.table_format.specs.Table.{Rule}
use Rattle.table_semantics.specs.Machine.{is_busy}
use Rattle.table_rules.specs.At.{clauses_at, head_in, rule_at}
use Rattle.table_index.specs.IndexLaws.{and_false}
use Rattle.table_ticks.specs.Ticking.{later, later_other, first_before, first_or, first_same, quiet_in}
use Rattle.table_index.specs.Index.{is_head, is_listed, listed}
use Rattle.table_rules.specs.Places.{HeadAt, head_kind}
use Rattle.table_ticks.specs.Stops.{rule_stops}
use Rattle.table_index.specs.Guards.{may_hold, untold}
use Rattle.table_index.specs.Listed.{listed_no_head, listed_head, guard_disables, rest_is_all, dropped, listed_over, IsPair}

-- ---- only the clock changes with the ticks, so a guard that fails fails at every one of them
pub later_may : (i : ℕ) (v : List Value) (g : ℕ) → may_hold (later i v) g ≡ may_hold v g
unfolding may_hold
later_may i v g = go (eqb (g / 4294967296) 0) refl
  where
    j : ℕ
    j = g / 4294967296

    y : Value
    y = value (signed (g % 4294967296))

    go : (b : Bool) → eqb j 0 ≡ b →
        cond b true (cond (ltb j variables) (same_value (value_of (later i v) j) y) true) ≡ cond b true (cond (ltb j variables) (same_value (value_of v j) y) true)
    go true e = refl
    go false e = rw (later_other i v j e)

-- the rule that two words list stops a tick
unfoldable pub listed_stops : List ℕ → List Value → ℕ → ℕ → Bool
listed_stops s v w g = is_listed s w g && rule_stops s v (w / 65536 + 11) (head_in s (w / 65536)).kind

busy_listed : (s : List ℕ) (v : List Value) (w g : ℕ) (l : List ℕ) (r : List Rule) →
    (listed_stops s v w g || is_busy v (listed s l ++ r)) ≡ is_busy v (listed s (w ∷ g ∷ l) ++ r)
unfolding listed_stops listed is_busy rule_stops
busy_listed s v w g l r = go (is_listed s w g)
  where
    go : (b : Bool) → ((b && (not (eqb (head_in s (w / 65536)).kind request_kind) && all_hold v (clauses_at s (w / 65536 + 11)))) || is_busy v (listed s l ++ r)) ≡
        is_busy v (cond b (rule_at s (w / 65536 + 11) (head_in s (w / 65536)) ∷ listed s l) (listed s l) ++ r)
    go true = refl
    go false = refl

quiet_listed : (s : List ℕ) (v : List Value) (w g : ℕ) (l : List ℕ) (r : List Rule) (n k : ℕ) → k ≡ first_below n (λ i. listed_stops s (later i v) w g) →
    quiet_in v k (listed s l ++ r) ≡ quiet_in v n (listed s (w ∷ g ∷ l) ++ r)
quiet_listed s v w g l r n k e =
    rw e
    (first_or n (λ i. listed_stops s (later i v) w g) (λ i. is_busy (later i v) (listed s l ++ r)) ∙
    first_same n (λ i. listed_stops s (later i v) w g || is_busy (later i v) (listed s l ++ r)) (λ i. is_busy (later i v) (listed s (w ∷ g ∷ l) ++ r))
    (λ i. busy_listed s (later i v) w g l r))

module _ (s : List ℕ) (v : List Value) (n w g : ℕ) where
  -- a guard that fails fails at every tick
  pub stops_guarded : (b : Bool) → b ≡ may_hold v g → b ≡ false → n ≡ first_below n (λ i. listed_stops s (later i v) w g)
  unfolding listed_stops rule_stops
  stops_guarded b e z = sym (first_none n (λ i. listed_stops s (later i v) w g) (λ i h. go i (is_listed s w g) refl))
    where
      go : (i : ℕ) (a : Bool) → is_listed s w g ≡ a →
          (is_listed s w g && (not (eqb (head_in s (w / 65536)).kind request_kind) && all_hold (later i v) (clauses_at s (w / 65536 + 11)))) ≡ false
      go i false x = rw x
      go i true x =
          rw (x, guard_disables s w g x (later i v) (later_may i v g ∙ sym e ∙ z)) (and_false (not (eqb (head_in s (w / 65536)).kind request_kind)))

  pub stops_no_head : (b : Bool) → b ≡ is_head s (w / 65536) → b ≡ false → n ≡ first_below n (λ i. listed_stops s (later i v) w g)
  unfolding listed_stops
  stops_no_head b e z = sym (first_none n (λ i. listed_stops s (later i v) w g) (λ i h. rw (← listed_no_head s w g b e z)))

  -- a rule for REQUEST stops no tick; k is the event kind
  pub stops_request : HeadAt s (w / 65536) → (k : ℕ) → k ≡ get_or s (w / 65536 + 1) 0 → k ≡ 8 → n ≡ first_below n (λ i. listed_stops s (later i v) w g)
  unfolding listed_stops rule_stops
  stops_request h k x z =
      let q : (head_in s (w / 65536)).kind ≡ 8 = sym (head_kind s (w / 65536) h) ∙ sym x ∙ z in
      sym (first_none n (λ i. listed_stops s (later i v) w g) (λ i l. rw q (and_false (is_listed s w g))))

  -- one tick, of another rule whose guard holds; b is whether the words list a rule and the rest of it holds
  module _ (o : n ≡ 1) (h : HeadAt s (w / 65536)) (k : ℕ) (x : k ≡ get_or s (w / 65536 + 1) 0) (z : k ≡ 8 → ⊥) (m : Bool) (y : m ≡ may_hold v g) (t : m ≡ true)
      (b : Bool) (q : b ≡ (is_listed s w g && all_hold v (clauses_at s (untold w g)))) where
    stops_by : b ≡ listed_stops s v w g
    unfolding listed_stops rule_stops
    stops_by =
        let p : (head_in s (w / 65536)).kind ≡ k = sym (x ∙ head_kind s (w / 65536) h) in
        q ∙ rest_is_all s w g v m y t ∙ rw (p, ne_eqb k 8 z)

    pub stops_now : b ≡ true → 0 ≡ first_below n (λ i. listed_stops s (later i v) w g)
    unfolding later
    stops_now e = sym (first_found n (λ i. listed_stops s (later i v) w g) 0 (omega arith) (sym stops_by ∙ e) (λ j c. absurd (omega arith)))

    pub stops_not_now : b ≡ false → 1 ≡ first_below n (λ i. listed_stops s (later i v) w g)
    unfolding later
    stops_not_now e = sym o ∙ sym (first_none n (λ i. listed_stops s (later i v) w g) (λ j c. only j (omega arith)))
      where
        only : (j : ℕ) → j ≡ 0 → listed_stops s (later j v) w g ≡ false
        only j u = rw u (sym stops_by ∙ e)

  -- its rule stops none of n ticks: listed or not
  pub stops_none : HeadAt s (w / 65536) → (k : ℕ) → k ≡ get_or s (w / 65536 + 1) 0 → (r : ℕ) → r ≡ first_below n (λ i. rule_stops s (later i v) (w / 65536 + 11) k) →
      r ≡ n → n ≡ first_below n (λ i. listed_stops s (later i v) w g)
  unfolding listed_stops
  stops_none h k x r y z = sym (first_none n (λ i. listed_stops s (later i v) w g) (λ i l. rw (none i l) (and_false (is_listed s w g))))
    where
      q : k ≡ (head_in s (w / 65536)).kind
      q = x ∙ head_kind s (w / 65536) h

      none : (i : ℕ) → i < n → rule_stops s (later i v) (w / 65536 + 11) (head_in s (w / 65536)).kind ≡ false
      none i l = ap (rule_stops s (later i v) (w / 65536 + 11)) (sym q) ∙ first_before n (λ j. rule_stops s (later j v) (w / 65536 + 11) k) i (rw (← y, z) l)

  module _ (b : Bool) (e : b ≡ is_listed s w g) where
    pub stops_not_listed : b ≡ false → n ≡ first_below n (λ i. listed_stops s (later i v) w g)
    unfolding listed_stops
    stops_not_listed z = sym (first_none n (λ i. listed_stops s (later i v) w g) (λ i h. rw (← e, z)))

    -- k is the event kind of the rule
    pub stops_listed : b ≡ true → (k : ℕ) → k ≡ get_or s (w / 65536 + 1) 0 → (r : ℕ) → r ≡ first_below n (λ i. rule_stops s (later i v) (w / 65536 + 11) k) →
        r ≡ first_below n (λ i. listed_stops s (later i v) w g)
    unfolding listed_stops
    stops_listed z k x r y =
        let q : k ≡ (head_in s (w / 65536)).kind = x ∙ head_kind s (w / 65536) (listed_head s w g b e z) in
        y ∙ first_same n (λ i. rule_stops s (later i v) (w / 65536 + 11) k) (λ i. listed_stops s (later i v) w g) (λ i. rw (← e, z, q))

abbrev pub QuietBy : List ℕ → List Value → ℕ → List ℕ → ℕ → List ℕ → Type 0
QuietBy s v k d n d₀ = (r : List Rule) → quiet_in v k (listed s d ++ r) ≡ quiet_in v n (listed s d₀ ++ r)

abbrev pub QuietListed : List ℕ → List Value → ℕ → List ℕ → ℕ → Type 0
QuietListed s v n d k = (r : List Rule) → quiet_in v k r ≡ quiet_in v n (listed s d ++ r)

module _ (s : List ℕ) (v : List Value) (n : ℕ) (d : List ℕ) where
  pub quiet_begin : QuietBy s v n (drop 0 d) n d
  quiet_begin r = refl

  pub quiet_next : (k i : ℕ) → i + 1 < length d → (q : ℕ) → q ≡ first_below k (λ j. listed_stops s (later j v) (get_or d i 0) (get_or d (i + 1) 0)) →
      QuietBy s v k (drop i d) n d → QuietBy s v q (drop (i + 2) d) n d
  quiet_next k i h q x a r =
      let b : quiet_in v k (listed s (get_or d i 0 ∷ get_or d (i + 1) 0 ∷ drop (i + 2) d) ++ r) ≡ quiet_in v n (listed s d ++ r) = rw (dropped d i h) at (a r) in
      quiet_listed s v (get_or d i 0) (get_or d (i + 1) 0) (drop (i + 2) d) r k q x ∙ b

  pub quiet_over : (k i : ℕ) → length d ≤ i + 1 → QuietBy s v k (drop i d) n d → QuietListed s v n d k
  quiet_over k i h a r = rw (listed_over s d i h) at (a r)

-- the same, two words x at a time: u are those that are left, then w
pub quiet_pair : (s : List ℕ) (v : List Value) (n : ℕ) (d : List ℕ) (k : ℕ) (u w x : List ℕ) → IsPair u x w → (q : ℕ) →
    q ≡ first_below k (λ j. listed_stops s (later j v) (get_or x 0 0) (get_or x 1 0)) → QuietBy s v k u n d → QuietBy s v q w n d
quiet_pair s v n d k u w x i q e a r =
    let b : quiet_in v k (listed s (get_or x 0 0 ∷ get_or x 1 0 ∷ w) ++ r) ≡ quiet_in v n (listed s d ++ r) = rw i.words at (a r) in
    quiet_listed s v (get_or x 0 0) (get_or x 1 0) w r k q e ∙ b

pub quiet_all : (s : List ℕ) (v : List Value) (n : ℕ) (d : List ℕ) (k : ℕ) (u : List ℕ) → length u < 2 → QuietBy s v k u n d → QuietListed s v n d k
quiet_all s v n d k u h a r = rw (listed_over s u 0 (omega arith)) at (a r)
