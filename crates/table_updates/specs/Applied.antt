-- The walk over the updates of a rule: what they write is gathered before any of it is written. Variables are marked, so that one written twice
-- is seen at once; for any other target the updates behind are searched.
use Rattle.std.specs.Prelude.{◌≡◌, Bool, true, false, cond, ◌&&◌, ◌||◌, ℕ, zero, suc, ◌+◌, ◌-◌, ◌<◌, ◌≤◌, get_or, set, drop, replicate, leb}
use Rattle.std.proofs.Common.{Result, Ok, Err, MatchResult, take, drop_of_length-le, refl, sym, ap, ◌∙◌, add-one, get_or-set_same, get_or-set_other, drop-cons, eq-eqb, ne_eqb, List, [], ◌∷◌, ◌++◌, arith, length, length-set, eqb}
use Rattle.std.proofs.Math.Bool.{or_assoc}
use Rattle.std.proofs.Math.Decide.{ℕ_discrete, dec_lt}
use Rattle.std.proofs.Math.ListN.{get_or-eq_default}
use Rattle.std.proofs.lemmas.List.{length-replicate}
use Rattle.std.proofs.Math.Seq.{take-suc-set}
use Rattle.numbers.specs.declared.Value.{Value}
use Rattle.numbers.specs.Lists.{store}
use Rattle.numbers.specs.ListLaws.{store_past, length_store}
use Rattle.numbers.specs.Values.{value, signed}
use Rattle.records.specs.declared.Notation.TheVariants as notations
use Rattle.records.specs.declared.Event.{Event}
use Rattle.records.specs.Format.{record_size, part_length_at}
use Rattle.records.specs.Events.{start_kind}
use Rattle.table_format.specs.declared.RuleHead.{RuleHead}
use Rattle.table_format.specs.declared.Update.{Update}
use Rattle.table_format.specs.declared.Record.{Record}
use Rattle.table_format.specs.declared.Record.TheVariants.{Initial, Head, Clause, Atomic, Change, Cut, Unknown}
use Rattle.table_format.specs.Variables.{variables}
use Rattle.table_format.specs.Format.{record_of, records, update_of, kind_of}
use Rattle.table_format.specs.Table.{gather}
use Rattle.records.specs.declared.walks.Part.{Part}
use Rattle.table_format.specs.Decoded.{is_head_lem, is_update, kind_cut, kind_whole}
use Rattle.table_format.specs.RecordsAt.{records_end, IsTablePart, records_step}
use Rattle.table_updates.specs.declared.Held.{Held}
use Rattle.table_updates.specs.declared.Stop.{Stop}
use Rattle.table_updates.specs.declared.Stop.TheVariants.{Twice, NoRoom}
use Rattle.table_semantics.specs.Rules.{applies, new_value, Write, writes, written_to, inconsistent, written}
use Rattle.table_semantics.proofs.RuleLaws.{writes_first}
use Rattle.table_semantics.specs.Runs.{values}
use Rattle.table_rules.specs.Bits.{values_store, length_values, put_length}
use Rattle.table_rules.specs.At.{bytes_at}
use Rattle.table_rules.specs.Places.{first_of_part, head_records, head_cut, update_records, update_cut, other_records, other_kind, kind_other}

-- ---- targets written twice, or marked before
unfoldable pub clashes : (ℕ → Bool) → List Write → Bool
clashes f [] = false
clashes f (w ∷ l) = f w.target || clashes (λ j. eqb j w.target || f j) l

clashes_same : (l : List Write) (f g : ℕ → Bool) → ((j : ℕ) → f j ≡ g j) → clashes f l ≡ clashes g l
unfolding clashes
clashes_same [] f g h = refl
clashes_same (w ∷ l) f g h =
    rw (h w.target, clashes_same l (λ j. eqb j w.target || f j) (λ j. eqb j w.target || g j) (λ j. ap (λ (b : Bool). eqb j w.target || b) (h j)))

-- some of the targets is marked
marked : (ℕ → Bool) → List Write → Bool
marked f [] = false
marked f (w ∷ l) = f w.target || marked f l

eqb_sym : (a b : ℕ) → eqb a b ≡ eqb b a
eqb_sym a b = go (ℕ_discrete a b)
  where
    go : Dec (a ≡ b) → eqb a b ≡ eqb b a
    go (yes e) = rw (eq-eqb a b e, eq-eqb b a (sym e))
    go (no n) = rw (ne_eqb a b n, ne_eqb b a (λ e. n (sym e)))

shuffled : (a b c d : Bool) → ((a || b) || (c || d)) ≡ ((a || c) || (b || d))
shuffled true b c d = refl
shuffled false true true d = refl
shuffled false true false d = refl
shuffled false false c d = refl

marked_more : (l : List Write) (f : ℕ → Bool) (t : ℕ) → marked (λ j. eqb j t || f j) l ≡ (written_to t l || marked f l)
unfolding marked written_to
marked_more [] f t = refl
marked_more (w ∷ l) f t =
    rw (eqb_sym w.target t, marked_more l f t) (shuffled (eqb t w.target) (f w.target) (written_to t l) (marked f l))

turned : (a b c d : Bool) → (a || ((b || c) || d)) ≡ ((a || c) || (b || d))
turned true b c d = refl
turned false true true d = refl
turned false true false d = refl
turned false false c d = refl

clashes_all : (l : List Write) (f : ℕ → Bool) → clashes f l ≡ (marked f l || inconsistent l)
unfolding clashes marked inconsistent
clashes_all [] f = refl
clashes_all (w ∷ l) f =
    rw (clashes_all l (λ j. eqb j w.target || f j), marked_more l f w.target) (turned (f w.target) (written_to w.target l) (marked f l) (inconsistent l))

-- one more mark: what follows clashes with it only by writing its target again
clashes_more : (l : List Write) (f : ℕ → Bool) (t : ℕ) → clashes (λ j. eqb j t || f j) l ≡ (written_to t l || clashes f l)
clashes_more l f t =
    clashes_all l (λ j. eqb j t || f j) ∙ rw (marked_more l f t, clashes_all l f) (or_assoc (written_to t l) (marked f l) (inconsistent l))

unmarked : (l : List Write) (f : ℕ → Bool) → ((j : ℕ) → f j ≡ false) → marked f l ≡ false
unfolding marked
unmarked [] f h = refl
unmarked (w ∷ l) f h = rw (h w.target) (unmarked l f h)

none_marked : (n j : ℕ) → get_or (replicate n false) j false ≡ false
none_marked zero j = refl
none_marked (suc n) zero = refl
none_marked (suc n) (suc j) = none_marked n j

-- ---- marks
abbrev pub is_marked : List Bool → ℕ → Bool
is_marked m j = get_or m j false

marked_one : (m : List Bool) (t : ℕ) → t < length m → (j : ℕ) → get_or (set m t true) j false ≡ (eqb j t || get_or m j false)
marked_one m t h j = go (ℕ_discrete j t)
  where
    go : Dec (j ≡ t) → get_or (set m t true) j false ≡ (eqb j t || get_or m j false)
    go (yes e) = rw (eq-eqb j t e, e) (get_or-set_same m t true false h)
    go (no n) = rw (ne_eqb j t n) (get_or-set_other m t j true false n)

written_append : (a b : List Write) (v : List Value) → written (a ++ b) v ≡ written b (written a v)
unfolding written
written_append [] b v = refl
written_append (w ∷ a) b v = written_append a b (store variables v w.target w.value)

-- ---- the writes that are held
abbrev pub write_of : Held → Write
write_of h = record { target = h.target; value = value (signed h.bits) }

unfoldable pub pending : List Held → List Write
pending [] = []
pending (h ∷ l) = write_of h ∷ pending l

pending_append : (a b : List Held) → pending (a ++ b) ≡ pending a ++ pending b
unfolding pending
pending_append [] b = refl
pending_append (h ∷ a) b = ap (λ (l : List Write). write_of h ∷ l) (pending_append a b)

-- one more of those at the front
pending_more : (k : ℕ) (l : List Held) (h : Held) → k < length l → pending (take (k + 1) (set l k h)) ≡ pending (take k l) ++ (write_of h ∷ [])
unfolding pending
pending_more k l h b = rw (add-one k, take-suc-set l k h b) (pending_append (take k l) (h ∷ []))

-- ---- how many of the first n numbers are marked
unfoldable pub marked_below : ℕ → List Bool → ℕ
marked_below zero m = 0
marked_below (suc n) [] = 0
marked_below (suc n) (b ∷ m) = cond b 1 0 + marked_below n m

below_all : (n : ℕ) (m : List Bool) → marked_below n m ≤ n
unfolding marked_below
below_all zero m = omega arith
below_all (suc n) [] = omega arith
below_all (suc n) (true ∷ m) = let i = below_all n m in omega arith
below_all (suc n) (false ∷ m) = let i = below_all n m in omega arith

-- where one is not, not all are
below_free : (n : ℕ) (m : List Bool) (j : ℕ) → j < n → get_or m j false ≡ false → marked_below n m < n
unfolding marked_below
below_free zero m j h e = absurd (omega arith)
below_free (suc n) [] j h e = omega arith
below_free (suc n) (true ∷ m) zero h e = let z : ◌≡◌ {A = ℕ} 0 1 = cc in absurd (omega arith)
below_free (suc n) (false ∷ m) zero h e = let i = below_all n m in omega arith
below_free (suc n) (true ∷ m) (suc j) h e = let i = below_free n m j (omega arith) e in omega arith
below_free (suc n) (false ∷ m) (suc j) h e = let i = below_free n m j (omega arith) e in omega arith

below_mark : (n : ℕ) (m : List Bool) (j : ℕ) → j < n → j < length m → get_or m j false ≡ false → marked_below n (set m j true) ≡ marked_below n m + 1
unfolding marked_below
below_mark zero m j h l e = absurd (omega arith)
below_mark (suc n) [] j h l e = absurd (omega arith)
below_mark (suc n) (true ∷ m) zero h l e = let z : ◌≡◌ {A = ℕ} 0 1 = cc in absurd (omega arith)
below_mark (suc n) (false ∷ m) zero h l e = omega arith
below_mark (suc n) (true ∷ m) (suc j) h l e = let i = below_mark n m j (omega arith) (omega arith) e in omega arith
below_mark (suc n) (false ∷ m) (suc j) h l e = let i = below_mark n m j (omega arith) (omega arith) e in omega arith

below_none : (n k : ℕ) → marked_below n (replicate k false) ≡ 0
unfolding marked_below
below_none zero k = refl
below_none (suc n) zero = refl
below_none (suc n) (suc k) = let i = below_none n k in omega arith

-- ---- one update: w is what it writes, l what the updates behind it write; k of the writes h were held before it
-- k' are held after it
pub record HoldsOn (w l : List Write) (k k' : ℕ) (h h' : List Held) (m m' : List Bool) : Type 0 where
  pub once : clashes (is_marked m) (w ++ l) ≡ clashes (is_marked m') l
  pub held : k ≡ marked_below variables m → k' ≡ marked_below variables m'
  pub room : k ≤ length h → k' ≤ length h'
  pub bits : (v : List Value) → written (pending (take k' h')) v ≡ written w (written (pending (take k h)) v)

-- why it is not held
unfoldable pub StopsAt : List Write → List Write → ℕ → List Held → List Bool → Stop → Type 0
StopsAt w l k h m Twice = clashes (is_marked m) (w ++ l) ≡ true
StopsAt w l k h m NoRoom = k ≡ marked_below variables m → variables ≤ length h → ⊥

abbrev pub Gathers : List Write → List Write → Result ℕ Stop → ℕ → List Held → List Held → List Bool → List Bool → Type 0
Gathers w l r k h h' m m' =
    (length h' ≡ length h) × (length m' ≡ length m) × MatchResult r (λ k'. HoldsOn w l k k' h h' m m') (λ q. StopsAt w l k h m q)

module _ (n : ℕ) (old : List Value) (u : Update) (b : Bool) (e : b ≡ applies old u) (l : List Write) (k : ℕ) (t : List Held) (m : List Bool) where
  pub update_left : b ≡ false → Gathers (writes n old (u ∷ [])) l (Ok k) k t t m m
  unfolding writes written
  update_left h = rw (← e, h) (refl, refl, record { once = refl; held = λ q. q; room = λ q. q; bits = λ v. refl })

  module _ (h : b ≡ true) (j : ℕ) (ej : j ≡ u.target) where
    clashes_here : clashes (is_marked m) (writes n old (u ∷ []) ++ l) ≡ (is_marked m j || clashes (λ i. eqb i j || is_marked m i) l)
    unfolding writes clashes
    clashes_here = rw (← e, h, ← ej)

    -- a target past the variables; g tells whether it is written again
    module _ (p : variables ≤ j) (c : length m ≡ variables) (g : Bool) (eg : g ≡ written_to j l) where
      clashes_past : clashes (is_marked m) (writes n old (u ∷ []) ++ l) ≡ (g || clashes (is_marked m) l)
      clashes_past =
          let f : is_marked m j ≡ false = get_or-eq_default m false (omega arith) in
          clashes_here ∙ rw (f, eg) (clashes_more l (is_marked m) j)

      pub update_past_again : g ≡ true → Gathers (writes n old (u ∷ [])) l (Err Twice) k t t m m
      unfolding StopsAt
      update_past_again y = (refl, refl, clashes_past ∙ rw y)

      pub update_past : g ≡ false → Gathers (writes n old (u ∷ [])) l (Ok k) k t t m m
      unfolding writes written
      update_past y = (
        refl,
        refl,
        record {
          once = clashes_past ∙ rw y;
          held = λ q. q;
          room = λ q. q;
          bits = λ v. rw (← e, h, ← ej) (sym (store_past variables (written (pending (take k t)) v) j (new_value n old u) p));
        },
      )

    -- a variable; g tells whether it was marked before
    module _ (p : j < variables) (c : length m ≡ variables) (g : Bool) (eg : g ≡ is_marked m j) (m' : List Bool) (em : m' ≡ set m j true) where
      size_marks : length m' ≡ length m
      size_marks = ap length em ∙ length-set m j true

      pub update_twice : g ≡ true → Gathers (writes n old (u ∷ [])) l (Err Twice) k t t m m'
      unfolding StopsAt
      update_twice y = (refl, size_marks, clashes_here ∙ rw (← eg, y))

      module _ (y : g ≡ false) where
        free : is_marked m j ≡ false
        free = sym eg ∙ y

        pub update_full : length t ≤ k → Gathers (writes n old (u ∷ [])) l (Err NoRoom) k t t m m'
        unfolding StopsAt
        update_full f = (refl, size_marks, λ q a. let i = below_free variables m j p free in absurd (omega arith))

        pub update_held : k < length t → (o : ℕ) → value (signed o) ≡ new_value n old u →
            Gathers (writes n old (u ∷ [])) l (Ok (k + 1)) k t (set t k (record { target = j; bits = o })) m m'
        unfolding writes written
        update_held a o eo =
            let w : j < length m = omega arith in
            let x : Held = record { target = j; bits = o } in (
              length-set t k x,
              size_marks,
              record {
                once = clashes_here ∙ rw (free, em) (clashes_same l (λ i. eqb i j || is_marked m i) (is_marked (set m j true)) (λ i. sym (marked_one m j w i)));
                held = λ q. ap (λ (i : ℕ). i + 1) q ∙ sym (ap (marked_below variables) em ∙ below_mark variables m j p w free);
                room = λ q. rw (length-set t k x) (omega arith);
                bits = λ v.
                    ap (λ (q : List Write). written q v) (pending_more k t x a) ∙
                    written_append (pending (take k t)) (write_of x ∷ []) v ∙ rw (← e, h, ← ej, eo);
              },
            )

-- ---- what is still to be written, from the record at p on
abbrev pub writes_from : ℕ → List Value → List ℕ → ℕ → List Write
writes_from n old s p = writes n old (gather (records (drop p s))).updates

writes_step : (n : ℕ) (old : List Value) (u : Update) (l : List Record) →
    writes n old (gather (Change u ∷ l)).updates ≡ writes n old (u ∷ []) ++ writes n old (gather l).updates
unfolding gather
writes_step n old u l = writes_first n old u (gather l).updates

no_writes : (n : ℕ) (old : List Value) (x : Record) (l : List Record) → (kind_of x ≡ 33 → ⊥) → (kind_of x ≡ 36 → ⊥) →
    writes n old (gather l).updates ≡ writes n old (gather (x ∷ l)).updates
unfolding gather kind_of
no_writes n old (Initial x) l h k = refl
no_writes n old (Head x) l h k = absurd (h refl)
no_writes n old Clause l h k = refl
no_writes n old (Atomic a) l h k = refl
no_writes n old (Change u) l h k = absurd (k refl)
no_writes n old Cut l h k = refl
no_writes n old Unknown l h k = refl

module _ (n : ℕ) (v : List Value) (s : List ℕ) (p : ℕ) where
  from_end : length s ≤ p → writes_from n v s p ≡ []
  unfolding gather writes
  from_end h = rw (records_end s p h)

  module _ (h : p < length s) where
    from_cut : get_or s p 0 ≡ 36 → length s - p < 17 → writes_from n v s p ≡ []
    unfolding gather writes
    from_cut q l = rw (update_cut s p h q l)

    from_head : get_or s p 0 ≡ 33 → writes_from n v s p ≡ []
    unfolding gather writes
    from_head q = go (dec_lt (length s - p) 11)
      where
        go : Dec (length s - p < 11) → writes_from n v s p ≡ []
        go (yes l) = rw (head_cut s p h q l)
        go (no l) = rw (head_records s p q (omega arith))

    from_other : (j : ℕ) → j ≡ part_length_at notations.Table s p → (get_or s p 0 ≡ 33 → ⊥) → (get_or s p 0 ≡ 36 → ⊥) →
        writes_from n v s (p + j) ≡ writes_from n v s p
    from_other j e q r =
        no_writes n v (record_of (bytes_at s p j)) (records (drop (p + j) s))
        (other_kind s p j h e 33 q (omega arith)) (other_kind s p j h e 36 r (omega arith)) ∙
        ap (λ (r : List Record). writes n v (gather r).updates) (sym (other_records s p j h e))

    from_update : get_or s p 0 ≡ 36 → 17 ≤ length s - p → writes_from n v s p ≡ writes n v (update_of (bytes_at s p 17) ∷ []) ++ writes_from n v s (p + 17)
    from_update q l =
        ap (λ (r : List Record). writes n v (gather r).updates) (update_records s p q (omega arith)) ∙
        writes_step n v (update_of (bytes_at s p 17)) (records (drop (p + 17) s))

-- ---- looking ahead: r tells whether target j is written from the record at p on; the event's amount does not matter
abbrev pub WritesTo : List Value → List ℕ → ℕ → ℕ → Bool → Type 0
WritesTo v s p j r = (n : ℕ) → r ≡ written_to j (writes_from n v s p)

first_write : (n : ℕ) (v : List Value) (u : Update) (l : List Write) (j : ℕ) (b : Bool) → b ≡ (applies v u && eqb u.target j) →
    written_to j (writes n v (u ∷ []) ++ l) ≡ (b || written_to j l)
unfolding writes written_to
first_write n v u l j b e = rw e (go (applies v u))
  where
    go : (a : Bool) →
        written_to j (cond a (record { target = u.target; value = new_value n v u } ∷ []) [] ++ l) ≡ ((a && eqb u.target j) || written_to j l)
    go true = rw (eqb_sym j u.target)
    go false = refl

-- the walk has come from f to p, and found nothing yet
abbrev pub Looking : List Value → List ℕ → ℕ → ℕ → ℕ → Type 0
Looking v s f j p = (n : ℕ) → written_to j (writes_from n v s p) ≡ written_to j (writes_from n v s f)

module _ (v : List Value) (s : List ℕ) (f j p : ℕ) (i : Looking v s f j p) where
  nothing : ((n : ℕ) → writes_from n v s p ≡ []) → WritesTo v s f j false
  unfolding written_to
  nothing e n = rw (e n) at (i n)

  pub looking_end : length s ≤ p → WritesTo v s f j false
  looking_end h = nothing (λ n. from_end n v s p h)

  module _ (h : p < length s) where
    pub looking_cut : get_or s p 0 ≡ 36 → length s - p < 17 → WritesTo v s f j false
    looking_cut q l = nothing (λ n. from_cut n v s p h q l)

    pub looking_head : get_or s p 0 ≡ 33 → WritesTo v s f j false
    looking_head q = nothing (λ n. from_head n v s p h q)

    pub looking_other : (d : ℕ) → d ≡ part_length_at notations.Table s p → (get_or s p 0 ≡ 33 → ⊥) → (get_or s p 0 ≡ 36 → ⊥) → Looking v s f j (p + d)
    looking_other d e q r n = ap (written_to j) (from_other n v s p h d e q r) ∙ i n

    module _ (q : get_or s p 0 ≡ 36) (l : 17 ≤ length s - p) (b : Bool)
        (e : b ≡ (applies v (update_of (bytes_at s p 17)) && eqb (update_of (bytes_at s p 17)).target j)) where
      here_or_behind : (n : ℕ) → (b || written_to j (writes_from n v s (p + 17))) ≡ written_to j (writes_from n v s f)
      here_or_behind n =
          sym (ap (written_to j) (from_update n v s p h q l) ∙ first_write n v (update_of (bytes_at s p 17)) (writes_from n v s (p + 17)) j b e) ∙ i n

      pub looking_found : b ≡ true → WritesTo v s f j true
      looking_found y n = rw y at (here_or_behind n)

      pub looking_on : b ≡ false → Looking v s f j (p + 17)
      looking_on y n = rw y at (here_or_behind n)

-- ---- what a part tells of the rest: y is the part at p, q the place after it, k its kind
module _ (n : ℕ) (v : List Value) (s : List ℕ) (p : ℕ) (y : Part) (q : ℕ) (w : IsTablePart s p y q) (k : ℕ) (e : k ≡ kind_of (record_of y.bytes.now)) where
  pub part_head : k ≡ 33 → writes_from n v s p ≡ []
  unfolding gather writes
  part_head z = rw (records_step s p y q w, is_head_lem y.bytes.now k e z _ refl)

  pub part_update : k ≡ 36 → writes_from n v s p ≡ writes n v (update_of y.bytes.now ∷ []) ++ writes_from n v s q
  part_update z =
      ap (λ (r : List Record). writes n v (gather r).updates) (records_step s p y q w ∙ ap (λ (x : Record). x ∷ records (drop q s)) (is_update y.bytes.now k e z)) ∙
      writes_step n v (update_of y.bytes.now) (records (drop q s))

  pub part_other : (k ≡ 33 → ⊥) → (k ≡ 36 → ⊥) → writes_from n v s q ≡ writes_from n v s p
  part_other f g =
      no_writes n v (record_of y.bytes.now) (records (drop q s)) (λ z. f (e ∙ z)) (λ z. g (e ∙ z)) ∙
      ap (λ (r : List Record). writes n v (gather r).updates) (sym (records_step s p y q w))

-- the search for a target, by such parts
module _ (v : List Value) (s : List ℕ) (f j p : ℕ) (i : Looking v s f j p) (y : Part) (q : ℕ) (w : IsTablePart s p y q) (k : ℕ)
    (e : k ≡ kind_of (record_of y.bytes.now)) where
  pub sees_head : k ≡ 33 → WritesTo v s f j false
  unfolding written_to
  sees_head z n = rw (part_head n v s p y q w k e z) at (i n)

  pub sees_other : (k ≡ 33 → ⊥) → (k ≡ 36 → ⊥) → Looking v s f j q
  sees_other g h n = ap (written_to j) (part_other n v s p y q w k e g h) ∙ i n

  module _ (z : k ≡ 36) (b : Bool) (g : b ≡ (applies v (update_of y.bytes.now) && eqb (update_of y.bytes.now).target j)) where
    here_or_later : (n : ℕ) → (b || written_to j (writes_from n v s q)) ≡ written_to j (writes_from n v s f)
    here_or_later n =
        sym (ap (written_to j) (part_update n v s p y q w k e z) ∙ first_write n v (update_of y.bytes.now) (writes_from n v s q) j b g) ∙ i n

    pub sees_write : b ≡ true → WritesTo v s f j true
    sees_write t n = rw t at (here_or_later n)

    pub sees_none : b ≡ false → Looking v s f j q
    sees_none t n = rw t at (here_or_later n)

-- ---- the loop
-- w is all that is to be written, l what is left of it; k writes are held, in a room for so many
pub record Gathering (w : List Write) (v : List Value) (l : List Write) (k : ℕ) (h : List Held) (m : List Bool) (a : ℕ) : Type 0 where
  pub size : length h ≡ a
  pub marks : length m ≡ variables
  pub held : k ≡ marked_below variables m
  pub room : k ≤ length h
  pub twice : clashes (is_marked m) l ≡ inconsistent w
  pub bits : written l (written (pending (take k h)) v) ≡ written w v

-- all are held: k of them
pub record HoldsAll (w : List Write) (v : List Value) (k : ℕ) (h : List Held) : Type 0 where
  pub room : k ≤ length h
  pub once : inconsistent w ≡ false
  pub bits : written (pending (take k h)) v ≡ written w v

-- or a target is written twice, or the room is less than for all variables
unfoldable pub Stops : List Write → ℕ → Stop → Type 0
Stops w a Twice = inconsistent w ≡ true
Stops w a NoRoom = variables ≤ a → ⊥

abbrev pub Collected : List Write → List Value → Result ℕ Stop → List Held → ℕ → Type 0
Collected w v r h a = (length h ≡ a) × MatchResult r (λ k. HoldsAll w v k h) (λ q. Stops w a q)

pub unmarked_size : (m : List Bool) → m ≡ replicate variables false → variables ≡ length m
unmarked_size m e = sym (ap length e ∙ length-replicate variables false)

pub gathering_begin : (w : List Write) (v : List Value) (h : List Held) (m : List Bool) → m ≡ replicate variables false → Gathering w v w 0 h m (length h)
unfolding pending written
gathering_begin w v h m e = record {
  size = refl;
  marks = sym (unmarked_size m e);
  held = sym (ap (marked_below variables) e ∙ below_none variables variables);
  room = omega arith;
  twice = clashes_all w (is_marked m) ∙ rw (unmarked w (is_marked m) (λ j. ap (λ (l : List Bool). get_or l j false) e ∙ none_marked variables j));
  bits = refl;
}

module _ (w : List Write) (v : List Value) (k : ℕ) (h : List Held) (m : List Bool) (a : ℕ) where
  gathered : (l : List Write) → Gathering w v l k h m a → l ≡ [] → Collected w v (Ok k) h a
  unfolding clashes written
  gathered l i e = (i.size, record { room = i.room; once = sym (rw e at i.twice); bits = rw e at i.bits })

  module _ (n : ℕ) (s : List ℕ) (p : ℕ) (i : Gathering w v (writes_from n v s p) k h m a) where
    pub gathering_end : length s ≤ p → Collected w v (Ok k) h a
    gathering_end b = gathered (writes_from n v s p) i (from_end n v s p b)

    module _ (y : Part) (q : ℕ) (o : IsTablePart s p y q) (c : ℕ) (e : c ≡ kind_of (record_of y.bytes.now)) where
      pub gathering_head : c ≡ 33 → Collected w v (Ok k) h a
      gathering_head z = gathered (writes_from n v s p) i (part_head n v s p y q o c e z)

      pub gathering_other : (c ≡ 33 → ⊥) → (c ≡ 36 → ⊥) → Gathering w v (writes_from n v s q) k h m a
      gathering_other f g = rw (part_other n v s p y q o c e f g) i

      module _ (z : c ≡ 36) (h' : List Held) (m' : List Bool) (sh : length h' ≡ length h) (sm : length m' ≡ length m) where
        abbrev here : List Write
        here = writes n v (update_of y.bytes.now ∷ [])

        clash_left : clashes (is_marked m) (here ++ writes_from n v s q) ≡ inconsistent w
        clash_left = rw (part_update n v s p y q o c e z) at i.twice

        pub gathering_stops : (r : Stop) → StopsAt here (writes_from n v s q) k h m r → Collected w v (Err r) h' a
        unfolding StopsAt Stops
        gathering_stops Twice t = (sh ∙ i.size, sym clash_left ∙ t)
        gathering_stops NoRoom t = (sh ∙ i.size, λ x. t i.held (rw i.size x))

        pub gathering_on : (k' : ℕ) → HoldsOn here (writes_from n v s q) k k' h h' m m' → Gathering w v (writes_from n v s q) k' h' m' a
        gathering_on k' g = record {
          size = sh ∙ i.size;
          marks = sm ∙ i.marks;
          held = g.held i.held;
          room = g.room i.room;
          twice = sym g.once ∙ clash_left;
          bits =
              rw (g.bits v)
              (sym (written_append here (writes_from n v s q) (written (pending (take k h)) v)) ∙ (rw (part_update n v s p y q o c e z) at i.bits));
        }

    -- by the first byte b of the part alone: a head may be cut, and is the last record then
    module _ (y : Part) (q : ℕ) (o : IsTablePart s p y q) (b : ℕ) (e : b ≡ get_or y.bytes.now 0 0) where
      pub first_head : b ≡ 33 → Collected w v (Ok k) h a
      first_head z = gathered (writes_from n v s p) i (from_head n v s p o.within (sym (first_of_part s p y q o) ∙ sym e ∙ z))

      pub first_other : (b ≡ 33 → ⊥) → (b ≡ 36 → ⊥) → Gathering w v (writes_from n v s q) k h m a
      first_other f g = gathering_other y q o (kind_of (record_of y.bytes.now)) refl (kind_other y.bytes.now b 33 e f (omega arith)) (kind_other y.bytes.now b 36 e g (omega arith))

      module _ (z : b ≡ 36) where
        pub first_cut : length y.bytes.now < 17 → Gathering w v (writes_from n v s q) k h m a
        unfolding record_size
        first_cut l =
            let r = kind_cut y.bytes.now b 17 e (rw z) (λ x. omega arith) l in
            gathering_other y q o 0 r (λ x. omega arith) (λ x. omega arith)

        pub first_update : 17 ≤ length y.bytes.now → 36 ≡ kind_of (record_of y.bytes.now)
        unfolding record_size
        first_update l = sym z ∙ kind_whole y.bytes.now b 17 e (rw z) (λ x. omega arith) l

-- "length outside", by the rule's head
unfoldable pub head_allows : Event → RuleHead → Bool
head_allows e h = cond (eqb e.kind start_kind) (leb h.low e.amount && leb e.amount h.high) true

-- ---- writing them: those of t from i on are left
pub record Writing (t : List Held) (v₀ v : List ℕ) (i : ℕ) : Type 0 where
  pub size : length v ≡ length v₀
  pub left : written (pending (drop i t)) (values v) ≡ written (pending t) (values v₀)

pub writing_begin : (t : List Held) (v : List ℕ) → Writing t v v 0
writing_begin t v = record { size = refl; left = refl }

pub writing_on : (t : List Held) (v₀ v : List ℕ) (i : ℕ) (x : Held) → Writing t v₀ v i → i < length t → (v' : List ℕ) →
    v' ≡ store variables v (get_or t i x).target (get_or t i x).bits → Writing t v₀ v' (i + 1)
unfolding pending written
writing_on t v₀ v i x w a v' e =
    let y : Held = get_or t i x in
    let d : drop i t ≡ y ∷ drop (i + 1) t = rw (add-one i) (drop-cons t i x a) in
    record {
      size = put_length v v' y.target y.bits e ∙ w.size;
      left = rw (e, values_store v y.target y.bits) (rw d at w.left);
    }

pub writing_end : (t : List Held) (v₀ v : List ℕ) (i : ℕ) → length t ≤ i → Writing t v₀ v i → values v ≡ written (pending t) (values v₀)
unfolding pending written
writing_end t v₀ v i h w = rw (drop_of_length-le t h) at w.left

-- ---- a rule fired, as far as there is room for so many writes
pub record Takes (w : List Write) (v v' : List ℕ) : Type 0 where
  pub once : inconsistent w ≡ false
  pub taken : values v' ≡ written w (values v)

abbrev pub Fired : List Write → List ℕ → Result Unit Stop → List ℕ → ℕ → Type 0
Fired w v r v' a = (length v' ≡ length v) × MatchResult r (λ _. Takes w v v') (λ q. (v' ≡ v) × Stops w a q)

module _ (w : List Write) (v : List ℕ) (h : List Held) where
  pub fired_all : (k : ℕ) → HoldsAll w (values v) k h → (v' : List ℕ) → values v' ≡ written (pending (take k h)) (values v) → Fired w v (Ok tt) v' (length h)
  unfolding written
  fired_all k o v' e = (
    sym (length_values v') ∙ ap length e ∙ length_written (pending (take k h)) (values v) ∙ length_values v,
    record { once = o.once; taken = e ∙ o.bits },
  )
    where
      length_written : (l : List Write) (v : List Value) → length (written l v) ≡ length v
      length_written [] v = refl
      length_written (x ∷ l) v = length_written l (store variables v x.target x.value) ∙ length_store variables v x.target x.value

-- how much room there was matters only where it was not enough
pub fired_room : (w : List Write) (v : List ℕ) (r : Result Unit Stop) (v' : List ℕ) (a b : ℕ) → (r ≡ Err NoRoom → ⊥) → Fired w v r v' a → Fired w v r v' b
unfolding Stops
fired_room w v (Ok x) v' a b n f = f
fired_room w v (Err Twice) v' a b n f = f
fired_room w v (Err NoRoom) v' a b n f = absurd (n refl)

-- a second try, with more room: the first left the bits as they were
pub fired_again : (w : List ℕ → List Write) (v u : List ℕ) (r : Result Unit Stop) (v' : List ℕ) (a b : ℕ) → Fired (w v) v (Err NoRoom) u a →
    Fired (w u) u r v' b → Fired (w v) v r v' b
fired_again w v u r v' a b f g = let e : u ≡ v = f.1.0 in rw e at g
