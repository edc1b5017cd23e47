-- One rule more: what it adds to the list of offered events where it is not enabled, where no event has its kind, and where there is
-- room for its event or none.
use Rattle.std.specs.Prelude.{◌≡◌, refl, Bool, true, false, ◌&&◌, ◌||◌, not, List, [], ◌∷◌, ◌++◌, ℕ, ◌+◌, ◌-◌, ◌*◌, ◌<◌, length, eqb, ltb}
use Rattle.std.proofs.Common.{sym, ◌∙◌, ap, append-nil, append_assoc, arith, length-append, ne_eqb, eqb-true, ltb-true, ltb-false}
use Rattle.std.proofs.lemmas.Bool.{false≢true, eqb-false}
use Rattle.std.proofs.lemmas.List.Edits.{sets}
use Rattle.numbers.specs.declared.Value.{Value}
use Rattle.numbers.specs.Lists.{join_below}
use Rattle.records.specs.Events.{request_kind}
use Rattle.table_format.specs.declared.RuleHead.{RuleHead}
use Rattle.table_format.specs.declared.Atom.{Atom}
use Rattle.table_format.specs.declared.Update.{Update}
use Rattle.table_format.specs.Table.{Rule}
use Rattle.table_semantics.specs.Rules.{all_hold, is_enabled, enabled_rules}
use Rattle.table_semantics.specs.Machine.{is_busy}
use Rattle.enabled.specs.Enabled.{Offer, ids, last_offered, in_order, numbers_of, offer_by, offers_by, table_offers}
use Rattle.enabled.specs.Told.{offer_size}
use Rattle.table_offers.specs.declared.Seen.{Seen}
use Rattle.table_offers.specs.Adds.{Told, GoesOn, Adds}
use Rattle.table_offers.specs.Order.{join_none, Split, same_offers, not_enabled, one_more_offer}
use Rattle.table_offers.specs.Inserted.{inserted, inserted_one}

pub told_none : (v : List Value) (d : List ℕ) → Told v [] d (record { count = 0; busy = false }) d
unfolding table_offers in_order enabled_rules offers_by is_busy numbers_of
told_none v d = record { count = ap length (sym nothing); busy = refl; size = refl; numbers = λ h. ap (λ (l : List Offer). sets d 0 (numbers_of l)) (sym nothing) }
  where
    nothing : table_offers [] v ≡ []
    nothing = join_none last_offered (λ k. join_below ids (λ i. [])) (λ k l. join_none ids (λ i. []) (λ i m. refl))

module _ (v : List Value) (t : Seen) (d : List ℕ) where
  pub goes_none : GoesOn v [] t d t d
  goes_none = record { kept = refl; goes = λ q d₀ k. rw append-nil k }

  pub goes_then : (l m : List Rule) (t' : Seen) (d' : List ℕ) (t'' : Seen) (d'' : List ℕ) → GoesOn v l t d t' d' → GoesOn v m t' d' t'' d'' → GoesOn v (l ++ m) t d t'' d''
  goes_then l m t' d' t'' d'' a b = record {
    kept = b.kept ∙ a.kept;
    goes = λ q d₀ k. rw (← append_assoc q l m) (b.goes (q ++ l) d₀ (a.goes q d₀ k));
  }

-- ---- one rule more
busy_one : (v : List Value) (q : List Rule) (r : Rule) → is_busy v (q ++ (r ∷ [])) ≡ (is_busy v q || (not (eqb r.head.kind request_kind) && is_enabled v r))
unfolding is_busy
busy_one v [] r = go (not (eqb r.head.kind request_kind) && is_enabled v r)
  where
    go : (b : Bool) → (b || false) ≡ b
    go true = refl
    go false = refl
busy_one v (x ∷ q) r = rw (busy_one v q r) (go (not (eqb x.head.kind request_kind) && is_enabled v x))
  where
    y : Bool
    y = not (eqb r.head.kind request_kind) && is_enabled v r

    go : (b : Bool) → (b || (is_busy v q || y)) ≡ ((b || is_busy v q) || y)
    go true = refl
    go false = refl

and_false : (a : Bool) → (a && false) ≡ false
and_false true = refl
and_false false = refl

and_true : (a : Bool) → (a && true) ≡ a
and_true true = refl
and_true false = refl

or_false : (a : Bool) → (a || false) ≡ a
or_false true = refl
or_false false = refl

-- a rule that is not enabled
pub goes_disabled : (v : List Value) (r : Rule) (t : Seen) (d : List ℕ) → is_enabled v r ≡ false → GoesOn v (r ∷ []) t d t d
goes_disabled v r t d e = record { kept = refl; goes = go }
  where
    go : (q : List Rule) (d₀ : List ℕ) → Told v q d₀ t d → Told v (q ++ (r ∷ [])) d₀ t d
    go q d₀ k =
        let o = not_enabled v q r e in
        record {
          count = k.count ∙ ap length (sym o);
          busy = k.busy ∙ sym (busy_one v q r ∙ rw (e, and_false (not (eqb r.head.kind request_kind)), or_false (is_busy v q)));
          size = k.size;
          numbers = rw o k.numbers;
        }

-- b tells whether some rule stops a tick
module _ (h : RuleHead) (t : Seen) (d : List ℕ) (b : Bool) (eb : b ≡ (t.busy || not (eqb h.kind request_kind))) where
  busy_more : (v : List Value) (q : List Rule) (c : List (List Atom)) (u : List Update) → all_hold v c ≡ true → t.busy ≡ is_busy v q →
      b ≡ is_busy v (q ++ (record { head = h; clauses = c; updates = u } ∷ []))
  busy_more v q c u e k =
      eb ∙ sym (busy_one v q (record { head = h; clauses = c; updates = u }) ∙ rw (e, and_true (not (eqb h.kind request_kind)), k))

  -- of a kind that no event has
  pub adds_none : ((k : ℕ) → k < last_offered → h.kind ≡ k + 1 → ⊥) → Adds h t d (record { count = t.count; busy = b }) d
  adds_none n = (omega arith, refl, λ v c u e. record { kept = refl; goes = go v c u e })
    where
      go : (v : List Value) (c : List (List Atom)) (u : List Update) → all_hold v c ≡ true → (q : List Rule) (d₀ : List ℕ) → Told v q d₀ t d →
          Told v (q ++ (record { head = h; clauses = c; updates = u } ∷ [])) d₀ (record { count = t.count; busy = b }) d
      go v c u e q d₀ k =
          let r : Rule = record { head = h; clauses = c; updates = u } in
          let o = same_offers v q r (λ j i l. rw (ne_eqb h.kind (j + 1) (n j l))) in
          record {
            count = k.count ∙ ap length (sym o);
            busy = busy_more v q c u e k.busy;
            size = k.size;
            numbers = rw o k.numbers;
          }

  module _ (j : ℕ) (ej : h.kind ≡ j + 1) (lj : j < last_offered) (li : h.id < ids) where
    split : (v : List Value) (q : List Rule) (c : List (List Atom)) (u : List Update) → all_hold v c ≡ true →
        Split (offer_by h) (table_offers q v) (table_offers (q ++ (record { head = h; clauses = c; updates = u } ∷ [])) v)
    split v q c u e = one_more_offer v q (record { head = h; clauses = c; updates = u }) e j ej li lj

    one_longer : (o : Offer) (l l' : List Offer) → Split o l l' → (n : ℕ) → n ≡ length l → n + 1 ≡ length l'
    one_longer o l l' s n e =
        let a = ap length s.old ∙ length-append s.front s.back in
        let b = ap length s.new ∙ length-append s.front (o ∷ s.back) in
        omega arith

    -- there is room
    pub adds_offer : (d' : List ℕ) → length d' ≡ length d → d' ≡ inserted d t.count (offer_by h) → Adds h t d (record { count = t.count + 1; busy = b }) d'
    adds_offer d' z w = (omega arith, z, λ v c u e. record { kept = z; goes = go v c u e })
      where
        go : (v : List Value) (c : List (List Atom)) (u : List Update) → all_hold v c ≡ true → (q : List Rule) (d₀ : List ℕ) → Told v q d₀ t d →
            Told v (q ++ (record { head = h; clauses = c; updates = u } ∷ [])) d₀ (record { count = t.count + 1; busy = b }) d'
        go v c u e q d₀ k =
            let r : Rule = record { head = h; clauses = c; updates = u } in
            let s = split v q c u e in
            record {
              count = one_longer (offer_by h) (table_offers q v) (table_offers (q ++ (r ∷ [])) v) s t.count k.count;
              busy = busy_more v q c u e k.busy;
              size = z ∙ k.size;
              numbers = λ l. w ∙ inserted_one d₀ d (offer_by h) (table_offers q v) (table_offers (q ++ (r ∷ [])) v) s t.count k.count (omega arith) (k.numbers (omega arith));
            }

    -- there is none
    pub adds_past : length d < offer_size * (t.count + 1) → Adds h t d (record { count = t.count + 1; busy = b }) d
    adds_past f = (omega arith, refl, λ v c u e. record { kept = refl; goes = go v c u e })
      where
        go : (v : List Value) (c : List (List Atom)) (u : List Update) → all_hold v c ≡ true → (q : List Rule) (d₀ : List ℕ) → Told v q d₀ t d →
            Told v (q ++ (record { head = h; clauses = c; updates = u } ∷ [])) d₀ (record { count = t.count + 1; busy = b }) d
        go v c u e q d₀ k =
            let r : Rule = record { head = h; clauses = c; updates = u } in
            record {
              count = one_longer (offer_by h) (table_offers q v) (table_offers (q ++ (r ∷ [])) v) (split v q c u e) t.count k.count;
              busy = busy_more v q c u e k.busy;
              size = k.size;
              numbers = λ l. let z = k.size in absurd (omega arith);
            }

-- ---- the kinds of events, as the code tests them
pub no_kind : (k : ℕ) → (eqb k 0 || ltb last_offered k) ≡ true → (j : ℕ) → j < last_offered → k ≡ j + 1 → ⊥
no_kind k h j l e = go (eqb k 0) (ltb last_offered k) refl refl h
  where
    go : (a b : Bool) → eqb k 0 ≡ a → ltb last_offered k ≡ b → (a || b) ≡ true → ⊥
    go true b x y z = let q = eqb-true k 0 x in omega arith
    go false true x y z = let q = ltb-true last_offered k y in omega arith
    go false false x y z = false≢true z

pub some_kind : (k : ℕ) → (eqb k 0 || ltb last_offered k) ≡ false → (k ≡ k - 1 + 1) × (k - 1 < last_offered)
some_kind k = go (eqb k 0) (ltb last_offered k) refl refl
  where
    go : (a b : Bool) → eqb k 0 ≡ a → ltb last_offered k ≡ b → (a || b) ≡ false → (k ≡ k - 1 + 1) × (k - 1 < last_offered)
    go true b x y z = absurd (false≢true (sym z))
    go false true x y z = absurd (false≢true (sym z))
    go false false x y z =
        let p = eqb-false k 0 x in
        let q = ltb-false last_offered k y in
        let w : 0 < k = omega arith in
        (omega arith, omega arith)
