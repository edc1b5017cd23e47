-- The order of what is offered: where the event of one more enabled rule stands among the others.
use Rattle.std.specs.Prelude.{◌≡◌, Bool, cond, ◌&&◌}
use Rattle.std.proofs.Common.{refl, ap, sym, ◌∙◌, true, false, List, [], ◌∷◌, ◌++◌, append-nil, append_assoc, ℕ, zero, suc, ◌+◌, ◌*◌, ◌<◌, ◌≤◌, arith, eqb, eq-eqb, ne_eqb, eqb-true}
use Rattle.std.proofs.Math.Decide.{dec_lt}
use Rattle.numbers.specs.declared.Value.{Value}
use Rattle.numbers.specs.Lists.{join_below, only}
use Rattle.table_format.specs.Table.{Rule}
use Rattle.table_format.specs.All.{All, all_append, all_join, all_map}
use Rattle.table_semantics.specs.Rules.{is_enabled, enabled_rules}
use Rattle.enabled.specs.Enabled.{Offer, ids, last_offered, in_order, offer_by, offers_by, table_offers}

-- the place of an event in the order kind, id
abbrev pub rank_of : Offer → ℕ
rank_of o = ids * o.kind + o.id

-- l' is l with o in it: after those before it in the order and its equals, before the others
pub record Split (o : Offer) (l l' : List Offer) : Type 0 where
  pub front : List Offer
  pub back : List Offer
  pub old : l ≡ front ++ back
  pub new : l' ≡ front ++ (o ∷ back)
  pub low : All (λ (x : Offer). rank_of x ≤ rank_of o) front
  pub high : All (λ (x : Offer). rank_of o < rank_of x) back

-- ---- lists joined
pub join_same {ℓ} : {A : Type ℓ} (n : ℕ) (f g : ℕ → List A) → ((i : ℕ) → i < n → f i ≡ g i) → join_below n f ≡ join_below n g
unfolding join_below
join_same zero f g h = refl
join_same (suc n) f g h = rw (join_same n f g (λ i l. h i (omega arith)), h n (omega arith))

pub join_none {ℓ} : {A : Type ℓ} (n : ℕ) (f : ℕ → List A) → ((i : ℕ) → i < n → f i ≡ []) → join_below n f ≡ []
unfolding join_below
join_none zero f h = refl
join_none (suc n) f h = rw (join_none n f (λ i l. h i (omega arith)), h n (omega arith))

module _ (o : Offer) where
  split_after : (x l l' : List Offer) → All (λ (y : Offer). rank_of y ≤ rank_of o) x → Split o l l' → Split o (x ++ l) (x ++ l')
  split_after x l l' a s = record {
    front = x ++ s.front;
    back = s.back;
    old = rw (append_assoc x s.front s.back) (ap (λ (r : List Offer). x ++ r) s.old);
    new = rw (append_assoc x s.front (o ∷ s.back)) (ap (λ (r : List Offer). x ++ r) s.new);
    low = all_append (λ (y : Offer). rank_of y ≤ rank_of o) x s.front a s.low;
    high = s.high;
  }

  split_before : (x l l' : List Offer) → All (λ (y : Offer). rank_of o < rank_of y) x → Split o l l' → Split o (l ++ x) (l' ++ x)
  split_before x l l' a s = record {
    front = s.front;
    back = s.back ++ x;
    old = ap (λ (r : List Offer). r ++ x) s.old ∙ append_assoc s.front s.back x;
    new = ap (λ (r : List Offer). r ++ x) s.new ∙ append_assoc s.front (o ∷ s.back) x;
    low = s.low;
    high = all_append (λ (y : Offer). rank_of o < rank_of y) s.back x s.high a;
  }

  -- one of the lists has o more; those before it hold nothing after o, those behind it nothing before o
  split_join : (n c : ℕ) (f g : ℕ → List Offer) → c < n → Split o (f c) (g c) → ((j : ℕ) → (j ≡ c → ⊥) → g j ≡ f j) →
      ((j : ℕ) → j < c → All (λ (y : Offer). rank_of y ≤ rank_of o) (f j)) → ((j : ℕ) → c < j → All (λ (y : Offer). rank_of o < rank_of y) (f j)) →
      Split o (join_below n f) (join_below n g)
  unfolding join_below
  split_join zero c f g h s e a b = absurd (omega arith)
  split_join (suc n) c f g h s e a b = go (λ l. split_join n c f g l s e a b) (dec_lt c n)
    where
      go : (c < n → Split o (join_below n f) (join_below n g)) → Dec (c < n) → Split o (join_below n f ++ f n) (join_below n g ++ g n)
      go ih (yes l) = rw (e n (λ z. absurd (omega arith))) (split_before (f n) (join_below n f) (join_below n g) (b n l) (ih l))
      go ih (no l) =
          let z : c ≡ n = omega arith in
          rw (join_same n g f (λ j k. e j (λ q. absurd (omega arith))))
          (split_after (join_below n f) (f n) (g n) (all_join (λ (y : Offer). rank_of y ≤ rank_of o) n f (λ j k. a j (omega arith))) (rw z at s))

-- ---- the events of a kind and id
abbrev pub offers_at : List Value → List Rule → ℕ → ℕ → List Offer
offers_at v q k i = offers_by (enabled_rules v k i q)

-- whether a rule is one of them
abbrev pub is_at : List Value → Rule → ℕ → ℕ → Bool
is_at v r k i = (eqb r.head.kind k && eqb r.head.id i) && is_enabled v r

module _ (v : List Value) (k i : ℕ) where
  pub each_at : (q : List Rule) → All (λ (x : Offer). (x.kind ≡ k) × (x.id ≡ i)) (offers_at v q k i)
  unfolding enabled_rules offers_by
  each_at [] = tt
  each_at (r ∷ q) = go (each_at q) (eqb r.head.kind k) (eqb r.head.id i) (is_enabled v r) refl refl
    where
      go : All (λ (x : Offer). (x.kind ≡ k) × (x.id ≡ i)) (offers_at v q k i) → (a b c : Bool) → eqb r.head.kind k ≡ a → eqb r.head.id i ≡ b →
          All (λ (x : Offer). (x.kind ≡ k) × (x.id ≡ i)) (offers_by (cond ((a && b) && c) (r ∷ enabled_rules v k i q) (enabled_rules v k i q)))
      go ih true true true x y = ((eqb-true r.head.kind k x, eqb-true r.head.id i y), ih)
      go ih true true false x y = ih
      go ih true false c x y = ih
      go ih false b c x y = ih

  offers_one : (q : List Rule) (r : Rule) → offers_at v (q ++ (r ∷ [])) k i ≡ offers_at v q k i ++ only (is_at v r k i) (offer_by r.head)
  unfolding enabled_rules offers_by
  offers_one [] r = go (is_at v r k i)
    where
      go : (b : Bool) → offers_by (cond b (r ∷ []) []) ≡ only b (offer_by r.head)
      go true = refl
      go false = refl
  offers_one (x ∷ q) r = go (offers_one q r) (is_at v x k i)
    where
      go : offers_at v (q ++ (r ∷ [])) k i ≡ offers_at v q k i ++ only (is_at v r k i) (offer_by r.head) → (b : Bool) →
          offers_by (cond b (x ∷ enabled_rules v k i (q ++ (r ∷ []))) (enabled_rules v k i (q ++ (r ∷ [])))) ≡
          offers_by (cond b (x ∷ enabled_rules v k i q) (enabled_rules v k i q)) ++ only (is_at v r k i) (offer_by r.head)
      go ih true = ap (λ (l : List Offer). offer_by x.head ∷ l) ih
      go ih false = ih

  offers_none : (q : List Rule) (r : Rule) → is_at v r k i ≡ false → offers_at v (q ++ (r ∷ [])) k i ≡ offers_at v q k i
  offers_none q r e = offers_one q r ∙ rw (e, append-nil)

-- ---- one more rule
and_false : (a : Bool) → (a && false) ≡ false
and_false true = refl
and_false false = refl

module _ (v : List Value) (q : List Rule) (r : Rule) where
  -- a rule that no event from 1 to 10 finds
  pub same_offers : ((k i : ℕ) → k < last_offered → is_at v r (k + 1) i ≡ false) → table_offers (q ++ (r ∷ [])) v ≡ table_offers q v
  unfolding table_offers in_order
  same_offers h =
      join_same last_offered (λ k. join_below ids (λ i. offers_at v (q ++ (r ∷ [])) (k + 1) i)) (λ k. join_below ids (λ i. offers_at v q (k + 1) i))
      (λ k l. join_same ids (λ i. offers_at v (q ++ (r ∷ [])) (k + 1) i) (λ i. offers_at v q (k + 1) i) (λ i m. offers_none v (k + 1) i q r (h k i l)))

  pub not_enabled : is_enabled v r ≡ false → table_offers (q ++ (r ∷ [])) v ≡ table_offers q v
  not_enabled e = same_offers (λ k i l. rw e (and_false (eqb r.head.kind (k + 1) && eqb r.head.id i)))

  -- c is the kind before
  module _ (e : is_enabled v r ≡ true) (c : ℕ) (f : r.head.kind ≡ c + 1) (g : r.head.id < ids) where
    abbrev o : Offer
    o = offer_by r.head

    here : Split o (offers_at v q (c + 1) r.head.id) (offers_at v (q ++ (r ∷ [])) (c + 1) r.head.id)
    here = record {
      front = offers_at v q (c + 1) r.head.id;
      back = [];
      old = rw append-nil;
      new = offers_one v (c + 1) r.head.id q r ∙ rw (e, eq-eqb r.head.kind (c + 1) f, eq-eqb r.head.id r.head.id refl);
      low = all_map (λ (x : Offer). (x.kind ≡ c + 1) × (x.id ≡ r.head.id)) (λ (x : Offer). rank_of x ≤ rank_of o) (offers_at v q (c + 1) r.head.id)
          (λ x h. omega arith) (each_at v (c + 1) r.head.id q);
      high = tt;
    }

    below : (k i : ℕ) → ids * k + i ≤ ids * (c + 1) + r.head.id → All (λ (x : Offer). rank_of x ≤ rank_of o) (offers_at v q k i)
    below k i l = all_map (λ (x : Offer). (x.kind ≡ k) × (x.id ≡ i)) (λ (x : Offer). rank_of x ≤ rank_of o) (offers_at v q k i) (λ x h. omega arith) (each_at v k i q)

    above : (k i : ℕ) → ids * (c + 1) + r.head.id < ids * k + i → All (λ (x : Offer). rank_of o < rank_of x) (offers_at v q k i)
    above k i l = all_map (λ (x : Offer). (x.kind ≡ k) × (x.id ≡ i)) (λ (x : Offer). rank_of o < rank_of x) (offers_at v q k i) (λ x h. omega arith) (each_at v k i q)

    other_id : (i : ℕ) → (i ≡ r.head.id → ⊥) → is_at v r (c + 1) i ≡ false
    other_id i n = rw (ne_eqb r.head.id i (λ z. n (sym z))) (rw (and_false (eqb r.head.kind (c + 1))))

    of_kind_lem : Split o (join_below ids (λ i. offers_at v q (c + 1) i)) (join_below ids (λ i. offers_at v (q ++ (r ∷ [])) (c + 1) i))
    of_kind_lem =
        split_join o ids r.head.id (λ i. offers_at v q (c + 1) i) (λ i. offers_at v (q ++ (r ∷ [])) (c + 1) i) g here
        (λ i n. offers_none v (c + 1) i q r (other_id i n)) (λ i l. below (c + 1) i (omega arith)) (λ i l. above (c + 1) i (omega arith))

    other_kind : (k : ℕ) → (k ≡ c → ⊥) → (i : ℕ) → is_at v r (k + 1) i ≡ false
    other_kind k n i = rw (ne_eqb r.head.kind (k + 1) (λ z. n (omega arith)))

    pub one_more_offer : c < last_offered → Split (offer_by r.head) (table_offers q v) (table_offers (q ++ (r ∷ [])) v)
    unfolding table_offers in_order
    one_more_offer l =
        split_join o last_offered c (λ k. join_below ids (λ i. offers_at v q (k + 1) i)) (λ k. join_below ids (λ i. offers_at v (q ++ (r ∷ [])) (k + 1) i)) l of_kind_lem
        (λ k n. join_same ids (λ i. offers_at v (q ++ (r ∷ [])) (k + 1) i) (λ i. offers_at v q (k + 1) i) (λ i m. offers_none v (k + 1) i q r (other_kind k n i)))
        (λ k m. all_join (λ (x : Offer). rank_of x ≤ rank_of o) ids (λ i. offers_at v q (k + 1) i) (λ i j. below (k + 1) i (omega arith)))
        (λ k m. all_join (λ (x : Offer). rank_of o < rank_of x) ids (λ i. offers_at v q (k + 1) i) (λ i j. above (k + 1) i (omega arith)))
