-- An event that the table takes is offered; a tick is taken exactly where it may pass.
use Rattle.std.specs.Prelude.{◌≡◌, Bool, ◌&&◌, ◌||◌, not, leb}
use Rattle.std.proofs.Common.{refl, ap, sym, ◌∙◌, true, false, cond, List, [], ◌∷◌, ◌++◌, append-nil, ℕ, zero, suc, ◌+◌, ◌-◌, ◌<◌, ◌≤◌, arith, eqb, eq-eqb, ne_eqb, eqb-true, leb-true}
use Rattle.std.proofs.Math.Decide.{dec_lt, ℕ_discrete}
use Rattle.numbers.specs.declared.Value.{Value}
use Rattle.numbers.specs.Lists.{join_below, store}
use Rattle.numbers.specs.Values.{natural, plus, less_value}
use Rattle.records.specs.declared.Cause.{Cause}
use Rattle.records.specs.declared.Cause.TheVariants.{None, BrokenEvent, NotEnabled, LastClock, ConflictingRules, InconsistentUpdates}
use Rattle.records.specs.declared.Event.{Event}
use Rattle.records.specs.declared.Notation.TheVariants as notations
use Rattle.records.specs.Format.{record_size}
use Rattle.records.specs.Refusals.{is_none, number_of}
use Rattle.records.specs.Events.{start_kind, tick_kind, is_broken, last_clock}
use Rattle.table_format.specs.Table.{Rule}
use Rattle.table_format.specs.All.{All, all_map}
use Rattle.table_format.specs.Variables.{variables, now_var}
use Rattle.table_semantics.specs.declared.Variables.{Variables}
use Rattle.table_semantics.specs.declared.Stepped.{Stepped}
use Rattle.table_semantics.specs.Rules.{Write, enabled_rules, writes, inconsistent, written}
use Rattle.table_semantics.specs.Machine.{allows_length, fire, ticks, step, is_busy, now_in, refuse, accept}
use Rattle.table_index.specs.Guards.{never}
use Rattle.enabled.specs.Enabled.{Offer, ids, last_offered, in_order, offer_by, offers_by, table_offers, table_may_tick}
use Rattle.table_offers.specs.Order.{offers_at, each_at}

-- ---- the events of a kind and id among those offered
unfoldable pub offers_for : ℕ → ℕ → List Offer → List Offer
offers_for k i [] = []
offers_for k i (o ∷ l) = let r = offers_for k i l in cond (eqb o.kind k && eqb o.id i) (o ∷ r) r

module _ (k i : ℕ) where
  for_append : (l r : List Offer) → offers_for k i (l ++ r) ≡ offers_for k i l ++ offers_for k i r
  unfolding offers_for
  for_append [] r = refl
  for_append (o ∷ l) r = go (for_append l r) (eqb o.kind k && eqb o.id i)
    where
      go : offers_for k i (l ++ r) ≡ offers_for k i l ++ offers_for k i r → (b : Bool) →
          cond b (o ∷ offers_for k i (l ++ r)) (offers_for k i (l ++ r)) ≡ cond b (o ∷ offers_for k i l) (offers_for k i l) ++ offers_for k i r
      go ih true = ap (λ (q : List Offer). o ∷ q) ih
      go ih false = ih

  for_all : (l : List Offer) → All (λ (x : Offer). (x.kind ≡ k) × (x.id ≡ i)) l → offers_for k i l ≡ l
  unfolding offers_for
  for_all [] h = refl
  for_all (o ∷ l) h = rw (eq-eqb o.kind k h.0.0, eq-eqb o.id i h.0.1, for_all l h.1)

  for_none : (l : List Offer) → All (λ (x : Offer). x.kind ≡ k → x.id ≡ i → ⊥) l → offers_for k i l ≡ []
  unfolding offers_for
  for_none [] h = refl
  for_none (o ∷ l) h = go (for_none l h.1) (eqb o.kind k) (eqb o.id i) refl refl
    where
      go : offers_for k i l ≡ [] → (a b : Bool) → eqb o.kind k ≡ a → eqb o.id i ≡ b → cond (a && b) (o ∷ offers_for k i l) (offers_for k i l) ≡ []
      go ih true true x y = absurd (h.0 (eqb-true o.kind k x) (eqb-true o.id i y))
      go ih true false x y = ih
      go ih false b x y = ih

  for_joined : (n : ℕ) (f : ℕ → List Offer) → ((j : ℕ) → j < n → offers_for k i (f j) ≡ []) → offers_for k i (join_below n f) ≡ []
  unfolding join_below offers_for
  for_joined zero f e = refl
  for_joined (suc n) f e = for_append (join_below n f) (f n) ∙ rw (for_joined n f (λ j l. e j (omega arith)), e n (omega arith))

  -- all of them stand in one of the lists
  for_join : (n c : ℕ) (f : ℕ → List Offer) → c < n → ((j : ℕ) → j < n → (j ≡ c → ⊥) → offers_for k i (f j) ≡ []) → offers_for k i (join_below n f) ≡ offers_for k i (f c)
  unfolding join_below
  for_join zero c f h e = absurd (omega arith)
  for_join (suc n) c f h e = for_append (join_below n f) (f n) ∙ go (λ l. for_join n c f l (λ j m. e j (omega arith))) (dec_lt c n)
    where
      go : (c < n → offers_for k i (join_below n f) ≡ offers_for k i (f c)) → Dec (c < n) → offers_for k i (join_below n f) ++ offers_for k i (f n) ≡ offers_for k i (f c)
      go ih (yes l) = rw (ih l, e n (omega arith) (λ z. absurd (omega arith)), append-nil)
      go ih (no l) =
          let z : c ≡ n = omega arith in
          rw (for_joined n f (λ j m. e j (omega arith) (λ q. absurd (omega arith))), z)

-- are those of the rules that an event of that kind and id finds; c is the kind before
pub offered_for : (l : List Rule) (v : List Value) (c i : ℕ) → c < last_offered → i < ids → offers_for (c + 1) i (table_offers l v) ≡ offers_by (enabled_rules v (c + 1) i l)
unfolding table_offers in_order
offered_for l v c i h m =
    for_join (c + 1) i last_offered c (λ k. join_below ids (λ j. offers_at v l (k + 1) j)) h
    (λ k b n. for_joined (c + 1) i ids (λ j. offers_at v l (k + 1) j) (λ j q. for_none (c + 1) i (offers_at v l (k + 1) j)
    (all_map (λ (x : Offer). (x.kind ≡ k + 1) × (x.id ≡ j)) (λ (x : Offer). x.kind ≡ c + 1 → x.id ≡ i → ⊥) (offers_at v l (k + 1) j)
    (λ x e f g. n (omega arith)) (each_at v (k + 1) j l)))) ∙
    for_join (c + 1) i ids i (λ j. offers_at v l (c + 1) j) m
    (λ j b n. for_none (c + 1) i (offers_at v l (c + 1) j)
    (all_map (λ (x : Offer). (x.kind ≡ c + 1) × (x.id ≡ j)) (λ (x : Offer). x.kind ≡ c + 1 → x.id ≡ i → ⊥) (offers_at v l (c + 1) j)
    (λ x e f g. n (omega arith)) (each_at v (c + 1) j l))) ∙
    for_all (c + 1) i (offers_at v l (c + 1) i) (each_at v (c + 1) i l)

-- ---- an event that is taken
-- one event of its kind and id is offered, and of START the length is within its lengths
pub record Offered (e : Event) (l : List Offer) : Type 0 where
  pub offer : Offer
  pub one : offers_for e.kind e.id l ≡ offer ∷ []
  pub kind_same : offer.kind ≡ e.kind
  pub id_same : offer.id ≡ e.id
  pub allowed : e.kind ≡ start_kind → (offer.low ≤ e.amount) × (e.amount ≤ offer.high)

no_refusal_lem : {A : Type 0} (c : Cause) → is_none c ≡ false → c ≡ None → A
unfolding number_of
no_refusal_lem c n e = never (rw e at n)

-- the kinds that a script has
kind_within : (k : ℕ) → eqb (record_size notations.Script k) 0 ≡ false → (k ≡ tick_kind → ⊥) → (k ≡ k - 1 + 1) × (k - 1 < last_offered)
unfolding record_size
kind_within k e n = go (ℕ_discrete k 0) (dec_lt last_offered k)
  where
    go : Dec (k ≡ 0) → Dec (last_offered < k) → (k ≡ k - 1 + 1) × (k - 1 < last_offered)
    go (yes z) d = never (rw z at e)
    go (no z) (yes l) =
        let a : (j : ℕ) → j ≤ last_offered → eqb k j ≡ false = λ j m. ne_eqb k j (λ q. absurd (omega arith)) in
        never (rw (a 1 (omega arith), a 2 (omega arith), a 3 (omega arith), a 4 (omega arith), a 5 (omega arith), a 6 (omega arith), a 7 (omega arith), a 8 (omega arith), a 9 (omega arith), a 10 (omega arith), ne_eqb k 11 n) at e)
    go (no z) (no l) = let w : 0 < k = omega arith in (omega arith, omega arith)

-- the one rule that is fired
fired : (s : Variables) (e : Event) (l : List Rule) → (fire s e l).answer ≡ None → (r : Rule) × (l ≡ r ∷ []) × (allows_length e r ≡ true)
unfolding fire number_of
fired s e [] h = no_refusal_lem NotEnabled refl h
fired s e (r ∷ []) h = (r, refl, go (allows_length e r) refl h)
  where
    w : List Write
    w = writes e.amount s.value r.updates

    go : (b : Bool) → allows_length e r ≡ b →
        (cond b (cond (inconsistent w) (refuse InconsistentUpdates s) (accept (written w s.value))) (refuse NotEnabled s)).answer ≡ None → allows_length e r ≡ true
    go true x y = x
    go false x y = no_refusal_lem NotEnabled refl y
fired s e (r ∷ q ∷ l) h = no_refusal_lem ConflictingRules refl h

both : (a b : Bool) → (a && b) ≡ true → (a ≡ true) × (b ≡ true)
both true true h = (refl, refl)
both true false h = never (sym h)
both false b h = never (sym h)

module _ (l : List Rule) (s : Variables) (e : Event) (li : e.id < ids) where
  offered_by : (k : ℕ) → k < last_offered → e.kind ≡ k + 1 → (r : Rule) → enabled_rules s.value e.kind e.id l ≡ r ∷ [] → allows_length e r ≡ true → Offered e (table_offers l s.value)
  unfolding offers_by allows_length
  offered_by k h f r q a = record {
    offer = offer_by r.head;
    one = rw f (offered_for l s.value k e.id h li ∙ ap offers_by (rw f at q));
    kind_same = here.0;
    id_same = here.1;
    allowed = within;
  }
    where
      here : (r.head.kind ≡ e.kind) × (r.head.id ≡ e.id)
      here = (rw q at (each_at s.value e.kind e.id l)).0

      within : e.kind ≡ start_kind → ((offer_by r.head).low ≤ e.amount) × (e.amount ≤ (offer_by r.head).high)
      within z =
          let b = both (leb r.head.low e.amount) (leb e.amount r.head.high) (rw (eq-eqb e.kind start_kind z) at a) in
          rw (eq-eqb r.head.kind start_kind (here.0 ∙ z)) (leb-true r.head.low e.amount b.0, leb-true e.amount r.head.high b.1)

  pub taken_offered : (e.kind ≡ tick_kind → ⊥) → (step l s e).answer ≡ None → Offered e (table_offers l s.value)
  unfolding step is_broken number_of
  taken_offered n h = go (eqb (record_size notations.Script e.kind) 0) refl (rw (ne_eqb e.kind tick_kind n) at h)
    where
      f : Stepped
      f = fire s e (enabled_rules s.value e.kind e.id l)

      go : (b : Bool) → eqb (record_size notations.Script e.kind) 0 ≡ b → (cond (b || false) (refuse BrokenEvent s) f).answer ≡ None → Offered e (table_offers l s.value)
      go true x y = no_refusal_lem BrokenEvent refl y
      go false x y =
          let k = kind_within e.kind x n in
          let r = fired s e (enabled_rules s.value e.kind e.id l) y in
          offered_by (e.kind - 1) k.1 k.0 r.0 r.1 r.2

-- ---- a tick
pub tick_taken : (l : List Rule) (s : Variables) (i : ℕ) → is_none (step l s (record { kind = tick_kind; id = i; amount = 1 })).answer ≡ table_may_tick l s.value
unfolding step is_broken ticks table_may_tick record_size number_of
tick_taken l s i = go (is_busy s.value l) (less_value (now_in s.value) (natural last_clock))
  where
    go : (a b : Bool) → is_none (cond a (refuse NotEnabled s) (cond b (ticks l s 0 (store variables s.value now_var (plus (now_in s.value) (natural 1)))) (refuse LastClock s))).answer ≡ (not a && b)
    go true b = refl
    go false true = refl
    go false false = refl
