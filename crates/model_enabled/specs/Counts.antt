-- How many events there can be, and what the walk over all of them gives a caller.
use Rattle.std.specs.Prelude.{◌≡◌, Bool, ◌&&◌, not, List, [], ◌++◌, ℕ, zero, suc, ◌+◌, ◌*◌, ◌<◌, ◌≤◌, min, ltb}
use Rattle.std.proofs.Math.Path.{refl}
use Rattle.std.proofs.Common.{sym, ◌∙◌, ap, append-nil, length-append}
use Rattle.std.proofs.Math.Bool.{true, false, cond}
use native.Mathlib.Omega.{arith}
use Rattle.std.proofs.Math.Decide.{dec_le}
use Rattle.std.proofs.Math.ListN.{length}
use Rattle.numbers.specs.declared.Duration.{Duration}
use Rattle.numbers.specs.Lists.{join_below, only}
use Rattle.records.specs.declared.Cause.TheVariants.{None, ShortOutput}
use Rattle.records.specs.Events.{request_kind, last_clock}
use Rattle.model_format.specs.declared.Timing.{Timing}
use Rattle.model_format.specs.Model.{max_threads}
use Rattle.model_semantics.specs.declared.State.{State}
use Rattle.model_semantics.specs.Tests.{is_busy}
use Rattle.enabled.specs.Enabled.{Offer, ids, last_offered, in_order, may_take, offer_of, model_offers, model_may_tick}
use Rattle.enabled.specs.declared.Enabled.{Enabled}
use Rattle.enabled.specs.Told.{offer_size}
use Rattle.enabled.specs.ToldLaws.{Tells, told_short, told_fits}
use Rattle.model_enabled.specs.Walks.{Listed, Looping, items_of, most, of_kind, farthest}
use Rattle.model_enabled.specs.Takes.{none_past}

-- ---- joined lists: nothing past n, none longer than 1, none longer than b says
join_ends : {A : Type 0} (n k : ℕ) (f : ℕ → List A) → n ≤ k → ((i : ℕ) → n ≤ i → i < k → f i ≡ []) → join_below n f ≡ join_below k f
unfolding join_below
join_ends n zero f h e = let z : n ≡ 0 = omega arith in rw z
join_ends n (suc k) f h e = go (λ l. join_ends n k f l (λ i p q. e i p (omega arith))) (dec_le n k)
  where
    go : (n ≤ k → join_below n f ≡ join_below k f) → Dec (n ≤ k) → join_below n f ≡ join_below k f ++ f k
    go ih (yes l) = ih l ∙ sym (ap (λ r. join_below k f ++ r) (e k l (omega arith)) ∙ append-nil (join_below k f))
    go ih (no l) = let z : n ≡ suc k = omega arith in rw z

total : ℕ → (ℕ → ℕ) → ℕ
total zero b = 0
total (suc n) b = total n b + b n

join_most : {A : Type 0} (n : ℕ) (f : ℕ → List A) (b : ℕ → ℕ) → ((i : ℕ) → i < n → length (f i) ≤ b i) → length (join_below n f) ≤ total n b
unfolding join_below total
join_most zero f b h = omega arith
join_most (suc n) f b h =
    let x = join_most n f b (λ i l. h i (omega arith)) in
    let y = h n (omega arith) in
    let l = length-append (join_below n f) (f n) in
    omega arith

join_ones : {A : Type 0} (n : ℕ) (f : ℕ → List A) → ((i : ℕ) → length (f i) ≤ 1) → length (join_below n f) ≤ n
unfolding join_below
join_ones zero f h = omega arith
join_ones (suc n) f h =
    let x = join_ones n f h in
    let y = h n in
    let l = length-append (join_below n f) (f n) in
    omega arith

total_more : (k n : ℕ) (b : ℕ → ℕ) → k ≤ n → total k b ≤ total n b
unfolding total
total_more k zero b h = let z : k ≡ 0 = omega arith in rw z (omega arith)
total_more k (suc n) b h = go (total_more k n b) (dec_le k n)
  where
    go : (k ≤ n → total k b ≤ total n b) → Dec (k ≤ n) → total k b ≤ total n b + b n
    go ih (yes l) = let x = ih l in omega arith
    go ih (no l) = let z : k ≡ suc n = omega arith in rw z (omega arith)

one_most : {A : Type 0} (b : Bool) (a : A) → length (only b a) ≤ 1
one_most true a = omega arith
one_most false a = omega arith

-- ---- of one kind
module _ (m : Timing) (s : State) (kind : ℕ) where
  abbrev pub event_at : ℕ → List Offer
  event_at i = only (may_take m s kind i) (offer_of m kind i)

  pub items_few : items_of m kind ≤ ids
  unfolding items_of
  items_few = go (ltb kind request_kind)
    where
      go : (b : Bool) → cond b (min m.threads max_threads) (min m.switches ids) ≤ ids
      go true = omega arith
      go false = omega arith

  pub kind_items : 1 ≤ kind → join_below (items_of m kind) event_at ≡ of_kind m s kind
  unfolding of_kind
  kind_items k = join_ends (items_of m kind) ids event_at items_few (λ i p q. rw (none_past m s i kind k p q))

  kind_most_lem : 1 ≤ kind → length (of_kind m s kind) ≤ items_of m kind
  kind_most_lem k = rw (← kind_items k) (join_ones (items_of m kind) event_at (λ i. one_most (may_take m s kind i) (offer_of m kind i)))

  -- where the loop over the ids has come to
  pub ids_within : {d e : List ℕ} {n p : ℕ} (i : ℕ) → n ≤ most m → i < items_of m kind → Looping event_at d n e p i → (i < ids) × (p ≤ farthest)
  unfolding most
  ids_within {n = n} {p = p} i h l g =
      let f = items_few in
      let c : p ≡ n + length (join_below i event_at) = g.written.count in
      let x : length (join_below i event_at) ≤ i = join_ones i event_at (λ i. one_most (may_take m s kind i) (offer_of m kind i)) in
      (omega arith, omega arith)

  pub kind_over : {d e : List ℕ} {n p : ℕ} (i k : ℕ) → 1 ≤ kind → k ≡ items_of m kind → i ≤ k → k ≤ i → Looping event_at d n e p i → Listed d n (of_kind m s kind) e p
  kind_over i k h e a b g =
      let z : items_of m kind ≡ i = omega arith in
      rw (← kind_items h, z) g.written

-- ---- of all kinds
module _ (m : Timing) (s : State) where
  abbrev pub kind_at : ℕ → List Offer
  kind_at k = of_kind m s (k + 1)

  all_kinds : total last_offered (λ k. items_of m (k + 1)) ≤ most m
  unfolding total most items_of
  all_kinds = omega arith

  kinds_most : (k : ℕ) → k ≤ last_offered → length (join_below k kind_at) ≤ most m
  kinds_most k h =
      let a = join_most k kind_at (λ k. items_of m (k + 1)) (λ i l. kind_most_lem m s (i + 1) (omega arith)) in
      let b = total_more k last_offered (λ k. items_of m (k + 1)) h in
      let c = all_kinds in
      omega arith

  -- where the loop over the kinds has come to
  pub kinds_within : {d e : List ℕ} {p : ℕ} (k : ℕ) → k < last_offered → Looping kind_at d 0 e p k → p ≤ most m
  kinds_within {p = p} k h g =
      let c : p ≡ 0 + length (join_below k kind_at) = g.written.count in
      let x = kinds_most k (omega arith) in
      omega arith

  pub all_offers : join_below last_offered kind_at ≡ model_offers m s
  unfolding model_offers in_order of_kind
  all_offers = refl

  pub kinds_over : {d e : List ℕ} {p : ℕ} (k : ℕ) → k ≤ last_offered → last_offered ≤ k → Looping kind_at d 0 e p k → Listed d 0 (model_offers m s) e p
  kinds_over k a b g =
      let z : last_offered ≡ k = omega arith in
      rw (← all_offers, z) g.written

  offers_most : length (model_offers m s) ≤ most m
  offers_most = rw (← all_offers) (kinds_most last_offered (omega arith))

  few : most m ≤ farthest
  unfolding most
  few = omega arith

  -- ---- what the caller gets
  pub counted : {d e : List ℕ} {p : ℕ} → Listed d 0 (model_offers m s) e p → p ≡ length (model_offers m s)
  counted {p = p} w = let c : p ≡ 0 + length (model_offers m s) = w.count in omega arith

  pub tick_by : {now : Duration} {busy : Bool} → now ≡ s.clock.now → busy ≡ is_busy m s → (not busy && ltb now.0 last_clock) ≡ model_may_tick m s
  unfolding model_may_tick
  tick_by e f = rw (e, f)

  abbrev pub Told : List ℕ → Enabled → List ℕ → Type 0
  Told d r after = Tells (model_offers m s) (model_may_tick m s) d r after

  module _ (d : List ℕ) {r : Enabled} {n : ℕ} {tick : Bool} (t : tick ≡ model_may_tick m s) (c : n ≡ length (model_offers m s)) where
    pub told_listed : {after : List ℕ} {p : ℕ} → offer_size * n ≤ length d → r ≡ record { answer = None; count = n; tick = tick } → Listed d 0 (model_offers m s) after p → Told d r after
    told_listed l e w = rw e (told_fits (model_offers m s) (model_may_tick m s) d c t l w.numbers)

    pub told_no_room : length d < offer_size * n → r ≡ record { answer = ShortOutput; count = n; tick = tick } → Told d r d
    told_no_room l e = rw e (told_short (model_offers m s) (model_may_tick m s) d c t l)

  pub told_at_once : (d : List ℕ) {r : Enabled} {n q : ℕ} {tick : Bool} → tick ≡ model_may_tick m s → q ≡ most m → offer_size * q ≤ length d → {after : List ℕ} →
      r ≡ record { answer = None; count = n; tick = tick } → Listed d 0 (model_offers m s) after n → Told d r after
  told_at_once d t q l e w =
      let c = counted w in
      let x = offers_most in
      told_listed d t c (omega arith) e w

  -- the numbers that the code multiplies
  pub most_fits : {q : ℕ} → q ≡ most m → q ≤ farthest
  most_fits e = let x = few in omega arith

  pub count_fits : {n : ℕ} → n ≡ length (model_offers m s) → n ≤ farthest
  count_fits e = let x = few in let y = offers_most in omega arith

pub most_by : (m : Timing) {a b n q : ℕ} → a ≡ m.threads → b ≡ m.switches → n ≡ min a max_threads → q ≡ min b ids → 7 * n + 3 * q ≡ most m
unfolding most
most_by m e f g h = rw (g, h, e, f)
