-- Laws of updates: what they make of each variable, the variables that they miss, and that none is written twice.
use Rattle.std.specs.Prelude.{◌≡◌, Bool, ◌&&◌, ltb}
use Rattle.std.proofs.Math.Path.{refl, ap}
use Rattle.std.proofs.Common.{sym, ◌∙◌, eq-eqb, ne_eqb, ltb-true, ltb-false}
use Rattle.std.proofs.Math.Bool.{true, false, cond}
use mathlib.Core.List.{List, [], ◌∷◌, ◌++◌}
use Prim.Native.Nat.{ℕ, zero, suc, ◌+◌, ◌<◌, ◌≤◌}
use native.Mathlib.Omega.{arith}
use Rattle.std.proofs.Math.Decide.{ℕ_discrete}
use Rattle.std.proofs.Math.Dec.{eqb}
use Rattle.std.proofs.Math.ListN.{length}
use Rattle.std.specs.Int.{w32}
use Rattle.std.proofs.lemmas.Int.{to_z_pos}
use Rattle.numbers.specs.declared.Value.{Value}
use Rattle.numbers.specs.Lists.{item, store, fold_below, first_below, join_below}
use Rattle.numbers.specs.ListLaws.{length_store, item_store_same, item_store_other}
use Rattle.numbers.specs.Values.{natural, combine, value, signed}
use Rattle.numbers.specs.ValueLaws.{plus_small}
use Rattle.table_format.specs.declared.Update.{Update}
use Rattle.table_format.specs.Variables.{variables, thread_room, connection_room, input_room, active_var, flag_var, input_var, buffer_var}
use Rattle.table_semantics.specs.Rules.{value_of, operand_value, applies, new_value, Write, writes, written_to, inconsistent, written}
use Rattle.translation.specs.Parts.{constant, variable, chosen_length, Expression, copied, sum_of, update, set_to}

-- ---- a chosen length is a value
pub chosen_small : (n : ℕ) → n < 2147483648 → value (signed n) ≡ natural n
chosen_small n h = rw (to_z_pos w32 n h)

-- ---- one place after a store
module _ {ℓ} {A : Type ℓ} (room : ℕ) (l : List A) (i j : ℕ) (a d : A) where
  pub item_store : j < room → length l ≡ room → item room (store room l i a) j d ≡ cond (eqb j i) a (item room l j d)
  item_store h s = go (ℕ_discrete j i)
    where
      go : Dec (j ≡ i) → item room (store room l i a) j d ≡ cond (eqb j i) a (item room l j d)
      go (yes e) = rw (eq-eqb j i e, ← e) (item_store_same room l j a d h (omega arith))
      go (no n) = rw (ne_eqb j i n) (item_store_other room l i j a d n)

-- ---- what the updates, which read v, make of variable j, where it holds x
unfoldable pub updated : ℕ → List Value → List Update → ℕ → Value → Value
updated n v [] j x = x
updated n v (u ∷ l) j x = updated n v l j (cond (applies v u && eqb j u.target) (new_value n v u) x)

pub length_written : (l : List Write) (v : List Value) → length (written l v) ≡ length v
unfolding written
length_written [] v = refl
length_written (w ∷ l) v = length_written l _ ∙ length_store variables v w.target w.value

-- ---- updates, reading v, with the chosen length n
module _ (n : ℕ) (v : List Value) where
  pub updated_append : (a b : List Update) (j : ℕ) (x : Value) → updated n v (a ++ b) j x ≡ updated n v b j (updated n v a j x)
  unfolding updated
  updated_append [] b j x = refl
  updated_append (u ∷ a) b j x = updated_append a b j _

  pub updated_join : (k : ℕ) (f : ℕ → List Update) (j : ℕ) (x : Value) →
      updated n v (join_below k f) j x ≡ fold_below k (λ i y. updated n v (f i) j y) x
  unfolding updated join_below fold_below
  updated_join zero f j x = refl
  updated_join (suc k) f j x = updated_append (join_below k f) (f k) j x ∙ ap (updated n v (f k) j) (updated_join k f j x)

  pub value_written : (us : List Update) (w : List Value) (j : ℕ) → length w ≡ variables → j < variables →
      value_of (written (writes n v us) w) j ≡ updated n v us j (value_of w j)
  unfolding updated writes written
  value_written [] w j s h = refl
  value_written (u ∷ us) w j s h = go (applies v u) (λ w e. value_written us w j e h)
    where
      go : (b : Bool) → ((w : List Value) → length w ≡ variables → value_of (written (writes n v us) w) j ≡ updated n v us j (value_of w j)) →
          value_of (written (cond b (record { target = u.target; value = new_value n v u } ∷ writes n v us) (writes n v us)) w) j ≡
          updated n v us j (cond (b && eqb j u.target) (new_value n v u) (value_of w j))
      go true ih =
          ih (store variables w u.target (new_value n v u)) (length_store variables w u.target (new_value n v u) ∙ s) ∙
          ap (updated n v us j) (item_store variables w u.target j (new_value n v u) (natural 0) h s)
      go false ih = ih w s

-- ---- variable j is the target of none of the updates
unfoldable pub Misses : ℕ → List Update → Type 0
Misses j [] = Unit {0}
Misses j (u ∷ l) = (j ≡ u.target → ⊥) × Misses j l

-- no two updates have one target
unfoldable pub Apart : List Update → Type 0
Apart [] = Unit {0}
Apart (u ∷ l) = Misses u.target l × Apart l

-- at most one update, with the target g
pub data Single (g : ℕ) : List Update → Type 0 where
  nothing : Single g []
  one : (u : Update) → u.target ≡ g → Single g (u ∷ [])

pub single_cond : (b : Bool) {g : ℕ} {l : List Update} → Single g l → Single g (cond b l [])
single_cond true h = h
single_cond false h = nothing

-- the second updates miss each target of the first
unfoldable pub Clear : List Update → List Update → Type 0
Clear [] b = Unit {0}
Clear (u ∷ a) b = Misses u.target b × Clear a b

-- every target stands in lo .. hi
unfoldable pub Within : ℕ → ℕ → List Update → Type 0
Within lo hi [] = Unit {0}
Within lo hi (u ∷ l) = (lo ≤ u.target) × (u.target < hi) × Within lo hi l

-- the blocks that updates of several items write
abbrev pub NotActive : ℕ → Type 0
NotActive j = active_var 0 ≤ j → j < active_var thread_room → ⊥

abbrev pub NotFlag : ℕ → Type 0
NotFlag j = flag_var 0 ≤ j → j < flag_var connection_room → ⊥

abbrev pub NotInput : ℕ → Type 0
NotInput j = input_var 0 ≤ j → j < input_var input_room → ⊥

abbrev pub NotBuffer : ℕ → Type 0
NotBuffer j = buffer_var 0 ≤ j → j < buffer_var input_room → ⊥

pub misses_append : (j : ℕ) (a b : List Update) → Misses j a → Misses j b → Misses j (a ++ b)
unfolding Misses
misses_append j [] b p q = q
misses_append j (u ∷ a) b p q = (p.0, misses_append j a b p.1 q)

pub misses_within : (lo hi j : ℕ) (a : List Update) → Within lo hi a → (lo ≤ j → j < hi → ⊥) → Misses j a
unfolding Misses Within
misses_within lo hi j [] w h = tt
misses_within lo hi j (u ∷ a) w h = let p = w.0 in let q = w.1 in (λ e. h (omega arith) (omega arith), misses_within lo hi j a w.2 h)

pub within_append : (lo hi : ℕ) (a b : List Update) → Within lo hi a → Within lo hi b → Within lo hi (a ++ b)
unfolding Within
within_append lo hi [] b p q = q
within_append lo hi (u ∷ a) b p q = (p.0, p.1, within_append lo hi a b p.2 q)

pub clear_within : (lo hi : ℕ) (a b : List Update) → Within lo hi a → ((j : ℕ) → lo ≤ j → j < hi → Misses j b) → Clear a b
unfolding Clear Within
clear_within lo hi [] b w h = tt
clear_within lo hi (u ∷ a) b w h = (h u.target w.0 w.1, clear_within lo hi a b w.2 h)

clear_append : (a b c : List Update) → Clear a c → Clear b c → Clear (a ++ b) c
unfolding Clear
clear_append [] b c p q = q
clear_append (u ∷ a) b c p q = (p.0, clear_append a b c p.1 q)

pub apart_append : (a b : List Update) → Clear a b → Apart a → Apart b → Apart (a ++ b)
unfolding Clear Apart
apart_append [] b c p q = q
apart_append (u ∷ a) b c p q = (misses_append u.target a b p.0 c.0, apart_append a b c.1 p.1 q)

-- ---- one update at most for each number below k
module _ (g : ℕ → ℕ) (f : ℕ → List Update) where
  clear_one : (i e : ℕ) {a b : List Update} → Single (g i) a → Single (g e) b → (g i ≡ g e → ⊥) → Clear a b
  unfolding Clear Misses
  clear_one i e nothing q h = tt
  clear_one i e (one u p) nothing h = (tt, tt)
  clear_one i e (one u p) (one w q) h = ((λ x. h (sym p ∙ x ∙ q), tt), tt)

  within_one : (lo hi i : ℕ) {a : List Update} → Single (g i) a → lo ≤ g i → g i < hi → Within lo hi a
  unfolding Within
  within_one lo hi i nothing p q = tt
  within_one lo hi i (one u e) p q = (omega arith, omega arith, tt)

  apart_one : (i : ℕ) {a : List Update} → Single (g i) a → Apart a
  unfolding Apart Misses
  apart_one i nothing = tt
  apart_one i (one u e) = (tt, tt)

  clear_below : (k e : ℕ) → k ≤ e → ((i : ℕ) → i < suc e → Single (g i) (f i)) → ((i : ℕ) → i < e → g i ≡ g e → ⊥) → Clear (join_below k f) (f e)
  unfolding join_below Clear
  clear_below zero e l s h = tt
  clear_below (suc k) e l s h =
      clear_append (join_below k f) (f k) (f e) (clear_below k e (omega arith) s h)
      (clear_one k e (s k (omega arith)) (s e (omega arith)) (h k (omega arith)))

  pub apart_join : (k : ℕ) → ((i : ℕ) → i < k → Single (g i) (f i)) → ((i e : ℕ) → i < e → e < k → g i ≡ g e → ⊥) → Apart (join_below k f)
  unfolding join_below Apart
  apart_join zero s h = tt
  apart_join (suc k) s h =
      apart_append (join_below k f) (f k) (clear_below k k (omega arith) s (λ i l. h i k l (omega arith)))
      (apart_join k (λ i l. s i (omega arith)) (λ i e l q. h i e l (omega arith))) (apart_one k (s k (omega arith)))

  pub within_join : (lo hi k : ℕ) → ((i : ℕ) → i < k → Single (g i) (f i)) → ((i : ℕ) → i < k → (lo ≤ g i) × (g i < hi)) → Within lo hi (join_below k f)
  unfolding join_below Within
  within_join lo hi zero s h = tt
  within_join lo hi (suc k) s h =
      within_append lo hi (join_below k f) (f k) (within_join lo hi k (λ i l. s i (omega arith)) (λ i l. h i (omega arith)))
      (within_one lo hi k (s k (omega arith)) (h k (omega arith)).0 (h k (omega arith)).1)

-- ---- so a target that is missed keeps its value, and updates apart are consistent
module _ (n : ℕ) (v : List Value) where
  pub updated_miss : (j : ℕ) (us : List Update) (x : Value) → Misses j us → updated n v us j x ≡ x
  unfolding updated Misses
  updated_miss j [] x m = refl
  updated_miss j (u ∷ us) x m = rw (ne_eqb j u.target m.0) (updated_miss j us _ m.1 ∙ go (applies v u))
    where
      go : (b : Bool) → cond (b && false) (new_value n v u) x ≡ x
      go true = refl
      go false = refl

  not_written : (j : ℕ) (us : List Update) → Misses j us → written_to j (writes n v us) ≡ false
  unfolding written_to writes Misses
  not_written j [] m = refl
  not_written j (u ∷ us) m = go (applies v u) (not_written j us m.1)
    where
      go : (b : Bool) → written_to j (writes n v us) ≡ false →
          written_to j (cond b (record { target = u.target; value = new_value n v u } ∷ writes n v us) (writes n v us)) ≡ false
      go true h = rw (ne_eqb j u.target m.0) h
      go false h = h

  pub apart_consistent : (us : List Update) → Apart us → inconsistent (writes n v us) ≡ false
  unfolding inconsistent writes Apart
  apart_consistent [] a = refl
  apart_consistent (u ∷ us) a = go (applies v u) (apart_consistent us a.1)
    where
      go : (b : Bool) → inconsistent (writes n v us) ≡ false →
          inconsistent (cond b (record { target = u.target; value = new_value n v u } ∷ writes n v us) (writes n v us)) ≡ false
      go true h = rw (not_written u.target us a.0) h
      go false h = h

-- ---- two loops in step
pub fold_related {ℓ κ ι} : {A : Type ℓ} {B : Type κ} (R : A → B → Type ι) (k : ℕ) (f : ℕ → A → A) (g : ℕ → B → B) (a : A) (b : B) →
    R a b → ((i : ℕ) → i < k → (x : A) (y : B) → R x y → R (f i x) (g i y)) → R (fold_below k f a) (fold_below k g b)
unfolding fold_below
fold_related R zero f g a b r h = r
fold_related R (suc k) f g a b r h =
    h k (omega arith) (fold_below k f a) (fold_below k g b) (fold_related R k f g a b r (λ i l. h i (omega arith)))

-- ---- an array of the state and its variables, from base on, each value by g; from count on it holds d
pub record Column {A : Type 0} (g : A → Value) (d : A) (base room count : ℕ) (l : List A) (v : List Value) : Type 0 where
  pub sized : length l ≡ room
  pub blank : (i : ℕ) → count ≤ i → item room l i d ≡ d
  pub shows : (i : ℕ) → i < room → value_of v (base + i) ≡ g (item room l i d)

pub shifted : (k i t : ℕ) → eqb (k + i) (k + t) ≡ eqb i t
shifted k i t = go (ℕ_discrete i t)
  where
    go : Dec (i ≡ t) → eqb (k + i) (k + t) ≡ eqb i t
    go (yes e) = rw (eq-eqb i t e, eq-eqb (k + i) (k + t) (omega arith))
    go (no n) = rw (ne_eqb i t n, ne_eqb (k + i) (k + t) (λ e. n (omega arith)))

-- one element stored
module _ {A : Type 0} (g : A → Value) (d : A) (room count : ℕ) (l : List A) (t : ℕ) (a : A) where
  blank_stored : (b : Bool) → (b ≡ true → t < count) → (i : ℕ) → count ≤ i → item room l i d ≡ d → item room (cond b (store room l t a) l) i d ≡ d
  blank_stored true h i c e = let p = h refl in item_store_other room l t i a d (λ q. omega arith) ∙ e
  blank_stored false h i c e = e

  length_stored : (b : Bool) → length (cond b (store room l t a) l) ≡ length l
  length_stored true = length_store room l t a
  length_stored false = refl

  shows_stored : (b : Bool) (i : ℕ) → i < room → length l ≡ room →
      cond (b && eqb i t) (g a) (g (item room l i d)) ≡ g (item room (cond b (store room l t a) l) i d)
  shows_stored true i h s = go (eqb i t) ∙ ap g (sym (item_store room l t i a d h s))
    where
      go : (c : Bool) → cond c (g a) (g (item room l i d)) ≡ g (cond c a (item room l i d))
      go true = refl
      go false = refl
  shows_stored false i h s = refl

module _ {A : Type 0} {g : A → Value} {d : A} {base room count : ℕ} where
  pub column_kept : {l : List A} {v w : List Value} → Column g d base room count l v →
      ((i : ℕ) → i < room → value_of w (base + i) ≡ value_of v (base + i)) → Column g d base room count l w
  column_kept h k = record { sized = h.sized; blank = h.blank; shows = λ i l. k i l ∙ h.shows i l }

  -- a loop over the numbers c below k, each of which stores a c at t c if q c, and the updates that do the same
  module _ (n : ℕ) (v w : List Value) (k : ℕ) (f : ℕ → List Update) (F : ℕ → List A → List A) (q : ℕ → Bool) (t : ℕ → ℕ) (a : ℕ → A)
      (form : (c : ℕ) → c < k → (l : List A) → F c l ≡ cond (q c) (store room l (t c) (a c)) l)
      (inside : (c : ℕ) → c < k → q c ≡ true → t c < count)
      (same : (c : ℕ) → c < k → (i : ℕ) → i < room → (x : Value) → updated n v (f c) (base + i) x ≡ cond (q c && eqb i (t c)) (g (a c)) x) where
    pub column_filled : {l : List A} → Column g d base room count l v →
        ((i : ℕ) → i < room → value_of w (base + i) ≡ updated n v (join_below k f) (base + i) (value_of v (base + i))) →
        Column g d base room count (fold_below k F l) w
    column_filled {l} h e = record {
      sized = fold_related (λ (x : List A) (y : ℕ). length x ≡ room) k F (λ c y. y) l 0 h.sized
          (λ c p x y r. rw (form c p x) (length_stored g d room count x (t c) (a c) (q c) ∙ r));
      blank = λ i b. fold_related (λ (x : List A) (y : ℕ). item room x i d ≡ d) k F (λ c y. y) l 0 (h.blank i b)
          (λ c p x y r. rw (form c p x) (blank_stored g d room count x (t c) (a c) (q c) (inside c p) i b r));
      shows = λ i b.
          e i b ∙ rw (updated_join n v k f (base + i) (value_of v (base + i)), h.shows i b) (sym (fold_related (Like i) k F (λ c y. updated n v (f c) (base + i) y) l (g (item room l i d))
          (h.sized, refl) (λ c p x y r. step c p i b x y r)).1);
    }
      where
        Like : ℕ → List A → Value → Type 0
        Like i x y = (length x ≡ room) × (g (item room x i d) ≡ y)

        step : (c : ℕ) → c < k → (i : ℕ) → i < room → (x : List A) (y : Value) → Like i x y → Like i (F c x) (updated n v (f c) (base + i) y)
        step c p i b x y r = rw (form c p x) (
          length_stored g d room count x (t c) (a c) (q c) ∙ r.0,
          sym (same c p i b y ∙ ap (cond (q c && eqb i (t c)) (g (a c))) (sym r.1) ∙ shows_stored g d room count x (t c) (a c) (q c) i b r.0),
        )

-- ---- the first update of a list, at its target and elsewhere
module _ (n : ℕ) (v : List Value) where
  abbrev pub worth : Expression → Value
  worth e = combine e.op (operand_value n v e.first) (operand_value n v e.second)

  pub updated_here : (j : ℕ) (e : Expression) (l : List Update) (x : Value) → Misses j l → updated n v (update j e ∷ l) j x ≡ worth e
  unfolding updated applies
  updated_here j e l x m = rw (eq-eqb j j refl) (updated_miss n v j l _ m)

  pub updated_there : (j : ℕ) (u : Update) (l : List Update) (x : Value) → (j ≡ u.target → ⊥) → updated n v (u ∷ l) j x ≡ updated n v l j x
  unfolding updated
  updated_there j u l x m = rw (ne_eqb j u.target m) (ap (updated n v l j) (go (applies v u)))
    where
      go : (b : Bool) → cond (b && false) (new_value n v u) x ≡ x
      go true = refl
      go false = refl

  -- a list of one update under a test
  pub updated_only : (b : Bool) (u : Update) (j : ℕ) (x : Value) →
      updated n v (cond b (u ∷ []) []) j x ≡ cond (b && (applies v u && eqb j u.target)) (new_value n v u) x
  unfolding updated
  updated_only true u j x = refl
  updated_only false u j x = refl

  -- the values of the expressions that rules use
  pub constant_worth : (c : ℕ) → worth (copied (constant c)) ≡ natural c
  unfolding combine operand_value
  constant_worth c = refl

  pub variable_worth : (j : ℕ) → worth (copied (variable j)) ≡ value_of v j
  unfolding combine operand_value
  variable_worth j = refl

  pub sum_worth : (j a b : ℕ) → value_of v j ≡ natural a → a + b < 2147483648 → worth (sum_of (variable j) (constant b)) ≡ natural (a + b)
  unfolding combine operand_value
  sum_worth j a b e h = rw e (plus_small a b h)

  pub chosen_worth : (j a : ℕ) → value_of v j ≡ natural a → a + n < 2147483648 → worth (sum_of (variable j) chosen_length) ≡ natural (a + n)
  unfolding combine operand_value
  chosen_worth j a e h = rw (e, chosen_small n (omega arith)) (plus_small a n h)

  pub updated_set : (base c a i : ℕ) (x : Value) → updated n v (set_to (base + c) a ∷ []) (base + i) x ≡ cond (eqb i c) (natural a) x
  unfolding updated applies combine operand_value
  updated_set base c a i x = rw (shifted base i c)

-- ---- the first number that passes passes, and none before it does
pub first_passes : (n : ℕ) (p : ℕ → Bool) → first_below n p < n → p (first_below n p) ≡ true
unfolding first_below
first_passes zero p l = absurd (omega arith)
first_passes (suc n) p l = go (ltb (first_below n p) n) refl (p n) refl l (first_passes n p)
  where
    go : (b : Bool) → ltb (first_below n p) n ≡ b → (c : Bool) → p n ≡ c → cond b (first_below n p) (cond c n (suc n)) < suc n →
        (first_below n p < n → p (first_below n p) ≡ true) → p (cond b (first_below n p) (cond c n (suc n))) ≡ true
    go true e c f k ih = ih (ltb-true (first_below n p) n e)
    go false e true f k ih = f
    go false e false f k ih = absurd (omega arith)

pub first_before : (n : ℕ) (p : ℕ → Bool) (j : ℕ) → j < first_below n p → p j ≡ false
unfolding first_below
first_before zero p j l = absurd (omega arith)
first_before (suc n) p j l = go (ltb (first_below n p) n) refl (p n) refl l (first_before n p j) (ℕ_discrete j n)
  where
    go : (b : Bool) → ltb (first_below n p) n ≡ b → (c : Bool) → p n ≡ c → j < cond b (first_below n p) (cond c n (suc n)) →
        (j < first_below n p → p j ≡ false) → Dec (j ≡ n) → p j ≡ false
    go true e c f k ih q = ih k
    go false e true f k ih q = let a = ltb-false (first_below n p) n e in ih (omega arith)
    go false e false f k ih (yes q) = rw q f
    go false e false f k ih (no q) = let a = ltb-false (first_below n p) n e in ih (omega arith)
