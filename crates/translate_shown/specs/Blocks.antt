-- What a variable stands for, in the pieces in which it is looked up, and by its 32 bits: a clock figure past the values that 32 bits
-- stand for is shown by the same bits.
use Rattle.std.specs.Prelude.{◌≡◌, refl, Bool, true, false, cond, ◌||◌, ℕ, ◌+◌, ◌-◌, ◌*◌, ◌/◌, ◌%◌, ◌<◌, ◌≤◌, ltb, drop}
use Rattle.std.proofs.Common.{sym, ◌∙◌, true≢false, le-leb, Fits}
use Rattle.std.proofs.Math.Bool.{or-false}
use mathlib.Core.List.{List, [], ◌∷◌}
use native.Mathlib.Omega.{arith}
use Rattle.std.specs.Int.{w32}
use mir.ValLaws.{of_z-to_z}
use Rattle.numbers.specs.declared.Duration.{Duration}
use Rattle.numbers.specs.declared.Value.{Value}
use Rattle.numbers.specs.Values.{duration, value, natural, signed, bits_of}
use Rattle.model_format.specs.declared.Timing.{Timing}
use Rattle.model_semantics.specs.declared.Clock.{Clock}
use Rattle.model_semantics.specs.declared.State.{State}
use Rattle.table_format.specs.Variables.{now_var, clock_vars, active_var, state_var, dispatch_var, behavior_var, missed_var, flag_var, input_var, buffer_var, output_var, local_var}
use Rattle.table_format.specs.All.{All, ◌also◌}
use Rattle.translation.specs.Shown.{bit, in_block, Block, clock_number, blocks_of, shown_in, stands_for}
use Rattle.translate_shown.specs.Standing.{in_any, is_shown}
use Rattle.translation.specs.ShownLaws.{in_block_lem, out_block, Avoids, shown_none}

-- ---- values of the same bits
pub record SameBits (v w : Value) : Type 0 where
  pub bits : bits_of v.0 ≡ bits_of w.0

pub same_value_lem : {v w : Value} → v ≡ w → SameBits v w
same_value_lem e = rw e (record { bits = refl })

-- v is the value that the code has made of n
pub count_same : (n : ℕ) (v : Value) → Fits w32 n → v ≡ value (signed n) → SameBits v (natural n)
count_same n v f e = rw e (record { bits = of_z-to_z w32 n f })

-- ---- the blocks in the pieces in which they are looked up: all but the clock's; from behaviour states on; those of ports and locals
abbrev pub thread_shown : Timing → State → ℕ → Value
thread_shown m s j = shown_in (drop 1 (blocks_of m)) s j

abbrev pub count_shown : Timing → State → ℕ → Value
count_shown m s j = shown_in (drop 4 (blocks_of m)) s j

abbrev pub port_shown : Timing → State → ℕ → Value
port_shown m s j = shown_in (drop 7 (blocks_of m)) s j

-- ---- item i as the code has it, and what it shows
module _ {i k : ℕ} (e : i ≡ k) {v : Value} where
  pub value_shown : (f : ℕ → Value) → v ≡ f i → SameBits v (f k)
  value_shown f h = rw (← e) (same_value_lem h)

  pub count_shown_lem : (f : ℕ → ℕ) {n : ℕ} → n ≡ f i → SameBits v (natural n) → SameBits v (natural (f k))
  count_shown_lem f h s = rw (← e, ← h) s

  pub mark_shown : (f : ℕ → Bool) {b : Bool} → b ≡ f i → SameBits v (natural (bit b)) → SameBits v (natural (bit (f k)))
  mark_shown f h s = rw (← e, ← h) s

  pub time_shown : (f : ℕ → ℕ) {x : Duration} → x ≡ duration (f i) → SameBits v (natural x.0) → SameBits v (natural (f k))
  time_shown f h s = rw (← e) (rw h at s)

-- ---- a test of a block, by how many items the code has counted
pub block_is : {b : Bool} (base j : ℕ) {n k : ℕ} → n ≡ k → b ≡ in_block base n j → b ≡ in_block base k j
block_is base j e h = rw (← e) h

-- ---- one of two values by a test that the code has made
module _ {v x : Value} {p b : Bool} (e : b ≡ p) (y : Value) where
  pub shown_here : b ≡ true → SameBits v x → SameBits v (cond p x y)
  shown_here t s = rw (← e, t) s

  pub shown_on : b ≡ false → SameBits v x → SameBits v (cond p y x)
  shown_on t s = rw (← e, t) s

-- ---- the clock's variables, and the others
module _ {v : Value} (m : Timing) (s : State) (j : ℕ) where
  pub clock_shown : {n : ℕ} (c : Clock) → c ≡ s.clock → j < clock_vars → n ≡ clock_number c j → SameBits v (natural n) → SameBits v (stands_for m s j)
  unfolding stands_for shown_in blocks_of
  clock_shown c g h e x = let z : j - now_var ≡ j = omega arith in rw (in_block_lem now_var clock_vars j (omega arith) (omega arith), z, ← g, ← e) x

  pub others_shown : clock_vars ≤ j → SameBits v (thread_shown m s j) → SameBits v (stands_for m s j)
  unfolding stands_for shown_in blocks_of
  others_shown h x = rw (out_block now_var clock_vars j (λ a b. omega arith)) x

-- ---- which variables stand for something
-- a to k are the tests that the code has made
pub shown_is : (m : Timing) (j : ℕ) {a b c d e f g h i k : Bool} → a ≡ in_block (active_var 0) m.threads j → b ≡ in_block (state_var 0) m.threads j → c ≡ in_block (dispatch_var 0) m.threads j →
    d ≡ in_block (behavior_var 0) m.threads j → e ≡ in_block (missed_var 0) m.threads j → f ≡ in_block (flag_var 0) m.connections j → g ≡ in_block (input_var 0) m.inputs j →
    h ≡ in_block (buffer_var 0) m.inputs j → i ≡ in_block (output_var 0) m.outputs j → k ≡ in_block (local_var 0) m.locals j →
    (ltb j clock_vars || (a || (b || (c || (d || (e || (f || (g || (h || (i || k)))))))))) ≡ is_shown m j
unfolding is_shown in_any blocks_of
shown_is m j {k = k} p q r s t u v w x y = rw (le-leb now_var j (omega arith), ← p, ← q, ← r, ← s, ← t, ← u, ← v, ← w, ← x, ← y, or-false k)

-- ---- no block has variable j
none_is : (l : List Block) (j : ℕ) → in_any l j ≡ false → Avoids j l
unfolding in_any Avoids
none_is [] j e = tt
none_is (b ∷ l) j e = go (in_block b.base b.count j) refl (none_is l j) e
  where
    go : (x : Bool) → in_block b.base b.count j ≡ x → (in_any l j ≡ false → Avoids j l) → (x || in_any l j) ≡ false → (b.base ≤ j → j < b.base + b.count → ⊥) × Avoids j l
    go true q f e = absurd (true≢false e)
    go false q f e = (λ a c. true≢false (sym (in_block_lem b.base b.count j a c) ∙ q), f e)

-- ---- nor the variables behind it before the next multiple of 16, where blocks begin
blocks_placed : (m : Timing) → All (λ (b : Block). b.base % 16 ≡ 0) (blocks_of m)
unfolding blocks_of
blocks_placed m = refl also refl also refl also refl also refl also refl also refl also refl also refl also refl also refl also tt

module _ (j i : ℕ) (h : j ≤ i) (k : i < j / 16 * 16 + 16) where
  avoids_on : (l : List Block) → All (λ (b : Block). b.base % 16 ≡ 0) l → Avoids j l → Avoids i l
  unfolding Avoids
  avoids_on [] p n = tt
  avoids_on (b ∷ l) p n = (λ y z. let q = p.0 in n.0 (omega arith) (omega arith), avoids_on l p.1 n.1)

  pub absent_on : (m : Timing) (s : State) → is_shown m j ≡ false → stands_for m s i ≡ natural 0
  unfolding is_shown stands_for
  absent_on m s e = shown_none s i (blocks_of m) (avoids_on (blocks_of m) (blocks_placed m) (none_is (blocks_of m) j e))
