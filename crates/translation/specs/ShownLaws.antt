-- Laws of what variables stand for: a variable of a block, and one of none.
use Rattle.std.specs.Prelude.{◌≡◌, refl, true, false, List, [], ◌∷◌, ◌++◌, ℕ, ◌+◌, ◌-◌, ◌<◌, ◌≤◌, ltb, get_or, take, drop}
use Rattle.std.proofs.Math.Path.{sym}
use Rattle.std.proofs.Common.{◌∙◌, ap, arith, lt-ltb, le-ltb, le-leb}
use Rattle.std.proofs.Math.Decide.{dec_lt}
use Rattle.std.proofs.lemmas.Bool.{lt-leb}
use Rattle.numbers.specs.Values.{natural}
use Rattle.model_format.specs.declared.Timing.{Timing}
use Rattle.model_semantics.specs.declared.State.{State}
use Rattle.translation.specs.Shown.{in_block, Block, blocks_of, shown_in, stands_for}

-- ---- one block
pub in_block_lem : (base n j : ℕ) → base ≤ j → j < base + n → in_block base n j ≡ true
in_block_lem base n j p q = rw (le-leb base j p, lt-ltb j (base + n) q)

pub out_block : (base n j : ℕ) → (base ≤ j → j < base + n → ⊥) → in_block base n j ≡ false
out_block base n j h = go (dec_lt j base)
  where
    go : Dec (j < base) → in_block base n j ≡ false
    go (yes l) = rw (lt-leb base j l)
    go (no l) = let a : base + n ≤ j = by (dec_lt j (base + n)) in rw (le-leb base j (omega arith), le-ltb j (base + n) a)
      where
        by : Dec (j < base + n) → base + n ≤ j
        by (yes q) = absurd (h (omega arith) q)
        by (no q) = omega arith

-- from a block's first variable on
pub block_below : (base n j : ℕ) → j < base → in_block base n j ≡ false
block_below base n j h = rw (lt-leb base j h)

pub block_from : (base n j : ℕ) → base ≤ j → in_block base n j ≡ ltb (j - base) n
block_from base n j h = rw (le-leb base j h) (go (dec_lt (j - base) n))
  where
    go : Dec (j - base < n) → ltb j (base + n) ≡ ltb (j - base) n
    go (yes l) = rw (lt-ltb (j - base) n l) (lt-ltb j (base + n) (omega arith))
    go (no l) = rw (le-ltb (j - base) n (omega arith)) (le-ltb j (base + n) (omega arith))

-- ---- j is in none of the blocks
unfoldable pub Avoids : ℕ → List Block → Type 0
Avoids j [] = Unit {0}
Avoids j (x ∷ l) = (x.base ≤ j → j < x.base + x.count → ⊥) × Avoids j l

pub shown_skip : (s : State) (j : ℕ) (a b : List Block) → Avoids j a → shown_in (a ++ b) s j ≡ shown_in b s j
unfolding shown_in Avoids
shown_skip s j [] b h = refl
shown_skip s j (x ∷ a) b h = rw (out_block x.base x.count j h.0) (shown_skip s j a b h.1)

pub shown_none : (s : State) (j : ℕ) (l : List Block) → Avoids j l → shown_in l s j ≡ natural 0
unfolding shown_in Avoids
shown_none s j [] h = refl
shown_none s j (x ∷ l) h = rw (out_block x.base x.count j h.0) (shown_none s j l h.1)

-- the block at place k, whose values are 0 from its count on; the blocks before and after it do not reach its variable t
abbrev pub block_at : Timing → ℕ → Block
block_at m k = get_or (blocks_of m) k (record { base = 0; count = 0; shows = λ s t. natural 0 })

pub stands_block : (m : Timing) (s : State) (k t : ℕ) → blocks_of m ≡ take k (blocks_of m) ++ block_at m k ∷ drop (k + 1) (blocks_of m) →
    Avoids ((block_at m k).base + t) (take k (blocks_of m)) → Avoids ((block_at m k).base + t) (drop (k + 1) (blocks_of m)) →
    ((block_at m k).count ≤ t → (block_at m k).shows s t ≡ natural 0) → stands_for m s ((block_at m k).base + t) ≡ (block_at m k).shows s t
unfolding stands_for
stands_block m s k t e before after blank =
    ap (λ (l : List Block). shown_in l s ((block_at m k).base + t)) e ∙
    (shown_skip s ((block_at m k).base + t) (take k (blocks_of m)) _ before ∙ here (block_at m k) (drop (k + 1) (blocks_of m)) after blank)
  where
    here : (x : Block) (l : List Block) → Avoids (x.base + t) l → (x.count ≤ t → x.shows s t ≡ natural 0) → shown_in (x ∷ l) s (x.base + t) ≡ x.shows s t
    here x l a b = go (dec_lt t x.count)
      where
        go : Dec (t < x.count) → shown_in (x ∷ l) s (x.base + t) ≡ x.shows s t
        go (yes q) = unfold shown_in in (rw (in_block_lem x.base x.count (x.base + t) (omega arith) (omega arith)) (ap (x.shows s) (omega arith)))
        go (no q) = unfold shown_in in (rw (out_block x.base x.count (x.base + t) (λ y z. q (omega arith))) (shown_none s (x.base + t) l a ∙ sym (b (omega arith))))
