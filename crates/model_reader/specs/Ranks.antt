-- The rank and the size of a record by its bytes.
use Rattle.std.specs.Prelude.{◌≡◌, refl, true, cond, List, ℕ, ◌<◌, length, get_or, take, eqb}
use Rattle.std.proofs.Common.{sym, ◌∙◌, ap, arith, take_all, length-take-le, ne_eqb}
use Rattle.std.proofs.Math.Decide.{ℕ_discrete, dec_lt}
use Rattle.records.specs.declared.Notation.TheVariants as notations
use Rattle.records.specs.Format.{record_size}
use Rattle.records.specs.Kinds.{model_written_input}
use Rattle.records.specs.Refusals.{number_of, is_none}
use Rattle.model_format.specs.declared.Reading.{Reading}
use Rattle.model_format.specs.declared.Record.TheVariants.{Cut, Unknown}
use Rattle.model_format.specs.Format.{record_of_whole, record_of, input_rank, rank_of}
use Rattle.model_format.specs.Laws.{record_unknown, record_cut, record_whole}
use Rattle.model_format.specs.Reading.{cause_of}

-- that of a record with no cause, by its kind: the kinds of one place have one rank
unfoldable pub rank_of_kind : ℕ → ℕ
rank_of_kind k = cond (eqb k model_written_input) input_rank k

pub rank_written : (k : ℕ) → k ≡ model_written_input → input_rank ≡ rank_of_kind k
unfolding rank_of_kind
rank_written k e = rw e

pub rank_other : (k : ℕ) → (k ≡ model_written_input → ⊥) → k ≡ rank_of_kind k
unfolding rank_of_kind
rank_other k h = rw (ne_eqb k model_written_input h)

-- ---- sizes
pub sized : (k j n : ℕ) → k ≡ j → n ≡ record_size notations.Model j → n ≡ record_size notations.Model k
sized k j n e f = rw e f

-- what is of none of the kinds has no size
pub size_none : (k : ℕ) → (k ≡ 1 → ⊥) → (k ≡ 2 → ⊥) → (k ≡ 3 → ⊥) → (k ≡ 11 → ⊥) → (k ≡ 4 → ⊥) → (k ≡ 5 → ⊥) → (k ≡ 6 → ⊥) → (k ≡ 7 → ⊥) → (k ≡ 8 → ⊥) → (k ≡ 9 → ⊥) → (k ≡ 10 → ⊥) → record_size notations.Model k ≡ 0
unfolding record_size
size_none k a b c n d f g i j l m = rw (ne_eqb k 1 a, ne_eqb k 2 b, ne_eqb k 3 c, ne_eqb k 4 d, ne_eqb k 5 f, ne_eqb k 6 g, ne_eqb k 7 i, ne_eqb k 8 j, ne_eqb k 9 l, ne_eqb k 10 m, ne_eqb k 11 n)

-- ---- ranks
rank_of_whole : (k : ℕ) (x : List ℕ) → (record_size notations.Model k ≡ 0 → ⊥) → rank_of_kind k ≡ rank_of (record_of_whole k x)
unfolding rank_of rank_of_kind
rank_of_whole k x h = one (ℕ_discrete k 1) (ℕ_discrete k 2) (ℕ_discrete k 3) (ℕ_discrete k 4) (ℕ_discrete k 5) (ℕ_discrete k 6) (ℕ_discrete k 7) (ℕ_discrete k 8) (ℕ_discrete k 9) (ℕ_discrete k 10) (ℕ_discrete k 11)
  where
    one : Dec (k ≡ 1) → Dec (k ≡ 2) → Dec (k ≡ 3) → Dec (k ≡ 4) → Dec (k ≡ 5) → Dec (k ≡ 6) → Dec (k ≡ 7) → Dec (k ≡ 8) → Dec (k ≡ 9) → Dec (k ≡ 10) → Dec (k ≡ 11) → rank_of_kind k ≡ rank_of (record_of_whole k x)
    one (yes e) b c d f g i j l m n = rw e
    one (no a) (yes e) c d f g i j l m n = rw e
    one (no a) (no b) (yes e) d f g i j l m n = rw e
    one (no a) (no b) (no c) (yes e) f g i j l m n = rw e
    one (no a) (no b) (no c) (no d) (yes e) g i j l m n = rw e
    one (no a) (no b) (no c) (no d) (no f) (yes e) i j l m n = rw e
    one (no a) (no b) (no c) (no d) (no f) (no g) (yes e) j l m n = rw e
    one (no a) (no b) (no c) (no d) (no f) (no g) (no i) (yes e) l m n = rw e
    one (no a) (no b) (no c) (no d) (no f) (no g) (no i) (no j) (yes e) m n = rw e
    one (no a) (no b) (no c) (no d) (no f) (no g) (no i) (no j) (no l) (yes e) n = rw e
    one (no a) (no b) (no c) (no d) (no f) (no g) (no i) (no j) (no l) (no m) (yes e) = rw e
    one (no a) (no b) (no c) (no d) (no f) (no g) (no i) (no j) (no l) (no m) (no n) = absurd (h (size_none k a b c n d f g i j l m))

no_cause_unknown : (a : Reading) → is_none (cause_of a Unknown) ≡ true → ⊥
unfolding cause_of number_of
no_cause_unknown a k = let y : ◌≡◌ {A = ℕ} 0 1 = cc in absurd (omega arith)

no_cause_cut : (a : Reading) → is_none (cause_of a Cut) ≡ true → ⊥
unfolding cause_of number_of
no_cause_cut a k = let y : ◌≡◌ {A = ℕ} 0 1 = cc in absurd (omega arith)

pub rank_of_part : (a : Reading) (x : List ℕ) (k : ℕ) → k ≡ get_or x 0 0 → is_none (cause_of a (record_of x)) ≡ true → rank_of_kind k ≡ rank_of (record_of x)
rank_of_part a x k e h = go (ℕ_discrete m 0) (dec_lt (length x) m)
  where
    m : ℕ
    m = record_size notations.Model k

    go : Dec (m ≡ 0) → Dec (length x < m) → rank_of_kind k ≡ rank_of (record_of x)
    go (yes z) l = absurd (no_cause_unknown a (rw (← record_unknown x k m e refl z) at h))
    go (no z) (yes l) = absurd (no_cause_cut a (rw (← record_cut x k m e refl z l) at h))
    go (no z) (no l) = rank_of_whole k x z ∙ ap rank_of (record_whole x k m e refl z (omega arith))

-- ---- the code's &x[..n], where n is the size of the record x
module _ (x : List ℕ) (k n : ℕ) (h : length x ≡ record_size notations.Model k) (e : n ≡ record_size notations.Model k) where
  pub cut_length : n ≡ length (take n x)
  cut_length = let w = h ∙ sym e in sym (length-take-le n x (omega arith))

  pub cut_whole : take n x ≡ x
  cut_whole = let w = h ∙ sym e in take_all n x (omega arith)
