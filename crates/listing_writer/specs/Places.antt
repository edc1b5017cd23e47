-- What is left to write. A loop that writes knows: whatever is written from here on, the whole is written.
use Rattle.std.specs.Prelude.{◌≡◌, refl, List, [], ◌∷◌, ◌++◌, ℕ, ◌+◌, ◌-◌, ◌<◌, ◌≤◌, get_or, length, take, drop}
use Rattle.std.proofs.Common.{◌∙◌, arith, add-one, length-drop, drop_of_length-le, drop-cons, take_all}
use Rattle.listing.specs.declared.Line.{Line}
use Rattle.listing.specs.Lines.{line_room, text_of}
use Rattle.table_writer.specs.Written.{keeps_length, and_then, wrote_nothing}
use Rattle.table_writer.specs.Wrote.{Wrote, farthest}

-- d, with the bytes `rest` written at a place, is `start` with the bytes `whole` written at `from`
pub record Left (start : List ℕ) (from : ℕ) (whole : List ℕ) (d : List ℕ) (at : ℕ) (rest : List ℕ) : Type 0 where
  pub same : length d ≡ length start
  pub size : length start ≤ farthest
  pub near : at ≤ farthest
  pub then : (e : List ℕ) (p : ℕ) → Wrote d at rest e p → Wrote start from whole e p

pub left_begin : (d : List ℕ) (at : ℕ) (w : List ℕ) → length d ≤ farthest → at ≤ farthest → Left d at w d at w
left_begin d at w h k = record { same = refl; size = h; near = k; then = λ e p x. x }

module _ {s w d e : List ℕ} {f at p : ℕ} where
  pub left_on : (x y : List ℕ) → Left s f w d at (x ++ y) → Wrote d at x e p → Left s f w e p y
  left_on x y l v = record {
    same = keeps_length v ∙ l.same;
    size = l.size;
    near = let e = v.place in omega arith;
    then = λ g q z. l.then g q (and_then x y (rw l.same l.size) v z);
  }

  -- a text written byte by byte
  pub text_on : (t : List ℕ) (i : ℕ) → Left s f w d at (drop i t) → i < length t → Wrote d at (get_or t i 0 ∷ []) e p → Left s f w e p (drop (i + 1) t)
  text_on t i l h v = left_on (get_or t i 0 ∷ []) (drop (i + 1) t) (rw (add-one i, ← drop-cons t i 0 h) l) v

pub left_end : {s w d : List ℕ} {f at : ℕ} → Left s f w d at [] → Wrote s f w d at
left_end {s} {w} {d} {f} {at} l = l.then d at (wrote_nothing d at l.near)

pub text_end : {s w d : List ℕ} {f at : ℕ} (t : List ℕ) (i : ℕ) → Left s f w d at (drop i t) → length t ≤ i → Wrote s f w d at
text_end t i l h = left_end (rw (drop_of_length-le t h) at l)

-- the code's &bytes[start..]
pub text_part : (l : Line) → length l.bytes ≡ line_room → take (line_room - l.start) (drop l.start l.bytes) ≡ text_of l
unfolding text_of
text_part l h = take_all (line_room - l.start) (drop l.start l.bytes) (simp length-drop (omega arith))
