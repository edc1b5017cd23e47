-- Laws of writing a line from its end.
use Rattle.std.specs.Prelude.{◌≡◌, refl, List, [], ◌∷◌, set}
use Rattle.std.proofs.Common.{sym, ◌∙◌, subst, drop_at, length-take-le, take-take, lt-ltb, le-ltb}
use Rattle.std.proofs.Math.Path.{ap}
use Prim.Native.Nat.{ℕ, zero, suc, ◌+◌, ◌-◌, ◌/◌, ◌%◌, ◌<◌, ◌≤◌}
use native.Mathlib.Omega.{arith}
use Rattle.std.proofs.Math.ListN.{length, take, drop}
use Rattle.std.proofs.lemmas.List.{set_split, take-set-le}
use Rattle.records.specs.declared.Event.{Event}
use Rattle.records.specs.declared.Cause.{Cause}
use Rattle.records.specs.Refusals.{number_of}
use Rattle.records.specs.Events.{figure_of}
use Rattle.listing.specs.declared.Line.{Line}
use Rattle.listing.specs.Listing.{zero_digit, digits_in, most_digits, decimal, space, newline, line, last_line}
use Rattle.listing.specs.Lines.{figure_room, line_room, zeros, text_of, Room, Written}

take_zeros : (k n : ℕ) → k ≤ n → take k (zeros n) ≡ zeros k
take_zeros zero n h = refl
take_zeros (suc k) zero h = absurd (omega arith)
take_zeros (suc k) (suc n) h = ap (◌∷◌ 0) (take_zeros k n (omega arith))

-- one byte more, before a text that begins at suc k
module _ (s : List ℕ) (k b : ℕ) (h : k < length s) where
  drop_written : drop k (set s k b) ≡ b ∷ drop (suc k) s
  drop_written = rw (set_split s k b h) (drop_at (take k s) (b ∷ drop (suc k) s) k (length-take-le k s (omega arith)))

  zeros_kept : take (suc k) s ≡ zeros (suc k) → take k (set s k b) ≡ zeros k
  zeros_kept z =
      take-set-le k s k b (omega arith) ∙ sym (take-take k (suc k) s (omega arith)) ∙ ap (take k) z ∙ take_zeros k (suc k) (omega arith)

module _ (l : Line) (n : length l.bytes ≡ line_room) where
  pub byte_written : (b : ℕ) → Room l 1 → Written l (record { start = l.start - 1; bytes = set l.bytes (l.start - 1) b }) 1 (b ∷ text_of l)
  unfolding text_of
  byte_written b m =
      let k = l.start - 1 in
      let o : 1 ≤ l.start = m.left in
      let w : l.start ≤ line_room = m.padded.within in
      let e : l.start ≡ suc k = omega arith in
      let h : k < length l.bytes = omega arith in
      record {
        text = drop_written l.bytes k b h ∙ ap (λ (i : ℕ). b ∷ drop i l.bytes) (sym e);
        padded = record { within = omega arith; blank = zeros_kept l.bytes k b h (subst (λ (i : ℕ). take i l.bytes ≡ zeros i) e m.padded.blank) };
        used = omega arith;
      }

-- ---- a number written digit by digit: of n, m is left, of all digits, f are left, and o is what has become of l
pub record Digits (l o : Line) (n m f : ℕ) : Type 0 where
  pub text : digits_in f m (text_of o) ≡ decimal n (text_of l)
  pub room : Room o f
  pub used : l.start + f ≤ o.start + most_digits

pub digits_begin : (l : Line) (n : ℕ) → Room l most_digits → Digits l l n n most_digits
digits_begin l n m = record { text = refl; room = m; used = omega arith }

-- the last digit of m, before r
module _ (f g m : ℕ) (r : List ℕ) (s : f ≡ suc g) where
  digits_more : 10 ≤ m → digits_in f m r ≡ digits_in g (m / 10) ((zero_digit + m % 10) ∷ r)
  unfolding digits_in
  digits_more k = rw s (rw (le-ltb m 10 k))

  digits_one : m < 10 → digits_in f m r ≡ (zero_digit + m % 10) ∷ r
  unfolding digits_in
  digits_one k = rw s (rw (lt-ltb m 10 k))

module _ {l o r : Line} {n m f d : ℕ} (g : Digits l o n m f) (h : 0 < f) (e : d ≡ zero_digit + m % 10) (w : Written o r 1 (d ∷ text_of o)) where
  pub digits_on : 10 ≤ m → Digits l r n (m / 10) (f - 1)
  digits_on k = record {
    text = rw (w.text, e) (sym (digits_more f (f - 1) m (text_of o) (omega arith) k) ∙ g.text);
    room = record { padded = w.padded; left = omega arith };
    used = omega arith;
  }

  pub digits_last : m < 10 → Written l r most_digits (decimal n (text_of l))
  digits_last k = record { text = rw (w.text, e) (sym (digits_one f (f - 1) m (text_of o) (omega arith) k) ∙ g.text); padded = w.padded; used = omega arith }

pub digits_end : {l o : Line} {n m f : ℕ} → Digits l o n m f → f ≤ 0 → Written l o most_digits (decimal n (text_of l))
unfolding digits_in
digits_end {l} {o} {n} {m} {f} g h = let z : f ≡ 0 = omega arith in record { text = rw z at g.text; padded = g.room.padded; used = omega arith }

-- ---- figures, and the two lines of them
abbrev pub figure : ℕ → ℕ → List ℕ → List ℕ
figure n b r = decimal n (b ∷ r)

pub figure_written : {l o r : Line} (n b : ℕ) → Written l o 1 (b ∷ text_of l) → Written o r most_digits (decimal n (text_of o)) → Written l r figure_room (figure n b (text_of l))
figure_written n b v w = record { text = rw (← v.text) w.text; padded = w.padded; used = omega arith }

pub line_written : {o a b c r : Line} (step clock f : ℕ) (e : Event) → f ≡ figure_of e → text_of o ≡ [] →
    Written o a figure_room (figure f newline (text_of o)) → Written a b figure_room (figure e.kind space (text_of a)) →
    Written b c figure_room (figure clock space (text_of b)) → Written c r figure_room (figure step space (text_of c)) → text_of r ≡ line step clock e
unfolding line
line_written step clock f e h z s t u v = rw (v.text, u.text, t.text, s.text, z, h)

-- the three figures of the last line, and "end " before them
pub last_written : {o a b c d e f r : Line} (taken n clock : ℕ) (x : Cause) → n ≡ number_of x → text_of o ≡ [] →
    Written o a figure_room (figure clock newline (text_of o)) → Written a b figure_room (figure n space (text_of a)) → Written b c figure_room (figure taken space (text_of b)) →
    Written c d 1 (space ∷ text_of c) → Written d e 1 (100 ∷ text_of d) → Written e f 1 (110 ∷ text_of e) → Written f r 1 (101 ∷ text_of f) →
    text_of r ≡ last_line taken x clock
unfolding last_line
last_written taken n clock x h z s t u i j k l = rw (l.text, k.text, j.text, i.text, u.text, t.text, s.text, z, h)
