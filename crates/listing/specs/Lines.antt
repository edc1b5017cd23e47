-- A line in the room that the code writes it in, from its end.
use Rattle.std.specs.Prelude.{◌≡◌, List, ℕ, ◌+◌, ◌≤◌, take, drop, replicate}
use Rattle.listing.specs.declared.Line.{Line}

-- the room of a figure, of `most_digits` and the byte after it; and of a line: four figures and more
abbrev pub figure_room : ℕ
figure_room = 21

abbrev pub line_room : ℕ
line_room = 96

abbrev pub zeros : ℕ → List ℕ
zeros n = replicate n 0

-- the text of a line, from its start to the end of the room
unfoldable pub text_of : Line → List ℕ
text_of l = drop l.start l.bytes

-- The text ends where the room ends, and zeros stand before it: so a line is known by its text.
pub record Padded (l : Line) : Type 0 where
  pub within : l.start ≤ line_room
  pub blank : take l.start l.bytes ≡ zeros l.start

-- n bytes more can be written
pub record Room (l : Line) (n : ℕ) : Type 0 where
  pub padded : Padded l
  pub left : n ≤ l.start

-- r came from l by writing n bytes at most, and has the text t
pub record Written (l r : Line) (n : ℕ) (t : List ℕ) : Type 0 where
  pub text : text_of r ≡ t
  pub padded : Padded r
  pub used : l.start ≤ r.start + n
