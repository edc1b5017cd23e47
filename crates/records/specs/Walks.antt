-- A step of a walk over an input: what it gives, and where the walk stands then.
use Rattle.std.specs.Prelude.{◌≡◌, ℕ, ◌+◌, ◌<◌, ◌≤◌, Option, MatchOption, length, take, drop}
use Rattle.records.specs.declared.Listed.{Listed}
use Rattle.records.specs.declared.walks.Part.{Part}
use Rattle.records.specs.declared.walks.Parts.{Parts}
use Rattle.records.specs.declared.walks.Events.{Events}
use Rattle.records.specs.Format.{part_length_at}
use Rattle.records.specs.Events.{listed_at}

-- the part p of the input begins at the place, and the walk goes to where it ends
pub record IsPartAt (s : Parts) (p : Part) (t : Parts) : Type 0 where
  pub within : s.at < length s.input.now
  pub start : p.start ≡ s.at
  pub end : p.end ≡ s.at + part_length_at s.notation s.input.now s.at
  pub bytes : p.bytes.now ≡ take (part_length_at s.notation s.input.now s.at) (drop s.at s.input.now)
  pub next : t.at ≡ p.end

-- the part at the place; at the end there is none, and the walk stays
abbrev pub GivesPart : Parts → Option Part → Parts → Type 0
GivesPart s r t = (t.notation ≡ s.notation) × (t.input.now ≡ s.input.now) × MatchOption r ((length s.input.now ≤ s.at) × (t.at ≡ s.at)) (λ p. IsPartAt s p t)

-- the event l begins at the place, which is told with it, and the walk goes to where it ends
pub record IsEventAt (s : Events) (at : ℕ) (l : Listed) (t : Events) : Type 0 where
  pub within : s.at < length s.script.now
  pub start : at ≡ s.at
  pub event : l ≡ listed_at s.script.now s.at
  pub next : t.at ≡ l.end

-- the event at the place; at the end there is none, and the walk stays
abbrev pub GivesEvent : Events → Option (ℕ × Listed) → Events → Type 0
GivesEvent s r t = (t.script.now ≡ s.script.now) × MatchOption r ((length s.script.now ≤ s.at) × (t.at ≡ s.at)) (λ p. IsEventAt s p.0 p.1 t)
