-- Laws of a listing for the loop that walks a script: state a before the event at p, answer c, state b after it.
use Rattle.std.specs.Prelude.{◌≡◌, true, false, List, ◌++◌, ℕ, ◌+◌, ◌<◌, ◌≤◌, length, take, drop}
use Rattle.std.proofs.Math.Path.{refl, ap}
use Rattle.records.specs.declared.Listed.{Listed}
use Rattle.records.specs.declared.Cause.{Cause}
use Rattle.records.specs.declared.Notation.TheVariants.{Script}
use Rattle.records.specs.Format.{parts, part_length_at}
use Rattle.records.specs.Refusals.{is_none}
use Rattle.records.specs.Events.{event_of, listed_at}
use Rattle.records.specs.Run.{Machine}
use Rattle.records.specs.Walk.{parts_end, parts_at}
use Rattle.listing.specs.Listing.{line, last_line, listing_from}

module _ {S : Type 0} (mac : Machine S) (clock : S → ℕ) (s : List ℕ) (p : ℕ) (a : S) (k : ℕ) where
  pub listing_end : length s ≤ p → listing_from mac clock a k (parts Script (drop p s)) ≡ last_line k Cause.None (clock a)
  unfolding listing_from
  listing_end h = rw (parts_end Script s p h)

  -- the event at p, and the place after it
  module _ (l : Listed) (c : Cause) (h : p < length s) (e : l ≡ listed_at s p) (g : c ≡ mac.answer a l.event) where
    pub listing_on : (b : S) → b ≡ mac.after a l.event → is_none c ≡ true →
        listing_from mac clock a k (parts Script (drop p s)) ≡ line (k + 1) (clock b) l.event ++ listing_from mac clock b (k + 1) (parts Script (drop l.end s))
    unfolding listing_from listed_at
    listing_on b i n =
        let f : l.event ≡ event_of (take (part_length_at Script s p) (drop p s)) = ap (λ (x : Listed). x.event) e in
        let q : l.end ≡ p + part_length_at Script s p = ap (λ (x : Listed). x.end) e in
        rw (parts_at Script s p (part_length_at Script s p) h refl, ← f, ← g, n, i, q)

    pub listing_refused : is_none c ≡ false → listing_from mac clock a k (parts Script (drop p s)) ≡ last_line k c (clock a)
    unfolding listing_from listed_at
    listing_refused n =
        let f : l.event ≡ event_of (take (part_length_at Script s p) (drop p s)) = ap (λ (x : Listed). x.event) e in
        rw (parts_at Script s p (part_length_at Script s p) h refl, ← f, ← g, n)
