-- Laws of writing the listing of a run, for any machine.
use Rattle.std.specs.Prelude.{◌≡◌, refl, Bool, true, false, List, ℕ, ◌+◌, ◌<◌, ◌≤◌, length, drop}
use Rattle.std.proofs.Common.{sym, ◌∙◌, ap, arith}
use Rattle.records.specs.declared.Listed.{Listed}
use Rattle.records.specs.declared.Cause.{Cause}
use Rattle.records.specs.declared.Refusal.{Refusal}
use Rattle.records.specs.declared.Notation.TheVariants.{Script}
use Rattle.records.specs.Format.{parts}
use Rattle.records.specs.Refusals.{is_none, in_script, no_refusal}
use Rattle.records.specs.Events.{listed_at}
use Rattle.records.specs.Run.{Machine, Ended, run_from, run}
use Rattle.records.specs.Walk as walk
use Rattle.listing.specs.Listing.{line, last_line, listing_from, listing}
use Rattle.listing.specs.RunLaws.{listing_on, listing_end, listing_refused}
use Rattle.table_writer.specs.Wrote.{Wrote, farthest}
use Rattle.listing_writer.specs.declared.Printed.{Printed}
use Rattle.listing_writer.specs.Prints.{Prints}
use Rattle.listing_writer.specs.Places.{Left, left_begin, left_on}

-- In state a, with k events taken and the next part at p: what is left to write is the listing from here on, and the run from here on
-- is refused as the whole one is.
pub record Running {S : Type 0} (mac : Machine S) (clock : S → ℕ) (s start whole : List ℕ) (refused : Refusal) (d : List ℕ) (at p : ℕ) (a : S) (k : ℕ) : Type 0 where
  pub left : Left start 0 whole d at (listing_from mac clock a k (parts Script (drop p s)))
  pub ran : (run_from mac a k p (parts Script (drop p s))).refusal ≡ refused
  pub count : k ≤ p
  pub size : length s ≤ farthest

module _ {S : Type 0} (mac : Machine S) (clock : S → ℕ) (s : List ℕ) where
  pub run_begin : (d : List ℕ) (a : S) → length d ≤ farthest → length s ≤ farthest → Running mac clock s d (listing mac clock a s) (run mac a s).refusal d 0 0 a 0
  run_begin d a h i = record { left = left_begin d 0 _ h (omega arith); ran = refl; count = omega arith; size = i }

  module _ {start whole d e : List ℕ} {refused : Refusal} {at p k : ℕ} {a : S} (r : Running mac clock s start whole refused d at p a k) where
    -- the last line is written, with the refusal o; n is the clock that it shows
    pub run_end : {x : Printed} (n : ℕ) (o : Refusal) → length s ≤ p → n ≡ clock a → o ≡ no_refusal →
        (Wrote d at (last_line k o.cause n) e x.length × (x.refusal ≡ o)) → Prints whole refused start x e
    run_end {x} n o h z y w = record {
      wrote = r.left.then e x.length (rw (listing_end mac clock s p a k h, ← z) (rw y at w.0));
      told = w.1 ∙ y ∙ ap (λ (t : Ended S). t.refusal) (walk.run_end mac s p a k h) ∙ r.ran;
    }

    -- the event at p is taken or refused, as x says; n is the clock that the line shows
    module _ (l : Listed) (c : Cause) (x : Bool) (n : ℕ) (h : p < length s) (i : l ≡ listed_at s p) (g : c ≡ mac.answer a l.event) (u : x ≡ is_none c) where
      pub run_refused : {y : Printed} (o : Refusal) → x ≡ false → n ≡ clock a → o ≡ in_script c p l.end →
          (Wrote d at (last_line k o.cause n) e y.length × (y.refusal ≡ o)) → Prints whole refused start y e
      run_refused {y} o z t j w = record {
        wrote = r.left.then e y.length (rw (listing_refused mac clock s p a k l c h i g (sym u ∙ z), ← t) (rw j at w.0));
        told = w.1 ∙ j ∙ ap (λ (b : Ended S). b.refusal) (walk.listed_refused s p i mac a h k c g (sym u ∙ z)) ∙ r.ran;
      }

      pub run_on : {q : ℕ} (b : S) → b ≡ mac.after a l.event → x ≡ true → n ≡ clock b → Wrote d at (line (k + 1) n l.event) e q →
          Running mac clock s start whole refused e q l.end b (k + 1)
      run_on b j z o w = record {
        left = left_on _ _ (rw (listing_on mac clock s p a k l c h i g b j (sym u ∙ z)) at r.left) (rw o at w);
        ran = ap (λ (t : Ended S). t.refusal) (walk.listed_on s p i mac a h k c b g j (sym u ∙ z)) ∙ r.ran;
        count = let y = walk.next_listed s p i h in let z = r.count in omega arith;
        size = r.size;
      }
