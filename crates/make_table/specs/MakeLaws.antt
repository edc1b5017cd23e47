-- Laws of what `make_table` makes and prints.
use Rattle.std.specs.Prelude.{◌≡◌, refl, Bool, true, false, List, ℕ, take}
use Rattle.std.proofs.Common.{sym, ap, true≢false, arith}
use Rattle.command.specs.Counts.{IsPrefixLen}
use Rattle.records.specs.Refusals.{is_none}
use Rattle.translation.specs.declared.Translation.{Translation}
use Rattle.translator.specs.Translates.{Translates}
use Rattle.listing.specs.Listing.{refused_listing}
use Rattle.table_writer.specs.Written.{wrote_nothing}
use Rattle.table_writer.specs.Wrote.{Wrote}
use Rattle.make_table.specs.declared.Made.{Made}
use Rattle.make_table.specs.Makes.{Makes}

module _ {model table out : List ℕ} (r : Made) (m : ℕ) (a : IsPrefixLen m model) where
  pub makes_nothing : r ≡ record { model = m; good = false; bytes = 0; printed = 0 } → Makes model table out r table out
  makes_nothing e = rw e (record { models = a; translates = λ p. absurd (true≢false (sym p)); prints = λ p. absurd (true≢false (sym p)); unread = λ p. (refl, refl, refl, refl) })

  -- t is what translating told, b whether the table was made
  module _ {after : List ℕ} (t : Translation) (w : Translates (take m model) table t after) {b : Bool} (g : b ≡ is_none t.refusal.cause) where
    pub makes_table : b ≡ true → r ≡ record { model = m; good = true; bytes = t.bytes; printed = 0 } → Makes model table out r after out
    makes_table f e = rw e (record {
      models = a;
      translates = λ p. (w.output, ap (λ (x : Translation). x.bytes) w.told);
      prints = λ p. rw (← w.told, ← g, f) (wrote_nothing out 0 (omega arith));
      unread = λ p. absurd (true≢false p);
    })

    pub makes_refusal : b ≡ false → {out_after : List ℕ} (p : ℕ) → Wrote out 0 (refused_listing t.refusal.cause) out_after p →
        r ≡ record { model = m; good = true; bytes = t.bytes; printed = p } → Makes model table out r after out_after
    makes_refusal f p v e = rw e (record {
      models = a;
      translates = λ q. (w.output, ap (λ (x : Translation). x.bytes) w.told);
      prints = λ q. rw (← w.told, ← g, f) v;
      unread = λ q. absurd (true≢false q);
    })
