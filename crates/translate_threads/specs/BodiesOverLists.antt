-- The same laws of what is written into a lent slice from a place on, for callers who prove over these and hold no writer.
use Rattle.std.specs.Prelude.{List, [], ◌∷◌, ℕ, length}
use Rattle.table_format.specs.declared.Record.TheVariants.{Head}
use Rattle.table_format.specs.Format.{record_to}
use Rattle.table_writer.specs.Wrote.{Wrote}
use Rattle.table_writer.specs.Lists.{joins_rules, Counted, wrote_rule}
use Rattle.table_writer.specs.WroteRules.{WroteClauses, WroteUpdates, WroteRules}
use Rattle.translation.specs.Parts.{Body, stamped}
use Rattle.translate_waits.specs.NamedOverLists.{wrote_more}

pub wrote_body : {d e g k : List ℕ} {at p q r : ℕ} (kind id : ℕ) (b : Body) → Counted (length d) →
    Wrote d at (record_to (Head (record { kind = kind; id = id; low = b.low; high = b.high })) []) e p →
    (Counted (length e) → WroteClauses e p b.clauses g q) → (Counted (length g) → WroteUpdates g q b.updates k r) → WroteRules d at (stamped kind id (b ∷ [])) k r
unfolding stamped
wrote_body kind id b h w c u = wrote_rule _ _ _ h w c u

pub wrote_bodies : {d e g : List ℕ} {at p q : ℕ} (kind id : ℕ) (b : Body) (l : List Body) → Counted (length d) →
    WroteRules d at (stamped kind id (b ∷ [])) e p → (Counted (length e) → WroteRules e p (stamped kind id l) g q) → WroteRules d at (stamped kind id (b ∷ l)) g q
unfolding stamped
wrote_bodies kind id b l h w x = wrote_more joins_rules _ _ h w x
