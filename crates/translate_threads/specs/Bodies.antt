-- Laws of the rules of one kind and id, as they are written.
use Rattle.std.specs.Prelude.{List, [], ◌∷◌, ℕ}
use Rattle.table_format.specs.declared.Record.TheVariants.{Head}
use Rattle.table_format.specs.Format.{record_to}
use Rattle.table_writer.specs.Lists.{joins_rules}
use Rattle.table_writer.specs.Writes.{Writes, WritesClauses, WritesUpdates, WritesRules}
use Rattle.table_writer.specs.WritesLaws.{writes_rule}
use Rattle.table_writer.specs.declared.encoding.Writer.{Writer}
use Rattle.translation.specs.Parts.{Body, stamped}
use Rattle.translate_waits.specs.Named.{wrote_more}

pub wrote_body : {u v w z : Writer} (kind id : ℕ) (b : Body) →
    Writes u (record_to (Head (record { kind = kind; id = id; low = b.low; high = b.high })) []) v →
    WritesClauses v b.clauses w → WritesUpdates w b.updates z → WritesRules u (stamped kind id (b ∷ [])) z
unfolding stamped
wrote_body kind id b h c a = writes_rule _ _ _ h c a

pub wrote_bodies : {u v w : Writer} (kind id : ℕ) (b : Body) (l : List Body) →
    WritesRules u (stamped kind id (b ∷ [])) v → WritesRules v (stamped kind id l) w → WritesRules u (stamped kind id (b ∷ l)) w
unfolding stamped
wrote_bodies kind id b l x y = wrote_more joins_rules _ _ x y
