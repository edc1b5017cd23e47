-- Rules that stop a tick.
use Rattle.std.specs.Prelude.{◌≡◌, refl, Bool, false, ◌&&◌, ◌||◌, not, List, ◌∷◌, ℕ, drop, eqb}
use Rattle.numbers.specs.declared.Value.{Value}
use Rattle.records.specs.Events.{request_kind}
use Rattle.table_format.specs.declared.Record.{Record}
use Rattle.table_format.specs.declared.Record.TheVariants.{Initial, Head, Clause, Atomic, Change, Cut, Unknown}
use Rattle.table_format.specs.Format.{records, kind_of}
use Rattle.table_format.specs.Table.{gather}
use Rattle.table_semantics.specs.Rules.{all_hold}
use Rattle.table_semantics.specs.Machine.{is_busy}
use Rattle.table_rules.specs.At.{clauses_at}

unfoldable pub rule_stops : List ℕ → List Value → ℕ → ℕ → Bool
rule_stops s v q k = not (eqb k request_kind) && all_hold v (clauses_at s q)

unfoldable pub stops_tick : List ℕ → List Value → ℕ → Record → Bool
stops_tick s v q (Initial x) = false
stops_tick s v q (Head h) = rule_stops s v q h.kind
stops_tick s v q Clause = false
stops_tick s v q (Atomic a) = false
stops_tick s v q (Change u) = false
stops_tick s v q Cut = false
stops_tick s v q Unknown = false

pub stops_never : (s : List ℕ) (v : List Value) (q : ℕ) (x : Record) → (kind_of x ≡ 33 → ⊥) → stops_tick s v q x ≡ false
unfolding kind_of stops_tick
stops_never s v q (Initial x) k = refl
stops_never s v q (Head h) k = absurd (k refl)
stops_never s v q Clause k = refl
stops_never s v q (Atomic a) k = refl
stops_never s v q (Change u) k = refl
stops_never s v q Cut k = refl
stops_never s v q Unknown k = refl

pub busy_step : (s : List ℕ) (v : List Value) (q : ℕ) (x : Record) →
    is_busy v (gather (x ∷ records (drop q s))).rules ≡ (stops_tick s v q x || is_busy v (gather (records (drop q s))).rules)
unfolding stops_tick rule_stops gather is_busy
busy_step s v q (Initial x) = refl
busy_step s v q (Head h) = refl
busy_step s v q Clause = refl
busy_step s v q (Atomic a) = refl
busy_step s v q (Change u) = refl
busy_step s v q Cut = refl
busy_step s v q Unknown = refl
