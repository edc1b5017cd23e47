-- The table's machine: its start, one event, a run; for every table, ours or not.
use Rattle.std.specs.Prelude.{Bool, true, false, cond, ◌&&◌, ◌||◌, not, List, [], ◌∷◌, ℕ, zero, suc, replicate, eqb, leb}
use Rattle.numbers.specs.declared.Value.{Value}
use Rattle.numbers.specs.Lists.{store}
use Rattle.numbers.specs.Values.{natural, plus, less_value, bits_of}
use Rattle.records.specs.declared.Cause.{Cause}
use Rattle.records.specs.declared.Cause.TheVariants.{None, BrokenEvent, NotEnabled, LastClock, ConflictingRules, InconsistentUpdates}
use Rattle.records.specs.declared.Event.{Event}
use Rattle.records.specs.Events.{start_kind, request_kind, tick_kind, is_broken, last_clock}
use Rattle.records.specs.Run.{Machine, Ended, Stage, Tally, run, stages, tally}
use Rattle.table_format.specs.declared.InitialValue.{InitialValue}
use Rattle.table_format.specs.Variables.{variables, now_var}
use Rattle.table_format.specs.Table.{Rule, Table, table_of}
use Rattle.table_semantics.specs.declared.Variables.{Variables}
use Rattle.table_semantics.specs.declared.Stepped.{Stepped}
use Rattle.table_semantics.specs.Rules.{value_of, is_enabled, enabled_rules, writes, inconsistent, written}

-- "Variables are i32 and begin at 0 unless a start record says otherwise"
unfoldable pub begun : List InitialValue → List Value → List Value
begun [] v = v
begun (x ∷ l) v = begun l (store variables v x.variable x.value)

unfoldable pub start_variables : Table → Variables
start_variables t = record { value = begun t.initial (replicate variables (natural 0)) }

abbrev pub refuse : Cause → Variables → Stepped
refuse c s = record { answer = c; state = s }

abbrev pub accept : List Value → Stepped
accept v = record { answer = None; state = record { value = v } }

-- "length outside": for START alone
unfoldable pub allows_length : Event → Rule → Bool
allows_length e r = cond (eqb e.kind start_kind) (leb r.head.low e.amount && leb e.amount r.head.high) true

-- "An event runs the enabled rule of its kind and id": "12 comes before the length, 13 last"
unfoldable pub fire : Variables → Event → List Rule → Stepped
fire s e [] = refuse NotEnabled s
fire s e (r ∷ []) =
    let w = writes e.amount s.value r.updates in
    cond (allows_length e r) (cond (inconsistent w) (refuse InconsistentUpdates s) (accept (written w s.value))) (refuse NotEnabled s)
fire s e (r ∷ q ∷ l) = refuse ConflictingRules s

-- "any enabled rule not of kind 08 stops it"
unfoldable pub is_busy : List Value → List Rule → Bool
is_busy v [] = false
is_busy v (r ∷ l) = (not (eqb r.head.kind request_kind) && is_enabled v r) || is_busy v l

abbrev pub now_in : List Value → Value
now_in v = value_of v now_var

-- "TICK is as above": n ticks more, where s is the state before all of them; "10 stands before 11 at each tick"
unfoldable pub ticks : List Rule → Variables → ℕ → List Value → Stepped
ticks rules s zero v = accept v
ticks rules s (suc n) v =
    let r = ticks rules s n (store variables v now_var (plus (now_in v) (natural 1))) in
    cond (is_busy v rules) (refuse NotEnabled s) (cond (less_value (now_in v) (natural last_clock)) r (refuse LastClock s))

-- one event on the rules
unfoldable pub step : List Rule → Variables → Event → Stepped
step rules s e =
    let t = ticks rules s e.amount s.value in
    let f = fire s e (enabled_rules s.value e.kind e.id rules) in
    cond (is_broken e) (refuse BrokenEvent s) (cond (eqb e.kind tick_kind) t f)

abbrev pub machine_of : List Rule → Machine Variables
machine_of rules = record { answer = λ s e. (step rules s e).answer; after = λ s e. (step rules s e).state }

-- the clock that a listing shows
abbrev pub clock_of : Variables → ℕ
clock_of s = bits_of (now_in s.value).0

-- the run of the table that bytes hold, from its start
unfoldable pub run_table : List ℕ → List ℕ → Ended Variables
run_table table script = run (machine_of (table_of table).rules) (start_variables (table_of table)) script

-- and the loop that goes on after refusals
unfoldable pub table_stages : List ℕ → List ℕ → List (Stage Variables)
table_stages table script = stages (machine_of (table_of table).rules) (start_variables (table_of table)) script

unfoldable pub tally_table : List ℕ → List ℕ → Tally Variables
tally_table table script = tally (machine_of (table_of table).rules) (start_variables (table_of table)) script
