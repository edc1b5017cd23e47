-- What is enabled: every event that may come next, in the order kind, id, and whether a tick may pass; of a model, and of any rules.
use Rattle.std.specs.Prelude.{Bool, cond, ◌&&◌, not, List, [], ◌∷◌, ℕ, ◌+◌, eqb, ltb}
use Rattle.numbers.specs.declared.Value.{Value}
use Rattle.numbers.specs.Lists.{join_below, only}
use Rattle.numbers.specs.Values.{natural, less_value}
use Rattle.records.specs.Events.{activate_kind, deactivate_kind, dispatch_kind, start_kind, complete_kind, deadline_kind, miss_kind, request_kind, enter_kind, leave_kind, last_clock}
use Rattle.model_format.specs.declared.Timing.{Timing}
use Rattle.model_format.specs.Model.{thread_at}
use Rattle.model_semantics.specs.declared.State.{State}
use Rattle.model_semantics.specs.State.{now_of}
use Rattle.model_semantics.specs.Tests as tests
use Rattle.table_format.specs.declared.RuleHead.{RuleHead}
use Rattle.table_format.specs.Table.{Rule}
use Rattle.table_semantics.specs.Rules.{enabled_rules}
use Rattle.table_semantics.specs.Machine as table-machine

-- an event by its kind and id; of START the shortest and the longest length, of the others 0
pub record Offer : Type 0 where
  pub kind : ℕ
  pub id : ℕ
  pub low : ℕ
  pub high : ℕ

abbrev pub length_in : ℕ → ℕ → ℕ
length_in kind n = cond (eqb kind start_kind) n 0

-- how many numbers an id's byte has
abbrev pub ids : ℕ
ids = 256

-- the kinds are those from 1 to the one before TICK
abbrev pub last_offered : ℕ
last_offered = leave_kind

-- "in the order kind, id"
unfoldable pub in_order : (ℕ → ℕ → List Offer) → List Offer
in_order f = join_below last_offered (λ k. join_below ids (λ i. f (k + 1) i))

-- four numbers an event
unfoldable pub numbers_of : List Offer → List ℕ
numbers_of [] = []
numbers_of (o ∷ l) = o.kind ∷ o.id ∷ o.low ∷ o.high ∷ numbers_of l

-- ---- of a model
-- the test of an event on a thread or a mode transition that is there; "START counts with any allowed length", so with the shortest
unfoldable pub may_take : Timing → State → ℕ → ℕ → Bool
may_take m s kind i =
    let here = ltb i m.threads in
    let there = ltb i m.switches in
    cond (eqb kind activate_kind) (here && tests.can_activate s i)
    (cond (eqb kind deactivate_kind) (here && tests.can_deactivate m s i)
    (cond (eqb kind dispatch_kind) (here && tests.can_dispatch m s i)
    (cond (eqb kind start_kind) (tests.can_start m s i (thread_at m i).bcet.0)
    (cond (eqb kind complete_kind) (here && tests.can_complete s i)
    (cond (eqb kind deadline_kind) (here && tests.can_meet_deadline m s i)
    (cond (eqb kind miss_kind) (here && tests.can_miss m s i)
    (cond (eqb kind request_kind) there
    (cond (eqb kind enter_kind) (there && tests.can_enter m s i)
    (there && tests.can_leave m s i)))))))))

abbrev pub offer_of : Timing → ℕ → ℕ → Offer
offer_of m kind i = record { kind = kind; id = i; low = length_in kind (thread_at m i).bcet.0; high = length_in kind (thread_at m i).wcet.0 }

unfoldable pub model_offers : Timing → State → List Offer
model_offers m s = in_order (λ kind i. only (may_take m s kind i) (offer_of m kind i))

-- "no event but REQUEST is enabled .. then Now below 1,000,000,000"
unfoldable pub model_may_tick : Timing → State → Bool
model_may_tick m s = not (tests.is_busy m s) && ltb (now_of s) last_clock

-- ---- of a table's rules
abbrev pub offer_by : RuleHead → Offer
offer_by h = record { kind = h.kind; id = h.id; low = length_in h.kind h.low; high = length_in h.kind h.high }

unfoldable pub offers_by : List Rule → List Offer
offers_by [] = []
offers_by (r ∷ l) = offer_by r.head ∷ offers_by l

-- the enabled rules of each kind and id: one where the event finds its rule, more where it is refused with 12
unfoldable pub table_offers : List Rule → List Value → List Offer
table_offers rules v = in_order (λ kind i. offers_by (enabled_rules v kind i rules))

unfoldable pub table_may_tick : List Rule → List Value → Bool
table_may_tick rules v = not (table-machine.is_busy v rules) && less_value (table-machine.now_in v) (natural last_clock)
