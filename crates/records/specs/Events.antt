-- Events: "numbered across model and table alike".
use Rattle.std.specs.Prelude.{Bool, cond, ◌&&◌, ◌||◌, List, ℕ, ◌+◌, get_or, take, drop, eqb}
use Rattle.numbers.specs.Values.{u16_at, u32_at}
use Rattle.records.specs.declared.Notation.TheVariants.{Script}
use Rattle.records.specs.declared.Event.{Event}
use Rattle.records.specs.declared.Listed.{Listed}
use Rattle.records.specs.Format.{record_size, part_length_at, is_whole}
pub use Rattle.records.specs.Kinds.{activate_kind, deactivate_kind, dispatch_kind, start_kind, complete_kind, deadline_kind, miss_kind, request_kind, enter_kind, leave_kind, tick_kind}

-- No event has kind 0: what stands for a cut or unknown record.
abbrev pub no_event : Event
no_event = record { kind = 0; id = 0; amount = 0 }

-- "04 START: thread u8, length u32", "0B TICK: n u16", else "thread u8" or "mode transition u8"
abbrev pub event_of_whole : ℕ → List ℕ → Event
event_of_whole k x =
    cond (eqb k tick_kind) (record { kind = k; id = 0; amount = u16_at x 1 })
    (record { kind = k; id = get_or x 1 0; amount = cond (eqb k start_kind) (u32_at x 2) 0 })

-- the event that a part of the list holds
unfoldable pub event_of : List ℕ → Event
event_of x = cond (is_whole Script x) (event_of_whole (get_or x 0 0) x) no_event

-- the event that begins at a place of the list, and the place after it
unfoldable pub listed_at : List ℕ → ℕ → Listed
listed_at s p = let n = part_length_at Script s p in record { event = event_of (take n (drop p s)); end = p + n }

-- "id or n": the last figure of an event's line
unfoldable pub figure_of : Event → ℕ
figure_of e = cond (eqb e.kind tick_kind) e.amount e.id

-- "event cut, kind unknown, n 0"
unfoldable pub is_broken : Event → Bool
is_broken e = eqb (record_size Script e.kind) 0 || (eqb e.kind tick_kind && eqb e.amount 0)

-- "Now below 1,000,000,000"
abbrev pub last_clock : ℕ
last_clock = 1000000000
