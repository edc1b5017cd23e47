-- "An event is enabled when": the test of each event, for a thread t or a mode transition q that is there.
use Rattle.std.specs.Prelude.{Bool, cond, ◌&&◌, ◌||◌, not, ℕ, ◌+◌, eqb, ltb, leb}
use Rattle.numbers.specs.Lists.{any_below}
use Rattle.numbers.specs.Multiples.{is_multiple}
use Rattle.model_format.specs.declared.Thread.{Thread}
use Rattle.model_format.specs.declared.Timing.{Timing}
use Rattle.model_format.specs.Model.{thread_at, switch_at, is_critical, immediate, delayed, is_kind, source_thread, target_thread}
use Rattle.model_semantics.specs.declared.State.{State}
use Rattle.model_semantics.specs.State.{none, is_active, code_of, dispatch_time, length_of, spent_of, is_live, now_of, cpu_for}

-- "State codes: 0 waiting_mode, 1 waiting_dispatch, 2 waiting_execution, 3 execution, 4 completed."
abbrev pub waiting_mode : ℕ
waiting_mode = 0

abbrev pub waiting_dispatch : ℕ
waiting_dispatch = 1

abbrev pub waiting_execution : ℕ
waiting_execution = 2

abbrev pub execution : ℕ
execution = 3

abbrev pub completed : ℕ
completed = 4

abbrev pub last_code : ℕ
last_code = completed

-- the phases: no mode transition, one requested, one under way
abbrev pub steady : ℕ
steady = 0

abbrev pub requested : ℕ
requested = 1

abbrev pub changing : ℕ
changing = 2

-- a job on its processor; no job yet; a job that is not finished; a job in hand
abbrev pub runs : ℕ → Bool
runs code = eqb code execution

unfoldable pub is_waiting : ℕ → Bool
is_waiting code = eqb code waiting_mode || eqb code waiting_dispatch

unfoldable pub is_unfinished : ℕ → Bool
is_unfinished code = eqb code waiting_execution || runs code

unfoldable pub has_job : ℕ → Bool
has_job code = is_unfinished code || eqb code completed

-- "Due is DispatchTime + Deadline."
unfoldable pub due_of : Timing → State → ℕ → ℕ
due_of m s t = dispatch_time s t + (thread_at m t).deadline.0

abbrev pub is_due : Timing → State → ℕ → Bool
is_due m s t = eqb (due_of m s t) (now_of s)

-- "Now a multiple of Period"
abbrev pub is_periodic : Timing → State → ℕ → Bool
is_periodic m s t = is_multiple (now_of s) (thread_at m t).period.0

-- a live connection of a kind into thread t
unfoldable pub feeds : Timing → State → ℕ → ℕ → ℕ → Bool
feeds m s kind t c = is_kind m kind c && (eqb (target_thread m c) t && is_live s c)

-- "ACTIVATE: Active, code 0"
unfoldable pub can_activate : State → ℕ → Bool
can_activate s t = is_active s t && eqb (code_of s t) waiting_mode

-- "a thread that is not critical .. and has code 2, 3 or 4": one that leaves is stopped
abbrev pub is_stoppable : Thread → ℕ → Bool
is_stoppable x code = not (is_critical x) && has_job code

-- "DEACTIVATE: not Active, code 1"; "also enabled for" one that is stopped
unfoldable pub can_deactivate : Timing → State → ℕ → Bool
can_deactivate m s t = not (is_active s t) && (eqb (code_of s t) waiting_dispatch || is_stoppable (thread_at m t) (code_of s t))

-- "source of a live delayed connection into it has code 2, 3 or 4 with Due = Now"
unfoldable pub awaits_delayed : Timing → State → ℕ → Bool
awaits_delayed m s t =
    any_below m.connections (λ c. feeds m s delayed t c && (has_job (code_of s (source_thread m c)) && is_due m s (source_thread m c)))

-- "DISPATCH: code 1, Active, Now a multiple of Period, and no source .."
unfoldable pub can_dispatch : Timing → State → ℕ → Bool
can_dispatch m s t =
    eqb (code_of s t) waiting_dispatch && (is_active s t && (is_periodic m s t && not (awaits_delayed m s t)))

-- "has code 2 or 3 and an equal DispatchTime"
unfoldable pub runs_beside : State → ℕ → ℕ → Bool
runs_beside s u t = is_unfinished (code_of s u) && eqb (dispatch_time s u) (dispatch_time s t)

-- "where its own DispatchTime is Now, is Active with code 0 or 1 and a Period that divides Now"
unfoldable pub comes_beside : Timing → State → ℕ → ℕ → Bool
comes_beside m s u t =
    eqb (dispatch_time s t) (now_of s) && (is_active s u && (is_waiting (code_of s u) && is_periodic m s u))

-- "source of a live immediate connection into it" that START waits for
unfoldable pub awaits_immediate : Timing → State → ℕ → Bool
awaits_immediate m s t =
    any_below m.connections (λ c. feeds m s immediate t c && (runs_beside s (source_thread m c) t || comes_beside m s (source_thread m c) t))

-- ---- START, step by step
-- its state: a thread that is there, "code 2, .. Due ≠ Now"
abbrev pub is_ready : Timing → State → ℕ → Bool
is_ready m s t = ltb t m.threads && (eqb (code_of s t) waiting_execution && not (is_due m s t))

-- its processor: "Cpu none"
abbrev pub is_free : Timing → State → ℕ → Bool
is_free m s t = eqb (cpu_for m s t) none

-- its length: "in Min..Max"
abbrev pub is_allowed : Timing → ℕ → ℕ → Bool
is_allowed m t n = leb (thread_at m t).bcet.0 n && leb n (thread_at m t).wcet.0

-- "take those steps in that order and tell the first that fails: 1 state .., 2 processor, 3 connections, 4 length, 0 none"
unfoldable pub start_fault : Timing → State → ℕ → ℕ → ℕ
start_fault m s t n =
    cond (not (is_ready m s t)) 1
    (cond (not (is_free m s t)) 2
    (cond (awaits_immediate m s t) 3
    (cond (not (is_allowed m t n)) 4 0)))

-- "START is taken exactly at 0"
abbrev pub can_start : Timing → State → ℕ → ℕ → Bool
can_start m s t n = eqb (start_fault m s t n) 0

-- the same in the words of document 01, which have no order: "START: code 2, Cpu none, Due ≠ Now, length in Min..Max. No source of a live
-- immediate connection .."
unfoldable pub start_enabled : Timing → State → ℕ → ℕ → Bool
start_enabled m s t n =
    ltb t m.threads && (eqb (code_of s t) waiting_execution && (is_free m s t && (not (is_due m s t) && (is_allowed m t n && not (awaits_immediate m s t)))))

-- "COMPLETE: code 3, Spent = Length"
unfoldable pub can_complete : State → ℕ → Bool
can_complete s t = eqb (code_of s t) execution && eqb (spent_of s t) (length_of s t)

-- "DEADLINE: code 4, Due = Now"
unfoldable pub can_meet_deadline : Timing → State → ℕ → Bool
can_meet_deadline m s t = eqb (code_of s t) completed && is_due m s t

-- "MISS: Due = Now, and either code 2, or code 3 with Spent ≠ Length"
unfoldable pub can_miss : Timing → State → ℕ → Bool
can_miss m s t =
    is_due m s t && (eqb (code_of s t) waiting_execution || (eqb (code_of s t) execution && not (eqb (spent_of s t) (length_of s t))))

-- "ENTER: Phase 1, Pending this, Now a multiple of H1"
unfoldable pub can_enter : Timing → State → ℕ → Bool
can_enter m s q = eqb s.clock.phase requested && (eqb s.clock.pending q && is_multiple (now_of s) (switch_at m q).h1.0)

-- "LEAVE: Phase 2, Pending this, Now ≠ EnteredAt, Now a multiple of H2"
unfoldable pub can_leave : Timing → State → ℕ → Bool
can_leave m s q =
    eqb s.clock.phase changing && (eqb s.clock.pending q && (not (eqb (now_of s) s.clock.entered.0) && is_multiple (now_of s) (switch_at m q).h2.0))

-- some event of thread t, some event of mode transition q but REQUEST; "START counts with any allowed length", so with the shortest
unfoldable pub thread_busy : Timing → State → ℕ → Bool
thread_busy m s t =
    can_activate s t || (can_deactivate m s t || (can_dispatch m s t || (can_start m s t (thread_at m t).bcet.0 ||
    (can_complete s t || (can_meet_deadline m s t || can_miss m s t)))))

unfoldable pub switch_busy : Timing → State → ℕ → Bool
switch_busy m s q = can_enter m s q || can_leave m s q

-- "TICK n: .. no event but REQUEST is enabled"
unfoldable pub is_busy : Timing → State → Bool
is_busy m s = any_below m.threads (thread_busy m s) || any_below m.switches (switch_busy m s)
