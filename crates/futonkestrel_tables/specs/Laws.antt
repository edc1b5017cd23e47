-- From what reading, stepping and running a table give to what a caller has.
use Rattle.std.specs.Prelude.{◌≡◌, refl, Bool, List, ◌++◌, ℕ, ◌≤◌, ◌<◌, get_or, length, take}
use Rattle.std.proofs.Math.Path.{sym, ap}
use Rattle.std.proofs.Common.{◌∙◌, arith, length-take-le, get_or-take, Fits}
use Rattle.std.proofs.Math.Bool.{true, false, cond}
use Rattle.std.proofs.Math.ListN.{drop, get_or-append, take-append-drop}
use Rattle.std.specs.Int.{w32}
use borrow.Author.Tests.{lt-ltb, le-ltb}
use Rattle.records.specs.declared.Cause.{Cause}
use Rattle.records.specs.declared.Cause.TheVariants.{ShortOutput}
use Rattle.records.specs.declared.Event.{Event}
use Rattle.records.specs.declared.Refusal.{Refusal}
use Rattle.records.specs.Refusals.{is_none, number_of}
use Rattle.records.specs.Events.{event_of}
use Rattle.records.specs.Run.{Ended}
use Rattle.table_format.specs.Reading.{read_table}
use Rattle.table_format.specs.Table.{table_of}
use Rattle.table_format.specs.Variables.{variables}
use Rattle.table_semantics.specs.declared.Variables.{Variables}
use Rattle.table_semantics.specs.Machine.{start_variables, clock_of, run_table}
use Rattle.table_semantics.specs.Runs.{variables_of, stepped_to}
use Rattle.table_semantics.proofs.MachineLaws.{refused_same}
use Rattle.table_index.specs.Index.{rules_by, step_by}
use Rattle.table_machine.specs.Running.{step_size}
use Rattle.listing.specs.Outcomes.{refused_outcome, table_outcome}
use Rattle.futonkestrel_lending.specs.Laws.{lent_in_place}
use Rattle.futonkestrel_lending.specs.Lending.{variables_in, lent_as, numbers_of, start_answer, start_lent, step_on, step_answer, step_lent, TellsOutcome}

-- ---- a table's start
module _ (table d : List ℕ) {f : Refusal} (h : f ≡ read_table table) {b : Bool} (e : b ≡ is_none f.cause) where
  pub start_refused : b ≡ false → (f.cause ≡ start_answer table d) × (d ≡ start_lent table d)
  unfolding start_answer start_lent
  start_refused g = rw (← h, ← e, g) (refl, rw (← e, g))

  pub start_short : b ≡ true → length d < variables → (ShortOutput ≡ start_answer table d) × (d ≡ start_lent table d)
  unfolding start_answer start_lent number_of
  start_short g l = rw (← h, ← e, g, lt-ltb (length d) variables l) (refl, refl)

  pub start_lent_lem : b ≡ true → variables ≤ length d → {s : Variables} → s ≡ start_variables (table_of table) → {after : List ℕ} → after ≡ lent_as d (numbers_of s) →
      (f.cause ≡ start_answer table d) × (after ≡ start_lent table d)
  unfolding start_answer start_lent
  start_lent_lem g l {s} i w = rw (← h, ← e, g, le-ltb (length d) variables l, ← i) (refl, rw (← e, g) w)

-- ---- one event on lent variables
-- 32 bits each
abbrev Words : List ℕ → Type 0
Words l = (k : ℕ) → Fits w32 (get_or l k 0)

module _ (table index d event : List ℕ) where
  pub step_short : length d < variables → (ShortOutput ≡ step_answer table index d event) × (d ≡ step_lent table index d event)
  unfolding step_answer step_lent number_of
  step_short l = rw (lt-ltb (length d) variables l) (refl, refl)

  -- c is the answer, v are the bits that it leaves
  module _ (l : variables ≤ length d) (before : Words d) {x : Event} (g : x ≡ event_of event) (c : Cause) (v : List ℕ)
      (h : stepped_to c v ≡ step_by table index (variables_in d) x) (after : Words (v ++ drop variables d)) where
    all : length (take variables d) ≡ variables
    all = length-take-le variables d l

    n : length v ≡ variables
    n = step_size (take variables d) v c table index x h ∙ all

    made : stepped_to c v ≡ step_on table index d event
    made = h ∙ ap (step_by table index (variables_in d)) g

    taken : v ++ drop variables d ≡ lent_as d (numbers_of (variables_of v))
    taken = lent_in_place v d n l (λ k b. rw (get_or-append v (drop variables d) 0 k (omega (arith, n))) at (after k))

    -- a refused event leaves the numbers, since it leaves the variables
    refused : is_none c ≡ false → v ++ drop variables d ≡ d
    unfolding step_by
    refused r =
        let s : variables_of v ≡ variables_in d = refused_same (rules_by table index) (variables_in d) (event_of event) c v made r in
        taken ∙ ap (λ (s : Variables). lent_as d (numbers_of s)) s ∙
        sym (lent_in_place (take variables d) d all l (λ k b. rw (get_or-take variables d k 0 b) (before k))) ∙ take-append-drop variables d

    pub stepped : (c ≡ step_answer table index d event) × (v ++ drop variables d ≡ step_lent table index d event)
    unfolding step_answer step_lent
    stepped = rw (le-ltb (length d) variables l, ← made) (refl, go (is_none c) refl)
      where
        go : (b : Bool) → is_none c ≡ b → v ++ drop variables d ≡ cond b (lent_as d (numbers_of (variables_of v))) d
        go true e = taken
        go false e = refused e

-- ---- runs
module _ (table script : List ℕ) {f : Refusal} (h : f ≡ read_table table) {b : Bool} (e : b ≡ is_none f.cause) {before after : List ℕ} {n : ℕ} where
  pub table_unread : b ≡ false → TellsOutcome (refused_outcome f) before n after → TellsOutcome (table_outcome table script) before n after
  unfolding table_outcome
  table_unread g w = rw (← h, ← e, g) w

  pub table_run : b ≡ true → {o : Ended Variables} → o ≡ run_table table script → {k : ℕ} → k ≡ clock_of o.state →
      TellsOutcome (record { refusal = o.refusal; taken = o.taken; clock = k }) before n after → TellsOutcome (table_outcome table script) before n after
  unfolding table_outcome
  table_run g i q w = rw (← h, ← e, g, ← i, ← q) w
