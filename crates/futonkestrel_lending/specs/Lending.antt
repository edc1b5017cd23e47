-- What callers of other languages lend and are told: variables as numbers in a slice, the places of a refusal, the count and the clock of
-- a run.
use Rattle.std.specs.Prelude.{◌≡◌, Bool, cond, ◌&&◌, not, List, [], ◌∷◌, ℕ, ◌<◌, length, take, ltb}
use Rattle.std.proofs.lemmas.List.Edits.{sets}
use Rattle.numbers.specs.Lists.{list_below}
use Rattle.numbers.specs.Values.{bits_of}
use Rattle.records.specs.declared.Cause.{Cause}
use Rattle.records.specs.declared.Cause.TheVariants.{ShortOutput}
use Rattle.records.specs.declared.Refusal.{Refusal}
use Rattle.records.specs.Refusals.{is_none, number_of}
use Rattle.records.specs.Events.{event_of}
use Rattle.records.specs.Run.{tally}
use Rattle.model_format.specs.declared.Model.{Model}
use Rattle.model_format.specs.declared.Timing.{Timing}
use Rattle.model_format.specs.Reading.{read_model}
use Rattle.model_semantics.specs.declared.State.{State}
use Rattle.model_semantics.specs.declared.Stepped.{Stepped}
use Rattle.model_semantics.specs.Machine as model-machine
use Rattle.table_format.specs.Variables.{variables}
use Rattle.table_format.specs.Reading.{read_table}
use Rattle.table_format.specs.Table.{table_of}
use Rattle.table_semantics.specs.declared.Variables.{Variables}
use Rattle.table_semantics.specs.declared.Stepped.{Stepped as TableStepped}
use Rattle.table_semantics.specs.Rules.{value_of}
use Rattle.table_semantics.specs.Machine as table-machine
use Rattle.table_semantics.specs.Runs.{variables_of}
use Rattle.table_index.specs.Index.{step_by}
use Rattle.translation.specs.declared.Translation.{Translation}
use Rattle.translation.specs.Shown.{stands_for}
use Rattle.enabled.specs.declared.Enabled.{Enabled}
use Rattle.listing.specs.Outcomes.{Outcome}

-- ---- variables: number j of the slice is the 32 bits of variable j; what lies behind the variables is no concern of ours
abbrev pub variables_in : List ℕ → Variables
variables_in d = variables_of (take variables d)

-- the slice with the numbers f 0, f 1, .. of the variables at its start
abbrev pub lent_as : List ℕ → (ℕ → ℕ) → List ℕ
lent_as d f = sets d 0 (list_below variables f)

-- d with the number of each variable at its start, where `gives j n` says that n may be the number of variable j: whatever f is that each is
abbrev pub LendsAll : (ℕ → ℕ → Type 0) → List ℕ → List ℕ → Type 0
LendsAll gives d e = (f : ℕ → ℕ) → ((j n : ℕ) → j < variables → gives j n → n ≡ f j) → e ≡ lent_as d f

abbrev pub numbers_of : Variables → ℕ → ℕ
numbers_of s j = bits_of (value_of s.value j).0

abbrev pub numbers_shown : Timing → State → ℕ → ℕ
numbers_shown m s j = bits_of (stands_for m s j).0

-- fewer than all variables cannot hold a state: 8, the output is too short
abbrev pub is_short : List ℕ → Bool
is_short d = ltb (length d) variables

-- ---- a table's start: the refusal of the table, then 8
unfoldable pub start_answer : List ℕ → List ℕ → Cause
start_answer table d = let c = (read_table table).cause in cond (is_none c) (cond (is_short d) ShortOutput c) c

unfoldable pub start_lent : List ℕ → List ℕ → List ℕ
start_lent table d = cond (is_none (start_answer table d)) (lent_as d (numbers_of (table-machine.start_variables (table_of table)))) d

-- ---- one event on lent variables by an index of the table: refused, it leaves them as they were
abbrev pub step_on : List ℕ → List ℕ → List ℕ → List ℕ → TableStepped
step_on table index d event = step_by table index (variables_in d) (event_of event)

unfoldable pub step_answer : List ℕ → List ℕ → List ℕ → List ℕ → Cause
step_answer table index d event = cond (is_short d) ShortOutput (step_on table index d event).answer

unfoldable pub step_lent : List ℕ → List ℕ → List ℕ → List ℕ → List ℕ
step_lent table index d event = cond (is_none (step_answer table index d event)) (lent_as d (numbers_of (step_on table index d event).state)) d

-- ---- one event of a model, after a list that goes on after refusals: what each variable of the table stands for then
abbrev pub after_step : Model → List ℕ → List ℕ → Stepped
after_step m script event = model-machine.step m (tally (model-machine.machine_of m) (model-machine.start_state m.timing) script).state (event_of event)

unfoldable pub after_answer : List ℕ → List ℕ → List ℕ → List ℕ → Cause
after_answer model script event d =
    let r = read_model model in
    let c = r.refusal.cause in
    cond (is_none c) (cond (is_short d) ShortOutput (after_step r.model script event).answer) c

unfoldable pub after_lent : List ℕ → List ℕ → List ℕ → List ℕ → List ℕ
after_lent model script event d =
    let r = read_model model in
    cond (is_none r.refusal.cause && not (is_short d)) (lent_as d (numbers_shown r.model.timing (after_step r.model script event).state)) d

-- ---- what is told, in this order; a slice with fewer places gets as many
abbrev pub told_refusal : Refusal → List ℕ
told_refusal r = r.start ∷ r.end ∷ []

abbrev pub told_translation : Translation → List ℕ
told_translation t = t.refusal.start ∷ t.refusal.end ∷ t.bytes ∷ []

abbrev pub told_outcome : Outcome → List ℕ
told_outcome o = o.refusal.start ∷ o.refusal.end ∷ o.taken ∷ o.clock ∷ []

-- how many events are enabled, then 1 where a tick may pass, else 0
abbrev pub told_enabled : Enabled → List ℕ
told_enabled e = e.count ∷ cond e.tick 1 0 ∷ []

-- the number of a cause as the result, the rest in the slice
pub record Tells (c : Cause) (rest before : List ℕ) (r : ℕ) (after : List ℕ) : Type 0 where
  pub number : r ≡ number_of c
  pub told : after ≡ sets before 0 rest

abbrev pub TellsOutcome : Outcome → List ℕ → ℕ → List ℕ → Type 0
TellsOutcome o before r after = Tells o.refusal.cause (told_outcome o) before r after

abbrev pub TellsEnabled : Enabled → List ℕ → ℕ → List ℕ → Type 0
TellsEnabled e before r after = Tells e.answer (told_enabled e) before r after
