-- The definitions opened, so that examples compute. Each function below is the definition it names; unfolding it unfolds all that the
-- definition rests on.
use Rattle.std.specs.Prelude.{cond, ◌&&◌, List, [], ◌∷◌, ℕ, eqb}
use Rattle.numbers.specs.declared.Value.{Value}
use Rattle.records.specs.declared.Cause.{Cause}
use Rattle.table_format.specs.declared.Atom.{Atom}
use Rattle.table_semantics.specs.declared.Variables.{Variables}
use Rattle.table_format.specs.Table.{Rule}
use Rattle.table_format.specs.Variables.{variables, now_var, input_var, buffer_var, local_var}
use Rattle.numbers.specs.Lists as lists
use Rattle.numbers.specs.Multiples as multiples
use Rattle.numbers.specs.Values as values
use Rattle.records.specs.Events as events
use Rattle.records.specs.Format as grammar
use Rattle.records.specs.Refusals as refusals
use Rattle.records.specs.Run as runs
use Rattle.model_format.specs.Format as model-format
use Rattle.model_format.specs.Model as model-model
use Rattle.model_format.specs.Reading as model-reading
use Rattle.model_semantics.specs.Effects as model-effects
use Rattle.model_semantics.specs.Machine as model-machine
use Rattle.model_semantics.specs.State as model-state
use Rattle.model_semantics.specs.Tests as model-tests
use Rattle.table_format.specs.Format as table-format
use Rattle.table_format.specs.Reading as table-reading
use Rattle.table_format.specs.Table as table-table
use Rattle.table_format.specs.RuleKinds as table-kinds
use Rattle.table_format.specs.Variables as table-variables
use Rattle.table_semantics.specs.Machine as table-machine
use Rattle.table_semantics.specs.Rules as table-rules
use Rattle.translation.specs.Parts as translate-parts
use Rattle.translation.specs.Rules as translate-rules
use Rattle.translation.specs.Shown as translate-shown
use Rattle.translation.specs.Translate as translate-translate
use Rattle.listing.specs.Listing as listing
use Rattle.listing.specs.Programs as programs

-- all that a model's run rests on
unfoldable pub open_model : ℕ → ℕ
unfolding lists.any_below lists.all_below lists.fold_below lists.first_below lists.join_below multiples.is_multiple multiples.gcd_in multiples.lcm multiples.lcm_up_to values.nearest values.plus values.minus values.combine values.compares values.one_more events.event_of events.figure_of events.is_broken grammar.record_size grammar.part_length grammar.parts_from grammar.operand_at refusals.number_of refusals.part_of runs.run_from runs.stages_from runs.tally_from model-format.head_of model-format.thread_of model-format.input_of model-format.owned_of model-format.connection_of model-format.switch_of model-format.transition_of model-format.atom_of model-format.assignment_of model-format.record_of model-format.rank_of model-model.thread_at model-model.input_at model-model.output_owner model-model.local_at model-model.connection_at model-model.switch_at model-model.transition_at model-model.atom_at model-model.assignment_at model-model.empty_model model-model.in_mode model-model.critical_in model-model.hyperperiod model-reading.in_order model-reading.times_fit model-reading.mask_fits model-reading.names_item model-reading.is_owned_by model-reading.is_connected model-reading.is_assigned model-reading.judged model-reading.cause_of model-reading.add_head model-reading.add_thread model-reading.add_input model-reading.add_output model-reading.add_local model-reading.add_connection model-reading.add_switch model-reading.add_transition model-reading.add_atom model-reading.add_assignment model-reading.add_record model-reading.read_from model-reading.read_model model-effects.is_fed_immediately model-effects.is_port model-effects.freeze model-effects.dispatch model-effects.start model-effects.operand_value model-effects.left_value model-effects.atom_holds model-effects.is_open model-effects.first_open model-effects.taken_transition model-effects.assigned_value model-effects.assign model-effects.carries model-effects.send model-effects.end_job model-effects.complete model-effects.advance model-effects.finish model-effects.meet_deadline model-effects.miss model-effects.deactivate model-effects.request model-effects.active_in model-effects.in_both model-effects.live_in model-effects.enter model-effects.leave model-effects.tick model-machine.start_state model-machine.on_activate model-machine.on_deactivate model-machine.on_dispatch model-machine.on_start model-machine.on_complete model-machine.on_deadline model-machine.on_miss model-machine.on_request model-machine.on_enter model-machine.on_leave model-machine.ticks model-machine.step model-machine.run_model model-machine.model_stages model-state.is_active model-state.code_of model-state.dispatch_time model-state.length_of model-state.spent_of model-state.behavior_of model-state.missed_of model-state.is_live model-state.input_value model-state.buffer_value model-state.output_value model-state.local_value model-state.with_live model-state.with_ports model-state.with_now model-state.with_entered model-state.with_mode model-state.with_phase model-state.with_cpu model-state.with_active model-state.with_code model-state.with_dispatch_time model-state.with_job model-state.with_spent model-state.with_behavior model-state.with_missed model-tests.is_waiting model-tests.is_unfinished model-tests.has_job model-tests.due_of model-tests.feeds model-tests.can_activate model-tests.can_deactivate model-tests.awaits_delayed model-tests.can_dispatch model-tests.runs_beside model-tests.comes_beside model-tests.awaits_immediate model-tests.start_fault model-tests.can_complete model-tests.can_meet_deadline model-tests.can_miss model-tests.can_enter model-tests.can_leave model-tests.thread_busy model-tests.switch_busy model-tests.is_busy
open_model n = n

-- all that a table's run rests on
unfoldable pub open_table : ℕ → ℕ
unfolding table-format.initial_of table-format.head_of table-format.atom_of table-format.update_of table-format.record_of table-format.records_of table-format.record_to table-format.bytes_of table-reading.operand_fits table-reading.initial_fits table-reading.head_fits table-reading.atom_fits table-reading.update_fits table-reading.atom_names table-reading.update_names table-reading.cause_of table-reading.next_context table-reading.read_from table-reading.read_table table-table.gather table-table.table_of table-table.atoms_to table-table.clauses_to table-table.updates_to table-table.rules_to table-table.initial_to table-variables.is_variable table-kinds.is_one_of table-machine.begun table-machine.start_variables table-machine.allows_length table-machine.fire table-machine.is_busy table-machine.ticks table-machine.step table-machine.run_table table-machine.table_stages table-rules.operand_value table-rules.holds_op table-rules.holds table-rules.clause_holds table-rules.all_hold table-rules.enabled_rules table-rules.applies table-rules.writes table-rules.written_to table-rules.inconsistent table-rules.written translate-parts.negated_op translate-parts.stamped translate-parts.rules_of_groups translate-rules.activate_rules translate-rules.deactivate_rules translate-rules.immediate_into translate-rules.dispatch_rules translate-rules.start_rules translate-rules.variable_of translate-rules.operand_of translate-rules.guard_clauses translate-rules.negated_guard translate-rules.assigned_expression translate-rules.assignment_updates translate-rules.sent_expression translate-rules.transition_rule translate-rules.default_rule translate-rules.complete_rules translate-rules.deadline_rules translate-rules.miss_rules translate-rules.request_rules translate-rules.enter_rules translate-rules.leave_rules translate-rules.items_of translate-rules.timing_rules translate-rules.rules_for translate-rules.groups_for translate-shown.blocks_of translate-shown.shown_in translate-shown.stands_for translate-translate.initial_of translate-translate.table_from translate-translate.translated translate-translate.output_after
open_table n = n

-- all that a listing rests on
unfoldable pub open_listing : ℕ → ℕ
unfolding listing.digits_in listing.line listing.last_line listing.listing_from programs.steps_listing programs.table_listing programs.rules_listing
open_listing n = n

-- ---- what the programs print
unfoldable pub steps : List ℕ → List ℕ → List ℕ
unfolding open_model open_table open_listing
steps model script = programs.steps_listing model script

unfoldable pub rules : List ℕ → List ℕ → List ℕ
unfolding open_model open_table open_listing
rules model script = programs.rules_listing model script

-- ---- local v after a run of a model, and of its table
unfoldable pub model_local : List ℕ → List ℕ → ℕ → Value
unfolding open_model open_table open_listing
model_local model script v = model-state.local_value (model-machine.run_model (model-reading.read_model model).model script).state.ports v

unfoldable pub table_local : List ℕ → List ℕ → ℕ → Value
unfolding open_model open_table open_listing
table_local model script v = table-rules.value_of (table-machine.run_table (translate-translate.table_bytes (model-reading.read_model model).model) script).state.value (local_var v)

-- ---- input port i and its buffer after a run of a model, and of its table
unfoldable pub model_port : List ℕ → List ℕ → ℕ → Value × Value
unfolding open_model open_table open_listing
model_port model script i =
    let p = (model-machine.run_model (model-reading.read_model model).model script).state.ports in
    (model-state.input_value p i, model-state.buffer_value p i)

unfoldable pub table_port : List ℕ → List ℕ → ℕ → Value × Value
unfolding open_model open_table open_listing
table_port model script i =
    let v = (table-machine.run_table (translate-translate.table_bytes (model-reading.read_model model).model) script).state.value in
    (table-rules.value_of v (input_var i), table-rules.value_of v (buffer_var i))

-- ---- the refusal of a model, and that of the table made from it by the table's own reader
unfoldable pub model_cause : List ℕ → Cause
unfolding open_model open_table open_listing
model_cause model = (model-reading.read_model model).refusal.cause

unfoldable pub table_cause : List ℕ → Cause
unfolding open_model open_table open_listing
table_cause model = (table-reading.read_table (translate-translate.table_bytes (model-reading.read_model model).model)).cause

-- ---- the refusal of a table, whoever made it
unfoldable pub read_cause : List ℕ → Cause
unfolding open_model open_table open_listing
read_cause table = (table-reading.read_table table).cause

-- ---- the first step of START's test that fails in the state that a script leaves, going on after refusals
unfoldable pub start_step : List ℕ → List ℕ → ℕ → ℕ → ℕ
unfolding open_model open_table open_listing
start_step model script t n =
    let m = (model-reading.read_model model).model in
    model-tests.start_fault m.timing (runs.tally (model-machine.machine_of m) (model-machine.start_state m.timing) script).state t n

-- ---- H1 of the first mode transition of a model; and the clauses of its ENTER rule, as its table's bytes are read
unfoldable pub first_h1 : List ℕ → ℕ
unfolding open_model open_table open_listing
first_h1 model = (model-model.switch_at (model-reading.read_model model).model.timing 0).h1.0

abbrev clauses_of : ℕ → ℕ → List Rule → List (List Atom)
clauses_of kind id [] = []
clauses_of kind id (x ∷ l) = let r = clauses_of kind id l in cond (eqb x.head.kind kind && eqb x.head.id id) x.clauses r

unfoldable pub first_enter : List ℕ → List (List Atom)
unfolding open_model open_table open_listing
first_enter model = clauses_of 9 0 (table-table.table_of (translate-translate.table_bytes (model-reading.read_model model).model)).rules

-- ---- the listing of a run from the start, but at a given clock, of a model and of its table; a refusal prints its line alone
unfoldable pub model_at : List ℕ → ℕ → List ℕ → List ℕ
unfolding open_model open_table open_listing
model_at model clock script =
    let r = model-reading.read_model model in
    let begin = model-state.with_now (model-machine.start_state r.model.timing) clock in
    let lines = listing.listing (model-machine.machine_of r.model) model-state.now_of begin script in
    cond (refusals.is_none r.refusal.cause) lines (listing.refused_listing r.refusal.cause)

-- of the bytes that are made, as the table's own reader takes them
unfoldable pub table_at : List ℕ → ℕ → List ℕ → List ℕ
unfolding open_model open_table open_listing
table_at model clock script =
    let made = (translate-translate.translated model programs.room).refusal.cause in
    let table = translate-translate.table_bytes (model-reading.read_model model).model in
    let c = (table-reading.read_table table).cause in
    let t = table-table.table_of table in
    let begin : Variables = record { value = lists.store variables (table-machine.start_variables t).value now_var (values.natural clock) } in
    let lines = listing.listing (table-machine.machine_of t.rules) table-machine.clock_of begin script in
    cond (refusals.is_none made) (cond (refusals.is_none c) lines (listing.refused_listing c)) (listing.refused_listing made)
