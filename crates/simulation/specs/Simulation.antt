-- Demand 3: for every accepted model whose table fits and every event list, over "the bytes made".
use Rattle.std.specs.Prelude.{◌≡◌, refl, Bool, true, false, List, ℕ, length, take, drop, ltb}
use Rattle.std.proofs.Common.{sym, ◌∙◌, true≢false, arith}
use Rattle.std.proofs.Math.Seq.{take-append_seam}
use Rattle.records.specs.declared.Event.{Event}
use Rattle.records.specs.declared.Notation.TheVariants.{Script}
use Rattle.records.specs.Format.{parts}
use Rattle.records.specs.Refusals.{is_none, number_of}
use Rattle.records.specs.Events.{tick_kind, is_broken}
use Rattle.model_format.specs.declared.Model.{Model}
use Rattle.model_format.specs.Reading.{read_model}
use Rattle.model_format.specs.WellFormed.{Bytes, WellFormed}
use Rattle.model_format.specs.Accepted.{accepted_well_formed}
use Rattle.model_semantics.specs.declared.State.{State}
use Rattle.model_semantics.specs.Tests as tests
use Rattle.model_semantics.specs.Machine.{start_state, run_model, model_stages, machine_of as model_machine}
use Rattle.model_semantics.specs.Machine as model-machine
use Rattle.table_semantics.specs.declared.Variables.{Variables}
use Rattle.table_semantics.specs.Machine.{start_variables, run_table, table_stages, machine_of as table_machine}
use Rattle.table_semantics.specs.Machine as table-machine
use Rattle.table_format.specs.Table.{table_of}
use Rattle.translation.specs.declared.Translation.{Translation}
use Rattle.translation.specs.Rules.{rules_of}
use Rattle.translation.specs.Translate.{table_from, table_bytes, translated, output_after}
use Rattle.translation_sizes.proofs.MadeTable.{translation_back}
use Rattle.simulation.specs.Compared.{Dispatched, none_yet, Alike, Lockstep, Demand3, Simulates}
use Rattle.simulation.specs.Match.{Match}
use Rattle.simulation.specs.Runs.{Agree, SameEnd, lockstep, same_run}
use Rattle.simulation.specs.Ticks.{ticks_agree}
use Rattle.simulation.specs.Quiet.{busy_same}
use Rattle.simulation.specs.EffectTick.{tick_match}
use Rattle.simulation.specs.StartState.{start_match}
use Rattle.simulation.specs.Stands.{match_alike}
use Rattle.reached.specs.Kinds.{OneOf, is_activate, is_deactivate, is_dispatch, is_start, is_complete, is_deadline, is_miss, is_request, is_enter, is_leave, is_tick, one_of, model_tick}
use Rattle.simulation.specs.Kinds.{table_ticks}
use Rattle.simulation.specs.Step.{After, other_states}
use Rattle.simulation.specs.Agree.{broken_after, activate_after, deactivate_after, dispatch_after, start_after, complete_after, deadline_after, miss_after, request_after, enter_after, leave_after}

module _ (m : Model) (w : WellFormed m) where
  tick_after : (d : Dispatched) (s : State) (v : Variables) (h : Match m.timing d s v.value) (e : Event) → is_broken e ≡ false → e.kind ≡ tick_kind →
      After m.timing d e (model-machine.step m s e) (table-machine.step (rules_of m) v e)
  tick_after d s v h e b k =
      let x = ticks_agree m.timing (rules_of m) d (λ r u. busy_same m d r u w) (tick_match m.timing w.timing d) s v h e.amount s v.value h in
      rw (model_tick m s e k b, table_ticks (rules_of m) v e k b) (record { answer = x.answer; states = other_states e _ (λ z. omega arith) x.states })

  step_after : (d : Dispatched) (s : State) (v : Variables) (h : Match m.timing d s v.value) (e : Event) → After m.timing d e (model-machine.step m s e) (table-machine.step (rules_of m) v e)
  step_after d s v h e = go (is_broken e) refl
    where
      by_kind : is_broken e ≡ false → OneOf e.kind → After m.timing d e (model-machine.step m s e) (table-machine.step (rules_of m) v e)
      by_kind b (is_activate k) = activate_after m w d s v h e b k
      by_kind b (is_deactivate k) = deactivate_after m w d s v h e b k
      by_kind b (is_dispatch k) = dispatch_after m w d s v h e b k
      by_kind b (is_start k) = start_after m w d s v h e b k
      by_kind b (is_complete k) = complete_after m w d s v h e b k
      by_kind b (is_deadline k) = deadline_after m w d s v h e b k
      by_kind b (is_miss k) = miss_after m w d s v h e b k
      by_kind b (is_request k) = request_after m w d s v h e b k
      by_kind b (is_enter k) = enter_after m w d s v h e b k
      by_kind b (is_leave k) = leave_after m w d s v h e b k
      by_kind b (is_tick k) = tick_after d s v h e b k

      go : (b : Bool) → is_broken e ≡ b → After m.timing d e (model-machine.step m s e) (table-machine.step (rules_of m) v e)
      go true b = broken_after m w d s v h e b
      go false b = by_kind b (one_of e b)

  pub agree : (d : Dispatched) (s : State) (v : Variables) (e : Event) → Match m.timing d s v.value → Agree m.timing (model_machine m) (table_machine (rules_of m)) d s v e
  agree d s v e h = let x = step_after d s v h e in record { answer = x.answer; states = x.states }

  alike : (d : Dispatched) (s : State) (v : Variables) → Match m.timing d s v.value → Alike m.timing d s v
  alike d s v = match_alike m.timing w.timing d s v.value

  -- the runs of a model and of a table that is read as the one made from it
  same_stages : (script table : List ℕ) → table_of table ≡ table_from m → Lockstep m.timing none_yet (model_stages m script) (table_stages table script)
  unfolding model_stages table_stages table_from
  same_stages script table e =
      rw e (lockstep m.timing (model_machine m) (table_machine (rules_of m)) alike agree (parts Script script) none_yet (start_state m.timing) (start_variables (table_from m)) 0 (start_match m w))

  same_end : (script table : List ℕ) → table_of table ≡ table_from m → SameEnd (run_model m script) (run_table table script)
  unfolding run_model run_table table_from
  same_end script table e =
      rw e (same_run m.timing (model_machine m) (table_machine (rules_of m)) alike agree (parts Script script) none_yet (start_state m.timing) (start_variables (table_from m)) 0 0 (start_match m w))

  pub demand_3 : (script : List ℕ) → Demand3 m script (table_bytes m)
  demand_3 script =
      let t = translation_back m w in
      let r = same_end script (table_bytes m) t.1 in
      record {
        accepted = t.0;
        start = rw t.1 (alike none_yet (start_state m.timing) (start_variables (table_from m)) (start_match m w));
        lockstep = same_stages script (table_bytes m) t.1;
        taken = r.taken;
        refusal = r.refusal;
        clock = r.clock;
      }

-- ---- over bytes: r is what translating told, and after the output that it left
-- a model that was translated was accepted, and its table fitted
pub record Accepted (model : List ℕ) (r : Translation) : Type 0 where
  pub reading : is_none (read_model model).refusal.cause ≡ true
  pub bytes : r.bytes ≡ length (table_bytes (read_model model).model)

pub was_accepted : (model : List ℕ) (room : ℕ) (r : Translation) → r ≡ translated model room → is_none r.refusal.cause ≡ true → Accepted model r
unfolding translated number_of
was_accepted model room r t e = go (is_none (read_model model).refusal.cause) (ltb room (length (table_bytes (read_model model).model))) refl refl (rw t at e)
  where
    go : (a b : Bool) → is_none (read_model model).refusal.cause ≡ a → ltb room (length (table_bytes (read_model model).model)) ≡ b →
        is_none (translated model room).refusal.cause ≡ true → Accepted model r
    go true true f g e = absurd (true≢false (sym (rw (f, g) at e)))
    go true false f g e = record { reading = f; bytes = rw (t, f, g) }
    go false b f g e = absurd (true≢false (sym (sym f ∙ rw f at e)))

module _ (model out : List ℕ) (r : Translation) (after : List ℕ) (t : r ≡ translated model (length out)) (o : after ≡ output_after model out)
    (e : is_none r.refusal.cause ≡ true)
  where
    pub written_is : take r.bytes after ≡ table_bytes (read_model model).model
    unfolding output_after
    written_is =
        let n = (was_accepted model (length out) r t e).bytes in
        rw (n, o, ← t, e) (take-append_seam (table_bytes (read_model model).model) (drop (length (table_bytes (read_model model).model)) out))

    -- for every event list, refused events among them, perhaps a cut or unknown one at its end
    pub simulates : Bytes model → (script : List ℕ) → Simulates model script r.bytes after
    simulates b script =
        let a = (was_accepted model (length out) r t e).reading in
        rw written_is (demand_3 (read_model model).model (accepted_well_formed model b a) script)
