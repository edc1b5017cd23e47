-- From what the engine leaves in the numbers of a state to what a caller has.
use Rattle.std.specs.Prelude.{◌≡◌, refl, Bool, true, false, cond, List, ◌++◌, ℕ, ◌<◌, ◌≤◌, length, take, drop}
use Rattle.std.proofs.Common.{sym, ◌∙◌, ap, take-append-drop, lt-ltb, le-ltb}
use Rattle.records.specs.declared.Cause.{Cause}
use Rattle.records.specs.declared.Cause.TheVariants.{None, ShortOutput}
use Rattle.records.specs.Refusals.{is_none, number_of}
use Rattle.records.specs.Events.{event_of}
use Rattle.records.specs.declared.Event.{Event}
use Rattle.model_semantics.specs.declared.State.{State}
use Rattle.model_semantics.specs.declared.Stepped.{Stepped}
use Rattle.model_semantics.specs.Machine.{start_state, step}
use Rattle.model_words.specs.Words.{timing_in, model_in}
use Rattle.model_state.specs.Words.{state_words, state_in}
use Rattle.state_settling.specs.Words.{words_of_state}
use Rattle.state_settling.specs.SameState.{state_front}
use Rattle.model_time.specs.Answers.{Answers}
use Rattle.futonkestrel_lending.specs.Laws.{front_put}
use Rattle.futonkestrel_states.specs.States.{holding, started_answer, started_state, step_in, stepped_answer, stepped_state}

-- ---- the numbers of a state at the start of a list, lent and settled: y is what comes back
front_held : (d y : List ℕ) (s : State) → state_words ≤ length d → length y ≡ length (take state_words d) → y ≡ words_of_state s → y ++ drop state_words d ≡ holding d s
front_held d y s h n e = front_put state_words d y (words_of_state s) h n e

-- ---- the start
module _ (m d : List ℕ) where
  pub start_narrow : length d < state_words → (ShortOutput ≡ started_answer d) × (d ≡ started_state m d)
  unfolding started_answer started_state
  start_narrow h = rw (lt-ltb (length d) state_words h) (refl, refl)

  pub start_made : (y : List ℕ) → state_words ≤ length d → length y ≡ length (take state_words d) → y ≡ words_of_state (start_state (timing_in m)) → (None ≡ started_answer d) × (y ++ drop state_words d ≡ started_state m d)
  unfolding started_answer started_state
  start_made y h n e = rw (le-ltb (length d) state_words h) (refl, front_held d y (start_state (timing_in m)) h n e)

-- ---- one event, on a list that has the numbers of a state and no more: refused, it is as it was
abbrev pub event_made : Stepped → List ℕ → List ℕ
event_made o l = cond (is_none o.answer) (words_of_state o.state) l

module _ {r : Cause} {l x : List ℕ} {o : Stepped} (a : Answers r l x o) {b : Bool} (e : b ≡ is_none r) where
  pub event_taken : b ≡ true → {y : List ℕ} → y ≡ words_of_state (state_in x) → (r ≡ o.answer) × (y ≡ event_made o l)
  event_taken g h = rw (← a.same, ← e, g) (refl, h)

  pub event_refused : b ≡ false → (r ≡ o.answer) × (x ≡ event_made o l)
  event_refused g = (ap (λ (s : Stepped). s.answer) a.same, rw (← a.same, ← e, g) (a.kept (sym e ∙ g)))

module _ (m d event : List ℕ) where
  pub step_narrow : length d < state_words → (ShortOutput ≡ stepped_answer m d event) × (d ≡ stepped_state m d event)
  unfolding stepped_answer stepped_state number_of
  step_narrow h = rw (lt-ltb (length d) state_words h) (refl, refl)

  pub step_made : (y : List ℕ) {r : Cause} {ev : Event} → state_words ≤ length d → length y ≡ length (take state_words d) → ev ≡ event_of event →
      (r ≡ (step (model_in m) (state_in (take state_words d)) ev).answer) × (y ≡ event_made (step (model_in m) (state_in (take state_words d)) ev) (take state_words d)) →
      (r ≡ stepped_answer m d event) × (y ++ drop state_words d ≡ stepped_state m d event)
  unfolding stepped_answer stepped_state
  step_made y {r} {ev} h n v e = rw (le-ltb (length d) state_words h) (told, go (is_none (step_in m d event).answer) made)
    where
      same : step (model_in m) (state_in (take state_words d)) ev ≡ step_in m d event
      same = rw (state_front d h, v)

      told : r ≡ (step_in m d event).answer
      told = e.0 ∙ ap (λ (o : Stepped). o.answer) same

      made : y ≡ event_made (step_in m d event) (take state_words d)
      made = e.1 ∙ ap (λ (o : Stepped). event_made o (take state_words d)) same

      go : (b : Bool) → y ≡ cond b (words_of_state (step_in m d event).state) (take state_words d) → y ++ drop state_words d ≡ cond b (holding d (step_in m d event).state) d
      go true q = front_held d y (step_in m d event).state h n q
      go false q = ap (λ (z : List ℕ). z ++ drop state_words d) q ∙ take-append-drop state_words d
