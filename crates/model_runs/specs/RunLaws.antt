-- Laws of runs on lists of numbers, in the forms in which the code has them.
use Rattle.std.specs.Prelude.{◌≡◌, Bool, true, false, not, List, ℕ, ◌+◌, ◌<◌, ◌≤◌, length, drop}
use Rattle.std.proofs.Common.{sym, ◌∙◌, ap}
use Rattle.std.proofs.lemmas.Bool.{not-true, not-false}
use Rattle.records.specs.declared.Cause.{Cause}
use Rattle.records.specs.declared.Listed.{Listed}
use Rattle.records.specs.declared.Notation.TheVariants.{Script}
use Rattle.records.specs.Events.{listed_at}
use Rattle.records.specs.Format.{parts}
use Rattle.records.specs.Refusals.{is_none, in_script, no_refusal}
use Rattle.records.specs.Run.{run_from, stages_from, tally_from}
use Rattle.records.specs.declared.walks.Events.{Events}
use Rattle.records.specs.Walks.{IsEventAt}
use Rattle.records.specs.Walk.{next_listed, run_end, tally_end, listed_on, listed_refused, listed_taken, listed_passed}
use Rattle.model_format.specs.declared.Model.{Model}
use Rattle.model_semantics.specs.declared.State.{State}
use Rattle.model_semantics.specs.declared.Stepped.{Stepped}
use Rattle.model_semantics.specs.Machine.{start_state, step, machine_of, run_model}
use Rattle.model_state.specs.Words.{state_in}
use Rattle.model_time.specs.Answers.{Answers}
use Rattle.model_runs.specs.Runs.{tally_model}

-- ---- where runs begin and end: k events are taken and r refused, and the next part begins at p
pub run_begins : (m : Model) (script : List ℕ) (s : State) → s ≡ start_state m.timing → run_from (machine_of m) s 0 0 (parts Script (drop 0 script)) ≡ run_model m script
unfolding run_model
run_begins m script s e = rw e

pub run_ends : (m : Model) (script : List ℕ) (s : State) (k p : ℕ) → run_from (machine_of m) s k p (parts Script (drop p script)) ≡ run_model m script → length script ≤ p →
    record { taken = k; refusal = no_refusal; state = s } ≡ run_model m script
run_ends m script s k p inv h = run_end (machine_of m) script p s k h ∙ inv

pub tally_begins : (m : Model) (script : List ℕ) (s : State) → s ≡ start_state m.timing → tally_from s 0 0 (stages_from (machine_of m) s 0 (parts Script (drop 0 script))) ≡ tally_model m script
tally_begins m script s e = rw e

pub tally_ends : (m : Model) (script : List ℕ) (s : State) (k r p : ℕ) → tally_from s k r (stages_from (machine_of m) s p (parts Script (drop p script))) ≡ tally_model m script → length script ≤ p →
    record { taken = k; refused = r; state = s } ≡ tally_model m script
tally_ends m script s k r p inv h = tally_end (machine_of m) script p s k r h ∙ inv

-- a step of the walk over the script's events, which comes to the event d at p
pub record Comes (script : List ℕ) (p : ℕ) (d : Listed) (next : ℕ) : Type 0 where
  pub here : d ≡ listed_at script p
  pub within : p < length script
  pub on : p < d.end
  pub at_most : d.end ≤ length script
  pub next_is : next ≡ d.end

pub comes : (script : List ℕ) (s t : Events) (at : ℕ) (d : Listed) → s.script.now ≡ script → IsEventAt s at d t → Comes script s.at d t.at
comes script s t at d e w =
    let h : d ≡ listed_at script s.at = rw e at w.event in
    let l : s.at < length script = rw e at w.within in
    let n = next_listed script s.at h l in
    record { here = h; within = l; on = n.0; at_most = n.1; next_is = w.next }

-- ---- the event d stands at p; c is its answer, and x the list after it
module _ (m : Model) (script l x : List ℕ) (p : ℕ) (d : Listed) (c : Cause) (b : Bool) (i : d ≡ listed_at script p) (h : p < length script)
    (a : Answers c l x (step m (state_in l) d.event)) (g : b ≡ is_none c) where
  answer_is : c ≡ (step m (state_in l) d.event).answer
  answer_is = ap (λ (o : Stepped). o.answer) a.same

  after_is : state_in x ≡ (step m (state_in l) d.event).state
  after_is = ap (λ (o : Stepped). o.state) a.same

  module _ (k : ℕ) (inv : run_from (machine_of m) (state_in l) k p (parts Script (drop p script)) ≡ run_model m script) where
    pub run_stops : not b ≡ true → record { taken = k; refusal = in_script c p d.end; state = state_in x } ≡ run_model m script
    run_stops j =
        let z : is_none c ≡ false = sym g ∙ not-true b j in
        ap (λ (y : List ℕ). record { taken = k; refusal = in_script c p d.end; state = state_in y }) (a.kept z) ∙
        listed_refused script p i (machine_of m) (state_in l) h k c answer_is z ∙ inv

    pub run_goes_on : not b ≡ false → run_from (machine_of m) (state_in x) (k + 1) d.end (parts Script (drop d.end script)) ≡ run_model m script
    run_goes_on j = listed_on script p i (machine_of m) (state_in l) h k c (state_in x) answer_is after_is (sym g ∙ not-false b j) ∙ inv

  module _ (k r : ℕ) (inv : tally_from (state_in l) k r (stages_from (machine_of m) (state_in l) p (parts Script (drop p script))) ≡ tally_model m script) where
    pub run_takes : b ≡ true → tally_from (state_in x) (k + 1) r (stages_from (machine_of m) (state_in x) d.end (parts Script (drop d.end script))) ≡ tally_model m script
    run_takes j = listed_taken script p i (machine_of m) (state_in l) h k r c (state_in x) answer_is after_is (sym g ∙ j) ∙ inv

    pub run_refuses : b ≡ false → tally_from (state_in x) k (r + 1) (stages_from (machine_of m) (state_in x) d.end (parts Script (drop d.end script))) ≡ tally_model m script
    run_refuses j = listed_passed script p i (machine_of m) (state_in l) h k r c (state_in x) answer_is after_is (sym g ∙ j) ∙ inv
