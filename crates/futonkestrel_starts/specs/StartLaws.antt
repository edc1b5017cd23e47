-- START is taken exactly where no step of its test fails, and what is told of it.
use Rattle.std.specs.Prelude.{◌≡◌, Bool, true, false, List, ℕ, ◌<◌, ◌≤◌, length, set}
use Rattle.std.proofs.Math.Path.{refl}
use Rattle.std.proofs.Common.{lt-ltb, le-ltb}
use Rattle.records.specs.declared.Cause.TheVariants.{None, ShortOutput}
use Rattle.records.specs.Refusals.{is_none, number_of}
use Rattle.records.specs.Events.{is_broken}
use Rattle.records.specs.Format.{record_size}
use Rattle.model_format.specs.declared.Model.{Model}
use Rattle.model_format.specs.declared.ModelRead.{ModelRead}
use Rattle.model_format.specs.Reading.{read_model}
use Rattle.model_semantics.specs.declared.State.{State}
use Rattle.model_semantics.specs.Tests.{start_fault, can_start}
use Rattle.model_semantics.specs.StartLaws.{start_sentence}
use Rattle.model_semantics.specs.Effects.{start}
use Rattle.model_semantics.specs.Machine.{attempt, on_start, step}
use Rattle.model_words.specs.Words.{model_in, timing_in}
use Rattle.model_state.specs.Words.{state_words, state_in}
use Rattle.futonkestrel_lending.specs.Lending.{Tells, told_refusal}
use Rattle.futonkestrel_states.specs.States.{started_answer}
use Rattle.futonkestrel_starts.specs.Starts.{start_event, StartTest, left_by, told_start, TellsStart, told_start_in, TellsStartIn}

-- for all models, states, thread numbers and lengths
at_start : (m : Model) (s : State) (t n : ℕ) → step m s (start_event t n) ≡ attempt (can_start m.timing s t n) (start m.timing s t n) s
unfolding step on_start is_broken record_size
at_start m s t n = refl

pub start_decides : (m : Model) (s : State) (t n : ℕ) → StartTest m s t n
start_decides m s t n = record { taken = at_start m s t n; sentence = start_sentence m.timing s t n }

-- ---- by bytes: x is the state that the script leaves
module _ (model script : List ℕ) (t n : ℕ) {m : ModelRead} (h : m ≡ read_model model) {b : Bool} (e : b ≡ is_none m.refusal.cause) {before after : List ℕ} {r : ℕ}
    (w : Tells m.refusal.cause (told_refusal m.refusal) before r after) where
  pub start_refused : b ≡ false → TellsStart model script t n before r after
  unfolding told_start
  start_refused g = record {
    tells = rw (← h, ← e, g) w;
    test = start_decides (read_model model).model (left_by (read_model model).model script) t n;
  }

  pub start_told : b ≡ true → {x : State} → x ≡ left_by m.model script → {k : ℕ} → k ≡ start_fault m.model.timing x t n → {last : List ℕ} → last ≡ set after 2 k →
      TellsStart model script t n before r last
  unfolding told_start
  start_told g p q l = record {
    tells = record { number = rw (← h) w.number; told = rw (← h, ← e, g, ← p, ← q, l, w.told) };
    test = start_decides (read_model model).model (left_by (read_model model).model script) t n;
  }

-- ---- by numbers that are kept
module _ (words state : List ℕ) (t n : ℕ) {before : List ℕ} {r : ℕ} where
  pub start_narrow : length state < state_words → r ≡ number_of ShortOutput → TellsStartIn words state t n before r before
  unfolding started_answer told_start_in
  start_narrow h e = record {
    tells = rw (lt-ltb (length state) state_words h) (record { number = e; told = refl });
    test = start_decides (model_in words) (state_in state) t n;
  }

  pub start_kept : state_words ≤ length state → r ≡ number_of None → {k : ℕ} → k ≡ start_fault (timing_in words) (state_in state) t n → {after : List ℕ} → after ≡ set before 0 k →
      TellsStartIn words state t n before r after
  unfolding started_answer told_start_in
  start_kept h e q l = record {
    tells = rw (le-ltb (length state) state_words h) (record { number = e; told = rw (← q) l });
    test = start_decides (model_in words) (state_in state) t n;
  }
