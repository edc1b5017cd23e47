-- Laws of the answers to the events of a job, in the forms in which the code has them.
use Rattle.std.specs.Prelude.{◌≡◌, Bool, true, false, cond, ◌&&◌, List, ℕ, eqb, ltb}
use Rattle.std.proofs.Math.Path.{refl}
use Rattle.std.proofs.Common.{◌∙◌}
use borrow.Author.Tests.{ne_eqb}
use Rattle.records.specs.declared.Cause.TheVariants.{None, NotEnabled}
use Rattle.model_format.specs.declared.Timing.{Timing}
use Rattle.model_format.specs.declared.Model.{Model}
use Rattle.model_format.specs.Model.{immediate}
use Rattle.model_semantics.specs.declared.Ports.{Ports}
use Rattle.model_semantics.specs.declared.State.{State}
use Rattle.model_semantics.specs.State.{none, code_of, with_ports, with_code, with_cpu, with_job}
use Rattle.model_semantics.specs.Tests.{execution, completed, can_dispatch, start_fault, can_complete, can_meet_deadline, can_miss}
use Rattle.model_semantics.specs.Effects.{dispatch, start, send, end_job, advance, finish, complete, meet_deadline, miss}
use Rattle.model_semantics.specs.Machine.{on_dispatch, on_start, on_complete, on_deadline, on_miss}
use Rattle.model_state.specs.Words.{state_in}
use Rattle.model_time.specs.Answers.{Answers}
use Rattle.model_time.specs.AnswerLaws.{accepted_keeps}

job_ports : (m : Timing) (s : State) (t : ℕ) (p : Ports) → end_job m (with_ports s p) t completed ≡ with_ports (end_job m s t completed) p
unfolding end_job with_ports with_job with_code with_cpu code_of
job_ports m s t p = go (eqb (code_of s t) execution)
  where
    go : (b : Bool) → with_job (with_code (cond b (with_cpu m (with_ports s p) t none) (with_ports s p)) t completed) t 0 0 ≡ with_ports (with_job (with_code (cond b (with_cpu m s t none) s) t completed) t 0 0) p
    go true = refl
    go false = refl

-- ---- COMPLETE: the transition, what is sent, the end of the job
pub complete_is : (m : Model) (s q r u : State) (t : ℕ) → q ≡ advance m s t → r ≡ with_ports q (send m.timing q immediate t q.ports) → u ≡ end_job m.timing r t completed → u ≡ complete m s t
unfolding finish complete
complete_is m s q r u t e f g = g ∙ rw (f, ended q t (send m.timing q immediate t q.ports), e)
  where
    ended : (x : State) (i : ℕ) (p : Ports) → end_job m.timing (with_ports x p) i completed ≡ with_ports (end_job m.timing x i completed) p
    ended x i p = job_ports m.timing x i p

-- ---- an event that is accepted, and one that is not enabled: n is how many items there are, c what the test gave, x the list after
module _ (m : Timing) (l : List ℕ) (t n : ℕ) (c : Bool) where
  pub dispatch_made : (x : List ℕ) → n ≡ m.threads → c ≡ can_dispatch m (state_in l) t → (ltb t n && c) ≡ true → state_in x ≡ dispatch m (state_in l) t → Answers None l x (on_dispatch m (state_in l) t)
  unfolding on_dispatch
  dispatch_made x e f h g = record { same = rw (g, rw (e, f) at h); kept = accepted_keeps }

  pub dispatch_failed : n ≡ m.threads → c ≡ can_dispatch m (state_in l) t → (ltb t n && c) ≡ false → Answers NotEnabled l l (on_dispatch m (state_in l) t)
  unfolding on_dispatch
  dispatch_failed e f h = record { same = rw (rw (e, f) at h); kept = λ z. refl }

  pub deadline_made : (x : List ℕ) → n ≡ m.threads → c ≡ can_meet_deadline m (state_in l) t → (ltb t n && c) ≡ true → state_in x ≡ meet_deadline m (state_in l) t → Answers None l x (on_deadline m (state_in l) t)
  unfolding on_deadline
  deadline_made x e f h g = record { same = rw (g, rw (e, f) at h); kept = accepted_keeps }

  pub deadline_failed : n ≡ m.threads → c ≡ can_meet_deadline m (state_in l) t → (ltb t n && c) ≡ false → Answers NotEnabled l l (on_deadline m (state_in l) t)
  unfolding on_deadline
  deadline_failed e f h = record { same = rw (rw (e, f) at h); kept = λ z. refl }

  pub miss_made : (x : List ℕ) → n ≡ m.threads → c ≡ can_miss m (state_in l) t → (ltb t n && c) ≡ true → state_in x ≡ miss m (state_in l) t → Answers None l x (on_miss m (state_in l) t)
  unfolding on_miss
  miss_made x e f h g = record { same = rw (g, rw (e, f) at h); kept = accepted_keeps }

  pub miss_failed : n ≡ m.threads → c ≡ can_miss m (state_in l) t → (ltb t n && c) ≡ false → Answers NotEnabled l l (on_miss m (state_in l) t)
  unfolding on_miss
  miss_failed e f h = record { same = rw (rw (e, f) at h); kept = λ z. refl }

module _ (m : Model) (l : List ℕ) (t n : ℕ) (c : Bool) where
  pub complete_made : (x : List ℕ) → n ≡ m.timing.threads → c ≡ can_complete (state_in l) t → (ltb t n && c) ≡ true → state_in x ≡ complete m (state_in l) t → Answers None l x (on_complete m (state_in l) t)
  unfolding on_complete
  complete_made x e f h g = record { same = rw (g, rw (e, f) at h); kept = accepted_keeps }

  pub complete_failed : n ≡ m.timing.threads → c ≡ can_complete (state_in l) t → (ltb t n && c) ≡ false → Answers NotEnabled l l (on_complete m (state_in l) t)
  unfolding on_complete
  complete_failed e f h = record { same = rw (rw (e, f) at h); kept = λ z. refl }

-- START, whose test is a number
module _ (m : Timing) (l : List ℕ) (id t long n : ℕ) (w : t ≡ id) (f : n ≡ start_fault m (state_in l) t long) where
  pub start_made : (x : List ℕ) → n ≡ 0 → state_in x ≡ start m (state_in l) id long → Answers None l x (on_start m (state_in l) id long)
  unfolding on_start
  start_made x h g = record { same = rw (g, ← w, ← f, h); kept = accepted_keeps }

  pub start_failed : (n ≡ 0 → ⊥) → Answers NotEnabled l l (on_start m (state_in l) id long)
  unfolding on_start
  start_failed h = record { same = rw (← w, ← f, ne_eqb n 0 h); kept = λ z. refl }
