-- Laws of the tests on lists of numbers, in the forms in which the code has them.
use Rattle.std.specs.Prelude.{◌≡◌, refl, Bool, true, false, cond, Option, Some, None, MatchOption, unwrap_or, ◌&&◌, ◌||◌, not, ℕ, eqb}
use Rattle.std.proofs.Math.Path.{sym}
use Rattle.std.proofs.Common.{◌∙◌, ap}
use borrow.Author.Tests.{ne_eqb, eq-eqb, not-true, not-false}
use Rattle.numbers.specs.Values.{duration}
use Rattle.model_format.specs.declared.Thread.{Thread}
use Rattle.model_format.specs.declared.Connection.{Connection}
use Rattle.model_format.specs.declared.Timing.{Timing}
use Rattle.model_format.specs.Model.{connection_at, input_owner, output_owner, thread_at, immediate, delayed, source_thread, target_thread}
use Rattle.model_semantics.specs.declared.Clock.{Clock}
use Rattle.model_semantics.specs.declared.State.{State}
use Rattle.model_semantics.specs.State.{is_active, code_of, dispatch_time, length_of, spent_of, is_live}
use Rattle.model_semantics.specs.Tests.{is_waiting, is_unfinished, has_job, due_of, is_due, feeds, awaits_delayed, can_dispatch, runs_beside, comes_beside, is_ready, is_free, start_fault, thread_busy}
use Rattle.model_semantics.specs.StartLaws.{fault_state, fault_processor, fault_connections, fault_length, fault_none}
use Rattle.model_tests.specs.declared.Job.{Job}
use Rattle.model_tests.specs.declared.ThreadView.{ThreadView}
use Rattle.model_tests.specs.Parts.{job_of}
use Rattle.model_tests.specs.Jobs.{thread_view_of, dispatches_alone, may_act, due_with_job, beside_runs, beside_comes, source_of, feeder, holds_dispatch, holds_start, step_fails}
use Rattle.model_tests.specs.JobLaws.{dispatch_by, calm}

-- ---- a job and a view, part by part
pub job_by : (s : State) (t code : ℕ) (active : Bool) (d l p : ℕ) → active ≡ is_active s t → code ≡ code_of s t → d ≡ dispatch_time s t → l ≡ length_of s t → p ≡ spent_of s t →
    record { active = active; code = code; dispatched = duration d; length = duration l; spent = duration p } ≡ job_of s.threads t
unfolding job_of is_active code_of dispatch_time length_of spent_of
job_by s t code active d l p e f g h i = rw (e, f, g, h, i)

pub view_by : (m : Timing) (s : State) (t : ℕ) (k : Clock) (x : Thread) (j : Job) → k ≡ s.clock → x ≡ thread_at m t → j ≡ job_of s.threads t →
    record { clock = k; thread = x; job = j } ≡ thread_view_of m s t
unfolding thread_view_of
view_by m s t k x j e f g = rw (e, f, g)

-- i is the source of x, o its owner
pub source_by : (m : Timing) (s : State) (x : Connection) (i o u : ℕ) (v : ThreadView) → i ≡ x.source → o ≡ output_owner m i → u ≡ o → v ≡ thread_view_of m s u →
    v ≡ source_of m s x
unfolding source_of output_owner
source_by m s x i o u v e f g h = h ∙ rw (g, f, e)

-- ---- connections: a the kind fits, b the target is the thread's, l the connection is live, r what its source does
off : (a b l r : Bool) → not (a && l) ≡ true → false ≡ ((a && (b && l)) && r)
off true b true r h = cc
off true true false r h = refl
off true false false r h = refl
off false b l r h = refl

away : (a b l r : Bool) → b ≡ false → false ≡ ((a && (b && l)) && r)
away true false l r h = refl
away false false l r h = refl
away a true l r h = cc

on : (a b l r : Bool) → not (a && l) ≡ false → b ≡ true → r ≡ ((a && (b && l)) && r)
on true true true r h e = refl
on a false l r h e = cc
on true true false r h e = cc
on false true l r h e = cc

abbrev source_due : Timing → State → ℕ → Bool
source_due m s c = has_job (code_of s (source_thread m c)) && is_due m s (source_thread m c)

abbrev source_beside : Timing → State → ℕ → ℕ → Bool
source_beside m s t c = runs_beside s (source_thread m c) t || comes_beside m s (source_thread m c) t

module _ (m : Timing) (s : State) (t c : ℕ) (x : Connection) (live : Bool) (e : x ≡ connection_at m c) (f : live ≡ is_live s c) where
  pub dispatch_off : not (eqb x.kind delayed && live) ≡ true → false ≡ holds_dispatch m s t c
  unfolding holds_dispatch feeds
  dispatch_off h = off (eqb (connection_at m c).kind delayed) (eqb (target_thread m c) t) (is_live s c) (source_due m s c) (rw (e, f) at h)

  pub start_off : not (eqb x.kind immediate && live) ≡ true → false ≡ holds_start m s t c
  unfolding holds_start feeds
  start_off h = off (eqb (connection_at m c).kind immediate) (eqb (target_thread m c) t) (is_live s c) (source_beside m s t c) (rw (e, f) at h)

  -- o is the owner of its target, at i
  module _ (i o u : ℕ) (g : i ≡ x.target) (k : o ≡ input_owner m i) (w : u ≡ o) where
    target_is : u ≡ target_thread m c
    target_is = w ∙ k ∙ ap (input_owner m) (g ∙ ap (λ (y : Connection). y.target) e)

    pub dispatch_away : (u ≡ t → ⊥) → false ≡ holds_dispatch m s t c
    unfolding holds_dispatch feeds
    dispatch_away h = away (eqb (connection_at m c).kind delayed) (eqb (target_thread m c) t) (is_live s c) (source_due m s c) (ne_eqb (target_thread m c) t (λ z. h (target_is ∙ z)))

    pub start_away : (u ≡ t → ⊥) → false ≡ holds_start m s t c
    unfolding holds_start feeds
    start_away h = away (eqb (connection_at m c).kind immediate) (eqb (target_thread m c) t) (is_live s c) (source_beside m s t c) (ne_eqb (target_thread m c) t (λ z. h (target_is ∙ z)))

    -- and v the view of its source
    module _ (h : u ≡ t) (v : ThreadView) (p : v ≡ source_of m s x) where
      at_target : eqb (target_thread m c) t ≡ true
      at_target = eq-eqb (target_thread m c) t (sym target_is ∙ h)

      source_is : v ≡ thread_view_of m s (source_thread m c)
      unfolding source_of output_owner
      source_is = p ∙ rw e

      pub dispatch_held : not (eqb x.kind delayed && live) ≡ false → due_with_job v ≡ holds_dispatch m s t c
      unfolding holds_dispatch feeds thread_view_of due_of code_of dispatch_time job_of
      dispatch_held z = rw source_is (on (eqb (connection_at m c).kind delayed) (eqb (target_thread m c) t) (is_live s c) (source_due m s c) (rw (e, f) at z) at_target)

      pub start_held : (j : Job) → j ≡ job_of s.threads t → not (eqb x.kind immediate && live) ≡ false → (beside_runs v j || beside_comes v j) ≡ holds_start m s t c
      unfolding holds_start feeds thread_view_of runs_beside comes_beside is_unfinished is_waiting is_active code_of dispatch_time job_of
      start_held j q z = rw (source_is, q) (on (eqb (connection_at m c).kind immediate) (eqb (target_thread m c) t) (is_live s c) (source_beside m s t c) (rw (e, f) at z) at_target)

-- ---- the thread that a connection comes from, where it feeds thread t
shut : (a b l : Bool) → not (a && l) ≡ true → (a && (b && l)) ≡ false
shut true b true h = cc
shut true true false h = refl
shut true false false h = refl
shut false b l h = refl

elsewhere : (a b l : Bool) → b ≡ false → (a && (b && l)) ≡ false
elsewhere a true l h = cc
elsewhere true false l h = refl
elsewhere false false l h = refl

fed : (a b l : Bool) → not (a && l) ≡ false → b ≡ true → (a && (b && l)) ≡ true
fed true true true h e = refl
fed true true false h e = cc
fed false true l h e = cc
fed a false l h e = cc

module _ (m : Timing) (s : State) (kind t c : ℕ) (x : Connection) (live : Bool) (e : x ≡ connection_at m c) (f : live ≡ is_live s c) where
  pub feeder_off : not (eqb x.kind kind && live) ≡ true → None ≡ feeder m s kind t c
  unfolding feeder feeds
  feeder_off h = rw (shut (eqb (connection_at m c).kind kind) (eqb (target_thread m c) t) (is_live s c) (rw (e, f) at h))

  module _ (i o u : ℕ) (g : i ≡ x.target) (k : o ≡ input_owner m i) (w : u ≡ o) where
    pub feeder_away : (u ≡ t → ⊥) → None ≡ feeder m s kind t c
    unfolding feeder feeds
    feeder_away h = rw (elsewhere (eqb (connection_at m c).kind kind) (eqb (target_thread m c) t) (is_live s c) (ne_eqb (target_thread m c) t (λ z. h (target_is m s t c x live e f i o u g k w ∙ z))))

    pub feeder_is : u ≡ t → (v : ThreadView) → v ≡ source_of m s x → not (eqb x.kind kind && live) ≡ false → Some v ≡ feeder m s kind t c
    unfolding feeder feeds
    feeder_is h v p z =
        rw (source_is m s t c x live e f i o u g k w h v p, fed (eqb (connection_at m c).kind kind) (eqb (target_thread m c) t) (is_live s c) (rw (e, f) at z) (at_target m s t c x live e f i o u g k w h v p))

-- what thread t waits for, where connection c feeds it and where it does not
module _ (m : Timing) (s : State) (t c : ℕ) where
  one_view : (kind : ℕ) (v : ThreadView) (b : Bool) → feeds m s kind t c ≡ b → cond b (Some (thread_view_of m s (source_thread m c))) None ≡ Some v → (feeds m s kind t c ≡ true) × (v ≡ thread_view_of m s (source_thread m c))
  one_view kind v true q e = (q, sym (ap (λ (o : Option ThreadView). unwrap_or o v) e))
  one_view kind v false q e = cc

  no_view : (kind : ℕ) (b : Bool) → feeds m s kind t c ≡ b → cond b (Some (thread_view_of m s (source_thread m c))) None ≡ None → feeds m s kind t c ≡ false
  no_view kind true q e = cc
  no_view kind false q e = q

  pub dispatch_fed : (v : ThreadView) → feeder m s delayed t c ≡ Some v → due_with_job v ≡ holds_dispatch m s t c
  unfolding feeder holds_dispatch thread_view_of due_of code_of dispatch_time job_of
  dispatch_fed v e = let z = one_view delayed v (feeds m s delayed t c) refl e in rw (z.1, z.0)

  pub dispatch_unfed : feeder m s delayed t c ≡ None → false ≡ holds_dispatch m s t c
  unfolding feeder holds_dispatch
  dispatch_unfed e = rw (no_view delayed (feeds m s delayed t c) refl e)

  pub start_fed : (v : ThreadView) → feeder m s immediate t c ≡ Some v → (j : Job) → j ≡ job_of s.threads t → (beside_runs v j || beside_comes v j) ≡ holds_start m s t c
  unfolding feeder holds_start thread_view_of runs_beside comes_beside is_unfinished is_waiting is_active code_of dispatch_time job_of
  start_fed v e j q = let z = one_view immediate v (feeds m s immediate t c) refl e in rw (z.1, z.0, q)

  pub dispatch_by_feeder : (o : Option ThreadView) (r : Bool) → o ≡ feeder m s delayed t c → MatchOption o (r ≡ false) (λ v. r ≡ due_with_job v) → r ≡ holds_dispatch m s t c
  dispatch_by_feeder None r e h = h ∙ dispatch_unfed (sym e)
  dispatch_by_feeder (Some v) r e h = h ∙ dispatch_fed v (sym e)

  pub start_unfed : feeder m s immediate t c ≡ None → false ≡ holds_start m s t c
  unfolding feeder holds_start
  start_unfed e = rw (no_view immediate (feeds m s immediate t c) refl e)

  pub start_by_feeder : (o : Option ThreadView) (r : Bool) (Q : ThreadView → Type 0) → o ≡ feeder m s immediate t c → MatchOption o (r ≡ false) Q →
      ((v : ThreadView) → Q v → r ≡ (beside_runs v (job_of s.threads t) || beside_comes v (job_of s.threads t))) → r ≡ holds_start m s t c
  start_by_feeder None r Q e h q = h ∙ start_unfed (sym e)
  start_by_feeder (Some v) r Q e h q = q v h ∙ start_fed v (sym e) (job_of s.threads t) refl

-- ---- DISPATCH, step by step
module _ (m : Timing) (s : State) (t : ℕ) (v : ThreadView) (f : v ≡ thread_view_of m s t) where
  pub dispatch_unready : (a : Bool) → a ≡ dispatches_alone v → not a ≡ true → false ≡ can_dispatch m s t
  dispatch_unready a e h = go (dispatches_alone v) (ap not (sym e) ∙ h) (dispatch_by m s t v f (awaits_delayed m s t) refl)
    where
      go : (b : Bool) → not b ≡ true → (b && not (awaits_delayed m s t)) ≡ can_dispatch m s t → false ≡ can_dispatch m s t
      go b g w = rw (not-true b g) at w

  pub dispatch_ready : (a w : Bool) → a ≡ dispatches_alone v → not a ≡ false → w ≡ awaits_delayed m s t → not w ≡ can_dispatch m s t
  dispatch_ready a w e h p = go (dispatches_alone v) (ap not (sym e) ∙ h) (dispatch_by m s t v f w p)
    where
      go : (b : Bool) → not b ≡ false → (b && not w) ≡ can_dispatch m s t → not w ≡ can_dispatch m s t
      go b g z = rw (not-false b g) at z

-- ---- START
-- its processor, which is one for all threads
pub processor_by : (m : Timing) (s : State) (t n k : ℕ) {b : Bool} → k ≡ 2 → ((x : Timing) (u : ℕ) → b ≡ is_free x s u) → not b ≡ step_fails m s t n k
unfolding step_fails
processor_by m s t n k e h = rw (e, h m t)

-- the steps of START's test: each is looked at where those before it passed
module _ (m : Timing) (s : State) (t n : ℕ) (a : Bool) (e : a ≡ step_fails m s t n 1) where
  pub at_state : a ≡ true → 1 ≡ start_fault m s t n
  unfolding step_fails
  at_state h = sym (fault_state m s t n (not-true _ (sym e ∙ h)))

  module _ (h : a ≡ false) (b : Bool) (f : b ≡ step_fails m s t n 2) where
    ready : is_ready m s t ≡ true
    unfolding step_fails
    ready = not-false _ (sym e ∙ h)

    pub at_processor : b ≡ true → 2 ≡ start_fault m s t n
    unfolding step_fails
    at_processor g = sym (fault_processor m s t n ready (not-true _ (sym f ∙ g)))

    module _ (g : b ≡ false) (c : Bool) (k : c ≡ step_fails m s t n 3) where
      free : is_free m s t ≡ true
      unfolding step_fails
      free = not-false _ (sym f ∙ g)

      pub at_connections : c ≡ true → 3 ≡ start_fault m s t n
      unfolding step_fails
      at_connections w = sym (fault_connections m s t n ready free (sym k ∙ w))

      module _ (w : c ≡ false) (d : Bool) (l : d ≡ step_fails m s t n 4) where
        pub at_length : d ≡ true → 4 ≡ start_fault m s t n
        unfolding step_fails
        at_length i = sym (fault_length m s t n ready free (sym k ∙ w) (not-true _ (sym l ∙ i)))

        pub at_none : d ≡ false → 0 ≡ start_fault m s t n
        unfolding step_fails
        at_none i = sym (fault_none m s t n ready free (sym k ∙ w) (not-false _ (sym l ∙ i)))

-- ---- a calm thread, from what the code reads of it
pub calm_by : (m : Timing) (s : State) (t : ℕ) (k : Clock) (x : Thread) (j : Job) (b : Bool) → k ≡ s.clock → x ≡ thread_at m t → j ≡ job_of s.threads t →
    b ≡ may_act k x j → not b ≡ true → thread_busy m s t ≡ false
calm_by m s t k x j b e f g h z = calm m s t (rw (← e, ← f, ← g) (sym h ∙ not-true b z))
