-- What the end of a job and TICK leave, and what they write of codes and processor; codes stored.
use Rattle.std.specs.Prelude.{◌≡◌, refl, Bool, true, false, cond, ℕ, zero, suc, ◌<◌, length, replicate}
use Rattle.std.proofs.Common.{arith, lt-ltb}
use Rattle.std.proofs.Math.Decide.{dec_lt}
use Rattle.std.proofs.lemmas.List.{get_or-replicate}
use Rattle.numbers.specs.Lists.{item, fold_below, store}
use Rattle.numbers.specs.ListLaws.{item_past, item_store_same, item_store_other}
use Rattle.numbers.specs.Values.{one_more}
use Rattle.model_format.specs.declared.Timing.{Timing}
use Rattle.model_format.specs.Model.{max_threads}
use Rattle.model_semantics.specs.declared.State.{State}
use Rattle.model_semantics.specs.State.{none, code_of, spent_of, now_of, with_cpu, with_code, with_job, with_spent}
use Rattle.model_semantics.specs.Tests.{waiting_mode, waiting_dispatch, runs, is_unfinished, has_job}
use Rattle.model_semantics.specs.Effects.{end_job}
use Rattle.model_semantics.specs.Machine.{start_state}

-- ---- the end of a job
pub end_now : (m : Timing) (s : State) (t code : ℕ) → now_of (end_job m s t code) ≡ now_of s
unfolding end_job with_job with_code with_cpu
end_now m s t code = go (runs (code_of s t))
  where
    go : (b : Bool) → now_of (cond b (with_cpu m s t none) s) ≡ now_of s
    go true = refl
    go false = refl

pub end_live : (m : Timing) (s : State) (t code : ℕ) → (end_job m s t code).live ≡ s.live
unfolding end_job with_job with_code with_cpu
end_live m s t code = go (runs (code_of s t))
  where
    go : (b : Bool) → (cond b (with_cpu m s t none) s).live ≡ s.live
    go true = refl
    go false = refl

pub end_cpu : (m : Timing) (s : State) (t code : ℕ) → (end_job m s t code).clock.cpu ≡ cond (runs (code_of s t)) none s.clock.cpu
unfolding end_job with_job with_code with_cpu
end_cpu m s t code = go (runs (code_of s t))
  where
    go : (b : Bool) → (cond b (with_cpu m s t none) s).clock.cpu ≡ cond b none s.clock.cpu
    go true = refl
    go false = refl

pub end_code : (m : Timing) (s : State) (t code : ℕ) → (end_job m s t code).threads.code ≡ store max_threads s.threads.code t code
unfolding end_job with_job with_code with_cpu
end_code m s t code = go (runs (code_of s t))
  where
    go : (b : Bool) → store max_threads (cond b (with_cpu m s t none) s).threads.code t code ≡ store max_threads s.threads.code t code
    go true = refl
    go false = refl

pub end_stays : (m : Timing) (s : State) (t code : ℕ) → let r = end_job m s t code in
    (r.threads.active ≡ s.threads.active) × (r.clock.phase ≡ s.clock.phase) × (r.clock.entered ≡ s.clock.entered)
unfolding end_job with_job with_code with_cpu
end_stays m s t code = go (runs (code_of s t))
  where
    go : (b : Bool) → let r = cond b (with_cpu m s t none) s in (r.threads.active ≡ s.threads.active) × (r.clock.phase ≡ s.clock.phase) × (r.clock.entered ≡ s.clock.entered)
    go true = (refl, refl, refl)
    go false = (refl, refl, refl)

-- ---- a code stored for thread t
module _ (s r : State) (t code : ℕ) (e : r.threads.code ≡ store max_threads s.threads.code t code) where
  pub code_there : t < max_threads → length s.threads.code ≡ max_threads → code_of r t ≡ code
  unfolding code_of
  code_there l z = rw e (item_store_same max_threads s.threads.code t code 0 l (omega arith))

  pub code_elsewhere : (u : ℕ) → (u ≡ t → ⊥) → code_of r u ≡ code_of s u
  unfolding code_of
  code_elsewhere u n = rw e (item_store_other max_threads s.threads.code t u code 0 n)

-- a thread at rest has no job
pub rest_idle : (b : Bool) → has_job (cond b waiting_dispatch waiting_mode) ≡ false
unfolding has_job is_unfinished
rest_idle true = refl
rest_idle false = refl

-- at the start all codes are 0
pub start_code : (m : Timing) (t : ℕ) → code_of (start_state m) t ≡ 0
unfolding start_state code_of
start_code m t = go (dec_lt t max_threads)
  where
    go : Dec (t < max_threads) → ◌≡◌ {A = ℕ} (item max_threads (replicate max_threads 0) t 0) 0
    go (yes l) = rw (lt-ltb t max_threads l) (get_or-replicate max_threads t 0 0 l)
    go (no l) = item_past max_threads (replicate max_threads 0) t 0 (omega arith)

-- ---- TICK, before the clock: code, processor, connections and Active stay
abbrev pub spent_by : State → ℕ → State
spent_by s n = fold_below n (λ t x. cond (runs (code_of s t)) (with_spent x t (one_more (spent_of s t))) x) s

pub spends : (s : State) (n : ℕ) → ((spent_by s n).threads.code ≡ s.threads.code) × ((spent_by s n).clock.cpu ≡ s.clock.cpu) × ((spent_by s n).live ≡ s.live) ×
    ((spent_by s n).threads.active ≡ s.threads.active)
unfolding fold_below with_spent
spends s zero = (refl, refl, refl, refl)
spends s (suc n) = go (runs (code_of s n)) (spent_by s n) (spends s n)
  where
    go : (b : Bool) (x : State) → (x.threads.code ≡ s.threads.code) × (x.clock.cpu ≡ s.clock.cpu) × (x.live ≡ s.live) × (x.threads.active ≡ s.threads.active) →
        let r = cond b (with_spent x n (one_more (spent_of s n))) x in
        (r.threads.code ≡ s.threads.code) × (r.clock.cpu ≡ s.clock.cpu) × (r.live ≡ s.live) × (r.threads.active ≡ s.threads.active)
    go true x k = k
    go false x k = k
