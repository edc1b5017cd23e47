-- Counts that stay small, so that no sum of them wraps.
use Rattle.std.specs.Prelude.{Bool, cond, ◌&&◌, ℕ, zero, suc, ◌+◌, ◌*◌, ◌<◌, ◌≤◌}
use Rattle.std.proofs.Math.Bool.{true, false}
use Rattle.std.proofs.Common.{suc-mul}
use native.Mathlib.Omega.{arith}
use Rattle.std.proofs.Math.Dec.{eqb}
use Rattle.numbers.specs.Lists.{fold_below}
use Rattle.model_format.specs.declared.Timing.{Timing}
use Rattle.model_format.specs.declared.Model.{Model}
use Rattle.model_format.specs.Model.{thread_at, transition_at, is_critical, immediate, delayed, is_kind, source_thread}
use Rattle.model_format.specs.WellFormed.{GoodTiming, WellFormed}
use Rattle.translation_sizes.specs.declared.Counts.{Counts}
use Rattle.translation_sizes.specs.Counts.{counts, nothing, ◌and◌, count_below}
use Rattle.translation_sizes.specs.Items.{stop_counts, thread_counts, input_counts, connection_counts, switch_counts, earlier_at, earlier_counts, sent_at, sent_counts, transition_counts}

-- at most n of each
pub record AtMost (n : ℕ) (x : Counts) : Type 0 where
  pub rules : x.rules ≤ n
  pub clauses : x.clauses ≤ n
  pub atoms : x.atoms ≤ n
  pub updates : x.updates ≤ n

-- what an item adds, what all items of a kind do, and more than all items together do
abbrev pub item_most : ℕ
item_most = 4096

abbrev pub kind_most : ℕ
kind_most = item_most * item_most

abbrev pub most : ℕ
most = 16 * kind_most

abbrev pub Small : Counts → Type 0
Small x = AtMost most x

pub at_most : (n k : ℕ) (x : Counts) → n ≤ k → AtMost n x → AtMost k x
at_most n k x l h = record { rules = omega (arith, h.rules); clauses = omega (arith, h.clauses); atoms = omega (arith, h.atoms); updates = omega (arith, h.updates) }

pub and_most : (n k : ℕ) (x y : Counts) → AtMost n x → AtMost k y → AtMost (n + k) (x and y)
and_most n k x y h l = record {
  rules = omega (arith, h.rules, l.rules);
  clauses = omega (arith, h.clauses, l.clauses);
  atoms = omega (arith, h.atoms, l.atoms);
  updates = omega (arith, h.updates, l.updates);
}

pub below_most : (n c : ℕ) (f : ℕ → Counts) → ((i : ℕ) → i < n → AtMost c (f i)) → AtMost (n * c) (count_below n f)
unfolding fold_below
below_most zero c f h = record { rules = omega arith; clauses = omega arith; atoms = omega arith; updates = omega arith }
below_most (suc n) c f h =
    at_most (n * c + c) (suc n * c) (count_below n f and f n) (omega (arith, suc-mul n c)) (and_most (n * c) c (count_below n f) (f n) (below_most n c f (λ i l. h i (omega arith))) (h n (omega arith)))

-- of few items
pub kind_most_lem : (n : ℕ) (f : ℕ → Counts) → n ≤ item_most → ((i : ℕ) → i < n → AtMost item_most (f i)) → AtMost kind_most (count_below n f)
kind_most_lem n f l h = at_most (n * item_most) kind_most (count_below n f) (omega arith) (below_most n item_most f h)

-- ---- what an item adds
any_most : (b : Bool) (n : ℕ) (x : Counts) → AtMost n x → AtMost n (cond b x nothing)
any_most true n x h = h
any_most false n x h = record { rules = omega arith; clauses = omega arith; atoms = omega arith; updates = omega arith }

stop_most : (critical : Bool) → AtMost 6 (cond critical nothing stop_counts)
stop_most true = record { rules = omega arith; clauses = omega arith; atoms = omega arith; updates = omega arith }
stop_most false = record { rules = omega arith; clauses = omega arith; atoms = omega arith; updates = omega arith }

module _ (m : Timing) where
  pub thread_most : (t : ℕ) → AtMost item_most (thread_counts m t)
  unfolding thread_counts
  thread_most t =
      let s = stop_most (is_critical (thread_at m t)) in
      record { rules = omega (arith, s.rules); clauses = omega (arith, s.clauses); atoms = omega (arith, s.atoms); updates = omega (arith, s.updates) }

  pub connection_most : (c : ℕ) → AtMost item_most (connection_counts m c)
  unfolding connection_counts
  connection_most c = go (is_kind m immediate c) (is_kind m delayed c)
    where
      go : (a b : Bool) → AtMost item_most (cond a (counts 0 2 9 2) (cond b (counts 0 1 4 2) nothing))
      go true b = record { rules = omega arith; clauses = omega arith; atoms = omega arith; updates = omega arith }
      go false b = any_most b item_most (counts 0 1 4 2) (record { rules = omega arith; clauses = omega arith; atoms = omega arith; updates = omega arith })

  pub input_most : (i : ℕ) → AtMost item_most (input_counts m i)
  unfolding input_counts
  input_most i = record { rules = omega arith; clauses = omega arith; atoms = omega arith; updates = omega arith }

  pub sent_one : (t c : ℕ) → AtMost 1 (sent_at m t c)
  unfolding sent_at
  sent_one t c = any_most (is_kind m immediate c && eqb (source_thread m c) t) 1 (counts 0 0 0 1) (record { rules = omega arith; clauses = omega arith; atoms = omega arith; updates = omega arith })

  module _ (g : GoodTiming m) where
    pub switch_most : (q : ℕ) → AtMost item_most (switch_counts m q)
    unfolding switch_counts
    switch_most q =
        let t = g.threads in
        let c = g.connections in
        record { rules = omega arith; clauses = omega arith; atoms = omega arith; updates = omega arith }

    pub sent_most : (t : ℕ) → AtMost 1024 (sent_counts m t)
    unfolding sent_counts
    sent_most t = at_most (m.connections * 1) 1024 (sent_counts m t) (let c = g.connections in omega arith) (below_most m.connections 1 (sent_at m t) (λ c l. sent_one t c))

module _ (m : Model) (w : WellFormed m) where
  pub earlier_one : (t from e : ℕ) → e < m.behavior.transitions → AtMost 4 (earlier_at m.behavior t from e)
  unfolding earlier_at
  earlier_one t from e l =
      let a = w.behavior.atoms e l in
      let x = transition_at m.behavior e in
      any_most (eqb x.thread t && eqb x.from from) 4 (counts 0 1 x.atoms 0) (record { rules = omega arith; clauses = omega arith; atoms = omega arith; updates = omega arith })

  pub earlier_most : (t from k : ℕ) → k < m.behavior.transitions → AtMost 256 (earlier_counts m.behavior t from k)
  unfolding earlier_counts
  earlier_most t from k l =
      at_most (k * 4) 256 (earlier_counts m.behavior t from k) (let n = w.behavior.transitions in omega arith) (below_most k 4 (earlier_at m.behavior t from) (λ e i. earlier_one t from e (omega arith)))

  pub transition_most : (k : ℕ) → k < m.behavior.transitions → AtMost item_most (transition_counts m k)
  unfolding transition_counts
  transition_most k l =
      let x = transition_at m.behavior k in
      let a = w.behavior.atoms k l in
      let s = w.behavior.assignments k l in
      let e = earlier_most x.thread x.from k l in
      let c = sent_most m.timing w.timing x.thread in
      record {
        rules = omega (arith, e.rules, c.rules);
        clauses = omega (arith, e.clauses, c.clauses);
        atoms = omega (arith, e.atoms, c.atoms);
        updates = omega (arith, e.updates, c.updates);
      }

-- ---- all items of a kind
module _ (m : Timing) (g : GoodTiming m) where
  pub threads_most : AtMost kind_most (count_below m.threads (thread_counts m))
  threads_most = let n = g.threads in kind_most_lem m.threads (thread_counts m) (omega arith) (λ t l. thread_most m t)

  pub inputs_most : AtMost kind_most (count_below m.inputs (input_counts m))
  inputs_most = let n = g.inputs in kind_most_lem m.inputs (input_counts m) (omega arith) (λ i l. input_most m i)

  pub connections_most : AtMost kind_most (count_below m.connections (connection_counts m))
  connections_most = let n = g.connections in kind_most_lem m.connections (connection_counts m) (omega arith) (λ c l. connection_most m c)

  pub switches_most : AtMost kind_most (count_below m.switches (switch_counts m))
  switches_most = let n = g.switches in kind_most_lem m.switches (switch_counts m) (omega arith) (λ q l. switch_most m g q)

module _ (m : Model) (w : WellFormed m) where
  pub transitions_most : AtMost kind_most (count_below m.behavior.transitions (transition_counts m))
  transitions_most = let n = w.behavior.transitions in kind_most_lem m.behavior.transitions (transition_counts m) (omega arith) (λ k l. transition_most m w k l)
