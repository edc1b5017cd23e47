-- What is noted while transitions and connections are passed over: for each thread and behaviour state the transitions so far, for each thread its
-- immediate connections so far.
use Rattle.std.specs.Prelude.{◌≡◌, cond, List, ℕ, ◌+◌, ◌*◌, ◌<◌, ◌≤◌, eqb, get_or, set, length, replicate}
use Rattle.std.proofs.Math.Path.{refl, sym}
use Rattle.std.proofs.Common.{◌∙◌, ap, arith, get_or-set_same, get_or-set_other}
use Rattle.std.proofs.Math.Decide.{ℕ_discrete}
use Rattle.std.proofs.Math.ListN.{length-set}
use Rattle.std.proofs.lemmas.List.{length-replicate, get_or-replicate}
use borrow.Author.Tests.{eq-eqb, ne_eqb}
use Rattle.numbers.specs.ListLaws.{fold_next, fold_zero}
use Rattle.model_format.specs.declared.Connection.{Connection}
use Rattle.model_format.specs.declared.Transition.{Transition}
use Rattle.model_format.specs.declared.Timing.{Timing}
use Rattle.model_format.specs.declared.Behavior.{Behavior}
use Rattle.model_format.specs.declared.Model.{Model}
use Rattle.model_format.specs.Model.{max_threads, connection_at, transition_at, output_owner, immediate}
use Rattle.model_format.specs.WellFormed.{GoodTiming, WellFormed}
use Rattle.translation_sizes.specs.declared.Counts.{Counts}
use Rattle.translation_sizes.specs.Counts.{counts, nothing, ◌and◌, count_below}
use Rattle.translation_sizes.specs.CountLaws.{same_counts, and_nothing}
use Rattle.translation_sizes.specs.Items.{earlier_at, earlier_counts, sent_at, sent_counts, transition_counts}
use Rattle.table_counts.specs.Bounds.{AtMost, earlier_most, below_most, sent_one}

-- ---- transitions: how many from a behaviour state of a thread, at its place; and how many atoms they have, as far behind as there are places
abbrev pub states : ℕ
states = 8

abbrev pub places : ℕ
places = max_threads * states

abbrev pub place_of : Transition → ℕ
place_of x = x.thread * states + x.from

pub record Noted (b : Behavior) (k : ℕ) (l : List ℕ) : Type 0 where
  pub size : length l ≡ 2 * places
  pub each : (t from : ℕ) → t < max_threads → from < states → counts 0 (get_or l (t * states + from) 0) (get_or l (places + (t * states + from)) 0) 0 ≡ earlier_counts b t from k

-- nothing noted yet
abbrev pub blank : ℕ → List ℕ
blank n = replicate n 0

blank_length : (n : ℕ) → length (blank n) ≡ n
blank_length n = length-replicate {A = ℕ} n 0

blank_at : (n i : ℕ) → i < n → get_or (blank n) i 0 ≡ 0
blank_at n i h = get_or-replicate {A = ℕ} n i 0 0 h

pub noted_none : (b : Behavior) → Noted b 0 (blank (2 * places))
unfolding earlier_counts
noted_none b = record {
  size = blank_length (2 * places);
  each = λ t from h l. same_counts refl (blank_at (2 * places) (t * states + from) (omega arith)) (blank_at (2 * places) (places + (t * states + from)) (omega arith)) refl ∙ sym (fold_zero (λ i y. y and earlier_at b t from i) nothing);
}

module _ (m : Model) (w : WellFormed m) (k : ℕ) (h : k < m.behavior.transitions) {x : Transition} (e : x ≡ transition_at m.behavior k) {l : List ℕ} (n : Noted m.behavior k l) where
  thread_there : x.thread < max_threads
  thread_there = let a : x.thread < m.timing.threads = rw e (w.behavior.thread k h) in let c = w.timing.threads in omega arith

  state_there : x.from < states
  state_there = rw e (w.behavior.from k h)

  here : counts 0 (get_or l (place_of x) 0) (get_or l (places + place_of x) 0) 0 ≡ earlier_counts m.behavior x.thread x.from k
  here = n.each x.thread x.from thread_there state_there

  -- at place p
  pub noted_few : {p : ℕ} → p ≡ place_of x → (get_or l p 0 ≤ 256) × (get_or l (places + p) 0 ≤ 256)
  noted_few a =
      let few : AtMost 256 (counts 0 (get_or l (place_of x) 0) (get_or l (places + place_of x) 0) 0) = rw here (earlier_most m w x.thread x.from k h) in
      rw a (few.clauses, few.atoms)

  -- transition k noted
  abbrev after : List ℕ
  after = set (set l (place_of x) (get_or l (place_of x) 0 + 1)) (places + place_of x) (get_or l (places + place_of x) 0 + x.atoms)

  after_place : get_or after (place_of x) 0 ≡ get_or l (place_of x) 0 + 1
  after_place =
      let a = thread_there in
      let c = state_there in
      let z = n.size in
      get_or-set_other (set l (place_of x) _) (places + place_of x) (place_of x) _ 0 (λ q. omega arith) ∙ get_or-set_same l (place_of x) _ 0 (omega arith)

  after_atoms : get_or after (places + place_of x) 0 ≡ get_or l (places + place_of x) 0 + x.atoms
  after_atoms =
      let a = thread_there in
      let c = state_there in
      let z = n.size in
      get_or-set_same (set l (place_of x) _) (places + place_of x) _ 0 (omega (arith, length-set l (place_of x) (get_or l (place_of x) 0 + 1)))

  after_other : (i : ℕ) → (i ≡ place_of x → ⊥) → (i ≡ places + place_of x → ⊥) → get_or after i 0 ≡ get_or l i 0
  after_other i a c = get_or-set_other (set l (place_of x) _) (places + place_of x) i _ 0 c ∙ get_or-set_other l (place_of x) i _ 0 a

  -- the transitions from its state of its thread are one more, and the others as many as they were
  counted_here : counts 0 (get_or after (place_of x) 0) (get_or after (places + place_of x) 0) 0 ≡ earlier_counts m.behavior x.thread x.from k and earlier_at m.behavior x.thread x.from k
  unfolding earlier_at
  counted_here = rw (after_place, after_atoms, ← here, ← e, eq-eqb x.thread x.thread refl, eq-eqb x.from x.from refl)

  counted_other : (t from : ℕ) → t < max_threads → from < states → (t * states + from ≡ place_of x → ⊥) → earlier_at m.behavior t from k ≡ nothing →
      counts 0 (get_or after (t * states + from) 0) (get_or after (places + (t * states + from)) 0) 0 ≡ earlier_counts m.behavior t from k and earlier_at m.behavior t from k
  counted_other t from a c d q =
      let f = thread_there in
      let g = state_there in
      rw (after_other (t * states + from) d (λ y. omega arith), after_other (places + (t * states + from)) (λ y. omega arith) (λ y. d (omega arith)), q, n.each t from a c)
      (sym (and_nothing (earlier_counts m.behavior t from k)))

  other_thread : (t from : ℕ) → (t ≡ x.thread → ⊥) → earlier_at m.behavior t from k ≡ nothing
  unfolding earlier_at
  other_thread t from y = rw (← e, ne_eqb x.thread t (λ q. y (sym q)))

  other_state : (t from : ℕ) → t ≡ x.thread → (from ≡ x.from → ⊥) → earlier_at m.behavior t from k ≡ nothing
  unfolding earlier_at
  other_state t from y z = rw (← e, eq-eqb x.thread t (sym y), ne_eqb x.from from (λ q. z (sym q)))

  counted : (t from : ℕ) → t < max_threads → from < states → Dec (t ≡ x.thread) → Dec (from ≡ x.from) →
      counts 0 (get_or after (t * states + from) 0) (get_or after (places + (t * states + from)) 0) 0 ≡ earlier_counts m.behavior t from k and earlier_at m.behavior t from k
  counted t from a c (yes y) (yes z) = rw (y, z) counted_here
  counted t from a c (yes y) (no z) = let g = state_there in counted_other t from a c (λ q. z (omega arith)) (other_state t from y z)
  counted t from a c (no y) d = let g = state_there in counted_other t from a c (λ q. y (omega arith)) (other_thread t from y)

  noted_after : Noted m.behavior (k + 1) after
  unfolding earlier_counts
  noted_after = record {
    size = length-set (set l (place_of x) (get_or l (place_of x) 0 + 1)) (places + place_of x) _ ∙ (length-set l (place_of x) _ ∙ n.size);
    each = λ t from a c. counted t from a c (ℕ_discrete t x.thread) (ℕ_discrete from x.from) ∙ sym (fold_next k (λ i y. y and earlier_at m.behavior t from i) nothing);
  }

  -- as the code has it: what stood at place p, and behind the places, and the list with the one stored, and then the other
  pub noted_next : {p seen atoms : ℕ} {y r : List ℕ} → p ≡ place_of x → seen ≡ get_or l p 0 → atoms ≡ get_or l (places + p) 0 → y ≡ set l p (seen + 1) → r ≡ set y (places + p) (atoms + x.atoms) →
      Noted m.behavior (k + 1) r
  noted_next a c d f g = rw (g, f, c, d, a) noted_after

-- ---- connections
pub record Sent (m : Timing) (c : ℕ) (l : List ℕ) : Type 0 where
  pub size : length l ≡ max_threads
  pub each : (t : ℕ) → t < max_threads → counts 0 0 0 (get_or l t 0) ≡ count_below c (sent_at m t)

pub sent_none : (m : Timing) → Sent m 0 (blank max_threads)
sent_none m = record {
  size = blank_length max_threads;
  each = λ t h. same_counts refl refl refl (blank_at max_threads t h) ∙ sym (fold_zero (λ i y. y and sent_at m t i) nothing);
}

module _ (m : Timing) (g : GoodTiming m) (c : ℕ) (h : c < m.connections) {x : Connection} (e : x ≡ connection_at m c) {l : List ℕ} (n : Sent m c l) where
  next : (t : ℕ) → count_below c (sent_at m t) and sent_at m t c ≡ count_below (c + 1) (sent_at m t)
  next t = sym (fold_next c (λ i y. y and sent_at m t i) nothing)

  -- a connection that is not immediate
  pub sent_kept : (x.kind ≡ immediate → ⊥) → Sent m (c + 1) l
  sent_kept k = record { size = n.size; each = λ t a. n.each t a ∙ (sym (and_nothing (count_below c (sent_at m t))) ∙ (ap (λ (y : Counts). count_below c (sent_at m t) and y) (sym (none t)) ∙ next t)) }
    where
      none : (t : ℕ) → sent_at m t c ≡ nothing
      none t = unfold sent_at in (rw (← e, ne_eqb x.kind immediate k))

  -- one from thread o
  module _ {o : ℕ} (q : o ≡ output_owner m x.source) (k : x.kind ≡ immediate) where
    owner_there : o < max_threads
    owner_there = let a : x.source < m.outputs = rw e (g.source c h) in let b : o < m.threads = rw q (g.output x.source a) in let t = g.threads in omega arith

    pub sent_few : get_or l o 0 ≤ 1024
    sent_few =
        let f : AtMost (c * 1) (counts 0 0 0 (get_or l o 0)) = rw (n.each o owner_there) (below_most c 1 (sent_at m o) (λ i b. sent_one m o i)) in
        let a = f.updates in
        let b = g.connections in
        omega arith

    sent_here : (t : ℕ) → sent_at m t c ≡ cond (eqb o t) (counts 0 0 0 1) nothing
    unfolding sent_at
    sent_here t = rw (← e, eq-eqb x.kind immediate k, ← q)

    told : (t : ℕ) → t < max_threads → Dec (t ≡ o) → counts 0 0 0 (get_or (set l o (get_or l o 0 + 1)) t 0) ≡ count_below c (sent_at m t) and sent_at m t c
    told t a (yes y) =
        let z = n.size in
        rw (y, sent_here o, eq-eqb o o refl, get_or-set_same l o (get_or l o 0 + 1) 0 (omega (arith, owner_there)), ← n.each o owner_there)
    told t a (no y) = rw (sent_here t, ne_eqb o t (λ r. y (sym r)), get_or-set_other l o t (get_or l o 0 + 1) 0 y, n.each t a) (sym (and_nothing (count_below c (sent_at m t))))

    pub sent_next : {sends : ℕ} {r : List ℕ} → sends ≡ get_or l o 0 → r ≡ set l o (sends + 1) → Sent m (c + 1) r
    sent_next f z = rw (z, f) (record { size = length-set l o _ ∙ n.size; each = λ t a. told t a (ℕ_discrete t o) ∙ next t })

pub sent_all : (m : Timing) {c : ℕ} {l : List ℕ} (n : ℕ) → c ≡ n → Sent m c l → Sent m n l
sent_all m n e h = rw (← e) h

-- ---- what transition k adds, by what is noted
module _ (m : Model) (w : WellFormed m) (k : ℕ) (h : k < m.behavior.transitions) {x : Transition} (e : x ≡ transition_at m.behavior k) {l s : List ℕ} (n : Noted m.behavior k l)
    (v : Sent m.timing m.timing.connections s) where
  pub transition_told : {p t earlier earlier_atoms sends atoms assignments : ℕ} {r : Counts} → p ≡ place_of x → t ≡ x.thread → earlier ≡ get_or l p 0 → earlier_atoms ≡ get_or l (places + p) 0 → sends ≡ get_or s t 0 →
      atoms ≡ x.atoms → assignments ≡ x.assignments → r ≡ counts 1 (4 + atoms + earlier) (4 + 2 * atoms + earlier_atoms) (4 + assignments + sends) → r ≡ transition_counts m k
  unfolding transition_counts sent_counts
  transition_told a b c d f i j q =
      q ∙ rw (c, d, f, i, j, a, b) (rw (← e, ← here m w k h e n, ← v.each x.thread (thread_there m w k h e n)) (same_counts (omega arith) (omega arith) (omega arith) (omega arith)))
