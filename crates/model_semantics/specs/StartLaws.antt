-- START's test: its steps one by one, and that none fails exactly where document 01 enables START.
use Rattle.std.specs.Prelude.{◌≡◌, Bool, cond, ◌&&◌, ℕ, ◌<◌, ◌≤◌, ltb, leb}
use Rattle.std.proofs.Math.Path.{refl}
use Rattle.std.proofs.Common.{sym, ◌∙◌}
use Rattle.std.proofs.Math.Bool.{true, false, not}
use Rattle.std.proofs.lemmas.Bool.{false≢true}
use Rattle.std.proofs.Math.Dec.{eqb}
use borrow.Author.Tests.{eqb-true, ltb-true, leb-true, not-true}
use Rattle.model_format.specs.declared.Timing.{Timing}
use Rattle.model_format.specs.Model.{thread_at}
use Rattle.model_semantics.specs.declared.State.{State}
use Rattle.model_semantics.specs.State.{none, code_of, cpu_for}
use Rattle.model_semantics.specs.Tests.{waiting_execution, is_due, awaits_immediate, is_ready, is_free, is_allowed, start_fault, can_start, start_enabled}

-- no step fails: what each says
pub record Passed (m : Timing) (s : State) (t n : ℕ) : Type 0 where
  pub there : t < m.threads
  pub waits : code_of s t ≡ waiting_execution
  pub undue : is_due m s t ≡ false
  pub free : cpu_for m s t ≡ none
  pub unheld : awaits_immediate m s t ≡ false
  pub least : (thread_at m t).bcet.0 ≤ n
  pub most : n ≤ (thread_at m t).wcet.0

both : (a b : Bool) → (a && b) ≡ true → (a ≡ true) × (b ≡ true)
both true true e = (refl, refl)
both true false e = absurd (false≢true e)
both false b e = absurd (false≢true e)

module _ (m : Timing) (s : State) (t n : ℕ) where
  -- ---- the first step that fails
  pub fault_state : is_ready m s t ≡ false → start_fault m s t n ≡ 1
  unfolding start_fault
  fault_state h = rw h

  module _ (h : is_ready m s t ≡ true) where
    pub fault_processor : is_free m s t ≡ false → start_fault m s t n ≡ 2
    unfolding start_fault
    fault_processor g = rw (h, g)

    module _ (g : is_free m s t ≡ true) where
      pub fault_connections : awaits_immediate m s t ≡ true → start_fault m s t n ≡ 3
      unfolding start_fault
      fault_connections w = rw (h, g, w)

      module _ (w : awaits_immediate m s t ≡ false) where
        pub fault_length : is_allowed m t n ≡ false → start_fault m s t n ≡ 4
        unfolding start_fault
        fault_length k = rw (h, g, w, k)

        pub fault_none : is_allowed m t n ≡ true → start_fault m s t n ≡ 0
        unfolding start_fault
        fault_none k = rw (h, g, w, k)

  -- ---- START at 0 and otherwise
  pub start_unready : is_ready m s t ≡ false → can_start m s t n ≡ false
  start_unready h = rw (fault_state h)

  -- the test at 0 is document 01's conjunction
  pub start_sentence : can_start m s t n ≡ start_enabled m s t n
  unfolding start_fault start_enabled
  start_sentence = go (ltb t m.threads) (eqb (code_of s t) waiting_execution) (is_free m s t) (is_due m s t) (is_allowed m t n) (awaits_immediate m s t)
    where
      go : (a b f d x w : Bool) → eqb (cond (not (a && (b && not d))) 1 (cond (not f) 2 (cond w 3 (cond (not x) 4 0)))) 0 ≡ (a && (b && (f && (not d && (x && not w)))))
      go false b f d x w = refl
      go true false f d x w = refl
      go true true false true x w = refl
      go true true false false x w = refl
      go true true true true x w = refl
      go true true true false true true = refl
      go true true true false true false = refl
      go true true true false false true = refl
      go true true true false false false = refl

  pub start_passed : can_start m s t n ≡ true → Passed m s t n
  unfolding start_enabled
  start_passed e =
      let (there, r) = both (ltb t m.threads) _ (sym start_sentence ∙ e) in
      let (waits, r) = both (eqb (code_of s t) waiting_execution) _ r in
      let (free, r) = both (is_free m s t) _ r in
      let (undue, r) = both (not (is_due m s t)) _ r in
      let (allowed, unheld) = both (is_allowed m t n) _ r in
      let (least, most) = both (leb (thread_at m t).bcet.0 n) _ allowed in
      record {
        there = ltb-true t m.threads there;
        waits = eqb-true (code_of s t) waiting_execution waits;
        undue = not-true (is_due m s t) undue;
        free = eqb-true (cpu_for m s t) none free;
        unheld = not-true (awaits_immediate m s t) unheld;
        least = leb-true (thread_at m t).bcet.0 n least;
        most = leb-true n (thread_at m t).wcet.0 most;
      }
