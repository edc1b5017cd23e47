-- The same laws of what is written into a lent slice from a place on, for callers who prove over these and hold no writer.
use Rattle.std.specs.Prelude.{◌≡◌, Bool, List, [], ◌∷◌, ◌++◌, ℕ, ◌<◌, ◌≤◌, length}
use Rattle.std.proofs.Common.{arith}
use Rattle.records.specs.Events.{request_kind, enter_kind, leave_kind}
use Rattle.model_format.specs.declared.Thread.{Thread}
use Rattle.model_format.specs.declared.Connection.{Connection}
use Rattle.model_format.specs.declared.ModeTransition.{ModeTransition}
use Rattle.model_format.specs.declared.Timing.{Timing}
use Rattle.model_format.specs.Model.{thread_at, connection_at, switch_at, in_mode}
use Rattle.model_semantics.specs.State.{none}
use Rattle.model_semantics.specs.Effects.{in_both}
use Rattle.table_format.specs.declared.Atom.{Atom}
use Rattle.table_format.specs.declared.Update.{Update}
use Rattle.table_format.specs.declared.Record.TheVariants.{Head, Clause}
use Rattle.table_format.specs.Variables.{now_var, mode_var, phase_var, pending_var, entered_var, active_var, flag_var}
use Rattle.table_format.specs.Format.{record_to}
use Rattle.translation.specs.Shown.{bit}
use Rattle.translation.specs.Parts.{constant, variable, equals, differs, multiple_of, plain, copied, update, set_to, stamped}
use Rattle.translation.specs.Rules.{phase_is, active_updates, flag_updates, request_rules, enter_rules, leave_rules, request_granted, request_ignored, active_update, flag_update, enter_clauses, enter_updates, leave_clauses, leave_updates}
use Rattle.table_writer.specs.Wrote.{Wrote}
use Rattle.table_writer.specs.Lists.{Counted, joins_atoms, joins_clauses, joins_updates, joins_rules, wrote_both, wrote_then, wrote_clause, wrote_rule, wrote_still}
use Rattle.table_writer.specs.WroteRules.{WroteAtoms, WroteClauses, WroteUpdates, WroteRules}

-- v is the variable, b the test and n its number
module _ {d e : List ℕ} {at p v n : ℕ} {b : Bool} (w : WroteUpdates d at (set_to v n ∷ []) e p) (g : n ≡ bit b) (m : Timing) where
  pub active_wrote : (mode t : ℕ) (x : Thread) → v ≡ active_var t → x ≡ thread_at m t → b ≡ in_mode x.modes mode →
      WroteUpdates d at (active_update m mode t) e p
  active_wrote mode t x h i j = rw (← h, ← i, ← j, ← g) w

  pub flag_wrote : (old new c : ℕ) (x : Connection) → v ≡ flag_var c → x ≡ connection_at m c → b ≡ in_both x.modes old new →
      WroteUpdates d at (flag_update m old new c) e p
  flag_wrote old new c x h i j = rw (← h, ← i, ← j, ← g) w

-- ---- each rule from its parts
abbrev WroteHead : List ℕ → ℕ → ℕ → ℕ → List ℕ → ℕ → Type 0
WroteHead d at kind q e p = Wrote d at (record_to (Head (record { kind = kind; id = q; low = 0; high = 0 })) []) e p

module _ {d₁ d₂ d₃ : List ℕ} {at p₂ p₃ : ℕ} (h : Counted (length d₁)) where
  pub request_wrote : (q : ℕ) (m : Timing) (x : ModeTransition) → x ≡ switch_at m q →
      WroteRules d₁ at (stamped request_kind q (request_granted q x.from ∷ [])) d₂ p₂ → WroteRules d₂ p₂ (stamped request_kind q (request_ignored x.from ∷ [])) d₃ p₃ →
      WroteRules d₁ at (stamped request_kind q (request_rules m q)) d₃ p₃
  unfolding stamped request_rules
  request_wrote q m x e a b = rw (← e) (wrote_both joins_rules _ _ h a b)

  module _ {d₄ : List ℕ} {p₄ : ℕ} where
    pub enter_wrote : (q : ℕ) (m : Timing) (x : ModeTransition) → x ≡ switch_at m q → WroteHead d₁ at enter_kind q d₂ p₂ →
        WroteClauses d₂ p₂ (enter_clauses q x.h1.0) d₃ p₃ → WroteUpdates d₃ p₃ (enter_updates m x.from x.to) d₄ p₄ →
        WroteRules d₁ at (stamped enter_kind q (enter_rules m q)) d₄ p₄
    unfolding stamped enter_rules
    enter_wrote q m x e w c u = rw (← e) (wrote_rule _ _ _ h w (λ i. c) (λ i. u))

    pub leave_wrote : (q : ℕ) (m : Timing) (x : ModeTransition) → x ≡ switch_at m q → WroteHead d₁ at leave_kind q d₂ p₂ →
        WroteClauses d₂ p₂ (leave_clauses q x.h2.0) d₃ p₃ → WroteUpdates d₃ p₃ (leave_updates m x.to) d₄ p₄ →
        WroteRules d₁ at (stamped leave_kind q (leave_rules m q)) d₄ p₄
    unfolding stamped leave_rules
    leave_wrote q m x e w c u = rw (← e) (wrote_rule _ _ _ h w (λ i. c) (λ i. u))

    pub exit_allowed : (q n : ℕ) → WroteClauses d₁ at (phase_is 2 q) d₂ p₂ → WroteClauses d₂ p₂ (plain (differs now_var (variable entered_var)) ∷ []) d₃ p₃ →
        WroteClauses d₃ p₃ (plain (multiple_of now_var (constant n)) ∷ []) d₄ p₄ → WroteClauses d₁ at (leave_clauses q n) d₄ p₄
    exit_allowed q n a b c = wrote_then joins_clauses _ _ h a (λ i. wrote_both joins_clauses _ _ i b c)

    module _ {d₅ : List ℕ} {p₅ : ℕ} where
      pub ignored_wrote : (q from : ℕ) → WroteHead d₁ at request_kind q d₂ p₂ → Wrote d₂ p₂ (record_to Clause []) d₃ p₃ →
          WroteAtoms d₃ p₃ (differs phase_var (constant 0) ∷ []) d₄ p₄ → WroteAtoms d₄ p₄ (differs mode_var (constant from) ∷ []) d₅ p₅ →
          WroteRules d₁ at (stamped request_kind q (request_ignored from ∷ [])) d₅ p₅
      unfolding stamped
      ignored_wrote q from w c a b = wrote_still _ _ h w (λ i. wrote_clause _ i c (λ j. wrote_both joins_atoms _ _ j a b))

      pub entry_updated : (m : Timing) (old new : ℕ) → WroteUpdates d₁ at (set_to phase_var 2 ∷ []) d₂ p₂ →
          WroteUpdates d₂ p₂ (update entered_var (copied (variable now_var)) ∷ []) d₃ p₃ → WroteUpdates d₃ p₃ (active_updates m new) d₄ p₄ →
          WroteUpdates d₄ p₄ (flag_updates m old new) d₅ p₅ → WroteUpdates d₁ at (enter_updates m old new) d₅ p₅
      entry_updated m old new a b x y = wrote_then joins_updates _ _ h a (λ i. wrote_then joins_updates _ _ i b (λ j. wrote_both joins_updates _ _ j x y))

      pub exit_updated : (m : Timing) (new : ℕ) → WroteUpdates d₁ at (set_to phase_var 0 ∷ []) d₂ p₂ → WroteUpdates d₂ p₂ (set_to pending_var none ∷ []) d₃ p₃ →
          WroteUpdates d₃ p₃ (set_to mode_var new ∷ []) d₄ p₄ → WroteUpdates d₄ p₄ (flag_updates m new new) d₅ p₅ → WroteUpdates d₁ at (leave_updates m new) d₅ p₅
      exit_updated m new a b x y = wrote_then joins_updates _ _ h a (λ i. wrote_then joins_updates _ _ i b (λ j. wrote_both joins_updates _ _ j x y))

      pub granted_wrote : {d₆ : List ℕ} {p₆ : ℕ} (q from : ℕ) → WroteHead d₁ at request_kind q d₂ p₂ →
          WroteClauses d₂ p₂ (plain (equals phase_var (constant 0)) ∷ []) d₃ p₃ → WroteClauses d₃ p₃ (plain (equals mode_var (constant from)) ∷ []) d₄ p₄ →
          WroteUpdates d₄ p₄ (set_to phase_var 1 ∷ []) d₅ p₅ → WroteUpdates d₅ p₅ (set_to pending_var q ∷ []) d₆ p₆ →
          WroteRules d₁ at (stamped request_kind q (request_granted q from ∷ [])) d₆ p₆
      unfolding stamped
      granted_wrote q from w a b x y = wrote_rule _ _ _ h w (λ i. wrote_both joins_clauses _ _ i a b) (λ i. wrote_both joins_updates _ _ i x y)
