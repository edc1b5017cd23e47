-- Laws of writing the rules of one mode transition, part by part.
use mir.Val.{bool_byte}
use Rattle.std.specs.Prelude.{◌≡◌, refl, Bool, true, false, List, [], ◌∷◌, ◌++◌, ℕ, ◌<◌, ◌≤◌}
use Rattle.std.proofs.Common.{arith}
use Rattle.records.specs.Events.{request_kind, enter_kind, leave_kind}
use Rattle.model_format.specs.declared.Thread.{Thread}
use Rattle.model_format.specs.declared.Connection.{Connection}
use Rattle.model_format.specs.declared.ModeTransition.{ModeTransition}
use Rattle.model_format.specs.declared.Timing.{Timing}
use Rattle.model_format.specs.Model.{thread_at, connection_at, switch_at, in_mode}
use Rattle.model_semantics.specs.State.{none}
use Rattle.model_semantics.specs.Effects.{in_both}
use Rattle.table_format.specs.declared.Atom.{Atom}
use Rattle.table_format.specs.declared.Update.{Update}
use Rattle.table_format.specs.declared.Record.TheVariants.{Head, Clause}
use Rattle.table_format.specs.Variables.{now_var, mode_var, phase_var, pending_var, entered_var, active_var, flag_var}
use Rattle.table_format.specs.Format.{record_to}
use Rattle.translation.specs.Shown.{bit}
use Rattle.translation.specs.Parts.{constant, variable, equals, differs, multiple_of, plain, copied, update, set_to, stamped}
use Rattle.translation.specs.Rules.{phase_is, active_updates, flag_updates, request_rules, enter_rules, leave_rules, request_granted, request_ignored, active_update, flag_update, enter_clauses, enter_updates, leave_clauses, leave_updates}
use Rattle.table_writer.specs.Lists.{joins_atoms, joins_clauses, joins_updates, joins_rules}
use Rattle.table_writer.specs.Writes.{Writes, WritesAtoms, WritesClauses, WritesUpdates, WritesRules}
use Rattle.table_writer.specs.WritesLaws.{writes_both, writes_clause, writes_rule, writes_still}
use Rattle.table_writer.specs.declared.encoding.Writer.{Writer}

-- k counts n items, which are no more than b
pub few : {n k b i : ℕ} → n ≤ b → k ≡ n → i < k → i < b
few h e l = omega (arith, h, e, l)

-- a test as the number that the code makes of it
pub bit_byte : (b : Bool) → bool_byte b ≡ bit b
bit_byte true = refl
bit_byte false = refl

-- j is the variable, b the test and n its number
module _ {u v : Writer} {j n : ℕ} {b : Bool} (w : WritesUpdates u (set_to j n ∷ []) v) (g : n ≡ bit b) (m : Timing) where
  pub active_wrote : (mode t : ℕ) (x : Thread) → j ≡ active_var t → x ≡ thread_at m t → b ≡ in_mode x.modes mode →
      WritesUpdates u (active_update m mode t) v
  active_wrote mode t x h i k = rw (← h, ← i, ← k, ← g) w

  pub flag_wrote : (old new c : ℕ) (x : Connection) → j ≡ flag_var c → x ≡ connection_at m c → b ≡ in_both x.modes old new →
      WritesUpdates u (flag_update m old new c) v
  flag_wrote old new c x h i k = rw (← h, ← i, ← k, ← g) w

-- ---- each rule from its parts
abbrev WritesHead : Writer → ℕ → ℕ → Writer → Type 0
WritesHead u kind q v = Writes u (record_to (Head (record { kind = kind; id = q; low = 0; high = 0 })) []) v

module _ {u₁ u₂ u₃ : Writer} where
  pub request_wrote : (q : ℕ) (m : Timing) (x : ModeTransition) → x ≡ switch_at m q →
      WritesRules u₁ (stamped request_kind q (request_granted q x.from ∷ [])) u₂ → WritesRules u₂ (stamped request_kind q (request_ignored x.from ∷ [])) u₃ →
      WritesRules u₁ (stamped request_kind q (request_rules m q)) u₃
  unfolding stamped request_rules
  request_wrote q m x e a b = rw (← e) (writes_both joins_rules _ _ a b)

  module _ {u₄ : Writer} where
    pub enter_wrote : (q : ℕ) (m : Timing) (x : ModeTransition) → x ≡ switch_at m q → WritesHead u₁ enter_kind q u₂ →
        WritesClauses u₂ (enter_clauses q x.h1.0) u₃ → WritesUpdates u₃ (enter_updates m x.from x.to) u₄ →
        WritesRules u₁ (stamped enter_kind q (enter_rules m q)) u₄
    unfolding stamped enter_rules
    enter_wrote q m x e w c a = rw (← e) (writes_rule _ _ _ w c a)

    pub leave_wrote : (q : ℕ) (m : Timing) (x : ModeTransition) → x ≡ switch_at m q → WritesHead u₁ leave_kind q u₂ →
        WritesClauses u₂ (leave_clauses q x.h2.0) u₃ → WritesUpdates u₃ (leave_updates m x.to) u₄ →
        WritesRules u₁ (stamped leave_kind q (leave_rules m q)) u₄
    unfolding stamped leave_rules
    leave_wrote q m x e w c a = rw (← e) (writes_rule _ _ _ w c a)

    pub exit_allowed : (q n : ℕ) → WritesClauses u₁ (phase_is 2 q) u₂ → WritesClauses u₂ (plain (differs now_var (variable entered_var)) ∷ []) u₃ →
        WritesClauses u₃ (plain (multiple_of now_var (constant n)) ∷ []) u₄ → WritesClauses u₁ (leave_clauses q n) u₄
    exit_allowed q n a b c = writes_both joins_clauses _ _ a (writes_both joins_clauses _ _ b c)

    module _ {u₅ : Writer} where
      pub ignored_wrote : (q from : ℕ) → WritesHead u₁ request_kind q u₂ → Writes u₂ (record_to Clause []) u₃ →
          WritesAtoms u₃ (differs phase_var (constant 0) ∷ []) u₄ → WritesAtoms u₄ (differs mode_var (constant from) ∷ []) u₅ →
          WritesRules u₁ (stamped request_kind q (request_ignored from ∷ [])) u₅
      unfolding stamped
      ignored_wrote q from w c a b = writes_still _ _ w (writes_clause _ c (writes_both joins_atoms _ _ a b))

      pub entry_updated : (m : Timing) (old new : ℕ) → WritesUpdates u₁ (set_to phase_var 2 ∷ []) u₂ →
          WritesUpdates u₂ (update entered_var (copied (variable now_var)) ∷ []) u₃ → WritesUpdates u₃ (active_updates m new) u₄ →
          WritesUpdates u₄ (flag_updates m old new) u₅ → WritesUpdates u₁ (enter_updates m old new) u₅
      entry_updated m old new a b x y = writes_both joins_updates _ _ a (writes_both joins_updates _ _ b (writes_both joins_updates _ _ x y))

      pub exit_updated : (m : Timing) (new : ℕ) → WritesUpdates u₁ (set_to phase_var 0 ∷ []) u₂ → WritesUpdates u₂ (set_to pending_var none ∷ []) u₃ →
          WritesUpdates u₃ (set_to mode_var new ∷ []) u₄ → WritesUpdates u₄ (flag_updates m new new) u₅ → WritesUpdates u₁ (leave_updates m new) u₅
      exit_updated m new a b x y = writes_both joins_updates _ _ a (writes_both joins_updates _ _ b (writes_both joins_updates _ _ x y))

      pub granted_wrote : {u₆ : Writer} (q from : ℕ) → WritesHead u₁ request_kind q u₂ →
          WritesClauses u₂ (plain (equals phase_var (constant 0)) ∷ []) u₃ → WritesClauses u₃ (plain (equals mode_var (constant from)) ∷ []) u₄ →
          WritesUpdates u₄ (set_to phase_var 1 ∷ []) u₅ → WritesUpdates u₅ (set_to pending_var q ∷ []) u₆ →
          WritesRules u₁ (stamped request_kind q (request_granted q from ∷ [])) u₆
      unfolding stamped
      granted_wrote q from w a b x y = writes_rule _ _ _ w (writes_both joins_clauses _ _ a b) (writes_both joins_updates _ _ x y)
