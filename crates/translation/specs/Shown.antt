-- What each variable of the table stands for in a state of the model.
use Rattle.std.specs.Prelude.{Bool, cond, ◌&&◌, List, [], ◌∷◌, ℕ, ◌+◌, ◌-◌, eqb, ltb, leb}
use Rattle.numbers.specs.declared.Value.{Value}
use Rattle.numbers.specs.Values.{natural}
use Rattle.model_format.specs.declared.Timing.{Timing}
use Rattle.model_semantics.specs.declared.Clock.{Clock}
use Rattle.model_semantics.specs.declared.State.{State}
use Rattle.model_semantics.specs.State.{is_active, code_of, dispatch_time, behavior_of, missed_of, is_live, input_value, buffer_value, output_value, local_value}
use Rattle.table_format.specs.Variables.{now_var, mode_var, phase_var, pending_var, entered_var, active_var, state_var, dispatch_var, behavior_var, missed_var, flag_var, input_var, buffer_var, output_var, local_var, clock_vars}

-- 1 where the test passes
abbrev pub bit : Bool → ℕ
bit b = cond b 1 0

-- j is one of the n variables from base on
abbrev pub in_block : ℕ → ℕ → ℕ → Bool
in_block base n j = leb base j && ltb j (base + n)

-- count variables from base on: the values that they stand for in a state, by their numbers in the block
pub record Block : Type 0 where
  pub base : ℕ
  pub count : ℕ
  pub shows : State → ℕ → Value

-- "0 Now, 1 Mode, 2 Phase, 3 Pending, 4 EnteredAt, 5 Cpu"
abbrev pub clock_number : Clock → ℕ → ℕ
clock_number c j =
    cond (eqb j now_var) c.now.0
    (cond (eqb j mode_var) c.mode
    (cond (eqb j phase_var) c.phase
    (cond (eqb j pending_var) c.pending
    (cond (eqb j entered_var) c.entered.0 c.cpu))))

-- "for thread t: 16+t Active, .. 256+v local", those of a model's items. Due and End are compared apart, and stand for nothing here.
unfoldable pub blocks_of : Timing → List Block
blocks_of m =
    record { base = now_var; count = clock_vars; shows = λ s j. natural (clock_number s.clock j) } ∷
    record { base = active_var 0; count = m.threads; shows = λ s t. natural (bit (is_active s t)) } ∷
    record { base = state_var 0; count = m.threads; shows = λ s t. natural (code_of s t) } ∷
    record { base = dispatch_var 0; count = m.threads; shows = λ s t. natural (dispatch_time s t) } ∷
    record { base = behavior_var 0; count = m.threads; shows = λ s t. natural (behavior_of s t) } ∷
    record { base = missed_var 0; count = m.threads; shows = λ s t. natural (missed_of s t) } ∷
    record { base = flag_var 0; count = m.connections; shows = λ s c. natural (bit (is_live s c)) } ∷
    record { base = input_var 0; count = m.inputs; shows = λ s i. input_value s.ports i } ∷
    record { base = buffer_var 0; count = m.inputs; shows = λ s i. buffer_value s.ports i } ∷
    record { base = output_var 0; count = m.outputs; shows = λ s o. output_value s.ports o } ∷
    record { base = local_var 0; count = m.locals; shows = λ s v. local_value s.ports v } ∷ []

-- the value of variable j in the block that has it, or 0 where it stands for nothing
unfoldable pub shown_in : List Block → State → ℕ → Value
shown_in [] s j = natural 0
shown_in (b ∷ l) s j = cond (in_block b.base b.count j) (b.shows s (j - b.base)) (shown_in l s j)

unfoldable pub stands_for : Timing → State → ℕ → Value
stands_for m s j = shown_in (blocks_of m) s j
