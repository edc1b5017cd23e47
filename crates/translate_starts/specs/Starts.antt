-- The start records of a table, one variable after the other.
use Rattle.std.specs.Prelude.{◌≡◌, refl, Bool, true, false, not, List, [], ℕ, zero, suc, ◌+◌, ◌*◌, ◌/◌, ◌<◌, ◌≤◌}
use Rattle.std.proofs.Common.{sym, ◌∙◌, append-nil, arith}
use Rattle.std.proofs.Math.Decide.{dec_lt}
use Rattle.numbers.specs.declared.Value.{Value}
use Rattle.numbers.specs.Lists.{join_below, only}
use Rattle.numbers.specs.ListLaws.{join_suc}
use Rattle.numbers.specs.Values.{natural, same_value}
use Rattle.model_format.specs.declared.Model.{Model}
use Rattle.model_format.specs.declared.Timing.{Timing}
use Rattle.model_semantics.specs.declared.State.{State}
use Rattle.model_semantics.specs.Machine.{start_state}
use Rattle.table_format.specs.declared.InitialValue.{InitialValue}
use Rattle.table_format.specs.declared.Record.TheVariants.{Initial}
use Rattle.table_format.specs.Variables.{variables}
use Rattle.table_format.specs.Format.{record_to, bytes_of}
use Rattle.table_format.specs.Table.{initial_to}
use Rattle.translation.specs.Shown.{stands_for}
use Rattle.translation.specs.Translate.{initial_of}
use Rattle.table_writer.specs.Written.{records_one}
use Rattle.table_writer.specs.Lists.{joins_initial}
use Rattle.table_writer.specs.Writes.{Writes, WritesInitial}
use Rattle.table_writer.specs.WritesLaws.{writes_none}
use Rattle.table_writer.specs.declared.encoding.Writer.{Writer}
use Rattle.translate_shown.specs.Standing.{is_shown}
use Rattle.translate_shown.specs.Blocks.{SameBits, absent_on}

-- variable j where its value is not 0
abbrev pub start : ℕ → Value → List InitialValue
start j v = only (not (same_value v (natural 0))) (record { variable = j; value = v })

-- the variables below n in a state
abbrev pub starts_in : Timing → State → ℕ → List InitialValue
starts_in m s n = join_below n (λ j. start j (stands_for m s j))

-- ---- variables that stand for nothing are passed over
start_nothing : (j : ℕ) (v : Value) → v ≡ natural 0 → start j v ≡ []
start_nothing j v e = rw e

join_skip : {A : Type 0} (f : ℕ → List A) (n k : ℕ) → n ≤ k → ((i : ℕ) → n ≤ i → i < k → f i ≡ []) → join_below k f ≡ join_below n f
join_skip f n zero h z = let q : n ≡ 0 = omega arith in rw q
join_skip f n (suc k) h z = go (λ l. join_skip f n k l (λ i a b. z i a (omega arith))) (dec_lt k n)
  where
    go : (n ≤ k → join_below k f ≡ join_below n f) → Dec (k < n) → join_below (suc k) f ≡ join_below n f
    go r (yes l) = let q : n ≡ suc k = omega arith in rw q
    go r (no l) = join_suc k f ∙ rw (z k (omega arith) (omega arith), append-nil (join_below k f)) (r (omega arith))

pub starts_skip : {u v : Writer} (m : Timing) (s : State) (j : ℕ) (b : Bool) → b ≡ is_shown m j → b ≡ false → WritesInitial u (starts_in m s j) v →
    WritesInitial u (starts_in m s (j / 16 * 16 + 16)) v
starts_skip m s j b g f w =
    rw (join_skip (λ i. start i (stands_for m s i)) j (j / 16 * 16 + 16) (omega arith) (λ i h k. start_nothing i (stands_for m s i) (absent_on j i h k m s (sym g ∙ f)))) w

-- ---- z says whether the value is 0
module _ {u : Writer} (j : ℕ) (v : Value) (z : Bool) (h : z ≡ same_value v (natural 0)) where
  pub start_left : z ≡ true → WritesInitial u (start j v) u
  start_left t = rw (← h, t) (writes_none joins_initial)

  pub start_wrote : {w : Writer} → z ≡ false → Writes u (record_to (Initial (record { variable = j; value = v })) []) w → WritesInitial u (start j v) w
  unfolding initial_to
  start_wrote t x = rw (← h, t) (record { wrote = records_one (Initial (record { variable = j; value = v })) x.wrote; lender = x.lender })

-- ---- a value is written by its bits
same_bytes : (b : Bool) (j : ℕ) (v w : Value) → SameBits v w →
    bytes_of (initial_to (only b (record { variable = j; value = v })) []) ≡ bytes_of (initial_to (only b (record { variable = j; value = w })) [])
unfolding bytes_of initial_to record_to
same_bytes true j v w s = rw s.bits
same_bytes false j v w s = refl

pub start_same : {u z : Writer} (j : ℕ) (v w : Value) → SameBits v w → WritesInitial u (start j v) z → WritesInitial u (start j w) z
start_same j v w s x = rw (← s.bits, ← same_bytes (not (same_value v (natural 0))) j v w s) x

-- ---- all of them, in the state that a model starts in
pub initial_wrote : {u v : Writer} (m : Model) (s : State) → s ≡ start_state m.timing → WritesInitial u (starts_in m.timing s variables) v →
    WritesInitial u (initial_of m) v
unfolding initial_of
initial_wrote m s e w = rw (← e) w
