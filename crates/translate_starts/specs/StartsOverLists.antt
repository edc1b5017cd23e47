-- The same laws of what is written into a lent slice from a place on, for callers who prove over these and hold no writer.
use Rattle.std.specs.Prelude.{◌≡◌, refl, Bool, true, false, not, List, [], ℕ, zero, suc, ◌+◌, ◌*◌, ◌/◌, ◌<◌, ◌≤◌}
use Rattle.std.proofs.Common.{sym, ◌∙◌, append-nil, arith}
use Rattle.std.proofs.Math.Decide.{dec_lt}
use Rattle.numbers.specs.declared.Value.{Value}
use Rattle.numbers.specs.Lists.{join_below, only}
use Rattle.numbers.specs.ListLaws.{join_suc}
use Rattle.numbers.specs.Values.{natural, same_value}
use Rattle.model_format.specs.declared.Model.{Model}
use Rattle.model_format.specs.declared.Timing.{Timing}
use Rattle.model_semantics.specs.declared.State.{State}
use Rattle.model_semantics.specs.Machine.{start_state}
use Rattle.table_format.specs.declared.InitialValue.{InitialValue}
use Rattle.table_format.specs.declared.Record.TheVariants.{Initial}
use Rattle.table_format.specs.Variables.{variables}
use Rattle.table_format.specs.Format.{record_to, bytes_of}
use Rattle.table_format.specs.Table.{initial_to}
use Rattle.translation.specs.Shown.{stands_for}
use Rattle.translation.specs.Translate.{initial_of}
use Rattle.table_writer.specs.Written.{records_one}
use Rattle.table_writer.specs.Wrote.{Wrote}
use Rattle.table_writer.specs.Lists.{Counted, joins_initial, wrote_none}
use Rattle.table_writer.specs.WroteRules.{WroteInitial}
use Rattle.translate_shown.specs.Standing.{is_shown}
use Rattle.translate_shown.specs.Blocks.{SameBits, absent_on}
use Rattle.translate_starts.specs.Starts.{start, starts_in}

-- ---- variables that stand for nothing are passed over
start_nothing : (j : ℕ) (v : Value) → v ≡ natural 0 → start j v ≡ []
start_nothing j v e = rw e

join_skip : {A : Type 0} (f : ℕ → List A) (n k : ℕ) → n ≤ k → ((i : ℕ) → n ≤ i → i < k → f i ≡ []) → join_below k f ≡ join_below n f
join_skip f n zero h z = let q : n ≡ 0 = omega arith in rw q
join_skip f n (suc k) h z = go (λ l. join_skip f n k l (λ i a b. z i a (omega arith))) (dec_lt k n)
  where
    go : (n ≤ k → join_below k f ≡ join_below n f) → Dec (k < n) → join_below (suc k) f ≡ join_below n f
    go r (yes l) = let q : n ≡ suc k = omega arith in rw q
    go r (no l) = join_suc k f ∙ rw (z k (omega arith) (omega arith), append-nil (join_below k f)) (r (omega arith))

pub starts_skip : {d e : List ℕ} {at p : ℕ} (m : Timing) (s : State) (j : ℕ) (b : Bool) → b ≡ is_shown m j → b ≡ false → WroteInitial d at (starts_in m s j) e p →
    WroteInitial d at (starts_in m s (j / 16 * 16 + 16)) e p
starts_skip m s j b g f w =
    rw (join_skip (λ i. start i (stands_for m s i)) j (j / 16 * 16 + 16) (omega arith) (λ i h k. start_nothing i (stands_for m s i) (absent_on j i h k m s (sym g ∙ f)))) w

-- ---- z says whether the value is 0
module _ {d : List ℕ} {at : ℕ} (j : ℕ) (v : Value) (z : Bool) (h : z ≡ same_value v (natural 0)) where
  pub start_left : z ≡ true → Counted at → WroteInitial d at (start j v) d at
  start_left t k = rw (← h, t) (wrote_none joins_initial k)

  pub start_wrote : {e : List ℕ} {p : ℕ} → z ≡ false → Wrote d at (record_to (Initial (record { variable = j; value = v })) []) e p → WroteInitial d at (start j v) e p
  unfolding initial_to
  start_wrote t w = rw (← h, t) (records_one (Initial (record { variable = j; value = v })) w)

-- ---- a value is written by its bits
same_bytes : (b : Bool) (j : ℕ) (v w : Value) → SameBits v w →
    bytes_of (initial_to (only b (record { variable = j; value = v })) []) ≡ bytes_of (initial_to (only b (record { variable = j; value = w })) [])
unfolding bytes_of initial_to record_to
same_bytes true j v w s = rw s.bits
same_bytes false j v w s = refl

pub start_same : {d e : List ℕ} {at p : ℕ} (j : ℕ) (v w : Value) → SameBits v w → WroteInitial d at (start j v) e p → WroteInitial d at (start j w) e p
start_same j v w s x = rw (← s.bits, ← same_bytes (not (same_value v (natural 0))) j v w s) x

-- ---- all of them, in the state that a model starts in
pub initial_wrote : {d e : List ℕ} {at p : ℕ} (m : Model) (s : State) → s ≡ start_state m.timing → WroteInitial d at (starts_in m.timing s variables) e p →
    WroteInitial d at (initial_of m) e p
unfolding initial_of
initial_wrote m s e w = rw (← e) w
