-- Laws of the connections into a thread, and of what it waits for. Arguments that stand left in an equation are what the code has computed.
use Rattle.std.specs.Prelude.{◌≡◌, ◌&&◌, List, [], ◌∷◌, ℕ, ◌<◌, eqb}
use Rattle.std.proofs.Common.{arith}
use Rattle.model_format.specs.declared.Thread.{Thread}
use Rattle.model_format.specs.declared.Timing.{Timing}
use Rattle.model_format.specs.declared.Connection.{Connection}
use Rattle.model_format.specs.Model.{thread_at, input_owner, output_owner, connection_at, is_kind, source_thread, target_thread}
use Rattle.model_format.specs.WellFormed.{GoodTiming}
use Rattle.table_format.specs.Variables.{connection_room}
use Rattle.translation.specs.Rules.{delayed_clause, beside_clause, coming_clause, delayed_from, beside_from, coming_from}
use Rattle.table_writer.specs.Writes.{WritesClauses}
use Rattle.table_writer.specs.declared.encoding.Writer.{Writer}

-- n is how many the code has counted
pub few_connections : {m : Timing} (g : GoodTiming m) {n i : ℕ} → n ≡ m.connections → i < n → i < connection_room
few_connections g e h = omega (arith, g.connections, e, h)

-- ---- connection c; x is the one that the code has read
module _ (m : Timing) (c : ℕ) {x : Connection} (e : x ≡ connection_at m c) where
  pub source_is : {u : ℕ} → u ≡ output_owner m x.source → u ≡ source_thread m c
  source_is o = rw e at o

  -- it is of a kind, and into or from thread t; u is the thread that the code has found
  pub into_is : (kind t : ℕ) {u : ℕ} → u ≡ input_owner m x.target → (eqb x.kind kind && eqb u t) ≡ (is_kind m kind c && eqb (target_thread m c) t)
  into_is kind t o = rw (o, e)

  pub from_is : (kind t : ℕ) {u : ℕ} → u ≡ output_owner m x.source → (eqb x.kind kind && eqb u t) ≡ (is_kind m kind c && eqb (source_thread m c) t)
  from_is kind t o = rw (o, e)

module _ (m : Timing) (c : ℕ) {w v : Writer} where
  pub delayed_wait_lem : {u : ℕ} → u ≡ source_thread m c → WritesClauses w (delayed_from c u ∷ []) v → WritesClauses w (delayed_clause m c ∷ []) v
  delayed_wait_lem k x = rw k at x

  pub immediate_wait_lem : (t : ℕ) {u : ℕ} (x : Thread) → u ≡ source_thread m c → x ≡ thread_at m u →
      WritesClauses w (beside_from t c u ∷ coming_from t c u x.period.0 ∷ []) v → WritesClauses w (beside_clause m t c ∷ coming_clause m t c ∷ []) v
  immediate_wait_lem t x k y z = rw (y, k) at z
