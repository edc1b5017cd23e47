-- Searches over the connections of a model, and over the assignments of a transition.
use Rattle.std.specs.Prelude.{◌≡◌, Bool, true, false, ℕ, ◌<◌, ◌≤◌}
use Rattle.std.proofs.Common.{arith}
use Rattle.numbers.specs.Lists.{any_below}
use Rattle.model_format.specs.declared.Assignment.{Assignment}
use Rattle.model_format.specs.declared.Behavior.{Behavior}
use Rattle.model_format.specs.declared.Connection.{Connection}
use Rattle.model_format.specs.declared.Timing.{Timing}
use Rattle.model_format.specs.Model.{assignment_at, connection_at}
use Rattle.model_format.specs.Reading.{is_connected}
use Rattle.model_format.specs.Laws.{search_hit, search_end}
use Rattle.model_faults.specs.Causes.{same_target}
use Rattle.model_faults.specs.Laws.{connects_to, connects}
use Rattle.model_causes.specs.Readings.{has_target, is_among}

-- ---- a search over n connections, come to c
module _ (m : Timing) (i n c : ℕ) (e : n ≡ m.connections) where
  pub connected_some : (x : Connection) → c < n → x ≡ connection_at m c → x.target ≡ i → true ≡ is_connected m i
  unfolding is_connected
  connected_some x h f g = search_hit (connects_to m i) m.connections c (omega arith) (connects m i c x f g)

  pub connected_none : c ≤ n → n ≤ c → any_below c (connects_to m i) ≡ false → false ≡ is_connected m i
  unfolding is_connected
  connected_none h l f = search_end (connects_to m i) m.connections c (omega arith) (omega arith) f

-- ---- a search over n assignments of transition k, come to j
pub target_told : (b : Behavior) (k j : ℕ) (a x : Assignment) (s t : Bool) → x ≡ assignment_at b k j → s ≡ same_target x a → s ≡ t → has_target b k a j ≡ t
target_told b k j a x s t e f g = rw (← e, ← f) g

module _ (b : Behavior) (k n count j : ℕ) (a : Assignment) (e : count ≡ n) where
  pub among_some : (x : Assignment) (s : Bool) → j < count → x ≡ assignment_at b k j → s ≡ same_target x a → s ≡ true → true ≡ is_among b k n a
  among_some x s h f g i = search_hit (has_target b k a) n j (omega arith) (target_told b k j a x s true f g i)

  pub among_none : j ≤ count → count ≤ j → any_below j (has_target b k a) ≡ false → false ≡ is_among b k n a
  among_none h l f = search_end (has_target b k a) n j (omega arith) (omega arith) f
