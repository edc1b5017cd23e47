-- What is read depends on the records alone: inputs whose parts hold the same records are refused with the same number, or are the same model and have
-- the same table.
use Rattle.std.specs.Prelude.{◌≡◌, refl, Bool, true, false, cond, List, [], ◌∷◌, map, ℕ, ◌+◌, eqb, length, get_or, drop}
use Rattle.std.proofs.Common.{ap, arith}
use Rattle.numbers.specs.Values.{natural, value_at}
use Rattle.records.specs.declared.Notation.TheVariants as notations
use Rattle.records.specs.Kinds.{model_input, model_written_input}
use Rattle.records.specs.Format.{parts}
use Rattle.records.specs.Refusals.{is_none}
use Rattle.model_format.specs.declared.Record.{Record}
use Rattle.model_format.specs.declared.Record.TheVariants.{Unknown}
use Rattle.model_format.specs.declared.Reading.{Reading}
use Rattle.model_format.specs.declared.ModelRead.{ModelRead}
use Rattle.model_format.specs.Format.{input_of, owned_of, record_of_whole, record_of}
use Rattle.model_format.specs.Reading.{cause_of, next_reading, read_from, read_model, begin}

-- 0B with 0 is the record of 03
pub written_zero : (x y : List ℕ) → get_or x 1 0 ≡ get_or y 1 0 → value_at y 2 ≡ natural 0 → record_of_whole model_input x ≡ record_of_whole model_written_input y
unfolding input_of owned_of
written_zero x y e f = rw (e, f)

-- refused with the same number, or accepted as the same model
pub record Alike (a b : ModelRead) : Type 0 where
  pub cause : a.refusal.cause ≡ b.refusal.cause
  pub model : a.model ≡ b.model

either : (k : Bool) (x y z w : ModelRead) → Alike x z → Alike y w → Alike (cond k x y) (cond k z w)
either true x y z w p q = p
either false x y z w p q = q

read_alike : (l k : List (List ℕ)) (a : Reading) (p q : ℕ) → map record_of l ≡ map record_of k → Alike (read_from a p l) (read_from a q k)
unfolding read_from
read_alike [] [] a p q e = either (eqb a.last 0) _ _ _ _ (record { cause = refl; model = refl }) (record { cause = refl; model = refl })
read_alike [] (y ∷ k) a p q e = let z : 0 ≡ length (map record_of (y ∷ k)) = ap length e in absurd (omega arith)
read_alike (x ∷ l) [] a p q e = let z : length (map record_of (x ∷ l)) ≡ 0 = ap length e in absurd (omega arith)
read_alike (x ∷ l) (y ∷ k) a p q e =
    let r : record_of x ≡ record_of y = ap (λ (z : List Record). get_or z 0 Unknown) e in
    let rest = read_alike l k (next_reading a (record_of x)) (p + length x) (q + length y) (ap (drop 1) e) in
    rw (← r) (either (is_none (cause_of a (record_of x))) _ _ _ _ rest (record { cause = refl; model = refl }))

pub same_records : (s t : List ℕ) → map record_of (parts notations.Model s) ≡ map record_of (parts notations.Model t) → Alike (read_model s) (read_model t)
unfolding read_model
same_records s t e = read_alike (parts notations.Model s) (parts notations.Model t) begin 0 0 e
