-- Laws of writing a table, and of translating.
use Rattle.std.specs.Prelude.{◌≡◌, refl, Bool, true, false, List, [], ℕ, ◌+◌, ◌≤◌, ◌<◌, length, take, ltb}
use Rattle.std.proofs.Math.Path.{sym}
use Rattle.std.proofs.Common.{◌∙◌, true≢false}
use native.Mathlib.Omega.{arith}
use borrow.Author.Tests.{lt-ltb, le-ltb, ltb-false}
use Rattle.std.proofs.Math.Seq.{sets-eq}
use Rattle.records.specs.declared.Cause.TheVariants.{ShortOutput}
use Rattle.records.specs.Refusals.{number_of, is_none, in_model, no_refusal}
use Rattle.model_format.specs.declared.Model.{Model}
use Rattle.model_format.specs.declared.ModelRead.{ModelRead}
use Rattle.model_format.specs.Reading.{read_model}
use Rattle.model_format.specs.WellFormed.{Bytes}
use Rattle.table_format.specs.Table.{rules_to, initial_to}
use Rattle.table_format.specs.BytesLaws.{initial_append}
use Rattle.table_writer.specs.Written.{records_then}
use Rattle.table_writer.specs.Wrote.{Wrote}
use Rattle.table_writer.specs.Writes.{Writes, WritesRules, WritesInitial}
use Rattle.table_writer.specs.declared.encoding.Writer.{Writer}
use Rattle.translation.specs.declared.Translation.{Translation}
use Rattle.translation.specs.Rules.{rules_of}
use Rattle.translation.specs.Translate.{initial_of, table_from, table_bytes, translated, output_after}
use Rattle.simulation.specs.Simulation.{written_is, simulates}
use Rattle.enabled_alike.proofs.SameOffers.{offers}
use Rattle.translator.specs.Translates.{Translates}

-- the start records, then the rules
pub table_wrote : {u v w : Writer} (m : Model) → WritesInitial u (initial_of m) v → WritesRules v (rules_of m) w → Writes u (table_bytes m) w
unfolding table_from
table_wrote {u} m x y = record {
  wrote = rw (initial_append (initial_of m) [] (rules_to (rules_of m))) (records_then (initial_to (initial_of m) []) (rules_to (rules_of m)) (let h = u.size in omega arith) x.wrote y.wrote);
  lender = y.lender ∙ x.lender;
}

-- ---- r is what reading the model gave, b whether it was accepted
module _ (model out : List ℕ) (r : ModelRead) (b : Bool) (e : r ≡ read_model model) (g : b ≡ is_none r.refusal.cause) where
  -- nothing is made, and nothing to be simulated
  pub model_refused : b ≡ false → Translates model out (record { refusal = r.refusal; bytes = 0 }) out
  unfolding translated output_after
  model_refused f = record {
    told = rw (← e, ← g, f);
    output = rw (← e, ← g, f, sym g ∙ f);
    simulated = λ s w. absurd (true≢false (sym w ∙ (sym g ∙ f)));
    offered = λ s w. absurd (true≢false (sym w ∙ (sym g ∙ f)));
  }

  pub output_short : b ≡ true → (n : ℕ) → n ≡ length (table_bytes r.model) → length out < n →
      Translates model out (record { refusal = in_model ShortOutput (length model) (length model); bytes = 0 }) out
  unfolding translated output_after number_of
  output_short f n k l = record {
    told = rw (← e, ← g, f, ← k, lt-ltb _ n l);
    output = rw (← e, ← g, f, ← k, lt-ltb _ n l);
    simulated = λ s w. absurd (true≢false (sym w));
    offered = λ s w. absurd (true≢false (sym w));
  }

-- and where the model was accepted
module _ (model out : List ℕ) (r : ModelRead) (b : Bool) (e : r ≡ read_model model) (g : b ≡ is_none r.refusal.cause) (bytes : Bytes model) where
  pub table_made : b ≡ true → (n : ℕ) → n ≡ length (table_bytes r.model) → n ≤ length out → (after : List ℕ) (q : ℕ) →
      Wrote out 0 (table_bytes r.model) after q → Translates model out (record { refusal = no_refusal; bytes = n }) after
  unfolding translated output_after number_of
  table_made f n k l after q w =
      let z : 0 + n ≡ n = omega arith in
      let told : record { refusal = no_refusal; bytes = n } ≡ translated model (length out) = rw (← e, ← g, f, ← k, le-ltb _ n l) in
      let output : after ≡ output_after model out = w.bytes ∙ sets-eq (table_bytes r.model) out 0 (omega arith) ∙ rw (← e, ← g, f, ← k, le-ltb _ n l, z) in
      record {
        told = told;
        output = output;
        simulated = λ s made. simulates model out (record { refusal = no_refusal; bytes = n }) after told output made bytes s;
        offered = λ s made. offers model out (record { refusal = no_refusal; bytes = n }) after told output made bytes s;
      }

-- ---- what a caller has of it: the bytes that are told lie in the output, and are the table
fits : (model : List ℕ) (n : ℕ) → is_none (translated model n).refusal.cause ≡ true → (translated model n).bytes ≤ n
unfolding translated number_of
fits model n e = go (is_none (read_model model).refusal.cause) (ltb n (length (table_bytes (read_model model).model))) refl refl
  where
    go : (a b : Bool) → is_none (read_model model).refusal.cause ≡ a → ltb n (length (table_bytes (read_model model).model)) ≡ b → (translated model n).bytes ≤ n
    go true true f g = absurd (true≢false (sym (rw (f, g) at e)))
    go true false f g = rw (f, g) (ltb-false _ _ g)
    go false b f g = absurd (true≢false (sym (sym f ∙ rw f at e)))

module _ {model out after : List ℕ} {r : Translation} (t : Translates model out r after) (e : is_none r.refusal.cause ≡ true) where
  pub was_made : is_none (translated model (length out)).refusal.cause ≡ true
  was_made = rw (← t.told) e

  pub table_fits : r.bytes ≤ length out
  table_fits = rw t.told (fits model (length out) was_made)

  pub table_is : take r.bytes after ≡ table_bytes (read_model model).model
  table_is = written_is model out r after t.told t.output e

-- the same with b for what the code has computed, of the output as it is afterwards
pub bytes_within : (model out after : List ℕ) (r : Translation) (b : Bool) → Translates model out r after → b ≡ is_none r.refusal.cause → b ≡ true → length after ≡ length out →
    r.bytes ≤ length after
bytes_within model out after r b t g e l = rw l (table_fits t (sym g ∙ e))
