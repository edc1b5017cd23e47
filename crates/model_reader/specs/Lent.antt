-- A model read into a list that is lent: one of zeros, one that is too short, one that has room and more.
use Rattle.std.specs.Prelude.{◌≡◌, Bool, true, false, ◌||◌, List, ◌++◌, ℕ, ◌+◌, ◌<◌, ◌≤◌, replicate, take, drop, get_or, leb}
use Rattle.std.proofs.Common.{sym, ◌∙◌, arith, length-append, lt-ltb, le-ltb, refl, ap, length, drop_at, length-take-le}
use Rattle.std.proofs.Math.Decide.{dec_lt}
use Rattle.std.proofs.Math.ListN.{get_or-append, get_or-eq_default}
use Rattle.std.proofs.lemmas.List.{length-replicate, get_or-replicate}
use Rattle.records.specs.declared.Cause.TheVariants.{ShortOutput}
use Rattle.records.specs.declared.Refusal.{Refusal}
use Rattle.records.specs.Refusals.{in_model}
use Rattle.model_format.specs.declared.ModelRead.{ModelRead}
use Rattle.model_format.specs.Model.{empty_model}
use Rattle.model_format.specs.Reading.{read_model}
use Rattle.model_words.specs.Words.{threads_from, inputs_from, outputs_from, locals_from, connections_from, switches_from, transitions_from, atoms_from, assignments_from, modes_place, initial_place, threads_place, inputs_place, outputs_place, locals_place, connections_place, switches_place, transitions_place, model_words, timing_in, behavior_in, model_in}
use Rattle.model_writer.specs.Cleared.{cleared_all}
use Rattle.model_items.specs.Kept.{Changed, number_kept, threads_kept, inputs_kept, outputs_kept, locals_kept, connections_kept, switches_kept, transitions_kept, atoms_kept, assignments_kept}
use Rattle.model_reader.specs.Reads.{read_as, read_refusal, ReadInto}

-- a list of zeros is clear
pub zeros_empty : model_in (replicate model_words 0) ≡ empty_model
zeros_empty =
    let n = length-replicate {A = ℕ} model_words 0 in
    cleared_all (replicate model_words 0) model_words (record { zeros = λ q b. get_or-replicate model_words q 0 0 b }) (omega (arith, n))

-- ---- a model in the front of a list
or_true : (b : Bool) → (b || true) ≡ true
or_true true = refl
or_true false = refl

same_front : (k d : List ℕ) → model_words ≤ length k → Changed k (k ++ d) model_words (model_words + length (k ++ d))
same_front k d h q n = go (dec_lt q model_words)
  where
    go : Dec (q < model_words) → get_or (k ++ d) q 0 ≡ get_or k q 0
    go (yes l) = get_or-append k d 0 q (omega arith)
    go (no l) = outside (dec_lt q (model_words + length (k ++ d)))
      where
        outside : Dec (q < model_words + length (k ++ d)) → get_or (k ++ d) q 0 ≡ get_or k q 0
        outside (yes b) = absurd (n (omega arith) b)
        outside (no b) =
            let z = length-append k d in
            get_or-eq_default (k ++ d) 0 (omega arith) ∙ sym (get_or-eq_default k 0 (omega arith))

model_front : (k d : List ℕ) → model_words ≤ length k → model_in (k ++ d) ≡ model_in k
unfolding timing_in behavior_in
model_front k d h =
    let b : ℕ = model_words + length (k ++ d) in
    let w : Changed k (k ++ d) model_words b = same_front k d h in
    rw (number_kept k (k ++ d) model_words b w modes_place (or_true (leb b modes_place)), number_kept k (k ++ d) model_words b w initial_place (or_true (leb b initial_place)), number_kept k (k ++ d) model_words b w threads_place (or_true (leb b threads_place)), number_kept k (k ++ d) model_words b w inputs_place (or_true (leb b inputs_place)), number_kept k (k ++ d) model_words b w outputs_place (or_true (leb b outputs_place)), number_kept k (k ++ d) model_words b w locals_place (or_true (leb b locals_place)), number_kept k (k ++ d) model_words b w connections_place (or_true (leb b connections_place)), number_kept k (k ++ d) model_words b w switches_place (or_true (leb b switches_place)), number_kept k (k ++ d) model_words b w transitions_place (or_true (leb b transitions_place)), threads_kept k (k ++ d) model_words b w (or_true (leb b threads_from)), inputs_kept k (k ++ d) model_words b w (or_true (leb b inputs_from)), outputs_kept k (k ++ d) model_words b w (or_true (leb b outputs_from)), locals_kept k (k ++ d) model_words b w (or_true (leb b locals_from)), connections_kept k (k ++ d) model_words b w (or_true (leb b connections_from)), switches_kept k (k ++ d) model_words b w (or_true (leb b switches_from)), transitions_kept k (k ++ d) model_words b w (or_true (leb b transitions_from)), atoms_kept k (k ++ d) model_words b w (or_true (leb b atoms_from)), assignments_kept k (k ++ d) model_words b w (or_true (leb b assignments_from)))

module _ (s l : List ℕ) (r : Refusal) where
  pub into_short : length l < model_words → r ≡ in_model ShortOutput (length s) (length s) → ReadInto s l l r
  unfolding read_refusal
  into_short h e = record { refusal = e ∙ rw (lt-ltb (length l) model_words h); model = λ g. absurd (omega arith); rest = λ g. absurd (omega arith); kept = λ g. refl }

  pub into_whole : (k : List ℕ) → model_words ≤ length l → length k ≡ length (take model_words l) → read_as r k ≡ read_model s → ReadInto s l (k ++ drop model_words l) r
  unfolding read_refusal
  into_whole k h y e = let z : length k ≡ model_words = y ∙ length-take-le model_words l h in record {
    refusal = ap (λ (x : ModelRead). x.refusal) e ∙ rw (le-ltb (length l) model_words h);
    model = λ g. model_front k (drop model_words l) (omega arith) ∙ ap (λ (x : ModelRead). x.model) e;
    rest = λ g. drop_at k (drop model_words l) model_words z;
    kept = λ g. absurd (omega arith);
  }

-- a list that has room for the model
pub whole_read : {s l l' : List ℕ} {r : Refusal} → model_words ≤ length l → ReadInto s l l' r → read_as r l' ≡ read_model s
unfolding read_refusal
whole_read {s} {l} h i = rw (i.refusal, le-ltb (length l) model_words h, i.model h)

pub read_new : {s l' : List ℕ} {r : Refusal} → ReadInto s (replicate model_words 0) l' r → read_as r l' ≡ read_model s
read_new i = whole_read (let n = length-replicate {A = ℕ} model_words 0 in omega (arith, n)) i
