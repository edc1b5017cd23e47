-- The part that a refusal hands back is the one that cutting the input gives at its place.
use Rattle.std.specs.Prelude.{◌≡◌, Bool, take, drop}
use Rattle.std.proofs.Math.Path.{refl}
use Rattle.std.proofs.Common.{sym, ◌∙◌, take_all}
use Rattle.std.proofs.Math.Bool.{true, false}
use mathlib.Core.List.{List, [], ◌∷◌}
use Prim.Native.Nat.{ℕ, ◌+◌, ◌-◌, ◌<◌, ◌≤◌}
use native.Mathlib.Omega.{arith}
use Rattle.std.proofs.Math.Decide.{dec_lt}
use Rattle.std.proofs.Math.ListN.{length}
use Rattle.std.proofs.Math.Dec.{ltb, eqb}
use borrow.Author.Tests.{le-ltb}
use Rattle.records.specs.declared.Notation.{Notation}
use Rattle.records.specs.declared.Notation.TheVariants.{Model, Table, Script}
use Rattle.records.specs.Format.{part_length_at, parts}
use Rattle.records.specs.Refusals.{number_of, is_none, no_refusal, part_of}
use Rattle.records.specs.Events.{event_of}
use Rattle.records.specs.Run.{Machine, run_from}
use Rattle.records.specs.Walk.{parts_at, parts_split}
use Rattle.model_format.specs.declared.Reading.{Reading}
use Rattle.model_format.specs.Format.{record_of as model_record}
use Rattle.model_format.specs.Reading as model-reading
use Rattle.model_semantics.specs.Machine.{start_state, machine_of, run_model}
use Rattle.table_format.specs.declared.Context.{Context}
use Rattle.table_format.specs.Format.{record_of as table_record}
use Rattle.table_format.specs.Reading as table-reading
use Rattle.table_format.specs.Table.{table_of}
use Rattle.table_semantics.specs.Machine.{start_variables, machine_of as table_machine, run_table}
use Rattle.translation.specs.Translate.{translated, table_bytes}
use Rattle.listing.specs.Programs.{room}
use Rattle.listing.specs.Outcomes.{model_outcome, table_outcome, rules_outcome, cut_at, part_of_input, part_in, cut_part}

-- no part is left at the end alone
at_end : (w : Notation) (s : List ℕ) (p : ℕ) → parts w (drop p s) ≡ [] → length s ≤ p
at_end w s p e = go (dec_lt p (length s))
  where
    go : Dec (p < length s) → length s ≤ p
    go (yes h) =
        let f : ◌≡◌ {A = List (List ℕ)} [] (take (part_length_at w s p) (drop p s) ∷ parts w (drop (p + part_length_at w s p) s)) = sym e ∙ parts_at w s p _ h refl in
        let z : ◌≡◌ {A = ℕ} 0 1 = cc in
        absurd (omega arith)
    go (no h) = omega arith

-- ---- the part x at place p
module _ (w : Notation) (s : List ℕ) (p : ℕ) (x : List ℕ) (l : List (List ℕ)) (e : parts w (drop p s) ≡ x ∷ l) where
  part_here : take (p + length x - p) (drop p s) ≡ cut_at w s p
  part_here =
      let n = (parts_split w s p x l e).size in
      let z : p + length x - p ≡ part_length_at w s p = omega arith in
      rw z

-- ---- a run: the part of a refused event
module _ {S : Type 0} (mac : Machine S) (w : Notation) (model script : List ℕ) where
  run_part : (a : S) (k p : ℕ) (l : List (List ℕ)) → parts Script (drop p script) ≡ l →
      part_of (run_from mac a k p l).refusal model script ≡ cut_part w (run_from mac a k p l).refusal model script
  unfolding run_from part_of cut_part part_in part_of_input number_of
  run_part a k p [] e = refl
  run_part a k p (x ∷ l) e = go (λ y. run_part (mac.after a (event_of x)) (k + 1) (p + length x) l y) (is_none (mac.answer a (event_of x))) refl
    where
      go : (parts Script (drop (p + length x) script) ≡ l →
          part_of (run_from mac (mac.after a (event_of x)) (k + 1) (p + length x) l).refusal model script ≡
          cut_part w (run_from mac (mac.after a (event_of x)) (k + 1) (p + length x) l).refusal model script) →
          (b : Bool) → is_none (mac.answer a (event_of x)) ≡ b →
          part_of (run_from mac a k p (x ∷ l)).refusal model script ≡ cut_part w (run_from mac a k p (x ∷ l)).refusal model script
      go ih true f = rw f (ih (parts_split Script script p x l e).rest)
      go ih false f = rw (f, f) (part_here Script script p x l e)

-- ---- reading a model
module _ (model script : List ℕ) where
  no_head_part : (p : ℕ) → length model ≤ p → take (p - p) (drop p model) ≡ cut_at Model model p
  unfolding part_length_at
  no_head_part p h = let z : p - p ≡ 0 = omega arith in rw (z, le-ltb p (length model) h)

  read_part : (a : Reading) (p : ℕ) (l : List (List ℕ)) → parts Model (drop p model) ≡ l →
      part_of (model-reading.read_from a p l).refusal model script ≡ cut_part Model (model-reading.read_from a p l).refusal model script
  unfolding model-reading.read_from part_of cut_part part_in part_of_input number_of
  read_part a p [] e = go (eqb a.last 0) refl
    where
      go : (b : Bool) → eqb a.last 0 ≡ b →
          part_of (model-reading.read_from a p []).refusal model script ≡ cut_part Model (model-reading.read_from a p []).refusal model script
      go true f = rw f (no_head_part p (at_end Model model p e))
      go false f = rw f refl
  read_part a p (x ∷ l) e =
      go (λ y. read_part (model-reading.next_reading a (model_record x)) (p + length x) l y) (is_none (model-reading.cause_of a (model_record x))) refl
    where
      go : (parts Model (drop (p + length x) model) ≡ l →
          part_of (model-reading.read_from (model-reading.next_reading a (model_record x)) (p + length x) l).refusal model script ≡
          cut_part Model (model-reading.read_from (model-reading.next_reading a (model_record x)) (p + length x) l).refusal model script) →
          (b : Bool) → is_none (model-reading.cause_of a (model_record x)) ≡ b →
          part_of (model-reading.read_from a p (x ∷ l)).refusal model script ≡ cut_part Model (model-reading.read_from a p (x ∷ l)).refusal model script
      go ih true f = rw f (ih (parts_split Model model p x l e).rest)
      go ih false f = rw (f, f) (part_here Model model p x l e)

  model_read_part : part_of (model-reading.read_model model).refusal model script ≡ cut_part Model (model-reading.read_model model).refusal model script
  unfolding model-reading.read_model
  model_read_part = read_part model-reading.begin 0 (parts Model model) refl

  pub model_part : part_of (model_outcome model script).refusal model script ≡ cut_part Model (model_outcome model script).refusal model script
  unfolding model_outcome run_model
  model_part = go (is_none (model-reading.read_model model).refusal.cause) refl
    where
      go : (b : Bool) → is_none (model-reading.read_model model).refusal.cause ≡ b →
          part_of (model_outcome model script).refusal model script ≡ cut_part Model (model_outcome model script).refusal model script
      go true f = rw f (run_part (machine_of (model-reading.read_model model).model) Model model script (start_state (model-reading.read_model model).model.timing) 0 0 (parts Script script) refl)
      go false f = rw f model_read_part

-- ---- reading a table
module _ (table script : List ℕ) where
  module _ (short : ltb table-reading.longest_table (length table) ≡ false) where
    table_from_part : (c : Context) (p : ℕ) (l : List (List ℕ)) → parts Table (drop p table) ≡ l →
        part_of (table-reading.read_from c p l) table script ≡ cut_part Table (table-reading.read_from c p l) table script
    unfolding table-reading.read_from part_of cut_part part_in part_of_input number_of
    table_from_part c p [] e = refl
    table_from_part c p (x ∷ l) e =
        go (λ y. table_from_part (table-reading.next_context c (table_record x)) (p + length x) l y) (is_none (table-reading.cause_of c (table_record x))) refl
      where
        go : (parts Table (drop (p + length x) table) ≡ l →
            part_of (table-reading.read_from (table-reading.next_context c (table_record x)) (p + length x) l) table script ≡
            cut_part Table (table-reading.read_from (table-reading.next_context c (table_record x)) (p + length x) l) table script) →
            (b : Bool) → is_none (table-reading.cause_of c (table_record x)) ≡ b →
            part_of (table-reading.read_from c p (x ∷ l)) table script ≡ cut_part Table (table-reading.read_from c p (x ∷ l)) table script
        go ih true f = rw f (ih (parts_split Table table p x l e).rest)
        go ih false f = rw (f, f, short) (part_here Table table p x l e)

  table_read_part : part_of (table-reading.read_table table) table script ≡ cut_part Table (table-reading.read_table table) table script
  unfolding table-reading.read_table part_of cut_part part_in part_of_input number_of
  table_read_part = go (ltb table-reading.longest_table (length table)) refl
    where
      go : (b : Bool) → ltb table-reading.longest_table (length table) ≡ b →
          part_of (table-reading.read_table table) table script ≡ cut_part Table (table-reading.read_table table) table script
      go true f = let z : length table - 0 ≡ length table = omega arith in rw (f, z, f) (take_all (length table) table (omega arith))
      go false f = rw f (table_from_part f table-reading.begin 0 (parts Table table) refl)

  pub table_part : part_of (table_outcome table script).refusal table script ≡ cut_part Table (table_outcome table script).refusal table script
  unfolding table_outcome run_table
  table_part = go (is_none (table-reading.read_table table).cause) refl
    where
      go : (b : Bool) → is_none (table-reading.read_table table).cause ≡ b →
          part_of (table_outcome table script).refusal table script ≡ cut_part Table (table_outcome table script).refusal table script
      go true f = rw f (run_part (table_machine (table_of table).rules) Table table script (start_variables (table_of table)) 0 0 (parts Script script) refl)
      go false f = rw f table_read_part

-- ---- translating a model, and the run of its table
module _ (model script : List ℕ) where
  translated_part : (n : ℕ) → part_of (translated model n).refusal model script ≡ cut_part Model (translated model n).refusal model script
  unfolding translated part_of cut_part part_in part_of_input number_of
  translated_part n = go (is_none (model-reading.read_model model).refusal.cause) (ltb n (length (table_bytes (model-reading.read_model model).model))) refl refl
    where
      go : (a b : Bool) → is_none (model-reading.read_model model).refusal.cause ≡ a → ltb n (length (table_bytes (model-reading.read_model model).model)) ≡ b →
          part_of (translated model n).refusal model script ≡ cut_part Model (translated model n).refusal model script
      go true true f g = rw (f, g) (no_head_part model script (length model) (omega arith))
      go true false f g = rw (f, g) refl
      go false b f g = rw f (model_read_part model script)

  module _ (accepted : is_none (translated model room).refusal.cause ≡ true → table-reading.read_table (table_bytes (model-reading.read_model model).model) ≡ no_refusal) where
    pub rules_part : part_of (rules_outcome model script).refusal model script ≡ cut_part Model (rules_outcome model script).refusal model script
    unfolding rules_outcome table_outcome run_table number_of
    rules_part = go (is_none (translated model room).refusal.cause) refl
      where
        table : List ℕ
        table = table_bytes (model-reading.read_model model).model

        go : (b : Bool) → is_none (translated model room).refusal.cause ≡ b →
            part_of (rules_outcome model script).refusal model script ≡ cut_part Model (rules_outcome model script).refusal model script
        go true f = rw (f, accepted f) (run_part (table_machine (table_of table).rules) Model model script (start_variables (table_of table)) 0 0 (parts Script script) refl)
        go false f = rw f (translated_part room)
