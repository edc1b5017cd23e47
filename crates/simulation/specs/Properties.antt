-- What demand 3 is worth to whoever checks tables: a property of the compared variables holds at the start and after every event of a
-- model exactly where it does of the table that was made.
use Rattle.std.specs.Prelude.{◌≡◌, Bool, cond, ◌&&◌, ◌↔◌, ℕ, ◌+◌, ◌-◌, ◌<◌, ◌≤◌, take, eqb, ltb, leb}
use Rattle.std.proofs.Math.Path.{refl, fun_ext}
use Rattle.std.proofs.Common.{sym, ◌∙◌, ap, subst, arith, eqb-true, ltb-true, leb-true}
use Rattle.std.proofs.Math.Bool.{true, false}
use mathlib.Core.List.{List, [], ◌∷◌}
use Rattle.numbers.specs.declared.Value.{Value}
use Rattle.numbers.specs.Values.{natural, same_value}
use Rattle.records.specs.Refusals.{is_none}
use Rattle.records.specs.Run.{Stage}
use Rattle.model_format.specs.declared.Timing.{Timing}
use Rattle.model_format.specs.declared.Model.{Model}
use Rattle.model_format.specs.Model.{max_threads}
use Rattle.model_format.specs.Reading.{read_model}
use Rattle.model_format.specs.WellFormed.{Bytes}
use Rattle.model_format.specs.Accepted.{accepted_well_formed}
use Rattle.model_semantics.specs.declared.State.{State}
use Rattle.model_semantics.specs.State.{code_of, length_of, spent_of, now_of}
use Rattle.model_semantics.specs.Tests.{execution, due_of}
use Rattle.model_semantics.specs.Machine.{start_state, model_stages}
use Rattle.table_semantics.specs.declared.Variables.{Variables}
use Rattle.table_semantics.specs.Rules.{value_of}
use Rattle.table_semantics.specs.Machine.{start_variables, table_stages}
use Rattle.table_format.specs.Table.{table_of}
use Rattle.table_format.specs.Variables.{variables, state_var, due_var, end_var}
use Rattle.translation.specs.Shown.{in_block, stands_for, blocks_of}
use Rattle.simulation.specs.Compared.{Dispatched, none_yet, and_after, is_due_or_end, Alike, Lockstep, Demand3, Simulates}
use Rattle.translation.specs.ShownLaws.{out_block, Avoids, stands_block}

-- The compared variables, as a machine shows them: Due once dispatched, End in code 3, every other one as it stands; 0 where a variable
-- is not compared.
unfoldable pub model_view : Timing → Dispatched → State → ℕ → Value
model_view m d s j =
    cond (in_block (due_var 0) m.threads j) (cond (d (j - due_var 0)) (natural (due_of m s (j - due_var 0))) (natural 0))
    (cond (in_block (end_var 0) m.threads j)
    (cond (eqb (code_of s (j - end_var 0)) execution) (natural (now_of s + (length_of s (j - end_var 0) - spent_of s (j - end_var 0)))) (natural 0))
    (cond (ltb j variables) (stands_for m s j) (natural 0)))

unfoldable pub table_view : Timing → Dispatched → Variables → ℕ → Value
table_view m d v j =
    cond (in_block (due_var 0) m.threads j) (cond (d (j - due_var 0)) (value_of v.value j) (natural 0))
    (cond (in_block (end_var 0) m.threads j) (cond (same_value (value_of v.value (state_var (j - end_var 0))) (natural execution)) (value_of v.value j) (natural 0))
    (cond (ltb j variables) (value_of v.value j) (natural 0)))

-- a property of the view, after every event, taken or refused
unfoldable pub AfterEach : {S : Type 0} → (Dispatched → S → ℕ → Value) → ((ℕ → Value) → Type 0) → Dispatched → List (Stage S) → Type 0
AfterEach view P d [] = Unit {0}
AfterEach view P d (x ∷ l) = let f = and_after d x.event x.answer in P (view f x.state) × AfterEach view P f l

-- "At the start and after each event"
abbrev pub Along : {S : Type 0} → (Dispatched → S → ℕ → Value) → ((ℕ → Value) → Type 0) → S → List (Stage S) → Type 0
Along view P s l = P (view none_yet s) × AfterEach view P none_yet l

-- ---- both machines have the same view
record Inside (base n j : ℕ) : Type 0 where
  index : j - base < n
  place : base + (j - base) ≡ j

inside : (base n j : ℕ) → in_block base n j ≡ true → Inside base n j
inside base n j e = go (leb base j) (ltb j (base + n)) refl refl e
  where
    go : (a b : Bool) → leb base j ≡ a → ltb j (base + n) ≡ b → (a && b) ≡ true → Inside base n j
    go true true p q z =
        let x = leb-true base j p in
        let y = ltb-true j (base + n) q in
        record { index = omega arith; place = omega arith }
    go true false p q z = absurd (let u : ◌≡◌ {A = ℕ} 0 1 = cc in omega arith)
    go false b p q z = absurd (let u : ◌≡◌ {A = ℕ} 0 1 = cc in omega arith)

module _ (m : Timing) (few : m.threads ≤ max_threads) (d : Dispatched) (s : State) (v : Variables) (h : Alike m d s v) where
  same_code : (t : ℕ) → t < m.threads → value_of v.value (state_var t) ≡ natural (code_of s t)
  unfolding blocks_of Avoids
  same_code t l =
      h.others (state_var t) (omega arith) (rw (out_block (due_var 0) m.threads (state_var t) (λ p q. omega arith), out_block (end_var 0) m.threads (state_var t) (λ p q. omega arith))) ∙
      stands_block m s 2 t refl (omega arith) (omega arith) (λ e. absurd (omega arith))

  same_due : (j : ℕ) → in_block (due_var 0) m.threads j ≡ true →
      cond (d (j - due_var 0)) (natural (due_of m s (j - due_var 0))) (natural 0) ≡ cond (d (j - due_var 0)) (value_of v.value j) (natural 0)
  same_due j e = go (d (j - due_var 0)) refl
    where
      go : (b : Bool) → d (j - due_var 0) ≡ b → cond b (natural (due_of m s (j - due_var 0))) (natural 0) ≡ cond b (value_of v.value j) (natural 0)
      go true f =
          let i = inside (due_var 0) m.threads j e in
          sym (ap (value_of v.value) (sym i.place) ∙ h.due (j - due_var 0) i.index f)
      go false f = refl

  same_end : (j : ℕ) → in_block (end_var 0) m.threads j ≡ true →
      cond (eqb (code_of s (j - end_var 0)) execution) (natural (now_of s + (length_of s (j - end_var 0) - spent_of s (j - end_var 0)))) (natural 0) ≡
      cond (same_value (value_of v.value (state_var (j - end_var 0))) (natural execution)) (value_of v.value j) (natural 0)
  same_end j e =
      let i = inside (end_var 0) m.threads j e in
      rw (same_code (j - end_var 0) i.index) (go (eqb (code_of s (j - end_var 0)) execution) refl)
    where
      go : (b : Bool) → eqb (code_of s (j - end_var 0)) execution ≡ b →
          cond b (natural (now_of s + (length_of s (j - end_var 0) - spent_of s (j - end_var 0)))) (natural 0) ≡ cond b (value_of v.value j) (natural 0)
      go true f =
          let i = inside (end_var 0) m.threads j e in
          sym (ap (value_of v.value) (sym i.place) ∙ h.end (j - end_var 0) i.index (eqb-true (code_of s (j - end_var 0)) execution f))
      go false f = refl

  same_other : (j : ℕ) → is_due_or_end m j ≡ false → cond (ltb j variables) (stands_for m s j) (natural 0) ≡ cond (ltb j variables) (value_of v.value j) (natural 0)
  same_other j e = go (ltb j variables) refl
    where
      go : (b : Bool) → ltb j variables ≡ b → cond b (stands_for m s j) (natural 0) ≡ cond b (value_of v.value j) (natural 0)
      go true f = sym (h.others j (ltb-true j variables f) e)
      go false f = refl

  pub same_view : model_view m d s ≡ table_view m d v
  unfolding model_view table_view
  same_view = fun_ext (λ j. go j (in_block (due_var 0) m.threads j) (in_block (end_var 0) m.threads j) refl refl)
    where
      go : (j : ℕ) (a b : Bool) → in_block (due_var 0) m.threads j ≡ a → in_block (end_var 0) m.threads j ≡ b → model_view m d s j ≡ table_view m d v j
      go j true b e f = rw e (same_due j e)
      go j false true e f = rw (e, f) (same_end j f)
      go j false false e f = rw (e, f) (same_other j (rw (e, f)))

module _ (m : Timing) (few : m.threads ≤ max_threads) (P : (ℕ → Value) → Type 0) where
  after_each : (d : Dispatched) (l : List (Stage State)) (r : List (Stage Variables)) → Lockstep m d l r → AfterEach (model_view m) P d l ↔ AfterEach (table_view m) P d r
  unfolding AfterEach Lockstep
  after_each d [] [] h = ((λ p. p), (λ p. p))
  after_each d [] (y ∷ r) h = absurd h
  after_each d (x ∷ l) [] h = absurd h
  after_each d (x ∷ l) (y ∷ r) h =
      let f = and_after d x.event x.answer in
      let e = same_view m few f x.state y.state h.0.alike in
      let q = after_each f l r h.1 in
      rw (← h.0.event, ← h.0.answer) ((λ p. (subst P e p.0, q.0 p.1)), (λ p. (subst P (sym e) p.0, q.1 p.1)))

-- of the table that the bytes hold, whoever made them
pub property_carries_over : (m : Model) (script table : List ℕ) → Demand3 m script table → m.timing.threads ≤ max_threads → (P : (ℕ → Value) → Type 0) →
    Along (model_view m.timing) P (start_state m.timing) (model_stages m script) ↔ Along (table_view m.timing) P (start_variables (table_of table)) (table_stages table script)
property_carries_over m script table h few P =
    let e = same_view m.timing few none_yet (start_state m.timing) (start_variables (table_of table)) h.start in
    let q = after_each m.timing few P none_yet (model_stages m script) (table_stages table script) h.lockstep in
    ((λ p. (subst P e p.0, q.0 p.1)), (λ p. (subst P (sym e) p.0, q.1 p.1)))

-- so for whoever has translated: the table that lies in the first n bytes of the output
pub made_property_carries_over : (model script : List ℕ) (n : ℕ) (after : List ℕ) → Bytes model → is_none (read_model model).refusal.cause ≡ true → Simulates model script n after → (P : (ℕ → Value) → Type 0) →
    let m = (read_model model).model in
    Along (model_view m.timing) P (start_state m.timing) (model_stages m script) ↔ Along (table_view m.timing) P (start_variables (table_of (take n after))) (table_stages (take n after) script)
made_property_carries_over model script n after b e h P =
    property_carries_over (read_model model).model script (take n after) h (accepted_well_formed model b e).timing.threads P
