-- The machine's answers, in the forms that the code has: one event, and the start.
use Rattle.std.specs.Prelude.{◌≡◌, refl, Bool, true, false, cond, List, [], ◌∷◌, ◌++◌, ℕ, zero, suc, ◌+◌, ◌-◌, ◌*◌, ◌<◌, ◌≤◌, min, eqb, get_or, length, take, drop, replicate}
use Rattle.std.proofs.Common.{sym, ◌∙◌, ap, arith}
use Rattle.numbers.specs.declared.Value.{Value}
use Rattle.numbers.specs.Lists.{store}
use Rattle.numbers.specs.ListLaws.{length_store}
use Rattle.numbers.specs.Values.{natural, plus, less_value}
use Rattle.records.specs.declared.Notation.TheVariants as notations
use Rattle.records.specs.declared.Cause.{Cause}
use Rattle.records.specs.declared.Cause.TheVariants.{BrokenEvent, NotEnabled, LastClock, ConflictingRules, InconsistentUpdates}
use Rattle.records.specs.Events.{tick_kind, is_broken, last_clock}
use Rattle.records.specs.declared.Event.{Event}
use Rattle.records.specs.Format.{part_length_at}
use Rattle.table_format.specs.declared.InitialValue.{InitialValue}
use Rattle.table_format.specs.declared.Record.{Record}
use Rattle.table_format.specs.declared.Record.TheVariants.{Initial, Head, Clause, Atomic, Change, Cut, Unknown}
use Rattle.table_format.specs.Variables.{variables, now_var}
use Rattle.table_format.specs.Format.{record_of, records, kind_of}
use Rattle.table_format.specs.Table.{Rule, gather, table_of}
use Rattle.table_format.specs.RecordsAt.{records_at, records_end}
use Rattle.table_semantics.specs.declared.Variables.{Variables}
use Rattle.table_semantics.specs.declared.Stepped.{Stepped}
use Rattle.table_semantics.specs.Rules.{enabled_rules, Write, writes, inconsistent, written}
use Rattle.table_semantics.specs.Machine.{begun, start_variables, refuse, accept, allows_length, fire, is_busy, now_in, ticks, step}
use Rattle.table_semantics.specs.Runs.{values, variables_of, stepped_to}
use Rattle.table_search.specs.declared.Found.{Found}
use Rattle.table_search.specs.declared.Found.TheVariants.{Nothing, One, Several}
use Rattle.table_format.specs.declared.RuleHead.{RuleHead}
use Rattle.table_rules.specs.At.{rule_at}
use Rattle.table_rules.specs.Bits.{values_zero, length_values}
use Rattle.table_index.specs.Index.{listed, rules_in, listed_in, words_in, rules_by, step_by}
use Rattle.table_index.specs.IndexLaws.{words_same, words_within}
use Rattle.table_semantics.specs.Choices.{choice, firing, one_tick}
use Rattle.table_semantics.proofs.MachineLaws.{fire_by_choice}
use Rattle.table_search.specs.Enabled.{choice_found}

-- f is what the walk over the table t has found of the rules l
module _ (t : List ℕ) (s : Variables) (e : Event) (f : Found) (l : List Rule) (g : choice_found t f ≡ choice l) where
  found : firing s e (choice_found t f) ≡ fire s e l
  found = ap (firing s e) g ∙ fire_by_choice s e l

  pub fire_none : f ≡ Nothing → refuse NotEnabled s ≡ fire s e l
  unfolding choice_found firing
  fire_none z = rw z at found

  pub fire_one : (p : ℕ) (h : RuleHead) → f ≡ One p h → fire s e (rule_at t p h ∷ []) ≡ fire s e l
  unfolding choice_found firing
  fire_one p h z = rw z at found

  pub fire_several : f ≡ Several → refuse ConflictingRules s ≡ fire s e l
  unfolding choice_found firing
  fire_several z = rw z at found

-- no rules stand behind the table's end
pub rest_none : (s words : List ℕ) (p : ℕ) → length s ≤ p → rules_in s words (length s) ≡ rules_in s words p
rest_none s words p h = ap (λ (r : List Record). listed s words ++ (gather r).rules) (records_end s (length s) (omega arith) ∙ sym (records_end s p h))

-- ---- the start: what a record says of the variables
unfoldable pub initial_after : List Value → Record → List Value
initial_after v (Initial x) = store variables v x.variable x.value
initial_after v (Head h) = v
initial_after v Clause = v
initial_after v (Atomic a) = v
initial_after v (Change u) = v
initial_after v Cut = v
initial_after v Unknown = v

pub initial_none : (v : List Value) (x : Record) → (kind_of x ≡ 32 → ⊥) → v ≡ initial_after v x
unfolding kind_of initial_after
initial_none v (Initial x) k = absurd (k refl)
initial_none v (Head h) k = refl
initial_none v Clause k = refl
initial_none v (Atomic a) k = refl
initial_none v (Change u) k = refl
initial_none v Cut k = refl
initial_none v Unknown k = refl

pub initial_one : (v : List Value) (x : Record) (y : InitialValue) → x ≡ Initial y → store variables v y.variable y.value ≡ initial_after v x
unfolding initial_after
initial_one v x y e = rw e

begun_step : (v : List Value) (x : Record) (l : List Record) → begun (gather l).initial (initial_after v x) ≡ begun (gather (x ∷ l)).initial v
unfolding begun initial_after gather
begun_step v (Initial x) l = refl
begun_step v (Head h) l = refl
begun_step v Clause l = refl
begun_step v (Atomic a) l = refl
begun_step v (Change u) l = refl
begun_step v Cut l = refl
begun_step v Unknown l = refl

pub start_begin : (s : List ℕ) → record { value = begun (gather (records (drop 0 s))).initial (values (replicate 288 0)) } ≡ start_variables (table_of s)
unfolding start_variables table_of
start_begin s = rw (values_zero 288)

pub start_on : (s : List ℕ) (p m : ℕ) (x : Record) → p < length s → m ≡ part_length_at notations.Table s p → x ≡ record_of (take (p + m - p) (drop p s)) →
    (v w : List Value) → w ≡ initial_after v x → begun (gather (records (drop (p + m) s))).initial w ≡ begun (gather (records (drop p s))).initial v
start_on s p m x h e f v w g = rw (records_at s p m x h e f, g) (begun_step v x (records (drop (p + m) s)))

pub start_end : (s : List ℕ) (p : ℕ) (v : List Value) → length s ≤ p →
    ◌≡◌ {A = Variables} (record { value = v }) (record { value = begun (gather (records (drop p s))).initial v })
unfolding begun gather
start_end s p v h = rw (records_end s p h)

-- ---- the words of an index, as the code cuts them out: n rules are listed
pub rules_cut : (s d : List ℕ) (from n rest : ℕ) → from ≡ min 2 (length d) → n ≡ listed_in d → rest ≡ get_or d 1 0 →
    rules_in s (take (from + 2 * n - from) (drop from d)) rest ≡ rules_by s d
unfolding rules_by
rules_cut s d from n rest e f g = rw (words_same d from (from + 2 * n) e (rw f), g)

pub cut_within : (d : List ℕ) (from n : ℕ) → from ≡ min 2 (length d) → n ≡ listed_in d → from + 2 * n ≤ length d
cut_within d from n e f = (words_within d from (from + 2 * n) e (rw f)).1

-- the rules that an index stands for, as they are made of it
pub rules_new : (s d t words : List ℕ) (rest : ℕ) → t ≡ s → words ≡ words_in d → rest ≡ get_or d 1 0 → rules_in t words rest ≡ rules_by s d
unfolding rules_by
rules_new s d t words rest e f g = rw (e, f, g)

-- ---- an event leaves as many variables as there were
length_ticks : (l : List Rule) (s : Variables) (n : ℕ) (v : List Value) → length s.value ≡ length v → length (ticks l s n v).state.value ≡ length v
unfolding ticks
length_ticks l s zero v h = refl
length_ticks l s (suc n) v h =
    go (is_busy v l) (less_value (now_in v) (natural last_clock)) (length_ticks l s n (one_tick v) (h ∙ sym same) ∙ same)
  where
    same : length (one_tick v) ≡ length v
    same = length_store variables v now_var (plus (now_in v) (natural 1))

    r : Stepped
    r = ticks l s n (one_tick v)

    go : (a b : Bool) → length r.state.value ≡ length v → length (cond a (refuse NotEnabled s) (cond b r (refuse LastClock s))).state.value ≡ length v
    go true b i = h
    go false true i = i
    go false false i = h

length_written : (l : List Write) (v : List Value) → length (written l v) ≡ length v
unfolding written
length_written [] v = refl
length_written (x ∷ l) v = length_written l (store variables v x.target x.value) ∙ length_store variables v x.target x.value

length_fire : (s : Variables) (e : Event) (l : List Rule) → length (fire s e l).state.value ≡ length s.value
unfolding fire
length_fire s e [] = refl
length_fire s e (r ∷ []) = go (allows_length e r) (inconsistent w)
  where
    w : List Write
    w = writes e.amount s.value r.updates

    go : (a b : Bool) → length (cond a (cond b (refuse InconsistentUpdates s) (accept (written w s.value))) (refuse NotEnabled s)).state.value ≡ length s.value
    go true true = refl
    go true false = length_written w s.value
    go false b = refl
length_fire s e (r ∷ q ∷ l) = refl

-- c is the answer, v' are the bits that it leaves
module _ (v v' : List ℕ) (c : Cause) where
  sized : (o : Stepped) → stepped_to c v' ≡ o → length o.state.value ≡ length (values v) → length v' ≡ length v
  sized o e h = sym (length_values v') ∙ ap (λ (q : Stepped). length q.state.value) e ∙ h ∙ length_values v

  pub tick_size : (l : List Rule) (n : ℕ) → stepped_to c v' ≡ ticks l (variables_of v) n (values v) → length v' ≡ length v
  tick_size l n e = sized (ticks l (variables_of v) n (values v)) e (length_ticks l (variables_of v) n (values v) refl)

  pub fire_size : (e : Event) (l : List Rule) → stepped_to c v' ≡ fire (variables_of v) e l → length v' ≡ length v
  fire_size e l q = sized (fire (variables_of v) e l) q (length_fire (variables_of v) e l)

  pub step_size : (s d : List ℕ) (e : Event) → stepped_to c v' ≡ step_by s d (variables_of v) e → length v' ≡ length v
  unfolding step_by step
  step_size s d e q = sized (step (rules_by s d) (variables_of v) e) q (go (is_broken e) (eqb e.kind tick_kind))
    where
      t : Stepped
      t = ticks (rules_by s d) (variables_of v) e.amount (values v)

      f : Stepped
      f = fire (variables_of v) e (enabled_rules (values v) e.kind e.id (rules_by s d))

      go : (a b : Bool) → length (cond a (refuse BrokenEvent (variables_of v)) (cond b t f)).state.value ≡ length (values v)
      go true b = refl
      go false true = length_ticks (rules_by s d) (variables_of v) e.amount (values v) refl
      go false false = length_fire (variables_of v) e (enabled_rules (values v) e.kind e.id (rules_by s d))
