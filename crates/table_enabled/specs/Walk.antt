-- Walks over rules that list the events of the enabled ones: by the words of an index, and record by record.
use Rattle.std.specs.Prelude.{◌≡◌, refl, Bool, cond, ℕ, ◌+◌, ◌-◌, ◌*◌, ◌/◌, ◌<◌, ◌≤◌, min, get_or, length, take, drop}
use Rattle.std.proofs.Common.{sym, ◌∙◌, ap, true, false, List, [], ◌∷◌, ◌++◌, append-nil, append_assoc, arith}
use Rattle.numbers.specs.declared.Value.{Value}
use Rattle.numbers.specs.Lists.{only}
use Rattle.records.specs.declared.Notation.TheVariants as notations
use Rattle.records.specs.Format.{part_length_at}
use Rattle.table_format.specs.declared.RuleHead.{RuleHead}
use Rattle.table_format.specs.declared.Record.{Record}
use Rattle.table_format.specs.declared.Record.TheVariants.{Initial, Head, Clause, Atomic, Change, Cut, Unknown}
use Rattle.table_format.specs.Format.{record_of, records, kind_of}
use Rattle.table_format.specs.Table.{Rule, gather}
use Rattle.table_format.specs.RecordsAt.{records_at, records_end}
use Rattle.table_semantics.specs.Rules.{all_hold}
use Rattle.table_rules.specs.At.{head_in, clauses_at, rule_at, rules_from}
use Rattle.table_index.specs.Index.{is_listed, listed, rules_in, listed_in, words_in, rules_by}
use Rattle.table_index.specs.Guards.{may_hold}
use Rattle.table_index.specs.IndexLaws.{words_same}
use Rattle.table_index.specs.Listed.{guard_disables, dropped, IsPair}
use Rattle.table_offers.specs.declared.Seen.{Seen}
use Rattle.table_offers.specs.Adds.{Told, GoesOn, Adds}
use Rattle.table_offers.specs.OneMore.{told_none, goes_none, goes_then, goes_disabled}

-- ---- a walk over rules: some are passed, the others left
pub record Going (v : List Value) (all left : List Rule) (t₀ : Seen) (d₀ : List ℕ) (t : Seen) (d : List ℕ) : Type 0 where
  pub passed : List Rule
  pub whole : passed ++ left ≡ all
  pub goes : GoesOn v passed t₀ d₀ t d

module _ (v : List Value) (all : List Rule) (t₀ : Seen) (d₀ : List ℕ) where
  pub going_begin : Going v all all t₀ d₀ t₀ d₀
  going_begin = record { passed = []; whole = refl; goes = goes_none v t₀ d₀ }

  pub going_next : (left m left' : List Rule) (t : Seen) (d : List ℕ) (t' : Seen) (d' : List ℕ) → left ≡ m ++ left' → Going v all left t₀ d₀ t d → GoesOn v m t d t' d' →
      Going v all left' t₀ d₀ t' d'
  going_next left m left' t d t' d' e g a = record {
    passed = g.passed ++ m;
    whole = append_assoc g.passed m left' ∙ ap (λ (l : List Rule). g.passed ++ l) (sym e) ∙ g.whole;
    goes = goes_then v t₀ d₀ g.passed m t d t' d' g.goes a;
  }

  pub going_end : (left : List Rule) (t : Seen) (d : List ℕ) → left ≡ [] → Going v all left t₀ d₀ t d → GoesOn v all t₀ d₀ t d
  going_end left t d e g =
      let w : g.passed ≡ all = sym (append-nil g.passed) ∙ ap (λ (l : List Rule). g.passed ++ l) (sym e) ∙ g.whole in
      rw (← w) g.goes

-- one rule or none is looked at
abbrev pub Looks : List Value → List Rule → Seen → List ℕ → Seen → List ℕ → Type 0
Looks v l t d t' d' = (t'.count ≤ t.count + 1) × GoesOn v l t d t' d'

-- ---- the rule that two words list
unfoldable pub rule_listed : List ℕ → ℕ → ℕ → List Rule
rule_listed s w g = only (is_listed s w g) (rule_at s (w / 65536 + 11) (head_in s (w / 65536)))

pub words_next : (s d : List ℕ) (i : ℕ) → i + 1 < length d → listed s (drop i d) ≡ rule_listed s (get_or d i 0) (get_or d (i + 1) 0) ++ listed s (drop (i + 2) d)
unfolding listed rule_listed
words_next s d i h = rw (dropped d i h) (go (is_listed s (get_or d i 0) (get_or d (i + 1) 0)))
  where
    r : Rule
    r = rule_at s (get_or d i 0 / 65536 + 11) (head_in s (get_or d i 0 / 65536))

    go : (b : Bool) → cond b (r ∷ listed s (drop (i + 2) d)) (listed s (drop (i + 2) d)) ≡ only b r ++ listed s (drop (i + 2) d)
    go true = refl
    go false = refl

-- the same, two words x at a time: u are those that are left, then w
pub words_pair : (s u w x : List ℕ) → IsPair u x w → listed s u ≡ rule_listed s (get_or x 0 0) (get_or x 1 0) ++ listed s w
unfolding listed rule_listed
words_pair s u w x i = rw i.words (go (is_listed s (get_or x 0 0) (get_or x 1 0)))
  where
    r : Rule
    r = rule_at s (get_or x 0 0 / 65536 + 11) (head_in s (get_or x 0 0 / 65536))

    go : (b : Bool) → cond b (r ∷ listed s w) (listed s w) ≡ only b r ++ listed s w
    go true = refl
    go false = refl

pub pair_size : (u w x : List ℕ) → IsPair u x w → length u ≡ length w + 2
pair_size u w x i = ap length i.words ∙ omega arith

module _ (s : List ℕ) (v : List Value) (w g : ℕ) (t : Seen) (d : List ℕ) where
  looks_unless : (is_listed s w g ≡ true → all_hold v (clauses_at s (w / 65536 + 11)) ≡ false) → Looks v (rule_listed s w g) t d t d
  unfolding rule_listed
  looks_unless n = (omega arith, go (is_listed s w g) refl)
    where
      go : (b : Bool) → is_listed s w g ≡ b → GoesOn v (only (is_listed s w g) (rule_at s (w / 65536 + 11) (head_in s (w / 65536)))) t d t d
      go true e = rw e (goes_disabled v (rule_at s (w / 65536 + 11) (head_in s (w / 65536))) t d (n e))
      go false e = rw e (goes_none v t d)

  pub looks_guarded : (b : Bool) → b ≡ may_hold v g → b ≡ false → Looks v (rule_listed s w g) t d t d
  looks_guarded b e z = looks_unless (λ h. guard_disables s w g h v (sym e ∙ z))

  module _ (b : Bool) (e : b ≡ all_hold v (clauses_at s (w / 65536 + 11))) where
    pub looks_disabled : b ≡ false → Looks v (rule_listed s w g) t d t d
    looks_disabled z = looks_unless (λ h. sym e ∙ z)

    module _ (a : Bool) (f : a ≡ is_listed s w g) where
      pub looks_unlisted : a ≡ false → Looks v (rule_listed s w g) t d t d
      unfolding rule_listed
      looks_unlisted z = rw (← f, z) (omega arith, goes_none v t d)

      pub looks_listed : b ≡ true → a ≡ true → (h : RuleHead) → h ≡ head_in s (w / 65536) → (t' : Seen) (d' : List ℕ) → Adds h t d t' d' → Looks v (rule_listed s w g) t d t' d'
      unfolding rule_listed
      looks_listed y z h k t' d' x = rw (← f, z, ← k) (x.0, x.2 v (clauses_at s (w / 65536 + 11)) (gather (records (drop (w / 65536 + 11) s))).updates (sym e ∙ y))

-- ---- the rule whose head a record is; q is the place after it
unfoldable pub rules_of : List ℕ → ℕ → Record → List Rule
rules_of s q (Initial x) = []
rules_of s q (Head h) = rule_at s q h ∷ []
rules_of s q Clause = []
rules_of s q (Atomic a) = []
rules_of s q (Change u) = []
rules_of s q Cut = []
rules_of s q Unknown = []

gather_one_lem : (s : List ℕ) (q : ℕ) (x : Record) → (gather (x ∷ records (drop q s))).rules ≡ rules_of s q x ++ rules_from s q
unfolding rules_of gather
gather_one_lem s q (Initial x) = refl
gather_one_lem s q (Head h) = refl
gather_one_lem s q Clause = refl
gather_one_lem s q (Atomic a) = refl
gather_one_lem s q (Change u) = refl
gather_one_lem s q Cut = refl
gather_one_lem s q Unknown = refl

pub records_next : (s : List ℕ) (p m : ℕ) (x : Record) → p < length s → m ≡ part_length_at notations.Table s p → x ≡ record_of (take (p + m - p) (drop p s)) →
    rules_from s p ≡ rules_of s (p + m) x ++ rules_from s (p + m)
records_next s p m x h l r = ap (λ (q : List Record). (gather q).rules) (records_at s p m x h l r) ∙ gather_one_lem s (p + m) x

pub records_over : (s : List ℕ) (p : ℕ) → length s ≤ p → rules_from s p ≡ []
unfolding gather
records_over s p h = ap (λ (q : List Record). (gather q).rules) (records_end s p h)

no_rules : (s : List ℕ) (q : ℕ) (x : Record) → (kind_of x ≡ 33 → ⊥) → rules_of s q x ≡ []
unfolding rules_of kind_of
no_rules s q (Initial x) k = refl
no_rules s q (Head h) k = absurd (k refl)
no_rules s q Clause k = refl
no_rules s q (Atomic a) k = refl
no_rules s q (Change u) k = refl
no_rules s q Cut k = refl
no_rules s q Unknown k = refl

module _ (s : List ℕ) (v : List Value) (q : ℕ) (x : Record) (t : Seen) (d : List ℕ) where
  pub looks_other : (kind_of x ≡ 33 → ⊥) → Looks v (rules_of s q x) t d t d
  looks_other n = (omega arith, rw (no_rules s q x n) (goes_none v t d))

  module _ (h : RuleHead) (k : x ≡ Head h) (b : Bool) (e : b ≡ all_hold v (clauses_at s q)) where
    pub looks_head_disabled : b ≡ false → Looks v (rules_of s q x) t d t d
    unfolding rules_of
    looks_head_disabled z = (omega arith, rw k (goes_disabled v (rule_at s q h) t d (sym e ∙ z)))

    pub looks_head : b ≡ true → (t' : Seen) (d' : List ℕ) → Adds h t d t' d' → Looks v (rules_of s q x) t d t' d'
    unfolding rules_of
    looks_head z t' d' a = (a.0, rw k (a.2 v (clauses_at s q) (gather (records (drop q s))).updates (sym e ∙ z)))

-- ---- by an index: the rules listed, as the code cuts their words out, and those from `rest` on
module _ (s d : List ℕ) (from n : ℕ) (e : from ≡ min 2 (length d)) (f : n ≡ listed_in d) where
  pub told_by_lem : (rest : ℕ) → rest ≡ get_or d 1 0 → (v : List Value) (o : List ℕ) (t : Seen) (o' : List ℕ) (t' : Seen) (o'' : List ℕ) →
      GoesOn v (listed s (take (from + 2 * n - from) (drop from d))) (record { count = 0; busy = false }) o t o' → GoesOn v (rules_from s rest) t o' t' o'' →
      Told v (rules_by s d) o t' o''
  unfolding rules_by
  told_by_lem rest g v o t o' t' o'' a b =
      let q : rules_in s (take (from + 2 * n - from) (drop from d)) rest ≡ rules_in s (words_in d) (get_or d 1 0) = rw (words_same d from (from + 2 * n) e (rw f), g) in
      let z : Seen = record { count = 0; busy = false } in
      rw (← q)
      ((goes_then v z o (listed s (take (from + 2 * n - from) (drop from d))) (rules_from s rest) t o' t' o'' a b).goes [] o (told_none v o))

-- the same, by the words and the place as they are made of the index
pub told_new : (s d words : List ℕ) (rest : ℕ) → words ≡ words_in d → rest ≡ get_or d 1 0 → (v : List Value) (o : List ℕ) (t : Seen) (o' : List ℕ) (t' : Seen) (o'' : List ℕ) →
    GoesOn v (listed s words) (record { count = 0; busy = false }) o t o' → GoesOn v (rules_from s rest) t o' t' o'' → Told v (rules_by s d) o t' o''
unfolding rules_by
told_new s d words rest e f v o t o' t' o'' a b =
    let z : Seen = record { count = 0; busy = false } in
    rw (← e, ← f) ((goes_then v z o (listed s words) (rules_from s rest) t o' t' o'' a b).goes [] o (told_none v o))
