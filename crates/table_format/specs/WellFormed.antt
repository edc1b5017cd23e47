-- What a table has whose bytes are accepted and stand for it: each number in its range, and in the bytes that it has.
use Rattle.std.specs.Prelude.{◌≡◌, Bool, true, false, cond, ◌&&◌, ◌||◌, length, eqb, ltb, leb, pos}
use Rattle.std.proofs.Common.{refl, sym, ◌∙◌, arith, SFits, le-leb, ltb-true, leb-true, eqb-true, List, [], ◌∷◌, ◌++◌, append-nil, ℕ, zero, suc, ◌+◌, ◌^◌, ◌<◌, ◌≤◌}
use Rattle.std.proofs.lemmas.Bool.{false≢true}
use Rattle.std.specs.Int.Signed.{lt_z}
use Rattle.std.specs.Int.{w32}
use Rattle.numbers.specs.declared.Value.{Value}
use Rattle.numbers.specs.Lists.{join_below, only}
use Rattle.records.specs.declared.Operand.{Operand}
use Rattle.records.specs.Events.{start_kind}
use Rattle.table_format.specs.declared.InitialValue.{InitialValue}
use Rattle.table_format.specs.declared.RuleHead.{RuleHead}
use Rattle.table_format.specs.declared.Atom.{Atom}
use Rattle.table_format.specs.declared.Update.{Update}
use Rattle.table_format.specs.declared.Record.{Record}
use Rattle.table_format.specs.declared.Record.TheVariants.{Initial, Head, Clause, Atomic, Change, Cut, Unknown}
use Rattle.table_format.specs.All.{All, all_join, all_only}
use Rattle.table_format.specs.Variables.{is_variable, variables, no_variable}
use Rattle.table_format.specs.RuleKinds.{has_rules}
use Rattle.table_format.specs.KindLaws.{kind_small}
use Rattle.table_format.specs.VariableLaws.{variable_there, variable_small}
use Rattle.table_format.specs.Table.{Rule, Table, encode}
use Rattle.table_format.specs.FieldFaults.{and_split}
use Rattle.table_format.specs.Reading.{names_variable, operand_fits, initial_fits, longest_length, head_fits, atom_fits, update_fits, longest_table}

-- ---- a record's numbers go into their bytes
abbrev pub FitsOperand : Operand → Type 0
FitsOperand o = (o.tag < 256) × SFits w32 o.value.0

abbrev pub Fits : Record → Type 0
Fits (Initial x) = (x.variable < 65536) × SFits w32 x.value.0
Fits (Head x) = (x.kind < 256) × (x.id < 256) × (x.low < 2 ^ 32) × (x.high < 2 ^ 32)
Fits Clause = Unit {0}
Fits (Atomic x) = (x.op < 256) × (x.variable < 65536) × FitsOperand x.right
Fits (Change x) = (x.condition < 65536) × (x.wanted < 256) × (x.target < 65536) × (x.op < 256) × FitsOperand x.first × FitsOperand x.second
Fits Cut = ⊥
Fits Unknown = ⊥

-- ---- the parts of a table: the reader's own tests, and the bytes of what they leave free
pub record GoodAtom (a : Atom) : Type 0 where
  pub fits : atom_fits a ≡ true
  pub right : SFits w32 a.right.value.0

-- in a rule for events of the kind
pub record GoodUpdate (kind : ℕ) (u : Update) : Type 0 where
  pub fits : update_fits kind u ≡ true
  pub wanted : u.wanted < 256
  pub first : SFits w32 u.first.value.0
  pub second : SFits w32 u.second.value.0

pub record GoodRule (x : Rule) : Type 0 where
  pub head : head_fits x.head ≡ true
  pub id : x.head.id < 256
  pub clauses : All (All GoodAtom) x.clauses
  pub updates : All (GoodUpdate x.head.kind) x.updates

-- initial values by rising variables, from the least on
abbrev pub Rising : ℕ → List InitialValue → Type 0
Rising least [] = Unit {0}
Rising least (x ∷ l) = (initial_fits least x ≡ true) × SFits w32 x.value.0 × Rising (x.variable + 1) l

pub record WellFormedTable (t : Table) : Type 0 where
  pub initial : Rising 1 t.initial
  pub rules : All GoodRule t.rules
  pub short : length (encode t) ≤ longest_table

-- ---- what passes the tests goes into its bytes
condition_small : (n : ℕ) → (eqb n no_variable || is_variable n) ≡ true → n < 65536
condition_small n h = go (eqb n no_variable) refl
  where
    go : (b : Bool) → eqb n no_variable ≡ b → n < 65536
    go true e = let q = eqb-true n no_variable e in omega arith
    go false e = variable_small n (rw e at h)

-- a tag is at most 2
tag_small : (b : Bool) (o : Operand) → operand_fits b o ≡ true → o.tag < 256
unfolding operand_fits
tag_small b o h = zeroth (eqb o.tag 0) refl h
  where
    first : (x : Bool) → eqb o.tag 1 ≡ x → cond x (names_variable o.value.0) (b && eqb o.tag 2) ≡ true → o.tag < 256
    first true e h = let q = eqb-true o.tag 1 e in omega arith
    first false e h = let q = eqb-true o.tag 2 (and_split b (eqb o.tag 2) h).1 in omega arith

    zeroth : (x : Bool) → eqb o.tag 0 ≡ x → cond x true (cond (eqb o.tag 1) (names_variable o.value.0) (b && eqb o.tag 2)) ≡ true → o.tag < 256
    zeroth true e h = let q = eqb-true o.tag 0 e in omega arith
    zeroth false e h = first (eqb o.tag 1) refl h

pub initial_fits_lem : (least : ℕ) (x : InitialValue) → initial_fits least x ≡ true → SFits w32 x.value.0 → Fits (Initial x)
unfolding initial_fits
initial_fits_lem least x h f = (variable_small x.variable (and_split (leb least x.variable) _ h).1, f)

pub head_fits_lem : (x : RuleHead) → head_fits x ≡ true → x.id < 256 → Fits (Head x)
unfolding head_fits
head_fits_lem x h i =
    let (a, h₁) = and_split (has_rules x.kind) _ h in
    let (c, d) = and_split (leb x.low x.high) _ h₁ in
    let k = kind_small x.kind a in
    let l = leb-true x.low x.high c in
    let m = leb-true x.high _ d in
    let n = most (eqb x.kind start_kind) in
    (omega arith, i, omega arith, omega arith)
  where
    most : (b : Bool) → cond b longest_length 0 ≤ longest_length
    most true = omega arith
    most false = omega arith

pub atom_fits_lem : (a : Atom) → GoodAtom a → Fits (Atomic a)
unfolding atom_fits
atom_fits_lem a g =
    let (p, h₁) = and_split (ltb a.op 8) _ g.fits in
    let (q, r) = and_split (is_variable a.variable) _ h₁ in
    let l = ltb-true a.op 8 p in
    (omega arith, variable_small a.variable q, (tag (ltb a.op 6) r, g.right))
  where
    tag : (b : Bool) → cond b (operand_fits false a.right) (eqb a.right.tag 0 && lt_z (pos 0) a.right.value.0) ≡ true → a.right.tag < 256
    tag true h = tag_small false a.right h
    tag false h = let q = eqb-true a.right.tag 0 (and_split (eqb a.right.tag 0) _ h).0 in omega arith

pub update_fits_lem : (kind : ℕ) (u : Update) → GoodUpdate kind u → Fits (Change u)
unfolding update_fits
update_fits_lem kind u g =
    let (a, h₁) = and_split (eqb u.condition no_variable || is_variable u.condition) _ g.fits in
    let (b, h₂) = and_split (ltb 0 u.target) _ h₁ in
    let (c, h₃) = and_split (is_variable u.target) _ h₂ in
    let (d, h₄) = and_split (ltb u.op 3) _ h₃ in
    let (e, f) = and_split (operand_fits (eqb kind start_kind) u.first) _ h₄ in
    let l = ltb-true u.op 3 d in (
      condition_small u.condition a,
      g.wanted,
      variable_small u.target c,
      omega arith,
      (tag_small (eqb kind start_kind) u.first e, g.first),
      (tag_small (eqb kind start_kind) u.second f, g.second),
    )

-- ---- initial values for the variables below n that a test picks
rising_more : (l : List InitialValue) (least : ℕ) (x : InitialValue) → Rising least l → All (λ y. y.variable < x.variable) l → least ≤ x.variable →
    x.variable < variables → SFits w32 x.value.0 → Rising least (l ++ x ∷ [])
unfolding initial_fits
rising_more [] least x h k l v f = (rw (le-leb least x.variable l, variable_there x.variable v), f, tt)
rising_more (y ∷ l) least x h k i v f = (h.0, h.1, rising_more l (y.variable + 1) x h.2 k.1 (omega (arith, k.0)) v f)

module _ (picked : ℕ → Bool) (value : ℕ → Value) (first : picked 0 ≡ false) (fits : (j : ℕ) → SFits w32 (value j).0) where
  pub rising_picked : (n : ℕ) → n ≤ variables → Rising 1 (join_below n (λ j. only (picked j) (record { variable = j; value = value j })))
  unfolding join_below
  rising_picked zero h = tt
  rising_picked (suc n) h = go (picked n) refl (rising_picked n (omega arith))
    where
      before : List InitialValue
      before = join_below n (λ j. only (picked j) (record { variable = j; value = value j }))

      small : All (λ (y : InitialValue). y.variable < n) before
      small = all_join (λ (y : InitialValue). y.variable < n) n (λ j. only (picked j) (record { variable = j; value = value j }))
          (λ i l. all_only (λ (y : InitialValue). y.variable < n) (picked i) (record { variable = i; value = value i }) (λ e. l))

      rest : (n : ℕ) → picked n ≡ true → 1 ≤ n
      rest zero e = absurd (false≢true (sym first ∙ e))
      rest (suc n) e = omega arith

      go : (b : Bool) → picked n ≡ b → Rising 1 before → Rising 1 (before ++ only b (record { variable = n; value = value n }))
      go true e r = rising_more before 1 (record { variable = n; value = value n }) r small (rest n e) (omega arith) (fits n)
      go false e r = rw (append-nil before) r
