-- The rules of an event kind and id are those of its group, and a table is busy where some group but REQUEST's is.
use Rattle.std.specs.Prelude.{◌≡◌, Bool, true, cond, ◌&&◌, ◌||◌, not}
use Rattle.std.proofs.Math.Path.{refl}
use Rattle.std.proofs.Common.{sym, ◌∙◌}
use Rattle.std.proofs.Math.Bool.{false, and-false, or_assoc, and-or_distrib_left}
use mathlib.Core.List.{List, [], ◌∷◌, ◌++◌, append-nil}
use Prim.Native.Nat.{ℕ, zero, suc, ◌<◌, ◌≤◌}
use native.Mathlib.Omega.{arith}
use Rattle.std.proofs.Math.Decide.{ℕ_discrete, dec_lt}
use Rattle.std.proofs.Math.Dec.{eqb, ltb}
use borrow.Author.Tests.{eq-eqb, ne_eqb, lt-ltb, le-ltb}
use Rattle.numbers.specs.declared.Value.{Value}
use Rattle.numbers.specs.Lists.{any_below, join_below}
use Rattle.records.specs.Events.{activate_kind, deactivate_kind, dispatch_kind, start_kind, complete_kind, deadline_kind, miss_kind, request_kind, enter_kind, leave_kind}
use Rattle.table_format.specs.RuleKinds.{is_one_of}
use Rattle.table_format.specs.Table.{Rule}
use Rattle.table_format.specs.All.{All}
use Rattle.table_semantics.specs.Rules.{all_hold, is_enabled, enabled_rules}
use Rattle.table_semantics.specs.Machine.{is_busy}
use Rattle.model_format.specs.declared.Model.{Model}
use Rattle.translation.specs.Parts.{Body, stamped, Group, rules_of_groups}
use Rattle.translation.specs.Rules.{activate_rules, deactivate_rules, dispatch_rules, start_rules, complete_rules, deadline_rules, miss_rules, request_rules, enter_rules, leave_rules, items_of, timing_rules, rules_for, groups_for, groups_of}

-- the bodies whose clauses all hold
unfoldable pub enabled_bodies : List Value → List Body → List Body
enabled_bodies v [] = []
enabled_bodies v (b ∷ l) =
    let rest = enabled_bodies v l in
    cond (all_hold v b.clauses) (b ∷ rest) rest

-- the bodies that a table of groups holds for a kind and id
unfoldable pub bodies_for : ℕ → ℕ → List Group → List Body
bodies_for kind id [] = []
bodies_for kind id (g ∷ l) = cond (eqb g.kind kind && ltb id g.count) (g.bodies id) [] ++ bodies_for kind id l

-- ---- lists
pub enabled_append : (v : List Value) (a b : List Body) → enabled_bodies v (a ++ b) ≡ enabled_bodies v a ++ enabled_bodies v b
unfolding enabled_bodies
enabled_append v [] b = refl
enabled_append v (x ∷ a) b = rw (enabled_append v a b) (go (all_hold v x.clauses))
  where
    go : (c : Bool) → cond c (x ∷ (enabled_bodies v a ++ enabled_bodies v b)) (enabled_bodies v a ++ enabled_bodies v b) ≡ cond c (x ∷ enabled_bodies v a) (enabled_bodies v a) ++ enabled_bodies v b
    go true = refl
    go false = refl

stamped_append : (k i : ℕ) (a b : List Body) → stamped k i (a ++ b) ≡ stamped k i a ++ stamped k i b
unfolding stamped
stamped_append k i [] b = refl
stamped_append k i (x ∷ a) b = rw (stamped_append k i a b)

rules_append : (v : List Value) (k i : ℕ) (a b : List Rule) → enabled_rules v k i (a ++ b) ≡ enabled_rules v k i a ++ enabled_rules v k i b
unfolding enabled_rules
rules_append v k i [] b = refl
rules_append v k i (r ∷ a) b = rw (rules_append v k i a b) (go ((eqb r.head.kind k && eqb r.head.id i) && is_enabled v r))
  where
    go : (c : Bool) → cond c (r ∷ (enabled_rules v k i a ++ enabled_rules v k i b)) (enabled_rules v k i a ++ enabled_rules v k i b) ≡ cond c (r ∷ enabled_rules v k i a) (enabled_rules v k i a) ++ enabled_rules v k i b
    go true = refl
    go false = refl

-- ---- rules of one item: its own kind and id, another
stamped_own : (v : List Value) (k i : ℕ) (l : List Body) → enabled_rules v k i (stamped k i l) ≡ stamped k i (enabled_bodies v l)
unfolding enabled_rules stamped enabled_bodies
stamped_own v k i [] = refl
stamped_own v k i (b ∷ l) = rw (eq-eqb k k refl, eq-eqb i i refl, stamped_own v k i l) (go (all_hold v b.clauses))
  where
    go : (c : Bool) →
        cond c (record { head = record { kind = k; id = i; low = b.low; high = b.high }; clauses = b.clauses; updates = b.updates } ∷ stamped k i (enabled_bodies v l)) (stamped k i (enabled_bodies v l))
        ≡ stamped k i (cond c (b ∷ enabled_bodies v l) (enabled_bodies v l))
    go true = refl
    go false = refl

stamped_other : (v : List Value) (k i q j : ℕ) (l : List Body) → (eqb q k && eqb j i) ≡ false → enabled_rules v k i (stamped q j l) ≡ []
unfolding enabled_rules stamped
stamped_other v k i q j [] h = refl
stamped_other v k i q j (b ∷ l) h = rw (h, stamped_other v k i q j l h)

-- ---- rules of one kind
abbrev pub rules_of_group : ℕ → ℕ → (ℕ → List Body) → List Rule
rules_of_group kind n f = join_below n (λ i. stamped kind i (f i))

module _ (v : List Value) (f : ℕ → List Body) where
  group_other : (k i q n : ℕ) → eqb q k ≡ false → enabled_rules v k i (rules_of_group q n f) ≡ []
  unfolding join_below enabled_rules
  group_other k i q zero h = refl
  group_other k i q (suc n) h = rw (rules_append v k i (rules_of_group q n f) (stamped q n (f n)), group_other k i q n h, stamped_other v k i q n (f n) (rw h))

  group_past : (k i n : ℕ) → n ≤ i → enabled_rules v k i (rules_of_group k n f) ≡ []
  unfolding join_below enabled_rules
  group_past k i zero h = refl
  group_past k i (suc n) h =
      let ne : eqb n i ≡ false = ne_eqb n i (λ e. omega arith) in
      rw (rules_append v k i (rules_of_group k n f) (stamped k n (f n)), group_past k i n (omega arith), stamped_other v k i k n (f n) (rw (ne, eq-eqb k k refl)))

  group_at : (k i n : ℕ) → i < n → enabled_rules v k i (rules_of_group k n f) ≡ stamped k i (enabled_bodies v (f i))
  unfolding join_below
  group_at k i zero h = absurd (omega arith)
  group_at k i (suc n) h = rules_append v k i (rules_of_group k n f) (stamped k n (f n)) ∙ go (λ l. group_at k i n l) (ℕ_discrete n i)
    where
      go : (i < n → enabled_rules v k i (rules_of_group k n f) ≡ stamped k i (enabled_bodies v (f i))) → Dec (n ≡ i) →
          enabled_rules v k i (rules_of_group k n f) ++ enabled_rules v k i (stamped k n (f n)) ≡ stamped k i (enabled_bodies v (f i))
      go ih (yes e) = rw (group_past k i n (omega arith), e) (stamped_own v k i (f i))
      go ih (no e) =
          let ne : eqb n i ≡ false = ne_eqb n i e in
          rw (ih (omega arith), stamped_other v k i k n (f n) (rw (ne, eq-eqb k k refl))) (append-nil _)

  group_rules_lem : (k i q n : ℕ) → enabled_rules v k i (rules_of_group q n f) ≡ stamped k i (enabled_bodies v (cond (eqb q k && ltb i n) (f i) []))
  unfolding stamped enabled_bodies
  group_rules_lem k i q n = go (ℕ_discrete q k) (dec_lt i n)
    where
      go : Dec (q ≡ k) → Dec (i < n) → enabled_rules v k i (rules_of_group q n f) ≡ stamped k i (enabled_bodies v (cond (eqb q k && ltb i n) (f i) []))
      go (no e) d = rw (ne_eqb q k e) (group_other k i q n (ne_eqb q k e))
      go (yes e) (yes l) = rw (e, eq-eqb k k refl, lt-ltb i n l) (group_at k i n l)
      go (yes e) (no l) = let p : n ≤ i = omega arith in rw (e, eq-eqb k k refl, le-ltb i n p) (group_past k i n p)

-- ---- the enabled rules of a kind and id, in every table made of groups
pub enabled_rules_lem : (v : List Value) (k i : ℕ) (gs : List Group) → enabled_rules v k i (rules_of_groups gs) ≡ stamped k i (enabled_bodies v (bodies_for k i gs))
unfolding rules_of_groups bodies_for enabled_rules stamped enabled_bodies
enabled_rules_lem v k i [] = refl
enabled_rules_lem v k i (g ∷ gs) =
    rw (
      rules_append v k i (rules_of_group g.kind g.count g.bodies) (rules_of_groups gs),
      group_rules_lem v g.bodies k i g.kind g.count,
      enabled_rules_lem v k i gs,
      enabled_append v (cond (eqb g.kind k && ltb i g.count) (g.bodies i) []) (bodies_for k i gs),
      stamped_append k i (enabled_bodies v (cond (eqb g.kind k && ltb i g.count) (g.bodies i) [])) (enabled_bodies v (bodies_for k i gs)),
    )

-- ---- a model's groups: at each kind the one group
module _ (m : Model) (i : ℕ) where
  pub bodies_activate : bodies_for activate_kind i (groups_of m) ≡ cond (ltb i m.timing.threads) (activate_rules m.timing i) []
  unfolding bodies_for groups_for items_of timing_rules rules_for is_one_of
  bodies_activate = append-nil _

  pub bodies_deactivate : bodies_for deactivate_kind i (groups_of m) ≡ cond (ltb i m.timing.threads) (deactivate_rules m.timing i) []
  unfolding bodies_for groups_for items_of timing_rules rules_for is_one_of
  bodies_deactivate = append-nil _

  pub bodies_dispatch : bodies_for dispatch_kind i (groups_of m) ≡ cond (ltb i m.timing.threads) (dispatch_rules m.timing i) []
  unfolding bodies_for groups_for items_of timing_rules rules_for is_one_of
  bodies_dispatch = append-nil _

  pub bodies_start : bodies_for start_kind i (groups_of m) ≡ cond (ltb i m.timing.threads) (start_rules m.timing i) []
  unfolding bodies_for groups_for items_of timing_rules rules_for is_one_of
  bodies_start = append-nil _

  pub bodies_complete : bodies_for complete_kind i (groups_of m) ≡ cond (ltb i m.timing.threads) (complete_rules m i) []
  unfolding bodies_for groups_for items_of timing_rules rules_for is_one_of
  bodies_complete = append-nil _

  pub bodies_deadline : bodies_for deadline_kind i (groups_of m) ≡ cond (ltb i m.timing.threads) (deadline_rules m.timing i) []
  unfolding bodies_for groups_for items_of timing_rules rules_for is_one_of
  bodies_deadline = append-nil _

  pub bodies_miss : bodies_for miss_kind i (groups_of m) ≡ cond (ltb i m.timing.threads) (miss_rules m.timing i) []
  unfolding bodies_for groups_for items_of timing_rules rules_for is_one_of
  bodies_miss = append-nil _

  pub bodies_request : bodies_for request_kind i (groups_of m) ≡ cond (ltb i m.timing.switches) (request_rules m.timing i) []
  unfolding bodies_for groups_for items_of timing_rules rules_for is_one_of
  bodies_request = append-nil _

  pub bodies_enter : bodies_for enter_kind i (groups_of m) ≡ cond (ltb i m.timing.switches) (enter_rules m.timing i) []
  unfolding bodies_for groups_for items_of timing_rules rules_for is_one_of
  bodies_enter = append-nil _

  pub bodies_leave : bodies_for leave_kind i (groups_of m) ≡ cond (ltb i m.timing.switches) (leave_rules m.timing i) []
  unfolding bodies_for groups_for items_of timing_rules rules_for is_one_of
  bodies_leave = append-nil _

-- ---- some rule is enabled
unfoldable pub any_enabled : List Value → List Body → Bool
any_enabled v [] = false
any_enabled v (b ∷ l) = all_hold v b.clauses || any_enabled v l

-- a kind that stops TICK has an enabled rule
abbrev pub group_busy : List Value → Group → Bool
group_busy v g = not (eqb g.kind request_kind) && any_below g.count (λ i. any_enabled v (g.bodies i))

unfoldable pub groups_busy : List Value → List Group → Bool
groups_busy v [] = false
groups_busy v (g ∷ l) = group_busy v g || groups_busy v l

busy_append : (v : List Value) (a b : List Rule) → is_busy v (a ++ b) ≡ (is_busy v a || is_busy v b)
unfolding is_busy
busy_append v [] b = refl
busy_append v (r ∷ a) b = rw (busy_append v a b) (sym (or_assoc (not (eqb r.head.kind request_kind) && is_enabled v r) (is_busy v a) (is_busy v b)))

stamped_busy : (v : List Value) (k i : ℕ) (l : List Body) → is_busy v (stamped k i l) ≡ (not (eqb k request_kind) && any_enabled v l)
unfolding is_busy stamped any_enabled
stamped_busy v k i [] = sym (and-false (not (eqb k request_kind)))
stamped_busy v k i (b ∷ l) = rw (stamped_busy v k i l) (sym (and-or_distrib_left (not (eqb k request_kind)) (all_hold v b.clauses) (any_enabled v l)))

group_busy_lem : (v : List Value) (k n : ℕ) (f : ℕ → List Body) → is_busy v (rules_of_group k n f) ≡ (not (eqb k request_kind) && any_below n (λ i. any_enabled v (f i)))
unfolding join_below is_busy any_below
group_busy_lem v k zero f = sym (and-false (not (eqb k request_kind)))
group_busy_lem v k (suc n) f =
    rw (busy_append v (rules_of_group k n f) (stamped k n (f n)), group_busy_lem v k n f, stamped_busy v k n (f n))
    (sym (and-or_distrib_left (not (eqb k request_kind)) (any_below n (λ i. any_enabled v (f i))) (any_enabled v (f n))))

-- "any enabled rule not of kind 08": by groups
pub busy_groups : (v : List Value) (gs : List Group) → is_busy v (rules_of_groups gs) ≡ groups_busy v gs
unfolding rules_of_groups is_busy groups_busy
busy_groups v [] = refl
busy_groups v (g ∷ gs) =
    rw (busy_append v (rules_of_group g.kind g.count g.bodies) (rules_of_groups gs), group_busy_lem v g.kind g.count g.bodies, busy_groups v gs)

-- ---- one enabled body or none, and whether there is one
is_some : List Body → Bool
is_some [] = false
is_some (b ∷ l) = true

some_enabled : (v : List Value) (l : List Body) → any_enabled v l ≡ is_some (enabled_bodies v l)
unfolding any_enabled enabled_bodies is_some
some_enabled v [] = refl
some_enabled v (b ∷ l) = rw (some_enabled v l) (go (all_hold v b.clauses))
  where
    go : (c : Bool) → (c || is_some (enabled_bodies v l)) ≡ is_some (cond c (b ∷ enabled_bodies v l) (enabled_bodies v l))
    go true = refl
    go false = refl

pub any_of_one : (v : List Value) (l : List Body) (c : Bool) (b : Body) → enabled_bodies v l ≡ cond c (b ∷ []) [] → any_enabled v l ≡ c
unfolding is_some
any_of_one v l c b e = some_enabled v l ∙ rw e (go c)
  where
    go : (c : Bool) → is_some (cond c (b ∷ []) []) ≡ c
    go true = refl
    go false = refl

pub single_enabled : (v : List Value) (b : Body) (c : Bool) → all_hold v b.clauses ≡ c → enabled_bodies v (b ∷ []) ≡ cond c (b ∷ []) []
unfolding enabled_bodies
single_enabled v b c e = rw e

-- ---- rules that differ by State: f has those for each of the codes l, no code twice; just the rule g of the code that the thread has is
-- enabled, where p passes for it
unfoldable pub per_code : List ℕ → (ℕ → List Body) → List Body
per_code [] f = []
per_code (c ∷ l) f = f c ++ per_code l f

unfoldable pub Differ : List ℕ → Type 0
Differ [] = Unit {0}
Differ (c ∷ l) = (is_one_of l c ≡ false) × Differ l

pub by_state : (v : List Value) (code : ℕ) (l : List ℕ) (f : ℕ → List Body) (g : ℕ → Body) (p : ℕ → Bool) → Differ l →
    All (λ (c : ℕ). enabled_bodies v (f c) ≡ cond (eqb code c && p c) (g c ∷ []) []) l → enabled_bodies v (per_code l f) ≡ cond (is_one_of l code && p code) (g code ∷ []) []
unfolding per_code Differ is_one_of enabled_bodies
by_state v code [] f g p d h = refl
by_state v code (c ∷ l) f g p d h = enabled_append v (f c) (per_code l f) ∙ rw (h.0, by_state v code l f g p d.1 h.1) (go (ℕ_discrete code c))
  where
    go : Dec (code ≡ c) → cond (eqb code c && p c) (g c ∷ []) [] ++ cond (is_one_of l code && p code) (g code ∷ []) [] ≡ cond ((eqb code c || is_one_of l code) && p code) (g code ∷ []) []
    go (yes e) = rw (e, eq-eqb c c refl, d.0) (append-nil _)
    go (no n) = rw (ne_eqb code c n)
