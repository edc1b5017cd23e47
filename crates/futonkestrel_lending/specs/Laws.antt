-- Laws of lent variables: a loop that writes them, and variables that an event changes where they lie.
use Rattle.std.specs.Prelude.{◌≡◌, refl, List, [], ◌∷◌, ◌++◌, ℕ, ◌+◌, ◌≤◌, ◌<◌, get_or, length, take, drop, set}
use Rattle.std.proofs.Common.{sym, ◌∙◌, ap, arith, add-one, length-take-le, Fits, lt-ltb}
use Rattle.std.proofs.lemmas.List.Edits.{sets, sets-eq}
use Rattle.std.proofs.Math.Seq.{length-sets}
use Rattle.std.proofs.Math.ListN.{length-set}
use Rattle.std.specs.Int.{w32}
use mir.ValLaws.{of_z-to_z}
use Rattle.numbers.specs.declared.Value.{Value}
use Rattle.numbers.specs.Lists.{list_below}
use Rattle.numbers.specs.ListLaws.{length_list_below, list_below_is}
use Rattle.numbers.specs.Values.{natural, bits_of}
use Rattle.table_format.specs.Variables.{variables}
use Rattle.table_semantics.specs.declared.Variables.{Variables}
use Rattle.table_semantics.specs.Runs.{variables_of}
use Rattle.table_rules.specs.Bits.{value_within}
use Rattle.table_writer.specs.Written.{sets_append}
use Rattle.futonkestrel_lending.specs.Lending.{lent_as, LendsAll, numbers_of}

-- ---- writing: the numbers of the first j variables are in the slice
abbrev pub first_numbers : (ℕ → ℕ) → ℕ → List ℕ
first_numbers f j = list_below j f

list_next : (j : ℕ) (f : ℕ → ℕ) → list_below (j + 1) f ≡ list_below j f ++ (f j ∷ [])
unfolding list_below
list_next j f = rw (add-one j)

pub no_number_yet : (d : List ℕ) (f : ℕ → ℕ) → d ≡ sets d 0 (first_numbers f 0)
unfolding list_below
no_number_yet d f = refl

pub one_number_more : (d₀ : List ℕ) {d e : List ℕ} (f : ℕ → ℕ) (j : ℕ) (x : ℕ) → d ≡ sets d₀ 0 (first_numbers f j) → x ≡ f j → e ≡ set d j x → e ≡ sets d₀ 0 (first_numbers f (j + 1))
one_number_more d₀ {d} f j x h q g =
    let l = sets_append d₀ (first_numbers f j) (f j ∷ []) 0 in
    let n : 0 + length (first_numbers f j) ≡ j = let z = length_list_below j f in omega arith in
    rw (list_next j f, l, n, ← h, ← q) g

-- d₀ has become d, with the first j numbers in it
pub record Lending (gives : ℕ → ℕ → Type 0) (d₀ d : List ℕ) (j : ℕ) : Type 0 where
  pub same : length d ≡ length d₀
  pub first : (f : ℕ → ℕ) → ((k n : ℕ) → k < variables → gives k n → n ≡ f k) → d ≡ sets d₀ 0 (first_numbers f j)

pub lending_begins : (gives : ℕ → ℕ → Type 0) (d : List ℕ) → Lending gives d d 0
lending_begins gives d = record { same = refl; first = λ f h. no_number_yet d f }

module _ {gives : ℕ → ℕ → Type 0} {d₀ d : List ℕ} {j : ℕ} (l : Lending gives d₀ d j) where
  pub lending_on : {e : List ℕ} {x : ℕ} → j < variables → gives j x → e ≡ set d j x → Lending gives d₀ e (j + 1)
  lending_on {x = x} h g q = record {
    same = ap length q ∙ length-set d j x ∙ l.same;
    first = λ f k. one_number_more d₀ f j x (l.first f k) (k j x h g) q;
  }

  pub lending_ends : j ≡ variables → LendsAll gives d₀ d
  lending_ends e = λ f k. rw e at (l.first f k)

pub within : (s : Variables) (j : ℕ) → j < variables → (n : ℕ) → n ≡ bits_of (get_or s.value j (natural 0)).0 → n ≡ numbers_of s j
within s j h n e = rw (numbers_of, lt-ltb j variables h) e

-- the loop has come to its end
at_end : (P : ℕ → Type 0) (n j : ℕ) → j ≤ n → n ≤ j → P j → P n
at_end P n j h l p = let e : n ≡ j = omega arith in rw e p

pub all_numbers : (d₀ : List ℕ) {d : List ℕ} (f : ℕ → ℕ) (j : ℕ) → j ≤ variables → variables ≤ j → d ≡ sets d₀ 0 (first_numbers f j) → d ≡ lent_as d₀ f
all_numbers d₀ {d} f j h l p = at_end (λ k. d ≡ sets d₀ 0 (first_numbers f k)) variables j h l p

pub same_size : (d₀ : List ℕ) {d : List ℕ} (f : ℕ → ℕ) (j : ℕ) → d ≡ sets d₀ 0 (first_numbers f j) → length d ≡ length d₀
same_size d₀ f j p = ap length p ∙ length-sets d₀ 0 (first_numbers f j)

-- ---- the first n numbers of a list, lent: y, which is w, is what comes back
pub front_put : (n : ℕ) (d y w : List ℕ) → n ≤ length d → length y ≡ length (take n d) → y ≡ w → y ++ drop n d ≡ sets d 0 w
front_put n d y w h m e =
    let v : 0 + length w ≡ n = let k : length w ≡ n = ap length (sym e) ∙ m ∙ length-take-le n d h in omega arith in
    sym (sets-eq w d 0 (omega arith) ∙ ap (λ (k : ℕ). w ++ drop k d) v ∙ ap (λ (r : List ℕ). r ++ drop n d) (sym e))

-- ---- in place: all variables, by their bits v, stand before what lies behind them
module _ (v d : List ℕ) (n : length v ≡ variables) (h : variables ≤ length d) where
  numbers_back : ((k : ℕ) → k < variables → Fits w32 (get_or v k 0)) → list_below variables (numbers_of (variables_of v)) ≡ v
  numbers_back f =
      list_below_is variables (numbers_of (variables_of v)) v 0 n
      (λ j l. ap (λ (x : Value). bits_of x.0) (sym (value_within v j l)) ∙ of_z-to_z w32 (get_or v j 0) (f j l))

  pub lent_in_place : ((k : ℕ) → k < variables → Fits w32 (get_or v k 0)) → v ++ drop variables d ≡ lent_as d (numbers_of (variables_of v))
  lent_in_place f = sym (ap (sets d 0) (numbers_back f) ∙ sets-eq v d 0 (omega arith) ∙ rw n)
