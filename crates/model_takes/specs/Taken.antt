-- Laws of a record that is taken: refused, added, or no record at all.
use Rattle.std.specs.Prelude.{◌≡◌, refl, true, false, List, ℕ}
use Rattle.std.proofs.Common.{◌∙◌}
use Rattle.records.specs.declared.Cause.{Cause}
use Rattle.records.specs.declared.Cause.TheVariants.{WrongKind, CutRecord}
use Rattle.records.specs.Refusals.{number_of, is_none}
use Rattle.model_format.specs.declared.Model.{Model}
use Rattle.model_format.specs.declared.Record.{Record}
use Rattle.model_format.specs.declared.Record.TheVariants.{Cut, Unknown}
use Rattle.model_format.specs.Reading.{cause_of, add_record}
use Rattle.model_takes.specs.Took.{taken, Took}

module _ (c : Cause) (m : Model) (r : Record) where
  pub taken_not : is_none c ≡ false → m ≡ taken c m r
  unfolding taken
  taken_not h = rw h

  pub taken_as : (x : Model) (v : Record) → is_none c ≡ true → r ≡ v → x ≡ add_record m v → x ≡ taken c m r
  unfolding taken
  taken_as x v h e f = f ∙ rw (h, e)

pub took_as : (last : ℕ) (l : List ℕ) (r v : Record) (c : Cause) (x : List ℕ) → Took last l r c x → r ≡ v → Took last l v c x
took_as last l r v c x t e = rw (← e) t

-- what is no record is refused
pub took_unknown : (last : ℕ) (l : List ℕ) (r : Record) → Unknown ≡ r → Took last l r WrongKind l
unfolding cause_of taken number_of
took_unknown last l r e = rw (← e) (refl, refl)

pub took_cut : (last : ℕ) (l : List ℕ) (r : Record) → Cut ≡ r → Took last l r CutRecord l
unfolding cause_of taken number_of
took_cut last l r e = rw (← e) (refl, refl)
