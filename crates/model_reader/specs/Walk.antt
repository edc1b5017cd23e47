-- Reading a model record by record: what is read from a place on.
use Rattle.std.specs.Prelude.{◌≡◌, Bool, true, false, List, ◌++◌, ℕ, ◌+◌, ◌-◌, ◌<◌, ◌≤◌, take, drop, get_or}
use Rattle.std.proofs.Common.{sym, ◌∙◌, subst, append-nil, length-drop, drop_of_length-le, length-take-le, take_all, refl, ap, cond, arith, length, eq-eqb, ne_eqb}
use Rattle.records.specs.declared.Notation.TheVariants as notations
use Rattle.records.specs.declared.Cause.{Cause}
use Rattle.records.specs.declared.Cause.TheVariants.{WrongKind, CutRecord}
use Rattle.records.specs.declared.Refusal.{Refusal}
use Rattle.records.specs.Format.{record_size, part_length_at, parts}
use Rattle.records.specs.Walk.{part_size, parts_at, parts_end}
use Rattle.records.specs.Refusals.{number_of, is_none, in_model, no_refusal}
use Rattle.model_format.specs.declared.Model.{Model}
use Rattle.model_format.specs.declared.ModelRead.{ModelRead}
use Rattle.model_format.specs.declared.Reading.{Reading}
use Rattle.model_format.specs.declared.Record.{Record}
use Rattle.model_format.specs.Format.{record_of_whole, record_of, rank_of}
use Rattle.model_format.specs.Laws.{record_unknown, record_cut, record_whole}
use Rattle.model_format.specs.Model.{empty_model}
use Rattle.model_format.specs.Reading.{next_reading, read_from, read_model}
use Rattle.model_words.specs.Words.{model_words, model_in}
use Rattle.model_causes.specs.Readings.{reading_in}
use Rattle.model_reader.specs.Reads.{read_as, read_with}
use Rattle.model_takes.specs.Took.{taken, Took}
use Rattle.model_takes.specs.Taken.{took_as, took_unknown, took_cut}
use Rattle.model_reader.specs.Places.{end_at, record_at, record_slice, kind_slice, end_unknown, end_cut, end_whole}
use Rattle.model_reader.specs.Ranks.{rank_of_kind, rank_of_part}

-- the code's &s[p..q]
slice_length : (q : ℕ) (s : List ℕ) (p : ℕ) → p ≤ q → q ≤ length s → length (take (q - p) (drop p s)) ≡ q - p
slice_length q s p h l = length-take-le (q - p) (drop p s) (simp length-drop (omega arith))

abbrev pub read_at : List ℕ → ℕ → Reading → ModelRead
read_at s p a = read_from a p (parts notations.Model (drop p s))

abbrev pub refused_at : Cause → ℕ → ℕ → ModelRead
refused_at c p q = record { refusal = in_model c p q; model = empty_model }

-- the code's &mut l[..model_words] of a list that is just as long, which becomes k
module _ (l : List ℕ) (h : length l ≡ model_words) where
  pub front_length : model_words ≡ length (take model_words l)
  front_length = sym (length-take-le model_words l (omega arith))

  pub front_took : (last : ℕ) (r : Record) (c : Cause) (k : List ℕ) → Took last (take model_words l) r c k → Took last l r c (k ++ drop model_words l)
  front_took last r c k t =
      let a : take model_words l ≡ l = take_all model_words l (omega arith) in
      let b : k ++ drop model_words l ≡ k = ap (λ (d : List ℕ). k ++ d) (drop_of_length-le l {i = model_words} (omega arith)) ∙ append-nil k in
      subst (λ (x : List ℕ). Took last l r c x) (sym b) (subst (λ (x : List ℕ). Took last x r c k) a t)

pub read_begin : (s l : List ℕ) → model_in l ≡ empty_model → read_at s 0 (reading_in 0 l) ≡ read_model s
unfolding read_model
read_begin s l e = ap (λ (m : Model). read_from (record { last = 0; model = m }) 0 (parts notations.Model s)) e

module _ (s : List ℕ) (p q last : ℕ) (l : List ℕ) (c : Cause) (l' : List ℕ) (h : p < length s) (e : q ≡ end_at s p) (t : Took last l (record_of (take (q - p) (drop p s))) c l') where
  took_at : Took last l (record_at s p) c l'
  took_at = took_as last l _ _ c l' t (record_slice s p q e)

  read_on : (k : ℕ) → k ≡ get_or (take (q - p) (drop p s)) 0 0 → is_none c ≡ true → read_at s q (reading_in (rank_of_kind k) l') ≡ read_at s p (reading_in last l)
  unfolding read_from taken
  read_on k i n =
      let g = took_at.0 in
      let f : rank_of_kind k ≡ rank_of (record_at s p) = rank_of_part (reading_in last l) _ k i (rw (← t.0) n) ∙ ap rank_of (record_slice s p q e) in
      let b : reading_in (rank_of_kind k) l' ≡ next_reading (reading_in last l) (record_at s p) = rw f (ap (λ (m : Model). record { last = rank_of (record_at s p); model = m }) (took_at.1 ∙ rw n)) in
      rw (e, parts_at notations.Model s p _ h refl, ← g, n, part_size notations.Model s p _ h refl, b)

  read_refused : (y : Refusal) → is_none c ≡ false → y ≡ in_model c p q → read_with y l' ≡ read_at s p (reading_in last l)
  unfolding read_from
  read_refused y n i =
      let g = took_at.0 in
      let z : refused_at c p q ≡ read_at s p (reading_in last l) = rw (e, parts_at notations.Model s p _ h refl, ← g, n, part_size notations.Model s p _ h refl) in
      ap (λ (w : Refusal). read_with w l') i ∙ ap (λ (b : Bool). record { refusal = in_model c p q; model = cond b (model_in l') empty_model }) n ∙ z

-- by the size m of records of its kind k
module _ (s : List ℕ) (p k m last : ℕ) (l : List ℕ) (h : p < length s) (b : k ≡ get_or s p 0) (f : m ≡ record_size notations.Model k) where
  pub read_unknown : (y : Refusal) → m ≡ 0 → y ≡ in_model WrongKind p (length s) → read_with y l ≡ read_at s p (reading_in last l)
  unfolding number_of
  read_unknown y z i =
      let e = end_unknown s p k m h b f z in
      read_refused s p (length s) last l WrongKind l h e (took_unknown last l _ (record_unknown _ k m (b ∙ kind_slice s p (length s) h e) f z)) y refl i

  pub read_cut : (y : Refusal) → (m ≡ 0 → ⊥) → length s - p < m → y ≡ in_model CutRecord p (length s) → read_with y l ≡ read_at s p (reading_in last l)
  unfolding number_of
  read_cut y z c i =
      let e = end_cut s p k m h b f z c in
      let n : length (take (length s - p) (drop p s)) < m = let w = slice_length (length s) s p (omega arith) (omega arith) in omega arith in
      read_refused s p (length s) last l CutRecord l h e (took_cut last l _ (record_cut _ k m (b ∙ kind_slice s p (length s) h e) f z n)) y refl i

  module _ (q : ℕ) (e : q ≡ p + m) (z : m ≡ 0 → ⊥) (w : m ≤ length s - p) where
    pub whole_part : (length (take (q - p) (drop p s)) ≡ record_size notations.Model k) × (0 < length (take (q - p) (drop p s)))
    whole_part =
        let n = slice_length q s p (omega arith) (omega arith) in
        let d : length (take (q - p) (drop p s)) ≡ m = omega arith in
        (d ∙ f, omega arith)

    whole_end : q ≡ end_at s p
    whole_end = e ∙ end_whole s p k m h b f z w

    module _ (c : Cause) (l' : List ℕ) (t : Took last l (record_of_whole k (take (q - p) (drop p s))) c l') where
      took_whole : Took last l (record_of (take (q - p) (drop p s))) c l'
      took_whole = took_as last l _ _ c l' t (record_whole _ k m (b ∙ kind_slice s p q h whole_end) f z (omega (arith, whole_part.0, f)))

      pub whole_on : (r : ℕ) → r ≡ rank_of_kind k → is_none c ≡ true → read_at s q (reading_in r l') ≡ read_at s p (reading_in last l)
      whole_on r g n = rw g (read_on s p q last l c l' h whole_end took_whole k (b ∙ kind_slice s p q h whole_end) n)

      pub whole_refused : (y : Refusal) → is_none c ≡ false → y ≡ in_model c p q → read_with y l' ≡ read_at s p (reading_in last l)
      whole_refused y n i = read_refused s p q last l c l' h whole_end took_whole y n i

module _ (s : List ℕ) (p last : ℕ) (l : List ℕ) (h : length s ≤ p) where
  pub read_none : (y : Refusal) → last ≡ 0 → y ≡ in_model WrongKind p p → read_with y l ≡ read_at s p (reading_in last l)
  unfolding read_from number_of
  read_none y e i =
      let z : refused_at WrongKind p p ≡ read_at s p (reading_in last l) = rw (parts_end notations.Model s p h, eq-eqb last 0 e) in
      ap (λ (w : Refusal). read_with w l) i ∙ z

  pub read_all : (y : Refusal) → (last ≡ 0 → ⊥) → y ≡ no_refusal → read_with y l ≡ read_at s p (reading_in last l)
  unfolding read_from number_of
  read_all y e i =
      let z : record { refusal = no_refusal; model = model_in l } ≡ read_at s p (reading_in last l) = rw (parts_end notations.Model s p h, ne_eqb last 0 e) in
      ap (λ (w : Refusal). read_with w l) i ∙ z

-- a reading as it is handed back: with the model, with a list that is clear again, or alone
module _ (s l : List ℕ) (r : Refusal) (e : read_with r l ≡ read_model s) where
  pub read_whole : (b : Bool) → b ≡ is_none r.cause → b ≡ true → read_as r l ≡ read_model s
  read_whole b f h = ap (λ (k : Bool). record { refusal = r; model = cond k (model_in l) empty_model }) (sym h ∙ f) ∙ e

  pub read_emptied : (b : Bool) (l' : List ℕ) → b ≡ is_none r.cause → b ≡ false → model_in l' ≡ empty_model → read_as r l' ≡ read_model s
  read_emptied b l' f h g =
      ap (λ (m : Model). record { refusal = r; model = m }) g ∙ ap (λ (k : Bool). record { refusal = r; model = cond k (model_in l) empty_model }) (sym h ∙ f) ∙ e

  pub read_refusal_lem : r ≡ (read_model s).refusal
  read_refusal_lem = ap (λ (x : ModelRead). x.refusal) e
