-- For every accepted model and every event list: the table made offers what the model offers, at the start and after every event.
use Rattle.std.specs.Prelude.{◌≡◌, true, ℕ, ◌+◌}
use mathlib.Core.List.{List, [], ◌∷◌}
use Rattle.std.proofs.Math.ListN.{length}
use Rattle.records.specs.declared.Notation.TheVariants.{Script}
use Rattle.records.specs.Format.{parts}
use Rattle.records.specs.Refusals.{is_none}
use Rattle.records.specs.Events.{event_of}
use Rattle.records.specs.Run.{stages_from}
use Rattle.model_format.specs.declared.Model.{Model}
use Rattle.model_format.specs.Reading.{read_model}
use Rattle.model_format.specs.WellFormed.{Bytes, WellFormed}
use Rattle.model_format.specs.Accepted.{accepted_well_formed}
use Rattle.model_semantics.specs.declared.State.{State}
use Rattle.model_semantics.specs.Machine.{start_state, model_stages, machine_of as model_machine}
use Rattle.table_semantics.specs.declared.Variables.{Variables}
use Rattle.table_semantics.specs.Machine.{start_variables, table_stages, machine_of as table_machine}
use Rattle.table_format.specs.Table.{table_of}
use Rattle.translation.specs.declared.Translation.{Translation}
use Rattle.translation.specs.Rules.{rules_of}
use Rattle.translation.specs.Translate.{table_from, table_bytes, translated, output_after}
use Rattle.translation_sizes.proofs.MadeTable.{translation_back}
use Rattle.simulation.specs.Compared.{Dispatched, none_yet, and_after}
use Rattle.simulation.specs.Match.{Match}
use Rattle.simulation.specs.StartState.{start_match}
use Rattle.simulation.specs.Simulation.{agree, was_accepted, written_is}
use Rattle.enabled_alike.specs.Offered.{SameOffers, OffersAfter, OffersAlike, Offers}
use Rattle.enabled_alike.specs.OfferLaws.{same_events, same_tick}

module _ (m : Model) (w : WellFormed m) where
  pub match_offers : (d : Dispatched) (s : State) (v : Variables) → Match m.timing d s v.value → SameOffers m.timing (rules_of m) s v
  match_offers d s v h = record { events = same_events m w d s v.value h; tick = same_tick m w d s v.value h }

  -- after each part of a list, from states that match
  stages_offer : (l : List (List ℕ)) (d : Dispatched) (s : State) (v : Variables) (p : ℕ) → Match m.timing d s v.value →
      OffersAfter m.timing (rules_of m) (stages_from (model_machine m) s p l) (stages_from (table_machine (rules_of m)) v p l)
  unfolding OffersAfter stages_from
  stages_offer [] d s v p h = tt
  stages_offer (x ∷ l) d s v p h =
      let e = event_of x in
      let g = agree m w d s v e h in
      let f = and_after d e ((model_machine m).answer s e) in (
        match_offers f ((model_machine m).after s e) ((table_machine (rules_of m)).after v e) g.states,
        stages_offer l f ((model_machine m).after s e) ((table_machine (rules_of m)).after v e) (p + length x) g.states,
      )

  -- of every table that is read as the one made
  offers_read : (script table : List ℕ) → table_of table ≡ table_from m → OffersAlike m script table
  unfolding model_stages table_stages table_from
  offers_read script table e =
      record {
        start = rw e (match_offers none_yet (start_state m.timing) (start_variables (table_from m)) (start_match m w));
        after = rw e (stages_offer (parts Script script) none_yet (start_state m.timing) (start_variables (table_from m)) 0 (start_match m w));
      }

  pub made_offers : (script : List ℕ) → OffersAlike m script (table_bytes m)
  made_offers script = offers_read script (table_bytes m) (translation_back m w).1

-- ---- over bytes: r is what translating told, and after the output that it left
module _ (model out : List ℕ) (r : Translation) (after : List ℕ) (t : r ≡ translated model (length out)) (o : after ≡ output_after model out)
    (e : is_none r.refusal.cause ≡ true)
  where
    pub offers : Bytes model → (script : List ℕ) → Offers model script r.bytes after
    offers b script =
        let a = (was_accepted model (length out) r t e).reading in
        rw (written_is model out r after t o e) (made_offers (read_model model).model (accepted_well_formed model b a) script)
