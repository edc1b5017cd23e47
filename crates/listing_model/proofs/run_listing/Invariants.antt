use Rattle.std.proofs.Common.{◌≡◌, length}
use Rattle.model_semantics.specs.State.{now_of}
use Rattle.model_semantics.specs.Machine.{start_state, machine_of, run_model}
use Rattle.model_state.specs.Words.{state_in, state_words}
use Rattle.model_words.specs.Words.{timing_in, model_in}
use Rattle.listing.specs.Listing.{listing}
use Rattle.listing_writer.specs.Runs.{Running}
use Rattle.listing_model.proofs.run_listing.Given as goal

abbrev pub invariant-loop-at : goal.invariant-loop-at
invariant-loop-at l = (goal.iterator-loop-at).can_next l.at-iterator
    × (goal.iterator-loop-at).is_finite l.at-iterator
    × (l.at-iterator.script.now ≡ l.script)
    × (length l.state ≡ state_words)
    × (l.clock ≡ (state_in l.state).clock.now)
    × Running (machine_of (model_in l.m)) now_of l.script l.initial.out (listing (machine_of (model_in l.m)) now_of (start_state (timing_in l.m)) l.script) (run_model (model_in l.m) l.script).refusal l.out l.place l.at-iterator.at (state_in l.state) l.taken
