-- Laws of what events do.
use Rattle.std.specs.Prelude.{◌≡◌, refl, Bool, true, false, cond, ℕ}
use Rattle.model_format.specs.declared.Model.{Model}
use Rattle.model_format.specs.Model.{immediate}
use Rattle.model_semantics.specs.declared.State.{State}
use Rattle.model_semantics.specs.State.{none, code_of, is_live, with_ports, with_cpu, with_code, with_job, with_behavior}
use Rattle.model_semantics.specs.Tests.{completed, runs}
use Rattle.model_semantics.specs.Effects.{first_open, taken_transition, assign, carries, send, end_job, advance, finish, complete}

-- COMPLETE's two parts at once: neither reads what the other writes, but for the ports
pub complete_at_once : (m : Model) (s : State) (t : ℕ) → complete m s t ≡
    with_ports (with_behavior (end_job m.timing s t completed) t (taken_transition m.behavior s t).to)
    (send m.timing s immediate t (assign m.behavior s.ports (first_open m.behavior s t) (taken_transition m.behavior s t).assignments))
unfolding complete finish advance end_job send carries with_ports with_behavior with_job with_code with_cpu code_of is_live
complete_at_once m s t = go (runs (code_of s t))
  where
    go : (b : Bool) →
        with_ports (with_job (with_code (cond b (with_cpu m.timing (advance m s t) t none) (advance m s t)) t completed) t 0 0) (send m.timing (advance m s t) immediate t (advance m s t).ports) ≡
        with_ports (with_behavior (with_job (with_code (cond b (with_cpu m.timing s t none) s) t completed) t 0 0) t (taken_transition m.behavior s t).to)
        (send m.timing s immediate t (assign m.behavior s.ports (first_open m.behavior s t) (taken_transition m.behavior s t).assignments))
    go true = refl
    go false = refl
