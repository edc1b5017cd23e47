-- A state as the numbers of a list, all of them in order: the inverse of what a list of numbers stands for.
use Rattle.std.specs.Prelude.{Bool, cond, List, [], ◌∷◌, ◌++◌, map, ℕ}
use Rattle.numbers.specs.declared.Duration.{Duration}
use Rattle.numbers.specs.declared.Value.{Value}
use Rattle.numbers.specs.Values.{bits_of}
use Rattle.model_semantics.specs.declared.Clock.{Clock}
use Rattle.model_semantics.specs.declared.Threads.{Threads}
use Rattle.model_semantics.specs.declared.Ports.{Ports}
use Rattle.model_semantics.specs.declared.State.{State}

-- ---- the number of a mark, a DURATION, a VALUE; a byte is its own
unfoldable pub mark_number : Bool → ℕ
mark_number b = cond b 1 0

abbrev pub duration_number : Duration → ℕ
duration_number d = d.0

unfoldable pub value_number : Value → ℕ
value_number v = bits_of v.0

-- ---- Now, EnteredAt, Mode, Phase, Pending, Cpu
unfoldable pub clock_numbers : Clock → List ℕ
clock_numbers c = c.now.0 ∷ c.entered.0 ∷ c.mode ∷ c.phase ∷ c.pending ∷ c.cpu ∷ []

-- Active of every thread, the code of every thread, and so on
unfoldable pub thread_numbers : Threads → List ℕ
thread_numbers t =
    map mark_number t.active ++ t.code ++ map duration_number t.dispatched ++ map duration_number t.length ++
    map duration_number t.spent ++ t.behavior ++ t.missed

unfoldable pub port_numbers : Ports → List ℕ
port_numbers p = map value_number p.input ++ map value_number p.buffer ++ map value_number p.output ++ map value_number p.local

-- ---- the state: its clock, its threads, Flag of every connection, its ports and locals
unfoldable pub words_of_state : State → List ℕ
words_of_state s = clock_numbers s.clock ++ thread_numbers s.threads ++ map mark_number s.live ++ port_numbers s.ports
