-- The starred examples of document 01, as a group, one of written start values, some of finer field faults, some of START's test, some of threads that
-- leave and some of sums that stop (document 02, W2 to W6). Those that are runs are proved of the model's run and of the run of its table.
use Rattle.std.specs.Prelude.{◌≡◌, refl, List, [], ◌∷◌, ◌++◌, ℕ, negsuc}
use Prim.Native.Char.{code}
use Prim.Native.String as strings
use Prim.Native.String.{String}
use Rattle.numbers.specs.Values.{u16_to, u32_to, value, natural, nearest, plus, minus}
use Rattle.numbers.specs.declared.Value.{Value}
use Rattle.records.specs.declared.Cause.TheVariants.{None, WrongField, NamesNothing, FaultyTime}
use Rattle.table_format.specs.declared.Atom.{Atom}
use Rattle.table_format.specs.Variables.{now_var, phase_var, pending_var}
use Rattle.spec_examples.specs.Evaluate.{steps, rules, model_cause, table_cause, read_cause, model_local, table_local, model_port, table_port, first_h1, first_enter, model_at, table_at, start_step}

-- ---- notation
abbrev ascii : String → List ℕ
ascii strings.[] = []
ascii (strings.◌∷◌ c s) = code c ∷ ascii s

-- a thread in the modes of a mask, and in mode 0
abbrev thread_in : ℕ → ℕ → ℕ → ℕ → ℕ → ℕ → List ℕ
thread_in mask period deadline least most critical = 2 ∷ u32_to period (u32_to deadline (u32_to least (u32_to most (mask ∷ critical ∷ 0 ∷ []))))

abbrev thread : ℕ → ℕ → ℕ → ℕ → ℕ → List ℕ
thread = thread_in 1

abbrev head : List ℕ
head = 1 ∷ 1 ∷ 0 ∷ []

-- "M: head 1, 0; thread Period 5, Deadline 4, Min 1, Max 5, mask 1, rest 0."
abbrev pub M : List ℕ
M = head ++ thread 5 4 1 5 0

abbrev activate : List ℕ
activate = 1 ∷ 0 ∷ []

abbrev dispatch : List ℕ
dispatch = 3 ∷ 0 ∷ []

abbrev start : ℕ → List ℕ
start n = 4 ∷ 0 ∷ u32_to n []

abbrev complete : List ℕ
complete = 5 ∷ 0 ∷ []

abbrev deadline : List ℕ
deadline = 6 ∷ 0 ∷ []

abbrev miss : List ℕ
miss = 7 ∷ 0 ∷ []

abbrev tick : ℕ → List ℕ
tick n = 11 ∷ u16_to n []

-- both programs print the text for the model M and the script
abbrev Both : List ℕ → List ℕ → String → Type 0
Both model script text = (steps model script ≡ ascii text) × (rules model script ≡ ascii text)

-- ---- *That run.
run_of_seven : Both M (activate ++ dispatch ++ start 2 ++ tick 2 ++ complete ++ tick 2 ++ deadline) "1 0 1 0\n2 0 3 0\n3 0 4 0\n4 2 11 2\n5 2 5 0\n6 4 11 2\n7 4 6 0\nend 7 0 4\n"
unfolding steps rules
run_of_seven = (refl, refl)

-- ---- *TICK 3 after START 2: 10, clock 0.
tick_3_after_start_2 : Both M (activate ++ dispatch ++ start 2 ++ tick 3) "1 0 1 0\n2 0 3 0\n3 0 4 0\nend 3 10 0\n"
unfolding steps rules
tick_3_after_start_2 = (refl, refl)

-- ---- *DISPATCH first: 10.
dispatch_first : Both M dispatch "end 0 10 0\n"
unfolding steps rules
dispatch_first = (refl, refl)

-- ---- *START 5, TICK 4: MISS taken, COMPLETE 10.
start_5_miss : Both M (activate ++ dispatch ++ start 5 ++ tick 4 ++ miss) "1 0 1 0\n2 0 3 0\n3 0 4 0\n4 4 11 4\n5 4 7 0\nend 5 0 4\n"
unfolding steps rules
start_5_miss = (refl, refl)

start_5_complete : Both M (activate ++ dispatch ++ start 5 ++ tick 4 ++ complete) "1 0 1 0\n2 0 3 0\n3 0 4 0\n4 4 11 4\nend 4 10 4\n"
unfolding steps rules
start_5_complete = (refl, refl)

-- ---- *START 4, TICK 4: MISS 10, COMPLETE taken.
start_4_miss : Both M (activate ++ dispatch ++ start 4 ++ tick 4 ++ miss) "1 0 1 0\n2 0 3 0\n3 0 4 0\n4 4 11 4\nend 4 10 4\n"
unfolding steps rules
start_4_miss = (refl, refl)

start_4_complete : Both M (activate ++ dispatch ++ start 4 ++ tick 4 ++ complete) "1 0 1 0\n2 0 3 0\n3 0 4 0\n4 4 11 4\n5 4 5 0\nend 5 0 4\n"
unfolding steps rules
start_4_complete = (refl, refl)

-- ---- *START 6: 10.
start_6 : Both M (activate ++ dispatch ++ start 6) "1 0 1 0\n2 0 3 0\nend 2 10 0\n"
unfolding steps rules
start_6 = (refl, refl)

-- ---- *Empty model: 2; empty script: 0 taken.
empty_model_lem : Both [] (activate ++ dispatch) "end 0 2 0\n"
unfolding steps rules
empty_model_lem = (refl, refl)

empty_script : Both M [] "end 0 0 0\n"
unfolding steps rules
empty_script = (refl, refl)

-- ---- *Locals 1 and 2 exchanged by two copies: 2 and 1.
-- a copy from one local to another: the second operand is unused
abbrev copy : ℕ → ℕ → List ℕ
copy to from = 10 ∷ 2 ∷ to ∷ 0 ∷ 2 ∷ u32_to from (0 ∷ u32_to 0 [])

abbrev exchange : List ℕ
exchange = M ++ (5 ∷ 0 ∷ u32_to 1 []) ++ (5 ∷ 0 ∷ u32_to 2 []) ++ (8 ∷ 0 ∷ 0 ∷ 0 ∷ []) ++ copy 0 1 ++ copy 1 0

abbrev one_job : List ℕ
one_job = activate ++ dispatch ++ start 1 ++ tick 1 ++ complete

-- neither the model nor its table is refused
abbrev Accepted : List ℕ → Type 0
Accepted model = (model_cause model ≡ None) × (table_cause model ≡ None)

locals_accepted : Accepted exchange
unfolding model_cause table_cause
locals_accepted = (refl, refl)

locals_before : (model_local exchange [] 0 ≡ natural 1) × (model_local exchange [] 1 ≡ natural 2) × (table_local exchange [] 0 ≡ natural 1) × (table_local exchange [] 1 ≡ natural 2)
unfolding model_local table_local
locals_before = (refl, refl, refl, refl)

locals_exchanged : (model_local exchange one_job 0 ≡ natural 2) × (model_local exchange one_job 1 ≡ natural 1) × (table_local exchange one_job 0 ≡ natural 2) × (table_local exchange one_job 1 ≡ natural 1)
unfolding model_local table_local
locals_exchanged = (refl, refl, refl, refl)

-- ---- *0 − (−2,147,483,648), which is 2,147,483,647 since W6: "the nearest end of the 32-bit range where the sum lies outside". Beside it 2,147,483,647 + 1,
-- −2,147,483,648 − 1 and −2,147,483,648 + −1.
abbrev greatest : Value
greatest = natural 2147483647

abbrev least : Value
least = value (negsuc 2147483647)

zero_minus_least : minus (natural 0) least ≡ greatest
unfolding nearest minus
zero_minus_least = refl

greatest_plus_one : plus greatest (natural 1) ≡ greatest
unfolding nearest plus
greatest_plus_one = refl

least_minus_one : minus least (natural 1) ≡ least
unfolding nearest minus
least_minus_one = refl

least_plus_minus_one : plus least (value (negsuc 0)) ≡ least
unfolding nearest plus
least_plus_minus_one = refl

-- local 0, 1 at first, is assigned: an op, an operand with its tag, and a constant
abbrev assigned : ℕ → ℕ → ℕ → ℕ → List ℕ
assigned op tag a b = M ++ (5 ∷ 0 ∷ u32_to 1 []) ++ (8 ∷ 0 ∷ 0 ∷ 0 ∷ []) ++ (10 ∷ 2 ∷ 0 ∷ op ∷ tag ∷ u32_to a (0 ∷ u32_to b []))

-- in a run: the sum or the difference of two constants
abbrev sum_of : ℕ → ℕ → List ℕ
sum_of = assigned 1 0

abbrev difference_of : ℕ → ℕ → List ℕ
difference_of = assigned 2 0

abbrev Gives : List ℕ → Value → Type 0
Gives model x =
    Accepted model × (model_local model [] 0 ≡ natural 1) × (table_local model [] 0 ≡ natural 1) × (model_local model one_job 0 ≡ x) × (table_local model one_job 0 ≡ x)

zero_minus_least_run : Gives (difference_of 0 2147483648) greatest
unfolding model_cause table_cause model_local table_local
zero_minus_least_run = ((refl, refl), refl, refl, refl, refl)

greatest_plus_one_run : Gives (sum_of 2147483647 1) greatest
unfolding model_cause table_cause model_local table_local
greatest_plus_one_run = ((refl, refl), refl, refl, refl, refl)

least_minus_one_run : Gives (difference_of 2147483648 1) least
unfolding model_cause table_cause model_local table_local
least_minus_one_run = ((refl, refl), refl, refl, refl, refl)

least_plus_minus_one_run : Gives (sum_of 2147483648 4294967295) least
unfolding model_cause table_cause model_local table_local
least_plus_minus_one_run = ((refl, refl), refl, refl, refl, refl)

-- a sum within the range is exact
one_inside_run : Gives (sum_of 2147483646 1) greatest × Gives (difference_of 2147483649 1) least
unfolding model_cause table_cause model_local table_local
one_inside_run = (((refl, refl), refl, refl, refl, refl), ((refl, refl), refl, refl, refl, refl))

-- ---- *Critical 4 and 6: H1 12; none: 1.
abbrev stay : List ℕ
stay = 7 ∷ 0 ∷ 0 ∷ []

abbrev four_and_six : ℕ → List ℕ
four_and_six critical = head ++ thread 4 4 1 1 critical ++ thread 6 6 1 1 critical ++ stay

-- an atom of a variable and a constant
abbrev atom : ℕ → ℕ → ℕ → Atom
atom op j n = record { op = op; variable = j; right = record { tag = 0; value = natural n } }

-- the clauses of ENTER: Phase 1, Pending this, Now a multiple
abbrev enter_with : ℕ → List (List Atom)
enter_with h = (atom 0 phase_var 1 ∷ []) ∷ (atom 0 pending_var 0 ∷ []) ∷ (atom 6 now_var h ∷ []) ∷ []

critical_4_and_6 : Accepted (four_and_six 1) × (first_h1 (four_and_six 1) ≡ 12) × (first_enter (four_and_six 1) ≡ enter_with 12)
unfolding model_cause table_cause first_h1 first_enter
critical_4_and_6 = ((refl, refl), refl, refl)

critical_none : Accepted (four_and_six 0) × (first_h1 (four_and_six 0) ≡ 1) × (first_enter (four_and_six 0) ≡ enter_with 1)
unfolding model_cause table_cause first_h1 first_enter
critical_none = ((refl, refl), refl, refl)

-- ---- *Head alone at 999,999,999: TICK 1 taken, TICK 2: 11.
head_alone_tick_1 : (model_at head 999999999 (tick 1) ≡ ascii "1 1000000000 11 1\nend 1 0 1000000000\n") × (table_at head 999999999 (tick 1) ≡ ascii "1 1000000000 11 1\nend 1 0 1000000000\n")
unfolding model_at table_at
head_alone_tick_1 = (refl, refl)

head_alone_tick_2 : (model_at head 999999999 (tick 2) ≡ ascii "end 0 11 999999999\n") × (table_at head 999999999 (tick 2) ≡ ascii "end 0 11 999999999\n")
unfolding model_at table_at
head_alone_tick_2 = (refl, refl)

-- ---- "Written start values for input ports": 0B with -1 between two of 03, and 0B with 0. "Port and buffer both begin at that value. Kind 03 still
-- means 0"; after DISPATCH the port still has it, since its buffer had it.
abbrev off_the_page : List ℕ
off_the_page = M ++ (3 ∷ 0 ∷ []) ++ (11 ∷ 0 ∷ u32_to 4294967295 []) ++ (3 ∷ 0 ∷ []) ++ (11 ∷ 0 ∷ u32_to 0 [])

abbrev both : Value → Value × Value
both x = (x, x)

abbrev Begins : ℕ → Value → Type 0
Begins i x = (model_port off_the_page [] i ≡ both x) × (table_port off_the_page [] i ≡ both x)

ports_begin : Accepted off_the_page × Begins 0 (natural 0) × Begins 1 (value (negsuc 0)) × Begins 2 (natural 0) × Begins 3 (natural 0)
unfolding model_cause table_cause model_port table_port
ports_begin = ((refl, refl), (refl, refl), (refl, refl), (refl, refl), (refl, refl))

port_taken : (model_port off_the_page (activate ++ dispatch) 1 ≡ both (value (negsuc 0))) × (table_port off_the_page (activate ++ dispatch) 1 ≡ both (value (negsuc 0)))
unfolding model_port table_port
port_taken = (refl, refl)

-- ---- "Finer field faults", in models. "the initial mode is held against the mode count as written": head 0, 0; 9, 8; 9, 9.
heads_refused : (model_cause (1 ∷ 0 ∷ 0 ∷ []) ≡ NamesNothing) × (model_cause (1 ∷ 9 ∷ 8 ∷ []) ≡ WrongField) × (model_cause (1 ∷ 9 ∷ 9 ∷ []) ≡ NamesNothing)
unfolding model_cause
heads_refused = (refl, refl, refl)

-- a mark of 2 alone, and with a Deadline above the Period
times_refused : (model_cause (head ++ thread 5 4 1 5 2) ≡ WrongField) × (model_cause (head ++ thread 5 6 1 5 2) ≡ FaultyTime)
unfolding model_cause
times_refused = (refl, refl)

-- a connection of type 2 alone, and to an input port that is not there
abbrev connected : ℕ → List ℕ
connected target = M ++ (3 ∷ 0 ∷ []) ++ (4 ∷ 0 ∷ []) ++ (6 ∷ 2 ∷ 0 ∷ target ∷ 1 ∷ [])

connections_refused : (model_cause (connected 0) ≡ WrongField) × (model_cause (connected 1) ≡ NamesNothing)
unfolding model_cause
connections_refused = (refl, refl)

-- "a number behind a tag that may not stand there is not looked at": local 9, and 9 behind tag 3, as an operand
operands_refused : (model_cause (assigned 0 2 9 0) ≡ NamesNothing) × (model_cause (assigned 0 3 9 0) ≡ WrongField)
unfolding model_cause
operands_refused = (refl, refl)

-- ---- and in tables. Variable 288 is not there; variable 0 is, and is not started.
starts_refused : (read_cause (32 ∷ u16_to 288 (u32_to 1 [])) ≡ NamesNothing) × (read_cause (32 ∷ u16_to 0 (u32_to 1 [])) ≡ WrongField)
unfolding read_cause
starts_refused = (refl, refl)

-- variable 288 on the right of an atom: with op 7 no variable may stand there, with op 8 one may
abbrev rule_atom : ℕ → List ℕ
rule_atom op = (33 ∷ 1 ∷ 0 ∷ u32_to 0 (u32_to 0 [])) ++ (34 ∷ []) ++ (35 ∷ op ∷ u16_to 1 (1 ∷ u32_to 288 []))

atoms_refused : (read_cause (rule_atom 7) ≡ WrongField) × (read_cause (rule_atom 8) ≡ NamesNothing)
unfolding read_cause
atoms_refused = (refl, refl)

-- 288 behind tags 1 and 2, in an update of a rule for ACTIVATE, where no length is chosen
abbrev rule_update : ℕ → List ℕ
rule_update tag = (33 ∷ 1 ∷ 0 ∷ u32_to 0 (u32_to 0 [])) ++ (36 ∷ u16_to 65535 (0 ∷ u16_to 1 (0 ∷ tag ∷ u32_to 288 (0 ∷ u32_to 0 []))))

updates_refused : (read_cause (rule_update 1) ≡ NamesNothing) × (read_cause (rule_update 2) ≡ WrongField)
unfolding read_cause
updates_refused = (refl, refl)

-- ---- "Start test in the order of the paper": thread 0 sends to thread 1 by an immediate connection, both like that of M
abbrev pair : List ℕ
pair = M ++ thread 5 4 1 5 0 ++ (3 ∷ 1 ∷ []) ++ (4 ∷ 0 ∷ []) ++ (6 ∷ 0 ∷ 0 ∷ 0 ∷ 1 ∷ [])

abbrev dispatched : List ℕ
dispatched = activate ++ (1 ∷ 1 ∷ []) ++ dispatch ++ (3 ∷ 1 ∷ [])

-- nobody is dispatched; a thread that is not there; the length; the connections, whatever the length; none
start_steps : (start_step pair [] 0 1 ≡ 1) × (start_step pair dispatched 2 1 ≡ 1) × (start_step pair dispatched 0 6 ≡ 4) × (start_step pair dispatched 1 6 ≡ 3) × (start_step pair dispatched 0 5 ≡ 0)
unfolding start_step
start_steps = (refl, refl, refl, refl, refl)

-- thread 0 holds the processor: its own state, and for thread 1 the processor, though the connection waits too
held_steps : (start_step pair (dispatched ++ start 5) 0 5 ≡ 1) × (start_step pair (dispatched ++ start 5) 1 6 ≡ 2)
unfolding start_step
held_steps = (refl, refl)

-- "Due ≠ Now" is of the first step, though the processor is held; COMPLETE, refused, is passed over
due_step : start_step pair (dispatched ++ start 5 ++ tick 4 ++ complete) 1 1 ≡ 1
unfolding start_step
due_step = refl

-- ---- "Threads that leave are stopped": thread 0 is in mode 0 alone, thread 1 in both, both with the times of M's; at the request mode 1 is entered
abbrev leaving : ℕ → List ℕ
leaving critical = (1 ∷ 2 ∷ 0 ∷ []) ++ thread_in 1 5 4 1 5 critical ++ thread_in 3 5 4 1 5 0 ++ (7 ∷ 0 ∷ 1 ∷ [])

abbrev change : List ℕ
change = 8 ∷ 0 ∷ 9 ∷ 0 ∷ []

abbrev deactivate : List ℕ
deactivate = 2 ∷ 0 ∷ []

-- code 2: stopped, or critical and not stopped
waiting_stopped : Both (leaving 0) (activate ++ dispatch ++ change ++ deactivate) "1 0 1 0\n2 0 3 0\n3 0 8 0\n4 0 9 0\n5 0 2 0\nend 5 0 0\n"
unfolding steps rules
waiting_stopped = (refl, refl)

critical_kept : Both (leaving 1) (activate ++ dispatch ++ change ++ deactivate) "1 0 1 0\n2 0 3 0\n3 0 8 0\n4 0 9 0\nend 4 10 0\n"
unfolding steps rules
critical_kept = (refl, refl)

-- code 3: no tick passes before the stop, which frees the processor for thread 1
abbrev runs_on : List ℕ
runs_on = dispatched ++ start 5 ++ tick 1 ++ change

tick_waits : Both (leaving 0) (runs_on ++ tick 1) "1 0 1 0\n2 0 1 1\n3 0 3 0\n4 0 3 1\n5 0 4 0\n6 1 11 1\n7 1 8 0\n8 1 9 0\nend 8 10 1\n"
unfolding steps rules
tick_waits = (refl, refl)

running_stopped : Both (leaving 0) (runs_on ++ deactivate ++ (4 ∷ 1 ∷ u32_to 1 []) ++ tick 1) "1 0 1 0\n2 0 1 1\n3 0 3 0\n4 0 3 1\n5 0 4 0\n6 1 11 1\n7 1 8 0\n8 1 9 0\n9 1 2 0\n10 1 4 1\n11 2 11 1\nend 11 0 2\n"
unfolding steps rules
running_stopped = (refl, refl)

-- code 4; and where the deadline is now the list chooses, DEACTIVATE or MISS
completed_stopped : Both (leaving 0) (dispatched ++ start 1 ++ tick 1 ++ complete ++ change ++ deactivate) "1 0 1 0\n2 0 1 1\n3 0 3 0\n4 0 3 1\n5 0 4 0\n6 1 11 1\n7 1 5 0\n8 1 8 0\n9 1 9 0\n10 1 2 0\nend 10 0 1\n"
unfolding steps rules
completed_stopped = (refl, refl)

abbrev late : List ℕ
late = dispatched ++ start 5 ++ tick 4 ++ change

late_stopped : Both (leaving 0) (late ++ deactivate) "1 0 1 0\n2 0 1 1\n3 0 3 0\n4 0 3 1\n5 0 4 0\n6 4 11 4\n7 4 8 0\n8 4 9 0\n9 4 2 0\nend 9 0 4\n"
unfolding steps rules
late_stopped = (refl, refl)

late_missed : Both (leaving 0) (late ++ miss) "1 0 1 0\n2 0 1 1\n3 0 3 0\n4 0 3 1\n5 0 4 0\n6 4 11 4\n7 4 8 0\n8 4 9 0\n9 4 7 0\nend 9 0 4\n"
unfolding steps rules
late_missed = (refl, refl)
