-- Runs of functions.
use Rattle.std.proofs.Common.{◌≡◌, ◌+◌, ◌*◌, ◌≤◌, ℕ, Some, List, [], ◌∷◌, length, map, drop, slice_get, append-nil, ap, sym, ◌∙◌, arith}
use Rattle.std.proofs.Math.Nat.{suc-mul}
use Rattle.std.proofs.lemmas.List.{at_drop_more}
use Rattle.std.proofs.lemmas.Option.{get_or_from_slice_get, slice_get_within}
use Rattle.rl_hir.specs.Blocks.{Pair}
use Rattle.rl_hir.specs.declared.function.HirFunction.{HirFunction}
use Rattle.rl_hir.specs.declared.function.Param.{Param}
use Rattle.rl_hir.specs.declared.instruction.Instruction.{Instruction}
use Rattle.rl_machine.specs.Ends.{Notes, no_notes}
use Rattle.rl_machine.specs.Machine.{positions, steps_for}
use Rattle.rl_machine.specs.Traces.{ended, take_values, unset}
use Rattle.rl_machine.specs.declared.trace.Answer.{Answer}
use Rattle.rl_machine.specs.declared.trace.Assignment.{Assignment}
use Rattle.rl_machine.specs.declared.trace.Ending.{Ending}
use Rattle.rl_machine.specs.declared.trace.Event.{Event}
use Rattle.rl_machine.specs.declared.trace.Value.{Value}
use Rattle.rl_trace.specs.Progress.{Seen, after, begun}
use Rattle.rl_trace.specs.Shared.{ident_of, world_of}
use Rattle.rl_trace.specs.declared.shared.Shared.{Shared}
use Rattle.rl_graph_steps.specs.Graphs.{begins, parameter}
use Rattle.rl_graph_steps.specs.States.{State, took, takes}
use Rattle.rl_graph_steps.proofs.Taken.{takes_values}

-- The positions from a block on are those of the block and those behind it.
pub one_more : (pairs : List Pair) (index : ℕ) (p : Pair) → slice_get pairs index ≡ Some p
    → positions (drop index pairs) ≡ 1 + length p.1.instructions + positions (drop (index + 1) pairs)
one_more pairs index p there =
    at_drop_more positions pairs index p (slice_get_within pairs index p there)
    ∙ ap (λ (q : Pair). positions (q ∷ drop (index + 1) pairs)) (get_or_from_slice_get pairs index p p there)

turned : (a b : ℕ) → a + b ≡ b + a
turned a b = omega arith

-- The steps of a run: so many for each answer, and once more.
steps_are : (answers : List Answer) (most : ℕ) → length answers * (most + 1) + (most + 1) ≡ steps_for answers most
steps_are [] most =
    let none : 0 * (most + 1) + (most + 1) ≡ most + 1 = omega arith in
    none
steps_are (answer ∷ rest) most =
    ap (λ n. n + (most + 1)) (suc-mul (length rest) (most + 1))
    ∙ ap (λ n. n + (most + 1)) (steps_are rest most)
    ∙ turned (steps_for rest most) (most + 1)

-- As `steps_are`, from the bound.
pub fuel_steps : (answers : List Answer) (most : ℕ) → steps_for answers most ≡ length answers * (most + 1) + (most + 1)
fuel_steps answers most = sym (steps_are answers most)

-- The count behind one more block.
pub sum_on : (count all len n rest here : ℕ) → count + here ≡ all → here ≡ 1 + n + rest → len ≡ 1 + n → count + len + rest ≡ all
sum_on count all len n rest here so_far one same = omega (arith, so_far, one, same)

pub room_on : (count index len : ℕ) → count ≤ index * 18446744073709551616 → len ≤ 18446744073709551616
    → count + len ≤ (index + 1) * 18446744073709551616
room_on count index len room fits = omega (arith, room, fits)

-- A fact of the fuel and the state in which a run of a function begins, from those with which it did.
pub at_start : {X : Type 0} → (run : (most steps quiet : ℕ) → State → X) (f : HirFunction (List Pair)) (shared : Shared)
    (start : List Assignment) (arguments : List Value) (answers : List Answer) (blocks : List Pair) (table : List Instruction)
    (params : List Param) (most steps quiet : ℕ) (begun : State)
    → blocks ≡ f.body.blocks → table ≡ f.instructions → params ≡ f.params → most ≡ positions f.body.blocks
    → steps ≡ steps_for answers (positions f.body.blocks) → quiet ≡ positions f.body.blocks
    → begun ≡ begins blocks table shared (map parameter params) start arguments answers
    → run most steps quiet begun
    ≡ run (positions f.body.blocks) (steps_for answers (positions f.body.blocks)) (positions f.body.blocks) (begins f.body.blocks
    f.instructions shared (map parameter f.params) start arguments answers)
at_start run f shared start arguments answers blocks table params most steps quiet begun same_blocks same_table same_params same_most
    same_steps same_quiet same =
    let p = positions f.body.blocks in
    ap (λ m. run m steps quiet begun) same_most
    ∙ ap (λ n. run p n quiet begun) same_steps
    ∙ ap (λ q. run p (steps_for answers p) q begun) same_quiet
    ∙ ap (run p (steps_for answers p) p) same
    ∙ ap (λ (b : List Pair). run p (steps_for answers p) p (begins b table shared (map parameter params) start arguments
    answers)) same_blocks
    ∙ ap (λ (t : List Instruction). run p (steps_for answers p) p (begins f.body.blocks t shared (map parameter params) start arguments
    answers)) same_table
    ∙ ap (λ (ps : List Param). run p (steps_for answers p) p (begins f.body.blocks f.instructions shared (map parameter ps)
    start arguments answers)) same_params

-- The trace of a run that asked these events and ends so.
pub without_events : (events : List Event) (ending : Ending) → record (ended ending) { events = events } ≡ after events (ended ending)
without_events events ending = ap (λ (es : List Event). record (ended ending) { events = es }) (sym (append-nil events))

abbrev started : List Pair → List Instruction → Notes → Seen → State
started blocks table notes seen = record { blocks = blocks; table = table; notes = notes; seen = seen }

-- A run that begins, from the steps by which it does.
pub begins_from : (blocks : List Pair) (table : List Instruction) (shared : Shared) (params : List ℕ) (start : List Assignment)
    (arguments rest : List Value) (answers : List Answer) (notes : Notes) (fresh seen : Seen) (last : State)
    → notes ≡ no_notes
    → fresh ≡ record { ident = ident_of shared.numbers; world = world_of shared; store = unset; answers = answers; events = [] }
    → seen ≡ begun start fresh
    → took rest last ≡ takes params (took arguments (started blocks table notes seen))
    → last ≡ begins blocks table shared params start arguments answers
begins_from blocks table shared params start arguments rest answers notes fresh seen last none new set_start taken =
    ap (λ t. t.state) taken
    ∙ takes_values params arguments (started blocks table notes seen)
    ∙ ap (λ (q : Seen). started blocks table notes (record q { store = take_values params arguments q.store })) (set_start ∙ ap
    (begun start) new)
    ∙ ap (λ (n : Notes). started blocks table n (begins blocks table shared params start arguments answers).seen) none
