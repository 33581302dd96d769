-- Symbols that functions share.
use Rattle.std.proofs.Common.{◌≡◌, ℕ, Bool, Option, Some, List, filter, map, refl, ap, sym, ◌∙◌}
use Rattle.std.specs.Option.{option_map, option_map_or}
use Rattle.rl_base.specs.declared.ids.FunctionId.{FunctionId}
use Rattle.rl_base.specs.declared.ids.IdentifierId.{IdentifierId}
use Rattle.rl_base.specs.declared.ids.SymbolId.{SymbolId}
use Rattle.rl_hir.specs.Pairs.{identifier_of}
use Rattle.rl_hir.specs.declared.function.Lowered.{Lowered}
use Rattle.rl_hir.specs.declared.function.Pair.{Pair}
use Rattle.rl_hir.specs.declared.function.Param.{Param}
use Rattle.rl_hir.specs.declared.function.Param.TheVariants as params
use Rattle.rl_machine.specs.Traces.{World}
use Rattle.rl_machine.specs.declared.trace.Answer.{Answer}
use Rattle.rl_machine.specs.declared.trace.Assignment.{Assignment}
use Rattle.rl_machine.specs.declared.trace.Trace.{Trace}
use Rattle.rl_machine.specs.declared.trace.Value.{Value}
use Rattle.rl_model.specs.Runs.{function_trace, param_identifier}
use Rattle.rl_model.specs.Worlds.{Function, function_in, graph_trace_of, others_in, world_in}
use Rattle.rl_graph_run.specs.Steps.{graph_steps_of}
use Rattle.rl_graph_run.specs.Symbols.{identifier_at, symbol_flag}
use Rattle.rl_graph_steps.specs.Graphs.{parameter, steps_in}

-- Equal tests keep equal items.
pub same_kept : (p q : ℕ → Bool) → ((n : ℕ) → p n ≡ q n) → (xs : List ℕ) → filter p xs ≡ filter q xs
same_kept p q same xs = λ i. filter (λ n. same n i) xs

one_parameter : (p : Param) → parameter p ≡ param_identifier p
one_parameter (params.Place place) = refl
one_parameter (params.Spread place) = refl

pub same_parameters : (ps : List Param) → map parameter ps ≡ map param_identifier ps
same_parameters ps = λ i. map (λ p. one_parameter p i) ps

-- A fact of a run, in the world that tables give.
pub same_world : {X : Type 0} → (run : (ident : ℕ → Option ℕ) → World → X) (numbers : List (Option IdentifierId)) (opens : List Bool)
    (keeps : List SymbolId) (pairs : List Pair) (w : World)
    → ((n : ℕ) → identifier_at numbers n ≡ identifier_of pairs n) → ((n : ℕ) → symbol_flag opens n ≡ w.opens n)
    → map (λ (s : SymbolId). s.0) keeps ≡ w.keeps
    → run (identifier_at numbers) (record { opens = symbol_flag opens; keeps = map (λ (s : SymbolId). s.0) keeps })
    ≡ run (identifier_of pairs) w
same_world run numbers opens keeps pairs w identifiers opened kept =
    λ i. run (λ n. identifiers n i) (record { opens = λ n. opened n i; keeps = kept i })

-- The trace and the steps of a function that is there.
pub found_trace : (l : Lowered) (function : Option FunctionId) (f : Function) (start : List Assignment) (arguments : List Value)
    (answers : List Answer) (t : Trace)
    → Some f ≡ function_in l function → t ≡ function_trace (world_in l f (others_in l function)) f l.pairs start arguments answers
    → graph_trace_of l function start arguments answers ≡ Some t
found_trace l function f start arguments answers t found same =
    ap (option_map (λ (g : Function). function_trace (world_in l g (others_in l function)) g l.pairs start arguments answers)) (sym found)
    ∙ ap (λ u. Some u) (sym same)

pub found_steps : (l : Lowered) (function : Option FunctionId) (f : Function) (start : List Assignment) (arguments : List Value)
    (answers : List Answer)
    → Some f ≡ function_in l function
    → steps_in f (identifier_of l.pairs) (world_in l f (others_in l function)) start arguments answers
    ≡ graph_steps_of l function start arguments answers
found_steps l function f start arguments answers found =
    ap (λ (found : Option Function). option_map_or (λ (g : Function). steps_in g (identifier_of l.pairs) (world_in l g (others_in l
    function)) start arguments answers) found 0) found
