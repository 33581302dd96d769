-- The definitions, tried on small functions: the trace as it is written and as the port runs it, whether the function is orderly, and
-- whether the unit is supported. The traces come from a second implementation.
use Rattle.std.proofs.Common.{◌≡◌, true, false, Some, None, [], ◌∷◌, codes, refl}
use Rattle.std.specs.Fmt.{decimal}
use Rattle.rl_hir.specs.declared.terminal.ReturnVariant.TheVariants as returns
use Rattle.rl_machine.specs.declared.trace.AnswerKind.TheVariants as kinds
use Rattle.rl_machine.specs.declared.trace.Ending.TheVariants as ending
use Rattle.rl_machine.specs.declared.trace.Value.TheVariants as value
use Rattle.rl_model.proofs.ExampleTrees.{full, given, picked, id, listed, name, no, sets, text, throws, traced, tree, unit, yes, yields}
use Rattle.rl_model.specs.Events.{event}
use Rattle.rl_model.specs.Ported.{ported_trace_of}
use Rattle.rl_model.specs.Source.{is_orderly, is_supported, source_trace_of}
use Rattle.rl_syntax.specs.Syntax.{Syntax, Absent}
use Rattle.rl_syntax.specs.declared.word.Word.TheVariants as word

-- (unit [] (program [(expr (arrow y n (params [(param (bind "x" -) -)] -) (logical "&&" (id "a") (call n (id "f") [(id "x")]))))]))
abbrev logical_unit : Syntax
logical_unit =
    unit (
    tree word.Expr (
    tree word.Arrow (
    yes ∷ no ∷
    tree word.Params (listed (tree word.Param (name (codes "x") ∷ Absent ∷ []) ∷ []) ∷ Absent ∷ []) ∷
    tree word.Logical (
    text (codes "&&") ∷ id (codes "a") ∷
    tree word.Call (no ∷ id (codes "f") ∷ listed (id (codes "x") ∷ []) ∷ []) ∷
    []) ∷
    []) ∷
    []) ∷
    [])

logical_runs : source_trace_of logical_unit None [] (given 7 ∷ []) (yields 1 ∷ full kinds.No value.Undefined [] [] ∷ [])
    ≡ traced (
    event (codes "global") (codes "a" ∷ []) [] ∷ event (codes "truthy") [] (given 1 ∷ []) ∷
    []) (ending.Returned returns.Implicit (given 1) [])
logical_runs = refl

logical_ported : ported_trace_of logical_unit (picked []) None [] (given 7 ∷ [])
    (yields 1 ∷ full kinds.No value.Undefined [] [] ∷ [])
    ≡ source_trace_of logical_unit None [] (given 7 ∷ [])
    (yields 1 ∷ full kinds.No value.Undefined [] [] ∷ [])
logical_ported = refl

logical_orderly : is_orderly logical_unit None ≡ true
logical_orderly = refl

logical_supported : is_supported logical_unit ≡ true
logical_supported = refl

-- (unit [] (program [(expr (arrow y n (params [] -) (chain (call n (member n (member y (id "a") "b") "c") [(call n (id "d") [])]))))]))
abbrev chain_that_ends_unit : Syntax
chain_that_ends_unit =
    unit (
    tree word.Expr (
    tree word.Arrow (
    yes ∷ no ∷
    tree word.Params (listed [] ∷ Absent ∷ []) ∷
    tree word.Chain (
    tree word.Call (
    no ∷
    tree word.Member (no ∷ tree word.Member (yes ∷ id (codes "a") ∷ text (codes "b") ∷ []) ∷ text (codes "c") ∷ []) ∷
    listed (tree word.Call (no ∷ id (codes "d") ∷ listed [] ∷ []) ∷ []) ∷
    []) ∷
    []) ∷
    []) ∷
    []) ∷
    [])

chain_that_ends_runs : source_trace_of chain_that_ends_unit None [] [] (yields 1 ∷ yields 0 ∷ [])
    ≡ traced (
    event (codes "global") (codes "a" ∷ []) [] ∷ event (codes "nullish") [] (given 1 ∷ []) ∷
    []) (ending.Returned returns.Implicit value.Undefined [])
chain_that_ends_runs = refl

chain_that_ends_ported : ported_trace_of chain_that_ends_unit (picked []) None [] []
    (yields 1 ∷ yields 0 ∷ [])
    ≡ source_trace_of chain_that_ends_unit None [] []
    (yields 1 ∷ yields 0 ∷ [])
chain_that_ends_ported = refl

chain_that_ends_orderly : is_orderly chain_that_ends_unit None ≡ true
chain_that_ends_orderly = refl

chain_that_ends_supported : is_supported chain_that_ends_unit ≡ true
chain_that_ends_supported = refl

-- (unit [] (program [(expr (arrow y n (params [] -) (chain (call n (member n (member y (id "a") "b") "c") [(call n (id "d") [])]))))]))
abbrev chain_unit : Syntax
chain_unit =
    unit (
    tree word.Expr (
    tree word.Arrow (
    yes ∷ no ∷
    tree word.Params (listed [] ∷ Absent ∷ []) ∷
    tree word.Chain (
    tree word.Call (
    no ∷
    tree word.Member (no ∷ tree word.Member (yes ∷ id (codes "a") ∷ text (codes "b") ∷ []) ∷ text (codes "c") ∷ []) ∷
    listed (tree word.Call (no ∷ id (codes "d") ∷ listed [] ∷ []) ∷ []) ∷
    []) ∷
    []) ∷
    []) ∷
    []) ∷
    [])

chain_runs : source_trace_of chain_unit None [] []
    (yields 1 ∷ full kinds.No value.Undefined [] [] ∷ yields 2 ∷ yields 3 ∷ yields 4 ∷ yields 5 ∷ yields 6 ∷ [])
    ≡ traced (
    event (codes "global") (codes "a" ∷ []) [] ∷ event (codes "nullish") [] (given 1 ∷ []) ∷
    event (codes "propertyload") [] (given 1 ∷ value.Text (codes "b") ∷ []) ∷
    event (codes "propertyload") [] (given 2 ∷ value.Text (codes "c") ∷ []) ∷ event (codes "global") (codes "d" ∷ []) [] ∷
    event (codes "call") [] (given 4 ∷ []) ∷ event (codes "methodcall") (codes "place" ∷ []) (given 2 ∷ given 3 ∷ given 5 ∷ []) ∷
    []) (ending.Returned returns.Implicit (given 6) [])
chain_runs = refl

chain_ported : ported_trace_of chain_unit (picked []) None [] []
    (yields 1 ∷ full kinds.No value.Undefined [] [] ∷ yields 2 ∷ yields 3 ∷ yields 4 ∷ yields 5 ∷ yields 6 ∷ [])
    ≡ source_trace_of chain_unit None [] []
    (yields 1 ∷ full kinds.No value.Undefined [] [] ∷ yields 2 ∷ yields 3 ∷ yields 4 ∷ yields 5 ∷ yields 6 ∷ [])
chain_ported = refl

chain_orderly : is_orderly chain_unit None ≡ true
chain_orderly = refl

chain_supported : is_supported chain_unit ≡ true
chain_supported = refl

-- (unit [] (program [(expr (arrow y n (params [(param (bind "y" -) -)] -) (body [] [(forof n (var "const" [(declarator (bind "x" -)
--   -)]) (id "y") (block [(if (id "x") (continue -) -) (expr (call n (id "g") [(id "x")]))]))])))]))
abbrev for_of_unit : Syntax
for_of_unit =
    unit (
    tree word.Expr (
    tree word.Arrow (
    yes ∷ no ∷
    tree word.Params (listed (tree word.Param (name (codes "y") ∷ Absent ∷ []) ∷ []) ∷ Absent ∷ []) ∷
    tree word.Body (
    listed [] ∷
    listed (
    tree word.Forof (
    no ∷
    tree word.Var (text (codes "const") ∷ listed (tree word.Declarator (name (codes "x") ∷ Absent ∷ []) ∷ []) ∷ []) ∷
    id (codes "y") ∷
    tree word.Block (
    listed (
    tree word.If (id (codes "x") ∷ tree word.Continue (Absent ∷ []) ∷ Absent ∷ []) ∷
    tree word.Expr (tree word.Call (no ∷ id (codes "g") ∷ listed (id (codes "x") ∷ []) ∷ []) ∷ []) ∷
    []) ∷
    []) ∷
    []) ∷
    []) ∷
    []) ∷
    []) ∷
    []) ∷
    [])

for_of_runs : source_trace_of for_of_unit None [] (given 1 ∷ [])
    (
    yields 9 ∷ yields 2 ∷ yields 0 ∷ yields 3 ∷ full kinds.No value.Undefined [] [] ∷ yields 4 ∷ yields 5 ∷
    full kinds.No value.Undefined [] [] ∷
    [])
    ≡ traced (
    event (codes "getiterator") [] (given 1 ∷ []) ∷ event (codes "next") [] (given 9 ∷ given 1 ∷ []) ∷
    event (codes "truthy") [] (given 2 ∷ []) ∷ event (codes "next") [] (given 9 ∷ given 1 ∷ []) ∷
    event (codes "truthy") [] (given 3 ∷ []) ∷ event (codes "global") (codes "g" ∷ []) [] ∷
    event (codes "call") (codes "place" ∷ []) (given 4 ∷ given 3 ∷ []) ∷ event (codes "next") [] (given 9 ∷ given 1 ∷ []) ∷
    []) (ending.Returned returns.Void value.Undefined [])
for_of_runs = refl

for_of_ported : ported_trace_of for_of_unit (picked []) None [] (given 1 ∷ [])
    (
    yields 9 ∷ yields 2 ∷ yields 0 ∷ yields 3 ∷ full kinds.No value.Undefined [] [] ∷ yields 4 ∷ yields 5 ∷
    full kinds.No value.Undefined [] [] ∷
    [])
    ≡ source_trace_of for_of_unit None [] (given 1 ∷ [])
    (
    yields 9 ∷ yields 2 ∷ yields 0 ∷ yields 3 ∷ full kinds.No value.Undefined [] [] ∷ yields 4 ∷ yields 5 ∷
    full kinds.No value.Undefined [] [] ∷
    [])
for_of_ported = refl

for_of_orderly : is_orderly for_of_unit None ≡ true
for_of_orderly = refl

for_of_supported : is_supported for_of_unit ≡ true
for_of_supported = refl

-- (unit [] (program [(expr (arrow y n (params [(param (bind "x" -) -)] -) (body [] [(try (block [(expr (call n (id "g") [(id "x")]))])
--   (catch (bind "e" -) (block [(return (id "e"))])) -)])))]))
abbrev try_catch_unit : Syntax
try_catch_unit =
    unit (
    tree word.Expr (
    tree word.Arrow (
    yes ∷ no ∷
    tree word.Params (listed (tree word.Param (name (codes "x") ∷ Absent ∷ []) ∷ []) ∷ Absent ∷ []) ∷
    tree word.Body (
    listed [] ∷
    listed (
    tree word.Try (
    tree word.Block (
    listed (tree word.Expr (tree word.Call (no ∷ id (codes "g") ∷ listed (id (codes "x") ∷ []) ∷ []) ∷ []) ∷ []) ∷
    []) ∷
    tree word.Catch (name (codes "e") ∷ tree word.Block (listed (tree word.Return (id (codes "e") ∷ []) ∷ []) ∷ []) ∷ []) ∷
    Absent ∷
    []) ∷
    []) ∷
    []) ∷
    []) ∷
    []) ∷
    [])

try_catch_runs : source_trace_of try_catch_unit None [] (given 1 ∷ []) (yields 2 ∷ throws 3 ∷ [])
    ≡ traced (
    event (codes "global") (codes "g" ∷ []) [] ∷ event (codes "call") (codes "place" ∷ []) (given 2 ∷ given 1 ∷ []) ∷
    []) (ending.Returned returns.Explicit (given 3) [])
try_catch_runs = refl

try_catch_ported : ported_trace_of try_catch_unit (picked []) None [] (given 1 ∷ [])
    (yields 2 ∷ throws 3 ∷ [])
    ≡ source_trace_of try_catch_unit None [] (given 1 ∷ [])
    (yields 2 ∷ throws 3 ∷ [])
try_catch_ported = refl

try_catch_orderly : is_orderly try_catch_unit None ≡ true
try_catch_orderly = refl

try_catch_supported : is_supported try_catch_unit ≡ true
try_catch_supported = refl

-- (unit [] (program [(expr (arrow y n (params [] -) (body [] [(if (id "a") (return (str "1")) (return (str "2"))) (expr (call n (id
--   "g") [(arrow n n (params [] -) (str "2"))]))])))]))
abbrev branches_unit : Syntax
branches_unit =
    unit (
    tree word.Expr (
    tree word.Arrow (
    yes ∷ no ∷
    tree word.Params (listed [] ∷ Absent ∷ []) ∷
    tree word.Body (
    listed [] ∷
    listed (
    tree word.If (
    id (codes "a") ∷
    tree word.Return (tree word.Str (text (codes "1") ∷ []) ∷ []) ∷
    tree word.Return (tree word.Str (text (codes "2") ∷ []) ∷ []) ∷
    []) ∷
    tree word.Expr (
    tree word.Call (
    no ∷ id (codes "g") ∷
    listed (
    tree word.Arrow (
    no ∷ no ∷
    tree word.Params (listed [] ∷ Absent ∷ []) ∷
    tree word.Str (text (codes "2") ∷ []) ∷
    []) ∷
    []) ∷
    []) ∷
    []) ∷
    []) ∷
    []) ∷
    []) ∷
    []) ∷
    [])

branches_runs : source_trace_of branches_unit None [] [] (yields 1 ∷ full kinds.No value.Undefined [] [] ∷ [])
    ≡ traced (
    event (codes "global") (codes "a" ∷ []) [] ∷ event (codes "truthy") [] (given 1 ∷ []) ∷
    []) (ending.Returned returns.Explicit (value.Text (codes "2")) [])
branches_runs = refl

branches_ported : ported_trace_of branches_unit (picked []) None [] []
    (yields 1 ∷ full kinds.No value.Undefined [] [] ∷ [])
    ≡ source_trace_of branches_unit None [] []
    (yields 1 ∷ full kinds.No value.Undefined [] [] ∷ [])
branches_ported = refl

branches_orderly : is_orderly branches_unit None ≡ true
branches_orderly = refl

branches_supported : is_supported branches_unit ≡ false
branches_supported = refl

-- (unit [] (program [(expr (arrow y n (params [] -) (body [] [(labeled "a" (labeled "b" (forin (var "const" [(declarator (bind "k" -)
--   -)]) (id "o") (block [(continue "a")]))))])))]))
abbrev outer_label_unit : Syntax
outer_label_unit =
    unit (
    tree word.Expr (
    tree word.Arrow (
    yes ∷ no ∷
    tree word.Params (listed [] ∷ Absent ∷ []) ∷
    tree word.Body (
    listed [] ∷
    listed (
    tree word.Labeled (
    text (codes "a") ∷
    tree word.Labeled (
    text (codes "b") ∷
    tree word.Forin (
    tree word.Var (text (codes "const") ∷ listed (tree word.Declarator (name (codes "k") ∷ Absent ∷ []) ∷ []) ∷ []) ∷
    id (codes "o") ∷
    tree word.Block (listed (tree word.Continue (text (codes "a") ∷ []) ∷ []) ∷ []) ∷
    []) ∷
    []) ∷
    []) ∷
    []) ∷
    []) ∷
    []) ∷
    []) ∷
    [])

outer_label_runs : source_trace_of outer_label_unit None [] [] (yields 1 ∷ yields 2 ∷ yields 3 ∷ [])
    ≡ traced (event (codes "global") (codes "o" ∷ []) [] ∷ event (codes "nextpropertyof") [] (given 1 ∷ []) ∷ []) ending.Waiting
outer_label_runs = refl

outer_label_ported : ported_trace_of outer_label_unit (picked []) None [] []
    (yields 1 ∷ yields 2 ∷ yields 3 ∷ [])
    ≡ source_trace_of outer_label_unit None [] []
    (yields 1 ∷ yields 2 ∷ yields 3 ∷ [])
outer_label_ported = refl

outer_label_orderly : is_orderly outer_label_unit None ≡ true
outer_label_orderly = refl

outer_label_supported : is_supported outer_label_unit ≡ false
outer_label_supported = refl

-- (unit [] (program [(expr (arrow y n (params [(param (bind "v" -) -) (param (bind "c" -) -)] -) (body [] [(while (id "c") (block [(try
--   (block [(expr (call n (id "g") [(id "b")])) (var "let" [(declarator (arraypat [(defaultpat (bind "a" -) (call n (id "f") [])) (bind
--   "b" -)] -) (id "v"))])]) (catch - (block [])) -)]))])))]))
abbrev defaults_in_try_unit : Syntax
defaults_in_try_unit =
    unit (
    tree word.Expr (
    tree word.Arrow (
    yes ∷ no ∷
    tree word.Params (
    listed (tree word.Param (name (codes "v") ∷ Absent ∷ []) ∷ tree word.Param (name (codes "c") ∷ Absent ∷ []) ∷ []) ∷ Absent ∷
    []) ∷
    tree word.Body (
    listed [] ∷
    listed (
    tree word.While (
    id (codes "c") ∷
    tree word.Block (
    listed (
    tree word.Try (
    tree word.Block (
    listed (
    tree word.Expr (tree word.Call (no ∷ id (codes "g") ∷ listed (id (codes "b") ∷ []) ∷ []) ∷ []) ∷
    tree word.Var (
    text (codes "let") ∷
    listed (
    tree word.Declarator (
    tree word.Arraypat (
    listed (
    tree word.Defaultpat (
    name (codes "a") ∷
    tree word.Call (no ∷ id (codes "f") ∷ listed [] ∷ []) ∷
    []) ∷
    name (codes "b") ∷
    []) ∷
    Absent ∷
    []) ∷
    id (codes "v") ∷
    []) ∷
    []) ∷
    []) ∷
    []) ∷
    []) ∷
    tree word.Catch (Absent ∷ tree word.Block (listed [] ∷ []) ∷ []) ∷ Absent ∷
    []) ∷
    []) ∷
    []) ∷
    []) ∷
    []) ∷
    []) ∷
    []) ∷
    []) ∷
    [])

defaults_in_try_runs : source_trace_of defaults_in_try_unit None [] (given 1 ∷ given 2 ∷ [])
    (
    yields 0 ∷ yields 3 ∷ yields 4 ∷ full kinds.Yes value.Undefined (value.Undefined ∷ given 7 ∷ []) [] ∷ yields 5 ∷ yields 0 ∷
    yields 6 ∷ throws 8 ∷ yields 0 ∷ yields 3 ∷ yields 4 ∷
    [])
    ≡ traced (
    event (codes "truthy") [] (given 2 ∷ []) ∷ event (codes "global") (codes "g" ∷ []) [] ∷
    event (codes "call") (codes "place" ∷ []) (given 3 ∷ value.Undefined ∷ []) ∷
    event (codes "destructure") (codes "array" ∷ codes "place" ∷ codes "place" ∷ []) (given 1 ∷ []) ∷
    event (codes "binary") (codes "===" ∷ []) (value.Undefined ∷ value.Undefined ∷ []) ∷ event (codes "truthy") [] (given 5 ∷ []) ∷
    event (codes "global") (codes "f" ∷ []) [] ∷ event (codes "call") [] (given 6 ∷ []) ∷ event (codes "truthy") [] (given 2 ∷ []) ∷
    event (codes "global") (codes "g" ∷ []) [] ∷ event (codes "call") (codes "place" ∷ []) (given 3 ∷ value.Undefined ∷ []) ∷
    []) ending.Waiting
defaults_in_try_runs = refl

defaults_in_try_ported : ported_trace_of defaults_in_try_unit (picked []) None [] (given 1 ∷ given 2 ∷ [])
    (
    yields 0 ∷ yields 3 ∷ yields 4 ∷ full kinds.Yes value.Undefined (value.Undefined ∷ given 7 ∷ []) [] ∷ yields 5 ∷ yields 0 ∷
    yields 6 ∷ throws 8 ∷ yields 0 ∷ yields 3 ∷ yields 4 ∷
    [])
    ≡ traced (
    event (codes "truthy") [] (given 2 ∷ []) ∷ event (codes "global") (codes "g" ∷ []) [] ∷
    event (codes "call") (codes "place" ∷ []) (given 3 ∷ value.Undefined ∷ []) ∷
    event (codes "destructure") (codes "array" ∷ codes "place" ∷ codes "place" ∷ []) (given 1 ∷ []) ∷
    event (codes "binary") (codes "===" ∷ []) (value.Undefined ∷ value.Undefined ∷ []) ∷ event (codes "truthy") [] (given 5 ∷ []) ∷
    event (codes "global") (codes "f" ∷ []) [] ∷ event (codes "call") [] (given 6 ∷ []) ∷ event (codes "truthy") [] (given 2 ∷ []) ∷
    event (codes "global") (codes "g" ∷ []) [] ∷ event (codes "call") (codes "place" ∷ []) (given 3 ∷ given 7 ∷ []) ∷
    []) ending.Waiting
defaults_in_try_ported = refl

defaults_in_try_orderly : is_orderly defaults_in_try_unit None ≡ false
defaults_in_try_orderly = refl

defaults_in_try_supported : is_supported defaults_in_try_unit ≡ true
defaults_in_try_supported = refl

-- (unit [] (program [(expr (arrow y n (params [] -) (body [] [(fundecl n n n (bind "f" -) (params [(param (bind "f" -) -)] -) (body []
--   [])) (return (id "f"))])))]))
abbrev shadowed_unit : Syntax
shadowed_unit =
    unit (
    tree word.Expr (
    tree word.Arrow (
    yes ∷ no ∷
    tree word.Params (listed [] ∷ Absent ∷ []) ∷
    tree word.Body (
    listed [] ∷
    listed (
    tree word.Fundecl (
    no ∷ no ∷ no ∷ name (codes "f") ∷
    tree word.Params (listed (tree word.Param (name (codes "f") ∷ Absent ∷ []) ∷ []) ∷ Absent ∷ []) ∷
    tree word.Body (listed [] ∷ listed [] ∷ []) ∷
    []) ∷
    tree word.Return (id (codes "f") ∷ []) ∷
    []) ∷
    []) ∷
    []) ∷
    []) ∷
    [])

shadowed_runs : source_trace_of shadowed_unit None [] [] (yields 1 ∷ [])
    ≡ traced (event (codes "function") (decimal 6 ∷ []) [] ∷ []) (ending.Returned returns.Explicit (given 1) [])
shadowed_runs = refl

shadowed_ported : ported_trace_of shadowed_unit (picked ((7, 1) ∷ [])) None [] []
    (yields 1 ∷ [])
    ≡ traced (
    event (codes "function") (decimal 6 ∷ []) [] ∷
    []) (ending.Returned returns.Explicit value.Undefined (sets 1 (given 1) ∷ []))
shadowed_ported = refl

shadowed_orderly : is_orderly shadowed_unit None ≡ false
shadowed_orderly = refl

shadowed_supported : is_supported shadowed_unit ≡ true
shadowed_supported = refl

-- (unit [] (program [(expr (arrow y n (params [(param (bind "n" -) -)] -) (body [] [(for (var "let" [(declarator (bind "i" -) (str
--   "0"))]) (binary "<" (id "i") (id "n")) (update "++" n (id "i")) (block [(if (call n (id "f") [(id "i")]) (continue -) -) (expr
--   (call n (id "g") [(id "i")]))]))])))]))
abbrev loops_unit : Syntax
loops_unit =
    unit (
    tree word.Expr (
    tree word.Arrow (
    yes ∷ no ∷
    tree word.Params (listed (tree word.Param (name (codes "n") ∷ Absent ∷ []) ∷ []) ∷ Absent ∷ []) ∷
    tree word.Body (
    listed [] ∷
    listed (
    tree word.For (
    tree word.Var (
    text (codes "let") ∷
    listed (tree word.Declarator (name (codes "i") ∷ tree word.Str (text (codes "0") ∷ []) ∷ []) ∷ []) ∷
    []) ∷
    tree word.Binary (text (codes "<") ∷ id (codes "i") ∷ id (codes "n") ∷ []) ∷
    tree word.Update (text (codes "++") ∷ no ∷ id (codes "i") ∷ []) ∷
    tree word.Block (
    listed (
    tree word.If (
    tree word.Call (no ∷ id (codes "f") ∷ listed (id (codes "i") ∷ []) ∷ []) ∷
    tree word.Continue (Absent ∷ []) ∷ Absent ∷
    []) ∷
    tree word.Expr (tree word.Call (no ∷ id (codes "g") ∷ listed (id (codes "i") ∷ []) ∷ []) ∷ []) ∷
    []) ∷
    []) ∷
    []) ∷
    []) ∷
    []) ∷
    []) ∷
    []) ∷
    [])

loops_runs : source_trace_of loops_unit None [] (given 9 ∷ [])
    (yields 1 ∷ yields 0 ∷ yields 2 ∷ yields 3 ∷ yields 0 ∷ yields 4 ∷ yields 5 ∷ full kinds.No value.Undefined [] [] ∷ [])
    ≡ traced (
    event (codes "binary") (codes "<" ∷ []) (value.Text (codes "0") ∷ given 9 ∷ []) ∷ event (codes "truthy") [] (given 1 ∷ []) ∷
    event (codes "global") (codes "f" ∷ []) [] ∷ event (codes "call") (codes "place" ∷ []) (given 2 ∷ value.Text (codes "0") ∷ []) ∷
    event (codes "truthy") [] (given 3 ∷ []) ∷ event (codes "postfixupdate") (codes "++" ∷ []) (value.Text (codes "0") ∷ []) ∷
    event (codes "binary") (codes "<" ∷ []) (given 4 ∷ given 9 ∷ []) ∷ event (codes "truthy") [] (given 5 ∷ []) ∷
    []) (ending.Returned returns.Void value.Undefined [])
loops_runs = refl

loops_ported : ported_trace_of loops_unit (picked []) None [] (given 9 ∷ [])
    (yields 1 ∷ yields 0 ∷ yields 2 ∷ yields 3 ∷ yields 0 ∷ yields 4 ∷ yields 5 ∷ full kinds.No value.Undefined [] [] ∷ [])
    ≡ source_trace_of loops_unit None [] (given 9 ∷ [])
    (yields 1 ∷ yields 0 ∷ yields 2 ∷ yields 3 ∷ yields 0 ∷ yields 4 ∷ yields 5 ∷ full kinds.No value.Undefined [] [] ∷ [])
loops_ported = refl

loops_orderly : is_orderly loops_unit None ≡ true
loops_orderly = refl

loops_supported : is_supported loops_unit ≡ true
loops_supported = refl

-- (unit [] (program [(expr (arrow y n (params [(param (bind "v" -) -)] -) (body [] [(var "const" [(declarator (objectpat [(keyedpat n
--   (name "a") (defaultpat (bind "a" -) (str "1")))] -) (id "v"))]) (return (id "a"))])))]))
abbrev statements_unit : Syntax
statements_unit =
    unit (
    tree word.Expr (
    tree word.Arrow (
    yes ∷ no ∷
    tree word.Params (listed (tree word.Param (name (codes "v") ∷ Absent ∷ []) ∷ []) ∷ Absent ∷ []) ∷
    tree word.Body (
    listed [] ∷
    listed (
    tree word.Var (
    text (codes "const") ∷
    listed (
    tree word.Declarator (
    tree word.Objectpat (
    listed (
    tree word.Keyedpat (
    no ∷
    tree word.Name (text (codes "a") ∷ []) ∷
    tree word.Defaultpat (name (codes "a") ∷ tree word.Str (text (codes "1") ∷ []) ∷ []) ∷
    []) ∷
    []) ∷
    Absent ∷
    []) ∷
    id (codes "v") ∷
    []) ∷
    []) ∷
    []) ∷
    tree word.Return (id (codes "a") ∷ []) ∷
    []) ∷
    []) ∷
    []) ∷
    []) ∷
    [])

statements_runs : source_trace_of statements_unit None [] (given 5 ∷ [])
    (full kinds.Yes value.Undefined (value.Undefined ∷ []) [] ∷ yields 2 ∷ yields 0 ∷ [])
    ≡ traced (
    event (codes "destructure") (codes "object" ∷ codes ".a" ∷ codes "place" ∷ []) (given 5 ∷ []) ∷
    event (codes "binary") (codes "===" ∷ []) (value.Undefined ∷ value.Undefined ∷ []) ∷ event (codes "truthy") [] (given 2 ∷ []) ∷
    []) (ending.Returned returns.Explicit (value.Text (codes "1")) [])
statements_runs = refl

statements_ported : ported_trace_of statements_unit (picked []) None [] (given 5 ∷ [])
    (full kinds.Yes value.Undefined (value.Undefined ∷ []) [] ∷ yields 2 ∷ yields 0 ∷ [])
    ≡ source_trace_of statements_unit None [] (given 5 ∷ [])
    (full kinds.Yes value.Undefined (value.Undefined ∷ []) [] ∷ yields 2 ∷ yields 0 ∷ [])
statements_ported = refl

statements_orderly : is_orderly statements_unit None ≡ true
statements_orderly = refl

statements_supported : is_supported statements_unit ≡ true
statements_supported = refl

-- (unit [] (program [(expr (arrow y n (params [] -) (body [] [(var "let" [(declarator (bind "n" -) (str "0"))]) (expr (call n (id "f")
--   [(arrow n n (params [] -) (assign "=" (id "n") (str "1")))])) (return (id "n"))])))]))
abbrev captures_unit : Syntax
captures_unit =
    unit (
    tree word.Expr (
    tree word.Arrow (
    yes ∷ no ∷
    tree word.Params (listed [] ∷ Absent ∷ []) ∷
    tree word.Body (
    listed [] ∷
    listed (
    tree word.Var (
    text (codes "let") ∷
    listed (tree word.Declarator (name (codes "n") ∷ tree word.Str (text (codes "0") ∷ []) ∷ []) ∷ []) ∷
    []) ∷
    tree word.Expr (
    tree word.Call (
    no ∷ id (codes "f") ∷
    listed (
    tree word.Arrow (
    no ∷ no ∷
    tree word.Params (listed [] ∷ Absent ∷ []) ∷
    tree word.Assign (text (codes "=") ∷ id (codes "n") ∷ tree word.Str (text (codes "1") ∷ []) ∷ []) ∷
    []) ∷
    []) ∷
    []) ∷
    []) ∷
    tree word.Return (id (codes "n") ∷ []) ∷
    []) ∷
    []) ∷
    []) ∷
    []) ∷
    [])

captures_runs : source_trace_of captures_unit None [] []
    (yields 1 ∷ yields 2 ∷ full kinds.Yes (given 4) [] (sets 0 (given 3) ∷ []) ∷ [])
    ≡ traced (
    event (codes "global") (codes "f" ∷ []) [] ∷ event (codes "function") (decimal 13 ∷ []) [] ∷
    event (codes "call") (codes "place" ∷ []) (given 1 ∷ given 2 ∷ []) ∷
    []) (ending.Returned returns.Explicit (given 3) (sets 0 (given 3) ∷ []))
captures_runs = refl

captures_ported : ported_trace_of captures_unit (picked []) None [] []
    (yields 1 ∷ yields 2 ∷ full kinds.Yes (given 4) [] (sets 0 (given 3) ∷ []) ∷ [])
    ≡ source_trace_of captures_unit None [] []
    (yields 1 ∷ yields 2 ∷ full kinds.Yes (given 4) [] (sets 0 (given 3) ∷ []) ∷ [])
captures_ported = refl

captures_orderly : is_orderly captures_unit None ≡ true
captures_orderly = refl

captures_supported : is_supported captures_unit ≡ true
captures_supported = refl

-- (unit [] (program [(expr (arrow y n (params [] -) (body [] [(var "let" [(declarator (bind "n" -) (str "0"))]) (expr (call n (id "f")
--   [(arrow n n (params [] -) (assign "=" (id "n") (str "1")))])) (return (id "n"))])))]))
abbrev captures_inner_unit : Syntax
captures_inner_unit =
    unit (
    tree word.Expr (
    tree word.Arrow (
    yes ∷ no ∷
    tree word.Params (listed [] ∷ Absent ∷ []) ∷
    tree word.Body (
    listed [] ∷
    listed (
    tree word.Var (
    text (codes "let") ∷
    listed (tree word.Declarator (name (codes "n") ∷ tree word.Str (text (codes "0") ∷ []) ∷ []) ∷ []) ∷
    []) ∷
    tree word.Expr (
    tree word.Call (
    no ∷ id (codes "f") ∷
    listed (
    tree word.Arrow (
    no ∷ no ∷
    tree word.Params (listed [] ∷ Absent ∷ []) ∷
    tree word.Assign (text (codes "=") ∷ id (codes "n") ∷ tree word.Str (text (codes "1") ∷ []) ∷ []) ∷
    []) ∷
    []) ∷
    []) ∷
    []) ∷
    tree word.Return (id (codes "n") ∷ []) ∷
    []) ∷
    []) ∷
    []) ∷
    []) ∷
    [])

captures_inner_runs : source_trace_of captures_inner_unit (Some 13) [] [] []
    ≡ traced [] (ending.Returned returns.Implicit (value.Text (codes "1")) (sets 0 (value.Text (codes "1")) ∷ []))
captures_inner_runs = refl

captures_inner_ported : ported_trace_of captures_inner_unit (picked []) (Some 13) [] []
    []
    ≡ source_trace_of captures_inner_unit (Some 13) [] []
    []
captures_inner_ported = refl

captures_inner_orderly : is_orderly captures_inner_unit (Some 13) ≡ true
captures_inner_orderly = refl

captures_inner_supported : is_supported captures_inner_unit ≡ true
captures_inner_supported = refl
