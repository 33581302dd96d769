-- As `WholeExamples`, for switches, assignments, calls, patterns, labels and JSX.
use Rattle.std.proofs.Common.{◌≡◌, true, false, None, [], ◌∷◌, codes, refl}
use Rattle.std.specs.Fmt.{decimal}
use Rattle.rl_hir.specs.declared.terminal.ReturnVariant.TheVariants as returns
use Rattle.rl_machine.specs.declared.trace.AnswerKind.TheVariants as kinds
use Rattle.rl_machine.specs.declared.trace.Ending.TheVariants as ending
use Rattle.rl_machine.specs.declared.trace.Value.TheVariants as value
use Rattle.rl_jsx.specs.JsxTexts as jsx
use Rattle.rl_model.proofs.ExampleTrees.{full, given, picked, id, listed, name, no, text, traced, tree, unit, yes, yields}
use Rattle.rl_model.specs.Events.{event}
use Rattle.rl_model.specs.Ported.{ported_trace_of}
use Rattle.rl_model.specs.Source.{is_orderly, is_supported, source_trace_of}
use Rattle.rl_syntax.specs.Syntax.{Syntax, Absent}
use Rattle.rl_syntax.specs.declared.word.Word.TheVariants as word

-- (unit [] (program [(expr (arrow y n (params [(param (bind "x" -) -) (param (bind "y" -) -)] -) (body [] [(switch (id "x") [(case
--   (call n (id "f") []) [(expr (id "p"))]) (case - [(break -)]) (case (id "y") [(return (str "3"))])]) (return (str "end"))])))]))
abbrev switch_unit : Syntax
switch_unit =
    unit (
    tree word.Expr (
    tree word.Arrow (
    yes ∷ no ∷
    tree word.Params (
    listed (tree word.Param (name (codes "x") ∷ Absent ∷ []) ∷ tree word.Param (name (codes "y") ∷ Absent ∷ []) ∷ []) ∷ Absent ∷
    []) ∷
    tree word.Body (
    listed [] ∷
    listed (
    tree word.Switch (
    id (codes "x") ∷
    listed (
    tree word.Case (
    tree word.Call (no ∷ id (codes "f") ∷ listed [] ∷ []) ∷
    listed (tree word.Expr (id (codes "p") ∷ []) ∷ []) ∷
    []) ∷
    tree word.Case (Absent ∷ listed (tree word.Break (Absent ∷ []) ∷ []) ∷ []) ∷
    tree word.Case (id (codes "y") ∷ listed (tree word.Return (tree word.Str (text (codes "3") ∷ []) ∷ []) ∷ []) ∷ []) ∷
    []) ∷
    []) ∷
    tree word.Return (tree word.Str (text (codes "end") ∷ []) ∷ []) ∷
    []) ∷
    []) ∷
    []) ∷
    []) ∷
    [])

switch_runs : source_trace_of switch_unit None [] (given 1 ∷ given 2 ∷ [])
    (yields 1 ∷ yields 2 ∷ full kinds.No value.Undefined [] [] ∷ yields 4 ∷ yields 5 ∷ [])
    ≡ traced (
    event (codes "global") (codes "f" ∷ []) [] ∷ event (codes "call") [] (given 1 ∷ []) ∷
    event (codes "matches") [] (given 1 ∷ given 2 ∷ []) ∷ event (codes "matches") [] (given 1 ∷ given 2 ∷ []) ∷
    []) (ending.Returned returns.Explicit (value.Text (codes "3")) [])
switch_runs = refl

switch_ported : ported_trace_of switch_unit (picked []) None [] (given 1 ∷ given 2 ∷ [])
    (yields 1 ∷ yields 2 ∷ full kinds.No value.Undefined [] [] ∷ yields 4 ∷ yields 5 ∷ [])
    ≡ source_trace_of switch_unit None [] (given 1 ∷ given 2 ∷ [])
    (yields 1 ∷ yields 2 ∷ full kinds.No value.Undefined [] [] ∷ yields 4 ∷ yields 5 ∷ [])
switch_ported = refl

switch_orderly : is_orderly switch_unit None ≡ false
switch_orderly = refl

switch_supported : is_supported switch_unit ≡ true
switch_supported = refl

-- (unit [] (program [(expr (arrow y n (params [(param (bind "x" -) -) (param (bind "y" -) -)] -) (body [] [(switch (id "x") [(case
--   (call n (id "f") []) [(expr (id "p"))]) (case - [(break -)]) (case (id "y") [(return (str "3"))])]) (return (str "end"))])))]))
abbrev switch_default_unit : Syntax
switch_default_unit =
    unit (
    tree word.Expr (
    tree word.Arrow (
    yes ∷ no ∷
    tree word.Params (
    listed (tree word.Param (name (codes "x") ∷ Absent ∷ []) ∷ tree word.Param (name (codes "y") ∷ Absent ∷ []) ∷ []) ∷ Absent ∷
    []) ∷
    tree word.Body (
    listed [] ∷
    listed (
    tree word.Switch (
    id (codes "x") ∷
    listed (
    tree word.Case (
    tree word.Call (no ∷ id (codes "f") ∷ listed [] ∷ []) ∷
    listed (tree word.Expr (id (codes "p") ∷ []) ∷ []) ∷
    []) ∷
    tree word.Case (Absent ∷ listed (tree word.Break (Absent ∷ []) ∷ []) ∷ []) ∷
    tree word.Case (id (codes "y") ∷ listed (tree word.Return (tree word.Str (text (codes "3") ∷ []) ∷ []) ∷ []) ∷ []) ∷
    []) ∷
    []) ∷
    tree word.Return (tree word.Str (text (codes "end") ∷ []) ∷ []) ∷
    []) ∷
    []) ∷
    []) ∷
    []) ∷
    [])

switch_default_runs : source_trace_of switch_default_unit None [] (given 1 ∷ given 2 ∷ [])
    (yields 1 ∷ yields 2 ∷ full kinds.No value.Undefined [] [] ∷ full kinds.No value.Undefined [] [] ∷ [])
    ≡ traced (
    event (codes "global") (codes "f" ∷ []) [] ∷ event (codes "call") [] (given 1 ∷ []) ∷
    event (codes "matches") [] (given 1 ∷ given 2 ∷ []) ∷ event (codes "matches") [] (given 1 ∷ given 2 ∷ []) ∷
    []) (ending.Returned returns.Explicit (value.Text (codes "end")) [])
switch_default_runs = refl

switch_default_ported : ported_trace_of switch_default_unit (picked []) None [] (given 1 ∷ given 2 ∷ [])
    (yields 1 ∷ yields 2 ∷ full kinds.No value.Undefined [] [] ∷ full kinds.No value.Undefined [] [] ∷ [])
    ≡ source_trace_of switch_default_unit None [] (given 1 ∷ given 2 ∷ [])
    (yields 1 ∷ yields 2 ∷ full kinds.No value.Undefined [] [] ∷ full kinds.No value.Undefined [] [] ∷ [])
switch_default_ported = refl

switch_default_orderly : is_orderly switch_default_unit None ≡ false
switch_default_orderly = refl

switch_default_supported : is_supported switch_default_unit ≡ true
switch_default_supported = refl

-- (unit [] (program [(expr (arrow y n (params [(param (bind "o" -) -)] -) (body [] [(expr (assign "+=" (index n (id "o") (str "0"))
--   (assign "=" (member n (id "o") "k") (id "z")))) (return (update "--" n (member n (id "o") "q")))])))]))
abbrev compound_unit : Syntax
compound_unit =
    unit (
    tree word.Expr (
    tree word.Arrow (
    yes ∷ no ∷
    tree word.Params (listed (tree word.Param (name (codes "o") ∷ Absent ∷ []) ∷ []) ∷ Absent ∷ []) ∷
    tree word.Body (
    listed [] ∷
    listed (
    tree word.Expr (
    tree word.Assign (
    text (codes "+=") ∷
    tree word.Index (no ∷ id (codes "o") ∷ tree word.Str (text (codes "0") ∷ []) ∷ []) ∷
    tree word.Assign (
    text (codes "=") ∷
    tree word.Member (no ∷ id (codes "o") ∷ text (codes "k") ∷ []) ∷ id (codes "z") ∷
    []) ∷
    []) ∷
    []) ∷
    tree word.Return (
    tree word.Update (text (codes "--") ∷ no ∷ tree word.Member (no ∷ id (codes "o") ∷ text (codes "q") ∷ []) ∷ []) ∷
    []) ∷
    []) ∷
    []) ∷
    []) ∷
    []) ∷
    [])

compound_runs : source_trace_of compound_unit None [] (given 1 ∷ [])
    (yields 1 ∷ yields 2 ∷ yields 3 ∷ yields 4 ∷ yields 5 ∷ yields 6 ∷ yields 7 ∷ yields 8 ∷ [])
    ≡ traced (
    event (codes "computedload") [] (given 1 ∷ value.Text (codes "0") ∷ []) ∷ event (codes "global") (codes "z" ∷ []) [] ∷
    event (codes "propertystore") [] (given 1 ∷ value.Text (codes "k") ∷ given 2 ∷ []) ∷
    event (codes "binary") (codes "+" ∷ []) (given 1 ∷ given 2 ∷ []) ∷
    event (codes "computedstore") [] (given 1 ∷ value.Text (codes "0") ∷ given 4 ∷ []) ∷
    event (codes "propertyload") [] (given 1 ∷ value.Text (codes "q") ∷ []) ∷
    event (codes "binary") (codes "-" ∷ []) (given 6 ∷ value.Number 1 ∷ []) ∷
    event (codes "propertystore") [] (given 1 ∷ value.Text (codes "q") ∷ given 7 ∷ []) ∷
    []) (ending.Returned returns.Explicit (given 6) [])
compound_runs = refl

compound_ported : ported_trace_of compound_unit (picked []) None [] (given 1 ∷ [])
    (yields 1 ∷ yields 2 ∷ yields 3 ∷ yields 4 ∷ yields 5 ∷ yields 6 ∷ yields 7 ∷ yields 8 ∷ [])
    ≡ source_trace_of compound_unit None [] (given 1 ∷ [])
    (yields 1 ∷ yields 2 ∷ yields 3 ∷ yields 4 ∷ yields 5 ∷ yields 6 ∷ yields 7 ∷ yields 8 ∷ [])
compound_ported = refl

compound_orderly : is_orderly compound_unit None ≡ true
compound_orderly = refl

compound_supported : is_supported compound_unit ≡ true
compound_supported = refl

-- (unit [] (program [(expr (arrow y n (params [(param (bind "o" -) -)] -) (body [] [(return (call n (paren (chain (member y (id "o")
--   "m"))) [(spread (id "o")) (new (id "o") [])]))])))]))
abbrev calls_unit : Syntax
calls_unit =
    unit (
    tree word.Expr (
    tree word.Arrow (
    yes ∷ no ∷
    tree word.Params (listed (tree word.Param (name (codes "o") ∷ Absent ∷ []) ∷ []) ∷ Absent ∷ []) ∷
    tree word.Body (
    listed [] ∷
    listed (
    tree word.Return (
    tree word.Call (
    no ∷
    tree word.Paren (tree word.Chain (tree word.Member (yes ∷ id (codes "o") ∷ text (codes "m") ∷ []) ∷ []) ∷ []) ∷
    listed (tree word.Spread (id (codes "o") ∷ []) ∷ tree word.New (id (codes "o") ∷ listed [] ∷ []) ∷ []) ∷
    []) ∷
    []) ∷
    []) ∷
    []) ∷
    []) ∷
    []) ∷
    [])

calls_runs : source_trace_of calls_unit None [] (given 1 ∷ [])
    (full kinds.No value.Undefined [] [] ∷ yields 2 ∷ yields 3 ∷ yields 4 ∷ [])
    ≡ traced (
    event (codes "nullish") [] (given 1 ∷ []) ∷ event (codes "propertyload") [] (given 1 ∷ value.Text (codes "m") ∷ []) ∷
    event (codes "new") [] (given 1 ∷ []) ∷
    event (codes "methodcall") (codes "spread" ∷ codes "place" ∷ []) (given 1 ∷ given 2 ∷ given 1 ∷ given 3 ∷ []) ∷
    []) (ending.Returned returns.Explicit (given 4) [])
calls_runs = refl

calls_ported : ported_trace_of calls_unit (picked []) None [] (given 1 ∷ [])
    (full kinds.No value.Undefined [] [] ∷ yields 2 ∷ yields 3 ∷ yields 4 ∷ [])
    ≡ traced (
    event (codes "nullish") [] (given 1 ∷ []) ∷ event (codes "propertyload") [] (given 1 ∷ value.Text (codes "m") ∷ []) ∷
    event (codes "new") [] (given 1 ∷ []) ∷
    event (codes "call") (codes "spread" ∷ codes "place" ∷ []) (given 2 ∷ given 1 ∷ given 3 ∷ []) ∷
    []) (ending.Returned returns.Explicit (given 4) [])
calls_ported = refl

calls_orderly : is_orderly calls_unit None ≡ false
calls_orderly = refl

calls_supported : is_supported calls_unit ≡ true
calls_supported = refl

-- (unit [] (program [(expr (arrow y n (params [(param (bind "o" -) -)] -) (body [] [(return (call n (paren (chain (member y (id "o")
--   "m"))) [(str "1")]))])))]))
abbrev calls_that_end_unit : Syntax
calls_that_end_unit =
    unit (
    tree word.Expr (
    tree word.Arrow (
    yes ∷ no ∷
    tree word.Params (listed (tree word.Param (name (codes "o") ∷ Absent ∷ []) ∷ []) ∷ Absent ∷ []) ∷
    tree word.Body (
    listed [] ∷
    listed (
    tree word.Return (
    tree word.Call (
    no ∷
    tree word.Paren (tree word.Chain (tree word.Member (yes ∷ id (codes "o") ∷ text (codes "m") ∷ []) ∷ []) ∷ []) ∷
    listed (tree word.Str (text (codes "1") ∷ []) ∷ []) ∷
    []) ∷
    []) ∷
    []) ∷
    []) ∷
    []) ∷
    []) ∷
    [])

calls_that_end_runs : source_trace_of calls_that_end_unit None [] (given 1 ∷ []) (yields 1 ∷ yields 2 ∷ [])
    ≡ traced (
    event (codes "nullish") [] (given 1 ∷ []) ∷
    event (codes "methodcall") (codes "place" ∷ []) (value.Undefined ∷ value.Undefined ∷ value.Text (codes "1") ∷ []) ∷
    []) (ending.Returned returns.Explicit (given 2) [])
calls_that_end_runs = refl

calls_that_end_ported : ported_trace_of calls_that_end_unit (picked []) None [] (given 1 ∷ [])
    (yields 1 ∷ yields 2 ∷ [])
    ≡ traced (
    event (codes "nullish") [] (given 1 ∷ []) ∷
    event (codes "call") (codes "place" ∷ []) (value.Undefined ∷ value.Text (codes "1") ∷ []) ∷
    []) (ending.Returned returns.Explicit (given 2) [])
calls_that_end_ported = refl

calls_that_end_orderly : is_orderly calls_that_end_unit None ≡ false
calls_that_end_orderly = refl

calls_that_end_supported : is_supported calls_that_end_unit ≡ true
calls_that_end_supported = refl

-- (unit [] (program [(expr (arrow y n (params [(param (bind "o" -) -)] -) (body [] [(return (tagged (member n (id "o") "t") (template
--   [(quasi "a" "a") (quasi "b" "b")] [(str "4")])))])))]))
abbrev tagged_unit : Syntax
tagged_unit =
    unit (
    tree word.Expr (
    tree word.Arrow (
    yes ∷ no ∷
    tree word.Params (listed (tree word.Param (name (codes "o") ∷ Absent ∷ []) ∷ []) ∷ Absent ∷ []) ∷
    tree word.Body (
    listed [] ∷
    listed (
    tree word.Return (
    tree word.Tagged (
    tree word.Member (no ∷ id (codes "o") ∷ text (codes "t") ∷ []) ∷
    tree word.Template (
    listed (
    tree word.Quasi (text (codes "a") ∷ text (codes "a") ∷ []) ∷
    tree word.Quasi (text (codes "b") ∷ text (codes "b") ∷ []) ∷
    []) ∷
    listed (tree word.Str (text (codes "4") ∷ []) ∷ []) ∷
    []) ∷
    []) ∷
    []) ∷
    []) ∷
    []) ∷
    []) ∷
    []) ∷
    [])

tagged_runs : source_trace_of tagged_unit None [] (given 1 ∷ []) (yields 2 ∷ yields 3 ∷ [])
    ≡ traced (
    event (codes "propertyload") [] (given 1 ∷ value.Text (codes "t") ∷ []) ∷
    event (codes "tagged") (codes "place" ∷ codes "a" ∷ codes ".a" ∷ codes "b" ∷ codes ".b" ∷ codes "place" ∷ [])
    (given 1 ∷ given 2 ∷ value.Text (codes "4") ∷ []) ∷
    []) (ending.Returned returns.Explicit (given 3) [])
tagged_runs = refl

tagged_ported : ported_trace_of tagged_unit (picked []) None [] (given 1 ∷ [])
    (yields 2 ∷ yields 3 ∷ [])
    ≡ traced (
    event (codes "propertyload") [] (given 1 ∷ value.Text (codes "t") ∷ []) ∷
    event (codes "tagged") (codes "place" ∷ codes "a" ∷ codes ".a" ∷ codes "b" ∷ codes ".b" ∷ codes "place" ∷ [])
    (given 2 ∷ value.Text (codes "4") ∷ []) ∷
    []) (ending.Returned returns.Explicit (given 3) [])
tagged_ported = refl

tagged_orderly : is_orderly tagged_unit None ≡ false
tagged_orderly = refl

tagged_supported : is_supported tagged_unit ≡ true
tagged_supported = refl

-- (unit [] (program [(expr (arrow y n (params [(param (bind "o" -) -)] -) (body [] [(return (object [(prop n (name "a") (str "1"))
--   (spread (id "o")) (prop y (id "k") (array [(hole) (id "o")])) (method n (str "m") (funexpr n n n - (params [] -) (body []
--   [])))]))])))]))
abbrev object_unit : Syntax
object_unit =
    unit (
    tree word.Expr (
    tree word.Arrow (
    yes ∷ no ∷
    tree word.Params (listed (tree word.Param (name (codes "o") ∷ Absent ∷ []) ∷ []) ∷ Absent ∷ []) ∷
    tree word.Body (
    listed [] ∷
    listed (
    tree word.Return (
    tree word.Object (
    listed (
    tree word.Prop (no ∷ tree word.Name (text (codes "a") ∷ []) ∷ tree word.Str (text (codes "1") ∷ []) ∷ []) ∷
    tree word.Spread (id (codes "o") ∷ []) ∷
    tree word.Prop (
    yes ∷ id (codes "k") ∷
    tree word.Array (listed (tree word.Hole [] ∷ id (codes "o") ∷ []) ∷ []) ∷
    []) ∷
    tree word.Method (
    no ∷
    tree word.Str (text (codes "m") ∷ []) ∷
    tree word.Funexpr (
    no ∷ no ∷ no ∷ Absent ∷
    tree word.Params (listed [] ∷ Absent ∷ []) ∷
    tree word.Body (listed [] ∷ listed [] ∷ []) ∷
    []) ∷
    []) ∷
    []) ∷
    []) ∷
    []) ∷
    []) ∷
    []) ∷
    []) ∷
    []) ∷
    [])

object_runs : source_trace_of object_unit None [] (given 1 ∷ [])
    (yields 2 ∷ yields 3 ∷ yields 4 ∷ yields 5 ∷ yields 6 ∷ [])
    ≡ traced (
    event (codes "global") (codes "k" ∷ []) [] ∷ event (codes "array") (codes "hole" ∷ codes "place" ∷ []) (given 1 ∷ []) ∷
    event (codes "objectmethod") (decimal 22 ∷ []) [] ∷
    event (codes "object")
    (codes ".a" ∷ codes "place" ∷ codes "spread" ∷ codes "place" ∷ codes "place" ∷ codes ".m" ∷ codes "place" ∷ [])
    (value.Text (codes "1") ∷ given 1 ∷ given 2 ∷ given 3 ∷ given 4 ∷ []) ∷
    []) (ending.Returned returns.Explicit (given 5) [])
object_runs = refl

object_ported : ported_trace_of object_unit (picked []) None [] (given 1 ∷ [])
    (yields 2 ∷ yields 3 ∷ yields 4 ∷ yields 5 ∷ yields 6 ∷ [])
    ≡ source_trace_of object_unit None [] (given 1 ∷ [])
    (yields 2 ∷ yields 3 ∷ yields 4 ∷ yields 5 ∷ yields 6 ∷ [])
object_ported = refl

object_orderly : is_orderly object_unit None ≡ true
object_orderly = refl

object_supported : is_supported object_unit ≡ true
object_supported = refl

-- (unit [] (program [(expr (arrow y n (params [(param (bind "o" -) -)] -) (body [] [(expr (assign "=" (arraytarget [(id "o") (hole)
--   (default (member n (id "o") "p") (id "d"))] (rest (id "g"))) (id "o"))) (return (id "o"))])))]))
abbrev targets_unit : Syntax
targets_unit =
    unit (
    tree word.Expr (
    tree word.Arrow (
    yes ∷ no ∷
    tree word.Params (listed (tree word.Param (name (codes "o") ∷ Absent ∷ []) ∷ []) ∷ Absent ∷ []) ∷
    tree word.Body (
    listed [] ∷
    listed (
    tree word.Expr (
    tree word.Assign (
    text (codes "=") ∷
    tree word.Arraytarget (
    listed (
    id (codes "o") ∷
    tree word.Hole [] ∷
    tree word.Default (tree word.Member (no ∷ id (codes "o") ∷ text (codes "p") ∷ []) ∷ id (codes "d") ∷ []) ∷
    []) ∷
    tree word.Rest (id (codes "g") ∷ []) ∷
    []) ∷
    id (codes "o") ∷
    []) ∷
    []) ∷
    tree word.Return (id (codes "o") ∷ []) ∷
    []) ∷
    []) ∷
    []) ∷
    []) ∷
    [])

targets_runs : source_trace_of targets_unit None [] (given 1 ∷ [])
    (
    full kinds.Yes value.Undefined (given 2 ∷ value.Undefined ∷ []) [] ∷ yields 3 ∷ yields 4 ∷ yields 5 ∷ yields 6 ∷ yields 7 ∷
    yields 8 ∷
    [])
    ≡ traced (
    event (codes "destructure") (codes "array" ∷ codes "place" ∷ codes "hole" ∷ codes "place" ∷ codes "spread" ∷ []) (given 1 ∷ []) ∷
    event (codes "binary") (codes "===" ∷ []) (value.Undefined ∷ value.Undefined ∷ []) ∷ event (codes "truthy") [] (given 3 ∷ []) ∷
    event (codes "global") (codes "d" ∷ []) [] ∷ event (codes "propertystore") [] (given 2 ∷ value.Text (codes "p") ∷ given 5 ∷ []) ∷
    event (codes "storeglobal") (codes "g" ∷ []) (value.Undefined ∷ []) ∷
    []) (ending.Returned returns.Explicit (given 2) [])
targets_runs = refl

targets_ported : ported_trace_of targets_unit (picked []) None [] (given 1 ∷ [])
    (
    full kinds.Yes value.Undefined (given 2 ∷ value.Undefined ∷ []) [] ∷ yields 3 ∷ yields 4 ∷ yields 5 ∷ yields 6 ∷ yields 7 ∷
    yields 8 ∷
    [])
    ≡ source_trace_of targets_unit None [] (given 1 ∷ [])
    (
    full kinds.Yes value.Undefined (given 2 ∷ value.Undefined ∷ []) [] ∷ yields 3 ∷ yields 4 ∷ yields 5 ∷ yields 6 ∷ yields 7 ∷
    yields 8 ∷
    [])
targets_ported = refl

targets_orderly : is_orderly targets_unit None ≡ true
targets_orderly = refl

targets_supported : is_supported targets_unit ≡ true
targets_supported = refl

-- (unit [] (program [(expr (arrow y n (params [(param (arraypat [(bind "a" -) (defaultpat (bind "b" -) (id "c"))] -) -) (param (bind
--   "c" -) (str "5"))] (rest (bind "r" -))) (body [] [(return (array [(id "a") (id "b") (id "c") (id "r")]))])))]))
abbrev parameters_unit : Syntax
parameters_unit =
    unit (
    tree word.Expr (
    tree word.Arrow (
    yes ∷ no ∷
    tree word.Params (
    listed (
    tree word.Param (
    tree word.Arraypat (
    listed (name (codes "a") ∷ tree word.Defaultpat (name (codes "b") ∷ id (codes "c") ∷ []) ∷ []) ∷ Absent ∷
    []) ∷
    Absent ∷
    []) ∷
    tree word.Param (name (codes "c") ∷ tree word.Str (text (codes "5") ∷ []) ∷ []) ∷
    []) ∷
    tree word.Rest (name (codes "r") ∷ []) ∷
    []) ∷
    tree word.Body (
    listed [] ∷
    listed (
    tree word.Return (
    tree word.Array (listed (id (codes "a") ∷ id (codes "b") ∷ id (codes "c") ∷ id (codes "r") ∷ []) ∷ []) ∷
    []) ∷
    []) ∷
    []) ∷
    []) ∷
    []) ∷
    [])

parameters_runs : source_trace_of parameters_unit None [] (given 1 ∷ value.Undefined ∷ given 9 ∷ [])
    (
    full kinds.Yes value.Undefined (given 2 ∷ []) [] ∷ yields 3 ∷ yields 4 ∷ yields 5 ∷ full kinds.No value.Undefined [] [] ∷
    yields 6 ∷
    [])
    ≡ traced (
    event (codes "destructure") (codes "array" ∷ codes "place" ∷ codes "place" ∷ []) (given 1 ∷ []) ∷
    event (codes "binary") (codes "===" ∷ []) (value.Undefined ∷ value.Undefined ∷ []) ∷ event (codes "truthy") [] (given 3 ∷ []) ∷
    event (codes "binary") (codes "===" ∷ []) (value.Undefined ∷ value.Undefined ∷ []) ∷ event (codes "truthy") [] (given 5 ∷ []) ∷
    event (codes "array") (codes "place" ∷ codes "place" ∷ codes "place" ∷ codes "place" ∷ [])
    (given 2 ∷ value.Undefined ∷ value.Undefined ∷ given 9 ∷ []) ∷
    []) (ending.Returned returns.Explicit (given 6) [])
parameters_runs = refl

parameters_ported : ported_trace_of parameters_unit (picked []) None [] (given 1 ∷ value.Undefined ∷ given 9 ∷ [])
    (
    full kinds.Yes value.Undefined (given 2 ∷ []) [] ∷ yields 3 ∷ yields 4 ∷ yields 5 ∷ full kinds.No value.Undefined [] [] ∷
    yields 6 ∷
    [])
    ≡ source_trace_of parameters_unit None [] (given 1 ∷ value.Undefined ∷ given 9 ∷ [])
    (
    full kinds.Yes value.Undefined (given 2 ∷ []) [] ∷ yields 3 ∷ yields 4 ∷ yields 5 ∷ full kinds.No value.Undefined [] [] ∷
    yields 6 ∷
    [])
parameters_ported = refl

parameters_orderly : is_orderly parameters_unit None ≡ false
parameters_orderly = refl

parameters_supported : is_supported parameters_unit ≡ true
parameters_supported = refl

-- (unit [] (program [(expr (arrow y n (params [(param (bind "x" -) -)] -) (body [] [(labeled "a" (block [(labeled "b" (while (id "x")
--   (block [(if (id "x") (break "a") (continue "b"))]))) (expr (id "never"))])) (dowhile (block [(break -)]) (id "x")) (return
--   -)])))]))
abbrev labels_unit : Syntax
labels_unit =
    unit (
    tree word.Expr (
    tree word.Arrow (
    yes ∷ no ∷
    tree word.Params (listed (tree word.Param (name (codes "x") ∷ Absent ∷ []) ∷ []) ∷ Absent ∷ []) ∷
    tree word.Body (
    listed [] ∷
    listed (
    tree word.Labeled (
    text (codes "a") ∷
    tree word.Block (
    listed (
    tree word.Labeled (
    text (codes "b") ∷
    tree word.While (
    id (codes "x") ∷
    tree word.Block (
    listed (
    tree word.If (
    id (codes "x") ∷
    tree word.Break (text (codes "a") ∷ []) ∷
    tree word.Continue (text (codes "b") ∷ []) ∷
    []) ∷
    []) ∷
    []) ∷
    []) ∷
    []) ∷
    tree word.Expr (id (codes "never") ∷ []) ∷
    []) ∷
    []) ∷
    []) ∷
    tree word.Dowhile (tree word.Block (listed (tree word.Break (Absent ∷ []) ∷ []) ∷ []) ∷ id (codes "x") ∷ []) ∷
    tree word.Return (Absent ∷ []) ∷
    []) ∷
    []) ∷
    []) ∷
    []) ∷
    [])

labels_runs : source_trace_of labels_unit None [] (given 1 ∷ [])
    (yields 1 ∷ full kinds.No value.Undefined [] [] ∷ yields 2 ∷ yields 3 ∷ [])
    ≡ traced (
    event (codes "truthy") [] (given 1 ∷ []) ∷ event (codes "truthy") [] (given 1 ∷ []) ∷ event (codes "truthy") [] (given 1 ∷ []) ∷
    event (codes "truthy") [] (given 1 ∷ []) ∷
    []) (ending.Returned returns.Explicit value.Undefined [])
labels_runs = refl

labels_ported : ported_trace_of labels_unit (picked []) None [] (given 1 ∷ [])
    (yields 1 ∷ full kinds.No value.Undefined [] [] ∷ yields 2 ∷ yields 3 ∷ [])
    ≡ source_trace_of labels_unit None [] (given 1 ∷ [])
    (yields 1 ∷ full kinds.No value.Undefined [] [] ∷ yields 2 ∷ yields 3 ∷ [])
labels_ported = refl

labels_orderly : is_orderly labels_unit None ≡ true
labels_orderly = refl

labels_supported : is_supported labels_unit ≡ true
labels_supported = refl

-- (unit [] (program [(expr (arrow y n (params [(param (bind "x" -) -)] -) (body [] [(return (cond (logical "??" (id "x") (unary "!" (id
--   "x"))) (seq [(id "x") (str "1")]) (unary "delete" (paren (member n (id "x") "k")))))])))]))
abbrev logicals_unit : Syntax
logicals_unit =
    unit (
    tree word.Expr (
    tree word.Arrow (
    yes ∷ no ∷
    tree word.Params (listed (tree word.Param (name (codes "x") ∷ Absent ∷ []) ∷ []) ∷ Absent ∷ []) ∷
    tree word.Body (
    listed [] ∷
    listed (
    tree word.Return (
    tree word.Cond (
    tree word.Logical (
    text (codes "??") ∷ id (codes "x") ∷
    tree word.Unary (text (codes "!") ∷ id (codes "x") ∷ []) ∷
    []) ∷
    tree word.Seq (listed (id (codes "x") ∷ tree word.Str (text (codes "1") ∷ []) ∷ []) ∷ []) ∷
    tree word.Unary (
    text (codes "delete") ∷
    tree word.Paren (tree word.Member (no ∷ id (codes "x") ∷ text (codes "k") ∷ []) ∷ []) ∷
    []) ∷
    []) ∷
    []) ∷
    []) ∷
    []) ∷
    []) ∷
    []) ∷
    [])

logicals_runs : source_trace_of logicals_unit None [] (given 1 ∷ [])
    (full kinds.No value.Undefined [] [] ∷ full kinds.No value.Undefined [] [] ∷ yields 2 ∷ [])
    ≡ traced (
    event (codes "nullish") [] (given 1 ∷ []) ∷ event (codes "truthy") [] (given 1 ∷ []) ∷
    event (codes "propertydelete") [] (given 1 ∷ value.Text (codes "k") ∷ []) ∷
    []) (ending.Returned returns.Explicit (given 2) [])
logicals_runs = refl

logicals_ported : ported_trace_of logicals_unit (picked []) None [] (given 1 ∷ [])
    (full kinds.No value.Undefined [] [] ∷ full kinds.No value.Undefined [] [] ∷ yields 2 ∷ [])
    ≡ source_trace_of logicals_unit None [] (given 1 ∷ [])
    (full kinds.No value.Undefined [] [] ∷ full kinds.No value.Undefined [] [] ∷ yields 2 ∷ [])
logicals_ported = refl

logicals_orderly : is_orderly logicals_unit None ≡ true
logicals_orderly = refl

logicals_supported : is_supported logicals_unit ≡ true
logicals_supported = refl

-- (unit [] (program [(expr (arrow y n (params [(param (bind "x" -) -)] -) (body [] [(return (element (opening (id "Foo") [(attr
--   (attrname "a") -) (attr (attrname "b") (container (id "x"))) (attrspread (id "x"))]) [(text " t ") (container (id "x")) (container
--   -) (fragment [])] (closing)))])))]))
abbrev jsx_unit : Syntax
jsx_unit =
    unit (
    tree word.Expr (
    tree word.Arrow (
    yes ∷ no ∷
    tree word.Params (listed (tree word.Param (name (codes "x") ∷ Absent ∷ []) ∷ []) ∷ Absent ∷ []) ∷
    tree word.Body (
    listed [] ∷
    listed (
    tree word.Return (
    tree word.Element (
    tree word.Opening (
    id (codes "Foo") ∷
    listed (
    tree word.Attr (tree word.Attrname (text (codes "a") ∷ []) ∷ Absent ∷ []) ∷
    tree word.Attr (tree word.Attrname (text (codes "b") ∷ []) ∷ tree word.Container (id (codes "x") ∷ []) ∷ []) ∷
    tree word.Attrspread (id (codes "x") ∷ []) ∷
    []) ∷
    []) ∷
    listed (
    tree word.Text (text (codes " t ") ∷ []) ∷
    tree word.Container (id (codes "x") ∷ []) ∷
    tree word.Container (Absent ∷ []) ∷
    tree word.Fragment (listed [] ∷ []) ∷
    []) ∷
    tree word.Closing [] ∷
    []) ∷
    []) ∷
    []) ∷
    []) ∷
    []) ∷
    []) ∷
    [])

jsx_runs : source_trace_of jsx_unit None [] (given 1 ∷ []) (yields 2 ∷ yields 3 ∷ yields 4 ∷ [])
    ≡ traced (
    event (codes "global") (codes "Foo" ∷ []) [] ∷ event (codes "jsxfragment") [] [] ∷
    event (codes "jsx") (codes "place" ∷ codes ".a" ∷ codes "place" ∷ codes ".b" ∷ codes "place" ∷ codes "spread" ∷ codes "place" ∷
    codes "place" ∷ codes "place" ∷ [])
    (given 2 ∷ value.Bool true ∷ given 1 ∷ given 1 ∷ value.Text (codes " t ") ∷ given 1 ∷ given 3 ∷ []) ∷
    []) (ending.Returned returns.Explicit (given 4) [])
unfolding jsx.trim_jsx_text jsx.split_line_endings jsx.decode_jsx_entities
jsx_runs = refl

jsx_ported : ported_trace_of jsx_unit (picked []) None [] (given 1 ∷ [])
    (yields 2 ∷ yields 3 ∷ yields 4 ∷ [])
    ≡ source_trace_of jsx_unit None [] (given 1 ∷ [])
    (yields 2 ∷ yields 3 ∷ yields 4 ∷ [])
unfolding jsx.trim_jsx_text jsx.split_line_endings jsx.decode_jsx_entities
jsx_ported = refl

jsx_orderly : is_orderly jsx_unit None ≡ true
jsx_orderly = refl

jsx_supported : is_supported jsx_unit ≡ true
jsx_supported = refl

-- (unit [] (program [(expr (arrow y n (params [(param (bind "x" -) -)] -) (body [] [(try (block [(throw (id "x"))]) (catch (objectpat
--   [(keyedpat n (name "m") (bind "m" -))] -) (block [(expr (id "m"))])) -) (throw (id "x"))])))]))
abbrev throw_into_pattern_unit : Syntax
throw_into_pattern_unit =
    unit (
    tree word.Expr (
    tree word.Arrow (
    yes ∷ no ∷
    tree word.Params (listed (tree word.Param (name (codes "x") ∷ Absent ∷ []) ∷ []) ∷ Absent ∷ []) ∷
    tree word.Body (
    listed [] ∷
    listed (
    tree word.Try (
    tree word.Block (listed (tree word.Throw (id (codes "x") ∷ []) ∷ []) ∷ []) ∷
    tree word.Catch (
    tree word.Objectpat (
    listed (tree word.Keyedpat (no ∷ tree word.Name (text (codes "m") ∷ []) ∷ name (codes "m") ∷ []) ∷ []) ∷ Absent ∷
    []) ∷
    tree word.Block (listed (tree word.Expr (id (codes "m") ∷ []) ∷ []) ∷ []) ∷
    []) ∷
    Absent ∷
    []) ∷
    tree word.Throw (id (codes "x") ∷ []) ∷
    []) ∷
    []) ∷
    []) ∷
    []) ∷
    [])

throw_into_pattern_runs : source_trace_of throw_into_pattern_unit None [] (given 1 ∷ [])
    (full kinds.Yes value.Undefined (given 2 ∷ []) [] ∷ [])
    ≡ traced (
    event (codes "destructure") (codes "object" ∷ codes ".m" ∷ codes "place" ∷ []) (given 1 ∷ []) ∷
    []) (ending.Threw (given 1))
throw_into_pattern_runs = refl

throw_into_pattern_ported : ported_trace_of throw_into_pattern_unit (picked []) None [] (given 1 ∷ [])
    (full kinds.Yes value.Undefined (given 2 ∷ []) [] ∷ [])
    ≡ source_trace_of throw_into_pattern_unit None [] (given 1 ∷ [])
    (full kinds.Yes value.Undefined (given 2 ∷ []) [] ∷ [])
throw_into_pattern_ported = refl

throw_into_pattern_orderly : is_orderly throw_into_pattern_unit None ≡ true
throw_into_pattern_orderly = refl

throw_into_pattern_supported : is_supported throw_into_pattern_unit ≡ false
throw_into_pattern_supported = refl
