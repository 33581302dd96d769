-- The definitions, tried on units with kinds of nodes that the examples beside this file have not: random ones, whose traces come from a
-- second implementation.
use Rattle.std.proofs.Common.{◌≡◌, true, false, Some, None, [], ◌∷◌, codes, refl}
use Rattle.rl_hir.specs.declared.terminal.ReturnVariant.TheVariants as returns
use Rattle.rl_machine.specs.declared.trace.AnswerKind.TheVariants as kinds
use Rattle.rl_machine.specs.declared.trace.Ending.TheVariants as ending
use Rattle.rl_machine.specs.declared.trace.Value.TheVariants as value
use Rattle.rl_jsx.specs.JsxTexts as jsx
use Rattle.rl_model.proofs.ExampleTrees.{full, given, id, listed, name, no, sets, text, traced, tree, unit, yes, yields}
use Rattle.rl_model.proofs.ExampleUnits.{numbered}
use Rattle.rl_model.specs.Events.{event}
use Rattle.rl_model.specs.Source.{is_orderly, is_supported, source_trace_of}
use Rattle.rl_syntax.specs.Syntax.{Syntax, Count, Absent}
use Rattle.rl_syntax.specs.declared.word.Word.TheVariants as word

-- (unit [] (program [(expr (call n (id "f") [(arrow y n (params [(param (bind "y" -) -) (param (bind "x" -) (regexp "r" "g"))] -)
--   (await (id "b")))]))]))
abbrev unit_0 : Syntax
unit_0 =
    unit (
    tree word.Expr (
    tree word.Call (
    no ∷ id (codes "f") ∷
    listed (
    tree word.Arrow (
    yes ∷ no ∷
    tree word.Params (
    listed (
    tree word.Param (name (codes "y") ∷ Absent ∷ []) ∷
    tree word.Param (name (codes "x") ∷ tree word.Regexp (text (codes "r") ∷ text (codes "g") ∷ []) ∷ []) ∷
    []) ∷
    Absent ∷
    []) ∷
    tree word.Await (id (codes "b") ∷ []) ∷
    []) ∷
    []) ∷
    []) ∷
    [])
    ∷ [])

unit_0_runs : source_trace_of unit_0 None (sets 5 (given 24) ∷ sets 5 (given 22) ∷ sets 0 (given 17) ∷ []) []
    (
    full kinds.Yes (value.Number 1) [] [] ∷
    full kinds.No (value.Undefined) (given 10 ∷ given 13 ∷ (value.Text (codes "k")) ∷ [])
    (sets 2 (given 3) ∷ sets 4 ((value.Number 0)) ∷ []) ∷
    full kinds.Yes (given 1002) (given 39 ∷ given 8 ∷ given 21 ∷ []) [] ∷ yields 1003 ∷
    [])
    ≡ traced (
    event (codes "binary") (codes "===" ∷ []) (value.Undefined ∷ value.Undefined ∷ []) ∷
    event (codes "truthy") [] ((value.Number 1) ∷ []) ∷ event (codes "global") (codes "b" ∷ []) [] ∷
    event (codes "await") [] (given 1002 ∷ []) ∷
    []) (ending.Returned returns.Implicit (given 1003) [])
unit_0_runs = refl

unit_0_orderly : is_orderly unit_0 None ≡ true
unit_0_orderly = refl

unit_0_supported : is_supported unit_0 ≡ true
unit_0_supported = refl

-- (unit [] (program [(expr (funexpr y n n (bind "b" (type "array" [(id "a")])) (params [(param (bind "b" -) -)] -) (body [] [(switch
--   (id "y") [(case - [(for (var "let" [(declarator (bind "x" -) -)]) (id "f") - (block [])) (expr (null))])]) (empty) (expr (id "a"))
--   (expr (id "a")) (return -)]))) (expr (id "x"))]))
abbrev unit_1 : Syntax
unit_1 =
    unit (
    tree word.Expr (
    tree word.Funexpr (
    yes ∷ no ∷ no ∷
    tree word.Bind (text (codes "b") ∷ tree word.Type (text (codes "array") ∷ listed (id (codes "a") ∷ []) ∷ []) ∷ []) ∷
    tree word.Params (listed (tree word.Param (name (codes "b") ∷ Absent ∷ []) ∷ []) ∷ Absent ∷ []) ∷
    tree word.Body (
    listed [] ∷
    listed (
    tree word.Switch (
    id (codes "y") ∷
    listed (
    tree word.Case (
    Absent ∷
    listed (
    tree word.For (
    tree word.Var (text (codes "let") ∷ listed (tree word.Declarator (name (codes "x") ∷ Absent ∷ []) ∷ []) ∷ []) ∷
    id (codes "f") ∷ Absent ∷
    tree word.Block (listed [] ∷ []) ∷
    []) ∷
    tree word.Expr (tree word.Null [] ∷ []) ∷
    []) ∷
    []) ∷
    []) ∷
    []) ∷
    tree word.Empty [] ∷
    tree word.Expr (id (codes "a") ∷ []) ∷
    tree word.Expr (id (codes "a") ∷ []) ∷
    tree word.Return (Absent ∷ []) ∷
    []) ∷
    []) ∷
    []) ∷
    []) ∷
    tree word.Expr (id (codes "x") ∷ []) ∷
    [])

unit_1_runs : source_trace_of unit_1 None [] ((value.Text (codes "k")) ∷ given 101 ∷ given 102 ∷ [])
    (
    full kinds.Yes (given 1000) [] (sets 3 (given 16) ∷ []) ∷ full kinds.No (value.Undefined) (given 1 ∷ given 5 ∷ given 33 ∷ []) [] ∷
    full kinds.Yes ((value.Bool true)) (given 12 ∷ []) [] ∷
    full kinds.Yes (value.Null) (value.Undefined ∷ given 20 ∷ value.Undefined ∷ []) [] ∷ yields 1004 ∷
    full kinds.Yes (given 1005) (given 31 ∷ []) [] ∷ full kinds.Yes (given 1006) (given 24 ∷ []) [] ∷
    full kinds.Yes (given 1007) (given 34 ∷ []) [] ∷
    [])
    ≡ traced (
    event (codes "global") (codes "y" ∷ []) [] ∷ event (codes "global") (codes "f" ∷ []) [] ∷
    event (codes "truthy") [] (value.Undefined ∷ []) ∷ event (codes "global") (codes "f" ∷ []) [] ∷
    event (codes "truthy") [] (value.Null ∷ []) ∷ event (codes "global") (codes "f" ∷ []) [] ∷
    event (codes "truthy") [] (given 1005 ∷ []) ∷ event (codes "global") (codes "f" ∷ []) [] ∷
    []) ending.Waiting
unit_1_runs = refl

unit_1_orderly : is_orderly unit_1 None ≡ true
unit_1_orderly = refl

unit_1_supported : is_supported unit_1 ≡ true
unit_1_supported = refl

-- (unit [(entity "amp" 38) (entity "lt" 60)] (program [(namespace (bind "x_0" -)) (expr (arrow y n (params [(param (bind "x" -) -)
--   (param (bind "c" -) (cond (as (id "b") (type "array" [])) (id "a") (str "")))] -) (id "G")))]))
abbrev unit_2 : Syntax
unit_2 =
    numbered 0 0 0 (
    tree word.Unit (
    listed (tree word.Entity (text (codes "amp") ∷ Count 38 ∷ []) ∷ tree word.Entity (text (codes "lt") ∷ Count 60 ∷ []) ∷ []) ∷
    tree word.Program (
    listed (
    tree word.Namespace (name (codes "x_0") ∷ []) ∷
    tree word.Expr (
    tree word.Arrow (
    yes ∷ no ∷
    tree word.Params (
    listed (
    tree word.Param (name (codes "x") ∷ Absent ∷ []) ∷
    tree word.Param (
    name (codes "c") ∷
    tree word.Cond (
    tree word.As (id (codes "b") ∷ tree word.Type (text (codes "array") ∷ listed [] ∷ []) ∷ []) ∷ id (codes "a") ∷
    tree word.Str (text (codes "") ∷ []) ∷
    []) ∷
    []) ∷
    []) ∷
    Absent ∷
    []) ∷
    id (codes "G") ∷
    []) ∷
    []) ∷
    []) ∷
    []) ∷
    []))

unit_2_runs : source_trace_of unit_2 None [] []
    (
    full kinds.Yes ((value.Number 0)) [] (sets 1 (given 39) ∷ sets 5 (given 18) ∷ []) ∷ yields 1001 ∷
    full kinds.Yes (given 1002) (given 35 ∷ []) [] ∷
    full kinds.Yes (given 1003) (given 35 ∷ (value.Number 9007199254740992) ∷ []) [] ∷ full kinds.No value.Undefined [] [] ∷
    full kinds.No (value.Undefined) ((value.Text (codes "k")) ∷ []) [] ∷
    [])
    ≡ traced (
    event (codes "binary") (codes "===" ∷ []) (value.Undefined ∷ value.Undefined ∷ []) ∷
    event (codes "truthy") [] ((value.Number 0) ∷ []) ∷ event (codes "global") (codes "b" ∷ []) [] ∷
    event (codes "truthy") [] (given 1002 ∷ []) ∷ event (codes "global") (codes "a" ∷ []) [] ∷
    event (codes "global") (codes "G" ∷ []) [] ∷
    []) (ending.Returned returns.Implicit (value.Undefined) [])
unit_2_runs = refl

unit_2_orderly : is_orderly unit_2 None ≡ true
unit_2_orderly = refl

unit_2_supported : is_supported unit_2 ≡ true
unit_2_supported = refl

-- (unit [] (program [(return -) (expr (arrow y n (params [(param (bind "b" -) -)] -) (body [] [(empty) (while (id "f") (exportlist []))
--   (empty)])))]))
abbrev unit_3 : Syntax
unit_3 =
    unit (
    tree word.Return (Absent ∷ []) ∷
    tree word.Expr (
    tree word.Arrow (
    yes ∷ no ∷
    tree word.Params (listed (tree word.Param (name (codes "b") ∷ Absent ∷ []) ∷ []) ∷ Absent ∷ []) ∷
    tree word.Body (
    listed [] ∷
    listed (
    tree word.Empty [] ∷
    tree word.While (id (codes "f") ∷ tree word.Exportlist (listed [] ∷ []) ∷ []) ∷
    tree word.Empty [] ∷
    []) ∷
    []) ∷
    []) ∷
    []) ∷
    [])

unit_3_runs : source_trace_of unit_3 None (sets 3 (given 26) ∷ []) (given 100 ∷ given 101 ∷ value.Undefined ∷ [])
    (
    full kinds.Yes (value.Bool false) [] [] ∷
    full kinds.No (value.Undefined) ((value.Number 9007199254740992) ∷ given 22 ∷ given 7 ∷ []) [] ∷
    [])
    ≡ traced (
    event (codes "global") (codes "f" ∷ []) [] ∷ event (codes "truthy") [] ((value.Bool false) ∷ []) ∷
    []) (ending.Returned returns.Void (value.Undefined) [])
unit_3_runs = refl

unit_3_orderly : is_orderly unit_3 None ≡ true
unit_3_orderly = refl

unit_3_supported : is_supported unit_3 ≡ false
unit_3_supported = refl

-- (unit [(entity "amp" 60) (entity "lt" 38)] (program [(expr (arrow y n (params [] (rest (bind "x" -))) (body [] [(var "let"
--   [(declarator (bind "y" (type "array" [(id "G") (id "a_0")])) (element (opening (id "f") [(attr (attrns "m" "v") (element (opening
--   (tagns "b" "k") []) [(element (opening (id "x") [(attr (attrname "k") -)]) [] -)] (closing)))]) [(element (opening (id "f") []) []
--   -) (text "a")] -))]) (expr (null)) (expr (null)) (return -) (expr (id "x")) (expr (id "b")) (expr (id "y"))])))]))
abbrev unit_4 : Syntax
unit_4 =
    numbered 0 0 0 (
    tree word.Unit (
    listed (tree word.Entity (text (codes "amp") ∷ Count 60 ∷ []) ∷ tree word.Entity (text (codes "lt") ∷ Count 38 ∷ []) ∷ []) ∷
    tree word.Program (
    listed (
    tree word.Expr (
    tree word.Arrow (
    yes ∷ no ∷
    tree word.Params (listed [] ∷ tree word.Rest (name (codes "x") ∷ []) ∷ []) ∷
    tree word.Body (
    listed [] ∷
    listed (
    tree word.Var (
    text (codes "let") ∷
    listed (
    tree word.Declarator (
    tree word.Bind (
    text (codes "y") ∷
    tree word.Type (text (codes "array") ∷ listed (id (codes "G") ∷ id (codes "a_0") ∷ []) ∷ []) ∷
    []) ∷
    tree word.Element (
    tree word.Opening (
    id (codes "f") ∷
    listed (
    tree word.Attr (
    tree word.Attrns (text (codes "m") ∷ text (codes "v") ∷ []) ∷
    tree word.Element (
    tree word.Opening (tree word.Tagns (text (codes "b") ∷ text (codes "k") ∷ []) ∷ listed [] ∷ []) ∷
    listed (
    tree word.Element (
    tree word.Opening (
    id (codes "x") ∷
    listed (tree word.Attr (tree word.Attrname (text (codes "k") ∷ []) ∷ Absent ∷ []) ∷ []) ∷
    []) ∷
    listed [] ∷ Absent ∷
    []) ∷
    []) ∷
    tree word.Closing [] ∷
    []) ∷
    []) ∷
    []) ∷
    []) ∷
    listed (
    tree word.Element (tree word.Opening (id (codes "f") ∷ listed [] ∷ []) ∷ listed [] ∷ Absent ∷ []) ∷
    tree word.Text (text (codes "a") ∷ []) ∷
    []) ∷
    Absent ∷
    []) ∷
    []) ∷
    []) ∷
    []) ∷
    tree word.Expr (tree word.Null [] ∷ []) ∷
    tree word.Expr (tree word.Null [] ∷ []) ∷
    tree word.Return (Absent ∷ []) ∷
    tree word.Expr (id (codes "x") ∷ []) ∷
    tree word.Expr (id (codes "b") ∷ []) ∷
    tree word.Expr (id (codes "y") ∷ []) ∷
    []) ∷
    []) ∷
    []) ∷
    []) ∷
    []) ∷
    []) ∷
    []))

unit_4_runs : source_trace_of unit_4 None (sets 3 (given 20) ∷ []) ((value.Number 1) ∷ given 101 ∷ [])
    (
    full kinds.No (value.Undefined) (given 18 ∷ given 23 ∷ (value.Number 0) ∷ []) [] ∷ full kinds.No value.Undefined [] [] ∷
    full kinds.No value.Undefined [] [] ∷ full kinds.Yes (value.Number 0) [] [] ∷
    [])
    ≡ traced (
    event (codes "jsx") (codes ".x" ∷ codes ".k" ∷ codes "place" ∷ []) ((value.Bool true) ∷ []) ∷
    event (codes "jsx") (codes "place" ∷ codes "place" ∷ []) ((value.Text (codes "b:k")) ∷ value.Undefined ∷ []) ∷
    event (codes "jsx") (codes ".f" ∷ []) [] ∷
    event (codes "jsx") (codes ".f" ∷ codes ".m:v" ∷ codes "place" ∷ codes "place" ∷ codes "place" ∷ [])
    (value.Undefined ∷ value.Undefined ∷ (value.Text (codes "a")) ∷ []) ∷
    []) (ending.Returned returns.Explicit (value.Undefined) [])
unfolding jsx.trim_jsx_text jsx.split_line_endings jsx.decode_jsx_entities
unit_4_runs = refl

unit_4_orderly : is_orderly unit_4 None ≡ true
unit_4_orderly = refl

unit_4_supported : is_supported unit_4 ≡ true
unit_4_supported = refl

-- (unit [] (program [(expr (arrow y n (params [(param (objectpat [] -) -)] -) (element (opening (tag "fbt") []) [] (closing))))]))
abbrev unit_5 : Syntax
unit_5 =
    unit (
    tree word.Expr (
    tree word.Arrow (
    yes ∷ no ∷
    tree word.Params (listed (tree word.Param (tree word.Objectpat (listed [] ∷ Absent ∷ []) ∷ Absent ∷ []) ∷ []) ∷ Absent ∷ []) ∷
    tree word.Element (
    tree word.Opening (tree word.Tag (text (codes "fbt") ∷ []) ∷ listed [] ∷ []) ∷
    listed [] ∷
    tree word.Closing [] ∷
    []) ∷
    []) ∷
    [])
    ∷ [])

unit_5_runs : source_trace_of unit_5 None [] ((value.Bool true) ∷ given 101 ∷ given 102 ∷ (value.Number 1) ∷ [])
    (yields 1000 ∷ [])
    ≡ traced (event (codes "destructure") (codes "object" ∷ []) ((value.Bool true) ∷ []) ∷ []) ending.Waiting
unit_5_runs = refl

unit_5_orderly : is_orderly unit_5 None ≡ true
unit_5_orderly = refl

unit_5_supported : is_supported unit_5 ≡ true
unit_5_supported = refl

-- (unit [(entity "amp" 38)] (program [(expr (funexpr y n n - (params [] -) (body [] [(try (block [(debugger) (try (block [(expr (chain
--   (member n (call y (paren (member n (id "y") "x")) [(await (id "x")) (id "x")]) "x")))]) (catch (bind "a" -) (block [])) -) (expr
--   (id "a_0"))]) (catch (bind "c" -) (block [])) -)])))]))
abbrev unit_6 : Syntax
unit_6 =
    numbered 0 0 0 (
    tree word.Unit (
    listed (tree word.Entity (text (codes "amp") ∷ Count 38 ∷ []) ∷ []) ∷
    tree word.Program (
    listed (
    tree word.Expr (
    tree word.Funexpr (
    yes ∷ no ∷ no ∷ Absent ∷
    tree word.Params (listed [] ∷ Absent ∷ []) ∷
    tree word.Body (
    listed [] ∷
    listed (
    tree word.Try (
    tree word.Block (
    listed (
    tree word.Debugger [] ∷
    tree word.Try (
    tree word.Block (
    listed (
    tree word.Expr (
    tree word.Chain (
    tree word.Member (
    no ∷
    tree word.Call (
    yes ∷
    tree word.Paren (tree word.Member (no ∷ id (codes "y") ∷ text (codes "x") ∷ []) ∷ []) ∷
    listed (tree word.Await (id (codes "x") ∷ []) ∷ id (codes "x") ∷ []) ∷
    []) ∷
    text (codes "x") ∷
    []) ∷
    []) ∷
    []) ∷
    []) ∷
    []) ∷
    tree word.Catch (name (codes "a") ∷ tree word.Block (listed [] ∷ []) ∷ []) ∷ Absent ∷
    []) ∷
    tree word.Expr (id (codes "a_0") ∷ []) ∷
    []) ∷
    []) ∷
    tree word.Catch (name (codes "c") ∷ tree word.Block (listed [] ∷ []) ∷ []) ∷ Absent ∷
    []) ∷
    []) ∷
    []) ∷
    []) ∷
    []) ∷
    []) ∷
    []) ∷
    []))

unit_6_runs : source_trace_of unit_6 None [] (given 100 ∷ given 101 ∷ [])
    (
    full kinds.Yes (value.Undefined) (value.Null ∷ given 26 ∷ given 23 ∷ []) [] ∷ full kinds.Yes (given 1001) (given 19 ∷ []) [] ∷
    full kinds.Yes (value.Text (codes "k")) [] [] ∷ full kinds.No value.Undefined [] [] ∷
    full kinds.Yes (given 1004) (given 11 ∷ (value.Number 1) ∷ []) [] ∷
    full kinds.Yes (given 1005) (given 35 ∷ given 38 ∷ (value.Text (codes "k")) ∷ []) [] ∷
    full kinds.Yes ((value.Number 1)) (given 18 ∷ given 8 ∷ []) (sets 4 (value.Null) ∷ sets 3 (given 14) ∷ []) ∷
    full kinds.No (value.Bool false) [] [] ∷ full kinds.No value.Undefined [] [] ∷
    full kinds.No (value.Undefined) (given 22 ∷ []) [] ∷
    [])
    ≡ traced (
    event (codes "debugger") [] [] ∷ event (codes "global") (codes "y" ∷ []) [] ∷
    event (codes "propertyload") [] (given 1001 ∷ (value.Text (codes "x")) ∷ []) ∷
    event (codes "nullish") [] ((value.Text (codes "k")) ∷ []) ∷ event (codes "global") (codes "x" ∷ []) [] ∷
    event (codes "await") [] (given 1004 ∷ []) ∷ event (codes "global") (codes "x" ∷ []) [] ∷
    event (codes "methodcall") (codes "place" ∷ codes "place" ∷ [])
    (given 1001 ∷ (value.Text (codes "k")) ∷ given 1005 ∷ (value.Number 1) ∷ []) ∷
    event (codes "propertyload") [] ((value.Bool false) ∷ (value.Text (codes "x")) ∷ []) ∷
    event (codes "global") (codes "a_0" ∷ []) [] ∷
    []) (ending.Returned returns.Void (value.Undefined) [])
unit_6_runs = refl

unit_6_orderly : is_orderly unit_6 None ≡ false
unit_6_orderly = refl

unit_6_supported : is_supported unit_6 ≡ true
unit_6_supported = refl

-- (unit [] (program [(var "const" [(declarator (bind "x" -) (arrow y y (params [(param (arraypat [(bind "b" -) (bind "y" -)] (rest
--   (bind "a" -))) -)] -) (satisfies (id "y") (type "primitive" [(id "G")]))))])]))
abbrev unit_7 : Syntax
unit_7 =
    unit (
    tree word.Var (
    text (codes "const") ∷
    listed (
    tree word.Declarator (
    name (codes "x") ∷
    tree word.Arrow (
    yes ∷ yes ∷
    tree word.Params (
    listed (
    tree word.Param (
    tree word.Arraypat (
    listed (name (codes "b") ∷ name (codes "y") ∷ []) ∷
    tree word.Rest (name (codes "a") ∷ []) ∷
    []) ∷
    Absent ∷
    []) ∷
    []) ∷
    Absent ∷
    []) ∷
    tree word.Satisfies (
    id (codes "y") ∷
    tree word.Type (text (codes "primitive") ∷ listed (id (codes "G") ∷ []) ∷ []) ∷
    []) ∷
    []) ∷
    []) ∷
    []) ∷
    [])
    ∷ [])

unit_7_runs : source_trace_of unit_7 None [] ((value.Number 0) ∷ given 101 ∷ given 102 ∷ given 103 ∷ [])
    (yields 1000 ∷ [])
    ≡ traced (
    event (codes "destructure") (codes "array" ∷ codes "place" ∷ codes "place" ∷ codes "spread" ∷ []) ((value.Number 0) ∷ []) ∷
    []) (ending.Returned returns.Implicit (value.Undefined) [])
unit_7_runs = refl

unit_7_orderly : is_orderly unit_7 None ≡ true
unit_7_orderly = refl

unit_7_supported : is_supported unit_7 ≡ true
unit_7_supported = refl

-- (unit [(entity "lt" 38)] (program [(expr (arrow y n (params [(param (bind "a" -) -) (param (bind "w" -) -)] -) (body [] [(labeled "Q"
--   (block [(return (instantiate (null) [(id "a") (id "y") (id "b")]))])) (var "const" [(declarator (bind "y" -) (assert (type "array"
--   [(id "H")]) (array [(id "x")]))) (declarator (bind "b" -) (id "f"))]) (labeled "Q" (for (var "let" [(declarator (bind "x" -) -)])
--   (chain (call y (index y (id "c") (assign ">>=" (id "f") (null))) [(null)])) (id "b") (block []))) (labeled "Q" (forin (var "let"
--   [(declarator (bind "b" -) -)]) (logical "||" (null) (id "a")) (block []))) (expr (id "H"))])))]))
abbrev unit_8 : Syntax
unit_8 =
    numbered 0 0 0 (
    tree word.Unit (
    listed (tree word.Entity (text (codes "lt") ∷ Count 38 ∷ []) ∷ []) ∷
    tree word.Program (
    listed (
    tree word.Expr (
    tree word.Arrow (
    yes ∷ no ∷
    tree word.Params (
    listed (tree word.Param (name (codes "a") ∷ Absent ∷ []) ∷ tree word.Param (name (codes "w") ∷ Absent ∷ []) ∷ []) ∷
    Absent ∷
    []) ∷
    tree word.Body (
    listed [] ∷
    listed (
    tree word.Labeled (
    text (codes "Q") ∷
    tree word.Block (
    listed (
    tree word.Return (
    tree word.Instantiate (
    tree word.Null [] ∷
    listed (id (codes "a") ∷ id (codes "y") ∷ id (codes "b") ∷ []) ∷
    []) ∷
    []) ∷
    []) ∷
    []) ∷
    []) ∷
    tree word.Var (
    text (codes "const") ∷
    listed (
    tree word.Declarator (
    name (codes "y") ∷
    tree word.Assert (
    tree word.Type (text (codes "array") ∷ listed (id (codes "H") ∷ []) ∷ []) ∷
    tree word.Array (listed (id (codes "x") ∷ []) ∷ []) ∷
    []) ∷
    []) ∷
    tree word.Declarator (name (codes "b") ∷ id (codes "f") ∷ []) ∷
    []) ∷
    []) ∷
    tree word.Labeled (
    text (codes "Q") ∷
    tree word.For (
    tree word.Var (text (codes "let") ∷ listed (tree word.Declarator (name (codes "x") ∷ Absent ∷ []) ∷ []) ∷ []) ∷
    tree word.Chain (
    tree word.Call (
    yes ∷
    tree word.Index (
    yes ∷ id (codes "c") ∷
    tree word.Assign (text (codes ">>=") ∷ id (codes "f") ∷ tree word.Null [] ∷ []) ∷
    []) ∷
    listed (tree word.Null [] ∷ []) ∷
    []) ∷
    []) ∷
    id (codes "b") ∷
    tree word.Block (listed [] ∷ []) ∷
    []) ∷
    []) ∷
    tree word.Labeled (
    text (codes "Q") ∷
    tree word.Forin (
    tree word.Var (text (codes "let") ∷ listed (tree word.Declarator (name (codes "b") ∷ Absent ∷ []) ∷ []) ∷ []) ∷
    tree word.Logical (text (codes "||") ∷ tree word.Null [] ∷ id (codes "a") ∷ []) ∷
    tree word.Block (listed [] ∷ []) ∷
    []) ∷
    []) ∷
    tree word.Expr (id (codes "H") ∷ []) ∷
    []) ∷
    []) ∷
    []) ∷
    []) ∷
    []) ∷
    []) ∷
    []))

unit_8_runs : source_trace_of unit_8 None [] (given 100 ∷ given 101 ∷ (value.Text (codes "k")) ∷ [])
    []
    ≡ traced [] (ending.Returned returns.Explicit (value.Null) [])
unit_8_runs = refl

unit_8_orderly : is_orderly unit_8 None ≡ true
unit_8_orderly = refl

unit_8_supported : is_supported unit_8 ≡ true
unit_8_supported = refl

-- (unit [] (program [(expr (funexpr y n n - (params [(param (bind "x" -) -) (param (bind "c" -) -)] -) (body ["use strict"] [(fundecl n
--   n y (bind "b" (type "primitive" [])) (params [(param (bind "a" -) -)] -) (body [] [(typealias (bind "v" -) (type "other" [(id "b")
--   (id "x")])) (fundecl n n y (bind "c" -) (params [(param (bind "x" -) (id "c")) (param (bind "c" -) (arrow n n (params [] -) (body
--   [] [])))] (rest (bind "y" -))) (body [] [(if (assign "+=" (member n (funexpr n n n - (params [] (rest (bind "y" -))) (body [] []))
--   "k") (id "y")) (empty) -) (expr (id "y")) (expr (id "c")) (expr (id "f")) (expr (id "a")) (return -)])) (empty)])) (empty) (expr
--   (id "b")) (empty) (expr (id "b")) (return -) (expr (id "y"))])))]))
abbrev unit_9 : Syntax
unit_9 =
    unit (
    tree word.Expr (
    tree word.Funexpr (
    yes ∷ no ∷ no ∷ Absent ∷
    tree word.Params (
    listed (tree word.Param (name (codes "x") ∷ Absent ∷ []) ∷ tree word.Param (name (codes "c") ∷ Absent ∷ []) ∷ []) ∷ Absent ∷
    []) ∷
    tree word.Body (
    listed (text (codes "use strict") ∷ []) ∷
    listed (
    tree word.Fundecl (
    no ∷ no ∷ yes ∷
    tree word.Bind (text (codes "b") ∷ tree word.Type (text (codes "primitive") ∷ listed [] ∷ []) ∷ []) ∷
    tree word.Params (listed (tree word.Param (name (codes "a") ∷ Absent ∷ []) ∷ []) ∷ Absent ∷ []) ∷
    tree word.Body (
    listed [] ∷
    listed (
    tree word.Typealias (
    name (codes "v") ∷
    tree word.Type (text (codes "other") ∷ listed (id (codes "b") ∷ id (codes "x") ∷ []) ∷ []) ∷
    []) ∷
    tree word.Fundecl (
    no ∷ no ∷ yes ∷ name (codes "c") ∷
    tree word.Params (
    listed (
    tree word.Param (name (codes "x") ∷ id (codes "c") ∷ []) ∷
    tree word.Param (
    name (codes "c") ∷
    tree word.Arrow (
    no ∷ no ∷
    tree word.Params (listed [] ∷ Absent ∷ []) ∷
    tree word.Body (listed [] ∷ listed [] ∷ []) ∷
    []) ∷
    []) ∷
    []) ∷
    tree word.Rest (name (codes "y") ∷ []) ∷
    []) ∷
    tree word.Body (
    listed [] ∷
    listed (
    tree word.If (
    tree word.Assign (
    text (codes "+=") ∷
    tree word.Member (
    no ∷
    tree word.Funexpr (
    no ∷ no ∷ no ∷ Absent ∷
    tree word.Params (listed [] ∷ tree word.Rest (name (codes "y") ∷ []) ∷ []) ∷
    tree word.Body (listed [] ∷ listed [] ∷ []) ∷
    []) ∷
    text (codes "k") ∷
    []) ∷
    id (codes "y") ∷
    []) ∷
    tree word.Empty [] ∷ Absent ∷
    []) ∷
    tree word.Expr (id (codes "y") ∷ []) ∷
    tree word.Expr (id (codes "c") ∷ []) ∷
    tree word.Expr (id (codes "f") ∷ []) ∷
    tree word.Expr (id (codes "a") ∷ []) ∷
    tree word.Return (Absent ∷ []) ∷
    []) ∷
    []) ∷
    []) ∷
    tree word.Empty [] ∷
    []) ∷
    []) ∷
    []) ∷
    tree word.Empty [] ∷
    tree word.Expr (id (codes "b") ∷ []) ∷
    tree word.Empty [] ∷
    tree word.Expr (id (codes "b") ∷ []) ∷
    tree word.Return (Absent ∷ []) ∷
    tree word.Expr (id (codes "y") ∷ []) ∷
    []) ∷
    []) ∷
    []) ∷
    [])
    ∷ [])

unit_9_runs : source_trace_of unit_9 (Some 39) [] (given 100 ∷ given 101 ∷ [])
    []
    ≡ traced [] (ending.Returned returns.Void (value.Undefined) [])
unit_9_runs = refl

unit_9_orderly : is_orderly unit_9 (Some 39) ≡ true
unit_9_orderly = refl

unit_9_supported : is_supported unit_9 ≡ true
unit_9_supported = refl
