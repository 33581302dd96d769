-- Kinds of nodes that the examples beside this file do not run, and nodes without a meaning.
use Rattle.std.proofs.Common.{◌≡◌, true, false, None, [], ◌∷◌, codes, refl}
use Rattle.rl_hir.specs.declared.terminal.ReturnVariant.TheVariants as returns
use Rattle.rl_machine.specs.declared.trace.AnswerKind.TheVariants as kinds
use Rattle.rl_machine.specs.declared.trace.Ending.TheVariants as ending
use Rattle.rl_machine.specs.declared.trace.Value.TheVariants as value
use Rattle.rl_jsx.specs.JsxTexts as jsx
use Rattle.rl_model.proofs.ExampleTrees.{full, given, id, listed, name, no, text, traced, tree, unit, yes, yields}
use Rattle.rl_model.specs.Events.{event}
use Rattle.rl_model.specs.Source.{is_orderly, is_supported, source_trace_of}
use Rattle.rl_syntax.specs.Syntax.{Syntax, Absent}
use Rattle.rl_syntax.specs.declared.word.Word.TheVariants as word

-- (unit [] (program [(expr (arrow y n (params [] -) (bool y)))]))
abbrev literal : Syntax
literal =
    unit (
    tree word.Expr (tree word.Arrow (yes ∷ no ∷ tree word.Params (listed [] ∷ Absent ∷ []) ∷ tree word.Bool (yes ∷ []) ∷ []) ∷ [])
    ∷ [])

literal_runs : source_trace_of literal None [] []
    []
    ≡ traced [] (ending.Returned returns.Implicit ((value.Bool true)) [])
literal_runs = refl

literal_orderly : is_orderly literal None ≡ true
literal_orderly = refl

literal_supported : is_supported literal ≡ true
literal_supported = refl

-- (unit [] (program [(expr (arrow y n (params [] -) (member n (importmeta) "l")))]))
abbrev import_meta : Syntax
import_meta =
    unit (
    tree word.Expr (
    tree word.Arrow (
    yes ∷ no ∷
    tree word.Params (listed [] ∷ Absent ∷ []) ∷
    tree word.Member (no ∷ tree word.Importmeta [] ∷ text (codes "l") ∷ []) ∷
    []) ∷
    [])
    ∷ [])

import_meta_runs : source_trace_of import_meta None [] []
    (yields 1 ∷ yields 2 ∷ [])
    ≡ traced (
    event (codes "metaproperty") [] [] ∷ event (codes "propertyload") [] (given 1 ∷ (value.Text (codes "l")) ∷ []) ∷
    []) (ending.Returned returns.Implicit (given 2) [])
import_meta_runs = refl

import_meta_orderly : is_orderly import_meta None ≡ true
import_meta_orderly = refl

import_meta_supported : is_supported import_meta ≡ true
import_meta_supported = refl

-- (unit [] (program [(expr (arrow y n (params [(param (bind "v" -) -)] -) (assign "=" (objecttarget [(short (id "a") -) (short (id "b")
--   (str "d")) (keyed n (name "k") (member n (id "g") "p"))] (rest (id "c"))) (id "v"))))]))
abbrev object_target : Syntax
object_target =
    unit (
    tree word.Expr (
    tree word.Arrow (
    yes ∷ no ∷
    tree word.Params (listed (tree word.Param (name (codes "v") ∷ Absent ∷ []) ∷ []) ∷ Absent ∷ []) ∷
    tree word.Assign (
    text (codes "=") ∷
    tree word.Objecttarget (
    listed (
    tree word.Short (id (codes "a") ∷ Absent ∷ []) ∷
    tree word.Short (id (codes "b") ∷ tree word.Str (text (codes "d") ∷ []) ∷ []) ∷
    tree word.Keyed (
    no ∷
    tree word.Name (text (codes "k") ∷ []) ∷
    tree word.Member (no ∷ id (codes "g") ∷ text (codes "p") ∷ []) ∷
    []) ∷
    []) ∷
    tree word.Rest (id (codes "c") ∷ []) ∷
    []) ∷
    id (codes "v") ∷
    []) ∷
    []) ∷
    [])
    ∷ [])

object_target_runs : source_trace_of object_target None [] (given 7 ∷ [])
    (
    full kinds.Yes (given 10) (given 1 ∷ value.Undefined ∷ given 3 ∷ given 4 ∷ []) [] ∷ yields 11 ∷ yields 20 ∷ yields 21 ∷
    yields 22 ∷ yields 30 ∷ yields 31 ∷ yields 32 ∷
    [])
    ≡ traced (
    event (codes "destructure")
    (codes "object" ∷ codes ".a" ∷ codes "place" ∷ codes ".b" ∷ codes "place" ∷ codes ".k" ∷ codes "place" ∷ codes "spread" ∷ [])
    (given 7 ∷ []) ∷
    event (codes "storeglobal") (codes "a" ∷ []) (given 1 ∷ []) ∷
    event (codes "binary") (codes "===" ∷ []) (value.Undefined ∷ value.Undefined ∷ []) ∷ event (codes "truthy") [] (given 20 ∷ []) ∷
    event (codes "storeglobal") (codes "b" ∷ []) ((value.Text (codes "d")) ∷ []) ∷ event (codes "global") (codes "g" ∷ []) [] ∷
    event (codes "propertystore") [] (given 30 ∷ (value.Text (codes "p")) ∷ given 3 ∷ []) ∷
    event (codes "storeglobal") (codes "c" ∷ []) (given 4 ∷ []) ∷
    []) (ending.Returned returns.Implicit (given 7) [])
object_target_runs = refl

object_target_orderly : is_orderly object_target None ≡ true
object_target_orderly = refl

object_target_supported : is_supported object_target ≡ true
object_target_supported = refl

-- (unit [] (program [(expr (arrow y n (params [(param (bind "v" -) -)] -) (element (opening (tagmember (id "g") "x") [(attrspread (id
--   "v")) (attr (attrns "a" "b") -)]) [(element (opening (this) []) [] -)] -)))]))
abbrev tags : Syntax
tags =
    unit (
    tree word.Expr (
    tree word.Arrow (
    yes ∷ no ∷
    tree word.Params (listed (tree word.Param (name (codes "v") ∷ Absent ∷ []) ∷ []) ∷ Absent ∷ []) ∷
    tree word.Element (
    tree word.Opening (
    tree word.Tagmember (id (codes "g") ∷ text (codes "x") ∷ []) ∷
    listed (
    tree word.Attrspread (id (codes "v") ∷ []) ∷
    tree word.Attr (tree word.Attrns (text (codes "a") ∷ text (codes "b") ∷ []) ∷ Absent ∷ []) ∷
    []) ∷
    []) ∷
    listed (tree word.Element (tree word.Opening (tree word.This [] ∷ listed [] ∷ []) ∷ listed [] ∷ Absent ∷ []) ∷ []) ∷
    Absent ∷
    []) ∷
    []) ∷
    [])
    ∷ [])

tags_runs : source_trace_of tags None [] (given 7 ∷ [])
    (yields 1 ∷ yields 2 ∷ yields 3 ∷ yields 4 ∷ [])
    ≡ traced (
    event (codes "global") (codes "g" ∷ []) [] ∷ event (codes "propertyload") [] (given 1 ∷ (value.Text (codes "x")) ∷ []) ∷
    event (codes "jsx") (codes ".this" ∷ []) [] ∷
    event (codes "jsx") (codes "place" ∷ codes "spread" ∷ codes ".a:b" ∷ codes "place" ∷ codes "place" ∷ [])
    (given 2 ∷ given 7 ∷ (value.Bool true) ∷ given 3 ∷ []) ∷
    []) (ending.Returned returns.Implicit (given 4) [])
unfolding jsx.trim_jsx_text jsx.split_line_endings jsx.decode_jsx_entities
tags_runs = refl

tags_orderly : is_orderly tags None ≡ true
tags_orderly = refl

tags_supported : is_supported tags ≡ true
tags_supported = refl

-- (unit [] (program [(expr (arrow y n (params [] -) (object [(prop n (name "k") (id "g")) (set n (name "s") (funexpr n n n - (params
--   [(param (bind "v" -) -)] -) (body [] [])))])))]))
abbrev setter : Syntax
setter =
    unit (
    tree word.Expr (
    tree word.Arrow (
    yes ∷ no ∷
    tree word.Params (listed [] ∷ Absent ∷ []) ∷
    tree word.Object (
    listed (
    tree word.Prop (no ∷ tree word.Name (text (codes "k") ∷ []) ∷ id (codes "g") ∷ []) ∷
    tree word.Set (
    no ∷
    tree word.Name (text (codes "s") ∷ []) ∷
    tree word.Funexpr (
    no ∷ no ∷ no ∷ Absent ∷
    tree word.Params (listed (tree word.Param (name (codes "v") ∷ Absent ∷ []) ∷ []) ∷ Absent ∷ []) ∷
    tree word.Body (listed [] ∷ listed [] ∷ []) ∷
    []) ∷
    []) ∷
    []) ∷
    []) ∷
    []) ∷
    [])
    ∷ [])

setter_runs : source_trace_of setter None [] []
    (yields 1 ∷ yields 2 ∷ [])
    ≡ traced (event (codes "global") (codes "g" ∷ []) [] ∷ []) ending.Waiting
setter_runs = refl

setter_orderly : is_orderly setter None ≡ true
setter_orderly = refl

setter_supported : is_supported setter ≡ false
setter_supported = refl

-- (unit [] (program [(expr (arrow y n (params [] -) (body [] [(typealias (bind "T" -) (type "other" [])) (interface (bind "I" -))
--   (debugger)])))]))
abbrev declarations_of_types : Syntax
declarations_of_types =
    unit (
    tree word.Expr (
    tree word.Arrow (
    yes ∷ no ∷
    tree word.Params (listed [] ∷ Absent ∷ []) ∷
    tree word.Body (
    listed [] ∷
    listed (
    tree word.Typealias (name (codes "T") ∷ tree word.Type (text (codes "other") ∷ listed [] ∷ []) ∷ []) ∷
    tree word.Interface (name (codes "I") ∷ []) ∷
    tree word.Debugger [] ∷
    []) ∷
    []) ∷
    []) ∷
    [])
    ∷ [])

declarations_of_types_runs : source_trace_of declarations_of_types None [] []
    (yields 1 ∷ [])
    ≡ traced (event (codes "debugger") [] [] ∷ []) (ending.Returned returns.Void (value.Undefined) [])
declarations_of_types_runs = refl

declarations_of_types_orderly : is_orderly declarations_of_types None ≡ true
declarations_of_types_orderly = refl

declarations_of_types_supported : is_supported declarations_of_types ≡ true
declarations_of_types_supported = refl

-- (unit [] (program [(expr (arrow y n (params [] -) (privatein "a" (id "g"))))]))
abbrev private_in : Syntax
private_in =
    unit (
    tree word.Expr (
    tree word.Arrow (
    yes ∷ no ∷
    tree word.Params (listed [] ∷ Absent ∷ []) ∷
    tree word.Privatein (text (codes "a") ∷ id (codes "g") ∷ []) ∷
    []) ∷
    [])
    ∷ [])

private_in_runs : source_trace_of private_in None [] []
    (yields 1 ∷ [])
    ≡ traced [] ending.Waiting
private_in_runs = refl

private_in_orderly : is_orderly private_in None ≡ true
private_in_orderly = refl

private_in_supported : is_supported private_in ≡ false
private_in_supported = refl

-- (unit [] (program [(expr (arrow y n (params [(param (bind "v" -) -)] -) (assign "=" (arraytarget [(member n (id "g") "a")
--   (privatemember n (id "g") "b")] -) (id "v"))))]))
abbrev private_target : Syntax
private_target =
    unit (
    tree word.Expr (
    tree word.Arrow (
    yes ∷ no ∷
    tree word.Params (listed (tree word.Param (name (codes "v") ∷ Absent ∷ []) ∷ []) ∷ Absent ∷ []) ∷
    tree word.Assign (
    text (codes "=") ∷
    tree word.Arraytarget (
    listed (
    tree word.Member (no ∷ id (codes "g") ∷ text (codes "a") ∷ []) ∷
    tree word.Privatemember (no ∷ id (codes "g") ∷ text (codes "b") ∷ []) ∷
    []) ∷
    Absent ∷
    []) ∷
    id (codes "v") ∷
    []) ∷
    []) ∷
    [])
    ∷ [])

private_target_runs : source_trace_of private_target None [] (given 7 ∷ [])
    (full kinds.Yes (given 10) (given 1 ∷ given 2 ∷ []) [] ∷ yields 3 ∷ yields 4 ∷ yields 5 ∷ [])
    ≡ traced (
    event (codes "destructure") (codes "array" ∷ codes "place" ∷ codes "place" ∷ []) (given 7 ∷ []) ∷
    event (codes "global") (codes "g" ∷ []) [] ∷
    event (codes "propertystore") [] (given 3 ∷ (value.Text (codes "a")) ∷ given 1 ∷ []) ∷
    []) ending.Waiting
private_target_runs = refl

private_target_orderly : is_orderly private_target None ≡ true
private_target_orderly = refl

private_target_supported : is_supported private_target ≡ false
private_target_supported = refl

-- (unit [] (program [(expr (arrow y n (params [(param (bind "v" -) -)] -) (assign "=" (objecttarget [(keyed y (id "g") (id "a"))] -)
--   (id "v"))))]))
abbrev computed_key : Syntax
computed_key =
    unit (
    tree word.Expr (
    tree word.Arrow (
    yes ∷ no ∷
    tree word.Params (listed (tree word.Param (name (codes "v") ∷ Absent ∷ []) ∷ []) ∷ Absent ∷ []) ∷
    tree word.Assign (
    text (codes "=") ∷
    tree word.Objecttarget (listed (tree word.Keyed (yes ∷ id (codes "g") ∷ id (codes "a") ∷ []) ∷ []) ∷ Absent ∷ []) ∷
    id (codes "v") ∷
    []) ∷
    []) ∷
    [])
    ∷ [])

computed_key_runs : source_trace_of computed_key None [] (given 7 ∷ [])
    (yields 1 ∷ [])
    ≡ traced [] ending.Waiting
computed_key_runs = refl

computed_key_orderly : is_orderly computed_key None ≡ true
computed_key_orderly = refl

computed_key_supported : is_supported computed_key ≡ false
computed_key_supported = refl

-- (unit [] (program [(expr (arrow y n (params [] -) (body [] [(expr (id "g")) (enum (bind "E" -)) (expr (newtarget))])))]))
abbrev enum_and_meta : Syntax
enum_and_meta =
    unit (
    tree word.Expr (
    tree word.Arrow (
    yes ∷ no ∷
    tree word.Params (listed [] ∷ Absent ∷ []) ∷
    tree word.Body (
    listed [] ∷
    listed (
    tree word.Expr (id (codes "g") ∷ []) ∷
    tree word.Enum (name (codes "E") ∷ []) ∷
    tree word.Expr (tree word.Newtarget [] ∷ []) ∷
    []) ∷
    []) ∷
    []) ∷
    [])
    ∷ [])

enum_and_meta_runs : source_trace_of enum_and_meta None [] []
    (yields 1 ∷ yields 2 ∷ [])
    ≡ traced (event (codes "global") (codes "g" ∷ []) [] ∷ []) ending.Waiting
enum_and_meta_runs = refl

enum_and_meta_orderly : is_orderly enum_and_meta None ≡ true
enum_and_meta_orderly = refl

enum_and_meta_supported : is_supported enum_and_meta ≡ false
enum_and_meta_supported = refl

-- (unit [] (program [(expr (arrow y n (params [] -) (call n (member n (super) "a") [])))]))
abbrev super_call : Syntax
super_call =
    unit (
    tree word.Expr (
    tree word.Arrow (
    yes ∷ no ∷
    tree word.Params (listed [] ∷ Absent ∷ []) ∷
    tree word.Call (no ∷ tree word.Member (no ∷ tree word.Super [] ∷ text (codes "a") ∷ []) ∷ listed [] ∷ []) ∷
    []) ∷
    [])
    ∷ [])

super_call_runs : source_trace_of super_call None [] []
    (yields 1 ∷ [])
    ≡ traced [] ending.Waiting
super_call_runs = refl

super_call_orderly : is_orderly super_call None ≡ true
super_call_orderly = refl

super_call_supported : is_supported super_call ≡ false
super_call_supported = refl
