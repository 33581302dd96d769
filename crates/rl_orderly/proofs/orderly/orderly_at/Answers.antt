use Rattle.std.proofs.Common.{Bor, List, Some, map, option_map, ap, ◌∙◌}
use Rattle.rl_model.specs.Facts.{is_shadowed}
use Rattle.rl_model.specs.Marked.{marked}
use Rattle.rl_model.specs.Orderly.{is_orderly_by}
use Rattle.rl_model.specs.Tables.{tables_of}
use Rattle.rl_model.specs.Units.{names_of}
use Rattle.rl_syntax.specs.Syntax.{Syntax, syntax}
use Rattle.rl_syntax.specs.declared.numbered.Numbered.{Numbered}
use Rattle.rl_worlds.proofs.UnitTables.{functions_are}
use Rattle.rl_orderly.proofs.orderly.orderly_at.Goals as goal

abbrev trees : List (Bor Numbered) → List Syntax
trees items = map (λ t. syntax t.now) items

pub returns-in-Some : goal.returns-in-Some
returns-in-Some c is =
    let u : Syntax = syntax c.args.unit.now.tree in
    let are = c.in_ok-functions.ensures ∙ functions_are u is.rules in
    let test = is_orderly_by (names_of u) (is_shadowed (tables_of u) (names_of u)) (marked u) in
    ap (λ b. Some b) (c.in_ok-result-in-Some.ensures u is (ap trees c.as_slice-in-Some.ensures.value ∙ are))
    ∙ ap (option_map test) (c.in-Some.ensures u (ap trees c.as_slice.ensures.value ∙ are))

pub returns : goal.returns
returns c is =
    let u : Syntax = syntax c.args.unit.now.tree in
    let test = is_orderly_by (names_of u) (is_shadowed (tables_of u) (names_of u)) (marked u) in
    ap (option_map test) (c.in-None.ensures u (ap trees c.as_slice.ensures.value ∙ c.in_ok-functions.ensures ∙ functions_are u is.rules))
