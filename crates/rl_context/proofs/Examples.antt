-- The definitions, tried on small units: the entries of references, and the context identifiers of the marked function.
use Rattle.std.proofs.Common.{◌≡◌, ℕ, zero, suc, ◌+◌, Bool, true, false, Option, Some, None, List, [], ◌∷◌, length, map, codes, refl}
use Rattle.rl_ast.specs.Marked.{first, marked_functions}
use Rattle.rl_base.specs.declared.diagnostic.Diagnostic.{Diagnostic}
use Rattle.rl_base.specs.declared.span.Span.{Span}
use Rattle.rl_bindings.specs.Names.{names_in}
use Rattle.rl_bindings.specs.Tables.{declarations_in, references_in, scopes_in, symbols_in}
use Rattle.rl_bindings.specs.declared.bindings.Bindings.{Bindings}
use Rattle.rl_context.specs.Context.{is_context}
use Rattle.rl_context.specs.Index.{entry_among, declaration_span}
use Rattle.rl_context.specs.Sites.{sites_in}
use Rattle.rl_context.specs.Wrapped.{diagnostic_of, stop_among}
use Rattle.rl_context.specs.declared.site.IdentEntry.{IdentEntry}
use Rattle.rl_context.specs.declared.site.Site.{Site}
use Rattle.rl_context.specs.declared.site.Wrapper.TheVariants as wrapper
use Rattle.rl_semantic.specs.Items.{of_item}
use Rattle.rl_syntax.specs.Syntax.{Syntax, Node, Listed, Said, Count, Flag, Absent, Pieces, End, Then, pieces_of, nodes, references, scopes, one_if, is_reference}
use Rattle.rl_syntax.specs.Words.{makes_scope}
use Rattle.rl_syntax.specs.declared.numbered.At.{At}
use Rattle.rl_syntax.specs.declared.word.Word.{Word}
use Rattle.rl_syntax.specs.declared.word.Word.TheVariants as word

abbrev blank : At
blank = record { id = record { 0 = 0 }; end = record { 0 = 0 }; scope = record { 0 = 0 }; reference = record { 0 = 0 }; span = record { start = 0; end = 0 } }

-- Ids of a node that has `count` nodes, if `node` nodes, `scope` scopes and `reference` references open before it. Its span
-- here is the range of its node ids.
abbrev at : (node count scope reference : ℕ) → At
at node count scope reference = record { id = record { 0 = node }; end = record { 0 = node + count }; scope = record { 0 = scope }; reference = record { 0 = reference }; span = record { start = node; end = node + count } }

abbrev mutual
  -- The tree with ids by the place of each node.
  placed : (node scope reference : ℕ) → Syntax → Syntax
  placed node scope reference (Node a w parts) = Node (at node (nodes (Node a w parts)) scope reference) w (placed_all (node + 1) (scope + one_if makes_scope w) (reference + one_if is_reference w) parts)
  placed node scope reference (Listed items) = Listed (placed_all node scope reference items)
  placed node scope reference (Said text) = Said text
  placed node scope reference (Count number) = Count number
  placed node scope reference (Flag flag) = Flag flag
  placed node scope reference Absent = Absent

  placed_all : (node scope reference : ℕ) → Pieces → Pieces
  placed_all node scope reference End = End
  placed_all node scope reference (Then piece pieces) = Then (placed node scope reference piece) (placed_all (node + nodes piece) (scope + scopes piece) (reference + references piece) pieces)

abbrev node : Word → List Syntax → Syntax
node w ps = Node blank w (pieces_of ps)

abbrev list : List Syntax → Syntax
list ps = Listed (pieces_of ps)

abbrev bind : (name : List ℕ) → Syntax
bind t = node word.Bind (Said t ∷ Absent ∷ [])

abbrev id : (name : List ℕ) → Syntax
id t = node word.Id (Said t ∷ [])

abbrev expr : Syntax → Syntax
expr e = node word.Expr (e ∷ [])

abbrev params : List (List ℕ) → Syntax
params names = node word.Params (list (map (λ t. node word.Param (bind t ∷ Absent ∷ [])) names) ∷ Absent ∷ [])

abbrev body : List Syntax → Syntax
body ps = node word.Body (list [] ∷ list ps ∷ [])

-- The marked function, with statements as its body.
abbrev marked : List (List ℕ) → List Syntax → Syntax
marked names ps = expr (node word.Arrow (Flag true ∷ Flag false ∷ params names ∷ body ps ∷ []))

-- An inner function with an expression as its body.
abbrev inner : Syntax → Syntax
inner e = node word.Arrow (Flag false ∷ Flag false ∷ params [] ∷ e ∷ [])

abbrev funexpr : (name : Syntax) → List (List ℕ) → List Syntax → Syntax
funexpr name names ps = node word.Funexpr (Flag false ∷ Flag false ∷ Flag false ∷ name ∷ params names ∷ body ps ∷ [])

abbrev assign : (target value : Syntax) → Syntax
assign target value = node word.Assign (Said (codes "=") ∷ target ∷ value ∷ [])

abbrev type : List Syntax → Syntax
type ids = node word.Type (Said (codes "other") ∷ list ids ∷ [])

abbrev unit : List Syntax → Syntax
unit ps = placed 0 0 0 (node word.Unit (list [] ∷ node word.Program (list ps ∷ []) ∷ []))

abbrev bindings : Syntax → Bindings
bindings u = record { names = names_in u; scopes = scopes_in u; symbols = symbols_in u; declarations = declarations_in u; references = references_in u; least_broken_name_rule = None; keeps_other_rules = true }

abbrev sites_of_marked : Syntax → List Site
sites_of_marked u = of_item [] sites_in (first (marked_functions u))

abbrev numbers : (from count : ℕ) → List ℕ
numbers from zero = []
numbers from (suc count) = from ∷ numbers (from + 1) count

-- For each symbol of a unit, in order: true if it is a context identifier.
abbrev context : Syntax → List Bool
context u = map (is_context (bindings u) (sites_of_marked u)) (numbers 0 (length (symbols_in u)))

-- The entries of the first `count` references of a unit.
abbrev entries : Syntax → (count : ℕ) → List (Option IdentEntry)
entries u count = map (λ n. entry_among n (sites_of_marked u)) (numbers 0 count)

abbrev stop : Syntax → Option Diagnostic
stop u = stop_among (sites_of_marked u)

abbrev x : List ℕ
x = codes "x"

abbrev y : List ℕ
y = codes "y"

abbrev num : Syntax
num = node word.Num (Said (codes "1") ∷ [])

-- An inner function with statements as its body.
abbrev block : List (List ℕ) → List Syntax → Syntax
block names ps = node word.Arrow (Flag false ∷ Flag false ∷ params names ∷ body ps ∷ [])

-- The context identifiers of a marked function with the parameter `x`.
abbrev context_in : List Syntax → List Bool
context_in ps = context (unit (marked (x ∷ []) ps ∷ []))

abbrev stop_in : List Syntax → Option Diagnostic
stop_in ps = stop (unit (marked (x ∷ []) ps ∷ []))

-- import { useState as y } from "react"; (x) => { () => x = y; }
shared : context (unit (node word.Import (Said (codes "react") ∷ list (node word.Named (Said (codes "useState") ∷ bind y ∷ []) ∷ []) ∷ []) ∷ marked (x ∷ []) (expr (inner (assign (id x) (id y))) ∷ []) ∷ [])) ≡ false ∷ true ∷ []
shared = refl

-- x = x; () => x;
named_inside : context_in (expr (assign (id x) (id x)) ∷ expr (inner (id x)) ∷ []) ≡ true ∷ []
named_inside = refl

-- () => x;
never_assigned : context_in (expr (inner (id x)) ∷ []) ≡ false ∷ []
never_assigned = refl

-- x = x;
never_inside : context_in (expr (assign (id x) (id x)) ∷ []) ≡ false ∷ []
never_inside = refl

-- () => x++;
updated : context_in (expr (inner (node word.Update (Said (codes "++") ∷ Flag false ∷ id x ∷ []))) ∷ []) ≡ true ∷ []
updated = refl

-- () => ([x.y = x] = x); the member is a target, its object is none.
member : context_in (expr (inner (assign (node word.Arraytarget (list (node word.Default (node word.Member (Flag false ∷ id x ∷ Said y ∷ []) ∷ id x ∷ []) ∷ []) ∷ Absent ∷ [])) (id x))) ∷ []) ≡ false ∷ []
member = refl

-- () => ({ [1]: [...x] } = 1);
pattern : context_in (expr (inner (assign (node word.Objecttarget (list (node word.Keyed (Flag true ∷ num ∷ node word.Arraytarget (list [] ∷ node word.Rest (id x ∷ []) ∷ []) ∷ []) ∷ []) ∷ Absent ∷ [])) num)) ∷ []) ≡ true ∷ []
pattern = refl

-- () => { for (x of x) ; }
loop_head : context_in (expr (block [] (node word.Forof (Flag false ∷ id x ∷ id x ∷ node word.Empty [] ∷ []) ∷ [])) ∷ []) ≡ false ∷ []
loop_head = refl

-- (y) => y = 1;
own : context_in (expr (block (y ∷ []) (expr (assign (id y) num) ∷ [])) ∷ []) ≡ false ∷ false ∷ []
own = refl

-- (y) => { () => y = 1; }
own_inside : context_in (expr (block (y ∷ []) (expr (inner (assign (id y) num)) ∷ [])) ∷ []) ≡ false ∷ true ∷ []
own_inside = refl

-- ({ [x = 1]() {} });
key : context_in (expr (node word.Object (list (node word.Method (Flag true ∷ assign (id x) num ∷ funexpr Absent [] [] ∷ []) ∷ []) ∷ [])) ∷ []) ≡ true ∷ []
key = refl

-- ({ [(y) => y = 1]() {} }); the function in the key declares y.
own_in_key : context_in (expr (node word.Object (list (node word.Method (Flag true ∷ block (y ∷ []) (expr (assign (id y) num) ∷ []) ∷ funexpr Absent [] [] ∷ []) ∷ []) ∷ [])) ∷ []) ≡ false ∷ false ∷ []
own_in_key = refl

-- x = 1; () => (1 as x);
in_type : context_in (expr (assign (id x) num) ∷ expr (inner (node word.As (num ∷ type (id x ∷ []) ∷ []))) ∷ []) ≡ true ∷ []
in_type = refl

-- x = 1; () => <x/>;
in_tag : context_in (expr (assign (id x) num) ∷ expr (inner (node word.Element (node word.Opening (id x ∷ list [] ∷ []) ∷ list [] ∷ Absent ∷ []))) ∷ []) ≡ true ∷ []
in_tag = refl

-- () => class { field = x = 1; };
in_class : context_in (expr (inner (node word.Classexpr (Absent ∷ Absent ∷ list (node word.Field (assign (id x) num ∷ []) ∷ []) ∷ []))) ∷ []) ≡ false ∷ []
in_class = refl

-- y = 1; function y() {}
declared : context_in (expr (assign (id y) num) ∷ node word.Fundecl (Flag false ∷ Flag false ∷ Flag false ∷ bind y ∷ params [] ∷ body [] ∷ []) ∷ []) ≡ false ∷ false ∷ []
declared = refl

-- function y() { y = 1; }
assigns_itself : context_in (node word.Fundecl (Flag false ∷ Flag false ∷ Flag false ∷ bind y ∷ params [] ∷ body (expr (assign (id y) num) ∷ []) ∷ []) ∷ []) ≡ false ∷ true ∷ []
assigns_itself = refl

-- (function y() { y = 1; });
own_name : context_in (expr (funexpr (bind y) [] (expr (assign (id y) num) ∷ [])) ∷ []) ≡ false ∷ false ∷ []
own_name = refl

-- (x) => { (marked) () => { x = 1; } }; an outer function's variable, which no function inside the marked one assigns.
around : context (unit (expr (block (x ∷ []) (marked [] (expr (assign (id x) num) ∷ []) ∷ [])) ∷ [])) ≡ false ∷ []
around = refl

-- (x) => { (marked) () => { () => x = 1; } };
around_inside : context (unit (expr (block (x ∷ []) (marked [] (expr (inner (assign (id x) num)) ∷ []) ∷ [])) ∷ [])) ≡ true ∷ []
around_inside = refl

abbrev wrapped : Syntax → Syntax
wrapped e = node word.Nonnull (e ∷ [])

-- [x = (x! = 1), x as y] = x; stops at the second: it is of the first assignment.
first_assignment : stop_in (expr (assign (node word.Arraytarget (list (node word.Default (id x ∷ assign (wrapped (id x)) num ∷ []) ∷ node word.As (id x ∷ type (id y ∷ []) ∷ []) ∷ []) ∷ Absent ∷ [])) (id x)) ∷ []) ≡ Some (diagnostic_of (record { assignment = record { 0 = 9 }; wrapper = wrapper.As; span = record { start = 17; end = 21 } }))
first_assignment = refl

-- x!++;
wrapped_update : stop_in (expr (node word.Update (Said (codes "++") ∷ Flag false ∷ wrapped (id x) ∷ [])) ∷ []) ≡ None
wrapped_update = refl

-- for (x! of x) ;
wrapped_head : stop_in (node word.Forof (Flag false ∷ wrapped (id x) ∷ id x ∷ node word.Empty [] ∷ []) ∷ []) ≡ None
wrapped_head = refl

abbrev entry : (node count : ℕ) → (in_type : Bool) → (opening : Option Span) → Option IdentEntry
entry n count in_type opening = Some (record { span = record { start = n; end = n + count }; in_type_annotation = in_type; opening_element_span = opening })

-- x; x as x; <x/>; <x.y/>; class extends x {};
kinds : entries (unit (marked (x ∷ []) (
    expr (id x)
    ∷ expr (node word.As (id x ∷ type (id x ∷ []) ∷ []))
    ∷ expr (node word.Element (node word.Opening (id x ∷ list [] ∷ []) ∷ list [] ∷ Absent ∷ []))
    ∷ expr (node word.Element (node word.Opening (node word.Tagmember (id x ∷ Said y ∷ []) ∷ list [] ∷ []) ∷ list [] ∷ Absent ∷ []))
    ∷ expr (node word.Classexpr (Absent ∷ id x ∷ list [] ∷ []))
    ∷ []) ∷ [])) 6
    ≡ entry 9 1 false None ∷ entry 12 1 false None ∷ entry 14 1 true None ∷ entry 18 1 false (Some (record { start = 17; end = 19 })) ∷ entry 23 1 false (Some (record { start = 21; end = 24 })) ∷ None ∷ []
kinds = refl

-- The spans of the declarations of symbols.
abbrev spans : Syntax → List (Option Span)
spans u = map (declaration_span (sites_of_marked u) (symbols_in u)) (numbers 0 (length (symbols_in u)))

-- The own name of the marked function and its parameter are held; the name of a class in it is not.
held : spans (unit (expr (node word.Funexpr (Flag true ∷ Flag false ∷ Flag false ∷ bind y ∷ params (x ∷ []) ∷ body (node word.Classdecl (bind (codes "A") ∷ Absent ∷ list [] ∷ []) ∷ []) ∷ [])) ∷ []))
    ≡ Some (record { start = 4; end = 5 }) ∷ Some (record { start = 7; end = 8 }) ∷ None ∷ []
held = refl
