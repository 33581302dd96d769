-- The functions of a unit fit the grammar.
use Rattle.std.proofs.Common.{◌≡◌, ℕ, Bool, true, false, ◌&&◌, if◌then◌else◌, Option, Some, None, List, [], ◌∷◌, ◌++◌, refl, ap, sym, ◌∙◌}
use Rattle.std.specs.Prelude.{filter}
use Rattle.std.specs.List.{list_all}
use Rattle.std.proofs.lemmas.Bool.{and_parts}
use Rattle.std.proofs.lemmas.List.Folds.{list_all-append}
use Rattle.rl_ast.specs.FunctionTrees as trees
use Rattle.rl_ast.specs.Marked.{first}
use Rattle.rl_grammar.proofs.Functions.{arrow_fits, declaration_fits, expression_fits}
use Rattle.rl_grammar.specs.Grammar.{fits, each, every}
use Rattle.rl_grammar.specs.Rules.{rule}
use Rattle.rl_grammar.specs.declared.kind.Field.{Field}
use Rattle.rl_grammar.specs.declared.kind.Field.TheVariants as field
use Rattle.rl_grammar.specs.declared.kind.Kind.{Kind}
use Rattle.rl_grammar.specs.declared.kind.Kind.TheVariants as kind
use Rattle.rl_model.specs.Code.{first_lowered, inner_functions, is_function, is_instantiate, is_no_code, lowered_among, lowered_in}
use Rattle.rl_model.specs.Marked.{marked}
use Rattle.rl_model.specs.Source.{function_at, is_node}
use Rattle.rl_names.specs.Functions.{body_in, params_in}
use Rattle.rl_syntax.specs.Syntax.{Syntax, Node, Listed, Said, Count, Flag, Absent, Pieces, End, Then, is_item}
use Rattle.rl_syntax.specs.declared.numbered.At.{At}
use Rattle.rl_syntax.specs.declared.word.Word.{Word}
use Rattle.rl_syntax.specs.declared.word.Word.TheVariants as word

-- Functions that all fit.
abbrev pub all_fit : List Syntax → Bool
all_fit functions = list_all trees.is_function functions

both_fit : (xs ys : List Syntax) → all_fit xs ≡ true → all_fit ys ≡ true → all_fit (xs ++ ys) ≡ true
both_fit xs ys a b = list_all-append trees.is_function xs ys ∙ ap (λ (c : Bool). c && all_fit ys) a ∙ b

-- A function fits, wherever it stands.
node_fits : (k : Kind) (at : At) (w : Word) (parts : Pieces) → each (rule k w) parts ≡ true → is_function w ≡ true
    → trees.is_function (Node at w parts) ≡ true
node_fits k at word.Arrow parts h is = arrow_fits k parts h
node_fits k at word.Fundecl parts h is = declaration_fits k parts h
node_fits k at word.Funexpr parts h is = expression_fits k parts h
node_fits k at _ parts h is = absurd (cc)

-- The functions that are lowered of a node, by what the node is.
chosen : (no_code itself instantiate : Bool) (node : Syntax) (one all : List Syntax) → (itself ≡ true → trees.is_function node ≡ true)
    → all_fit one ≡ true → all_fit all ≡ true
    → all_fit (if no_code then [] else (if itself then node ∷ [] else []) ++ (if instantiate then one else all)) ≡ true
chosen true itself instantiate node one all fit a b = refl
chosen false true true node one all fit a b = ap (λ (c : Bool). c && all_fit one) (fit refl) ∙ a
chosen false true false node one all fit a b = ap (λ (c : Bool). c && all_fit all) (fit refl) ∙ b
chosen false false true node one all fit a b = a
chosen false false false node one all fit a b = b

mutual
  lowered_fit : (x : Field) (t : Syntax) → fits x t ≡ true → all_fit (lowered_in t) ≡ true
  lowered_fit (field.One k) (Node at w parts) h =
      chosen (is_no_code w parts) (is_function w) (is_instantiate w) (Node at w parts) (first_lowered parts) (lowered_among parts)
      (node_fits k at w parts h) (first_fit (rule k w) parts h) (each_fit (rule k w) parts h)
  lowered_fit (field.Maybe k) (Node at w parts) h =
      chosen (is_no_code w parts) (is_function w) (is_instantiate w) (Node at w parts) (first_lowered parts) (lowered_among parts)
      (node_fits k at w parts h) (first_fit (rule k w) parts h) (each_fit (rule k w) parts h)
  lowered_fit (field.Many k) (Node at w parts) h = absurd (cc)
  lowered_fit (field.Many k) (Listed parts) h = every_fit k parts h
  lowered_fit (field.One k) (Listed parts) h = absurd (cc)
  lowered_fit (field.Maybe k) (Listed parts) h = absurd (cc)
  lowered_fit x (Said text) h = refl
  lowered_fit x (Count number) h = refl
  lowered_fit x (Flag flag) h = refl
  lowered_fit x Absent h = refl

  first_fit : (fields : Option (List Field)) (ps : Pieces) → each fields ps ≡ true → all_fit (first_lowered ps) ≡ true
  first_fit fields End h = refl
  first_fit None (Then p ps) h = absurd (cc)
  first_fit (Some []) (Then p ps) h = absurd (cc)
  first_fit (Some (x ∷ fields)) (Then p ps) h = lowered_fit x p (and_parts (fits x p) (each (Some fields) ps) h).0

  each_fit : (fields : Option (List Field)) (ps : Pieces) → each fields ps ≡ true → all_fit (lowered_among ps) ≡ true
  each_fit fields End h = refl
  each_fit None (Then p ps) h = absurd (cc)
  each_fit (Some []) (Then p ps) h = absurd (cc)
  each_fit (Some (x ∷ fields)) (Then p ps) h =
      let both = and_parts (fits x p) (each (Some fields) ps) h in
      both_fit (lowered_in p) (lowered_among ps) (lowered_fit x p both.0) (each_fit (Some fields) ps both.1)

  every_fit : (k : Kind) (ps : Pieces) → every k ps ≡ true → all_fit (lowered_among ps) ≡ true
  every_fit k End h = refl
  every_fit k (Then p ps) h =
      let whole = and_parts (is_item p && fits (field.One k) p) (every k ps) h in
      both_fit (lowered_in p) (lowered_among ps) (lowered_fit (field.One k) p (and_parts (is_item p) (fits (field.One k) p) whole.0).1)
      (every_fit k ps whole.1)

-- The functions in the parts of a tree that fit, by the number of the part.
part_fit : (xs ys : List Syntax) → all_fit (xs ++ ys) ≡ true → (all_fit xs ≡ true) × (all_fit ys ≡ true)
part_fit xs ys h = and_parts (all_fit xs) (all_fit ys) (sym (list_all-append trees.is_function xs ys) ∙ h)

four_fit : (a b c d : Syntax) → all_fit (lowered_among (Then a (Then b (Then c (Then d End))))) ≡ true
    → all_fit (lowered_in c ++ lowered_in d) ≡ true
four_fit a b c d h =
    let p1 = part_fit (lowered_in a) (lowered_among (Then b (Then c (Then d End)))) h in
    let p2 = part_fit (lowered_in b) (lowered_among (Then c (Then d End))) p1.1 in
    let p3 = part_fit (lowered_in c) (lowered_among (Then d End)) p2.1 in
    let p4 = part_fit (lowered_in d) [] p3.1 in both_fit (lowered_in c) (lowered_in d) p3.0 p4.0

six_fit : (a b c d e f : Syntax) → all_fit (lowered_among (Then a (Then b (Then c (Then d (Then e (Then f End))))))) ≡ true
    → all_fit (lowered_in e ++ lowered_in f) ≡ true
six_fit a b c d e f h =
    let p1 = part_fit (lowered_in a) (lowered_among (Then b (Then c (Then d (Then e (Then f End)))))) h in
    let p2 = part_fit (lowered_in b) (lowered_among (Then c (Then d (Then e (Then f End))))) p1.1 in four_fit c d e f p2.1

inner_fit : (m : Syntax) → trees.is_function m ≡ true → all_fit (inner_functions m) ≡ true
inner_fit (Node at word.Arrow (Then a (Then b (Then params (Then body End))))) h =
    four_fit a b params body (each_fit (rule kind.Arrow word.Arrow) (Then a (Then b (Then params (Then body End)))) h)
inner_fit (Node at word.Fundecl (Then a (Then b (Then c (Then name (Then params (Then body End))))))) h =
    six_fit a b c name params body
    (each_fit (rule kind.FunctionDeclaration word.Fundecl) (Then a (Then b (Then c (Then name (Then params (Then body End)))))) h)
inner_fit (Node at word.Funexpr (Then a (Then b (Then c (Then name (Then params (Then body End))))))) h =
    six_fit a b c name params body
    (each_fit (rule kind.FunctionExpression word.Funexpr) (Then a (Then b (Then c (Then name (Then params (Then body End)))))) h)
inner_fit _ h = refl

-- The first function that passes a test fits, if all do.
taken : (b : Bool) (f x : Syntax) (rest : List Syntax) → (first rest ≡ Some f → trees.is_function f ≡ true) → trees.is_function x ≡ true
    → first (if b then x ∷ rest else rest) ≡ Some f → trees.is_function f ≡ true
taken true f x rest later fit is = let same : x ≡ f = cc in ap trees.is_function (sym same) ∙ fit
taken false f x rest later fit is = later is

filtered_fit : (test : Syntax → Bool) (fs : List Syntax) (f : Syntax) → all_fit fs ≡ true → first (filter test fs) ≡ Some f
    → trees.is_function f ≡ true
filtered_fit test [] f h is = absurd (cc)
filtered_fit test (x ∷ fs) f h is =
    let both = and_parts (trees.is_function x) (all_fit fs) h in
    taken (test x) f x (filter test fs) (filtered_fit test fs f both.1) both.0 is

-- A function of a unit fits, if the marked one does.
pub found_fit : (u f : Syntax) (node : Option ℕ) → trees.is_function (marked u) ≡ true → Some f ≡ function_at u node
    → trees.is_function f ≡ true
found_fit u f None fit is = let same : f ≡ marked u = cc in ap trees.is_function same ∙ fit
found_fit u f (Some node) fit is = filtered_fit (is_node node) (inner_functions (marked u)) f (inner_fit (marked u) fit) (sym is)
