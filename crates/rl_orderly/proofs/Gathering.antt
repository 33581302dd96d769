-- The patterns in some code, by its form and by the places of nodes.
use Rattle.std.proofs.Common.{◌≡◌, ℕ, Bool, true, List, [], ◌∷◌, ◌++◌, map, append-nil, ap, sym, refl, ◌∙◌}
use Rattle.rl_code.proofs.Adding.{adds_none, adds_some, adds_both}
use Rattle.rl_model.specs.Orderly.{patterns_among, patterns_in}
use Rattle.rl_orderly.specs.Patterns.{declared_first, patterns_as, place_of, tried_first}
use Rattle.rl_orderly.specs.declared.patterns.Place.TheVariants as place
use Rattle.rl_syntax.specs.Syntax.{Syntax, Node, Pieces, End, Then, pieces_of, syntax}
use Rattle.rl_syntax.specs.declared.numbered.At.{At}
use Rattle.rl_syntax.specs.declared.numbered.Numbered.{Numbered}
use Rattle.rl_syntax.specs.declared.numbered.Numbered.TheVariants as numbered
use Rattle.rl_syntax.specs.declared.word.Word.{Word}
use Rattle.rl_syntax.specs.declared.word.Word.TheVariants as word
use Rattle.rl_syntax.proofs.Layers.{syntax_node, syntax_list, syntax_text, syntax_number, syntax_flag, syntax_absent}

-- The patterns in a node are those by its place.
patterns_node : (tried : Bool) (at : At) (w : Word) (parts : Pieces)
    → patterns_as tried parts (place_of w) ≡ patterns_in tried (Node at w parts)
patterns_node tried at word.Try (Then block parts) = refl
patterns_node tried at word.Try End = refl
patterns_node tried at word.Declarator (Then pattern parts) = refl
patterns_node tried at word.Declarator End = refl
patterns_node tried at word.Catch (Then pattern parts) = refl
patterns_node tried at word.Catch End = refl
patterns_node tried at _ parts = refl

pub node_patterns : (tried : Bool) (at : At) (w : Word) (parts : List Numbered) (out new : List (Bool × Syntax))
    → new ≡ out ++ patterns_as tried (pieces_of (map syntax parts)) (place_of w)
    → new ≡ out ++ patterns_in tried (syntax (numbered.Node at w parts))
node_patterns tried at w parts out new e =
    adds_some (patterns_in tried) out new (numbered.Node at w parts) _ (syntax_node at w parts)
    (e ∙ ap (λ l. out ++ l) (patterns_node tried at w (pieces_of (map syntax parts))))

pub list_patterns : (tried : Bool) (items : List Numbered) (out new : List (Bool × Syntax))
    → new ≡ out ++ patterns_among tried (pieces_of (map syntax items))
    → new ≡ out ++ patterns_in tried (syntax (numbered.List items))
list_patterns tried items out new e = adds_some (patterns_in tried) out new (numbered.List items) _ (syntax_list items) e

pub text_patterns : (tried : Bool) (text : List ℕ) (out : List (Bool × Syntax))
    → out ≡ out ++ patterns_in tried (syntax (numbered.Text text))
text_patterns tried text out = adds_none (patterns_in tried) out (numbered.Text text) _ (syntax_text text) refl

pub number_patterns : (tried : Bool) (number : ℕ) (out : List (Bool × Syntax))
    → out ≡ out ++ patterns_in tried (syntax (numbered.Number number))
number_patterns tried number out = adds_none (patterns_in tried) out (numbered.Number number) _ (syntax_number number) refl

pub flag_patterns : (tried flag : Bool) (out : List (Bool × Syntax)) → out ≡ out ++ patterns_in tried (syntax (numbered.Flag flag))
flag_patterns tried flag out = adds_none (patterns_in tried) out (numbered.Flag flag) _ (syntax_flag flag) refl

pub absent_patterns : (tried : Bool) (out : List (Bool × Syntax)) → out ≡ out ++ patterns_in tried (syntax numbered.Absent)
absent_patterns tried out = adds_none (patterns_in tried) out numbered.Absent _ syntax_absent refl

pub ruleset by_form = (node_patterns, list_patterns, text_patterns, number_patterns, flag_patterns, absent_patterns)

pub as_try : (tried : Bool) (parts rest : Pieces) (block : Syntax) (out o1 o2 : List (Bool × Syntax)) → parts ≡ Then block rest
    → o1 ≡ out ++ patterns_in true block → o2 ≡ o1 ++ patterns_among tried rest → o2 ≡ out ++ patterns_as tried parts place.Tries
as_try tried parts rest block out o1 o2 is e1 e2 =
    adds_both out o1 o2 (patterns_in true block) (patterns_among tried rest) e1 e2 ∙ ap (λ ps. out ++ tried_first tried ps) (sym is)

pub as_no_try : (tried : Bool) (parts : Pieces) (out : List (Bool × Syntax)) → parts ≡ End
    → out ≡ out ++ patterns_as tried parts place.Tries
as_no_try tried parts out is = sym (append-nil out) ∙ ap (λ ps. out ++ tried_first tried ps) (sym is)

pub as_declares : (tried : Bool) (parts rest : Pieces) (pattern : Syntax) (out o1 o2 : List (Bool × Syntax)) → parts ≡ Then pattern rest
    → o1 ≡ out ++ (tried, pattern) ∷ [] → o2 ≡ o1 ++ patterns_among tried rest → o2 ≡ out ++ patterns_as tried parts place.Declares
as_declares tried parts rest pattern out o1 o2 is e1 e2 =
    adds_both out o1 o2 ((tried, pattern) ∷ []) (patterns_among tried rest) e1 e2 ∙ ap (λ ps. out ++ declared_first tried ps) (sym is)

pub as_no_pattern : (tried : Bool) (parts : Pieces) (out : List (Bool × Syntax)) → parts ≡ End
    → out ≡ out ++ patterns_as tried parts place.Declares
as_no_pattern tried parts out is = sym (append-nil out) ∙ ap (λ ps. out ++ declared_first tried ps) (sym is)

pub as_closed : (tried : Bool) (parts : Pieces) (out : List (Bool × Syntax)) → out ≡ out ++ patterns_as tried parts place.Closed
as_closed tried parts out = sym (append-nil out)

pub ruleset by_place = (as_try, as_no_try, as_declares, as_no_pattern, as_closed)
