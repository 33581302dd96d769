-- The symbols that a statement declares by itself, by its form and by its word.
use Rattle.std.proofs.Common.{◌≡◌, ℕ, Bool, Some, None, List, [], ◌++◌, map, append-nil, append_assoc, ap, sym, refl, ◌∙◌}
use Rattle.rl_markers.specs.Heads.{declared_as}
use Rattle.rl_markers.specs.Parts.{declarator_pattern}
use Rattle.rl_model.specs.Code.{bound_by}
use Rattle.rl_model.specs.Hoisting.{declared_among, declared_by_statement}
use Rattle.rl_names.specs.Names.{Names}
use Rattle.rl_syntax.specs.Syntax.{Syntax, Node, Listed, Pieces, End, Then, pieces_of, syntax}
use Rattle.rl_syntax.specs.declared.numbered.At.{At}
use Rattle.rl_syntax.specs.declared.numbered.Numbered.{Numbered}
use Rattle.rl_syntax.specs.declared.numbered.Numbered.TheVariants as numbered
use Rattle.rl_syntax.specs.declared.word.Word.{Word}
use Rattle.rl_syntax.specs.declared.word.Word.TheVariants as word
use Rattle.rl_syntax.proofs.Layers.{syntax_node, syntax_list, syntax_text, syntax_number, syntax_flag, syntax_absent}

declared_node : (n : Names) (at : At) (w : Word) (parts : Pieces) → declared_as n w parts ≡ declared_by_statement n (Node at w parts)
declared_node n at word.Var (Then kind (Then (Listed declarators) End)) = refl
declared_node n at word.Var _ = refl
declared_node n at word.Classdecl (Then name parts) = refl
declared_node n at word.Classdecl End = refl
declared_node n at word.Fundecl (Then a (Then b (Then c (Then name parts)))) = refl
declared_node n at word.Fundecl _ = refl
declared_node n at _ parts = refl

pub node_declared : (n : Names) (at : At) (w : Word) (parts : List Numbered) (out new : List ℕ) → out ≡ []
    → new ≡ out ++ declared_as n w (pieces_of (map syntax parts)) → new ≡ declared_by_statement n (syntax (numbered.Node at w parts))
node_declared n at w parts out new empty e =
    e ∙ ap (λ o. o ++ declared_as n w (pieces_of (map syntax parts))) empty ∙ declared_node n at w (pieces_of (map syntax parts))
    ∙ ap (declared_by_statement n) (sym (syntax_node at w parts))

pub list_declared : (n : Names) (items : List Numbered) (out : List ℕ) → out ≡ [] → out ≡ declared_by_statement n (syntax (numbered.List items))
list_declared n items out empty = empty ∙ ap (declared_by_statement n) (sym (syntax_list items))

pub text_declared : (n : Names) (text out : List ℕ) → out ≡ [] → out ≡ declared_by_statement n (syntax (numbered.Text text))
text_declared n text out empty = empty ∙ ap (declared_by_statement n) (sym (syntax_text text))

pub number_declared : (n : Names) (number : ℕ) (out : List ℕ) → out ≡ [] → out ≡ declared_by_statement n (syntax (numbered.Number number))
number_declared n number out empty = empty ∙ ap (declared_by_statement n) (sym (syntax_number number))

pub flag_declared : (n : Names) (flag : Bool) (out : List ℕ) → out ≡ [] → out ≡ declared_by_statement n (syntax (numbered.Flag flag))
flag_declared n flag out empty = empty ∙ ap (declared_by_statement n) (sym (syntax_flag flag))

pub absent_declared : (n : Names) (out : List ℕ) → out ≡ [] → out ≡ declared_by_statement n (syntax numbered.Absent)
absent_declared n out empty = empty ∙ ap (declared_by_statement n) (sym syntax_absent)

pub ruleset by_form = (node_declared, list_declared, text_declared, number_declared, flag_declared, absent_declared)

-- A declarator more.
some_among : (n : Names) (d : Syntax) (rest : Pieces) (pattern : Syntax) → Some pattern ≡ declarator_pattern d
    → bound_by n pattern ++ declared_among n rest ≡ declared_among n (Then d rest)
some_among n (Node at word.Declarator (Then p parts)) rest pattern is =
    let same : pattern ≡ p = cc in ap (λ t. bound_by n t ++ declared_among n rest) same
some_among n _ rest pattern is = absurd (cc)

none_among : (n : Names) (d : Syntax) (rest : Pieces) → None ≡ declarator_pattern d → declared_among n (Then d rest) ≡ []
none_among n (Node at word.Declarator (Then p parts)) rest none = absurd (cc)
none_among n _ rest none = refl

pub declarator_more : (n : Names) (d pattern : Syntax) (all rest : Pieces) (old out new : List ℕ)
    → out ++ declared_among n (Then d rest) ≡ old ++ declared_among n all → Some pattern ≡ declarator_pattern d
    → new ≡ out ++ bound_by n pattern → new ++ declared_among n rest ≡ old ++ declared_among n all
declarator_more n d pattern all rest old out new so is e =
    ap (λ l. l ++ declared_among n rest) e ∙ append_assoc out (bound_by n pattern) (declared_among n rest)
    ∙ ap (λ l. out ++ l) (some_among n d rest pattern is) ∙ so

pub declarator_stop : (n : Names) (d : Syntax) (all rest : Pieces) (old out : List ℕ)
    → out ++ declared_among n (Then d rest) ≡ old ++ declared_among n all → None ≡ declarator_pattern d
    → out ≡ old ++ declared_among n all
declarator_stop n d all rest old out so none =
    sym (append-nil out) ∙ ap (λ l. out ++ l) (sym (none_among n d rest none)) ∙ so

pub ruleset declarators = (declarator_more, declarator_stop)
