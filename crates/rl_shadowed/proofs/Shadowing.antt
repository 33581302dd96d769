-- Names of function declarations that other symbols around them have too.
use Rattle.std.proofs.Common.{◌≡◌, ℕ, ◌+◌, Bool, true, false, ◌&&◌, ◌||◌, not, Option, Some, None, List, [], ◌∷◌, map, ap, sym, refl, ◌∙◌}
use Rattle.rl_base.specs.declared.ids.ScopeId.{ScopeId}
use Rattle.rl_base.specs.declared.ids.SymbolId.{SymbolId}
use Rattle.rl_bindings.specs.declared.bindings.Bindings.{Bindings}
use Rattle.rl_bindings.specs.declared.event.Bound.{Bound}
use Rattle.rl_bindings.specs.declared.event.ScopeEntry.{ScopeEntry}
use Rattle.rl_bindings.specs.declared.names.Name.{Name}
use Rattle.rl_code.specs.Parts.{name_of}
use Rattle.rl_model.specs.Facts.{is_same, is_taken, stem, takes_name}
use Rattle.rl_model.specs.Facts.{is_shadowed as is_shadowed_in}
use Rattle.rl_model.specs.Orderly.{is_orderly_name}
use Rattle.rl_names.specs.Names.{Names}
use Rattle.rl_shadowed.specs.Shadowed.{bind_as, bind_of, declared_bind, first_bind, has_either, is_among, is_shadowed_by}
use Rattle.rl_shadowed.specs.Shadowed.{is_taken_by, is_taking, shadowed_as}
use Rattle.rl_resolver.specs.Around.{ancestors}
use Rattle.rl_syntax.specs.Shapes.{is_text}
use Rattle.rl_syntax.specs.Syntax.{Syntax, Node, Said, Pieces, End, Then, pieces_of, syntax}
use Rattle.rl_syntax.specs.declared.numbered.At.{At}
use Rattle.rl_syntax.specs.declared.numbered.Numbered.{Numbered}
use Rattle.rl_syntax.specs.declared.numbered.Numbered.TheVariants as numbered
use Rattle.rl_syntax.specs.declared.word.Word.{Word}
use Rattle.rl_syntax.specs.declared.word.Word.TheVariants as word
use Rattle.rl_syntax.proofs.Layers.{syntax_node, syntax_list, syntax_text, syntax_number, syntax_flag, syntax_absent}

pub bind_said : (at : At) (parts rest : Pieces) (t : Syntax) (name : List ℕ) → parts ≡ Then t rest → t ≡ Said name
    → Some (at, name) ≡ bind_as at word.Bind parts
bind_said at parts rest t name split is = ap (λ ps. bind_as at word.Bind ps) (sym (split ∙ ap (λ t. Then t rest) is))

no_text : (at : At) (t : Syntax) (rest : Pieces) → is_text t ≡ false → None ≡ bind_as at word.Bind (Then t rest)
no_text at (Said text) rest none = absurd (cc)
no_text at _ rest none = refl

pub bind_unsaid : (at : At) (parts rest : Pieces) (t : Syntax) → parts ≡ Then t rest → is_text t ≡ false
    → None ≡ bind_as at word.Bind parts
bind_unsaid at parts rest t split none = no_text at t rest none ∙ ap (λ ps. bind_as at word.Bind ps) (sym split)

pub bind_empty : (at : At) (parts : Pieces) → parts ≡ End → None ≡ bind_as at word.Bind parts
bind_empty at parts empty = ap (λ ps. bind_as at word.Bind ps) (sym empty)

pub ruleset bind_parts = (bind_said, bind_unsaid, bind_empty)

pub node_bind : (at : At) (w : Word) (parts : List Numbered) (o : Option (At × List ℕ)) → o ≡ bind_as at w (pieces_of (map syntax parts))
    → o ≡ bind_of (syntax (numbered.Node at w parts))
node_bind at w parts o e = e ∙ ap bind_of (sym (syntax_node at w parts))

pub list_bind : (items : List Numbered) → None ≡ bind_of (syntax (numbered.List items))
list_bind items = ap bind_of (sym (syntax_list items))

pub text_bind : (text : List ℕ) → None ≡ bind_of (syntax (numbered.Text text))
text_bind text = ap bind_of (sym (syntax_text text))

pub number_bind : (number : ℕ) → None ≡ bind_of (syntax (numbered.Number number))
number_bind number = ap bind_of (sym (syntax_number number))

pub flag_bind : (flag : Bool) → None ≡ bind_of (syntax (numbered.Flag flag))
flag_bind flag = ap bind_of (sym (syntax_flag flag))

pub absent_bind : None ≡ bind_of (syntax numbered.Absent)
absent_bind = ap bind_of (sym syntax_absent)

pub ruleset bind_form = (node_bind, list_bind, text_bind, number_bind, flag_bind, absent_bind)

pub name_bind : (w : Word) (parts : Pieces) (t : Syntax) (o : Option (At × List ℕ)) → name_of w parts ≡ t ∷ [] → o ≡ bind_of t
    → o ≡ declared_bind w parts
name_bind w parts t o is e = e ∙ ap first_bind (sym is)

pub no_bind : (w : Word) (parts : Pieces) → name_of w parts ≡ [] → None ≡ declared_bind w parts
no_bind w parts is = ap first_bind (sym is)

pub ruleset bind_name = (name_bind, no_bind)

pub taken_shadowed : (texts : List Name) (scopes : List ScopeEntry) (symbols : List Bound) (n : Names) (at : At) (o : Option (At × List ℕ))
    (bind : At) (name : List ℕ) (b : Bool) → Some (bind, name) ≡ o
    → b ≡ is_taken_by texts (n.declared bind.id.0) (ancestors scopes at.scope) name (stem name) 0 symbols
    → b ≡ shadowed_as texts scopes symbols n at o
taken_shadowed texts scopes symbols n at o bind name b is e = e ∙ ap (shadowed_as texts scopes symbols n at) is

pub nameless : (texts : List Name) (scopes : List ScopeEntry) (symbols : List Bound) (n : Names) (at : At) (o : Option (At × List ℕ))
    → None ≡ o → false ≡ shadowed_as texts scopes symbols n at o
nameless texts scopes symbols n at o is = ap (shadowed_as texts scopes symbols n at) is

pub ruleset shadowed = (taken_shadowed, nameless)

pub node_shadowed : (texts : List Name) (scopes : List ScopeEntry) (symbols : List Bound) (n : Names) (at : At) (w : Word)
    (parts : List Numbered) (b : Bool) → b ≡ shadowed_as texts scopes symbols n at (declared_bind w (pieces_of (map syntax parts)))
    → b ≡ is_shadowed_by texts scopes symbols n (syntax (numbered.Node at w parts))
node_shadowed texts scopes symbols n at w parts b e = e ∙ ap (is_shadowed_by texts scopes symbols n) (sym (syntax_node at w parts))

pub list_shadowed : (texts : List Name) (scopes : List ScopeEntry) (symbols : List Bound) (n : Names) (items : List Numbered)
    → false ≡ is_shadowed_by texts scopes symbols n (syntax (numbered.List items))
list_shadowed texts scopes symbols n items = ap (is_shadowed_by texts scopes symbols n) (sym (syntax_list items))

pub text_shadowed : (texts : List Name) (scopes : List ScopeEntry) (symbols : List Bound) (n : Names) (text : List ℕ)
    → false ≡ is_shadowed_by texts scopes symbols n (syntax (numbered.Text text))
text_shadowed texts scopes symbols n text = ap (is_shadowed_by texts scopes symbols n) (sym (syntax_text text))

pub number_shadowed : (texts : List Name) (scopes : List ScopeEntry) (symbols : List Bound) (n : Names) (number : ℕ)
    → false ≡ is_shadowed_by texts scopes symbols n (syntax (numbered.Number number))
number_shadowed texts scopes symbols n number = ap (is_shadowed_by texts scopes symbols n) (sym (syntax_number number))

pub flag_shadowed : (texts : List Name) (scopes : List ScopeEntry) (symbols : List Bound) (n : Names) (flag : Bool)
    → false ≡ is_shadowed_by texts scopes symbols n (syntax (numbered.Flag flag))
flag_shadowed texts scopes symbols n flag = ap (is_shadowed_by texts scopes symbols n) (sym (syntax_flag flag))

pub absent_shadowed : (texts : List Name) (scopes : List ScopeEntry) (symbols : List Bound) (n : Names)
    → false ≡ is_shadowed_by texts scopes symbols n (syntax numbered.Absent)
absent_shadowed texts scopes symbols n = ap (is_shadowed_by texts scopes symbols n) (sym syntax_absent)

pub ruleset shadowed_form = (node_shadowed, list_shadowed, text_shadowed, number_shadowed, flag_shadowed, absent_shadowed)

not_shadowed : (texts : List Name) (scopes : List ScopeEntry) (symbols : List Bound) (n : Names) (t : Syntax)
    → not (is_shadowed_by texts scopes symbols n t) ≡ is_orderly_name (is_shadowed_by texts scopes symbols n) t
not_shadowed texts scopes symbols n (Node at word.Fundecl parts) = refl
not_shadowed texts scopes symbols n _ = refl

pub name_orderly : (texts : List Name) (scopes : List ScopeEntry) (symbols : List Bound) (n : Names) (t : Syntax) (b : Bool)
    → b ≡ is_shadowed_by texts scopes symbols n t → not b ≡ is_orderly_name (is_shadowed_by texts scopes symbols n) t
name_orderly texts scopes symbols n t b e = ap not e ∙ not_shadowed texts scopes symbols n t

pub ruleset names = (name_orderly)

-- A symbol on, if the first of them does not take the name.
pub taken_next : (texts : List Name) (own : Option SymbolId) (scopes : List ScopeId) (name other : List ℕ) (number : ℕ) (first : Bound)
    (rest symbols : List Bound) → symbols ≡ first ∷ rest → is_taking texts own scopes name other number first ≡ false
    → is_taken_by texts own scopes name other (number + 1) rest ≡ is_taken_by texts own scopes name other number symbols
taken_next texts own scopes name other number first rest symbols split fails =
    ap (λ b. b || is_taken_by texts own scopes name other (number + 1) rest) (sym fails)
    ∙ ap (is_taken_by texts own scopes name other number) (sym split)

pub ruleset taken_on = (taken_next)

and_swap : (a b : Bool) → a && b ≡ b && a
and_swap true true = refl
and_swap true false = refl
and_swap false true = refl
and_swap false false = refl

-- The stem is the other name.
taken_same : (b : Bindings) (own : Option SymbolId) (scopes : List ScopeId) (name : List ℕ) (number : ℕ) (symbols : List Bound)
    → is_taken_by b.names own scopes name (stem name) number symbols ≡ is_taken b own scopes name number symbols
taken_same b own scopes name number [] = refl
taken_same b own scopes name number (first ∷ symbols) =
    ap (λ taken. (not (is_same number own) && taken) || is_taken_by b.names own scopes name (stem name) (number + 1) symbols)
    (and_swap (has_either b.names name (stem name) first) (is_among scopes first.scope))
    ∙ ap (λ more. (not (is_same number own) && takes_name b scopes name first) || more)
    (taken_same b own scopes name (number + 1) symbols)

-- The lists that are read tell of a tree what the model does.
pub shadowed_same : (b : Bindings) (n : Names) (t : Syntax) → is_shadowed_by b.names b.scopes b.symbols n t ≡ is_shadowed_in b n t
shadowed_same b n (Node at word.Fundecl (Then marked (Then is_async (Then generator (Then (Node there word.Bind (Then (Said name) type)) parts))))) =
    taken_same b (n.declared there.id.0) (ancestors b.scopes at.scope) name 0 b.symbols
shadowed_same b n (Node at word.Fundecl _) = refl
shadowed_same b n _ = refl
