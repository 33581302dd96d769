-- The sites of a tree, by its form.
use Rattle.std.proofs.Common.{◌≡◌, ℕ, Bool, List, ◌++◌, map, append_assoc, append-nil, ap, sym, ◌∙◌}
use Rattle.rl_lint.specs.Roles.{role_of, listed}
use Rattle.rl_lint.specs.Sites.{site_of, sites, sites_from, sites_among}
use Rattle.rl_lint.specs.declared.role.Above.{Above}
use Rattle.rl_lint.specs.declared.role.Role.{Role}
use Rattle.rl_lint.specs.declared.site.Site.{Site}
use Rattle.rl_syntax.specs.Syntax.{Syntax, Said, Count, Flag, Absent, pieces_of, syntax}
use Rattle.rl_syntax.specs.declared.numbered.At.{At}
use Rattle.rl_syntax.specs.declared.numbered.Numbered.{Numbered}
use Rattle.rl_syntax.specs.declared.numbered.Numbered.TheVariants as numbered
use Rattle.rl_syntax.specs.declared.word.Word.{Word}
use Rattle.rl_syntax.proofs.Layers.{syntax_node, syntax_list, syntax_text, syntax_number, syntax_flag, syntax_absent}

behind : (out : List Site) (a : Above) (tree : Numbered) (form : Syntax) → syntax tree ≡ form
    → out ++ sites a form ≡ out ++ sites a (syntax tree)
behind out a tree form is = ap (λ s. out ++ sites a s) (sym is)

pub node_walked : (a : Above) (at : At) (word : Word) (parts : List Numbered) (r : Role) (out o1 o2 : List Site)
    → r ≡ role_of word (pieces_of (map syntax parts))
    → o1 ≡ out ++ site_of r a at
    → o2 ≡ o1 ++ sites_from a at r 0 (pieces_of (map syntax parts))
    → o2 ≡ out ++ sites a (syntax (numbered.Node at word parts))
node_walked a at word parts r out o1 o2 is e1 e2 =
    e2
    ∙ ap (λ o. o ++ sites_from a at r 0 (pieces_of (map syntax parts))) e1
    ∙ append_assoc out (site_of r a at) (sites_from a at r 0 (pieces_of (map syntax parts)))
    ∙ ap (λ (r : Role). out ++ (site_of r a at ++ sites_from a at r 0 (pieces_of (map syntax parts)))) is
    ∙ behind out a (numbered.Node at word parts) _ (syntax_node at word parts)

pub list_walked : (a : Above) (items : List Numbered) (out o1 : List Site)
    → o1 ≡ out ++ sites_among (listed a (pieces_of (map syntax items))) (pieces_of (map syntax items))
    → o1 ≡ out ++ sites a (syntax (numbered.List items))
list_walked a items out o1 e = e ∙ behind out a (numbered.List items) _ (syntax_list items)

pub text_walked : (a : Above) (text : List ℕ) (out : List Site) → out ≡ out ++ sites a (syntax (numbered.Text text))
text_walked a text out = sym (append-nil out) ∙ behind out a (numbered.Text text) (Said text) (syntax_text text)

pub number_walked : (a : Above) (number : ℕ) (out : List Site) → out ≡ out ++ sites a (syntax (numbered.Number number))
number_walked a number out = sym (append-nil out) ∙ behind out a (numbered.Number number) (Count number) (syntax_number number)

pub flag_walked : (a : Above) (flag : Bool) (out : List Site) → out ≡ out ++ sites a (syntax (numbered.Flag flag))
flag_walked a flag out = sym (append-nil out) ∙ behind out a (numbered.Flag flag) (Flag flag) (syntax_flag flag)

pub absent_walked : (a : Above) (out : List Site) → out ≡ out ++ sites a (syntax numbered.Absent)
absent_walked a out = sym (append-nil out) ∙ behind out a numbered.Absent Absent syntax_absent

pub ruleset by_form = (node_walked, list_walked, text_walked, number_walked, flag_walked, absent_walked)
