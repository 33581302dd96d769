-- Lists that grow by what a tree has.
use Rattle.std.proofs.Common.{◌≡◌, List, [], ◌++◌, append_assoc, append-nil, ap, sym, ◌∙◌}
use Rattle.rl_syntax.specs.Syntax.{Syntax, syntax}
use Rattle.rl_syntax.specs.declared.numbered.Numbered.{Numbered}

pub adds_none : {X : Type 0} (f : Syntax → List X) (out : List X) (tree : Numbered) (form : Syntax) → syntax tree ≡ form → [] ≡ f form
    → out ≡ out ++ f (syntax tree)
adds_none f out tree form is none = sym (append-nil out) ∙ ap (λ l. out ++ l) none ∙ ap (λ s. out ++ f s) (sym is)

pub adds_some : {X : Type 0} (f : Syntax → List X) (out new : List X) (tree : Numbered) (form : Syntax) → syntax tree ≡ form
    → new ≡ out ++ f form → new ≡ out ++ f (syntax tree)
adds_some f out new tree form is some = some ∙ ap (λ s. out ++ f s) (sym is)

pub adds_both : {X : Type 0} (out mid new a b : List X) → mid ≡ out ++ a → new ≡ mid ++ b → new ≡ out ++ (a ++ b)
adds_both out mid new a b first second = second ∙ ap (λ l. l ++ b) first ∙ append_assoc out a b
