-- Declarations by `using`, by the word and the parts of a node.
use Rattle.std.proofs.Common.{◌≡◌, Bool, true, false, ◌||◌, List, map, ap, sym, refl, ◌∙◌}
use Rattle.rl_promises.specs.PartForms.{declares_using, is_text_ahead}
use Rattle.rl_promises.specs.Stops.{has_using, have_using}
use Rattle.rl_syntax.specs.Syntax.{Syntax, Node, Said, Pieces, End, Then, pieces_of, syntax}
use Rattle.rl_syntax.specs.declared.numbered.At.{At}
use Rattle.rl_syntax.specs.declared.numbered.Numbered.{Numbered}
use Rattle.rl_syntax.specs.declared.numbered.Numbered.TheVariants as numbered
use Rattle.rl_syntax.specs.declared.word.Word.{Word}
use Rattle.rl_syntax.specs.declared.word.Word.TheVariants as word
use Rattle.rl_syntax.proofs.Layers.{syntax_node}

pub no_kind : (ps : Pieces) → is_text_ahead ps ≡ false → false ≡ declares_using word.Var ps
no_kind (Then (Said kind) declarators) none = absurd (cc)
no_kind _ none = refl

pub ruleset kinds = (no_kind)

-- A node has a declaration by `using` if it is one, or one of its parts has.
using_node : (at : At) (w : Word) (ps : Pieces) → has_using (Node at w ps) ≡ (declares_using w ps || have_using ps)
using_node at word.Var (Then (Said kind) declarators) = refl
using_node at word.Var End = refl
using_node at word.Var (Then p ps) = refl
using_node at _ ps = refl

pub using_itself : (at : At) (w : Word) (parts : List Numbered) → declares_using w (pieces_of (map syntax parts)) ≡ true
    → true ≡ has_using (syntax (numbered.Node at w parts))
using_itself at w parts itself =
    sym (ap has_using (syntax_node at w parts) ∙ using_node at w (pieces_of (map syntax parts))
    ∙ ap (λ b. b || have_using (pieces_of (map syntax parts))) itself)

pub using_inside : (at : At) (w : Word) (parts : List Numbered) (r : Bool) → declares_using w (pieces_of (map syntax parts)) ≡ false
    → r ≡ have_using (pieces_of (map syntax parts)) → r ≡ has_using (syntax (numbered.Node at w parts))
using_inside at w parts r itself e =
    e ∙ sym (ap has_using (syntax_node at w parts) ∙ using_node at w (pieces_of (map syntax parts))
    ∙ ap (λ b. b || have_using (pieces_of (map syntax parts))) itself)

pub ruleset by_form = (using_itself, using_inside)

pub using_first : (t : Syntax) (ts : Pieces) → has_using t ≡ true → true ≡ have_using (Then t ts)
using_first t ts has = sym (ap (λ b. b || have_using ts) has)

pub using_behind : (t : Syntax) (ts : Pieces) → has_using t ≡ false → have_using (Then t ts) ≡ have_using ts
using_behind t ts none = ap (λ b. b || have_using ts) none

pub ruleset in_row = (using_first, using_behind)
