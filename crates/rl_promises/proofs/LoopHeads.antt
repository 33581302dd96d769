-- Heads of `for`-`in` and `for`-`of` loops, by the forms of their parts.
use Rattle.std.proofs.Common.{◌≡◌, Bool, true, false, Some, None, ap, sym, refl, ◌∙◌}
use Rattle.rl_promises.specs.Conditions.{declares_one, is_bare, is_one_bare, is_plain_head, plain_ahead, plain_head}
use Rattle.rl_promises.specs.PartForms.{second_list}
use Rattle.rl_syntax.specs.Shapes.{is_flag, is_one}
use Rattle.rl_syntax.specs.Syntax.{Syntax, Listed, Flag, Pieces, End, Then}

-- A declarator alone.

pub none_declared : (ps : Pieces) → None ≡ second_list ps → false ≡ declares_one ps
none_declared (Then kind (Then (Listed declarators) End)) none = absurd (cc)
none_declared _ none = refl

declares_listed : (ps items : Pieces) → Some items ≡ second_list ps → is_one_bare (Some items) ≡ declares_one ps
declares_listed (Then kind (Then (Listed declarators) End)) items is =
    ap (λ (l : Pieces). is_one_bare (Some l)) (let same : items ≡ declarators = cc in same)
declares_listed _ items is = absurd (cc)

several_bare : (items : Pieces) → is_one items ≡ false → false ≡ is_one_bare (Some items)
several_bare (Then declarator End) none = absurd (cc)
several_bare _ none = refl

pub other_declared : (ps items : Pieces) → Some items ≡ second_list ps → is_one items ≡ false → false ≡ declares_one ps
other_declared ps items is none = several_bare items none ∙ declares_listed ps items is

pub one_declared : (ps items : Pieces) (declarator : Syntax) (r : Bool) → Some items ≡ second_list ps → items ≡ Then declarator End
    → r ≡ is_bare declarator → r ≡ declares_one ps
one_declared ps items declarator r is one e = e ∙ ap (λ (l : Pieces). is_one_bare (Some l)) (sym one) ∙ declares_listed ps items is

-- A head behind a flag, or in front.

pub plain_in_front : (head : Syntax) (ps : Pieces) → plain_head (Then head ps) ≡ true → is_plain_head head ≡ true
plain_in_front (Flag flag) ps plain = refl
plain_in_front _ ps plain = plain

pub none_ahead : (ps : Pieces) → ps ≡ End → false ≡ plain_head ps
none_ahead ps is = ap plain_head (sym is)

pub head_ahead : (ps rest : Pieces) (head : Syntax) (r : Bool) → ps ≡ Then head rest → is_flag head ≡ false → r ≡ is_plain_head head
    → r ≡ plain_head ps
head_ahead (Then (Flag flag) parts) rest head r is none e = absurd (cc)
head_ahead (Then tree parts) rest head r is none e = e ∙ ap plain_ahead (sym is)
head_ahead End rest head r is none e = absurd (cc)

pub none_behind : (ps rest : Pieces) (tree : Syntax) (flag : Bool) → ps ≡ Then tree rest → tree ≡ Flag flag → rest ≡ End
    → false ≡ plain_head ps
none_behind ps rest tree flag is first none =
    ap plain_head (sym (is ∙ ap (λ (t : Syntax). Then t rest) first ∙ ap (Then (Flag flag)) none))

pub head_behind : (ps rest more : Pieces) (tree head : Syntax) (flag r : Bool) → ps ≡ Then tree rest → tree ≡ Flag flag
    → rest ≡ Then head more → r ≡ is_plain_head head → r ≡ plain_head ps
head_behind ps rest more tree head flag r is first behind e =
    e ∙ ap plain_head (sym (is ∙ ap (λ (t : Syntax). Then t rest) first ∙ ap (Then (Flag flag)) behind))

pub ruleset heads = (none_declared, other_declared, one_declared, none_ahead, head_ahead, none_behind, head_behind)
