-- The symbols of references and declarations are indices of symbols.
use Rattle.std.proofs.Common.{◌≡◌, ◌<◌, ℕ, zero, suc, ◌+◌, Bool, true, false, cond, Option, Some, None, IfSome, List, [], ◌∷◌, ◌++◌, length, map, All, arith}
use Rattle.std.proofs.lemmas.List.Elements.{All-cons}
use Rattle.std.specs.List.{position_from}
use Rattle.rl_base.specs.declared.ids.ScopeId.{ScopeId}
use Rattle.rl_bindings.specs.Events.{front}
use Rattle.rl_bindings.specs.Names.{names_in}
use Rattle.rl_bindings.specs.Events.{top}
use Rattle.rl_bindings.specs.Roles.{role_of, parts_ahead, outside, below}
use Rattle.rl_bindings.specs.Standing.{inside, answers, standing, stands_ahead, stands_within, references}
use Rattle.rl_bindings.specs.Symbols.{is_own, is_at, number_at, option_or, binding, resolve}
use Rattle.rl_bindings.specs.Tables.{declared_by, references_in, symbols_in}
use Rattle.rl_bindings.specs.declared.event.Bound.{Bound}
use Rattle.rl_bindings.specs.declared.event.Event.{Event}
use Rattle.rl_bindings.specs.declared.event.Event.TheVariants as event
use Rattle.rl_bindings.specs.declared.names.Name.{Name}
use Rattle.rl_bindings.specs.declared.resolve.Answer.{Answer}
use Rattle.rl_bindings.specs.declared.role.Above.{Above}
use Rattle.rl_syntax.specs.Syntax.{Syntax, Node, Listed, Said, Count, Flag, Absent, Pieces, End, Then}

-- A symbol, if there is one, is below `n`.
abbrev pub IsBelow : (n : ℕ) → Option ℕ → Type 0
IsBelow n o = IfSome o (λ k. k < n)

position-below : (p : Bound → Bool) (i n : ℕ) (bs : List Bound) → i + length bs ≡ n → IsBelow n (position_from p i bs)
position-below p i n [] same = tt
position-below p i n (b ∷ bs) same = at (p b) (position_from p (i + 1) bs) (position-below p (i + 1) n bs (omega (arith, same)))
  where
    at : (c : Bool) (o : Option ℕ) → IsBelow n o → IsBelow n (cond c (Some i) o)
    at true o more = omega (arith, same)
    at false o more = more

pub number-below : (own : Bool) (s n : ℕ) (symbols : List Bound) → IsBelow (length symbols) (number_at own s n symbols)
number-below own s n symbols = position-below (is_at own s n) 0 (length symbols) symbols (omega arith)

or-below : (n : ℕ) (a b : Option ℕ) → IsBelow n a → IsBelow n b → IsBelow n (option_or a b)
or-below n None b below_a below_b = below_b
or-below n (Some x) b below_a below_b = below_a

resolve-below : (symbols : List Bound) (ss : List ScopeId) (n : ℕ) → IsBelow (length symbols) (resolve symbols ss n)
resolve-below symbols [] n = tt
resolve-below symbols (s ∷ ss) n =
    or-below (length symbols) (binding symbols s.0 n) (resolve symbols ss n)
    (or-below (length symbols) (number_at false s.0 n symbols) (number_at true s.0 n symbols) (number-below false s.0 n symbols) (number-below true s.0 n symbols))
    (resolve-below symbols ss n)

-- The symbols of answers are below `n`.
abbrev AreBelow : (n : ℕ) → List Answer → Type 0
AreBelow n [] = Unit {0}
AreBelow n (x ∷ xs) = IsBelow n x.symbol × AreBelow n xs

append-below : (n : ℕ) (xs ys : List Answer) → AreBelow n xs → AreBelow n ys → AreBelow n (xs ++ ys)
append-below n [] ys below_x below_y = below_y
append-below n (x ∷ xs) ys below_x below_y = (below_x.0, append-below n xs ys below_x.1 below_y)

answers-below : (symbols : List Bound) (ss : List ScopeId) (es : List Event) → AreBelow (length symbols) (answers symbols ss es)
answers-below symbols ss [] = tt
answers-below symbols ss (event.Scope s ∷ es) = answers-below symbols ss es
answers-below symbols ss (event.Open s ∷ es) = answers-below symbols ss es
answers-below symbols ss (event.Close ∷ es) = answers-below symbols ss es
answers-below symbols ss (event.Bind b ∷ es) = (resolve-below symbols ss b.name, answers-below symbols ss es)
answers-below symbols ss (event.Use node name ∷ es) = (resolve-below symbols ss name, answers-below symbols ss es)

module _ (names : List Name) (symbols : List Bound) where
  mutual
    stands-below : (t : Syntax) (a : Above) (ss : List ScopeId) → AreBelow (length symbols) (standing names symbols a ss t)
    stands-below (Node at w ps) a ss =
        append-below (length symbols) (stands_ahead names symbols (parts_ahead w) (outside a w) ss ps) (answers symbols ss (front names (role_of w) a at ps) ++ stands_within names symbols (parts_ahead w) (below a at w ps) (inside (role_of w) at ss) ps)
        (ahead-below ps (parts_ahead w) (outside a w) ss)
        (append-below (length symbols) (answers symbols ss (front names (role_of w) a at ps)) (stands_within names symbols (parts_ahead w) (below a at w ps) (inside (role_of w) at ss) ps)
        (answers-below symbols ss (front names (role_of w) a at ps))
        (within-below ps (parts_ahead w) (below a at w ps) (inside (role_of w) at ss)))
    stands-below (Listed ps) a ss = within-below ps 0 a ss
    stands-below (Said text) a ss = tt
    stands-below (Count number) a ss = tt
    stands-below (Flag flag) a ss = tt
    stands-below Absent a ss = tt

    ahead-below : (ps : Pieces) (n : ℕ) (a : Above) (ss : List ScopeId) → AreBelow (length symbols) (stands_ahead names symbols n a ss ps)
    ahead-below End n a ss = tt
    ahead-below (Then p ps) zero a ss = tt
    ahead-below (Then p ps) (suc n) a ss = append-below (length symbols) (standing names symbols a ss p) (stands_ahead names symbols n a ss ps) (stands-below p a ss) (ahead-below ps n a ss)

    within-below : (ps : Pieces) (n : ℕ) (a : Above) (ss : List ScopeId) → AreBelow (length symbols) (stands_within names symbols n a ss ps)
    within-below End n a ss = tt
    within-below (Then p ps) zero a ss = append-below (length symbols) (standing names symbols a ss p) (stands_within names symbols zero a ss ps) (stands-below p a ss) (within-below ps zero a ss)
    within-below (Then p ps) (suc n) a ss = within-below ps n a ss

use_below : (n : ℕ) (e : Event) (o : Option ℕ) (xs : List Answer) → IsBelow n o → All (λ r. IsBelow n r.symbol) (references xs) → All (λ r. IsBelow n r.symbol) (references (record { event = e; symbol = o } ∷ xs))
use_below n (event.Scope s) o xs one more = more
use_below n (event.Open s) o xs one more = more
use_below n event.Close o xs one more = more
use_below n (event.Bind b) o xs one more = more
use_below n (event.Use node name) o xs one more = All-cons (λ r. IsBelow n r.symbol) (record { node = node; name = name; symbol = o }) (references xs) one more

uses_below : (n : ℕ) (xs : List Answer) → AreBelow n xs → All (λ r. IsBelow n r.symbol) (references xs)
uses_below n [] all_below = λ k d less. absurd (omega (arith, less))
uses_below n (x ∷ xs) all_below = use_below n x.event x.symbol xs all_below.0 (uses_below n xs all_below.1)

pub references_within : (tree : Syntax) → All (λ r. IfSome r.symbol (λ k. k < length (symbols_in tree))) (references_in tree)
references_within tree = uses_below (length (symbols_in tree)) (standing (names_in tree) (symbols_in tree) top [] tree) (stands-below (names_in tree) (symbols_in tree) tree top [])

pub declarations_within : (symbols : List Bound) (bs : List Bound) → All (λ d. IfSome d.symbol (λ k. k < length symbols)) (map (declared_by symbols) bs)
declarations_within symbols [] = λ k d less. absurd (omega (arith, less))
declarations_within symbols (b ∷ bs) =
    All-cons (λ d. IsBelow (length symbols) d.symbol) (declared_by symbols b) (map (declared_by symbols) bs) (number-below (is_own b.kind) b.scope.0 b.name symbols) (declarations_within symbols bs)
