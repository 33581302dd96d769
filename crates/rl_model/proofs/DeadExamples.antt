-- The exits of `switch` statements, and `catch` clauses that nothing reaches.
-- All cases of a `switch` are live; it falls without a default, by a break, or where its last case falls.
use Rattle.std.proofs.Common.{◌≡◌, Bool, true, false, None, List, [], ◌∷◌, codes, refl}
use Rattle.rl_model.proofs.ExampleTrees.{id, listed, name, text, tree}
use Rattle.rl_model.specs.Dead.{dead_among, dead_in, lives}
use Rattle.rl_syntax.specs.Syntax.{Syntax, Absent, pieces_of}
use Rattle.rl_syntax.specs.declared.word.Word.TheVariants as word

abbrev returns : Syntax
returns = tree word.Return (Absent ∷ [])

abbrev breaks : Syntax
breaks = tree word.Break (Absent ∷ [])

-- A case; the default has no condition.
abbrev case : (condition : Syntax) → List Syntax → Syntax
case condition statements = tree word.Case (condition ∷ listed statements ∷ [])

abbrev falls : (cases : List Syntax) → Bool
falls cases = (lives None (tree word.Switch (id (codes "x") ∷ listed cases ∷ []))).outs.falls

without_cases : falls [] ≡ true
without_cases = refl

without_default : falls (case (id (codes "a")) (returns ∷ []) ∷ []) ≡ true
without_default = refl

all_return : falls (case (id (codes "a")) (returns ∷ []) ∷ case Absent (returns ∷ []) ∷ []) ≡ false
all_return = refl

-- The default falls into the last case, which returns.
last_returns : falls (case Absent [] ∷ case (id (codes "a")) (returns ∷ []) ∷ []) ≡ false
last_returns = refl

last_falls : falls (case Absent (returns ∷ []) ∷ case (id (codes "a")) [] ∷ []) ≡ true
last_falls = refl

broken : falls (case Absent (breaks ∷ []) ∷ []) ≡ true
broken = refl

-- Behind a `switch` that does not fall, a statement is dead.
behind : dead_among true
    (pieces_of (tree word.Switch (id (codes "x") ∷ listed (case Absent (returns ∷ []) ∷ []) ∷ []) ∷ breaks ∷ [])) ≡ breaks ∷ []
behind = refl

-- A declaration of variables.
abbrev declared : (declarators : List Syntax) → Syntax
declared declarators = tree word.Var (text (codes "let") ∷ listed declarators ∷ [])

abbrev handler : Syntax
handler = tree word.Catch (Absent ∷ tree word.Block (listed [] ∷ []) ∷ [])

-- The dead parts of a `try` statement that has one statement in its block.
abbrev dead_of : (statement : Syntax) → List Syntax
dead_of statement = dead_in None (tree word.Try (tree word.Block (listed (statement ∷ []) ∷ []) ∷ handler ∷ Absent ∷ []))

-- Without declarators, a declaration does not act: nothing reaches the handler.
undeclared : dead_of (declared []) ≡ handler ∷ []
undeclared = refl

declaring : dead_of (declared (tree word.Declarator (name (codes "x") ∷ Absent ∷ []) ∷ [])) ≡ []
declaring = refl

-- Ahead of a `for` loop, it does not act either.
undeclared_ahead : dead_of (tree word.For (declared [] ∷ Absent ∷ Absent ∷ tree word.Block (listed [] ∷ []) ∷ [])) ≡ handler ∷ []
undeclared_ahead = refl
