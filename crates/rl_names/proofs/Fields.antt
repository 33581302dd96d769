-- The parts of a node fit the fields of its rule, one by one.
use Rattle.std.proofs.Common.{◌≡◌, true, false, Some, None, List, ◌∷◌, refl}
use Rattle.std.proofs.lemmas.Bool.{and_parts}
use Rattle.rl_grammar.specs.Grammar.{fits, each}
use Rattle.rl_grammar.specs.declared.kind.Field.{Field}
use Rattle.rl_syntax.specs.Syntax.{Syntax, Pieces, End, Then}

pub each_head : (x : Field) (fields : List Field) (p : Syntax) (ps : Pieces) → each (Some (x ∷ fields)) (Then p ps) ≡ true → fits x p ≡ true
each_head x fields p ps h = (and_parts (fits x p) (each (Some fields) ps) h).0

pub each_tail : (x : Field) (fields : List Field) (p : Syntax) (ps : Pieces) → each (Some (x ∷ fields)) (Then p ps) ≡ true → each (Some fields) ps ≡ true
each_tail x fields p ps h = (and_parts (fits x p) (each (Some fields) ps) h).1

pub none_fits : (ps : Pieces) → each None ps ≡ false
none_fits End = refl
none_fits (Then p ps) = refl
