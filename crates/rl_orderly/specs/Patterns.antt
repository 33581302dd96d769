-- The patterns in some code, by the words of nodes.
use Rattle.std.specs.List.{list_all}
use Rattle.std.specs.Prelude.{ℕ, Bool, true, List, [], ◌∷◌, ◌++◌}
use Rattle.rl_model.specs.Orderly.{is_orderly_pattern, patterns_among, patterns_in}
use Rattle.rl_names.specs.Names.{Names}
use Rattle.rl_orderly.specs.declared.patterns.Place.{Place}
use Rattle.rl_orderly.specs.declared.patterns.Place.TheVariants as place
use Rattle.rl_syntax.specs.Syntax.{Syntax, Pieces, End, Then}
use Rattle.rl_syntax.specs.declared.word.Word.{Word}
use Rattle.rl_syntax.specs.declared.word.Word.TheVariants as word

-- The part that a node plays for the patterns in it.
abbrev pub place_of : Word → Place
place_of word.Try = place.Tries
place_of word.Declarator = place.Declares
place_of word.Catch = place.Declares
place_of word.Arrow = place.Closed
place_of word.Funexpr = place.Closed
place_of word.Fundecl = place.Closed
place_of word.Classdecl = place.Closed
place_of word.Classexpr = place.Closed
place_of _ = place.Open

abbrev pub tried_first : (tried : Bool) → Pieces → List (Bool × Syntax)
tried_first tried End = []
tried_first tried (Then block parts) = patterns_in true block ++ patterns_among tried parts

abbrev pub declared_first : (tried : Bool) → Pieces → List (Bool × Syntax)
declared_first tried End = []
declared_first tried (Then pattern parts) = (tried, pattern) ∷ patterns_among tried parts

abbrev pub patterns_as : (tried : Bool) → Pieces → Place → List (Bool × Syntax)
patterns_as tried parts place.Tries = tried_first tried parts
patterns_as tried parts place.Declares = declared_first tried parts
patterns_as tried parts place.Closed = []
patterns_as tried parts place.Open = patterns_among tried parts

-- Patterns that store their names in the order in which they are written; each with the flag that it stands in a `try` block.
abbrev pub are_orderly : Names → (opens : ℕ → Bool) → (patterns : List (Bool × Syntax)) → Bool
are_orderly names opens patterns = list_all (λ p. is_orderly_pattern names opens p.0 p.1) patterns
