-- The nodes of a function whose instructions are counted and that a run may reach.
use Rattle.std.specs.Prelude.{◌≡◌, ℕ, true, false, if◌then◌else◌, Option, Some, None, List, [], ◌∷◌, ◌++◌, Contains}
use Rattle.rl_base.specs.declared.span.Span.{Span}
use Rattle.rl_model.specs.Actions.{Label}
use Rattle.rl_model.specs.Counted.{Counted}
use Rattle.rl_model.specs.Dead.{goes_on, lives}
use Rattle.rl_names.specs.Names.{Names}
pub use Rattle.rl_promises.specs.Tallies.{Held}
use Rattle.rl_promises.specs.Tallies.{held_span, held_word, is_among, stores_at}
use Rattle.rl_syntax.specs.Syntax.{Syntax, Node, Listed, Said, Count, Flag, Absent, Pieces, End, Then}
use Rattle.rl_syntax.specs.declared.numbered.At.{At}
use Rattle.rl_syntax.specs.declared.word.Word.{Word}
use Rattle.rl_syntax.specs.declared.word.Word.TheVariants as word

-- The node that is counted, as a list; [] where no instruction of it is.
abbrev pub held_as : (word : Option (List ℕ)) → Span → List Held
held_as None span = []
held_as (Some text) span = record { word = text; span = span } ∷ []

-- The node itself, without its parts, where its instruction is counted; of a target, its items that are names.
abbrev pub held_at : Names → Word → Pieces → At → List Held
held_at names w parts at = held_as (held_word w parts) (held_span w parts at.span) ++ stores_at names w parts

abbrev mutual
  -- The nodes of a tree whose instructions are counted, each before those in its parts.
  pub held_in : Names → Syntax → List Held
  held_in names (Node at w parts) = held_at names w parts at ++ held_among names parts
  held_in names (Listed parts) = held_among names parts
  held_in names (Said text) = []
  held_in names (Count number) = []
  held_in names (Flag flag) = []
  held_in names Absent = []

  -- As `held_in`, for parts in a row.
  pub held_among : Names → Pieces → List Held
  held_among names End = []
  held_among names (Then part parts) = held_in names part ++ held_among names parts

abbrev mutual
  -- As `held_in`, for a statement that is reached, with the label right in front of it, without the nodes of its dead parts.
  pub live_in : Names → (own : Label) → Syntax → List Held
  live_in names own (Node at word.Block (Then (Listed statements) End)) = live_all names statements
  live_in names own (Node at word.If (Then condition (Then consequent (Then alternate End)))) =
      held_in names condition ++ live_in names None consequent ++ live_in names None alternate
  live_in names own (Node at word.While (Then condition (Then body End))) = held_in names condition ++ live_in names None body
  live_in names own (Node at word.Dowhile (Then body (Then condition End))) =
      live_in names None body ++ (if goes_on own (lives None body).outs then held_in names condition else [])
  live_in names own (Node at word.For (Then init (Then condition (Then update (Then body End))))) =
      held_in names init ++ held_in names condition ++ (if goes_on own (lives None body).outs then held_in names update else [])
      ++ live_in names None body
  live_in names own (Node at word.Forin (Then head (Then right (Then body End)))) =
      held_in names head ++ held_in names right ++ live_in names None body
  live_in names own (Node at word.Forof (Then (Flag false) (Then head (Then right (Then body End))))) =
      held_in names head ++ held_in names right ++ live_in names None body
  live_in names own (Node at word.Switch (Then discriminant (Then (Listed cases) End))) =
      held_in names discriminant ++ live_cases names cases
  live_in names own (Node at word.Try (Then block (Then (Node there word.Catch (Then param (Then body End))) (Then finalizer End)))) =
      live_in names None block ++ (if (lives None block).acts then held_in names param ++ live_in names None body else [])
      ++ held_in names finalizer
  live_in names own (Node at word.Labeled (Then (Said label) (Then body End))) = live_in names (Some label) body
  live_in names own statement = held_in names statement

  -- As `live_in`, for statements in a row: those behind one that cannot complete normally are dead.
  pub live_all : Names → Pieces → List Held
  live_all names End = []
  live_all names (Then statement statements) =
      live_in names None statement ++ (if (lives None statement).outs.falls then live_all names statements else [])

  -- As `live_in`, for the cases of a `switch`, which are all reached.
  pub live_cases : Names → Pieces → List Held
  live_cases names (Then (Node at word.Case (Then condition (Then (Listed statements) End))) cases) =
      held_in names condition ++ live_all names statements ++ live_cases names cases
  live_cases names cases = held_among names cases

-- As `live_in`, for a body.
abbrev pub live_in_body : Names → Syntax → List Held
live_in_body names (Node at word.Body (Then directives (Then (Listed statements) End))) = live_all names statements
live_in_body names expression = held_in names expression

-- A node of the list has the span of the counted node, and a word of its kinds.
pub record LivesOn (nodes : List Held) (key : Counted) : Type 0 where
  pub held : Held
  pub there : Contains nodes held
  pub span : held.span ≡ key.span
  pub word : is_among key.kinds (Some held.word) ≡ true
