-- The parts of a function that are never run, whatever its tests come to.
use Rattle.std.specs.Prelude.{ℕ, Bool, true, false, ◌&&◌, ◌||◌, not, if◌then◌else◌, Some, None, List, [], ◌∷◌, ◌++◌, filter}
use Rattle.std.specs.List.{list_any}
use Rattle.std.specs.Str.{bytes_eq}
use Rattle.rl_model.specs.Actions.{Label, is_own}
use Rattle.rl_model.specs.Shapes.{is_absent}
use Rattle.rl_syntax.specs.Syntax.{Syntax, Node, Listed, Said, Flag, Absent, Pieces, End, Then}
use Rattle.rl_syntax.specs.declared.word.Word.TheVariants as word

-- The exits of a statement, whatever tests come to: its end, and jumps.
pub record Outs : Type 0 where
  pub falls : Bool
  pub breaks : List Label
  pub continues : List Label

abbrev pub falling : Outs
falling = record { falls = true; breaks = []; continues = [] }

abbrev pub leaving : Outs
leaving = record { falls = false; breaks = []; continues = [] }

abbrev pub either : Outs → Outs → Outs
either a b = record { falls = a.falls || b.falls; breaks = a.breaks ++ b.breaks; continues = a.continues ++ b.continues }

-- Two statements in a row; the second is dead if the first cannot fall.
abbrev pub in_row : Outs → Outs → Outs
in_row a b = if a.falls then record (either a b) { falls = b.falls } else a

abbrev pub is_unlabeled : Label → Bool
is_unlabeled None = true
is_unlabeled (Some label) = false

abbrev pub is_labeled : List ℕ → Label → Bool
is_labeled label None = false
is_labeled label (Some jump) = bytes_eq label jump

-- The body of a loop falls or continues the loop.
abbrev pub goes_on : (own : Label) → Outs → Bool
goes_on own body = body.falls || list_any (is_own own) body.continues

abbrev pub is_broken : Outs → Bool
is_broken body = list_any is_unlabeled body.breaks

-- A loop, from its body; `falls` tells whether it can fall.
abbrev pub loop_outs : (own : Label) → (falls : Bool) → Outs → Outs
loop_outs own falls body = record {
  falls = falls;
  breaks = filter (λ l. not (is_unlabeled l)) body.breaks;
  continues = filter (λ l. not (is_own own l)) body.continues;
}

abbrev pub labeled_outs : List ℕ → Outs → Outs
labeled_outs label body = record {
  falls = body.falls || list_any (is_labeled label) body.breaks;
  breaks = filter (λ l. not (is_labeled label l)) body.breaks;
  continues = filter (λ l. not (is_labeled label l)) body.continues;
}

-- A `switch`, from its cases in a row.
abbrev pub switch_outs : (has_default : Bool) → Outs → Outs
switch_outs has_default cases = record {
  falls = cases.falls || not has_default || is_broken cases;
  breaks = filter (λ l. not (is_unlabeled l)) cases.breaks;
  continues = cases.continues;
}

abbrev pub has_default : Pieces → Bool
has_default (Then (Node at word.Case (Then Absent parts)) cases) = true
has_default (Then part cases) = has_default cases
has_default End = false

-- False of a declaration of variables, by its parts, without declarators.
abbrev pub declares : Pieces → Bool
declares (Then kind (Then (Listed End) End)) = false
declares parts = true

-- True of what stands ahead of a `for` loop, as far as it may be an event.
abbrev pub init_acts : Syntax → Bool
init_acts Absent = false
init_acts (Node at word.Var parts) = declares parts
init_acts init = true

-- Of what a statement consists, as far as something in it may be an event: what makes a `catch` live.
pub record Lives : Type 0 where
  pub outs : Outs
  -- something in the live part throws to a `catch` around it
  pub acts : Bool

abbrev pub acting : Outs → Lives
acting outs = record { outs = outs; acts = true }

abbrev pub quiet : Outs → Lives
quiet outs = record { outs = outs; acts = false }

abbrev pub lives_in_row : Lives → Lives → Lives
lives_in_row a b = record { outs = in_row a.outs b.outs; acts = a.acts || (a.outs.falls && b.acts) }

-- The cases of a `switch` are all live.
abbrev pub lives_in_cases : Lives → Lives → Lives
lives_in_cases a b = record { outs = record (either a.outs b.outs) { falls = b.outs.falls }; acts = a.acts || b.acts }

abbrev pub lives_in_try : Lives → Lives → Lives
lives_in_try block handler =
    if block.acts then record { outs = either block.outs handler.outs; acts = handler.acts } else record { outs = block.outs; acts = false }

abbrev mutual
  -- The exits of a statement, and whether something in it acts.
  pub lives : (own : Label) → Syntax → Lives
  lives own Absent = quiet falling
  lives own (Node at word.Return parts) = acting leaving
  lives own (Node at word.Throw parts) = acting leaving
  lives own (Node at word.Break (Then Absent End)) = quiet (record leaving { breaks = None ∷ [] })
  lives own (Node at word.Break (Then (Said label) End)) = quiet (record leaving { breaks = Some label ∷ [] })
  lives own (Node at word.Continue (Then Absent End)) = quiet (record leaving { continues = None ∷ [] })
  lives own (Node at word.Continue (Then (Said label) End)) = quiet (record leaving { continues = Some label ∷ [] })
  lives own (Node at word.Block (Then (Listed statements) End)) = lives_all statements
  lives own (Node at word.If (Then condition (Then consequent (Then alternate End)))) =
      acting (either (lives None consequent).outs (lives None alternate).outs)
  lives own (Node at word.While (Then condition (Then body End))) = acting (loop_outs own true (lives None body).outs)
  lives own (Node at word.For (Then init (Then condition (Then update (Then body End))))) =
      record {
        outs = loop_outs own true (lives None body).outs;
        acts =
            init_acts init || not (is_absent condition) || (lives None body).acts
            || (not (is_absent update) && goes_on own (lives None body).outs);
      }
  lives own (Node at word.Forin (Then head (Then right (Then body End)))) = acting (loop_outs own true (lives None body).outs)
  lives own (Node at word.Forof (Then (Flag false) (Then head (Then right (Then body End))))) =
      acting (loop_outs own true (lives None body).outs)
  lives own (Node at word.Dowhile (Then body (Then condition End))) =
      record {
        outs = loop_outs own (goes_on own (lives None body).outs || is_broken (lives None body).outs) (lives None body).outs;
        acts = (lives None body).acts || goes_on own (lives None body).outs;
      }
  lives own (Node at word.Switch (Then discriminant (Then (Listed cases) End))) =
      acting (switch_outs (has_default cases) (lives_cases cases).outs)
  lives own (Node at word.Labeled (Then (Said label) (Then body End))) =
      record { outs = labeled_outs label (lives (Some label) body).outs; acts = (lives (Some label) body).acts }
  lives own (Node at word.Try (Then block (Then (Node there word.Catch (Then param (Then body End))) (Then finalizer End)))) =
      lives_in_try (lives None block) (lives None body)
  lives own (Node at word.Fundecl (Then marked (Then is_async (Then generator (Then name (Then params (Then Absent End))))))) =
      quiet falling
  lives own (Node at word.Fundecl parts) = acting falling
  lives own (Node at word.Expr parts) = acting falling
  lives own (Node at word.Var parts) = record { outs = falling; acts = declares parts }
  lives own (Node at word.Debugger parts) = acting falling
  lives own _ = quiet falling

  pub lives_all : Pieces → Lives
  lives_all End = quiet falling
  lives_all (Then statement statements) = lives_in_row (lives None statement) (lives_all statements)

  pub lives_cases : Pieces → Lives
  lives_cases (Then (Node at word.Case (Then condition (Then (Listed statements) End))) End) = lives_all statements
  lives_cases (Then (Node at word.Case (Then condition (Then (Listed statements) End))) cases) =
      lives_in_cases (lives_all statements) (lives_cases cases)
  lives_cases _ = quiet falling

abbrev pub parts_if : Bool → Syntax → List Syntax
parts_if dead part = if dead then part ∷ [] else []

abbrev mutual
  -- The parts of a statement that are dead, the largest ones.
  pub dead_in : (own : Label) → Syntax → List Syntax
  dead_in own (Node at word.Block (Then (Listed statements) End)) = dead_among true statements
  dead_in own (Node at word.If (Then condition (Then consequent (Then alternate End)))) = dead_in None consequent ++ dead_in None alternate
  dead_in own (Node at word.While (Then condition (Then body End))) = dead_in None body
  dead_in own (Node at word.For (Then init (Then condition (Then update (Then body End))))) =
      parts_if (not (goes_on own (lives None body).outs)) update ++ dead_in None body
  dead_in own (Node at word.Forin (Then head (Then right (Then body End)))) = dead_in None body
  dead_in own (Node at word.Forof (Then (Flag false) (Then head (Then right (Then body End))))) = dead_in None body
  dead_in own (Node at word.Dowhile (Then body (Then condition End))) =
      dead_in None body ++ parts_if (not (goes_on own (lives None body).outs)) condition
  dead_in own (Node at word.Switch (Then discriminant (Then (Listed cases) End))) = dead_in_cases cases
  dead_in own (Node at word.Labeled (Then (Said label) (Then body End))) = dead_in (Some label) body
  dead_in own (Node at word.Try (Then block (Then (Node there word.Catch (Then param (Then body End))) (Then finalizer End)))) =
      dead_in None block ++ (if (lives None block).acts then dead_in None body else Node there word.Catch (Then param (Then body End)) ∷ [])
  dead_in own _ = []

  -- Of statements in a row: those behind one that cannot fall.
  pub dead_among : (live : Bool) → Pieces → List Syntax
  dead_among live End = []
  dead_among true (Then statement statements) = dead_in None statement ++ dead_among (lives None statement).outs.falls statements
  dead_among false (Then statement statements) = statement ∷ dead_among false statements

  pub dead_in_cases : Pieces → List Syntax
  dead_in_cases (Then (Node at word.Case (Then condition (Then (Listed statements) End))) cases) =
      dead_among true statements ++ dead_in_cases cases
  dead_in_cases _ = []

-- The dead parts of a function's body.
abbrev pub dead_parts : (body : Syntax) → List Syntax
dead_parts (Node at word.Body (Then directives (Then (Listed statements) End))) = dead_among true statements
dead_parts _ = []
