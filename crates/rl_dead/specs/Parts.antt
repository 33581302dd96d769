-- Parts of statements, by their number and form.
use Rattle.std.specs.Prelude.{ℕ, Bool, true, false, if◌then◌else◌, not, Option, Some, None, option_map, List}
use Rattle.rl_dead.specs.declared.parts.ForParts.{ForParts}
use Rattle.rl_model.specs.Actions.{Label}
use Rattle.rl_model.specs.Dead.{declares}
use Rattle.rl_syntax.specs.Forms.{is_absent}
use Rattle.rl_syntax.specs.Syntax.{Syntax, Node, Listed, Said, Flag, Absent, Pieces, End, Then, syntax}
use Rattle.rl_syntax.specs.declared.word.Word.{Word}
use Rattle.rl_syntax.specs.declared.word.Word.TheVariants as word

-- The only part, a list.
abbrev pub only_list : Pieces → Option Pieces
only_list (Then (Listed items) End) = Some items
only_list _ = None

-- The second of two parts, a list.
abbrev pub second_list : Pieces → Option Pieces
second_list (Then part parts) = only_list parts
second_list End = None

-- The two parts.
abbrev pub both : Pieces → Option (Syntax × Syntax)
both (Then part (Then another End)) = Some (part, another)
both _ = None

-- The second and the third of three parts.
abbrev pub last_two : Pieces → Option (Syntax × Syntax)
last_two (Then part parts) = both parts
last_two End = None

-- True of the flag `n`.
abbrev pub is_unset : Syntax → Bool
is_unset (Flag flag) = not flag
is_unset _ = false

-- The second of two parts.
abbrev pub second_of_two : Pieces → Option Syntax
second_of_two (Then part (Then another End)) = Some another
second_of_two _ = None

-- The third of three parts.
abbrev pub third_of_three : Pieces → Option Syntax
third_of_three (Then part parts) = second_of_two parts
third_of_three End = None

-- The body of a `for`-`of` loop that is no `for`-`await` loop.
abbrev pub body_of_each : Pieces → Option Syntax
body_of_each (Then part parts) = if is_unset part then third_of_three parts else None
body_of_each End = None

-- The label of a jump, by its tree.
abbrev pub label_of : Syntax → Option Label
label_of Absent = Some None
label_of (Said label) = Some (Some label)
label_of _ = None

-- The label of a jump.
abbrev pub jump_of : Pieces → Option Label
jump_of (Then label End) = label_of label
jump_of _ = None

-- Label and body of a labelled statement.
abbrev pub labeled_of : Pieces → Option (List ℕ × Syntax)
labeled_of (Then (Said label) (Then body End)) = Some (label, body)
labeled_of _ = None

-- Parts of a `for` loop: what is ahead, the test, the update and the body.
pub record For : Type 0 where
  pub init : Syntax
  pub condition : Syntax
  pub update : Syntax
  pub body : Syntax

abbrev pub seen_for : ForParts → For
seen_for p = record { init = syntax p.init.now; condition = syntax p.condition.now; update = syntax p.update.now; body = syntax p.body.now }

-- True of what stands ahead of a `for` loop, by the word and the parts of a node, as far as it may be an event.
abbrev pub init_acts_by : Word → Pieces → Bool
init_acts_by word.Var parts = declares parts
init_acts_by _ parts = true

abbrev pub init_acts : Syntax → Bool
init_acts Absent = false
init_acts (Node at w parts) = init_acts_by w parts
init_acts _ = true

-- The parts of a `for` loop.
abbrev pub for_parts : Pieces → Option For
for_parts (Then init (Then condition (Then update (Then body End)))) =
    Some (record { init = init; condition = condition; update = update; body = body })
for_parts _ = None

abbrev pub catch_parts : Word → Pieces → Option Syntax
catch_parts word.Catch parts = second_of_two parts
catch_parts _ parts = None

-- The body of a `catch`.
abbrev pub catch_body : Syntax → Option Syntax
catch_body (Node at w parts) = catch_parts w parts
catch_body _ = None

abbrev pub case_parts : Word → Pieces → Option Pieces
case_parts word.Case parts = second_list parts
case_parts _ parts = None

-- The statements of a case of a `switch`.
abbrev pub case_statements : Syntax → Option Pieces
case_statements (Node at w parts) = case_parts w parts
case_statements _ = None

abbrev pub is_first_absent : Pieces → Bool
is_first_absent (Then part parts) = is_absent part
is_first_absent End = false

abbrev pub is_default_by : Word → Pieces → Bool
is_default_by word.Case parts = is_first_absent parts
is_default_by _ parts = false

-- True of a case of a `switch` without a test.
abbrev pub is_default : Syntax → Bool
is_default (Node at w parts) = is_default_by w parts
is_default _ = false

-- Block, handler, and the handler's body of a `try` statement.
abbrev pub try_parts : Pieces → Option (Syntax × (Syntax × Syntax))
try_parts (Then block (Then handler (Then finalizer End))) = option_map (λ body. (block, (handler, body))) (catch_body handler)
try_parts _ = None
