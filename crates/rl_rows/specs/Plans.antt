-- The summaries for the parts of a node, and the rows in them.
use Rattle.std.specs.Prelude.{ℕ, Bool, true, false, ◌&&◌, if◌then◌else◌, Option, Some, None, List, codes}
use Rattle.std.specs.Str.{bytes_eq}
use Rattle.rl_code.specs.Parts.{both, first, only, second, third_of_three, three}
use Rattle.rl_model.specs.Applied.{Facts, is_this, rows_in}
use Rattle.rl_model.specs.Supported.{is_none}
use Rattle.rl_row_forms.specs.Aboves.{breaking, heading, keyed, looping, membering, moving, part, resting, seen, tagging, taken, trying, using}
use Rattle.rl_row_forms.specs.Shaped.{flag_of_three, said_of_three}
use Rattle.rl_row_forms.specs.declared.above.Above.{Above}
use Rattle.rl_row_forms.specs.declared.above.Use.{Use}
use Rattle.rl_row_forms.specs.declared.above.Use.TheVariants as uses
use Rattle.rl_rows.specs.declared.plan.Plan.{Plan}
use Rattle.rl_semantic.specs.Items.{of_item}
use Rattle.rl_syntax.specs.Syntax.{Syntax, Pieces, End, Then}
use Rattle.rl_syntax.specs.declared.word.Word.{Word}
use Rattle.rl_syntax.specs.declared.word.Word.TheVariants as word

abbrev pub plan_of : (first second third others : Option Above) → Plan
plan_of x y z o = record { first = x; second = y; third = z; others = o }

-- A single summary for all parts.
abbrev pub even : Above → Plan
even a = plan_of (Some a) (Some a) (Some a) (Some a)

-- A summary for the first part alone.
abbrev pub alone : Above → Plan
alone a = plan_of (Some a) None None None

-- The plan of the parts behind the first.
abbrev pub next : Plan → Plan
next p = plan_of p.second p.third p.others p.others

abbrev pub pair_plan : (first second otherwise : Above) → Pieces → Plan
pair_plan x y o parts = of_item (even o) (λ p. plan_of (Some x) (Some y) None None) (both parts)

abbrev pub assigned_use : (operator : List ℕ) → Use
assigned_use operator = if bytes_eq operator (codes "=") then uses.Equals else uses.Compounds

abbrev pub operator_plan : Above → (operator : List ℕ) → Plan
operator_plan a operator = plan_of None (Some (using (assigned_use operator) a)) (Some (part a)) None

abbrev pub assign_plan : Above → Pieces → Plan
assign_plan a parts = of_item (even (part a)) (operator_plan a) (said_of_three parts)

abbrev pub update_plan : Above → Pieces → Plan
update_plan a parts = of_item (even (part a)) (λ target. plan_of None None (Some (using uses.Updates a)) None) (third_of_three parts)

-- The plan of a property: of its key, and of its value.
abbrev pub property_plan : (value : Above) → Above → Pieces → Plan
property_plan value a parts =
    of_item (even (part a)) (λ computed. plan_of None (Some (keyed computed a)) (Some value) None) (flag_of_three parts)

abbrev pub rest_plan : Above → Pieces → Plan
rest_plan a parts = of_item (even (part a)) (λ target. alone a) (only parts)

abbrev pub try_plan : Above → Pieces → Plan
try_plan a parts = of_item (even (part a)) (λ p. plan_of (Some (trying a)) (Some (part a)) (Some (part a)) None) (three parts)

-- The plan of the name of an element that is a property: of its object alone.
abbrev pub member_plan : Above → Pieces → Plan
member_plan a parts = of_item (alone (part a)) (λ object. alone (membering (is_this object) a)) (first parts)

abbrev pub forin_plan : Above → Plan
forin_plan a = plan_of (Some (heading a)) (Some (looping a)) (Some (looping a)) (Some (looping a))

abbrev pub forof_plan : Above → Pieces → Plan
forof_plan a parts =
    of_item (even (part a)) (λ head. plan_of None (Some (heading a)) (Some (looping a)) (Some (looping a))) (second parts)

-- The plan of a node of patterns and targets.
abbrev pub target_plan : Above → Word → Pieces → Plan
target_plan a word.Assign parts = assign_plan a parts
target_plan a word.Update parts = update_plan a parts
target_plan a word.Arraytarget parts = pair_plan (taken a) (taken a) (part a) parts
target_plan a word.Objecttarget parts = pair_plan (taken a) (resting (taken a)) (part a) parts
target_plan a word.Objectpat parts = pair_plan (part a) (resting (part a)) (part a) parts
target_plan a word.Default parts = pair_plan (taken a) (moving a) (part a) parts
target_plan a word.Short parts = pair_plan (taken a) (moving a) (part a) parts
target_plan a word.Rest parts = rest_plan a parts
target_plan a word.Keyed parts = property_plan (taken a) a parts
target_plan a word.Keyedpat parts = property_plan (part a) a parts
target_plan a word.Defaultpat parts = pair_plan (part a) (moving a) (part a) parts
target_plan a word.Param parts = pair_plan (part a) (moving a) (part a) parts
target_plan a _ parts = even (part a)

-- The plan of any other node.
abbrev pub other_plan : Above → Word → Pieces → Plan
other_plan a word.Prop parts = property_plan (part a) a parts
other_plan a word.Method parts = property_plan (part a) a parts
other_plan a word.Get parts = property_plan (part a) a parts
other_plan a word.Set parts = property_plan (part a) a parts
other_plan a word.Case parts = pair_plan (moving a) (part a) (part a) parts
other_plan a word.Opening parts = pair_plan (tagging a) (part a) (part a) parts
other_plan a word.Tagmember parts = member_plan a parts
other_plan a word.Try parts = try_plan a parts
other_plan a word.While parts = even (looping a)
other_plan a word.Dowhile parts = even (looping a)
other_plan a word.For parts = even (looping a)
other_plan a word.Forin parts = forin_plan a
other_plan a word.Forof parts = forof_plan a parts
other_plan a word.Switch parts = pair_plan (part a) (breaking a) (part a) parts
other_plan a word.Instantiate parts = alone (part a)
other_plan a _ parts = even (part a)

-- True of the words of patterns and targets.
abbrev pub is_target : Word → Bool
is_target word.Assign = true
is_target word.Update = true
is_target word.Arraytarget = true
is_target word.Objecttarget = true
is_target word.Objectpat = true
is_target word.Default = true
is_target word.Short = true
is_target word.Rest = true
is_target word.Keyed = true
is_target word.Keyedpat = true
is_target word.Defaultpat = true
is_target word.Param = true
is_target _ = false

-- The plan of a node that is no function and no statement with a label.
abbrev pub parts_plan : Above → Word → Pieces → Plan
parts_plan a w parts = if is_target w then target_plan a w parts else other_plan a w parts

-- True if no row applies in a part with the summary; none is looked for without one.
abbrev pub clear_at : Facts → (labels : List (List ℕ × Bool)) → Option Above → Syntax → Bool
clear_at f labels None tree = true
clear_at f labels (Some a) tree = is_none (rows_in f (seen a labels) tree)

-- True if no row applies in parts, by their plan.
abbrev pub clear_from : Facts → (labels : List (List ℕ × Bool)) → Plan → Pieces → Bool
clear_from f labels p End = true
clear_from f labels p (Then piece pieces) = clear_at f labels p.first piece && clear_from f labels (next p) pieces
