-- The summary of all that stands above a node, labels aside, and the summary of rl_model that it stands for.
use Rattle.std.specs.Prelude.{ℕ, Bool, true, false, not, List}
use Rattle.rl_model.specs.Applied as model
use Rattle.rl_row_forms.specs.declared.above.Above.{Above}
use Rattle.rl_row_forms.specs.declared.above.Use.{Use}
use Rattle.rl_row_forms.specs.declared.above.Use.TheVariants as uses

abbrev pub use_of : Use → model.Use
use_of uses.Reads = model.Reads
use_of uses.Equals = model.Equals
use_of uses.Compounds = model.Compounds
use_of uses.Updates = model.Updates
use_of uses.Takes = model.Takes
use_of uses.Heads = model.Heads
use_of uses.TakesHead = model.TakesHead

-- A summary, with the labels around the node.
abbrev pub seen : Above → (labels : List (List ℕ × Bool)) → model.Above
seen a ls = record {
  used = use_of a.used;
  tried = a.tried;
  key = a.key;
  moved = a.moved;
  rest = a.rest;
  head = a.head;
  tag = a.tag;
  breaks = a.breaks;
  continues = a.continues;
  labels = ls;
}

abbrev pub top : Above
top = record {
  used = uses.Reads;
  tried = false;
  key = false;
  moved = false;
  rest = false;
  head = false;
  tag = false;
  breaks = false;
  continues = false;
}

abbrev pub part : Above → Above
part a = record a { used = uses.Reads; key = false; moved = false; rest = false; head = false; tag = false }

abbrev pub using : Use → Above → Above
using how a = record (part a) { used = how }

abbrev pub inside_target : Use → Use
inside_target uses.Heads = uses.TakesHead
inside_target uses.TakesHead = uses.TakesHead
inside_target _ = uses.Takes

abbrev pub taken : Above → Above
taken a = record (part a) { used = inside_target a.used }

abbrev pub moving : Above → Above
moving a = record (part a) { moved = true }

abbrev pub looping : Above → Above
looping a = record (part a) { breaks = true; continues = true }

-- The key of a property.
abbrev pub keyed : (computed : Bool) → Above → Above
keyed computed a = record (part a) { key = not computed }

abbrev pub resting : Above → Above
resting a = record a { rest = true }

abbrev pub tagging : Above → Above
tagging a = record (part a) { tag = true }

-- The object of the name of an element: a name is read there, and `this` is no expression.
abbrev pub membering : (this : Bool) → Above → Above
membering this a = record (part a) { tag = this }

abbrev pub trying : Above → Above
trying a = record (part a) { tried = true }

abbrev pub heading : Above → Above
heading a = record (using uses.Heads a) { head = true }

abbrev pub breaking : Above → Above
breaking a = record (part a) { breaks = true }
