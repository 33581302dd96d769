-- The rows of refusals (F) and stops (S) of docs/NOTATION, and skips (K): where each applies, by a node and what stands above it.
use Rattle.std.specs.Prelude.{ℕ, nat_eq, Bool, true, false, ◌&&◌, ◌||◌, not, if◌then◌else◌, Option, Some, None, is_some, List, []}
use Rattle.std.specs.Prelude.{◌∷◌, ◌++◌, codes}
use Rattle.std.specs.List.{list_any}
use Rattle.std.specs.Str.{bytes_eq}
use Rattle.rl_base.specs.Reserved.{is_reserved}
use Rattle.rl_text.specs.Numeral.{is_numeral}
use Rattle.rl_names.specs.Names.{Names}
use Rattle.rl_names.specs.declared.names.Meaning.{Meaning}
use Rattle.rl_names.specs.declared.names.Meaning.TheVariants.{Local, Outer}
use Rattle.rl_model.specs.Code.{is_function, is_no_code}
use Rattle.rl_model.specs.JsxText.{is_fbt}
use Rattle.rl_model.specs.Shapes.{are_raw, is_absent, is_link, is_logical}
use Rattle.rl_syntax.specs.Syntax.{Syntax, Node, Listed, Said, Flag, Absent, Pieces, End, Then}
use Rattle.rl_syntax.specs.declared.numbered.At.{At}
use Rattle.rl_syntax.specs.declared.word.Word.{Word}
use Rattle.rl_syntax.specs.declared.word.Word.TheVariants as word

-- A row by its number. Skips: 1 is an `enum`, 2 a `using` and 3 an `await using` declaration, for which a unit is passed over.
pub data Which : Type 0 where
  F : (number : ℕ) → Which
  S : (number : ℕ) → Which
  K : (number : ℕ) → Which

-- Properties of names that rows ask for, beside their meaning.
pub record Facts : Type 0 where
  pub names : Names
  -- a local of kind Const
  pub is_const : (symbol : ℕ) → Bool
  -- a local that is a context identifier where the node stands
  pub is_context : (node symbol : ℕ) → Bool
  -- a name that resolves to no symbol, or to an alias, an enum or a namespace
  pub is_global : (reference : ℕ) → Bool
  -- a declaration of a variable: a name in a pattern, or that of a function declaration
  pub is_variable : (bind : ℕ) → Bool
  -- a declaration of a constant whose variable is a context identifier, and that no marker hoists
  pub is_lost : (bind : ℕ) → Bool
  -- a name that a scope of the marked function binds
  pub is_bound : (name : List ℕ) → Bool
  -- a name of a variable that is not below the program's scope
  pub is_module : (reference : ℕ) → Bool
  -- an inner function in a dead part of its function
  pub is_dead : (node : ℕ) → Bool

-- The use of a node: it is read, or a target of some kind.
pub data Use : Type 0 where
  Reads : Use
  Equals : Use
  Compounds : Use
  Updates : Use
  Takes : Use
  Heads : Use
  -- inside a pattern in the head of a loop
  TakesHead : Use

-- The summary of all that stands above a node.
pub record Above : Type 0 where
  pub used : Use
  -- in the block of a `try` of the function
  pub tried : Bool
  -- a key without brackets
  pub key : Bool
  -- a default, or the test of a case
  pub moved : Bool
  -- the rest of an object
  pub rest : Bool
  -- the head of a `for`-`in` or `for`-`of` loop
  pub head : Bool
  -- the name of an element
  pub tag : Bool
  -- inside a loop or a `switch`, inside a loop
  pub breaks : Bool
  pub continues : Bool
  -- the labels around, each with whether it is right in front of a loop
  pub labels : List (List ℕ × Bool)

abbrev pub top : Above
top = record {
  used = Reads;
  tried = false;
  key = false;
  moved = false;
  rest = false;
  head = false;
  tag = false;
  breaks = false;
  continues = false;
  labels = [];
}

-- A part of which nothing is said but what holds of all parts of its statement.
abbrev pub part : Above → Above
part a = record a { used = Reads; key = false; moved = false; rest = false; head = false; tag = false }

abbrev pub using : Use → Above → Above
using how a = record (part a) { used = how }

-- Inside a target pattern, or what a head of a loop takes.
abbrev pub inside_target : Use → Use
inside_target Heads = TakesHead
inside_target TakesHead = TakesHead
inside_target _ = Takes

abbrev pub taken : Above → Above
taken a = record (part a) { used = inside_target a.used }

abbrev pub moving : Above → Above
moving a = record (part a) { moved = true }

abbrev pub looping : Above → Above
looping a = record (part a) { breaks = true; continues = true }

abbrev pub is_loop : Syntax → Bool
is_loop (Node at word.For parts) = true
is_loop (Node at word.While parts) = true
is_loop (Node at word.Dowhile parts) = true
is_loop (Node at word.Forin parts) = true
is_loop (Node at word.Forof parts) = true
is_loop _ = false

-- The innermost label of a name that stands around: true if it is a loop's. None where no such label does.
abbrev pub label_found : List (List ℕ × Bool) → List ℕ → Option Bool
label_found [] label = None
label_found (l ∷ ls) label = if bytes_eq l.0 label then Some l.1 else label_found ls label

abbrev pub when : Bool → Which → List Which
when b row = if b then row ∷ [] else []

abbrev pub is_true : Option Bool → Bool
is_true (Some b) = b
is_true None = false

-- S1 and F40 of a local variable.
abbrev pub of_local : List ℕ → List Which
of_local name = when (is_reserved name) (S 1) ++ when (bytes_eq name (codes "fbt")) (F 40)

abbrev pub is_read : Use → Bool
is_read Reads = true
is_read Compounds = true
is_read Updates = true
is_read _ = false

abbrev pub is_assigned : Use → Bool
is_assigned Reads = false
is_assigned _ = true

-- S1 and F40 of a name that is used.
abbrev pub of_used : (name : List ℕ) → Meaning → List Which
of_used name (Local symbol) = of_local name
of_used name (Outer b) = []

-- The rows of a name that is used.
abbrev pub of_name : Facts → Above → (reference : ℕ) → (name : List ℕ) → Meaning → List Which
of_name f a reference name (Local symbol) = of_local name ++ when (is_assigned a.used && f.is_const symbol.0) (F 6)
of_name f a reference name (Outer b) = when (bytes_eq name (codes "eval") && f.is_global reference && is_read a.used && not a.tag) (F 2)

-- The rows of the update of a name: F19 goes first.
abbrev pub of_update : Facts → (node reference : ℕ) → Meaning → List Which
of_update f node reference (Local symbol) = when (f.is_context node symbol.0) (F 19)
of_update f node reference (Outer b) = if f.is_global reference then F 20 ∷ [] else F 21 ∷ []

-- The rows of a wrapper, as `as`, by its use as a target (rows F22, F45 and S3).
abbrev pub of_wrapped : Use → List Which
of_wrapped Reads = []
of_wrapped Updates = F 22 ∷ []
of_wrapped Heads = F 45 ∷ []
of_wrapped TakesHead = F 45 ∷ []
of_wrapped _ = S 3 ∷ []

abbrev pub of_private : Use → List Which
of_private Equals = []
of_private Takes = F 11 ∷ []
of_private Heads = F 11 ∷ []
of_private TakesHead = F 11 ∷ []
of_private _ = F 3 ∷ []

-- A key without brackets is a name, a text or a number (row F9).
abbrev pub is_known_key : Word → Bool
is_known_key word.Name = true
is_known_key word.Str = true
is_known_key word.Num = true
is_known_key _ = false

abbrev pub deletes : Syntax → Bool
deletes (Node at word.Paren (Then expression End)) = deletes expression
deletes expression = is_link expression

abbrev pub is_plain_name : Syntax → Bool
is_plain_name (Node at word.Bind parts) = true
is_plain_name (Node at word.Id parts) = true
is_plain_name _ = false

abbrev pub has_colon : List ℕ → Bool
has_colon text = list_any (nat_eq 58) text

abbrev pub is_var : Syntax → Bool
is_var (Node at word.Var parts) = true
is_var _ = false

abbrev pub is_this : Syntax → Bool
is_this (Node at word.This parts) = true
is_this _ = false

-- The tag of an `fbt` or `fbs` element whose name the marked function binds (row S5).
abbrev pub is_bound_tag : Facts → (tag : Syntax) → Bool
is_bound_tag f (Node at word.Tag (Then (Said name) End)) = is_fbt name && f.is_bound name
is_bound_tag f (Node at word.Id (Then (Said name) End)) = is_fbt name && f.is_bound name
is_bound_tag f _ = false

abbrev mutual
  -- True of a parameter list with a name `this` (row S2), in patterns too.
  pub has_this : Syntax → Bool
  has_this (Node at word.Bind (Then (Said name) parts)) = bytes_eq name (codes "this")
  has_this (Node at word.Param (Then pattern parts)) = has_this pattern
  has_this (Node at word.Arraypat parts) = has_this_among parts
  has_this (Node at word.Objectpat parts) = has_this_among parts
  has_this (Node at word.Keyedpat (Then computed (Then key (Then pattern End)))) = has_this pattern
  has_this (Node at word.Defaultpat (Then pattern parts)) = has_this pattern
  has_this (Node at word.Rest (Then pattern End)) = has_this pattern
  has_this (Listed parts) = has_this_among parts
  has_this _ = false

  pub has_this_among : Pieces → Bool
  has_this_among End = false
  has_this_among (Then part parts) = has_this part || has_this_among parts

-- The rows of a node by itself.
abbrev pub of_node : Facts → Above → Syntax → List Which
of_node f a (Node at word.Id (Then (Said name) End)) = of_name f a at.reference.0 name (f.names.meaning at.reference.0 name)
of_node f a (Node at word.Opening (Then tag parts)) = when (is_bound_tag f tag) (S 5)
of_node f a (Node at word.Params parts) = when (has_this_among parts) (S 2)
of_node f a (Node at word.Bind (Then (Said name) parts)) =
    (if f.is_variable at.id.0 then of_local name else []) ++ when (f.is_lost at.id.0) (F 7)
of_node f a (Node at word.Privatemember parts) = of_private a.used
of_node f a (Node at word.Importcall parts) = F 4 ∷ []
of_node f a (Node at word.Privatein parts) = F 5 ∷ []
of_node f a (Node at word.Assign (Then (Said operator) (Then (Node there word.Privatemember parts) (Then right End)))) =
    when (bytes_eq operator (codes "=")) (F 5) ++ when (is_logical operator) (F 23)
of_node f a (Node at word.Assign (Then (Said operator) (Then (Node there word.Arraytarget parts) (Then right End)))) =
    if is_logical operator then F 23 ∷ [] else when (not (bytes_eq operator (codes "="))) (F 24)
of_node f a (Node at word.Assign (Then (Said operator) (Then (Node there word.Objecttarget parts) (Then right End)))) =
    if is_logical operator then F 23 ∷ [] else when (not (bytes_eq operator (codes "="))) (F 24)
of_node f a (Node at word.Assign (Then (Said operator) parts)) = when (is_logical operator) (F 23)
of_node f a (Node at word.Keyedpat (Then (Flag computed) parts)) = when computed (F 8)
of_node f a (Node at word.Keyed (Then (Flag computed) parts)) = when computed (F 8)
of_node f a (Node at word.Rest (Then target End)) = when (a.rest && not (is_plain_name target)) (F 10)
of_node f a (Node at word.Unary (Then (Said operator) (Then argument End))) =
    when (bytes_eq operator (codes "delete") && not (deletes argument)) (F 12)
of_node f a (Node at word.Tagged (Then tag (Then (Node there word.Template (Then (Listed quasis) parts)) End))) =
    when (not (are_raw quasis)) (F 13)
of_node f a (Node at word.Yield parts) = F 14 ∷ []
of_node f a (Node at word.Newtarget parts) = F 15 ∷ []
of_node f a (Node at word.Classexpr parts) = F 16 ∷ []
of_node f a (Node at word.Super parts) = F 17 ∷ []
of_node f a (Node at word.This parts) = when (not a.tag) (F 18)
of_node f a (Node at word.Update (Then operator (Then prefix (Then (Node there word.Id (Then (Said name) End)) End)))) =
    of_update f there.id.0 there.reference.0 (f.names.meaning there.reference.0 name)
of_node f a (Node at word.As parts) = of_wrapped a.used
of_node f a (Node at word.Satisfies parts) = of_wrapped a.used
of_node f a (Node at word.Assert parts) = of_wrapped a.used
of_node f a (Node at word.Nonnull parts) = of_wrapped a.used
of_node f a (Node at word.Attrname (Then (Said name) End)) = when (has_colon name) (F 25)
of_node f a (Node at word.Tagns (Then (Said namespace) (Then (Said name) End))) = when (has_colon namespace || has_colon name) (F 27)
of_node f a (Node at word.Get parts) = F 28 ∷ []
of_node f a (Node at word.Set parts) = F 28 ∷ []
of_node f a (Node at word.Throw parts) = when a.tried (F 30)
of_node f a (Node at word.For (Then init (Then condition parts))) =
    when (not (is_absent init) && not (is_var init)) (F 31) ++ when (is_absent condition) (F 32)
of_node f a (Node at word.Forof (Then (Flag is_await) parts)) = when is_await (F 33)
of_node f a (Node at word.Try (Then block (Then Absent parts))) = F 34 ∷ []
of_node f a (Node at word.Try (Then block (Then handler (Then finalizer End)))) = when (not (is_absent finalizer)) (F 35)
of_node f a (Node at word.With parts) = F 36 ∷ []
of_node f a (Node at word.Classdecl (Then name parts)) = F 37 ∷ when (not (is_absent name)) (F 1)
of_node f a (Node at word.Import parts) = F 38 ∷ []
of_node f a (Node at word.Export parts) = F 38 ∷ []
of_node f a (Node at word.Exportdefault parts) = F 38 ∷ []
of_node f a (Node at word.Exportlist parts) = F 38 ∷ []
of_node f a (Node at word.Exportfrom parts) = F 38 ∷ []
of_node f a (Node at word.Var (Then (Said kind) parts)) =
    when (bytes_eq kind (codes "var") && not a.head) (F 39) ++ when (bytes_eq kind (codes "using")) (K 2)
    ++ when (bytes_eq kind (codes "await using")) (K 3)
of_node f a (Node at word.Enum parts) = K 1 ∷ []
of_node f a (Node at word.Bigint parts) = F 42 ∷ []
of_node f a (Node at word.Num (Then (Said text) End)) = when (not (is_numeral text)) (F 43)
of_node f a (Node at word.Spreadchild parts) = F 46 ∷ []
of_node f a (Node at word.Catch (Then param parts)) = when (not (is_absent param) && not (is_plain_name param)) (S 4)
of_node f a (Node at word.Break (Then Absent End)) = when (not a.breaks) (S 6)
of_node f a (Node at word.Break (Then (Said label) End)) = when (not (is_some (label_found a.labels label))) (S 6)
of_node f a (Node at word.Continue (Then Absent End)) = when (not a.continues) (S 7)
of_node f a (Node at word.Continue (Then (Said label) End)) = when (not (is_true (label_found a.labels label))) (S 7)
of_node f a _ = []

-- F9 of a key, and F41 of an inner function in a dead part; a function declaration without a body is none.
abbrev pub of_place : Facts → Above → At → Word → Pieces → List Which
of_place f a at w parts =
    when (a.key && not (is_known_key w)) (F 9) ++ when (is_function w && not (is_no_code w parts) && f.is_dead at.id.0) (F 41)

-- The rows of a node in a function declaration without a body: of its names (rows S1 and F40), and of parameters.
abbrev pub of_bodiless : Facts → Syntax → List Which
of_bodiless f (Node at word.Bind (Then (Said name) parts)) = of_local name
of_bodiless f (Node at word.Id (Then (Said name) End)) = of_used name (f.names.meaning at.reference.0 name)
of_bodiless f (Node at word.Params parts) = when (has_this_among parts) (S 2)
of_bodiless f _ = []

abbrev pub is_class : Word → Bool
is_class word.Classdecl = true
is_class word.Classexpr = true
is_class _ = false

abbrev pub is_fundecl : Word → Bool
is_fundecl word.Fundecl = true
is_fundecl _ = false

abbrev mutual
  pub rows_bodiless : Facts → Syntax → List Which
  rows_bodiless f (Node at w parts) = if is_class w then [] else of_bodiless f (Node at w parts) ++ rows_bodiless_among f parts
  rows_bodiless f (Listed parts) = rows_bodiless_among f parts
  rows_bodiless f _ = []

  pub rows_bodiless_among : Facts → Pieces → List Which
  rows_bodiless_among f End = []
  rows_bodiless_among f (Then piece pieces) = rows_bodiless f piece ++ rows_bodiless_among f pieces

-- The rows in what is no code: a function declaration without a body has some, a type and a class have none.
abbrev pub rows_of_no_code : Facts → Word → Pieces → List Which
rows_of_no_code f w parts = if is_fundecl w then rows_bodiless_among f parts else []

abbrev mutual
  -- The rows that apply in a part of a lowered function, its inner functions among it. F26, F29 and F44, and S3 in what is no code, are
  -- told apart.
  pub rows_in : Facts → Above → Syntax → List Which
  rows_in f a (Node at w parts) =
      of_node f a (Node at w parts) ++ of_place f a at w parts
      ++ (if is_no_code w parts then rows_of_no_code f w parts else rows_below f a w parts)
  rows_in f a (Listed parts) = rows_among f a parts
  rows_in f a _ = []

  pub rows_among : Facts → Above → Pieces → List Which
  rows_among f a End = []
  rows_among f a (Then piece pieces) = rows_in f a piece ++ rows_among f a pieces

  -- The rows in the parts of a node.
  pub rows_below : Facts → Above → Word → Pieces → List Which
  rows_below f a word.Assign (Then (Said operator) (Then target (Then right End))) =
      rows_in f (using (if bytes_eq operator (codes "=") then Equals else Compounds) a) target ++ rows_in f (part a) right
  rows_below f a word.Update (Then operator (Then prefix (Then target End))) = rows_in f (using Updates a) target
  rows_below f a word.Arraytarget (Then items (Then rest End)) = rows_in f (taken a) items ++ rows_in f (taken a) rest
  rows_below f a word.Objecttarget (Then properties (Then rest End)) =
      rows_in f (taken a) properties ++ rows_in f (record (taken a) { rest = true }) rest
  rows_below f a word.Objectpat (Then properties (Then rest End)) =
      rows_in f (part a) properties ++ rows_in f (record (part a) { rest = true }) rest
  rows_below f a word.Default (Then target (Then default End)) = rows_in f (taken a) target ++ rows_in f (moving a) default
  rows_below f a word.Short (Then name (Then default End)) = rows_in f (taken a) name ++ rows_in f (moving a) default
  rows_below f a word.Rest (Then target End) = rows_in f a target
  rows_below f a word.Keyed (Then (Flag computed) (Then key (Then target End))) =
      rows_in f (record (part a) { key = not computed }) key ++ rows_in f (taken a) target
  rows_below f a word.Keyedpat (Then (Flag computed) (Then key (Then pattern End))) =
      rows_in f (record (part a) { key = not computed }) key ++ rows_in f (part a) pattern
  rows_below f a word.Prop (Then (Flag computed) (Then key (Then expression End))) =
      rows_in f (record (part a) { key = not computed }) key ++ rows_in f (part a) expression
  rows_below f a word.Method (Then (Flag computed) (Then key (Then function End))) =
      rows_in f (record (part a) { key = not computed }) key ++ rows_in f (part a) function
  rows_below f a word.Get (Then (Flag computed) (Then key (Then function End))) =
      rows_in f (record (part a) { key = not computed }) key ++ rows_in f (part a) function
  rows_below f a word.Set (Then (Flag computed) (Then key (Then function End))) =
      rows_in f (record (part a) { key = not computed }) key ++ rows_in f (part a) function
  rows_below f a word.Defaultpat (Then pattern (Then default End)) = rows_in f (part a) pattern ++ rows_in f (moving a) default
  rows_below f a word.Param (Then pattern (Then default End)) = rows_in f (part a) pattern ++ rows_in f (moving a) default
  rows_below f a word.Case (Then condition (Then statements End)) = rows_in f (moving a) condition ++ rows_in f (part a) statements
  rows_below f a word.Opening (Then tag (Then attributes End)) =
      rows_in f (record (part a) { tag = true }) tag ++ rows_in f (part a) attributes
  rows_below f a word.Tagmember (Then object parts) = rows_in f (record (part a) { tag = is_this object }) object
  rows_below f a word.Try (Then block (Then handler (Then finalizer End))) =
      rows_in f (record (part a) { tried = true }) block ++ rows_in f (part a) handler ++ rows_in f (part a) finalizer
  rows_below f a word.While (Then piece pieces) = rows_in f (looping a) piece ++ rows_among f (looping a) pieces
  rows_below f a word.Dowhile (Then piece pieces) = rows_in f (looping a) piece ++ rows_among f (looping a) pieces
  rows_below f a word.For (Then piece pieces) = rows_in f (looping a) piece ++ rows_among f (looping a) pieces
  rows_below f a word.Forin (Then head parts) = rows_in f (record (using Heads a) { head = true }) head ++ rows_among f (looping a) parts
  rows_below f a word.Forof (Then is_await (Then head parts)) =
      rows_in f (record (using Heads a) { head = true }) head ++ rows_among f (looping a) parts
  rows_below f a word.Switch (Then discriminant (Then cases End)) =
      rows_in f (part a) discriminant ++ rows_in f (record (part a) { breaks = true }) cases
  rows_below f a word.Labeled (Then (Said label) (Then body End)) =
      rows_in f (record (part a) { labels = (label, is_loop body) ∷ a.labels }) body
  rows_below f a word.Instantiate (Then expression names) = rows_in f (part a) expression
  rows_below f a word.Arrow (Then piece pieces) = rows_in f top piece ++ rows_among f top pieces
  rows_below f a word.Funexpr (Then piece pieces) = rows_in f top piece ++ rows_among f top pieces
  rows_below f a word.Fundecl (Then piece pieces) = rows_in f top piece ++ rows_among f top pieces
  rows_below f a w (Then piece pieces) = rows_in f (part a) piece ++ rows_among f (part a) pieces
  rows_below f a w End = []
