-- The words that say what a function is run with.
use Rattle.std.specs.Prelude.{◌≡◌, ℕ, Option, Some, None, List, All}
use Rattle.rl_hir.specs.Trees.{list, optional}
use Rattle.rl_machine.specs.declared.trace.Answer.{Answer}
use Rattle.rl_machine.specs.declared.trace.Assignment.{Assignment}
use Rattle.rl_text.specs.Notation.{Tree, Count, Spells}
use Rattle.rl_trace_text.specs.Narrow.{IsNarrow}
use Rattle.rl_trace_text.specs.Trees.{value_tree, assignment_tree, answer_tree}
use Rattle.rl_trace_text.specs.declared.words.Arguments.{Arguments}

-- The number of the symbol is below 2^32, as those of all symbols of a unit are.
abbrev pub SetsNarrow : Assignment → Type 0
SetsNarrow a = IsNarrow a.symbol.0

-- The numbers of all symbols that the answer sets are below 2^32.
abbrev pub AllSetNarrow : Answer → Type 0
AllSetNarrow a = All SetsNarrow a.assignments

-- `-`, or the number of a function
abbrev pub function_tree : Option ℕ → Tree
function_tree function = optional Count function

-- The number of the function, if there is one, is below 2^32.
abbrev pub IsNarrowFunction : Option ℕ → Type 0
IsNarrowFunction None = Unit {0}
IsNarrowFunction (Some number) = IsNarrow number

-- The word spells the tree of the value, which can be read.
pub record IsWordOf {X : Type 0} (shown : X → Tree) (fits : X → Type 0) (word : List ℕ) (value : X) : Type 0 where
  pub spelled : Spells word (shown value)
  pub fitting : fits value

-- The four words spell the arguments. Numbers of functions and symbols are below 2^32.
pub record SpellArguments (function start args answers : List ℕ) (arguments : Arguments) : Type 0 where
  pub of_function : IsWordOf function_tree IsNarrowFunction function arguments.function
  pub of_start : IsWordOf (list assignment_tree) (All SetsNarrow) start arguments.start
  pub of_args : Spells args (list value_tree arguments.args)
  pub of_answers : IsWordOf (list answer_tree) (All AllSetNarrow) answers arguments.answers

-- The four words spell no other arguments.
abbrev pub AreOnlyArguments : (function start args answers : List ℕ) → Arguments → Type 0
AreOnlyArguments function start args answers arguments =
    (other : Arguments) → SpellArguments function start args answers other → other ≡ arguments
