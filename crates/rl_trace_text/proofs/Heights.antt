-- Words of a run have at most five nodes and lists open at once, and spell their arguments part by part.
use Rattle.std.proofs.Common.{◌≡◌, ℕ, ◌≤◌, Option, None, Some, List, [], ◌∷◌, map, sym, subst, arith}
use Rattle.std.specs.Prelude.{All}
use Rattle.rl_hir.specs.Trees.{list}
use Rattle.rl_machine.specs.declared.trace.Answer.{Answer}
use Rattle.rl_machine.specs.declared.trace.Assignment.{Assignment}
use Rattle.rl_machine.specs.declared.trace.Value.{Value}
use Rattle.rl_machine.specs.declared.trace.Value.TheVariants as values
use Rattle.rl_text.specs.Notation.{Tree, height, height_of, Spells}
use Rattle.rl_text.specs.Raw.{parts_of}
use Rattle.rl_trace_text.specs.Reading.{Always, IsShown, NoneIsShown, NoWordOf}
use Rattle.rl_trace_text.specs.Trees.{value_tree, assignment_tree, answer_tree}
use Rattle.rl_trace_text.specs.RunWords.{SetsNarrow, AllSetNarrow, function_tree, IsNarrowFunction, IsWordOf, SpellArguments}
use Rattle.rl_trace_text.specs.declared.words.Arguments.{Arguments}
use Rattle.rl_trace_text.proofs.NoValues.{all_always}

value_low : (v : Value) → height (value_tree v) ≤ 1
value_low values.Undefined = omega arith
value_low values.Null = omega arith
value_low (values.Bool flag) = omega arith
value_low (values.Number number) = omega arith
value_low (values.Text text) = omega arith
value_low (values.Given number) = omega arith

assignment_low : (a : Assignment) → height (assignment_tree a) ≤ 2
assignment_low a = grind (arith, value_low a.value)

list_low : {X : Type 0} (shown : X → Tree) (most : ℕ) → ((x : X) → height (shown x) ≤ most) → (items : List X) → height_of (parts_of (map shown items)) ≤ most
list_low shown most each [] = omega arith
list_low shown most each (item ∷ items) = grind (arith, each item, list_low shown most each items)

answer_low : (a : Answer) → height (answer_tree a) ≤ 4
answer_low a = grind (arith, value_low a.value, list_low value_tree 1 value_low a.pieces, list_low assignment_tree 2 assignment_low a.assignments)

function_low : (f : Option ℕ) → height (function_tree f) ≤ 5
function_low None = omega arith
function_low (Some number) = omega arith

start_low : (l : List Assignment) → height (list assignment_tree l) ≤ 5
start_low l = omega (arith, list_low assignment_tree 2 assignment_low l)

args_low : (l : List Value) → height (list value_tree l) ≤ 5
args_low l = omega (arith, list_low value_tree 1 value_low l)

answers_low : (l : List Answer) → height (list answer_tree l) ≤ 5
answers_low l = omega (arith, list_low answer_tree 4 answer_low l)

-- A word of another tree, or of none so low, is no word of a value.
pub other_word : {X : Type 0} (shown : X → Tree) (fits : X → Type 0) (word : List ℕ) (t : Tree) → ((s : Tree) → Spells word s → s ≡ t)
    → NoneIsShown shown fits t → NoWordOf shown fits 5 word
other_word shown fits word t only none value low w = none value w.fitting (only (shown value) w.spelled)

pub malformed_word : {X : Type 0} (shown : X → Tree) (fits : X → Type 0) (word : List ℕ) → ((s : Tree) → Spells word s → height s ≤ 5 → ⊥)
    → NoWordOf shown fits 5 word
malformed_word shown fits word none value low w = none (shown value) w.spelled low

pub a_word : {X : Type 0} (shown : X → Tree) (fits : X → Type 0) (word : List ℕ) (t : Tree) (value : X) → Spells word t → IsShown shown fits t value
    → IsWordOf shown fits word value
a_word shown fits word t value spelled s = record { spelled = subst (λ z. Spells word z) (sym s.same) spelled; fitting = s.fitting }

pub ruleset word_forms = (other_word, malformed_word, a_word)

module _ (function start args answers : List ℕ) where
  abbrev NoArguments : Type 0
  NoArguments = (a : Arguments) → SpellArguments function start args answers a → ⊥

  pub no_function_word : NoWordOf function_tree IsNarrowFunction 5 function → NoArguments
  no_function_word none a s = none a.function (function_low a.function) s.of_function

  pub no_start_word : NoWordOf (list assignment_tree) (All SetsNarrow) 5 start → NoArguments
  no_start_word none a s = none a.start (start_low a.start) s.of_start

  pub no_args_word : NoWordOf (list value_tree) (All Always) 5 args → NoArguments
  no_args_word none a s = none a.args (args_low a.args) (record { spelled = s.of_args; fitting = all_always a.args })

  pub no_answers_word : NoWordOf (list answer_tree) (All AllSetNarrow) 5 answers → NoArguments
  no_answers_word none a s = none a.answers (answers_low a.answers) s.of_answers

pub ruleset no_words = (no_function_word, no_start_word, no_args_word, no_answers_word)
