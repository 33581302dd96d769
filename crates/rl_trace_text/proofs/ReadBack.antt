-- A trace and its parts are read back from their trees, so no two have one tree. Where a tree is none of theirs, what is read does
-- not matter.
use Rattle.std.proofs.Common.{◌≡◌, ℕ, Option, List, [], ◌∷◌, codes, refl, sym, ap, ◌∙◌}
use Rattle.rl_hir.proofs.ReadParts.{part, number_of, flag_of, word_of, text_of, optional_of, optional-back, list_of, list-back, choose}
use Rattle.rl_hir.specs.Terminals.{return_variant}
use Rattle.rl_hir.specs.Trees.{said, list}
use Rattle.rl_hir.specs.declared.terminal.ReturnVariant.{ReturnVariant}
use Rattle.rl_hir.specs.declared.terminal.ReturnVariant.TheVariants as returns
use Rattle.rl_machine.specs.declared.trace.Answer.{Answer}
use Rattle.rl_machine.specs.declared.trace.AnswerKind.{AnswerKind}
use Rattle.rl_machine.specs.declared.trace.AnswerKind.TheVariants as kinds
use Rattle.rl_machine.specs.declared.trace.Assignment.{Assignment}
use Rattle.rl_machine.specs.declared.trace.Ending.{Ending}
use Rattle.rl_machine.specs.declared.trace.Ending.TheVariants as endings
use Rattle.rl_machine.specs.declared.trace.Event.{Event}
use Rattle.rl_machine.specs.declared.trace.Trace.{Trace}
use Rattle.rl_machine.specs.declared.trace.Value.{Value}
use Rattle.rl_machine.specs.declared.trace.Value.TheVariants as values
use Rattle.rl_text.proofs.Worded.{Worded-one}
use Rattle.rl_text.specs.Notation.{Tree, Said, Count, Spells}
use Rattle.rl_text.proofs.Worded.{worded}
use Rattle.rl_trace_text.proofs.Worded.{trace_worded}
use Rattle.rl_trace_text.specs.RunWords.{function_tree, SpellArguments}
use Rattle.rl_trace_text.specs.declared.words.Arguments.{Arguments}
use Rattle.rl_trace_text.specs.Trees.{value_tree, assignment_tree, kind_tree, answer_tree, event_tree, ending_tree, trace_tree, IsOnlyTrace}

value_readers : List (List ℕ × (Tree → Value))
value_readers =
    (codes "null", λ tree. values.Null)
    ∷ (codes "bool", λ tree. values.Bool (flag_of (part 0 tree)))
    ∷ (codes "number", λ tree. values.Number (number_of (part 0 tree)))
    ∷ (codes "text", λ tree. values.Text (text_of (part 0 tree)))
    ∷ (codes "given", λ tree. values.Given (number_of (part 0 tree)))
    ∷ []

value_of : Tree → Value
value_of tree = choose (word_of tree) value_readers (λ tree. values.Undefined) tree

value-back : (v : Value) → value_of (value_tree v) ≡ v
unfolding value_of value_readers text_of
value-back values.Undefined = refl
value-back values.Null = refl
value-back (values.Bool flag) = refl
value-back (values.Number number) = refl
value-back (values.Text text) = refl
value-back (values.Given number) = refl

assignment_of : Tree → Assignment
assignment_of tree = record { symbol = record { 0 = number_of (part 0 tree) }; value = value_of (part 1 tree) }

assignment-back : (a : Assignment) → assignment_of (assignment_tree a) ≡ a
unfolding assignment_of
assignment-back a = rw (value-back a.value) refl

kind_of : Tree → AnswerKind
kind_of tree = choose (text_of tree) ((codes "yes", kinds.Yes) ∷ (codes "no", kinds.No) ∷ []) kinds.Throw

kind-back : (kind : AnswerKind) → kind_of (kind_tree kind) ≡ kind
unfolding kind_of text_of
kind-back kinds.Yes = refl
kind-back kinds.No = refl
kind-back kinds.Throw = refl

answer_of : Tree → Answer
answer_of tree = record {
  kind = kind_of (part 0 tree);
  value = value_of (part 1 tree);
  pieces = list_of value_of (part 2 tree);
  assignments = list_of assignment_of (part 3 tree);
}

answer-back : (a : Answer) → answer_of (answer_tree a) ≡ a
unfolding answer_of
answer-back a = rw (
  kind-back a.kind,
  value-back a.value,
  list-back value_tree value_of value-back a.pieces,
  list-back assignment_tree assignment_of assignment-back a.assignments,
) refl

said-back : (text : List ℕ) → text_of (said text) ≡ text
unfolding text_of
said-back text = refl

event_of : Tree → Event
event_of tree = record { kind = text_of (part 0 tree); texts = list_of text_of (part 1 tree); operands = list_of value_of (part 2 tree) }

event-back : (e : Event) → event_of (event_tree e) ≡ e
unfolding event_of
event-back e = rw (said-back e.kind, list-back said text_of said-back e.texts, list-back value_tree value_of value-back e.operands) refl

variant_of : Tree → ReturnVariant
variant_of tree = choose (text_of tree) ((codes "implicit", returns.Implicit) ∷ (codes "explicit", returns.Explicit) ∷ []) returns.Void

variant-back : (variant : ReturnVariant) → variant_of (Said (return_variant variant)) ≡ variant
unfolding variant_of text_of
variant-back returns.Implicit = refl
variant-back returns.Explicit = refl
variant-back returns.Void = refl

ending_readers : List (List ℕ × (Tree → Ending))
ending_readers =
    (codes "returned", λ tree. endings.Returned (variant_of (part 0 tree)) (value_of (part 1 tree)) (list_of assignment_of (part 2 tree)))
    ∷ (codes "threw", λ tree. endings.Threw (value_of (part 0 tree)))
    ∷ []

ending_of : Tree → Ending
ending_of tree = choose (word_of tree) ending_readers (λ tree. endings.Waiting) tree

ending-back : (e : Ending) → ending_of (ending_tree e) ≡ e
unfolding ending_of ending_readers
ending-back (endings.Returned variant value kept) =
    λ i. endings.Returned (variant-back variant i) (value-back value i) (list-back assignment_tree assignment_of assignment-back kept i)
ending-back (endings.Threw value) = ap endings.Threw (value-back value)
ending-back endings.Waiting = refl

trace_of : Tree → Trace
trace_of tree = record { events = list_of event_of (part 0 tree); ending = ending_of (part 1 tree) }

trace-back : (t : Trace) → trace_of (trace_tree t) ≡ t
unfolding trace_of
trace-back t = rw (list-back event_tree event_of event-back t.events, ending-back t.ending) refl

-- No two traces have one text, byte for byte.
pub only_trace : (t : Trace) → IsOnlyTrace t
only_trace t other same =
    sym (trace-back other) ∙ (ap trace_of (Worded-one (trace_tree other) (trace_tree t) (trace_worded other) (trace_worded t) same) ∙ trace-back t)

-- A word spells one value at most, where each value is read back from its tree.
one_value : {X : Type 0} (show : X → Tree) (read : Tree → X) → ((x : X) → read (show x) ≡ x) → (word : List ℕ) (a b : X)
    → Spells word (show a) → Spells word (show b) → a ≡ b
one_value show read back word a b p q =
    sym (back a) ∙ (ap read (Worded-one (show a) (show b) (worded (show a) p.writable) (worded (show b) q.writable) (sym p.spelled ∙ q.spelled)) ∙ back b)

function_of : Tree → Option ℕ
function_of = optional_of number_of

function-back : (f : Option ℕ) → function_of (function_tree f) ≡ f
unfolding function_of
function-back = optional-back Count number_of (λ number. tt) (λ number. refl)

-- Four words spell arguments in one way at most.
pub only_arguments : (function start args answers : List ℕ) (a b : Arguments) → SpellArguments function start args answers a
    → SpellArguments function start args answers b → a ≡ b
only_arguments function start args answers a b p q = λ i. record {
  function = one_value function_tree function_of function-back function a.function b.function p.of_function.spelled q.of_function.spelled i;
  start = one_value (list assignment_tree) (list_of assignment_of) (list-back assignment_tree assignment_of assignment-back) start a.start b.start p.of_start.spelled q.of_start.spelled i;
  args = one_value (list value_tree) (list_of value_of) (list-back value_tree value_of value-back) args a.args b.args p.of_args q.of_args i;
  answers = one_value (list answer_tree) (list_of answer_of) (list-back answer_tree answer_of answer-back) answers a.answers b.answers p.of_answers.spelled q.of_answers.spelled i;
}
