-- Reading is complete: a tree of which no form of a value was read is that of no value.
use Rattle.std.proofs.Common.{◌≡◌, ℕ, None, Some, List, [], ◌∷◌, codes, map, sym, ap, ◌∙◌}
use Rattle.std.proofs.lemmas.List.Elements.{All-nil, All-cons}
use Rattle.std.specs.Prelude.{All}
use Rattle.rl_machine.specs.declared.trace.AnswerKind.{AnswerKind}
use Rattle.rl_machine.specs.declared.trace.AnswerKind.TheVariants as kinds
use Rattle.rl_machine.specs.declared.trace.Assignment.{Assignment}
use Rattle.rl_machine.specs.declared.trace.Value.{Value}
use Rattle.rl_machine.specs.declared.trace.Value.TheVariants as values
use Rattle.rl_base.specs.declared.ids.SymbolId.{SymbolId}
use Rattle.rl_text.specs.Notation.{Tree, Node, Listed, Said, Count, Flag, Absent, End, Then}
use Rattle.rl_text.specs.Raw.{parts_of}
use Rattle.rl_trace_text.specs.Reading.{NoneIsShown, Always, IsNarrow}
use Rattle.rl_trace_text.specs.Trees.{value_tree, assignment_tree, kind_tree, answer_tree}
use Rattle.rl_trace_text.specs.RunWords.{SetsNarrow, AllSetNarrow, function_tree, IsNarrowFunction}

abbrev Bare : List ℕ → Tree → Type 0
Bare word t = NoneIsShown {X = Unit {0}} (λ p. Node word End) Always t

abbrev One : {X : Type 0} → (X → Tree) → List ℕ → Tree → Type 0
One {X} shown word t = NoneIsShown {X = X × Unit {0}} (λ p. Node word (Then (shown p.0) End)) (λ p. Always p.0 × Always p.1) t

pub no_value : (t : Tree) → Bare (codes "undefined") t → Bare (codes "null") t → One Flag (codes "bool") t → One Count (codes "number") t
    → One Said (codes "text") t → One Count (codes "given") t → NoneIsShown value_tree Always t
no_value t undefined null bool number text given values.Undefined fit same = undefined tt tt same
no_value t undefined null bool number text given values.Null fit same = null tt tt same
no_value t undefined null bool number text given (values.Bool flag) fit same = bool (flag, tt) (tt, tt) same
no_value t undefined null bool number text given (values.Number n) fit same = number (n, tt) (tt, tt) same
no_value t undefined null bool number text given (values.Text said) fit same = text (said, tt) (tt, tt) same
no_value t undefined null bool number text given (values.Given n) fit same = given (n, tt) (tt, tt) same

pub no_assignment : (t : Tree) → NoneIsShown {X = SymbolId × (Value × Unit {0})} (λ p. Node (codes "set") (Then (Count p.0.0) (Then (value_tree p.1.0) End))) (λ p. IsNarrow p.0.0 × (Always p.1.0 × Always p.1.1)) t
    → NoneIsShown assignment_tree SetsNarrow t
no_assignment t none a fit same = none (a.symbol, (a.value, tt)) (fit, (tt, tt)) same

said_in : Tree → List ℕ
said_in (Said text) = text
said_in _ = []

pub no_kind : (t : Tree) (text : List ℕ) → t ≡ Said text → (text ≡ codes "yes" → ⊥) → (text ≡ codes "no" → ⊥) → (text ≡ codes "throw" → ⊥) → NoneIsShown kind_tree Always t
unfolding said_in
no_kind t text e not_yes not_no not_throw kinds.Yes fit same = not_yes (sym (ap said_in (same ∙ e)))
no_kind t text e not_yes not_no not_throw kinds.No fit same = not_no (sym (ap said_in (same ∙ e)))
no_kind t text e not_yes not_no not_throw kinds.Throw fit same = not_throw (sym (ap said_in (same ∙ e)))

pub all_always : {X : Type 0} (items : List X) → All Always items
all_always [] = All-nil Always
all_always (item ∷ items) = All-cons Always item items tt (all_always items)

pub no_answer : (t : Tree)
    → NoneIsShown {X = AnswerKind × (Value × (List Value × (List Assignment × Unit {0})))} (λ p. Node (codes "answer") (Then (kind_tree p.0) (Then (value_tree p.1.0) (Then (Listed (parts_of (map value_tree p.1.1.0))) (Then (Listed (parts_of (map assignment_tree p.1.1.1.0))) End))))) (λ p. Always p.0 × (Always p.1.0 × (All Always p.1.1.0 × (All SetsNarrow p.1.1.1.0 × Always p.1.1.1.1)))) t
    → NoneIsShown answer_tree AllSetNarrow t
no_answer t none a fit same = none (a.kind, (a.value, (a.pieces, (a.assignments, tt)))) (tt, (tt, (all_always a.pieces, (fit, tt)))) same

pub no_function : (t : Tree) → (Absent ≡ t → ⊥) → NoneIsShown Count IsNarrow t → NoneIsShown function_tree IsNarrowFunction t
no_function t absent none None fit same = absent same
no_function t absent none (Some number) fit same = none number fit same
