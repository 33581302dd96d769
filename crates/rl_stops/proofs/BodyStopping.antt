-- The first stop of a statement, by its word and the form of its parts.
use Rattle.std.proofs.Common.{◌≡◌, ◌<◌, ◌+◌, ℕ, Bool, true, false, if◌then◌else◌, Option, Some, None, List, [], ◌∷◌, map, codes, ap, sym, refl, ◌∙◌, arith}
use Rattle.std.specs.Option.{option_or}
use Rattle.rl_base.specs.Diagnostics.{diagnostic_at}
use Rattle.rl_base.specs.declared.diagnostic.Diagnostic.{Diagnostic}
use Rattle.rl_base.specs.declared.row.Row.TheVariants as row
use Rattle.rl_base.specs.declared.span.Span.{Span}
use Rattle.rl_model.specs.Actions.{Label}
use Rattle.rl_names.specs.Names.{Names}
use Rattle.rl_promises.specs.Jumps.{Around, InLoop, breaks_out, continues_in, is_in_loop, is_loop, own_label, stop_of_break, stop_of_continue, within_label}
use Rattle.rl_promises.specs.PartForms.{body_parts, body_statements, is_flag_and_three, is_text_and_tree, jump_label, label_in, list_alone, loops}
use Rattle.rl_promises.specs.Stops.{first_stop, stop_among, stop_at_head, stop_in, stop_in_body}
use Rattle.rl_syntax.proofs.Layers.{syntax_node}
use Rattle.rl_syntax.specs.Shapes.{is_four, is_three, is_two}
use Rattle.rl_syntax.specs.Sizes.{size, size_of}
use Rattle.rl_syntax.specs.Syntax.{Syntax, Node, Listed, Said, Flag, Absent, Pieces, End, Then, pieces_of, syntax}
use Rattle.rl_syntax.specs.declared.numbered.At.{At}
use Rattle.rl_syntax.specs.declared.numbered.Numbered.{Numbered}
use Rattle.rl_syntax.specs.declared.numbered.Numbered.TheVariants as numbered
use Rattle.rl_syntax.specs.declared.word.Word.{Word}
use Rattle.rl_syntax.specs.declared.word.Word.TheVariants as word

-- A loop by its word.
loop_node : (at : At) (w : Word) (parts : Pieces) → loops w ≡ is_loop (Node at w parts)
loop_node at word.While parts = refl
loop_node at word.Dowhile parts = refl
loop_node at word.For parts = refl
loop_node at word.Forin parts = refl
loop_node at word.Forof parts = refl
loop_node at _ parts = refl

pub loop_form : (at : At) (w : Word) (parts : List Numbered) (r : Bool) → r ≡ loops w → r ≡ is_loop (syntax (numbered.Node at w parts))
loop_form at w parts r e = e ∙ loop_node at w (pieces_of (map syntax parts)) ∙ ap is_loop (sym (syntax_node at w parts))

pub ruleset looping = (loop_form)

-- A statement that does not take a jump.

pub past_break : (jump : Label) (at : Span) (around : Around) (outer : List Around) (r : Option Diagnostic)
    → breaks_out jump around ≡ false → r ≡ stop_of_break jump at outer → r ≡ stop_of_break jump at (around ∷ outer)
past_break jump at around outer r none e = e ∙ sym (ap (λ (b : Bool). if b then None else stop_of_break jump at outer) none)

pub past_continue : (jump : Label) (at : Span) (around : Around) (outer : List Around) (r : Option Diagnostic)
    → continues_in jump around ≡ false → r ≡ stop_of_continue jump at outer → r ≡ stop_of_continue jump at (around ∷ outer)
past_continue jump at around outer r none e = e ∙ sym (ap (λ (b : Bool).
    if b then (if is_in_loop around then None else Some (diagnostic_at row.S7 (codes "label") at))
    else stop_of_continue jump at outer) none)

-- Jumps.

break_at : (n : Names) (around : List Around) (own jump : Label) (at : At) (label : Syntax) → Some jump ≡ label_in label
    → stop_of_break jump at.span around ≡ stop_in n around own (Node at word.Break (Then label End))
break_at n around own jump at Absent is =
    ap (λ (j : Label). stop_of_break j at.span around) (let same : jump ≡ None = cc in same)
break_at n around own jump at (Said label) is =
    ap (λ (j : Label). stop_of_break j at.span around) (let same : jump ≡ Some label = cc in same)
break_at n around own jump at _ is = absurd (cc)

pub break_stop : (n : Names) (around : List Around) (own jump : Label) (at : At) (ps : Pieces) (r : Option Diagnostic)
    → Some jump ≡ jump_label ps → r ≡ stop_of_break jump at.span around → r ≡ stop_in n around own (Node at word.Break ps)
break_stop n around own jump at (Then label End) r is e = e ∙ break_at n around own jump at label is
break_stop n around own jump at _ r is e = absurd (cc)

pub break_other : (n : Names) (around : List Around) (own : Label) (at : At) (ps : Pieces) (r : Option Diagnostic) → None ≡ jump_label ps
    → r ≡ first_stop n (Node at word.Break ps) → r ≡ stop_in n around own (Node at word.Break ps)
break_other n around own at (Then Absent End) r none e = absurd (cc)
break_other n around own at (Then (Said label) End) r none e = absurd (cc)
break_other n around own at _ r none e = e

continue_at : (n : Names) (around : List Around) (own jump : Label) (at : At) (label : Syntax) → Some jump ≡ label_in label
    → stop_of_continue jump at.span around ≡ stop_in n around own (Node at word.Continue (Then label End))
continue_at n around own jump at Absent is =
    ap (λ (j : Label). stop_of_continue j at.span around) (let same : jump ≡ None = cc in same)
continue_at n around own jump at (Said label) is =
    ap (λ (j : Label). stop_of_continue j at.span around) (let same : jump ≡ Some label = cc in same)
continue_at n around own jump at _ is = absurd (cc)

pub continue_stop : (n : Names) (around : List Around) (own jump : Label) (at : At) (ps : Pieces) (r : Option Diagnostic)
    → Some jump ≡ jump_label ps → r ≡ stop_of_continue jump at.span around → r ≡ stop_in n around own (Node at word.Continue ps)
continue_stop n around own jump at (Then label End) r is e = e ∙ continue_at n around own jump at label is
continue_stop n around own jump at _ r is e = absurd (cc)

pub continue_other : (n : Names) (around : List Around) (own : Label) (at : At) (ps : Pieces) (r : Option Diagnostic) → None ≡ jump_label ps
    → r ≡ first_stop n (Node at word.Continue ps) → r ≡ stop_in n around own (Node at word.Continue ps)
continue_other n around own at (Then Absent End) r none e = absurd (cc)
continue_other n around own at (Then (Said label) End) r none e = absurd (cc)
continue_other n around own at _ r none e = e

-- Blocks and branches.

pub block_stop : (n : Names) (around : List Around) (own : Label) (at : At) (ps statements : Pieces) (r : Option Diagnostic)
    → Some statements ≡ list_alone ps → r ≡ stop_among n around statements → r ≡ stop_in n around own (Node at word.Block ps)
block_stop n around own at (Then (Listed items) End) statements r is e =
    e ∙ ap (stop_among n around) (let same : statements ≡ items = cc in same)
block_stop n around own at _ statements r is e = absurd (cc)

pub block_other : (n : Names) (around : List Around) (own : Label) (at : At) (ps : Pieces) (r : Option Diagnostic) → None ≡ list_alone ps
    → r ≡ first_stop n (Node at word.Block ps) → r ≡ stop_in n around own (Node at word.Block ps)
block_other n around own at (Then (Listed items) End) r none e = absurd (cc)
block_other n around own at _ r none e = e

pub if_stop : (n : Names) (around : List Around) (own : Label) (at : At) (ps : Pieces) (a b c : Syntax) (r : Option Diagnostic)
    → ps ≡ Then a (Then b (Then c End))
    → r ≡ option_or (stop_in n around None b) (option_or (stop_in n around None c) (first_stop n a))
    → r ≡ stop_in n around own (Node at word.If ps)
if_stop n around own at ps a b c r is e = e ∙ ap (λ q. stop_in n around own (Node at word.If q)) (sym is)

pub if_other : (n : Names) (around : List Around) (own : Label) (at : At) (ps : Pieces) (r : Option Diagnostic) → is_three ps ≡ false
    → r ≡ first_stop n (Node at word.If ps) → r ≡ stop_in n around own (Node at word.If ps)
if_other n around own at (Then a (Then b (Then c End))) r other e = absurd (cc)
if_other n around own at _ r other e = e

-- Loops.

pub while_stop : (n : Names) (around : List Around) (own : Label) (at : At) (ps : Pieces) (a b : Syntax) (r : Option Diagnostic)
    → ps ≡ Then a (Then b End) → r ≡ option_or (stop_in n (InLoop own ∷ around) None b) (first_stop n a)
    → r ≡ stop_in n around own (Node at word.While ps)
while_stop n around own at ps a b r is e = e ∙ ap (λ q. stop_in n around own (Node at word.While q)) (sym is)

pub while_other : (n : Names) (around : List Around) (own : Label) (at : At) (ps : Pieces) (r : Option Diagnostic) → is_two ps ≡ false
    → r ≡ first_stop n (Node at word.While ps) → r ≡ stop_in n around own (Node at word.While ps)
while_other n around own at (Then a (Then b End)) r other e = absurd (cc)
while_other n around own at _ r other e = e

pub dowhile_stop : (n : Names) (around : List Around) (own : Label) (at : At) (ps : Pieces) (a b : Syntax) (r : Option Diagnostic)
    → ps ≡ Then a (Then b End) → r ≡ option_or (stop_in n (InLoop own ∷ around) None a) (first_stop n b)
    → r ≡ stop_in n around own (Node at word.Dowhile ps)
dowhile_stop n around own at ps a b r is e = e ∙ ap (λ q. stop_in n around own (Node at word.Dowhile q)) (sym is)

pub dowhile_other : (n : Names) (around : List Around) (own : Label) (at : At) (ps : Pieces) (r : Option Diagnostic) → is_two ps ≡ false
    → r ≡ first_stop n (Node at word.Dowhile ps) → r ≡ stop_in n around own (Node at word.Dowhile ps)
dowhile_other n around own at (Then a (Then b End)) r other e = absurd (cc)
dowhile_other n around own at _ r other e = e

pub for_stop : (n : Names) (around : List Around) (own : Label) (at : At) (ps : Pieces) (a b c d : Syntax) (r : Option Diagnostic)
    → ps ≡ Then a (Then b (Then c (Then d End)))
    → r ≡ option_or (first_stop n a) (option_or (first_stop n c) (option_or (stop_in n (InLoop own ∷ around) None d) (first_stop n b)))
    → r ≡ stop_in n around own (Node at word.For ps)
for_stop n around own at ps a b c d r is e = e ∙ ap (λ q. stop_in n around own (Node at word.For q)) (sym is)

pub for_other : (n : Names) (around : List Around) (own : Label) (at : At) (ps : Pieces) (r : Option Diagnostic) → is_four ps ≡ false
    → r ≡ first_stop n (Node at word.For ps) → r ≡ stop_in n around own (Node at word.For ps)
for_other n around own at (Then a (Then b (Then c (Then d End)))) r other e = absurd (cc)
for_other n around own at _ r other e = e

pub forin_stop : (n : Names) (around : List Around) (own : Label) (at : At) (ps : Pieces) (a b c : Syntax) (r : Option Diagnostic)
    → ps ≡ Then a (Then b (Then c End))
    → r ≡ option_or (stop_in n (InLoop own ∷ around) None c) (option_or (first_stop n b) (stop_at_head n a))
    → r ≡ stop_in n around own (Node at word.Forin ps)
forin_stop n around own at ps a b c r is e = e ∙ ap (λ q. stop_in n around own (Node at word.Forin q)) (sym is)

pub forin_other : (n : Names) (around : List Around) (own : Label) (at : At) (ps : Pieces) (r : Option Diagnostic) → is_three ps ≡ false
    → r ≡ first_stop n (Node at word.Forin ps) → r ≡ stop_in n around own (Node at word.Forin ps)
forin_other n around own at (Then a (Then b (Then c End))) r other e = absurd (cc)
forin_other n around own at _ r other e = e

pub forof_stop : (n : Names) (around : List Around) (own : Label) (at : At) (ps : Pieces) (is_await : Bool) (a b c : Syntax)
    (r : Option Diagnostic) → ps ≡ Then (Flag is_await) (Then a (Then b (Then c End))) → is_await ≡ false
    → r ≡ option_or (stop_in n (InLoop own ∷ around) None c) (option_or (first_stop n b) (stop_at_head n a))
    → r ≡ stop_in n around own (Node at word.Forof ps)
forof_stop n around own at ps is_await a b c r is plain e =
    e ∙ ap (λ q. stop_in n around own (Node at word.Forof q))
    (sym (is ∙ ap (λ (f : Bool). Then (Flag f) (Then a (Then b (Then c End)))) plain))

pub forof_await : (n : Names) (around : List Around) (own : Label) (at : At) (ps : Pieces) (is_await : Bool) (a b c : Syntax)
    → ps ≡ Then (Flag is_await) (Then a (Then b (Then c End))) → is_await ≡ true → None ≡ stop_in n around own (Node at word.Forof ps)
forof_await n around own at ps is_await a b c is waits =
    ap (λ q. stop_in n around own (Node at word.Forof q)) (sym (is ∙ ap (λ (f : Bool). Then (Flag f) (Then a (Then b (Then c End)))) waits))

pub forof_other : (n : Names) (around : List Around) (own : Label) (at : At) (ps : Pieces) (r : Option Diagnostic)
    → is_flag_and_three ps ≡ false → r ≡ first_stop n (Node at word.Forof ps) → r ≡ stop_in n around own (Node at word.Forof ps)
forof_other n around own at (Then (Flag is_await) (Then a (Then b (Then c End)))) r other e = absurd (cc)
forof_other n around own at _ r other e = e

-- Statements behind a label.

pub labeled_stop : (n : Names) (around : List Around) (own : Label) (at : At) (ps : Pieces) (label : List ℕ) (body : Syntax)
    (r : Option Diagnostic) → ps ≡ Then (Said label) (Then body End)
    → r ≡ stop_in n (within_label label body around) (own_label label body) body
    → r ≡ stop_in n around own (Node at word.Labeled ps)
labeled_stop n around own at ps label body r is e = e ∙ ap (λ q. stop_in n around own (Node at word.Labeled q)) (sym is)

pub labeled_other : (n : Names) (around : List Around) (own : Label) (at : At) (ps : Pieces) (r : Option Diagnostic)
    → is_text_and_tree ps ≡ false → r ≡ first_stop n (Node at word.Labeled ps) → r ≡ stop_in n around own (Node at word.Labeled ps)
labeled_other n around own at (Then (Said label) (Then body End)) r other e = absurd (cc)
labeled_other n around own at _ r other e = e

pub ruleset statements = (
  break_stop,
  break_other,
  continue_stop,
  continue_other,
  block_stop,
  block_other,
  if_stop,
  if_other,
  while_stop,
  while_other,
  dowhile_stop,
  dowhile_other,
  for_stop,
  for_other,
  forin_stop,
  forin_other,
  forof_stop,
  forof_await,
  forof_other,
  labeled_stop,
  labeled_other,
)

-- A node by its word.
pub worded_in : (n : Names) (around : List Around) (own : Label) (at : At) (ps : Pieces) (r : Option Diagnostic) (w v : Word) → w ≡ v
    → r ≡ stop_in n around own (Node at v ps) → r ≡ stop_in n around own (Node at w ps)
worded_in n around own at ps r w v is e = e ∙ ap (λ x. stop_in n around own (Node at x ps)) (sym is)

-- Parts of a statement are smaller than all of its parts.
pub four_smaller : (ps : Pieces) (a b c d : Syntax) → ps ≡ Then a (Then b (Then c (Then d End)))
    → size a + size b + size c + size d < size_of ps
four_smaller ps a b c d is = omega (arith, ap size_of is)

pub list_smaller : (ps items : Pieces) → Some items ≡ list_alone ps → size_of items < size_of ps
list_smaller (Then (Listed parts) End) items is = (let same : items ≡ parts = cc in omega (arith, ap size_of same))
list_smaller _ items is = absurd (cc)

pub flagged_smaller : (ps : Pieces) (flag : Bool) (a b c : Syntax) → ps ≡ Then (Flag flag) (Then a (Then b (Then c End)))
    → size a + size b + size c < size_of ps
flagged_smaller ps flag a b c is = omega (arith, ap size_of is)

pub ruleset smaller = (four_smaller, list_smaller, flagged_smaller)

-- Statements in a row.
pub among_found : (n : Names) (around : List Around) (s : Syntax) (ss : Pieces) (d : Diagnostic) → Some d ≡ stop_in n around None s
    → Some d ≡ stop_among n around (Then s ss)
among_found n around s ss d is = ap (λ o. option_or o (stop_among n around ss)) is

pub among_behind : (n : Names) (around : List Around) (s : Syntax) (ss : Pieces) → None ≡ stop_in n around None s
    → stop_among n around (Then s ss) ≡ stop_among n around ss
among_behind n around s ss is = sym (ap (λ o. option_or o (stop_among n around ss)) is)

pub ruleset in_row = (among_found, among_behind)

-- Bodies, and expressions that are given back.

body_node : (n : Names) (at : At) (w : Word) (ps statements : Pieces) → Some statements ≡ body_parts w ps
    → stop_among n [] statements ≡ stop_in_body n (Node at w ps)
body_node n at word.Body (Then directives (Then (Listed items) End)) statements is =
    ap (stop_among n []) (let same : statements ≡ items = cc in same)
body_node n at word.Body _ statements is = absurd (cc)
body_node n at _ ps statements is = absurd (cc)

other_node : (n : Names) (at : At) (w : Word) (ps : Pieces) → None ≡ body_parts w ps
    → first_stop n (Node at w ps) ≡ stop_in_body n (Node at w ps)
other_node n at word.Body (Then directives (Then (Listed items) End)) none = absurd (cc)
other_node n at word.Body _ none = refl
other_node n at _ ps none = refl

pub body_stop : (n : Names) (b : Syntax) (statements : Pieces) (r : Option Diagnostic) → Some statements ≡ body_statements b
    → r ≡ stop_among n [] statements → r ≡ stop_in_body n b
body_stop n (Node at w ps) statements r is e = e ∙ body_node n at w ps statements is
body_stop n _ statements r is e = absurd (cc)

pub body_other : (n : Names) (b : Syntax) (r : Option Diagnostic) → None ≡ body_statements b → r ≡ first_stop n b → r ≡ stop_in_body n b
body_other n (Node at w ps) r none e = e ∙ other_node n at w ps none
body_other n _ r none e = e

pub ruleset bodies = (body_stop, body_other)
