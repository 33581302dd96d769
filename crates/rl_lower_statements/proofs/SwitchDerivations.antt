-- Derivations of `switch` statements, and the room and the names in the holes of their frames.
use Rattle.std.proofs.Common.{◌≡◌, ℕ, ◌+◌, ◌<◌, ◌≤◌, ◌++◌, Bool, true, false, ◌&&◌, List, [], ◌∷◌, map, length}
use Rattle.std.proofs.Common.{length-append}
use Rattle.std.proofs.Common.{Option, Some, None, refl, ap, sym, ◌∙◌, subst, arith}
use Rattle.std.proofs.lemmas.Bool.{and_parts}
use Rattle.rl_base.specs.declared.span.Span.{Span}
use Rattle.rl_builder.specs.Builder.{State}
use Rattle.rl_builder.specs.declared.jumps.JumpScope.{JumpScope}
use Rattle.rl_builder.specs.declared.jumps.JumpScope.TheVariants as scopes
use Rattle.rl_frames.proofs.SwitchComposes.{switch_at_more, switch_ended_at}
use Rattle.rl_frames.specs.SwitchParts.{SwitchParts, switch_after_done, switch_after_enter, switch_after_leave}
use Rattle.rl_frames.specs.SwitchParts.{switch_at, switch_begun, switch_ended, switch_entered, switch_left}
use Rattle.rl_grammar.specs.Grammar.{every, fits}
use Rattle.rl_grammar.specs.declared.kind.Field.TheVariants as field
use Rattle.rl_grammar.specs.declared.kind.Kind.{Kind}
use Rattle.rl_grammar.specs.declared.kind.Kind.TheVariants as sort
use Rattle.rl_hir.specs.declared.instruction.Place.{Place}
use Rattle.rl_hir.specs.declared.terminal.Case.{Case}
use Rattle.rl_lower_statements.specs.Cases.{FramesBehind, FramesCase, FramesCases, joined}
use Rattle.rl_lower_parts.proofs.MovedDerivations.{moving_by, moving_size}
use Rattle.rl_lower_parts.specs.Moving.{moving}
use Rattle.rl_lowered.proofs.Arounds.{cases_arounds}
use Rattle.rl_lowered.proofs.Blocks.{statements_blocks}
use Rattle.rl_lowered.proofs.Told.{told_case_test, told_cases}
use Rattle.rl_lowered.specs.Arounds.{arounds}
use Rattle.rl_lowered.specs.Lowered as lowered
use Rattle.rl_lowered.specs.Lowered.{Lowered, LoweredCaseTest, LoweredCases, LoweredStatements}
use Rattle.rl_lowered.specs.Named.{IsNamed}
use Rattle.rl_lowered.specs.Promised.{HasRoom, LowersCaseTest, LowersExpression, LowersStatement, LowersStatements, share}
use Rattle.rl_names.specs.Names.{Names}
use Rattle.rl_promises.specs.Jumps.{Around}
use Rattle.rl_promises.specs.Lowerable.{AreLowerableCases, IsLowerableCase}
use Rattle.rl_promises.specs.Moved.{may_move}
use Rattle.rl_runs.specs.Moves.{block_id}
use Rattle.rl_syntax.specs.declared.numbered.At.{At}
use Rattle.rl_syntax.specs.declared.numbered.Numbered.{Numbered}
use Rattle.rl_syntax.specs.declared.word.Word.{Word}
use Rattle.rl_syntax.specs.declared.word.Word.TheVariants as word
use Rattle.rl_syntax.specs.Syntax.{Syntax, Node, Listed, Said, Count, Flag, Absent, Pieces, End, Then, is_item, nodes, nodes_of, pieces_of}
use Rattle.rl_syntax.specs.Syntax.{syntax}
use Rattle.rl_lower_statements.proofs.LoopDerivations.{moved_room}
use Rattle.rl_lower_statements.proofs.StatementDerivations.{statement_derived}

-- Tests of cases.

moved_test : {names : Names} (at : At) (w : Word) (fields : Pieces) (s t : State) (p : Place) (b : Bool)
    → may_move names (Node at w fields) ≡ b → Lowered names (Node at w fields) (moving_by b w at.span s) t p
    → LoweredCaseTest names (Node at w fields) s t (Some p)
moved_test at w fields s t p true is l = lowered.CaseTested (Node at w fields) s t p is l
moved_test at w fields s t p false is l = lowered.CaseMoved at w fields s t p is l

pub case_tested : {names : Names} (e : Syntax) {s b t : State} {p : Place} → fits (field.One sort.Expression) e ≡ true
    → b ≡ moving names s e → LowersExpression names e b t p → LowersCaseTest names e s t (Some p)
case_tested {names} (Node at w fields) {s} {b} {t} {p} fit is l =
    told_case_test
    (moved_test at w fields s t p (may_move names (Node at w fields)) refl
    (subst (λ (o : State). Lowered names (Node at w fields) o t p) is l.by))
case_tested (Listed parts) fit is l = absurd (cc)
case_tested (Said text) fit is l = absurd (cc)
case_tested (Count number) fit is l = absurd (cc)
case_tested (Flag flag) fit is l = absurd (cc)
case_tested Absent fit is l = absurd (cc)

pub case_untested : {names : Names} (s : State) {e : Syntax} → Absent ≡ e → LowersCaseTest names e s s None
case_untested {names} s is = subst (λ (e : Syntax). LowersCaseTest names e s s None) is (told_case_test (lowered.NoCaseTest s))

pub case_test_shown : {names : Names} {e shown : Syntax} {s t : State} {p : Option Place} → e ≡ shown → LowersCaseTest names e s t p
    → LowersCaseTest names shown s t p
case_test_shown {names} {e} {shown} {s} {t} {p} is l = subst (λ (x : Syntax). LowersCaseTest names x s t p) is l

pub moving_room : (names : Names) (e : Syntax) (s b : State) (more : ℕ) → b ≡ moving names s e → HasRoom s more → HasRoom b more
moving_room names e s b more is room =
    moved_room s (moving names s e) b 0 more more is (moving_size names e s) (omega arith) room

-- The last case, and those before it.

pub joined_last : (first : Pieces) (case : Syntax) (second : Pieces)
    → joined (joined first (Then case End)) second ≡ joined first (Then case second)
joined_last End case second = refl
joined_last (Then piece first) case second = ap (Then piece) (joined_last first case second)

pub joined_none : (first : Pieces) → joined first End ≡ first
joined_none End = refl
joined_none (Then piece first) = ap (Then piece) (joined_none first)

nodes_joined : (first second : Pieces) → nodes_of (joined first second) ≡ nodes_of first + nodes_of second
nodes_joined End second = omega arith
nodes_joined (Then piece first) second = let rest = nodes_joined first second in omega (arith, rest)

pub nodes_split : {left : Pieces} (rest : Pieces) (case : Syntax) → left ≡ joined rest (Then case End)
    → nodes_of left ≡ nodes_of rest + nodes case
nodes_split {left} rest case split =
    let whole : nodes_of left ≡ nodes_of (joined rest (Then case End)) = ap nodes_of split in
    omega (arith, whole, nodes_joined rest (Then case End))

all_may : (names : Names) (around : List Around) (rest : Pieces) (case : Syntax)
    → AreLowerableCases names around (joined rest (Then case End))
    → AreLowerableCases names around rest × IsLowerableCase names around case
all_may names around End case may = (tt, may.0)
all_may names around (Then piece rest) case may =
    let others : AreLowerableCases names around rest × IsLowerableCase names around case = all_may names around rest case may.1 in
    ((may.0, others.0), others.1)

pub cases_may : (names : Names) (around : List Around) {left : Pieces} (rest : Pieces) (case : Syntax) → left ≡ joined rest (Then case End)
    → AreLowerableCases names around left → AreLowerableCases names around rest × IsLowerableCase names around case
cases_may names around {left} rest case split may = all_may names around rest case (subst (AreLowerableCases names around) split may)

-- Trees before the last one, and the last one, fit as they do in the row.

pub every_split : (k : Kind) (rest : Pieces) (case : Syntax) → every k (joined rest (Then case End)) ≡ true
    → (every k rest ≡ true) × (fits (field.One k) case ≡ true)
every_split k End case fit =
    (refl, (and_parts (is_item case) (fits (field.One k) case) (and_parts (is_item case && fits (field.One k) case) true fit).0).1)
every_split k (Then piece rest) case fit =
    let whole = and_parts (is_item piece && fits (field.One k) piece) (every k (joined rest (Then case End))) fit in
    let others : (every k rest ≡ true) × (fits (field.One k) case ≡ true) = every_split k rest case whole.1 in
    (ap (λ (b : Bool). b && every k rest) whole.0 ∙ others.0, others.1)

pub front_fits : (k : Kind) (all : Pieces) (case : Syntax) (rest : Pieces) → all ≡ joined rest (Then case End) → every k all ≡ true
    → every k rest ≡ true
front_fits k all case rest is fit = (every_split k rest case (sym (ap (every k) is) ∙ fit)).0

pub last_fits : (k : Kind) (all : Pieces) (case : Syntax) (rest : Pieces) → all ≡ joined rest (Then case End) → every k all ≡ true
    → fits (field.One k) case ≡ true
last_fits k all case rest is fit = (every_split k rest case (sym (ap (every k) is) ∙ fit)).1

pub ruleset fitting = (front_fits, last_fits)

pieces_last : (rest : List Numbered) (last : Numbered)
    → pieces_of (map syntax (rest ++ last ∷ [])) ≡ joined (pieces_of (map syntax rest)) (Then (syntax last) End)
pieces_last [] last = refl
pieces_last (first ∷ rest) last = ap (Then (syntax first)) (pieces_last rest last)

pub last_pieces : (all rest : List Numbered) (last : Numbered) → all ≡ rest ++ last ∷ []
    → pieces_of (map syntax all) ≡ joined (pieces_of (map syntax rest)) (Then (syntax last) End)
last_pieces all rest last is = ap (λ (l : List Numbered). pieces_of (map syntax l)) is ∙ pieces_last rest last

pub no_pieces : (all : List Numbered) → length all ≡ 0 → pieces_of (map syntax all) ≡ End
no_pieces [] none = refl
no_pieces (first ∷ rest) none = absurd (cc)

pub ruleset lasts = (last_pieces, no_pieces)

-- A case.

pub case_framed : {names : Names} {at : At} {test : Syntax} {statements : Pieces} {tree : Syntax} {f f1 f2 : SwitchParts}
    {x b y b2 z : State}
    {p : Option Place} (f3 : SwitchParts)
    → Node at word.Case (Then test (Then (Listed statements) End)) ≡ tree
    → b ≡ switch_entered f x → f1 ≡ switch_after_enter f x → LowersStatements names statements b y
    → b2 ≡ switch_left f1 y at.span → f2 ≡ switch_after_leave f1 → LowersCaseTest names test b2 z p
    → f3 ≡ switch_after_done f2 p → FramesCase names tree f f3 x z
case_framed {names} {at} {test} {statements} {tree} {f} {f1} {f2} {x} {b} {y} {b2} {z} {p} f3 is entered after l_statements left shut
    l_test done = record {
      next = λ begun span cases k.
          let inside : f1 ≡ switch_after_enter (switch_at begun span None k.ks) x =
          after ∙ ap (λ (q : SwitchParts). switch_after_enter q x) k.framed in
          record {
            ks = record { test = p; block = block_id x.env.next_block } ∷ k.ks;
            framed = done
                ∙ ap (λ (q : SwitchParts). switch_after_done q p) (shut ∙ ap switch_after_leave inside)
                ∙ switch_at_more begun x span None k.ks p;
            by =
                subst (λ (t : Syntax). LoweredCases names begun (Then t cases)
                (record { test = p; block = block_id x.env.next_block } ∷ k.ks) z) is
                (lowered.NextCase at test statements cases k.ks begun x y z p k.by
                (subst (λ (o : State). LoweredStatements names statements o y)
                (entered ∙ ap (λ (q : SwitchParts). switch_entered q x) k.framed) l_statements.by)
                (subst (λ (o : State). LoweredCaseTest names test o z p)
                (left ∙ ap (λ (q : SwitchParts). switch_left q y at.span) inside) l_test.by));
          };
    }

-- In the hole of its statements, and in that of its test.

-- A scope that was opened is there behind the statements.
pub case_scope : {names : Names} {statements : Pieces} (f : SwitchParts) (x b y : State) → b ≡ switch_entered f x
    → LowersStatements names statements b y → 0 < length y.scopes
case_scope f x b y entered l =
    let kept : y.scopes ≡ x.scopes ++ scopes.Switch f.label (block_id f.behind.id.0) ∷ [] =
    (statements_blocks l.by).extends.scopes ∙ ap (λ (o : State). o.scopes) entered in
    let longer : length y.scopes ≡ length (x.scopes ++ scopes.Switch f.label (block_id f.behind.id.0) ∷ []) =
    ap (λ (l : List JumpScope). length l) kept in
    omega (arith, longer, length-append x.scopes (scopes.Switch f.label (block_id f.behind.id.0) ∷ []))

-- All cases.

pub cases_begun : {names : Names} {span : Span} {f : SwitchParts} (all : Pieces) (s b : State) → b ≡ switch_begun s
    → f ≡ switch_at s span None []
    → FramesBehind names s span all all f b
cases_begun {names} {span} {f} all s b begun framed = record {
  behind = End;
  whole = joined_none all;
  cases = record {
    ks = [];
    framed = framed;
    by = subst (λ (n : State). LoweredCases names s End [] n) (sym begun) (lowered.NoCase s);
  };
}

pub cases_next : {names : Names} {begun : State} {span : Span} {all left rest : Pieces} {case : Syntax} {f f2 : SwitchParts} {x : State}
    (new : State)
    → left ≡ joined rest (Then case End) → FramesBehind names begun span all left f x → FramesCase names case f f2 x new
    → FramesBehind names begun span all rest f2 new
cases_next {names} {begun} {span} {all} {left} {rest} {case} new split b l = record {
  behind = Then case b.behind;
  whole = sym (joined_last rest case b.behind) ∙ ap (λ (q : Pieces). joined q b.behind) (sym split) ∙ b.whole;
  cases = l.next begun span b.behind b.cases;
}

pub cases_done : {names : Names} {begun : State} {span : Span} {all left : Pieces} {f : SwitchParts} {x : State} → left ≡ End
    → FramesBehind names begun span all left f x → FramesCases names begun span all f x
cases_done {names} {begun} {span} {all} {left} {f} {x} none b =
    subst (λ (q : Pieces). FramesCases names begun span q f x) (ap (λ (q : Pieces). joined q b.behind) (sym none) ∙ b.whole) b.cases

pub behind_label : {names : Names} {begun : State} {span : Span} {all left : Pieces} {f : SwitchParts} {x : State}
    → FramesBehind names begun span all left f x → f.label ≡ None
behind_label b = ap (λ (q : SwitchParts). q.label) b.cases.framed

pub behind_named : {names : Names} {begun : State} {span : Span} {all left : Pieces} {f : SwitchParts} {x : State}
    → FramesBehind names begun span all left f x → IsNamed names begun → IsNamed names x
behind_named b named = (told_cases b.cases.by).named named

pub behind_arounds : {names : Names} {begun : State} {span : Span} {all left : Pieces} {f : SwitchParts} {x : State}
    → FramesBehind names begun span all left f x → arounds x ≡ arounds begun
behind_arounds b = cases_arounds b.cases.by

pub behind_room : {names : Names} {begun : State} {span : Span} {all left : Pieces} {f : SwitchParts} {x : State}
    → FramesBehind names begun span all left f x → HasRoom begun (share (nodes_of all) + 1) → HasRoom x (share (nodes_of left))
behind_room {all = all} {left = left} b room =
    let size = (told_cases b.cases.by).size in
    let whole : nodes_of (joined left b.behind) ≡ nodes_of all = ap nodes_of b.whole in
    omega (arith, size, whole, nodes_joined left b.behind, room)

-- The statement.

pub switch_told : {names : Names} {at : At} {value : Syntax} {cases : Pieces} {s t u : State} {p : Place} {f : SwitchParts} (new : State)
    → FramesCases names s at.span cases f t → LowersExpression names value t u p → new ≡ switch_ended f u p
    → LowersStatement names (Node at word.Switch (Then value (Then (Listed cases) End))) s new
switch_told {names} {at} {value} {cases} {s} {t} {u} {p} {f} new k l moved =
    statement_derived _ (Node at word.Switch (Then value (Then (Listed cases) End))) s _ new refl
    (moved ∙ ap (λ (q : SwitchParts). switch_ended q u p) k.framed ∙ switch_ended_at s u at.span None k.ks p)
    (lowered.Switch at value cases k.ks s t u p k.by l.by)

pub cases_named : {names : Names} {begun : State} {span : Span} {cases : Pieces} {f : SwitchParts} {x : State}
    → FramesCases names begun span cases f x → IsNamed names begun → IsNamed names x
cases_named k named = (told_cases k.by).named named

pub cases_room : {names : Names} {begun : State} {span : Span} {cases : Pieces} {f : SwitchParts} {x : State} (more all : ℕ)
    → FramesCases names begun span cases f x → share (nodes_of cases) + 1 + more ≤ all → HasRoom begun all → HasRoom x more
cases_room more all k fits room =
    let size = (told_cases k.by).size in
    omega (arith, size, fits, room)
