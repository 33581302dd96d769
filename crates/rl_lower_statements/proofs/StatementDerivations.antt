-- Derivations of statements, from the moves of their lowering, and the room and the names in the holes of frames.
use Rattle.std.proofs.Common.{◌≡◌, ℕ, ◌+◌, ◌≤◌, true, false, true≢false, Bool, List, Some, None, Result, Ok, Err, OnOk, refl, ap, sym, ◌∙◌}
use Rattle.std.proofs.Common.{subst, arith}
use Rattle.rl_base.specs.declared.span.Span.{Span}
use Rattle.rl_base.specs.declared.stop.Stop.{Stop}
use Rattle.rl_builder.specs.Builder.{State}
use Rattle.rl_builder.specs.Temporaries.{temporary, with_value}
use Rattle.rl_frames.specs.Frames.{IfParts, if_after_consequent, if_alternate, if_at, if_consequent, if_ended, if_shut}
use Rattle.rl_frames.specs.Parts.{if_begun}
use Rattle.rl_grammar.specs.Grammar.{fits}
use Rattle.rl_grammar.specs.declared.kind.Field.TheVariants as field
use Rattle.rl_grammar.specs.declared.kind.Kind.TheVariants as sort
use Rattle.rl_hir.specs.declared.function.BlockKind.TheVariants as blocks
use Rattle.rl_hir.specs.declared.instruction.InstructionValue.TheVariants as values
use Rattle.rl_hir.specs.declared.instruction.Place.{Place}
use Rattle.rl_hir.specs.declared.instruction.PrimitiveValue.TheVariants as primitives
use Rattle.rl_hir.specs.declared.terminal.ReturnVariant.TheVariants as returns
use Rattle.rl_lowered.proofs.Names.{names_same}
use Rattle.rl_frames.proofs.FrameSizes.{if_alternate_size, if_begun_size, if_consequent_size}
use Rattle.rl_lowered.proofs.Told.{told_statement}
use Rattle.rl_lowered.specs.Lowered as lowered
use Rattle.rl_lowered.specs.Lowered.{Lowered, LoweredStatement, LoweredStatements}
use Rattle.rl_lowered.specs.Named.{IsNamed}
use Rattle.rl_lowered.specs.Promised.{HasRoom, LowersExpression, LowersStatement, LowersStatements, share}
use Rattle.rl_names.specs.Names.{Names}
use Rattle.rl_promises.specs.Jumps.{Around}
use Rattle.rl_promises.specs.Lowerable.{IsLowerableIn}
use Rattle.rl_runs.specs.Blocks.{size_of}
use Rattle.rl_runs.specs.Moves.{returned_from}
use Rattle.rl_syntax.specs.declared.numbered.At.{At}
use Rattle.rl_syntax.specs.declared.word.Word.TheVariants as word
use Rattle.rl_syntax.specs.Syntax.{Syntax, Node, Listed, Absent, Pieces, End, Then, span_of}
use Rattle.rl_lower_parts.proofs.Derivations.{room_after}

-- A derivation, told of a tree and a state that are equal to its own.
pub statement_derived : {names : Names} (tree e : Syntax) (s t new : State) → e ≡ tree → new ≡ t → LoweredStatement names e s t
    → LowersStatement names tree s new
statement_derived {names} tree e s t new is moved by =
    told_statement (subst (λ (n : Syntax). LoweredStatement names n s new) is
    (subst (λ (n : State). LoweredStatement names e s n) (sym moved) by))

pub empty_told : {names : Names} {at : At} {tree : Syntax} {s : State} → Node at word.Empty End ≡ tree → LowersStatement names tree s s
empty_told {names} {at} {tree} {s} is = statement_derived tree (Node at word.Empty End) s s s is refl (lowered.Empty at s)

pub debugger_told : {names : Names} {at : At} {tree : Syntax} {s : State} (new : State) → Node at word.Debugger End ≡ tree
    → new ≡ with_value s values.Debugger (Some at.span) → LowersStatement names tree s new
debugger_told {names} {at} {tree} {s} new is moved =
    statement_derived tree (Node at word.Debugger End) s _ new is moved (lowered.Debugger at s)

pub expression_told : {names : Names} {at : At} {tree e : Syntax} {s t : State} {p : Place} → Node at word.Expr (Then e End) ≡ tree
    → LowersExpression names e s t p → LowersStatement names tree s t
expression_told {names} {at} {tree} {e} {s} {t} {p} is l =
    statement_derived tree (Node at word.Expr (Then e End)) s t t is refl (lowered.Expression at e s t p l.by)

pub return_ok : {names : Names} (at : At) {tree e : Syntax} {s t : State} {p : Place} (new : State) (r : Result (Unit {0}) Stop)
    → Node at word.Return (Then e End) ≡ tree → LowersExpression names e s t p
    → OnOk r (new ≡ returned_from t (Some at.span) returns.Explicit p blocks.Block) → OnOk r (LowersStatement names tree s new)
return_ok at {tree} {e} {s} {t} {p} new (Ok x) is l moved =
    statement_derived tree (Node at word.Return (Then e End)) s _ new is moved (lowered.Return at e s t p l.by)
return_ok at new (Err e) is l moved = tt

pub return_nothing_ok : (names : Names) (at : At) {tree : Syntax} (s t new : State) (p : Place) (r : Result (Unit {0}) Stop)
    → Node at word.Return (Then Absent End) ≡ tree → t ≡ with_value s (values.Primitive primitives.Undefined) None → p ≡ temporary s None
    → OnOk r (new ≡ returned_from t (Some at.span) returns.Explicit p blocks.Block) → OnOk r (LowersStatement names tree s new)
return_nothing_ok names at {tree} s t new p (Ok x) is valued placed moved =
    statement_derived tree (Node at word.Return (Then Absent End)) s _ new is
    (moved ∙ ap (λ (o : State). returned_from o (Some at.span) returns.Explicit p blocks.Block) valued
    ∙ ap (λ (q : Place). returned_from (with_value s (values.Primitive primitives.Undefined) None) (Some at.span) returns.Explicit q
    blocks.Block) placed)
    (lowered.ReturnNothing at s)
return_nothing_ok names at s t new p (Err e) is valued placed moved = tt

pub block_ok : (names : Names) {at : At} {tree : Syntax} {statements : Pieces} (s new : State) (r : Result (Unit {0}) Stop)
    → Node at word.Block (Then (Listed statements) End) ≡ tree → OnOk r (LowersStatements names statements s new)
    → OnOk r (LowersStatement names tree s new)
block_ok names {at} {tree} {statements} s new (Ok x) is l =
    statement_derived tree (Node at word.Block (Then (Listed statements) End)) s new new is refl (lowered.Block at statements s new l.by)
block_ok names s new (Err e) is l = tt

pub if_then_told : {names : Names} {at : At} {test consequent : Syntax} {s b1 s2 b2 s3 : State} {p : Place} {f : IfParts} {first : Span}
    (f2 : IfParts) (new : State) → first ≡ span_of consequent → f ≡ if_at s at.span false → b1 ≡ if_begun s
    → LowersStatement names consequent b1 s2 → b2 ≡ if_consequent f s2 first
    → f2 ≡ if_after_consequent f s2 → LowersExpression names test b2 s3 p → new ≡ if_ended f2 s3 p
    → LowersStatement names (Node at word.If (Then test (Then consequent (Then Absent End)))) s new
if_then_told {names} {at} {test} {consequent} {s} {b1} {s2} {b2} {s3} {p} {f} {first} f2 new firsts framed begun second parted after l_test
    moved =
    statement_derived tree tree s _ new refl
    (moved ∙ ap (λ (q : IfParts). if_ended q s3 p) (after ∙ ap (λ (q : IfParts). if_after_consequent q s2) framed))
    (lowered.IfThen at test consequent s s2 s3 p
    (subst (λ (o : State). LoweredStatement names consequent o s2) begun second.by)
    (subst (λ (o : State). Lowered names test o s3 p)
    (parted ∙ ap (λ (q : IfParts). if_consequent q s2 first) framed
    ∙ ap (λ (x : Span). if_consequent (if_at s at.span false) s2 x) firsts) l_test.by))
  where
    tree : Syntax
    tree = Node at word.If (Then test (Then consequent (Then Absent End)))

pub if_else_told : {names : Names} {at : At} {test consequent alternate : Syntax} {s b1 s2 b2 s3 b3 s4 : State} {p : Place} {f f2 : IfParts}
    {first other : Span} (f3 : IfParts) (new : State) → first ≡ span_of consequent → other ≡ span_of alternate
    → f ≡ if_at s at.span true → b1 ≡ if_begun s → LowersStatement names consequent b1 s2 → b2 ≡ if_consequent f s2 first
    → f2 ≡ if_after_consequent f s2 → LowersStatement names alternate b2 s3 → b3 ≡ if_alternate f2 s3 other → f3 ≡ if_shut f2
    → LowersExpression names test b3 s4 p → new ≡ if_ended f3 s4 p
    → LowersStatement names (Node at word.If (Then test (Then consequent (Then alternate End)))) s new
if_else_told {names} {at} {test} {consequent} {alternate} {s} {b1} {s2} {b2} {s3} {b3} {s4} {p} {f} {f2} {first} {other} f3 new firsts
    others
    framed begun second parted after third joined shut l_test moved =
    statement_derived tree tree s _ new refl
    (moved ∙ ap (λ (q : IfParts). if_ended q s4 p) (shut ∙ ap if_shut middle))
    (lowered.IfElse at test consequent alternate s s2 s3 s4 p
    (subst (λ (o : State). LoweredStatement names consequent o s2) begun second.by)
    (subst (λ (o : State). LoweredStatement names alternate o s3)
    (parted ∙ ap (λ (q : IfParts). if_consequent q s2 first) framed
    ∙ ap (λ (x : Span). if_consequent (if_at s at.span true) s2 x) firsts) third.by)
    (subst (λ (o : State). Lowered names test o s4 p)
    (joined ∙ ap (λ (q : IfParts). if_alternate q s3 other) middle
    ∙ ap (λ (x : Span). if_alternate (if_after_consequent (if_at s at.span true) s2) s3 x) others) l_test.by))
  where
    tree : Syntax
    tree = Node at word.If (Then test (Then consequent (Then alternate End)))

    middle : f2 ≡ if_after_consequent (if_at s at.span true) s2
    middle = after ∙ ap (λ (q : IfParts). if_after_consequent q s2) framed

-- Names and room in the holes.

pub if_begun_named : {names : Names} (s b : State) → b ≡ if_begun s → IsNamed names s → IsNamed names b
if_begun_named {names} s b is named = subst (IsNamed names) (sym is) ((names_same s (if_begun s) refl).named named)

pub if_begun_room : (s b : State) (more all : ℕ) → b ≡ if_begun s → 2 + more ≤ all → HasRoom s all → HasRoom b more
if_begun_room s b more all is fits room = subst (λ (o : State). HasRoom o more) (sym is) (omega (arith, fits, room, if_begun_size s))

-- Behind the consequent, where an alternate follows and where none does.
pub if_consequent_named : {names : Names} (at : Span) (has_alternate : Bool) (f : IfParts) (s0 s b : State) (part : Span)
    → f ≡ if_at s0 at has_alternate → b ≡ if_consequent f s part → IsNamed names s → IsNamed names b
if_consequent_named {names} at true f s0 s b part framed is named =
    subst (IsNamed names) (sym (is ∙ ap (λ (q : IfParts). if_consequent q s part) framed))
    ((names_same s (if_consequent (if_at s0 at true) s part) refl).named named)
if_consequent_named {names} at false f s0 s b part framed is named =
    subst (IsNamed names) (sym (is ∙ ap (λ (q : IfParts). if_consequent q s part) framed))
    ((names_same s (if_consequent (if_at s0 at false) s part) refl).named named)

pub if_consequent_room : (f : IfParts) (s b : State) (part : Span) (more all : ℕ) → b ≡ if_consequent f s part → 1 + more ≤ all
    → HasRoom s all
    → HasRoom b more
if_consequent_room f s b part more all is fits room =
    subst (λ (o : State). HasRoom o more) (sym is) (omega (arith, fits, room, if_consequent_size f s part))

pub if_alternate_named : {names : Names} (f : IfParts) (s b : State) (part : Span) → b ≡ if_alternate f s part → IsNamed names s
    → IsNamed names b
if_alternate_named {names} f s b part is named = subst (IsNamed names) (sym is) ((names_same s (if_alternate f s part) refl).named named)

pub if_alternate_room : (f : IfParts) (s b : State) (part : Span) (more all : ℕ) → b ≡ if_alternate f s part → more ≤ all → HasRoom s all
    → HasRoom b more
if_alternate_room f s b part more all is fits room =
    subst (λ (o : State). HasRoom o more) (sym is) (omega (arith, fits, room, if_alternate_size f s part))

-- Behind the consequent, with room for the alternate, if there is one, and for the test; and behind the alternate.

pub if_second_room : (t c rest : ℕ) (s b s2 : State) → b ≡ if_begun s → size_of s2 ≤ size_of b + share c
    → HasRoom s (share (t + (c + rest) + 1)) → HasRoom s2 (share rest + (share t + 62))
if_second_room t c rest s b s2 is size room =
    room_after b s2 (share c) (share rest + (share t + 62)) (share c + (share rest + (share t + 62))) size (omega arith)
    (if_begun_room s b (share c + (share rest + (share t + 62))) (share (t + (c + rest) + 1)) is (omega arith) room)

pub if_third_room : (t a : ℕ) (f : IfParts) (s2 b s3 : State) (part : Span) → b ≡ if_consequent f s2 part → size_of s3 ≤ size_of b + share a
    → HasRoom s2 (share (a + 0) + (share t + 62)) → HasRoom s3 (share t + 61)
if_third_room t a f s2 b s3 part is size room =
    room_after b s3 (share a) (share t + 61) (share a + (share t + 61)) size (omega arith)
    (if_consequent_room f s2 b part (share a + (share t + 61)) (share (a + 0) + (share t + 62)) is (omega arith) room)

-- Statements in order.

pub statements_next : {names : Names} {left rest : Pieces} {first : Syntax} {s t new : State} → left ≡ Then first rest
    → LowersStatement names first s t → LoweredStatements names rest t new → LoweredStatements names left s new
statements_next {names} {left} {rest} {first} {s} {t} {new} split l more =
    subst (λ (es : Pieces). LoweredStatements names es s new) (sym split) (lowered.NextStatement first rest s t new l.by more)

pub statements_done : {names : Names} {left : Pieces} {s : State} → left ≡ End → LoweredStatements names left s s
statements_done {names} {left} {s} done = subst (λ (es : Pieces). LoweredStatements names es s s) (sym done) (lowered.NoStatement s)

-- A declaration of a function is not lowered.
pub function_unlowered : (names : Names) (around : List Around) (tree : Syntax) → fits (field.One sort.FunctionDeclaration) tree ≡ true
    → IsLowerableIn names around None tree → ⊥
function_unlowered names around (Node at word.Fundecl parts) fit may = true≢false (sym may.0)
function_unlowered names around _ fit may = true≢false (sym fit)
