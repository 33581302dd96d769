-- Derivations of expressions whose parts are lowered in frames, and the room and the names in their holes.
use Rattle.std.proofs.Common.{◌≡◌, ℕ, ◌+◌, ◌≤◌, refl, ap, sym, ◌∙◌, subst, arith}
use Rattle.rl_base.specs.Operators.{logical_text}
use Rattle.rl_base.specs.declared.operator.LogicalOperator.{LogicalOperator}
use Rattle.rl_base.specs.declared.span.Span.{Span}
use Rattle.rl_builder.specs.Builder.{State}
use Rattle.rl_frames.specs.Frames.{LogicalParts, logical_after, logical_at, logical_ended, logical_righted, SequenceParts, sequence_at}
use Rattle.rl_frames.specs.Frames.{sequence_ended, TernaryParts, ternary_after, ternary_alternated, ternary_at, ternary_consequent}
use Rattle.rl_frames.specs.Frames.{ternary_ended, ternary_parted}
use Rattle.rl_frames.specs.Parts.{logical_begun, sequence_begun, ternary_begun}
use Rattle.rl_hir.specs.declared.instruction.Place.{Place}
use Rattle.rl_lowered.proofs.Names.{names_logical_begun, names_logical_righted, names_sequence_begun, names_ternary_alternated}
use Rattle.rl_lowered.proofs.Names.{names_ternary_begun, names_ternary_consequent}
use Rattle.rl_frames.proofs.FrameSizes.{logical_begun_size, logical_righted_size, sequence_begun_size, ternary_alternated_size}
use Rattle.rl_frames.proofs.FrameSizes.{ternary_begun_size, ternary_consequent_size}
use Rattle.rl_lowered.specs.Lowered as lowered
use Rattle.rl_lowered.specs.Lowered.{Lowered, LoweredLast, value_span}
use Rattle.rl_lowered.specs.Named.{IsNamed}
use Rattle.rl_lowered.specs.Promised.{HasRoom, LowersExpression, LowersLast, share}
use Rattle.rl_names.specs.Names.{Names}
use Rattle.rl_runs.specs.Blocks.{size_of}
use Rattle.rl_syntax.specs.declared.numbered.At.{At}
use Rattle.rl_syntax.specs.declared.word.Word.TheVariants as word
use Rattle.rl_syntax.specs.Syntax.{Syntax, Node, Listed, Said, Pieces, End, Then, span_of}
use Rattle.rl_lower_parts.proofs.Derivations.{derived, room_after}

pub logical_ok : {names : Names} {at : At} {operator : LogicalOperator} {left right : Syntax} {s b1 s2 b2 s3 : State} {r l : Place}
    {f : LogicalParts}
    {first second : Span} (f2 : LogicalParts) (new : State) (place : Place) → first ≡ span_of left → second ≡ value_span r right
    → f ≡ logical_at s at.span operator first → b1 ≡ logical_begun s at.span first → LowersExpression names right b1 s2 r
    → b2 ≡ logical_righted f s2 r second → f2 ≡ logical_after f → LowersExpression names left b2 s3 l
    → new ≡ logical_ended f2 s3 l → place ≡ f2.place
    → LowersExpression names (Node at word.Logical (Then (Said (logical_text operator)) (Then left (Then right End)))) s new place
logical_ok {names} {at} {operator} {left} {right} {s} {b1} {s2} {b2} {s3} {r} {l} {f} {first} {second} f2 new place lefts rights framed
    begun l_right
    righted after l_left moved placed =
    derived tree tree s _ new _ place refl
    (moved ∙ ap (λ (q : LogicalParts). logical_ended q s3 l) (after ∙ ap logical_after whole))
    (placed ∙ ap (λ (q : LogicalParts). q.place) (after ∙ ap logical_after whole))
    (lowered.Logical at operator left right s s2 s3 l r
    (subst (λ (o : State). Lowered names right o s2 r) (begun ∙ ap (λ (x : Span). logical_begun s at.span x) lefts) l_right.by)
    (subst (λ (o : State). Lowered names left o s3 l)
    (righted ∙ ap (λ (q : LogicalParts). logical_righted q s2 r second) whole
    ∙ ap (λ (x : Span). logical_righted (logical_at s at.span operator (span_of left)) s2 r x) rights) l_left.by))
  where
    tree : Syntax
    tree = Node at word.Logical (Then (Said (logical_text operator)) (Then left (Then right End)))

    whole : f ≡ logical_at s at.span operator (span_of left)
    whole = framed ∙ ap (λ (x : Span). logical_at s at.span operator x) lefts

pub conditional_ok : {names : Names} {at : At} {test consequent alternate : Syntax} {s b1 s2 b2 s3 b3 s4 : State} {c a p : Place}
    {f f2 : TernaryParts}
    {first second : Span} (f3 : TernaryParts) (new : State) (place : Place) → first ≡ span_of consequent → second ≡ span_of alternate
    → f ≡ ternary_at s at.span → b1 ≡ ternary_begun s at.span → LowersExpression names consequent b1 s2 c
    → b2 ≡ ternary_consequent f s2 c first → f2 ≡ ternary_parted f s2 c first → LowersExpression names alternate b2 s3 a
    → b3 ≡ ternary_alternated f2 s3 a second → f3 ≡ ternary_after f2 → LowersExpression names test b3 s4 p
    → new ≡ ternary_ended f3 s4 p → place ≡ f3.place
    → LowersExpression names (Node at word.Cond (Then test (Then consequent (Then alternate End)))) s new place
conditional_ok {names} {at} {test} {consequent} {alternate} {s} {b1} {s2} {b2} {s3} {b3} {s4} {c} {a} {p} {f} {f2} {first} {second} f3 new
    place
    firsts seconds framed begun l_consequent parted after l_alternate joined shut l_test moved placed =
    derived tree tree s _ new _ place refl
    (moved ∙ ap (λ (q : TernaryParts). ternary_ended q s4 p) last)
    (placed ∙ ap (λ (q : TernaryParts). q.place) last)
    (lowered.Conditional at test consequent alternate s s2 s3 s4 c a p
    (subst (λ (o : State). Lowered names consequent o s2 c) begun l_consequent.by)
    (subst (λ (o : State). Lowered names alternate o s3 a)
    (parted ∙ ap (λ (q : TernaryParts). ternary_consequent q s2 c first) framed
    ∙ ap (λ (x : Span). ternary_consequent (ternary_at s at.span) s2 c x) firsts) l_alternate.by)
    (subst (λ (o : State). Lowered names test o s4 p)
    (joined ∙ ap (λ (q : TernaryParts). ternary_alternated q s3 a second) middle
    ∙ ap (λ (x : Span). ternary_alternated (ternary_parted (ternary_at s at.span) s2 c (span_of consequent)) s3 a x) seconds) l_test.by))
  where
    tree : Syntax
    tree = Node at word.Cond (Then test (Then consequent (Then alternate End)))

    middle : f2 ≡ ternary_parted (ternary_at s at.span) s2 c (span_of consequent)
    middle = after ∙ ap (λ (q : TernaryParts). ternary_parted q s2 c first) framed
        ∙ ap (λ (x : Span). ternary_parted (ternary_at s at.span) s2 c x) firsts

    last : f3 ≡ ternary_after (ternary_parted (ternary_at s at.span) s2 c (span_of consequent))
    last = shut ∙ ap ternary_after middle

pub sequence_ok : {names : Names} {at : At} {es : Pieces} {s b s2 : State} {p : Place} (f : SequenceParts) (new : State) (place : Place)
    → f ≡ sequence_at s at.span → b ≡ sequence_begun s at.span → LowersLast names es b s2 p → new ≡ sequence_ended f s2 p at.span
    → place ≡ f.place → LowersExpression names (Node at word.Seq (Then (Listed es) End)) s new place
sequence_ok {names} {at} {es} {s} {b} {s2} {p} f new place framed begun l moved placed =
    by_parts es (subst (λ (o : State). LoweredLast names es o s2 p) begun l.by)
  where
    by_parts : (es : Pieces) → LoweredLast names es (sequence_begun s at.span) s2 p
        → LowersExpression names (Node at word.Seq (Then (Listed es) End)) s new place
    by_parts End made = elim made [ ]
    by_parts (Then e es) made =
        derived _ (Node at word.Seq (Then (Listed (Then e es)) End)) s _ new _ place refl
        (moved ∙ ap (λ (q : SequenceParts). sequence_ended q s2 p at.span) framed)
        (placed ∙ ap (λ (q : SequenceParts). q.place) framed) (lowered.Sequence at e es s s2 p made)

-- Names and room in the holes.

pub logical_begun_named : {names : Names} (s b : State) (span left : Span) → b ≡ logical_begun s span left → IsNamed names s
    → IsNamed names b
logical_begun_named {names} s b span left is named = subst (IsNamed names) (sym is) ((names_logical_begun s span left).named named)

pub logical_begun_room : (s b : State) (span left : Span) (more all : ℕ) → b ≡ logical_begun s span left → 12 + more ≤ all → HasRoom s all
    → HasRoom b more
logical_begun_room s b span left more all is fits room =
    subst (λ (o : State). HasRoom o more) (sym is) (omega (arith, fits, room, logical_begun_size s span left))

pub logical_righted_named : {names : Names} (f : LogicalParts) (s b : State) (value : Place) (part : Span)
    → b ≡ logical_righted f s value part
    → IsNamed names s → IsNamed names b
logical_righted_named {names} f s b value part is named = subst (IsNamed names) (sym is)
    ((names_logical_righted f s value part).named named)

pub logical_righted_room : (f : LogicalParts) (s b : State) (value : Place) (part : Span) (more all : ℕ)
    → b ≡ logical_righted f s value part
    → 4 + more ≤ all → HasRoom s all → HasRoom b more
logical_righted_room f s b value part more all is fits room =
    subst (λ (o : State). HasRoom o more) (sym is) (omega (arith, fits, room, logical_righted_size f s value part))

pub ternary_begun_named : {names : Names} (s b : State) (span : Span) → b ≡ ternary_begun s span → IsNamed names s → IsNamed names b
ternary_begun_named {names} s b span is named = subst (IsNamed names) (sym is) ((names_ternary_begun s span).named named)

pub ternary_begun_room : (s b : State) (span : Span) (more all : ℕ) → b ≡ ternary_begun s span → 5 + more ≤ all → HasRoom s all
    → HasRoom b more
ternary_begun_room s b span more all is fits room =
    subst (λ (o : State). HasRoom o more) (sym is) (omega (arith, fits, room, ternary_begun_size s span))

pub ternary_consequent_named : {names : Names} (f : TernaryParts) (s b : State) (value : Place) (part : Span)
    → b ≡ ternary_consequent f s value part
    → IsNamed names s → IsNamed names b
ternary_consequent_named {names} f s b value part is named = subst (IsNamed names) (sym is)
    ((names_ternary_consequent f s value part).named named)

pub ternary_consequent_room : (f : TernaryParts) (s b : State) (value : Place) (part : Span) (more all : ℕ)
    → b ≡ ternary_consequent f s value part
    → 5 + more ≤ all → HasRoom s all → HasRoom b more
ternary_consequent_room f s b value part more all is fits room =
    subst (λ (o : State). HasRoom o more) (sym is) (omega (arith, fits, room, ternary_consequent_size f s value part))

pub ternary_alternated_named : {names : Names} (f : TernaryParts) (s b : State) (value : Place) (part : Span)
    → b ≡ ternary_alternated f s value part
    → IsNamed names s → IsNamed names b
ternary_alternated_named {names} f s b value part is named = subst (IsNamed names) (sym is)
    ((names_ternary_alternated f s value part).named named)

pub ternary_alternated_room : (f : TernaryParts) (s b : State) (value : Place) (part : Span) (more all : ℕ)
    → b ≡ ternary_alternated f s value part
    → 4 + more ≤ all → HasRoom s all → HasRoom b more
ternary_alternated_room f s b value part more all is fits room =
    subst (λ (o : State). HasRoom o more) (sym is) (omega (arith, fits, room, ternary_alternated_size f s value part))

pub sequence_begun_named : {names : Names} (s b : State) (span : Span) → b ≡ sequence_begun s span → IsNamed names s → IsNamed names b
sequence_begun_named {names} s b span is named = subst (IsNamed names) (sym is) ((names_sequence_begun s span).named named)

pub sequence_begun_room : (s b : State) (span : Span) (more all : ℕ) → b ≡ sequence_begun s span → 4 + more ≤ all → HasRoom s all
    → HasRoom b more
sequence_begun_room s b span more all is fits room =
    subst (λ (o : State). HasRoom o more) (sym is) (omega (arith, fits, room, sequence_begun_size s span))

-- Behind the right part of a logical expression, and behind its left part.

pub logical_second_room : (l r : ℕ) (s b s2 : State) (span left : Span) → b ≡ logical_begun s span left → size_of s2 ≤ size_of b + share r
    → HasRoom s (share (0 + (l + (r + 0)) + 1)) → HasRoom s2 (share l + 52)
logical_second_room l r s b s2 span left is size room =
    room_after b s2 (share r) (share l + 52) (share r + (share l + 52)) size (omega arith)
    (logical_begun_room s b span left (share r + (share l + 52)) (share (0 + (l + (r + 0)) + 1)) is (omega arith) room)

pub logical_third_room : (l : ℕ) (f : LogicalParts) (s2 b s3 : State) (value : Place) (part : Span) → b ≡ logical_righted f s2 value part
    → size_of s3 ≤ size_of b + share l → HasRoom s2 (share l + 52) → HasRoom s3 48
logical_third_room l f s2 b s3 value part is size room =
    room_after b s3 (share l) 48 (share l + 48) size (omega arith)
    (logical_righted_room f s2 b value part (share l + 48) (share l + 52) is (omega arith) room)

-- Behind the consequent of a conditional expression, and behind its alternate.

pub ternary_second_room : (t c a : ℕ) (s b s2 : State) (span : Span) → b ≡ ternary_begun s span → size_of s2 ≤ size_of b + share c
    → HasRoom s (share (t + (c + (a + 0)) + 1)) → HasRoom s2 (share a + (share t + 59))
ternary_second_room t c a s b s2 span is size room =
    room_after b s2 (share c) (share a + (share t + 59)) (share c + (share a + (share t + 59))) size (omega arith)
    (ternary_begun_room s b span (share c + (share a + (share t + 59))) (share (t + (c + (a + 0)) + 1)) is (omega arith) room)

pub ternary_third_room : (t a : ℕ) (f : TernaryParts) (s2 b s3 : State) (value : Place) (part : Span)
    → b ≡ ternary_consequent f s2 value part
    → size_of s3 ≤ size_of b + share a → HasRoom s2 (share a + (share t + 59)) → HasRoom s3 (share t + 54)
ternary_third_room t a f s2 b s3 value part is size room =
    room_after b s3 (share a) (share t + 54) (share a + (share t + 54)) size (omega arith)
    (ternary_consequent_room f s2 b value part (share a + (share t + 54)) (share a + (share t + 59)) is (omega arith) room)
