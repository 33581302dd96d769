-- Derivations of loops over keys and values, from the moves of their lowering, and the room, the names and the statements around in their
-- holes.
use Rattle.std.proofs.Common.{◌≡◌, ℕ, ◌+◌, ◌≤◌, true, false, Bool, List, ◌∷◌, is_some, Some, Result, Ok, Err, OnOk, refl, ap, sym, ◌∙◌}
use Rattle.std.proofs.Common.{subst, arith}
use Rattle.rl_base.specs.declared.row.Row.TheVariants as row
use Rattle.rl_base.specs.declared.span.Span.{Span}
use Rattle.rl_base.specs.declared.stop.Stop.{Stop}
use Rattle.rl_builder.specs.Builder.{State, recorded}
use Rattle.rl_builder.specs.Temporaries.{with_value}
use Rattle.rl_frames.specs.Parts.{forin_begun, forof_begun}
use Rattle.rl_frames.specs.Rounds.{ForOfParts, RoundsParts, forin_at, forin_headed, forin_key, forin_righted, forof_after, forof_at}
use Rattle.rl_frames.specs.Rounds.{forof_bodied, forof_ended, forof_headed, forof_item, forof_iterator, forof_righted, forof_shut}
use Rattle.rl_frames.specs.Rounds.{forof_tested, rounds_bodied, rounds_ended, rounds_opened, rounds_shut}
use Rattle.rl_hir.specs.declared.instruction.InstructionValue.TheVariants as values
use Rattle.rl_hir.specs.declared.instruction.Place.{Place}
use Rattle.rl_lowered.proofs.Arounds.{arounds_in_forin, arounds_in_forof}
use Rattle.rl_lowered.proofs.Names.{names_same, names_then, names_value}
use Rattle.rl_lowered.specs.Arounds.{arounds}
use Rattle.rl_lowered.specs.Lowered as lowered
use Rattle.rl_lowered.specs.Lowered.{Lowered, LoweredHead, LoweredStatement}
use Rattle.rl_lowered.specs.Named.{IsNamed, KeepsNames}
use Rattle.rl_lowered.specs.Promised.{HasRoom, LowersExpression, LowersHead, LowersLoop, LowersStatement, share}
use Rattle.rl_model.specs.Actions.{Label}
use Rattle.rl_names.specs.Names.{Names}
use Rattle.rl_promises.specs.Jumps.{Around, InLoop}
use Rattle.rl_promises.specs.Lowerable.{IsLowerableIn}
use Rattle.rl_promises.specs.Rows.{refusal}
use Rattle.rl_runs.proofs.Sizes.{size_value}
use Rattle.rl_runs.specs.Blocks.{size_of}
use Rattle.rl_syntax.specs.declared.numbered.At.{At}
use Rattle.rl_syntax.specs.declared.word.Word.TheVariants as word
use Rattle.rl_syntax.specs.Syntax.{Syntax, Node, Flag, End, Then, span_of}
use Rattle.rl_lower_parts.proofs.Derivations.{room_after}
use Rattle.rl_lower_statements.proofs.LoopDerivations.{loop_derived, moved_named, moved_room}

-- The derivations.

pub for_in_told : {names : Names} {at : At} {own label : Label} {head right body : Syntax} {s b1 s2 b2 s3 b3 s4 : State}
    {collection key p : Place} {f f2 : RoundsParts} {first left : Span} (f3 : RoundsParts) (new : State)
    → label ≡ own → first ≡ span_of body → left ≡ span_of head
    → f ≡ forin_at s at.span → b1 ≡ forin_begun s label → LowersStatement names body b1 s2
    → b2 ≡ rounds_bodied f s2 first → f2 ≡ rounds_shut f → LowersExpression names right b2 s3 collection
    → b3 ≡ forin_righted f2 s3 left collection → f3 ≡ rounds_opened f2 → key ≡ forin_key f2 s3 left
    → LowersHead names key head b3 s4 p → new ≡ rounds_ended f3 s4 p
    → LowersLoop names own (Node at word.Forin (Then head (Then right (Then body End)))) s new
for_in_told {names} {at} {own} {label} {head} {right} {body} {s} {b1} {s2} {b2} {s3} {b3} {s4} {collection} {key} {p} {f} {f2} {first}
    {left}
    f3 new labels firsts lefts framed begun l_body bodied shut l_right righted opened keyed l_head moved =
    loop_derived _ (Node at word.Forin (Then head (Then right (Then body End)))) s _ new refl
    (moved ∙ ap (λ (q : RoundsParts). rounds_ended q s4 p) (opened ∙ ap rounds_opened whole))
    (lowered.ForIn at head right body s s2 s3 s4 collection p
    (subst (λ (o : State). LoweredStatement names body o s2) (begun ∙ ap (λ (x : Label). forin_begun s x) labels) l_body.by)
    (subst (λ (o : State). Lowered names right o s3 collection)
    (bodied ∙ ap (λ (q : RoundsParts). rounds_bodied q s2 first) framed
    ∙ ap (λ (x : Span). rounds_bodied (forin_at s at.span) s2 x) firsts) l_right.by)
    (subst (λ (k : Place). LoweredHead names k head (forin_righted (rounds_shut (forin_at s at.span)) s3 (span_of head) collection) s4 p)
    (keyed ∙ ap (λ (q : RoundsParts). forin_key q s3 left) whole
    ∙ ap (λ (x : Span). forin_key (rounds_shut (forin_at s at.span)) s3 x) lefts)
    (subst (λ (o : State). LoweredHead names key head o s4 p)
    (righted ∙ ap (λ (q : RoundsParts). forin_righted q s3 left collection) whole
    ∙ ap (λ (x : Span). forin_righted (rounds_shut (forin_at s at.span)) s3 x collection) lefts) l_head.by)))
  where
    whole : f2 ≡ rounds_shut (forin_at s at.span)
    whole = shut ∙ ap rounds_shut framed

pub for_of_told : {names : Names} {at : At} {own label : Label} {head right body : Syntax} {s b1 s2 b2 s3 b3 s4 : State}
    {collection item p : Place} {f f2 : ForOfParts} {first left : Span} (f3 : ForOfParts) (new : State)
    → label ≡ own → first ≡ span_of body → left ≡ span_of head
    → f ≡ forof_at s at.span → b1 ≡ forof_begun s label → LowersStatement names body b1 s2
    → b2 ≡ forof_bodied f s2 first → f2 ≡ forof_shut f → LowersExpression names right b2 s3 collection
    → b3 ≡ forof_righted f2 s3 left collection → f3 ≡ forof_after f2 → item ≡ forof_item f2 s3 left collection
    → LowersHead names item head b3 s4 p → new ≡ forof_ended f3 s4 p
    → LowersLoop names own (Node at word.Forof (Then (Flag false) (Then head (Then right (Then body End))))) s new
for_of_told {names} {at} {own} {label} {head} {right} {body} {s} {b1} {s2} {b2} {s3} {b3} {s4} {collection} {item} {p} {f} {f2} {first}
    {left} f3 new labels firsts lefts framed begun l_body bodied shut l_right righted opened given l_head moved =
    loop_derived _ (Node at word.Forof (Then (Flag false) (Then head (Then right (Then body End))))) s _ new refl
    (moved ∙ ap (λ (q : ForOfParts). forof_ended q s4 p) (opened ∙ ap forof_after whole))
    (lowered.ForOf at head right body s s2 s3 s4 collection p
    (subst (λ (o : State). LoweredStatement names body o s2) (begun ∙ ap (λ (x : Label). forof_begun s x) labels) l_body.by)
    (subst (λ (o : State). Lowered names right o s3 collection)
    (bodied ∙ ap (λ (q : ForOfParts). forof_bodied q s2 first) framed
    ∙ ap (λ (x : Span). forof_bodied (forof_at s at.span) s2 x) firsts) l_right.by)
    (subst (λ (v : Place). LoweredHead names v head (forof_righted (forof_shut (forof_at s at.span)) s3 (span_of head) collection) s4 p)
    (given ∙ ap (λ (q : ForOfParts). forof_item q s3 left collection) whole
    ∙ ap (λ (x : Span). forof_item (forof_shut (forof_at s at.span)) s3 x collection) lefts)
    (subst (λ (o : State). LoweredHead names item head o s4 p)
    (righted ∙ ap (λ (q : ForOfParts). forof_righted q s3 left collection) whole
    ∙ ap (λ (x : Span). forof_righted (forof_shut (forof_at s at.span)) s3 x collection) lefts) l_head.by)))
  where
    whole : f2 ≡ forof_shut (forof_at s at.span)
    whole = shut ∙ ap forof_shut framed

pub await_told : {names : Names} {at : At} {own : Label} {head right body : Syntax} {s : State} (is_await : Bool) (new : State)
    → is_await ≡ true → new ≡ recorded s (refusal row.F33 at.span)
    → LowersLoop names own (Node at word.Forof (Then (Flag is_await) (Then head (Then right (Then body End))))) s new
await_told {names} {at} {own} {head} {right} {body} {s} is_await new awaits noted =
    loop_derived _ (Node at word.Forof (Then (Flag true) (Then head (Then right (Then body End))))) s _ new
    (ap (λ (b : Bool). Node at word.Forof (Then (Flag b) (Then head (Then right (Then body End))))) (sym awaits)) noted
    (lowered.AwaitRefused at head right body s)

-- A loop without `await` is lowerable in its parts.
pub for_of_may : (names : Names) (around : List Around) (own : Label) (at : At) (head right body : Syntax) (is_await : Bool)
    → is_await ≡ false
    → IsLowerableIn names around own (Node at word.Forof (Then (Flag is_await) (Then head (Then right (Then body End)))))
    → IsLowerableIn names around own (Node at word.Forof (Then (Flag false) (Then head (Then right (Then body End)))))
for_of_may names around own at head right body is_await plain may =
    subst (λ (b : Bool). IsLowerableIn names around own (Node at word.Forof (Then (Flag b) (Then head (Then right (Then body End)))))) plain
    may

pub for_of_ok : (names : Names) (at : At) (own : Label) (head right body : Syntax) (is_await : Bool) (s new : State)
    (r : Result (Unit {0}) Stop) → is_await ≡ false
    → OnOk r (LowersLoop names own (Node at word.Forof (Then (Flag false) (Then head (Then right (Then body End))))) s new)
    → OnOk r (LowersLoop names own (Node at word.Forof (Then (Flag is_await) (Then head (Then right (Then body End))))) s new)
for_of_ok names at own head right body is_await s new (Ok x) plain l =
    subst (λ (b : Bool). LowersLoop names own (Node at word.Forof (Then (Flag b) (Then head (Then right (Then body End))))) s new)
    (sym plain) l
for_of_ok names at own head right body is_await s new (Err e) plain l = tt

-- The statements around in the bodies.

pub for_in_arounds : {own label : Label} (s b : State) → label ≡ own → b ≡ forin_begun s label → arounds b ≡ InLoop own ∷ arounds s
for_in_arounds {own} {label} s b labels begun =
    ap arounds begun ∙ arounds_in_forin s label ∙ ap (λ (l : Label). InLoop l ∷ arounds s) labels

pub for_of_arounds : {own label : Label} (s b : State) → label ≡ own → b ≡ forof_begun s label → arounds b ≡ InLoop own ∷ arounds s
for_of_arounds {own} {label} s b labels begun =
    ap arounds begun ∙ arounds_in_forof s label ∙ ap (λ (l : Label). InLoop l ∷ arounds s) labels

-- Names in the holes.

names_forin_righted : {names : Names} (f : RoundsParts) (s : State) (left : Span) (collection : Place)
    → KeepsNames names s (forin_righted f s left collection)
names_forin_righted f s left collection =
    names_then s (forin_headed f s) (forin_righted f s left collection) (names_same s (forin_headed f s) refl)
    (names_value (forin_headed f s) (values.NextPropertyOf collection) (Some left))

names_forof_righted : {names : Names} (f : ForOfParts) (s : State) (left : Span) (collection : Place)
    → KeepsNames names s (forof_righted f s left collection)
names_forof_righted f s left collection =
    let headed : State = forof_headed f s in
    let opened : State = with_value headed (values.GetIterator collection) collection.span in
    let tested : State = forof_tested f s collection in
    names_then s headed _ (names_same s headed refl)
    (names_then headed opened _ (names_value headed (values.GetIterator collection) collection.span)
    (names_then opened tested _ (names_same opened tested refl)
    (names_value tested (values.IteratorNext (forof_iterator f s collection) collection) (Some left))))

pub for_in_begun_named : {names : Names} (label : Label) (s b : State) → b ≡ forin_begun s label → IsNamed names s → IsNamed names b
for_in_begun_named label s b begun named = moved_named s (forin_begun s label) b begun (names_same s (forin_begun s label) refl) named

pub for_of_begun_named : {names : Names} (label : Label) (s b : State) → b ≡ forof_begun s label → IsNamed names s → IsNamed names b
for_of_begun_named label s b begun named = moved_named s (forof_begun s label) b begun (names_same s (forof_begun s label) refl) named

pub rounds_bodied_named : {names : Names} (f : RoundsParts) (part : Span) (s b : State) → b ≡ rounds_bodied f s part → IsNamed names s
    → IsNamed names b
rounds_bodied_named f part s b bodied named =
    moved_named s (rounds_bodied f s part) b bodied (names_same s (rounds_bodied f s part) refl) named

pub for_in_righted_named : {names : Names} (f : RoundsParts) (left : Span) (collection : Place) (s b : State)
    → b ≡ forin_righted f s left collection → IsNamed names s → IsNamed names b
for_in_righted_named f left collection s b righted named =
    moved_named s (forin_righted f s left collection) b righted (names_forin_righted f s left collection) named

pub for_of_righted_named : {names : Names} (f : ForOfParts) (left : Span) (collection : Place) (s b : State)
    → b ≡ forof_righted f s left collection → IsNamed names s → IsNamed names b
for_of_righted_named f left collection s b righted named =
    moved_named s (forof_righted f s left collection) b righted (names_forof_righted f s left collection) named

-- Room in the holes.

bodied_size : (f : RoundsParts) (s : State) (part : Span) → size_of (rounds_bodied f s part) ≤ size_of s + 0
bodied_size f s part = omega arith

forin_righted_size : (f : RoundsParts) (s : State) (left : Span) (collection : Place)
    → size_of (forin_righted f s left collection) ≤ size_of s + 4
forin_righted_size f s left collection =
    let value : size_of (forin_righted f s left collection) ≤ size_of (forin_headed f s) + 4 =
    size_value (forin_headed f s) (values.NextPropertyOf collection) (Some left) in
    omega (arith, value)

forof_righted_size : (f : ForOfParts) (s : State) (left : Span) (collection : Place)
    → size_of (forof_righted f s left collection) ≤ size_of s + 8
forof_righted_size f s left collection =
    let first : size_of (with_value (forof_headed f s) (values.GetIterator collection) collection.span) ≤ size_of (forof_headed f s) + 4 =
    size_value (forof_headed f s) (values.GetIterator collection) collection.span in
    let second : size_of (forof_righted f s left collection) ≤ size_of (forof_tested f s collection) + 4 =
    size_value (forof_tested f s collection) (values.IteratorNext (forof_iterator f s collection) collection) (Some left) in
    omega (arith, first, second)

-- In a loop whose head, right side and body have so many nodes.
module _ (head right body : ℕ) where
  pub for_in_room : (label : Label) (s b : State) → b ≡ forin_begun s label → HasRoom s (share (head + (right + (body + 0)) + 1))
      → HasRoom b (share body + (share right + (share head + 60)))
  for_in_room label s b begun room =
      moved_room s (forin_begun s label) b 3 (share body + (share right + (share head + 60))) (share (head + (right + (body + 0)) + 1))
      begun
      (omega arith) (omega arith) room

  pub for_of_room : (label : Label) (s b : State) → b ≡ forof_begun s label → HasRoom s (share (0 + (head + (right + (body + 0))) + 1))
      → HasRoom b (share body + (share right + (share head + 60)))
  for_of_room label s b begun room =
      moved_room s (forof_begun s label) b 4 (share body + (share right + (share head + 60)))
      (share (0 + (head + (right + (body + 0))) + 1)) begun (omega arith) (omega arith) room

  pub bodied_room : (f : RoundsParts) (part : Span) (b1 s2 b2 : State) → size_of s2 ≤ size_of b1 + share body → b2 ≡ rounds_bodied f s2 part
      → HasRoom b1 (share body + (share right + (share head + 60))) → HasRoom b2 (share right + (share head + 60))
  bodied_room f part b1 s2 b2 few bodied room =
      moved_room s2 (rounds_bodied f s2 part) b2 0 (share right + (share head + 60)) (share right + (share head + 60)) bodied
      (bodied_size f s2 part) (omega arith)
      (room_after b1 s2 (share body) (share right + (share head + 60)) (share body + (share right + (share head + 60))) few (omega arith)
      room)

  pub right_room : (b2 s3 : State) → size_of s3 ≤ size_of b2 + share right → HasRoom b2 (share right + (share head + 60))
      → HasRoom s3 (share head + 60)
  right_room b2 s3 few room = room_after b2 s3 (share right) (share head + 60) (share right + (share head + 60)) few (omega arith) room

  pub for_in_head_room : (f : RoundsParts) (left : Span) (collection : Place) (s3 b3 : State) → b3 ≡ forin_righted f s3 left collection
      → HasRoom s3 (share head + 60) → HasRoom b3 (share head)
  for_in_head_room f left collection s3 b3 righted room =
      moved_room s3 (forin_righted f s3 left collection) b3 4 (share head) (share head + 60) righted
      (forin_righted_size f s3 left collection) (omega arith) room

  pub for_of_head_room : (f : ForOfParts) (left : Span) (collection : Place) (s3 b3 : State) → b3 ≡ forof_righted f s3 left collection
      → HasRoom s3 (share head + 60) → HasRoom b3 (share head)
  for_of_head_room f left collection s3 b3 righted room =
      moved_room s3 (forof_righted f s3 left collection) b3 8 (share head) (share head + 60) righted
      (forof_righted_size f s3 left collection) (omega arith) room

-- The parts that a frame holds between its calls.

pub forin_outer : {at : Span} {f : RoundsParts} (s : State) → f ≡ forin_at s at → is_some f.outer ≡ true
forin_outer s framed = ap (λ (q : RoundsParts). is_some q.outer) framed

pub forof_outer : {at : Span} {f : ForOfParts} (s : State) → f ≡ forof_at s at → is_some f.rounds.outer ≡ true
forof_outer s framed = ap (λ (q : ForOfParts). is_some q.rounds.outer) framed

pub forin_head : {at : Span} {f f2 : RoundsParts} (s : State) → f ≡ forin_at s at → f2 ≡ rounds_shut f → is_some f2.head ≡ true
forin_head s framed shut = ap (λ (q : RoundsParts). is_some q.head) (shut ∙ ap rounds_shut framed)

pub forof_head : {at : Span} {f f2 : ForOfParts} (s : State) → f ≡ forof_at s at → f2 ≡ forof_shut f → is_some f2.rounds.head ≡ true
forof_head s framed shut = ap (λ (q : ForOfParts). is_some q.rounds.head) (shut ∙ ap forof_shut framed)

pub forof_test : {at : Span} {f f2 : ForOfParts} (s : State) → f ≡ forof_at s at → f2 ≡ forof_shut f → is_some f2.test ≡ true
forof_test s framed shut = ap (λ (q : ForOfParts). is_some q.test) (shut ∙ ap forof_shut framed)
