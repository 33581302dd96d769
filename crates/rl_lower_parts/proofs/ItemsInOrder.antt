-- Derivations of the items of a target that is a pattern, from the first to the last, and of its rest.
use Rattle.std.proofs.Common.{◌≡◌, ◌++◌, ◌&&◌, ◌||◌, not, Bool, true, false, List, [], ◌∷◌, Some, None, codes, refl, sym, ap}
use Rattle.std.proofs.Common.{◌∙◌, subst, arith, append-nil, append_assoc, is_some}
use Rattle.std.proofs.lemmas.Bool.{and_parts}
use Rattle.rl_base.specs.Diagnostics.{diagnostic_at}
use Rattle.rl_base.specs.declared.row.Row.TheVariants as row
use Rattle.rl_builder.specs.Builder.{State, recorded}
use Rattle.rl_grammar.specs.Grammar.{fits}
use Rattle.rl_grammar.specs.declared.kind.Field.TheVariants as field
use Rattle.rl_grammar.specs.declared.kind.Kind.TheVariants as kind
use Rattle.rl_hir.specs.Pieces.{Piece, Says, Spreads, gathered}
use Rattle.rl_hir.specs.declared.instruction.Place.{Place}
use Rattle.rl_lower_parts.proofs.Gathered.{gathered_more}
use Rattle.rl_lower_parts.proofs.ItemDerivations.{all_more}
use Rattle.rl_lower_parts.proofs.TargetTrees.{other_rest, plain_rest}
use Rattle.rl_lower_parts.specs.Patterns.{TakesItem, all_left, named, seen_part}
use Rattle.rl_lower_parts.specs.declared.target_items.LeftTarget.{LeftTarget}
use Rattle.rl_lower_parts.specs.declared.target_items.TargetPart.{TargetPart}
use Rattle.rl_lowered.specs.Items as items
use Rattle.rl_lowered.specs.Items.{Later, TakenItems, caught, promoted}
use Rattle.rl_lowered.specs.Named.{IsNamed}
use Rattle.rl_model.specs.Shapes.{is_absent, is_plain_rest}
use Rattle.rl_names.specs.Names.{Names}
use Rattle.rl_promises.specs.Patterns.{are_locals, is_forced, local_at, rest_type, target_under}
use Rattle.rl_syntax.specs.declared.numbered.At.{At}
use Rattle.rl_syntax.specs.declared.word.Word.TheVariants as word
use Rattle.rl_syntax.specs.Syntax.{Syntax, Node, Absent, Pieces, End, Then}

-- With the items that wait in `left`, all got their places.
abbrev pub TakesLeft : {X : Type 0} → (X → List Piece) → Names → (of_object forced : Bool) → (all left : Pieces) → (rest : Syntax)
    → (old now : State) → List X → List LeftTarget → Type 0
TakesLeft f names of_object forced all left rest old now given parts =
    (new : State) (more : List Piece) (later : List Later) → TakenItems names of_object forced left rest now new more later
    → TakenItems names of_object forced all rest old new (gathered f given ++ more) (all_left parts ++ later)

hole_by : {names : Names} {forced : Bool} {left : List LeftTarget} {s : State} (at : At) → IsNamed names s
    → TakesItem names false forced (Node at word.Hole End) (Says (codes "hole") ∷ []) left left s s
hole_by {left = left} {s = s} at n = record {
  added = [];
  grown = sym (append-nil left);
  next = λ es rest last more later d. items.ItemHole at es rest s last more later d;
  named = n;
  size = omega arith;
}

pub hole_taken : {names : Names} {forced : Bool} {item : Syntax} {left : List LeftTarget} {s : State} {at : At}
    → Node at word.Hole End ≡ item → IsNamed names s → TakesItem names false forced item (Says (codes "hole") ∷ []) left left s s
hole_taken {names} {forced} {item} {left} {s} {at} is n =
    subst (λ (e : Syntax). TakesItem names false forced e (Says (codes "hole") ∷ []) left left s s) is (hole_by at n)

pub takes_next : {X : Type 0} {names : Names} {of_object forced : Bool} {all left behind : Pieces} {first rest : Syntax} {old s t : State}
    {pieces : List Piece} {before after : List LeftTarget} (f : X → List Piece) (given : List X) {grown : List X} (added : List X)
    → left ≡ Then first behind → grown ≡ given ++ added → gathered f added ≡ pieces
    → TakesItem names of_object forced first pieces before after s t
    → TakesLeft f names of_object forced all left rest old s given before
    → TakesLeft f names of_object forced all behind rest old t grown after
takes_next {names = names} {of_object} {forced} {all} {left} {behind} {first} {rest} {old} {s} {t} {pieces} {before} {after} f given {grown}
    added split pushed same one gives = λ new more later l.
    subst (λ (q : List Later). TakenItems names of_object forced all rest old new (gathered f grown ++ more) q)
    (sym (append_assoc (all_left before) (all_left one.added) later)
    ∙ ap (λ (q : List Later). q ++ later) (sym (all_more before one.added) ∙ sym (ap all_left one.grown)))
    (subst (λ (p : List Piece). TakenItems names of_object forced all rest old new p (all_left before ++ (all_left one.added ++ later)))
    (sym (append_assoc (gathered f given) pieces more)
    ∙ ap (λ (p : List Piece). p ++ more)
    (sym (ap (gathered f) pushed ∙ gathered_more f given added ∙ ap (λ (p : List Piece). gathered f given ++ p) same)))
    (gives new (pieces ++ more) (all_left one.added ++ later)
    (subst (λ (es : Pieces). TakenItems names of_object forced es rest s new (pieces ++ more) (all_left one.added ++ later)) (sym split)
    (one.next behind rest new more later l))))

-- Behind the last item: the rest, or none.

takes_end : {X : Type 0} {names : Names} {of_object forced : Bool} {all left : Pieces} {rest : Syntax} {old now new : State}
    {pieces : List Piece} {later : List Later} (f : X → List Piece) (given : List X) {grown : List X} (added : List X)
    (parts : List LeftTarget) {after : List LeftTarget} (more : List LeftTarget)
    → left ≡ End → grown ≡ given ++ added → gathered f added ≡ pieces → after ≡ parts ++ more → all_left more ≡ later
    → TakenItems names of_object forced End rest now new pieces later
    → TakesLeft f names of_object forced all left rest old now given parts
    → TakenItems names of_object forced all rest old new (gathered f grown) (all_left after)
takes_end {names = names} {of_object} {forced} {all} {left} {rest} {old} {now} {new} {pieces} {later} f given {grown} added parts {after}
    more done pushed same left_more left_same last gives =
    subst (λ (q : List Later). TakenItems names of_object forced all rest old new (gathered f grown) q)
    (sym (ap all_left left_more ∙ all_more parts more ∙ ap (λ (q : List Later). all_left parts ++ q) left_same))
    (subst (λ (p : List Piece). TakenItems names of_object forced all rest old new p (all_left parts ++ later))
    (sym (ap (gathered f) pushed ∙ gathered_more f given added ∙ ap (λ (p : List Piece). gathered f given ++ p) same))
    (gives new pieces later
    (subst (λ (es : Pieces). TakenItems names of_object forced es rest now new pieces later) (sym done) last)))

pub takes_done : {X : Type 0} {names : Names} {of_object forced : Bool} {all left : Pieces} {rest : Syntax} {old now : State}
    (f : X → List Piece) (given : List X) (parts : List LeftTarget) → left ≡ End → rest ≡ Absent
    → TakesLeft f names of_object forced all left rest old now given parts
    → TakenItems names of_object forced all rest old now (gathered f given) (all_left parts)
takes_done {names = names} {of_object} {forced} {now = now} f given parts done absent gives =
    takes_end f given [] parts [] done (sym (append-nil given)) refl (sym (append-nil parts)) refl
    (subst (λ (e : Syntax). TakenItems names of_object forced End e now now [] []) (sym absent) (items.NoItem now)) gives

-- The rest takes its piece later. That of an object is a name.
pub takes_rest : {X : Type 0} {names : Names} {of_object forced : Bool} {all left : Pieces} {rest target : Syntax} {old now new : State}
    {place : Place} (f : X → List Piece) (given : List X) {grown : List X} (item : X) (parts : List LeftTarget) {after : List LeftTarget}
    (part : TargetPart) (at : At) → left ≡ End → grown ≡ given ++ item ∷ [] → f item ≡ Spreads place ∷ []
    → rest ≡ Node at word.Rest (Then target End) → seen_part part ≡ target
    → (of_object && not (is_plain_rest (Node at word.Rest (Then target End)))) ≡ false → is_forced names all rest ≡ forced
    → new ≡ promoted now at.span → place ≡ caught now at.span → after ≡ parts ++ record { value = place; part = part } ∷ []
    → TakesLeft f names of_object forced all left rest old now given parts
    → TakenItems names of_object forced all rest old new (gathered f grown) (all_left after)
takes_rest {names = names} {of_object} {forced} {all} {left} {rest} {target} {old} {now} {new} {place} f given {grown} item parts {after}
    part at done pushed spread is seen plain held moved placed kept gives =
    takes_end f given (item ∷ []) parts (record { value = place; part = part } ∷ []) done pushed (ap (λ (p : List Piece). p ++ []) spread) kept
    refl taken gives
  where
    there : Syntax
    there = Node at word.Rest (Then target End)

    forces : forced ≡ true
    forces = sym held ∙ ap (λ (e : Syntax). not (is_absent e) || not (are_locals names all)) is

    rests : TakenItems names of_object true End there now (promoted now at.span) (Spreads (caught now at.span) ∷ [])
        (record { value = caught now at.span; part = target } ∷ [])
    rests = items.RestTaken at target now plain

    placed_so : TakenItems names of_object true End there now new (Spreads place ∷ []) (record { value = place; part = seen_part part } ∷ [])
    placed_so =
        subst (λ (e : Syntax). TakenItems names of_object true End there now new (Spreads place ∷ []) (record { value = place; part = e } ∷ []))
        (sym seen)
        (subst (λ (p : Place). TakenItems names of_object true End there now new (Spreads p ∷ []) (record { value = p; part = target } ∷ []))
        (sym placed)
        (subst (λ (o : State). TakenItems names of_object true End there now o (Spreads (caught now at.span) ∷ [])
        (record { value = caught now at.span; part = target } ∷ [])) (sym moved) rests))

    taken : TakenItems names of_object forced End rest now new (Spreads place ∷ []) (record { value = place; part = seen_part part } ∷ [])
    taken =
        subst (λ (e : Syntax). TakenItems names of_object forced End e now new (Spreads place ∷ [])
        (record { value = place; part = seen_part part } ∷ [])) (sym is)
        (subst (λ (b : Bool). TakenItems names of_object b End there now new (Spreads place ∷ [])
        (record { value = place; part = seen_part part } ∷ [])) (sym forces) placed_so)

pub takes_plain_rest : (at : At) (target name : Syntax) → named target ≡ Some name
    → (true && not (is_plain_rest (Node at word.Rest (Then target End)))) ≡ false
takes_plain_rest at target name is = ap (λ (b : Bool). not b) (plain_rest at target name is)

-- The rest of an object that is no plain name.
pub loses_rest : {X : Type 0} {names : Names} {forced : Bool} {all left : Pieces} {rest target : Syntax} {old now new : State}
    (f : X → List Piece) (given : List X) (parts : List LeftTarget) (at : At)
    → left ≡ End → rest ≡ Node at word.Rest (Then target End) → fits (field.One kind.AssignmentTarget) target ≡ true → named target ≡ None
    → new ≡ recorded now (diagnostic_at row.F10 (rest_type target) at.span)
    → TakesLeft f names true forced all left rest old now given parts
    → TakenItems names true forced all rest old new (gathered f given) (all_left parts)
loses_rest {names = names} {forced} {rest = rest} {target} {now = now} {new} f given parts at done is fit other moved gives =
    takes_end f given [] parts [] done (sym (append-nil given)) refl (sym (append-nil parts)) refl
    (subst (λ (e : Syntax). TakenItems names true forced End e now new [] []) (sym is)
    (subst (λ (o : State). TakenItems names true forced End (Node at word.Rest (Then target End)) now o [] []) (sym moved)
    (items.RestLost (Node at word.Rest (Then target End)) now (other_rest at target fit other)))) gives

-- Items none of which takes its piece later.

pub first_local : (names : Names) {left behind : Pieces} {item : Syntax} → left ≡ Then item behind → are_locals names left ≡ true
    → is_some (local_at names (target_under item)) ≡ true
first_local names {left} {behind} {item} split locals =
    (and_parts (is_some (local_at names (target_under item))) (are_locals names behind) (sym (ap (are_locals names) split) ∙ locals)).0

pub other_locals : (names : Names) {left behind : Pieces} {item : Syntax} → left ≡ Then item behind → are_locals names left ≡ true
    → are_locals names behind ≡ true
other_locals names {left} {behind} {item} split locals =
    (and_parts (is_some (local_at names (target_under item))) (are_locals names behind) (sym (ap (are_locals names) split) ∙ locals)).1
