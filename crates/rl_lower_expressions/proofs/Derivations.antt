-- Derivations of expressions that are one instruction over the values of their parts, from the moves of their lowering.
use Rattle.std.proofs.Common.{◌≡◌, ℕ, ◌+◌, ◌≤◌, ◌++◌, true, false, Bool, List, [], ◌∷◌, Option, Some, None, Result, Ok, Err, OnOk, IfOk}
use Rattle.std.proofs.Common.{append-nil, append_assoc, refl, ap, sym, ◌∙◌, subst, true≢false, arith}
use Rattle.std.specs.Prelude.{codes}
use Rattle.rl_base.specs.declared.row.Row.{Row}
use Rattle.rl_base.specs.declared.row.Row.TheVariants as row
use Rattle.rl_base.specs.declared.span.Span.{Span}
use Rattle.rl_base.specs.declared.stop.Stop.{Stop}
use Rattle.rl_builder.specs.Builder.{State, recorded}
use Rattle.rl_builder.specs.Temporaries.{temporary, with_value}
use Rattle.rl_hir.specs.Pieces.{Piece, Gives, Names as Named, Says, Spreads, gathered, property_pieces, value_pieces}
use Rattle.rl_hir.specs.declared.instruction.InstructionValue.{InstructionValue}
use Rattle.rl_hir.specs.declared.instruction.InstructionValue.TheVariants as values
use Rattle.rl_hir.specs.declared.instruction.ObjectProperty.{ObjectProperty}
use Rattle.rl_hir.specs.declared.instruction.Place.{Place}
use Rattle.rl_hir.specs.declared.instruction.PrimitiveValue.{PrimitiveValue}
use Rattle.rl_hir.specs.declared.instruction.PrimitiveValue.TheVariants as primitives
use Rattle.rl_hir.specs.declared.instruction.RegExpLiteral.{RegExpLiteral}
use Rattle.rl_hir.specs.declared.instruction.TemplateLiteral.{TemplateLiteral}
use Rattle.rl_hir.specs.declared.instruction.TemplateQuasi.{TemplateQuasi}
use Rattle.rl_lower_parts.proofs.Derivations.{derived, grown, room_after}
use Rattle.rl_lower_parts.proofs.Gathered.{gathered_more}
use Rattle.rl_lowered.proofs.Told.{told_all, told_properties}
use Rattle.rl_lowered.specs.Forms.{AreQuasis, IsForm, IsLiteral, IsPrivate, IsRefused, IsRefusing, IsWrapper}
use Rattle.rl_lowered.specs.Forms as forms
use Rattle.rl_lowered.specs.Lowered.{Lowered, LoweredAll, LoweredLast, LoweredParts, LoweredProperties}
use Rattle.rl_lowered.specs.Lowered as lowered
use Rattle.rl_lowered.specs.Named.{IsNamed}
use Rattle.rl_lowered.specs.Promised.{HasRoom, LowersAll, LowersExpression, LowersProperties, share}
use Rattle.rl_model.specs.Shapes.{are_raw, is_computed, key_text, said}
use Rattle.rl_names.specs.Names.{Names}
use Rattle.rl_promises.specs.CoveredWords.{covers}
use Rattle.rl_promises.specs.Lowerable.{AreLowerable, IsLowerable, Where}
use Rattle.rl_promises.specs.Outs.{is_known_key}
use Rattle.rl_promises.specs.Rows.{refusal}
use Rattle.rl_promises.specs.Tallies.{call_word}
use Rattle.rl_runs.specs.Blocks.{size_of}
use Rattle.rl_syntax.specs.declared.numbered.At.{At}
use Rattle.rl_syntax.specs.declared.word.Word.{Word}
use Rattle.rl_syntax.specs.declared.word.Word.TheVariants as word
use Rattle.rl_syntax.specs.Syntax.{Syntax, Node, Listed, Said, Flag, Pieces, End, Then, nodes, nodes_of, span_of}
use Rattle.rl_lower_expressions.specs.Groups.{has_parts}
use Rattle.rl_lowered.specs.Forms.{is_property}
use Rattle.rl_lower_expressions.specs.Keys.{IsFraction, found_list, where_pieces}

pub literal_ok : (names : Names) {tree : Syntax} {at : At} {w : Word} {fields : Pieces} {p : PrimitiveValue} (r : Result Place Stop)
    (s new : State)
    → Node at w fields ≡ tree → IsLiteral w fields p → OnOk r (new ≡ with_value s (values.Primitive p) (Some at.span))
    → IfOk r (λ place. place ≡ temporary s (Some at.span)) → IfOk r (λ place. LowersExpression names tree s new place)
literal_ok names {tree} {at} {w} {fields} {p} (Ok place) s new is literal moved placed =
    derived tree (Node at w fields) s _ new _ place is moved placed (lowered.Literal at w fields p s literal)
literal_ok names (Err e) s new is literal moved placed = tt

-- A node that is refused before its parts are lowered.
pub refused_before_ok : {names : Names} {tree : Syntax} {at : At} {w : Word} {fields parts : Pieces} {r : Row} {pieces : List Piece}
    {noted t : State} (s : State) (result : Result Place Stop) (new : State)
    → Node at w fields ≡ tree → IsRefusing w fields parts r → noted ≡ recorded s (refusal r at.span)
    → LoweredAll names parts noted t pieces
    → OnOk result (new ≡ with_value t (values.Primitive primitives.Undefined) (Some at.span))
    → IfOk result (λ place. place ≡ temporary t (Some at.span))
    → IfOk result (λ place. LowersExpression names tree s new place)
refused_before_ok {names} {tree} {at} {w} {fields} {parts} {r} {pieces} {noted} {t} s (Ok place) new is refusing same all moved placed =
    derived tree (Node at w fields) s _ new _ place is moved placed
    (lowered.RefusedBefore at w fields parts r pieces s t refusing (subst (λ (o : State). LoweredAll names parts o t pieces) same all))
refused_before_ok s (Err e) new is refusing same all moved placed = tt

-- A property by a private name, which is refused behind its object.
pub private_ok : {names : Names} {object : Syntax} {s t : State} {p : Place} (at : At) (result : Result Place Stop) (new : State)
    → LowersExpression names object s t p
    → OnOk result (new ≡ with_value (recorded t (refusal row.F3 at.span)) (values.Primitive primitives.Undefined) (Some at.span))
    → IfOk result (λ place. place ≡ temporary (recorded t (refusal row.F3 at.span)) (Some at.span))
    → IfOk result (λ place. (name : List ℕ)
    → LowersExpression names (Node at word.Privatemember (Then (Flag false) (Then object (Then (Said name) End)))) s new place)
private_ok {names} {object} {s} {t} {p} at (Ok place) new l moved placed = λ name.
    let tree : Syntax = Node at word.Privatemember (Then (Flag false) (Then object (Then (Said name) End))) in
    derived tree tree s _ new _ place refl moved placed (lowered.RefusedBehind at object name s t p l.by)
private_ok at (Err e) new l moved placed = tt

pub asked_ok : {names : Names} {tree : Syntax} {at : At} {w : Word} {fields parts : Pieces} {pieces : List Piece} {v : InstructionValue}
    {s t : State}
    (r : Result Place Stop) (new : State) → Node at w fields ≡ tree → IsForm w fields parts pieces v → LoweredAll names parts s t pieces
    → OnOk r (new ≡ with_value t v (Some at.span)) → IfOk r (λ place. place ≡ temporary t (Some at.span))
    → IfOk r (λ place. LowersExpression names tree s new place)
asked_ok {names} {tree} {at} {w} {fields} {parts} {pieces} {v} {s} {t} (Ok place) new is form all moved placed =
    derived tree (Node at w fields) s _ new _ place is moved placed (lowered.Asked at w fields parts pieces v s t form all)
asked_ok (Err e) new is form all moved placed = tt

-- An object literal.
pub object_ok : {names : Names} {tree : Syntax} {at : At} {es : Pieces} {s t : State} (properties : List ObjectProperty)
    (r : Result Place Stop) (new : State) → Node at word.Object (Then (Listed es) End) ≡ tree
    → LowersProperties names es s t (gathered property_pieces properties)
    → OnOk r (new ≡ with_value t (values.ObjectExpression properties) (Some at.span)) → IfOk r (λ place. place ≡ temporary t (Some at.span))
    → IfOk r (λ place. LowersExpression names tree s new place)
object_ok {names} {tree} {at} {es} {s} {t} properties (Ok place) new is all moved placed =
    derived tree (Node at word.Object (Then (Listed es) End)) s _ new _ place is moved placed
    (lowered.Object at es _ properties s t refl all.by)
object_ok properties (Err e) new is all moved placed = tt

-- A node that has the value of the expression in it.
pub same_ok : {tree e : Syntax} {at : At} {w : Word} {fields : Pieces} (names : Names) (s new : State) (r : Result Place Stop)
    → Node at w fields ≡ tree → IsWrapper w fields e
    → IfOk r (λ place. LowersExpression names e s new place) → IfOk r (λ place. LowersExpression names tree s new place)
same_ok {tree} {e} {at} {w} {fields} names s new (Ok place) is wrapper l =
    derived tree (Node at w fields) s new new place place is refl refl (lowered.Same at w fields e s new place wrapper l.by)
same_ok names s new (Err e) is wrapper l = tt

-- A node in whose place the property by a private name in it is lowered.
pub inner_ok : {tree e : Syntax} {at : At} {w : Word} {fields : Pieces} (names : Names) (s new : State) (r : Result Place Stop)
    → Node at w fields ≡ tree → IsPrivate w fields e
    → IfOk r (λ place. LowersExpression names e s new place) → IfOk r (λ place. LowersExpression names tree s new place)
inner_ok {tree} {e} {at} {w} {fields} names s new (Ok place) is inner l =
    derived tree (Node at w fields) s new new place place is refl refl (lowered.Private at w fields e s new place inner l.by)
inner_ok names s new (Err e) is inner l = tt

-- Parts from left to right.

pub nothing : {names : Names} {s : State} → LoweredAll names End s s []
nothing = lowered.NoPart _

pub next : {names : Names} {e : Syntax} {es : Pieces} {s t u : State} {p : Place} {pieces : List Piece} → LowersExpression names e s t p
    → LoweredAll names es t u pieces → LoweredAll names (Then e es) s u (Gives p ∷ pieces)
next first rest = lowered.NextPart _ _ _ _ _ _ _ first.by rest

-- Rows of one part.

pub one_part : {names : Names} {tree e : Syntax} {s t : State} {p : Place} → e ≡ tree → LowersExpression names e s t p
    → LowersAll names (Then tree End) s t (Gives p ∷ [])
one_part {names} {tree} {e} {s} {t} {p} is l =
    told_all (subst (λ (n : Syntax). LoweredAll names (Then n End) s t (Gives p ∷ [])) is
    (lowered.NextPart e End s t t p [] l.by (lowered.NoPart t)))

pub one_spread : {names : Names} {tree e : Syntax} {at : At} {s t : State} {p : Place} → Node at word.Spread (Then e End) ≡ tree
    → LowersExpression names e s t p → LowersAll names (Then tree End) s t (Spreads p ∷ [])
one_spread {names} {tree} {e} {at} {s} {t} {p} is l =
    told_all (subst (λ (n : Syntax). LoweredAll names (Then n End) s t (Spreads p ∷ [])) is
    (lowered.NextSpread at e End s t t p [] l.by (lowered.NoPart t)))

pub one_hole : {names : Names} {tree : Syntax} {at : At} {s : State} → Node at word.Hole End ≡ tree
    → LowersAll names (Then tree End) s s (Says (codes "hole") ∷ [])
one_hole {names} {tree} {at} {s} is =
    told_all (subst (λ (n : Syntax). LoweredAll names (Then n End) s s (Says (codes "hole") ∷ [])) is
    (lowered.NextHole at End s s [] (lowered.NoPart s)))

-- Rows of one property.

pub one_spread_property : {names : Names} {tree e : Syntax} {at : At} {s t : State} {p : Place} → Node at word.Spread (Then e End) ≡ tree
    → LowersExpression names e s t p → LowersProperties names (Then tree End) s t (Spreads p ∷ [])
one_spread_property {names} {tree} {e} {at} {s} {t} {p} is l =
    told_properties (subst (λ (n : Syntax). LoweredProperties names (Then n End) s t (Spreads p ∷ [])) is
    (lowered.NextSpread at e End s t t p [] l.by (lowered.NoPart t)))

pub one_property : {names : Names} {at : At} {computed : Bool} {key e : Syntax} {text copy : List ℕ} {s t : State} {p : Place}
    → key_text computed key ≡ Some (said text) → copy ≡ text → LowersExpression names e s t p
    → LowersProperties names (Then (Node at word.Prop (Then (Flag computed) (Then key (Then e End)))) End) s t (Named copy ∷ Gives p ∷ [])
one_property {names} {at} {computed} {key} {e} {text} {copy} {s} {t} {p} known same l =
    told_properties (lowered.NextProperty at computed key e copy End s t t p []
    (known ∙ ap (λ (n : List ℕ). Some (said n)) (sym same)) l.by (lowered.NoPart t))

in_brackets : (computed : Bool) (tree : Syntax) → is_computed computed tree ≡ true → computed ≡ true
in_brackets computed (Node at word.Str parts) known = absurd (true≢false (sym known))
in_brackets computed _ known = known

pub one_computed : {names : Names} {at : At} {computed : Bool} {tree key e : Syntax} {s r t : State} {p q : Place}
    → is_computed computed tree ≡ true → key ≡ tree → LowersExpression names key s r p → LowersExpression names e r t q
    → LowersProperties names (Then (Node at word.Prop (Then (Flag computed) (Then tree (Then e End)))) End) s t (Gives p ∷ Gives q ∷ [])
one_computed {names} {at} {computed} {tree} {key} {e} {s} {r} {t} {p} {q} known same k l =
    told_properties
    (subst (λ (b : Bool). LoweredProperties names (Then (Node at word.Prop (Then (Flag b) (Then tree (Then e End)))) End) s t
    (Gives p ∷ Gives q ∷ []))
    (sym (in_brackets computed tree known))
    (lowered.NextComputed at tree e End s r t t p q []
    (ap (λ (b : Bool). is_computed b tree) (sym (in_brackets computed tree known)) ∙ known)
    (subst (λ (n : Syntax). Lowered names n s r p) same k.by) l.by (lowered.NoPart t)))

pub one_fraction : {names : Names} {at there : At} {computed : Bool} {key e : Syntax} {s noted t : State} {p : Place}
    → is_computed computed key ≡ false → IsFraction key there → noted ≡ recorded s (refusal row.F43 there.span)
    → LowersExpression names e noted t p
    → LowersProperties names (Then (Node at word.Prop (Then (Flag computed) (Then key (Then e End)))) End) s t []
one_fraction {names} {at} {there} {computed} {key} {e} {s} {noted} {t} {p} plain f same l =
    told_properties
    (subst (λ (b : Bool). LoweredProperties names (Then (Node at word.Prop (Then (Flag b) (Then key (Then e End)))) End) s t [])
    (sym (ap (is_computed computed) f.is ∙ plain))
    (subst (λ (n : Syntax). LoweredProperties names (Then (Node at word.Prop (Then (Flag false) (Then n (Then e End)))) End) s t []) f.is
    (lowered.NextFraction at there e f.text End s t t p [] f.plain (subst (λ (o : State). Lowered names e o t p) same l.by)
    (lowered.NoPart t))))

pub one_unknown : {names : Names} {tree : Syntax} {at : At} {computed : Bool} {key e : Syntax} {s noted : State} {label : Span}
    → Node at word.Prop (Then (Flag computed) (Then key (Then e End))) ≡ tree → is_known_key computed key ≡ false
    → label ≡ span_of key → noted ≡ recorded s (refusal row.F9 label)
    → LowersProperties names (Then tree End) s noted []
one_unknown {names} {tree} {at} {computed} {key} {e} {s} {noted} {label} is unknown there same =
    told_properties
    (subst (λ (n : Syntax). LoweredProperties names (Then n End) s noted []) is
    (subst (λ (o : State). LoweredProperties names (Then (Node at word.Prop (Then (Flag computed) (Then key (Then e End)))) End) s o [])
    (sym (same ∙ ap (λ (l : Span). recorded s (refusal row.F9 l)) there))
    (lowered.NextUnknown at computed key e End s _ [] unknown (lowered.NoPart _))))

-- A part, and then those behind it.
pub one_then : {names : Names} {of_object : Bool} {e : Syntax} {es : Pieces} {s t u : State} {first rest : List Piece}
    → LoweredParts names of_object (Then e End) s t first
    → LoweredParts names of_object es t u rest → LoweredParts names of_object (Then e es) s u (first ++ rest)
one_then (lowered.NextPart e _ s t _ p _ by (lowered.NoPart _)) more = lowered.NextPart e _ s t _ p _ by more
one_then (lowered.NextSpread at e _ s t _ p _ by (lowered.NoPart _)) more = lowered.NextSpread at e _ s t _ p _ by more
one_then (lowered.NextHole at _ s _ _ (lowered.NoPart _)) more = lowered.NextHole at _ s _ _ more
one_then (lowered.NextProperty at computed key e text _ s t _ p _ known by (lowered.NoPart _)) more =
    lowered.NextProperty at computed key e text _ s t _ p _ known by more
one_then (lowered.NextComputed at key e _ s r t _ p q _ known k by (lowered.NoPart _)) more =
    lowered.NextComputed at key e _ s r t _ p q _ known k by more
one_then (lowered.NextFraction at there e text _ s t _ p _ plain by (lowered.NoPart _)) more =
    lowered.NextFraction at there e text _ s t _ p _ plain by more
one_then (lowered.NextUnknown at computed key e _ s _ _ unknown (lowered.NoPart _)) more =
    lowered.NextUnknown at computed key e _ s _ _ unknown more

-- Conditions of lowerable nodes.

pub member_told : (names : Names) (optional : Bool) {tree : Syntax} {at : At} {rest : Pieces}
    → Node at word.Member (Then (Flag optional) rest) ≡ tree
    → IsLowerable names tree → Node at word.Member (Then (Flag false) rest) ≡ tree
member_told names false is may = is
member_told names true is may = absurd (true≢false (subst (IsLowerable names) (sym is) may).0)

pub index_told : (names : Names) (optional : Bool) {tree : Syntax} {at : At} {rest : Pieces}
    → Node at word.Index (Then (Flag optional) rest) ≡ tree
    → IsLowerable names tree → Node at word.Index (Then (Flag false) rest) ≡ tree
index_told names false is may = is
index_told names true is may = absurd (true≢false (subst (IsLowerable names) (sym is) may).0)

pub private_told : (names : Names) (optional : Bool) {tree : Syntax} {at : At} {rest : Pieces}
    → Node at word.Privatemember (Then (Flag optional) rest) ≡ tree
    → IsLowerable names tree → Node at word.Privatemember (Then (Flag false) rest) ≡ tree
private_told names false is may = is
private_told names true is may = absurd (true≢false (subst (IsLowerable names) (sym is) may).0)

-- A callee that is no property is called as a function.
pub plain_callee : (callee : Syntax) → is_property callee ≡ false → call_word callee ≡ codes "call"
plain_callee (Node at word.Member parts) plain = absurd (true≢false plain)
plain_callee (Node at word.Index parts) plain = absurd (true≢false plain)
plain_callee _ plain = refl

-- Items of a list, each with the pieces of what it was lowered from.

-- The parts of a row that were lowered, and `left`, give what the items and `more` give.
abbrev pub GivesLeft : {X : Type 0} → (X → List Piece) → Names → (of_object : Bool) → (all left : Pieces) → (old now : State) → List X
    → Type 0
GivesLeft f names of_object all left old now items =
    (new : State) (more : List Piece) → LoweredParts names of_object left now new more
    → LoweredParts names of_object all old new (gathered f items ++ more)

gives_more : {X : Type 0} {names : Names} {of_object : Bool} {all left rest : Pieces} {first : Syntax} {old s t : State}
    {given : List Piece}
    (f : X → List Piece)
    (items : List X) {grown : List X} (added : List X) → left ≡ Then first rest → grown ≡ items ++ added → gathered f added ≡ given
    → LoweredParts names of_object (Then first End) s t given
    → GivesLeft f names of_object all left old s items → GivesLeft f names of_object all rest old t grown
gives_more {X} {names} {of_object} {all} {left} {rest} {first} {old} {s} {t} {given} f items {grown} added split pushed same one gives =
    λ new more l.
    subst (LoweredParts names of_object all old new)
    (sym (append_assoc (gathered f items) given more)
    ∙ ap (λ (p : List Piece). p ++ more)
    (sym (ap (gathered f) pushed ∙ gathered_more f items added ∙ ap (λ (p : List Piece). gathered f items ++ p) same)))
    (gives new (given ++ more) (subst (λ (es : Pieces). LoweredParts names of_object es s new (given ++ more)) (sym split)
    (one_then one l)))

gives_next : {X : Type 0} {names : Names} {all left rest : Pieces} {first : Syntax} {old s t : State} (f : X → List Piece)
    (items : List X) {grown : List X} (item : X) → left ≡ Then first rest → grown ≡ items ++ item ∷ []
    → LowersAll names (Then first End) s t (f item)
    → GivesLeft f names false all left old s items → GivesLeft f names false all rest old t grown
gives_next f items item split pushed one gives = gives_more f items (item ∷ []) split pushed (append-nil (f item)) one.by gives

property_gives : (p : Option ObjectProperty) → gathered property_pieces (found_list p) ≡ where_pieces p
property_gives (Some p) = append-nil (property_pieces p)
property_gives None = refl

gives_property : {names : Names} {all left rest : Pieces} {first : Syntax} {old s t : State} (items : List ObjectProperty)
    {grown : List ObjectProperty} (p : Option ObjectProperty) → left ≡ Then first rest → grown ≡ items ++ found_list p
    → LowersProperties names (Then first End) s t (where_pieces p)
    → GivesLeft property_pieces names true all left old s items → GivesLeft property_pieces names true all rest old t grown
gives_property items p split pushed one gives =
    gives_more property_pieces items (found_list p) split pushed (property_gives p) one.by gives

-- A row between two of its parts: those that are left may be lowered, and with them all are.
pub record HasRow {X : Type 0} (f : X → List Piece) (names : Names) (of_object : Bool) (all left : Pieces) (old now : State)
    (items : List X) : Type 0 where
  pub names_now : IsNamed names now
  pub may : AreLowerable names left
  pub room : HasRoom now (share (nodes_of left))
  pub fewer : nodes_of left ≤ nodes_of all
  pub gives : GivesLeft f names of_object all left old now items

row_next : {X : Type 0} {names : Names} {of_object : Bool} {all left rest : Pieces} {first : Syntax} {old s t : State}
    (f : X → List Piece) {items grown : List X} → left ≡ Then first rest → IsNamed names t
    → size_of t ≤ size_of s + share (nodes first + 0) → GivesLeft f names of_object all rest old t grown
    → HasRow f names of_object all left old s items → HasRow f names of_object all rest old t grown
row_next {names = names} {left = left} {rest} {first} {s = s} {t} f split named size gives row =
    let counted : nodes_of left ≡ nodes first + nodes_of rest = ap nodes_of split in
    record {
      names_now = named;
      may = (subst (AreLowerable names) split row.may).1;
      room = room_after s t (share (nodes first + 0)) (share (nodes_of rest)) (share (nodes_of left)) size (omega (arith, counted))
          row.room;
      fewer = omega (arith, counted, row.fewer);
      gives = gives;
    }

pub row_all : {X : Type 0} {names : Names} {all left rest : Pieces} {first : Syntax} {old s t : State} (f : X → List Piece)
    (items : List X) {grown : List X} (item : X) → left ≡ Then first rest → grown ≡ items ++ item ∷ []
    → LowersAll names (Then first End) s t (f item) → HasRow f names false all left old s items
    → HasRow f names false all rest old t grown
row_all f items item split pushed one row =
    row_next f split (one.named row.names_now) one.size (gives_next f items item split pushed one row.gives) row

pub row_properties : {names : Names} {all left rest : Pieces} {first : Syntax} {old s t : State} (items : List ObjectProperty)
    {grown : List ObjectProperty} (p : Option ObjectProperty) → left ≡ Then first rest → grown ≡ items ++ found_list p
    → LowersProperties names (Then first End) s t (where_pieces p) → HasRow property_pieces names true all left old s items
    → HasRow property_pieces names true all rest old t grown
row_properties items p split pushed one row =
    row_next property_pieces split (one.named row.names_now) one.size (gives_property items p split pushed one row.gives) row

gives_done : {X : Type 0} {names : Names} {of_object : Bool} {all left : Pieces} {old now : State} (f : X → List Piece) (items : List X)
    → left ≡ End → GivesLeft f names of_object all left old now items → LoweredParts names of_object all old now (gathered f items)
gives_done {X} {names} {of_object} {all} {left} {old} {now} f items done gives =
    subst (LoweredParts names of_object all old now) (append-nil (gathered f items))
    (gives now [] (subst (λ (es : Pieces). LoweredParts names of_object es now now []) (sym done) (lowered.NoPart now)))

pub gives_all : {X : Type 0} {names : Names} {all left : Pieces} {old now : State} (f : X → List Piece) (items : List X) → left ≡ End
    → GivesLeft f names false all left old now items → LowersAll names all old now (gathered f items)
gives_all f items done gives = told_all (gives_done f items done gives)

pub gives_properties : {names : Names} {all left : Pieces} {old now : State} (items : List ObjectProperty) → left ≡ End
    → GivesLeft property_pieces names true all left old now items → LowersProperties names all old now (gathered property_pieces items)
gives_properties items done gives = told_properties (gives_done property_pieces items done gives)

-- The last of a row.

pub last_next : {names : Names} {left rest : Pieces} {last next : Syntax} {s t new : State} {p place : Place} → left ≡ Then next rest
    → LowersExpression names last s t p → LoweredLast names (Then next rest) t new place → LoweredLast names (Then last left) s new place
last_next {names} {left} {rest} {last} {next} {s} {t} {new} {p} {place} split l more =
    subst (λ (es : Pieces). LoweredLast names (Then last es) s new place) (sym split)
    (lowered.EarlierPart last next rest s t new p place l.by more)

pub last_alone : {names : Names} {left : Pieces} {last : Syntax} {s t : State} {p : Place} → left ≡ End → LowersExpression names last s t p
    → LoweredLast names (Then last left) s t p
last_alone {names} {left} {last} {s} {t} {p} done l =
    subst (λ (es : Pieces). LoweredLast names (Then last es) s t p) (sym done) (lowered.LastPart last s t p l.by)

-- A covered sequence has an expression.
pub sequence_some : (es : Pieces) → covers word.Seq (Then (Listed es) End) ≡ true → has_parts es ≡ true
sequence_some End covered = covered
sequence_some (Then e es) covered = refl

-- Values that hold copies of texts.

pub string_literal : {text : List ℕ} (copy : List ℕ) → copy ≡ text → IsLiteral word.Str (Then (Said text) End) (primitives.String copy)
string_literal {text} copy same = subst (λ (c : List ℕ). IsLiteral word.Str (Then (Said text) End) (primitives.String c)) (sym same)
    forms.String

pub regexp_form : {pattern flags : List ℕ} (literal : RegExpLiteral) (pattern_copy flags_copy : List ℕ)
    → literal ≡ record { pattern = pattern_copy; flags = flags_copy } → pattern_copy ≡ pattern → flags_copy ≡ flags
    → IsForm word.Regexp (Then (Said pattern) (Then (Said flags) End)) End [] (values.RegExpLiteral literal)
regexp_form {pattern} {flags} literal pattern_copy flags_copy is pattern_same flags_same =
    subst (λ (l : RegExpLiteral). IsForm word.Regexp (Then (Said pattern) (Then (Said flags) End)) End [] (values.RegExpLiteral l))
    (sym (is ∙ ap (λ (p : List ℕ). record { pattern = p; flags = flags_copy }) pattern_same
    ∙ ap (λ (f : List ℕ). record { pattern = pattern; flags = f }) flags_same)) forms.RegExp

pub template_form : {texts es : Pieces} {quasis : List TemplateQuasi} {places : List Place} (literal : TemplateLiteral)
    → literal ≡ record { quasis = quasis; subexpressions = places } → AreQuasis texts quasis
    → IsForm word.Template (Then (Listed texts) (Then (Listed es) End)) es (gathered value_pieces places) (values.TemplateLiteral literal)
template_form {texts} {es} {quasis} {places} literal is copied =
    subst (λ (l : TemplateLiteral). IsForm word.Template (Then (Listed texts) (Then (Listed es) End)) es (gathered value_pieces places)
    (values.TemplateLiteral l)) (sym is) (forms.Template copied refl)

pub tagged_form : {there : At} {tree tag : Syntax} {texts es : Pieces} {t : Place} {quasis : List TemplateQuasi} {places : List Place}
    (literal : TemplateLiteral)
    → Node there word.Template (Then (Listed texts) (Then (Listed es) End)) ≡ tree → are_raw texts ≡ true
    → literal ≡ record { quasis = quasis; subexpressions = places } → AreQuasis texts quasis
    → IsForm word.Tagged (Then tag (Then tree End)) (Then tag es) (Gives t ∷ gathered value_pieces places)
    (values.TaggedTemplateExpression t literal)
tagged_form {there} {tree} {tag} {texts} {es} {t} {quasis} {places} literal same raw is copied =
    subst (λ (n : Syntax). IsForm word.Tagged (Then tag (Then n End)) (Then tag es) (Gives t ∷ gathered value_pieces places)
    (values.TaggedTemplateExpression t literal)) same
    (subst (λ (l : TemplateLiteral). IsForm word.Tagged
    (Then tag (Then (Node there word.Template (Then (Listed texts) (Then (Listed es) End))) End)) (Then tag es)
    (Gives t ∷ gathered value_pieces places) (values.TaggedTemplateExpression t l)) (sym is) (forms.Tagged raw copied refl))

-- A tagged template that is refused.
pub cooked_form : {names : Names} {there : At} {tree tag : Syntax} {texts es : Pieces}
    → Node there word.Template (Then (Listed texts) (Then (Listed es) End)) ≡ tree → are_raw texts ≡ false
    → IsRefused names word.Tagged (Then tag (Then tree End)) row.F13
cooked_form {names} {there} {tree} {tag} {texts} {es} same raw =
    subst (λ (n : Syntax). IsRefused names word.Tagged (Then tag (Then n End)) row.F13) same (forms.Cooked raw)

-- The parts of a tagged template that is cooked as it is written.
pub tagged_may : (names : Names) (at : At) {there : At} {tree : Syntax} (tag : Syntax) {texts es : Pieces}
    → Node there word.Template (Then (Listed texts) (Then (Listed es) End)) ≡ tree → are_raw texts ≡ true
    → IsLowerable names (Node at word.Tagged (Then tag (Then tree End))) → IsLowerable names tag × AreLowerable names es
tagged_may names at {there} {tree} tag {texts} {es} same raw may =
    subst (λ (b : Bool). Where b (IsLowerable names tag × AreLowerable names es)) raw
    (subst (λ (n : Syntax). IsLowerable names (Node at word.Tagged (Then tag (Then n End)))) (sym same) may)
