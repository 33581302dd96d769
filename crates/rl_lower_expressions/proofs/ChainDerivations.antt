-- Derivations of optional chains, from the moves of their lowering, and the room and the names in the holes of links.
use Rattle.std.proofs.Common.{◌≡◌, ℕ, ◌+◌, ◌≤◌, ◌&&◌, true, false, Bool, List, Option, Some, None, Result, Ok, Err, OnOk, IfOk}
use Rattle.std.proofs.Common.{refl, ap, sym, ◌∙◌, subst, true≢false, arith}
use Rattle.rl_base.specs.declared.ids.BlockId.{BlockId}
use Rattle.rl_base.specs.declared.row.Row.TheVariants as row
use Rattle.rl_base.specs.declared.span.Span.{Span}
use Rattle.rl_base.specs.declared.stop.Stop.{Stop}
use Rattle.rl_builder.specs.Builder.{State, recorded}
use Rattle.rl_builder.specs.Temporaries.{temporary, with_value}
use Rattle.rl_hir.specs.Pieces.{Piece, argument_pieces, gathered}
use Rattle.rl_hir.specs.declared.instruction.InstructionValue.{InstructionValue}
use Rattle.rl_hir.specs.declared.instruction.InstructionValue.TheVariants as values
use Rattle.rl_hir.specs.declared.instruction.Place.{Place}
use Rattle.rl_hir.specs.declared.instruction.PlaceOrSpread.{PlaceOrSpread}
use Rattle.rl_hir.specs.declared.instruction.PrimitiveValue.TheVariants as primitives
use Rattle.rl_lower_parts.proofs.Derivations.{derived}
use Rattle.rl_lower_parts.proofs.Derivations.{grown}
use Rattle.rl_lower_parts.specs.Shapes.{is_assertion}
use Rattle.rl_lower_expressions.specs.Links.{LowersKey, OpensLink, front_of, refused_below}
use Rattle.rl_lower_expressions.specs.Members.{LowersMember, key_of}
use Rattle.rl_lower_expressions.specs.declared.chain.Front as fronts
use Rattle.rl_lower_expressions.specs.declared.chain.Front.TheVariants as rust
use Rattle.rl_lower_expressions.specs.declared.chain.LoweredLink as links
use Rattle.rl_lower_expressions.specs.declared.chain.OpenLink.{OpenLink}
use Rattle.rl_lower_expressions.specs.declared.member.LoweredMember.{LoweredMember}
use Rattle.rl_lower_expressions.specs.declared.member.MemberProperty.{MemberProperty}
use Rattle.rl_lowered.proofs.Names.{names_link_opened, names_same}
use Rattle.rl_lowered.proofs.Told.{told_front, told_link, told_spine}
use Rattle.rl_lowered.specs.Forms.{Alone, Front, IsLinkKey, MemberKey, call_of, handed_on, is_property, load_of, tested_front}
use Rattle.rl_lowered.specs.Forms as forms
use Rattle.rl_lowered.specs.Lowered.{LoweredAll, LoweredFront, LoweredLink, LoweredSpine, private_met}
use Rattle.rl_lowered.specs.Lowered as lowered
use Rattle.rl_lowered.specs.Named.{IsNamed}
use Rattle.rl_lowered.specs.Promised.{HasRoom, LowersAll, LowersExpression, LowersFront, LowersLink, LowersSpine, share}
use Rattle.rl_names.specs.Names.{Names}
use Rattle.rl_optional_frames.proofs.Sizes.{inner_opened_size, link_objected_size, outer_opened_size}
use Rattle.rl_optional_frames.specs.declared.chain_link.ChainLink.{ChainLink}
use Rattle.rl_optional_frames.specs.Frames.{LinkParts, link_after, link_at, link_ended, link_objected, link_of}
use Rattle.rl_optional_frames.specs.Parts.{link_opened}
use Rattle.rl_promises.specs.Rows.{refusal}
use Rattle.rl_rules.specs.Chains.{has_optional}
use Rattle.rl_runs.specs.Blocks.{size_of}
use Rattle.rl_syntax.specs.declared.numbered.At.{At}
use Rattle.rl_syntax.specs.declared.word.Word.{Word}
use Rattle.rl_syntax.specs.declared.word.Word.TheVariants as word
use Rattle.rl_syntax.specs.Syntax.{Syntax, Node, Listed, Said, Flag, Pieces, End, Then, nodes}

-- The hole of an object or callee.

pub opened_named : {names : Names} (alternate : Option BlockId) (s b : State) (span : Span) → b ≡ link_opened alternate s span
    → IsNamed names s → IsNamed names b
opened_named {names} alternate s b span is named = subst (IsNamed names) (sym is) ((names_link_opened alternate s span).named named)

opened_size : (alternate : Option BlockId) (s : State) (span : Span) → size_of (link_opened alternate s span) ≤ size_of s + 14
opened_size None s span = outer_opened_size s span
opened_size (Some given) s span = let few = inner_opened_size s span given in omega (arith, few)

pub opened_room : (alternate : Option BlockId) (s b : State) (span : Span) (more all : ℕ) → b ≡ link_opened alternate s span
    → 14 + more ≤ all → HasRoom s all → HasRoom b more
opened_room alternate s b span more all is fits room =
    subst (λ (o : State). HasRoom o more) (sym is) (omega (arith, fits, room, opened_size alternate s span))

-- The object or callee of a link.
pub opens_ok : {names : Names} {called : Bool} {e : Syntax} {b t : State} {f : LinkParts} {early : BlockId}
    (at : At) (alternate : Option BlockId) (optional : Bool) (s new : State) (front : fronts.Front) (o : Place) (link : ChainLink)
    → b ≡ link_opened alternate s at.span → f ≡ link_at s at.span optional alternate → early ≡ f.alternate
    → LowersFront names early called e b t (front_of front) → o ≡ tested_front (front_of front) → new ≡ link_objected f t o
    → link_of link ≡ link_after f
    → OpensLink names alternate at.span optional called e s new (record { link = link; front = front })
opens_ok {names} {called} {e} {b} {t} {f} {early} at alternate optional s new front o link begun framed told l tests moved after = record {
  between = t;
  by =
      subst (λ (x : State). LoweredFront names (link_at s at.span optional alternate).alternate called e x t (front_of front)) begun
      (subst (λ (a : BlockId). LoweredFront names a called e b t (front_of front)) (told ∙ ap (λ (q : LinkParts). q.alternate) framed)
      l.by);
  moved =
      moved ∙ ap (λ (q : LinkParts). link_objected q t o) framed
      ∙ ap (λ (p : Place). link_objected (link_at s at.span optional alternate) t p) tests;
  frame = after ∙ ap link_after framed;
  named = λ n.
      subst (IsNamed names) (sym moved)
      ((names_same t (link_objected f t o) refl).named (l.named (opened_named alternate s b at.span begun n)));
  size =
      let first : size_of b ≡ size_of (link_opened alternate s at.span) = ap size_of begun in
      let second : size_of t ≤ size_of b + share (nodes e) = l.size in
      let third : size_of new ≡ size_of (link_objected f t o) = ap size_of moved in
      let fourth : size_of (link_objected f t o) ≤ size_of t + 0 = link_objected_size f t o in
      omega (arith, first, second, third, fourth, opened_size alternate s at.span);
}

-- Links.

-- An object is alone.
object_alone : {names : Names} {alternate : BlockId} {called : Bool} {e : Syntax} {s t : State} {front : Front} → called ≡ false
    → LoweredFront names alternate called e s t front → front ≡ Alone (tested_front front)
object_alone off (lowered.FrontLink alternate called e s t front p l) =
    let alone : handed_on (called && is_property e) front p ≡ Alone p =
    ap (λ (c : Bool). handed_on (c && is_property e) front p) off in
    alone ∙ sym (ap (λ (f : Front). Alone (tested_front f)) alone)
object_alone off (lowered.FrontBroken alternate called at e s t p l) = refl
object_alone off (lowered.FrontMethod alternate at w fields parts pieces object key s t is l) = absurd (true≢false off)
object_alone off (lowered.FrontAlone alternate called e s t p other l) = refl

derived_link : {names : Names} {alternate : Option BlockId} (e : Syntax) (s t new : State) (f front : Front) (p place : Place) → new ≡ t
    → front ≡ f → place ≡ p → LoweredLink names alternate e s t f p → LowersLink names alternate e s new front place
derived_link {names} {alternate} e s t new f front p place moved fronted placed by =
    told_link
    (subst (λ (n : State). LoweredLink names alternate e s n front place) (sym moved)
    (subst (λ (g : Front). LoweredLink names alternate e s t g place) (sym fronted)
    (subst (λ (q : Place). LoweredLink names alternate e s t f q) (sym placed) by)))

-- A property.
pub property_link_ok : {names : Names} {alternate : Option BlockId} {object : Syntax} {w : Word} {rest : Pieces} {s t u : State}
    (at : At) (optional : Bool) (opened : OpenLink) (property : MemberProperty) (r : Result links.LoweredLink Stop) (new : State)
    → OpensLink names alternate at.span optional false object s t opened → LowersKey names w rest t u property
    → OnOk r (new ≡ link_ended (link_of opened.link)
    (with_value u (load_of (tested_front (front_of opened.front)) (key_of property)) (Some at.span)) (temporary u (Some at.span)))
    → IfOk r (λ link. link.front ≡ opened.front) → IfOk r (λ link. link.place ≡ (link_of opened.link).place)
    → IfOk r (λ link. LowersLink names alternate (Node at w (Then (Flag optional) (Then object rest))) s new (front_of link.front)
    link.place)
property_link_ok {names} {alternate} {object} {w} {rest} {s} {t} {u} at optional opened property (Ok link) new o k moved fronted placed =
    let tested : Place = tested_front (front_of opened.front) in
    let f : LinkParts = link_at s at.span optional alternate in
    let alone : front_of opened.front ≡ Alone tested = object_alone refl o.by in
    let loaded : State = with_value u (load_of tested (key_of property)) (Some at.span) in
    derived_link (Node at w (Then (Flag optional) (Then object rest))) s
    (link_ended (link_after f) loaded (temporary u (Some at.span))) new (Alone tested) (front_of link.front) f.place link.place
    (moved ∙ ap (λ (q : LinkParts). link_ended q loaded (temporary u (Some at.span))) o.frame)
    (ap front_of fronted ∙ alone) (placed ∙ ap (λ (q : LinkParts). q.place) o.frame)
    (lowered.LinkedProperty alternate at w optional object rest k.parts k.pieces tested (key_of property) s o.between u k.key
    (subst (LoweredFront names f.alternate false object (link_opened alternate s at.span) o.between) alone o.by)
    (subst (λ (x : State). LoweredAll names k.parts x u k.pieces) o.moved k.by))
property_link_ok at optional opened property (Err e) new o k moved fronted placed = tt

-- A property of a private name.
pub private_link_ok : {names : Names} {alternate : Option BlockId} {object : Syntax} {s t m : State} {p : Place} (at : At)
    (name : List ℕ) (optional : Bool) (opened : OpenLink) (r : Result links.LoweredLink Stop) (new : State)
    → OpensLink names alternate at.span optional false object s t opened
    → m ≡ with_value (recorded t (refusal row.F3 at.span)) (values.Primitive primitives.Undefined) (Some at.span)
    → p ≡ temporary (recorded t (refusal row.F3 at.span)) (Some at.span)
    → OnOk r (new ≡ link_ended (link_of opened.link) m p)
    → IfOk r (λ link. link.front ≡ opened.front) → IfOk r (λ link. link.place ≡ (link_of opened.link).place)
    → IfOk r (λ link. LowersLink names alternate
    (Node at word.Privatemember (Then (Flag optional) (Then object (Then (Said name) End)))) s new (front_of link.front) link.place)
private_link_ok {names} {alternate} {object} {s} {t} {m} {p} at name optional opened (Ok link) new o made at_place moved fronted placed =
    let tested : Place = tested_front (front_of opened.front) in
    let f : LinkParts = link_at s at.span optional alternate in
    let alone : front_of opened.front ≡ Alone tested = object_alone refl o.by in
    let undefined : State → State =
    λ x. with_value (private_met x at.span) (values.Primitive primitives.Undefined) (Some at.span) in
    let place : State → Place = λ x. temporary (private_met x at.span) (Some at.span) in
    let x : State = link_objected f o.between tested in
    derived_link (Node at word.Privatemember (Then (Flag optional) (Then object (Then (Said name) End)))) s
    (link_ended (link_after f) (undefined x) (place x)) new (Alone tested) (front_of link.front) f.place link.place
    (moved ∙ ap (λ (q : LinkParts). link_ended q m p) o.frame
    ∙ ap (λ (n : State). link_ended (link_after f) n p) (made ∙ ap undefined o.moved)
    ∙ ap (λ (q : Place). link_ended (link_after f) (undefined x) q) (at_place ∙ ap place o.moved))
    (ap front_of fronted ∙ alone) (placed ∙ ap (λ (q : LinkParts). q.place) o.frame)
    (lowered.LinkedPrivate alternate at optional object name tested s o.between
    (subst (LoweredFront names f.alternate false object (link_opened alternate s at.span) o.between) alone o.by))
private_link_ok at name optional opened (Err e) new o made at_place moved fronted placed = tt

-- The refusal makes four things at most.
pub refused_grown : (s t : State) (at : Span)
    → t ≡ with_value (recorded s (refusal row.F3 at)) (values.Primitive primitives.Undefined) (Some at) → size_of t ≤ size_of s + 4
refused_grown s t at moved = grown (recorded s (refusal row.F3 at)) t (values.Primitive primitives.Undefined) (Some at) moved

-- A call.
pub called_link_ok : {names : Names} {alternate : Option BlockId} {callee : Syntax} {es : Pieces} {value : InstructionValue}
    {s t u m : State} {p : Place} (at : At) (given : List PlaceOrSpread) (optional : Bool) (opened : OpenLink)
    (r : Result links.LoweredLink Stop) (new : State)
    → OpensLink names alternate at.span optional true callee s t opened → LowersAll names es t u (gathered argument_pieces given)
    → value ≡ call_of (front_of opened.front) given → m ≡ with_value u value (Some at.span) → p ≡ temporary u (Some at.span)
    → OnOk r (new ≡ link_ended (link_of opened.link) m p)
    → IfOk r (λ link. link.front ≡ opened.front) → IfOk r (λ link. link.place ≡ (link_of opened.link).place)
    → IfOk r (λ link. LowersLink names alternate (Node at word.Call (Then (Flag optional) (Then callee (Then (Listed es) End)))) s new
    (front_of link.front) link.place)
called_link_ok {names} {alternate} {callee} {es} {value} {s} {t} {u} {m} {p} at given optional opened (Ok link) new o l calls made at_place
    moved fronted placed =
    let front : Front = front_of opened.front in
    let f : LinkParts = link_at s at.span optional alternate in
    let called : State = with_value u (call_of front given) (Some at.span) in
    derived_link (Node at word.Call (Then (Flag optional) (Then callee (Then (Listed es) End)))) s
    (link_ended (link_after f) called (temporary u (Some at.span))) new front (front_of link.front) f.place link.place
    (moved ∙ ap (λ (q : LinkParts). link_ended q m p) o.frame
    ∙ ap (λ (n : State). link_ended (link_after f) n p) (made ∙ ap (λ (v : InstructionValue). with_value u v (Some at.span)) calls)
    ∙ ap (λ (q : Place). link_ended (link_after f) called q) at_place)
    (ap front_of fronted) (placed ∙ ap (λ (q : LinkParts). q.place) o.frame)
    (lowered.LinkedCall alternate at optional callee es (gathered argument_pieces given) given front s o.between u o.by
    (subst (λ (x : State). LoweredAll names es x u (gathered argument_pieces given)) o.moved l.by) refl)
called_link_ok at given optional opened (Err e) new o l calls made at_place moved fronted placed = tt

-- Spines.

pub outermost_ok : {names : Names} {e : Syntax} {s t : State} {front : Front} {p : Place} (below : Bool)
    → LowersLink names None e s t front p
    → LowersSpine names below e s t p
outermost_ok {names} {e} {s} {t} {front} {p} below l = told_spine (lowered.Outermost e s t front p l.by)

pub asserted_ok : {tree e : Syntax} {at : At} {t : State} (names : Names) (below : Bool) (s new : State) (r : Result Place Stop)
    → Node at word.Nonnull (Then e End) ≡ tree → has_optional tree ≡ true → t ≡ refused_below below s at.span
    → IfOk r (λ place. LowersSpine names below e t new place) → IfOk r (λ place. LowersSpine names below tree s new place)
asserted_ok {tree} {e} {at} {t} names true s new (Ok place) is optional noted l =
    told_spine (subst (λ (n : Syntax). LoweredSpine names true n s new place) is
    (lowered.Broken at e s new place (ap has_optional is ∙ optional)
    (subst (λ (o : State). LoweredSpine names true e o new place) noted l.by)))
asserted_ok {tree} {e} {at} {t} names false s new (Ok place) is optional noted l =
    told_spine (subst (λ (n : Syntax). LoweredSpine names false n s new place) is
    (lowered.Asserted at e s new place (subst (λ (o : State). LoweredSpine names false e o new place) noted l.by)))
asserted_ok names below s new (Err e) is optional noted l = tt

-- A chain.
pub chain_ok : {tree e : Syntax} {at : At} (names : Names) (s new : State) (r : Result Place Stop)
    → Node at word.Chain (Then e End) ≡ tree → IfOk r (λ place. LowersSpine names false e s new place)
    → IfOk r (λ place. LowersExpression names tree s new place)
chain_ok {tree} {e} {at} names s new (Ok place) is l =
    derived tree (Node at word.Chain (Then e End)) s new new place place is refl refl (lowered.Chain at e s new place l.by)
chain_ok names s new (Err e) is l = tt

-- Objects and callees.

-- A key makes its node a property.
key_plain : {w : Word} {rest parts : Pieces} {pieces : List Piece} {key : MemberKey} (at : At) (optional object : Syntax)
    → IsLinkKey w rest parts pieces key → is_assertion (Node at w (Then optional (Then object rest))) ≡ false
key_plain at optional object forms.LinkStatic = refl
key_plain at optional object (forms.LinkIndexed other) = refl
key_plain at optional object (forms.LinkNumbered is) = refl

link_plain : {names : Names} {alternate : Option BlockId} {e : Syntax} {s t : State} {front : Front} {p : Place}
    → LoweredLink names alternate e s t front p → is_assertion e ≡ false
link_plain (lowered.LinkedProperty alternate at w optional object rest parts pieces o key s t u is l more) =
    key_plain at (Flag optional) object is
link_plain (lowered.LinkedPrivate alternate at optional object name o s t l) = refl
link_plain (lowered.LinkedCall alternate at optional callee es pieces given front s t u l more is) = refl

pub broken_ok : {names : Names} {below : Bool} {e : Syntax} {s t : State} {p : Place} (alternate : BlockId) (called : Bool) → below ≡ true
    → is_assertion e ≡ true → LoweredSpine names below e s t p → LowersFront names alternate called e s t (Alone p)
broken_ok alternate called spine is (lowered.Outermost e s t front p l) = absurd (true≢false (sym is ∙ link_plain l))
broken_ok alternate called spine is (lowered.Asserted at e s t p l) = absurd (true≢false (sym spine))
broken_ok alternate called spine is (lowered.Broken at e s t p optional l) =
    told_front (lowered.FrontBroken alternate called at e s t p (lowered.Broken at e s t p optional l))

pub handed_ok : {names : Names} {e : Syntax} {s t : State} {p : Place} {f : Front} (alternate : BlockId) (called lends : Bool)
    (front : fronts.Front) → lends ≡ (called && is_property e) → front_of front ≡ handed_on lends f p
    → LowersLink names (Some alternate) e s t f p → LowersFront names alternate called e s t (front_of front)
handed_ok {names} {e} {s} {t} {p} {f} alternate called lends front lent handed l =
    told_front (subst (LoweredFront names alternate called e s t) (sym (handed ∙ ap (λ (b : Bool). handed_on b f p) lent))
    (lowered.FrontLink alternate called e s t f p l.by))

pub lent_ok : {names : Names} {tree : Syntax} {at : At} {w : Word} {fields : Pieces} {s t : State} (m : LoweredMember)
    (r : Result fronts.Front Stop) (new : State) → Node at w fields ≡ tree → LowersMember names w fields s t m
    → OnOk r (new ≡ with_value t (load_of m.object (key_of m.property)) (Some at.span))
    → IfOk r (λ front. front ≡ rust.Method m.object (temporary t (Some at.span)))
    → IfOk r (λ front. (alternate : BlockId) → LowersFront names alternate true tree s new (front_of front))
lent_ok {names} {tree} {at} {w} {fields} {s} {t} m (Ok front) new is l moved fronted = λ alternate.
    told_front (subst (λ (n : Syntax). LoweredFront names alternate true n s new (front_of front)) is
    (subst (λ (n : State). LoweredFront names alternate true (Node at w fields) s n (front_of front)) (sym moved)
    (subst (λ (f : fronts.Front). LoweredFront names alternate true (Node at w fields) s
    (with_value t (load_of m.object (key_of m.property)) (Some at.span)) (front_of f)) (sym fronted)
    (lowered.FrontMethod alternate at w fields l.parts l.pieces m.object (key_of m.property) s t l.member l.by))))
lent_ok m (Err e) new is l moved fronted = tt

pub callee_ok : (names : Names) (tree : Syntax) (s new : State) (alternate : BlockId) (called : Bool) (r : Result fronts.Front Stop)
    → called ≡ true → IfOk r (λ front. (alternate : BlockId) → LowersFront names alternate true tree s new (front_of front))
    → IfOk r (λ front. LowersFront names alternate called tree s new (front_of front))
callee_ok names tree s new alternate called (Ok front) calls l =
    subst (λ (c : Bool). LowersFront names alternate c tree s new (front_of front)) (sym calls) (l alternate)
callee_ok names tree s new alternate called (Err e) calls l = tt

pub alone_ok : {names : Names} {e : Syntax} {s t : State} {p : Place} (alternate : BlockId) (called : Bool)
    → (called && is_property e) ≡ false → LowersExpression names e s t p → LowersFront names alternate called e s t (Alone p)
alone_ok {names} {e} {s} {t} {p} alternate called other l = told_front (lowered.FrontAlone alternate called e s t p other l.by)
