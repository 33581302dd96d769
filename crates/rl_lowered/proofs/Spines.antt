-- The refusals of chains by their links, and expressions that were lowered off the spine of a chain: they have no optional link on a
-- spine of their own, so that they have the same refusals below a link.
use Rattle.std.proofs.Common.{◌≡◌, ◌++◌, Bool, true, false, if◌then◌else◌, List, [], ◌∷◌, Option, refl, sym, ap, ◌∙◌}
use Rattle.rl_base.specs.declared.row.Row.{Row}
use Rattle.rl_base.specs.declared.row.Row.TheVariants as row
use Rattle.rl_hir.specs.declared.instruction.PrimitiveValue.{PrimitiveValue}
use Rattle.rl_lowered.proofs.CleanChains.{spine_place}
use Rattle.rl_lowered.proofs.Common.{At, BlockId, Diagnostic, End, InstructionValue, Names, Node, Piece, Pieces, Place, Said, State, Syntax}
use Rattle.rl_lowered.proofs.Common.{Then}
use Rattle.rl_lowered.proofs.Refusals.{member_refuses}
use Rattle.rl_lowered.specs.Forms.{Front, IsCast, IsForm, IsLinkKey, IsLiteral, IsMember, IsPrivate, IsRefused, IsRefusing, IsWrapper}
use Rattle.rl_lowered.specs.Forms.{MemberKey}
use Rattle.rl_lowered.specs.Forms as forms
use Rattle.rl_lowered.specs.Lowered.{Lowered, LoweredLink, LoweredParts}
use Rattle.rl_lowered.specs.Lowered as lowered
use Rattle.rl_promises.specs.Chains.{Below, Spine, Top, below_link}
use Rattle.rl_promises.specs.Rows.{refusal, refusals, refusals_by, refusals_in}
use Rattle.rl_rules.specs.Chains.{has_optional}
use Rattle.rl_syntax.specs.declared.word.Word.{Word}
use Rattle.rl_syntax.specs.declared.word.Word.TheVariants as word
use Rattle.rl_syntax.specs.Syntax.{Flag, Listed}

-- Below a link the expression has the refusals that it has off the spine of a chain.
pub record IsOffSpine (names : Names) (e : Syntax) : Type 0 where
  pub unlinked : has_optional e ≡ false
  pub below : refusals_by names Below e ≡ refusals names e

-- As `IsOffSpine`, for the first of some parts.
abbrev pub FirstOffSpine : Names → Pieces → Type 0
FirstOffSpine names End = Unit {0}
FirstOffSpine names (Then e es) = IsOffSpine names e

literal_off : (names : Names) (at : At) {w : Word} {fields : Pieces} {p : PrimitiveValue} → IsLiteral w fields p
    → IsOffSpine names (Node at w fields)
literal_off names at forms.Null = record { unlinked = refl; below = refl }
literal_off names at _ = record { unlinked = refl; below = refl }

refused_off : (names : Names) (at : At) {w : Word} {fields : Pieces} {r : Row} → IsRefused names w fields r
    → IsOffSpine names (Node at w fields)
refused_off names at forms.Super = record { unlinked = refl; below = refl }
refused_off names at _ = record { unlinked = refl; below = refl }

refusing_off : (names : Names) (at : At) {w : Word} {fields parts : Pieces} {r : Row} → IsRefusing w fields parts r
    → IsOffSpine names (Node at w fields)
refusing_off names at forms.PrivateIn = record { unlinked = refl; below = refl }
refusing_off names at _ = record { unlinked = refl; below = refl }

private_off : (names : Names) (at : At) {w : Word} {fields : Pieces} {e : Syntax} → IsPrivate w fields e
    → IsOffSpine names (Node at w fields)
private_off names at forms.PrivateUpdate = record { unlinked = refl; below = refl }
private_off names at _ = record { unlinked = refl; below = refl }

cast_off : (names : Names) (at : At) {w : Word} {fields : Pieces} {e type : Syntax} → IsCast w fields e type
    → IsOffSpine names (Node at w fields)
cast_off names at forms.As = record { unlinked = refl; below = refl }
cast_off names at _ = record { unlinked = refl; below = refl }

wrapper_off : (names : Names) (at : At) {w : Word} {fields : Pieces} {e : Syntax} → IsWrapper w fields e → IsOffSpine names e
    → IsOffSpine names (Node at w fields)
wrapper_off names at (forms.NonNull {e}) off = record {
  unlinked = off.unlinked;
  below =
      ap (λ (b : Bool). ((if b then refusal row.F44 at.span ∷ [] else []) ++ refusals_by names Below e) ++ []) off.unlinked
      ∙ ap (λ (l : List Diagnostic). l ++ []) off.below;
}
wrapper_off names at _ off = record { unlinked = refl; below = refl }

pub member_off : (names : Names) (at : At) {w : Word} {fields parts : Pieces} {pieces : List Piece} {object : Place} {key : MemberKey}
    → IsMember w fields parts pieces object key → FirstOffSpine names parts → IsOffSpine names (Node at w fields)
member_off names at (forms.Static {object} {key}) off = record {
  unlinked = off.unlinked;
  below = ap (λ (l : List Diagnostic). l ++ refusals_in names (Then (Said key) End)) off.below;
}
member_off names at (forms.Indexed {object} {property} other) off = record {
  unlinked = off.unlinked;
  below = ap (λ (l : List Diagnostic). l ++ refusals_in names (Then property End)) off.below;
}
member_off names at (forms.Numbered {object} {there} {text} is) off = record {
  unlinked = off.unlinked;
  below = ap (λ (l : List Diagnostic). l ++ refusals_in names (Then (Node there word.Num (Then (Said text) End)) End)) off.below;
}

form_off : (names : Names) (at : At) {w : Word} {fields parts : Pieces} {pieces : List Piece} {v : InstructionValue}
    → IsForm w fields parts pieces v → FirstOffSpine names parts → IsOffSpine names (Node at w fields)
form_off names at (forms.Load is) off = member_off names at is off
form_off names at (forms.Call {callee} {es} plain given) off = record {
  unlinked = off.unlinked;
  below = ap (λ (l : List Diagnostic). l ++ refusals_in names (Then (Listed es) End)) off.below;
}
form_off names at _ off = record { unlinked = refl; below = refl }

mutual
  pub lowered_off : {names : Names} {e : Syntax} {s t : State} {p : Place} → Lowered names e s t p → IsOffSpine names e
  lowered_off {names} (lowered.Literal at w fields p s is) = literal_off names at is
  lowered_off {names} (lowered.Refused at w fields r s is) = refused_off names at is
  lowered_off {names} (lowered.RefusedBefore at w fields parts r pieces s t is l) = refusing_off names at is
  lowered_off {names} (lowered.RefusedBehind at object name s t p l) =
      let off = lowered_off l in record {
        unlinked = off.unlinked;
        below = ap (λ (l : List Diagnostic). l ++ refusal row.F3 at.span ∷ []) off.below;
      }
  lowered_off {names} (lowered.Private at w fields e s t p is l) = private_off names at is
  lowered_off {names} (lowered.Method at there w fields parts es pieces given_pieces object key given s t u is l given_are m) =
      let off = member_off names there is (parts_off l) in record {
        unlinked = off.unlinked;
        below = ap (λ (l : List Diagnostic). l ++ refusals_in names (Then (Listed es) End)) off.below;
      }
  lowered_off {names} (lowered.Cast at there w fields e type k s t p is annotated l) = cast_off names at is
  lowered_off {names} (lowered.Same at w fields e s t p is l) = wrapper_off names at is (lowered_off l)
  lowered_off {names} (lowered.Asked at w fields parts pieces v s t is l) = form_off names at is (parts_off l)
  lowered_off _ = record { unlinked = refl; below = refl }

  pub parts_off : {names : Names} {of_object : Bool} {es : Pieces} {s t : State} {pieces : List Piece}
      → LoweredParts names of_object es s t pieces → FirstOffSpine names es
  parts_off (lowered.NextPart e es s t u p pieces l more) = lowered_off l
  parts_off (lowered.NoPart s) = tt
  parts_off (lowered.NextHole at es s u pieces more) = record { unlinked = refl; below = refl }
  parts_off _ = record { unlinked = refl; below = refl }

-- The refusals of links.

pub link_refuses : (names : Names) (place : Spine) (at : At) (optional : Bool) (object : Syntax) {w : Word} {rest parts : Pieces}
    {pieces : List Piece} {key : MemberKey} → IsLinkKey w rest parts pieces key
    → refusals_by names place (Node at w (Then (Flag optional) (Then object rest)))
    ≡ refusals_by names (below_link place) object ++ refusals_in names parts
link_refuses names place at optional object forms.LinkStatic = refl
link_refuses names place at optional object (forms.LinkIndexed other) = refl
link_refuses names place at optional object (forms.LinkNumbered {there} {text} is) =
    ap (λ (b : Bool). refusals_by names (below_link place) object
    ++ (((if b then [] else refusal row.F43 there.span ∷ []) ++ []) ++ [])) is

top_refuses : (names : Names) (at : At) (optional : Bool) (object : Syntax) {w : Word} {rest parts : Pieces} {pieces : List Piece}
    {key : MemberKey} → IsLinkKey w rest parts pieces key
    → refusals_by names Top (Node at w (Then (Flag optional) (Then object rest)))
    ≡ refusals_by names Below (Node at w (Then (Flag optional) (Then object rest)))
top_refuses names at optional object forms.LinkStatic = refl
top_refuses names at optional object _ = refl

-- The outermost link has the refusals of any other.
pub outermost_refuses : {names : Names} {alternate : Option BlockId} {e : Syntax} {s t : State} {front : Front} {p : Place}
    → LoweredLink names alternate e s t front p → (below : Bool) → refusals_by names (spine_place below) e ≡ refusals_by names Below e
outermost_refuses l true = refl
outermost_refuses {names} (lowered.LinkedProperty alternate at w optional object rest parts pieces o key s t u is front more) false =
    top_refuses names at optional object is
outermost_refuses (lowered.LinkedPrivate alternate at optional object name o s t front) false = refl
outermost_refuses (lowered.LinkedCall alternate at optional callee es pieces given front s t u l more given_are) false = refl

-- A `!` below a link around an optional link is refused (row F44).
pub broken_refuses : (names : Names) (at : At) (e : Syntax) → has_optional e ≡ true
    → refusals_by names Below (Node at word.Nonnull (Then e End)) ≡ (refusal row.F44 at.span ∷ refusals_by names Below e) ++ []
broken_refuses names at e is =
    ap (λ (b : Bool). ((if b then refusal row.F44 at.span ∷ [] else []) ++ refusals_by names Below e) ++ []) is

pub outermost_clean : {names : Names} {alternate : Option BlockId} {e : Syntax} {s t : State} {front : Front} {p : Place}
    → LoweredLink names alternate e s t front p → (below : Bool) → refusals_by names (spine_place below) e ≡ []
    → refusals_by names Below e ≡ []
outermost_clean l below none = sym (outermost_refuses l below) ∙ none

-- A property in front of a chain, which lends its object.
pub front_refuses : {names : Names} {w : Word} {fields parts : Pieces} {pieces : List Piece} {object : Place} {key : MemberKey}
    {s t : State} → IsMember w fields parts pieces object key → LoweredParts names false parts s t pieces → (at : At)
    → refusals_by names Below (Node at w fields) ≡ refusals_in names parts
front_refuses {names} is l at = (member_off names at is (parts_off l)).below ∙ member_refuses names at is
