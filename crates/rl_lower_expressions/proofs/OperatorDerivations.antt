-- Derivations of expressions under types.
use Rattle.std.proofs.Common.{◌≡◌, Some, Result, Ok, Err, OnOk, IfOk, true, refl, sym, ap, ◌∙◌, subst}
use Rattle.rl_base.specs.TypeKinds.{type_text}
use Rattle.rl_base.specs.declared.stop.Stop.{Stop}
use Rattle.rl_base.specs.declared.type_kind.TypeKind.{TypeKind}
use Rattle.rl_builder.specs.Builder.{State}
use Rattle.rl_builder.specs.Temporaries.{temporary, with_value}
use Rattle.rl_grammar.specs.Grammar.{fits}
use Rattle.rl_grammar.specs.declared.kind.Field.TheVariants as field
use Rattle.rl_grammar.specs.declared.kind.Kind.TheVariants as sort
use Rattle.rl_hir.specs.declared.instruction.HirType.{HirType}
use Rattle.rl_hir.specs.declared.instruction.InstructionValue.TheVariants as values
use Rattle.rl_hir.specs.declared.instruction.Place.{Place}
use Rattle.rl_lowered.specs.Forms.{IsAnnotation, IsCast, type_of, typed}
use Rattle.rl_lowered.specs.Lowered as lowered
use Rattle.rl_lowered.specs.Promised.{LowersExpression}
use Rattle.rl_names.specs.Names.{Names}
use Rattle.rl_syntax.specs.declared.numbered.At.{At}
use Rattle.rl_syntax.specs.declared.word.Word.{Word}
use Rattle.rl_syntax.specs.declared.word.Word.TheVariants as word
use Rattle.rl_syntax.specs.Syntax.{Syntax, Node, Said, Pieces, End, Then}
use Rattle.rl_lower_parts.proofs.Derivations.{derived}

-- A node with a type of its own.
annotated : {there : At} (k : TypeKind) {type : Syntax} (tree : Syntax)
    → Node there word.Type (Then (Said (type_text k)) (Then type End)) ≡ tree → fits (field.One sort.TypeAnnotation) tree ≡ true
    → IsAnnotation (Node there word.Type (Then (Said (type_text k)) (Then type End)))
annotated {there} k {type} tree is fit = subst (λ (n : Syntax). fits (field.One sort.TypeAnnotation) n ≡ true) (sym is) fit

-- A value under a type.
pub cast_ok : {names : Names} {there : At} {e type tree : Syntax} {t mid : State} {p : Place} (at : At) (k : TypeKind)
    (cast : HirType) (s : State) (r : Result Place Stop) (new : State)
    → Node there word.Type (Then (Said (type_text k)) (Then type End)) ≡ tree → fits (field.One sort.TypeAnnotation) tree ≡ true
    → LowersExpression names e s t p → mid ≡ typed t k → cast ≡ type_of t k
    → OnOk r (new ≡ with_value mid (values.TypeCastExpression p cast (Some there.span)) (Some at.span))
    → IfOk r (λ place. place ≡ temporary mid (Some at.span))
    → IfOk r (λ place. (w : Word) (fields : Pieces) → IsCast w fields e tree → LowersExpression names (Node at w fields) s new place)
cast_ok {names} {there} {e} {type} {tree} {t} {mid} {p} at k cast s (Ok place) new is fit l kept made moved placed = λ w fields casts.
    derived (Node at w fields) (Node at w fields) s _ new _ place refl
    (moved ∙ ap (λ (c : HirType). with_value mid (values.TypeCastExpression p c (Some there.span)) (Some at.span)) made
    ∙ ap (λ (o : State). with_value o (values.TypeCastExpression p (type_of t k) (Some there.span)) (Some at.span)) kept)
    (placed ∙ ap (λ (o : State). temporary o (Some at.span)) kept)
    (lowered.Cast at there w fields e type k s t p (subst (IsCast w fields e) (sym is) casts) (annotated k tree is fit) l.by)
cast_ok at k cast s (Err e) new is fit l kept made moved placed = tt

-- The cast that a node is.
pub cast_told : {tree e type : Syntax} {at : At} {w : Word} {fields : Pieces} (names : Names) (s new : State) (r : Result Place Stop)
    → Node at w fields ≡ tree → IsCast w fields e type
    → IfOk r (λ place. (w : Word) (fields : Pieces) → IsCast w fields e type → LowersExpression names (Node at w fields) s new place)
    → IfOk r (λ place. LowersExpression names tree s new place)
cast_told {tree} {e} {type} {at} {w} {fields} names s new (Ok place) is casts l =
    subst (λ (n : Syntax). LowersExpression names n s new place) is (l w fields casts)
cast_told names s new (Err e) is casts l = tt
