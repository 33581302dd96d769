-- Derivations of the properties of a target that is a pattern: their parts, and what the calls for them require.
use Rattle.std.proofs.Common.{◌≡◌, ℕ, Bool, true, false, not, List, [], ◌∷◌, Option, Some, sym, subst}
use Rattle.std.proofs.lemmas.Option.{none-some}
use Rattle.rl_builder.specs.Builder.{State}
use Rattle.rl_hir.specs.Pieces.{Names as Named}
use Rattle.rl_hir.specs.declared.instruction.Place.{Place}
use Rattle.rl_lower_parts.proofs.ItemDerivations.{element_part, given_pieces, keyed_taken, met_kept, short_named, short_taken}
use Rattle.rl_lower_parts.specs.Patterns.{IsDirect, IsLocalName, IsTakenPart, MeetsKey, TakesItem, TakesPart, named}
use Rattle.rl_lower_parts.specs.declared.target_items.LeftTarget.{LeftTarget}
use Rattle.rl_lowered.specs.Named.{IsNamed}
use Rattle.rl_names.specs.Names.{Names}
use Rattle.rl_promises.specs.Lowerable.{IsLowerableTo, Where}
use Rattle.rl_promises.specs.Patterns.{is_lost_item, loses_item, target_under}
use Rattle.rl_syntax.specs.declared.numbered.At.{At}
use Rattle.rl_syntax.specs.declared.word.Word.TheVariants as word
use Rattle.rl_syntax.specs.Syntax.{Syntax, Node, Said, Flag, Absent, End, Then}

-- The target under a property that is not left out is lowerable.
pub under_may : (names : Names) (item : Syntax) → is_lost_item item ≡ false → IsLowerableTo names item
    → IsLowerableTo names (target_under item)
under_may names (Node at word.Keyed (Then computed (Then key (Then target End)))) kept may =
    subst (λ (b : Bool). Where (not b) (IsLowerableTo names target)) kept may
under_may names (Node at word.Short (Then name (Then Absent End))) kept may = may.1
under_may names _ kept may = may

-- A property with a key.

pub keyed_direct : (names : Names) (forced : Bool) (target : Syntax) {computed : Bool} {key : Syntax} {text : List ℕ} {s m : State}
    {name : Option Syntax} → (loses_item (Flag computed) key ≡ false → IsDirect names forced (named target))
    → MeetsKey computed key text s m → name ≡ named target → IsDirect names forced name
keyed_direct names forced target direct met same = subst (IsDirect names forced) (sym same) (direct (met_kept met))

pub keyed_told : {names : Names} {forced : Bool} {at : At} {computed : Bool} {key target : Syntax} {text : List ℕ}
    {before after : List LeftTarget} {s m t : State} {given place : Option Place} {name : Option Syntax}
    → IsNamed names s → (loses_item (Flag computed) key ≡ false → IsDirect names forced (named target)) → MeetsKey computed key text s m
    → name ≡ named target
    → ((tree : Syntax) → IsTakenPart forced target name tree → TakesPart names forced tree before after m t given) → given ≡ place
    → TakesItem names true forced (Node at word.Keyed (Then (Flag computed) (Then key (Then target End))))
    (given_pieces true (Named text ∷ []) place) before after s t
keyed_told {names} {forced} {target = target} {before = before} {after} {m = m} {t} n direct met same taken is =
    keyed_taken n met
    (subst (λ (o : Option Place). TakesPart names forced target before after m t o) is
    (taken target (element_part names forced target (direct (met_kept met)) same)))

-- A name that is its own key.

pub short_direct : (names : Names) (forced : Bool) (at : At) {there : At} {text : List ℕ} {id : Syntax} (default : Syntax)
    → Node there word.Id (Then (Said text) End) ≡ id
    → IsDirect names forced (named (target_under (Node at word.Short (Then id (Then default End)))))
    → IsDirect names forced (Some (Node there word.Id (Then (Said text) End)))
short_direct names true at default is direct = tt
short_direct names false at {there} {text} {id} default is direct =
    subst (λ (e : Syntax). IsLocalName names (named e)) (sym is) (name_by default direct)
  where
    name_by : (e : Syntax) → IsLocalName names (named (target_under (Node at word.Short (Then id (Then e End)))))
        → IsLocalName names (named id)
    name_by Absent local = local
    name_by _ local = absurd (none-some local.tree local.is)

pub short_told : {names : Names} {forced : Bool} {at there : At} {text : List ℕ} {id part default : Syntax} {before after : List LeftTarget}
    {s t : State} {given place : Option Place} {name : Option Syntax}
    → Node there word.Id (Then (Said text) End) ≡ id → part ≡ target_under (Node at word.Short (Then id (Then default End)))
    → IsNamed names s → IsDirect names forced (named (target_under (Node at word.Short (Then id (Then default End))))) → name ≡ Some id
    → ((tree : Syntax) → IsTakenPart forced part name tree → TakesPart names forced tree before after s t given) → given ≡ place
    → TakesItem names true forced (Node at word.Short (Then id (Then default End))) (given_pieces true (Named text ∷ []) place) before after
    s t
short_told {names} {forced} {at} {there} {text} {id} {part} {default} {before} {after} {s} {t} is under n direct same taken got =
    short_taken (sym is) under n
    (subst (λ (o : Option Place). TakesPart names forced part before after s t o) got
    (taken part (short_named names forced at there text id part default (sym is) under direct same)))
