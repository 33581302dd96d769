-- Derivations of names and numbers from the moves of their lowering, and the room behind a part.
use Rattle.std.proofs.Common.{◌≡◌, ℕ, ◌+◌, ◌≤◌, true, false, List, Option, Some, Result, Ok, Err, OnOk, IfOk}
use Rattle.std.proofs.Common.{refl, ap, sym, ◌∙◌, subst, arith}
use Rattle.rl_base.specs.declared.row.Row.{Row}
use Rattle.rl_base.specs.declared.row.Row.TheVariants as row
use Rattle.rl_base.specs.declared.span.Span.{Span}
use Rattle.rl_base.specs.declared.stop.Stop.{Stop}
use Rattle.rl_builder.specs.Builder.{State, recorded}
use Rattle.rl_builder.specs.Temporaries.{temporary, with_value}
use Rattle.rl_hir.specs.declared.instruction.InstructionValue.{InstructionValue}
use Rattle.rl_hir.specs.declared.instruction.InstructionValue.TheVariants as values
use Rattle.rl_hir.specs.declared.instruction.Place.{Place}
use Rattle.rl_hir.specs.declared.instruction.PrimitiveValue.TheVariants as primitives
use Rattle.rl_lowered.proofs.Told.{told}
use Rattle.rl_lowered.specs.Forms.{IsRefused}
use Rattle.rl_lowered.specs.Forms as forms
use Rattle.rl_lowered.specs.Lowered.{Lowered}
use Rattle.rl_lowered.specs.Lowered as lowered
use Rattle.rl_lowered.specs.Promised.{HasRoom, LowersExpression}
use Rattle.rl_names.specs.Names.{Names}
use Rattle.rl_promises.specs.Rows.{refusal}
use Rattle.rl_runs.proofs.Sizes.{size_value}
use Rattle.rl_runs.specs.Blocks.{size_of}
use Rattle.rl_syntax.specs.Syntax.{Syntax, Node, Said, Pieces, End, Then}
use Rattle.rl_syntax.specs.declared.numbered.At.{At}
use Rattle.rl_syntax.specs.declared.word.Word.{Word}
use Rattle.rl_syntax.specs.declared.word.Word.TheVariants as word
use Rattle.rl_text.specs.Numeral.{is_numeral, number_of}

-- Room is left behind a part that made no more than was set apart for it.
pub room_after : (s t : State) (grown more all : ℕ) → size_of t ≤ size_of s + grown → grown + more ≤ all → HasRoom s all → HasRoom t more
room_after s t grown more all size fits room = omega (arith, size, fits, room)

-- A value makes at most four things.
pub grown : (s t : State) (v : InstructionValue) (span : Option Span) → t ≡ with_value s v span → size_of t ≤ size_of s + 4
grown s t v span moved =
    let size : size_of (with_value s v span) ≤ size_of s + 4 = size_value s v span in
    let same : size_of t ≡ size_of (with_value s v span) = ap size_of moved in
    omega (arith, size, same)

-- A derivation, told of a tree, a state and a place that are equal to its own.
pub derived : {names : Names} (tree e : Syntax) (s t new : State) (p place : Place) → e ≡ tree → new ≡ t → place ≡ p → Lowered names e s t p
    → LowersExpression names tree s new place
derived {names} tree e s t new p place is moved placed by =
    told
    (subst (λ (n : Syntax). Lowered names n s new place) is
    (subst (λ (n : State). Lowered names e s n place) (sym moved)
    (subst (λ (q : Place). Lowered names e s t q) (sym placed) by)))

pub number_ok : (at : At) (text : List ℕ) (number : ℕ) (r : Result Place Stop) (s new : State) → is_numeral text ≡ true
    → number ≡ number_of text
    → OnOk r (new ≡ with_value s (values.Primitive (primitives.Number number)) (Some at.span))
    → IfOk r (λ place. place ≡ temporary s (Some at.span))
    → IfOk r (λ place. (names : Names) → LowersExpression names (Node at word.Num (Then (Said text) End)) s new place)
number_ok at text number (Ok place) s new numeral same moved placed = λ names.
    derived (Node at word.Num (Then (Said text) End)) (Node at word.Num (Then (Said text) End)) s _ new _ place refl
    (moved ∙ ap (λ (n : ℕ). with_value s (values.Primitive (primitives.Number n)) (Some at.span)) same) placed
    (lowered.Literal at word.Num (Then (Said text) End) (primitives.Number (number_of text)) s (forms.Number numeral))
number_ok at text number (Err e) s new numeral same moved placed = tt

-- A node that is refused without its parts.
pub refused_ok : {names : Names} {tree : Syntax} {at : At} {w : Word} {fields : Pieces} {r : Row} (result : Result Place Stop)
    (s new : State)
    → Node at w fields ≡ tree → IsRefused names w fields r
    → OnOk result (new ≡ with_value (recorded s (refusal r at.span)) (values.Primitive primitives.Undefined) (Some at.span))
    → IfOk result (λ place. place ≡ temporary (recorded s (refusal r at.span)) (Some at.span))
    → IfOk result (λ place. LowersExpression names tree s new place)
refused_ok {names} {tree} {at} {w} {fields} {r} (Ok place) s new is refused moved placed =
    derived tree (Node at w fields) s _ new _ place is moved placed (lowered.Refused at w fields r s refused)
refused_ok (Err e) s new is refused moved placed = tt

-- A number that is no numeral.
pub fraction_ok : (at : At) (text : List ℕ) (result : Result Place Stop) (s new : State) → is_numeral text ≡ false
    → OnOk result (new ≡ with_value (recorded s (refusal row.F43 at.span)) (values.Primitive primitives.Undefined) (Some at.span))
    → IfOk result (λ place. place ≡ temporary (recorded s (refusal row.F43 at.span)) (Some at.span))
    → IfOk result (λ place. (names : Names) → LowersExpression names (Node at word.Num (Then (Said text) End)) s new place)
fraction_ok at text (Ok place) s new plain moved placed = λ names.
    refused_ok {names = names} {at = at} {r = row.F43} (Ok place) s new refl (forms.Fraction plain) moved placed
fraction_ok at text (Err e) s new plain moved placed = tt
