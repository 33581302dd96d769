-- Calls and tagged templates by the values of their callees and tags: in an orderly function each lends one receiver, as it is written and
-- as it is ported.
use Rattle.std.proofs.Common.{◌≡◌, ℕ, Bool, true, false, true≢false, ◌&&◌, not, if◌then◌else◌, List, ◌∷◌, ◌++◌, codes, refl, sym, ap}
use Rattle.rl_machine.specs.declared.trace.Value.{Value}
use Rattle.rl_model.specs.Actions.{Action, ◌>>=◌, ◌>>◌, ask, no_meaning}
use Rattle.rl_model.specs.Events as events
use Rattle.rl_model.specs.Expressions.{call_kind, callee, called, eval, one_value, unless_nullish, values}
use Rattle.rl_model.specs.Scene.{Scene}
use Rattle.rl_model.specs.Shapes as shapes
use Rattle.rl_model.specs.Shapes.{is_link, lends}
use Rattle.rl_syntax.specs.Syntax.{Syntax, Node, Listed, Flag, Pieces, End, Then}
use Rattle.rl_syntax.specs.declared.numbered.At.{At}
use Rattle.rl_syntax.specs.declared.word.Word.TheVariants as word

-- A callee that lends its object in both runs, or in none, lends it if it is a property.
same_link : (lends link : Bool) → (link ≡ true → lends ≡ true) → lends && not link ≡ false → lends ≡ link
same_link true true whole same = refl
same_link true false whole same = absurd (true≢false same)
same_link false true whole same = whole refl
same_link false false whole same = refl

link_lends : (e : Syntax) → is_link e ≡ true → lends e ≡ true
link_lends (Node at word.Member parts) link = refl
link_lends (Node at word.Index parts) link = refl
link_lends (Node at word.Privatemember parts) link = refl
link_lends _ link = absurd (true≢false (sym link))

-- The values of a callee or a tag: behind the object that it lends, if it does.
abbrev pub head_of : Scene → (lends : Bool) → Syntax → Action (List Value)
head_of scene lends part = if lends then callee scene part else one_value (eval scene part)

-- A call by the values of its callee.
abbrev pub call_by : Scene → (optional : Bool) (head arguments : Action (List Value)) (shapes_of : List (List ℕ)) → Action Value
call_by scene optional head arguments shapes_of = do
  vs ← head
  unless_nullish scene optional (called vs)
  ws ← arguments
  ask scene (events.event (call_kind vs) shapes_of (vs ++ ws))

pub as_called : (scene : Scene) (optional : Bool) (called_part : Syntax) (arguments : Pieces) (at : At)
    → lends called_part && not (is_link called_part) ≡ false
    → eval scene (Node at word.Call (Then (Flag optional) (Then called_part (Then (Listed arguments) End))))
    ≡ call_by scene optional (head_of scene (is_link called_part) called_part) (values scene arguments) (shapes.shapes arguments)
as_called scene optional called_part arguments at none =
    ap (λ (lends : Bool). call_by scene optional (head_of scene lends called_part) (values scene arguments) (shapes.shapes arguments))
    (by_order scene.ported)
  where
    by_order : (ported : Bool) → (if ported then is_link called_part else lends called_part) ≡ is_link called_part
    by_order true = refl
    by_order false = same_link (lends called_part) (is_link called_part) (link_lends called_part) none

-- A tagged template by the values of its tag. One that is not raw has no meaning.
abbrev pub tagged_by : Scene → (raw : Bool) (head arguments : Action (List Value)) (shapes_of : List (List ℕ)) → Action Value
tagged_by scene raw head arguments shapes_of =
    if raw then (do
      vs ← head
      ws ← arguments
      ask scene (events.event (codes "tagged") (codes "place" ∷ shapes_of) (vs ++ ws)))
    else no_meaning

pub as_tagged : (scene : Scene) (tag : Syntax) (quasis expressions : Pieces) (at there : At) → lends tag ≡ false
    → eval scene (Node at word.Tagged (Then tag
    (Then (Node there word.Template (Then (Listed quasis) (Then (Listed expressions) End))) End)))
    ≡ tagged_by scene (shapes.are_raw quasis) (one_value (eval scene tag)) (values scene expressions)
    (shapes.quasis quasis ++ shapes.shapes expressions)
as_tagged scene tag quasis expressions at there none =
    ap (λ (lends : Bool). tagged_by scene (shapes.are_raw quasis) (head_of scene lends tag) (values scene expressions)
    (shapes.quasis quasis ++ shapes.shapes expressions)) (by_order scene.ported)
  where
    by_order : (ported : Bool) → not ported && lends tag ≡ false
    by_order true = refl
    by_order false = none
