-- Patterns in a scene as it is written: no part takes its piece early.
use Rattle.std.proofs.Common.{◌≡◌, ◌&&◌, Bool, true, false, if◌then◌else◌, not, Option, List, ◌∷◌, ◌++◌, codes, ℕ}
use Rattle.std.proofs.Common.{ap, refl, sym, ◌∙◌}
use Rattle.rl_grammar.specs.Grammar.{fits}
use Rattle.rl_grammar.specs.declared.kind.Field.TheVariants as field
use Rattle.rl_grammar.specs.declared.kind.Kind.TheVariants as kind
use Rattle.rl_machine.specs.Traces.{Cont, World}
use Rattle.rl_machine.specs.declared.trace.Value.{Value}
use Rattle.rl_model.specs.Actions.{Action, ◌>>=◌, ◌>>◌, Ways, ask, no_meaning}
use Rattle.rl_model.specs.Events.{function}
use Rattle.rl_model.specs.Expressions.{first_piece, later_pieces, take_apart}
use Rattle.rl_model.specs.Patterns.{bind, bind_items, in_turn, is_early, is_turn}
use Rattle.rl_model.specs.Scene.{Scene}
use Rattle.rl_model.specs.Shapes as shapes
use Rattle.rl_names.specs.Names.{Names}
use Rattle.rl_source_stack.specs.Frames.{bind_rest}
use Rattle.rl_source_stack.specs.Scenes.{written}
use Rattle.rl_source_statements.specs.Starts.{bound_array, bound_object, storing_body}
use Rattle.rl_syntax.specs.Syntax.{Syntax, Node, Listed, Absent, Pieces, End, Then}
use Rattle.rl_syntax.specs.declared.numbered.At.{At}
use Rattle.rl_syntax.specs.declared.word.Word.TheVariants as word

module _ (names : Names) (world : World) (child : ℕ → List ℕ → Option (List ℕ)) (attribute : List ℕ → List ℕ) where
  abbrev scene : Scene
  scene = written names world child attribute

  never_early : (everywhere : Bool) (t : Syntax) → is_early scene everywhere t ≡ false
  never_early everywhere (Node at word.Bind parts) = refl
  never_early everywhere (Node at word.Keyedpat (Then computed (Then key (Then pattern End)))) = never_early everywhere pattern
  never_early everywhere (Node at word.Rest (Then pattern End)) = never_early everywhere pattern
  never_early everywhere _ = refl

  -- The pieces behind those of some parts.
  abbrev behind_items : Pieces → List Value → List Value
  behind_items End pieces = pieces
  behind_items (Then item items) pieces =
      if shapes.is_hole item then behind_items items pieces else behind_items items (later_pieces pieces)

  by_hole : (hole : Bool) (bound : Action (Unit {0})) (skip rest : Action (List Value)) (x y : List Value) (ways : Ways)
      (onward : List Value → Cont) → skip ways onward ≡ onward x → rest ways onward ≡ onward y
      → (if hole then skip else (do in_turn false bound; rest)) ways onward ≡ onward (if hole then x else y)
  by_hole true bound skip rest x y ways onward skipped bound_rest = skipped
  by_hole false bound skip rest x y ways onward skipped bound_rest = bound_rest

  -- The first round changes nothing.
  early_round : (everywhere : Bool) (items : Pieces) (pieces : List Value) (ways : Ways) (onward : List Value → Cont)
      → bind_items scene everywhere true items pieces ways onward ≡ onward (behind_items items pieces)
  early_round everywhere End pieces ways onward = refl
  early_round everywhere (Then item items) pieces ways onward =
      ap (λ (early : Bool).
      (if shapes.is_hole item then bind_items scene everywhere true items pieces
      else (do
        in_turn (is_turn true early) (bind scene everywhere item (first_piece pieces))
        bind_items scene everywhere true items (later_pieces pieces))) ways onward) (never_early everywhere item)
      ∙ by_hole (shapes.is_hole item) (bind scene everywhere item (first_piece pieces)) (bind_items scene everywhere true items pieces)
      (bind_items scene everywhere true items (later_pieces pieces)) (behind_items items pieces) (behind_items items (later_pieces pieces))
      ways onward (early_round everywhere items pieces ways onward) (early_round everywhere items (later_pieces pieces) ways onward)

  -- In the second round each part takes its piece.
  late_item : (everywhere : Bool) (item : Syntax) (items : Pieces) (pieces : List Value)
      → bind_items scene everywhere false (Then item items) pieces
      ≡ (if shapes.is_hole item then bind_items scene everywhere false items pieces
      else (do
        bind scene everywhere item (first_piece pieces)
        bind_items scene everywhere false items (later_pieces pieces)))
  late_item everywhere item items pieces =
      ap (λ (early : Bool).
      if shapes.is_hole item then bind_items scene everywhere false items pieces
      else (do
        in_turn (is_turn false early) (bind scene everywhere item (first_piece pieces))
        bind_items scene everywhere false items (later_pieces pieces))) (never_early everywhere item)

  -- Both rounds.
  abbrev turns_of : (everywhere early : Bool) → (items : Pieces) → (rest : Syntax) → List Value → Action (Unit {0})
  turns_of everywhere early items rest pieces = do
    last ← bind_items scene everywhere true items pieces
    in_turn early (bind scene everywhere rest (first_piece last))
    left ← bind_items scene everywhere false items pieces
    in_turn (not early) (bind scene everywhere rest (first_piece left))

  both_rounds : (everywhere : Bool) (items : Pieces) (rest : Syntax) (pieces : List Value) (ways : Ways) (onward : Unit {0} → Cont)
      → turns_of everywhere (is_early scene everywhere rest) items rest pieces ways onward
      ≡ bind_rest scene everywhere items pieces rest ways onward
  both_rounds everywhere items rest pieces ways onward =
      ap (λ (early : Bool). turns_of everywhere early items rest pieces ways onward) (never_early everywhere rest)
      ∙ early_round everywhere items pieces ways (λ last. (do
        left ← bind_items scene everywhere false items pieces
        bind scene everywhere rest (first_piece left)) ways onward)

  pub bind_array : (everywhere : Bool) (at : At) (items : Pieces) (rest : Syntax) (v : Value)
      → bound_array scene everywhere items rest v
      ≡ bind scene everywhere (Node at word.Arraypat (Then (Listed items) (Then rest End))) v
  bind_array everywhere at items rest v = λ i ways onward.
      take_apart scene (codes "array" ∷ shapes.piece_shapes items ++ shapes.rest_shape rest) v ways
      (λ pieces. sym (both_rounds everywhere items rest pieces ways onward) i)

  pub bind_object : (everywhere : Bool) (at : At) (properties : Pieces) (rest : Syntax) (v : Value)
      → bound_object scene everywhere properties rest v
      ≡ bind scene everywhere (Node at word.Objectpat (Then (Listed properties) (Then rest End))) v
  bind_object everywhere at properties rest v =
      ap (λ (action : Action (Unit {0})).
      if shapes.have_keys properties && shapes.is_plain_rest rest then action else no_meaning) (λ i ways onward.
      take_apart scene (codes "object" ∷ shapes.piece_shapes properties ++ shapes.rest_shape rest) v ways
      (λ pieces. sym (both_rounds everywhere properties rest pieces ways onward) i))

  -- A part of a pattern, with those behind it.
  late_by : (everywhere hole : Bool) (item : Syntax) (items : Pieces) (pieces : List Value) (rest : Syntax) → shapes.is_hole item ≡ hole
      → bind_rest scene everywhere (Then item items) pieces rest
      ≡ (do
        left ← (if hole then bind_items scene everywhere false items pieces
            else (do
              bind scene everywhere item (first_piece pieces)
              bind_items scene everywhere false items (later_pieces pieces)))
        bind scene everywhere rest (first_piece left))
  late_by everywhere hole item items pieces rest is =
      ap (λ (bound : Action (List Value)). do left ← bound; bind scene everywhere rest (first_piece left))
      (late_item everywhere item items pieces
      ∙ ap (λ (hole : Bool).
      if hole then bind_items scene everywhere false items pieces
      else (do
        bind scene everywhere item (first_piece pieces)
        bind_items scene everywhere false items (later_pieces pieces))) is)

  pub rest_hole : (everywhere : Bool) (all items : Pieces) (item : Syntax) (at : At) (pieces : List Value) (rest : Syntax)
      → all ≡ Then item items → Node at word.Hole End ≡ item
      → bind_rest scene everywhere all pieces rest ≡ bind_rest scene everywhere items pieces rest
  rest_hole everywhere all items item at pieces rest split is =
      ap (λ ps. bind_rest scene everywhere ps pieces rest) split
      ∙ late_by everywhere true item items pieces rest (ap shapes.is_hole (sym is))

  pub rest_part : (everywhere : Bool) (all items : Pieces) (item : Syntax) (pieces : List Value) (rest : Syntax)
      → all ≡ Then item items → shapes.is_hole item ≡ false
      → bind_rest scene everywhere all pieces rest
      ≡ (do
        bind scene everywhere item (first_piece pieces)
        bind_rest scene everywhere items (later_pieces pieces) rest)
  rest_part everywhere all items item pieces rest split is =
      ap (λ ps. bind_rest scene everywhere ps pieces rest) split ∙ late_by everywhere false item items pieces rest is

  -- A function declaration stores its function as a name takes a value.
  pub storing_some : (node : ℕ) (name body : Syntax) → fits (field.One kind.BindingIdentifier) name ≡ true
      → fits (field.One kind.FunctionBody) body ≡ true
      → storing_body scene node name body ≡ (do v ← ask scene (function node); bind scene false name v)
  storing_some node name Absent h g = absurd (cc)
  storing_some node (Node there word.Bind parts) _ h g = refl
  storing_some node _ _ h g = absurd (cc)

-- Parts of patterns that are no holes.
pub pattern_there : (t : Syntax) → fits (field.One kind.BindingPatternMaybeDefault) t ≡ true → shapes.is_hole t ≡ false
pattern_there (Node at word.Hole parts) h = absurd (cc)
pattern_there _ h = refl

pub property_there : (t : Syntax) → fits (field.One kind.BindingProperty) t ≡ true → shapes.is_hole t ≡ false
property_there (Node at word.Hole parts) h = absurd (cc)
property_there _ h = refl
