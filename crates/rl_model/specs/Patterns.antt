-- The meaning of binding patterns (ECMA-262, 8.6.2 and 14.3.3).
use Rattle.std.specs.Prelude.{Bool, true, false, ◌&&◌, not, if◌then◌else◌, Option, Some, None, List, ◌∷◌, ◌++◌, codes}
use Rattle.rl_base.specs.declared.ids.SymbolId.{SymbolId}
use Rattle.rl_machine.specs.declared.trace.Value.{Value}
use Rattle.rl_model.specs.Actions.{◌>>=◌, ◌>>◌, Action, assign, done, give, no_meaning}
use Rattle.rl_model.specs.Expressions.{eval, first_piece, later_pieces, or_default, take_apart}
use Rattle.rl_model.specs.Scene.{Scene}
use Rattle.rl_model.specs.Shapes as shapes
use Rattle.rl_syntax.specs.Syntax.{Syntax, Node, Listed, Absent, Pieces, End, Then}
use Rattle.rl_syntax.specs.declared.word.Word.TheVariants as word

-- Gives a declared variable its value.
abbrev pub declare : Option SymbolId → Value → Action (Unit {0})
declare None v = done
declare (Some symbol) v = assign symbol.0 v

-- True of a part of a pattern that takes its piece early: a name, as the value of a key or as the rest too.
abbrev pub is_early : Scene → (everywhere : Bool) → Syntax → Bool
is_early scene everywhere (Node at word.Bind parts) = scene.takes_early everywhere at.id.0
is_early scene everywhere (Node at word.Keyedpat (Then computed (Then key (Then pattern End)))) = is_early scene everywhere pattern
is_early scene everywhere (Node at word.Rest (Then pattern End)) = is_early scene everywhere pattern
is_early scene everywhere _ = false

-- The early parts take their pieces in the first round, and the others in the second one.
abbrev pub is_turn : (first : Bool) (early : Bool) → Bool
is_turn true early = early
is_turn false early = not early

abbrev pub in_turn : Bool → Action (Unit {0}) → Action (Unit {0})
in_turn now action = if now then action else done

abbrev mutual
  -- A pattern takes a value. `everywhere` is true in parameters, in `catch` and in heads of loops.
  pub bind : Scene → (everywhere : Bool) → Syntax → Value → Action (Unit {0})
  bind scene everywhere Absent v = done
  bind scene everywhere (Node at word.Bind parts) v = declare (scene.names.declared at.id.0) v
  bind scene everywhere (Node at word.Defaultpat (Then pattern (Then default End))) v = do
    w ← or_default scene v (eval scene default)
    bind scene everywhere pattern w
  bind scene everywhere (Node at word.Keyedpat (Then computed (Then key (Then pattern End)))) v = bind scene everywhere pattern v
  bind scene everywhere (Node at word.Rest (Then pattern End)) v = bind scene everywhere pattern v
  bind scene everywhere (Node at word.Arraypat (Then (Listed items) (Then rest End))) v = do
    pieces ← take_apart scene (codes "array" ∷ shapes.piece_shapes items ++ shapes.rest_shape rest) v
    last ← bind_items scene everywhere true items pieces
    in_turn (is_early scene everywhere rest) (bind scene everywhere rest (first_piece last))
    left ← bind_items scene everywhere false items pieces
    in_turn (not (is_early scene everywhere rest)) (bind scene everywhere rest (first_piece left))
  bind scene everywhere (Node at word.Objectpat (Then (Listed properties) (Then rest End))) v =
      if shapes.have_keys properties && shapes.is_plain_rest rest then (do
        pieces ← take_apart scene (codes "object" ∷ shapes.piece_shapes properties ++ shapes.rest_shape rest) v
        last ← bind_items scene everywhere true properties pieces
        in_turn (is_early scene everywhere rest) (bind scene everywhere rest (first_piece last))
        left ← bind_items scene everywhere false properties pieces
        in_turn (not (is_early scene everywhere rest)) (bind scene everywhere rest (first_piece left)))
      else no_meaning
  bind scene everywhere _ v = no_meaning

  -- The parts that are early, or the others, take their pieces from left to right; the pieces that are left behind all parts.
  pub bind_items : Scene → (everywhere early : Bool) → Pieces → List Value → Action (List Value)
  bind_items scene everywhere early End pieces = give pieces
  bind_items scene everywhere early (Then item items) pieces =
      if shapes.is_hole item then bind_items scene everywhere early items pieces
      else (do
        in_turn (is_turn early (is_early scene everywhere item)) (bind scene everywhere item (first_piece pieces))
        bind_items scene everywhere early items (later_pieces pieces))
