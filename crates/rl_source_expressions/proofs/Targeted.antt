-- Targets that take values, by their forms.
use Rattle.std.proofs.Common.{◌≡◌, if◌then◌else◌, ◌&&◌, Bool, true, false, ℕ, List, refl, sym, ap, ◌∙◌}
use Rattle.rl_base.specs.declared.ids.SymbolId.{SymbolId}
use Rattle.rl_grammar.specs.Grammar.{fits}
use Rattle.rl_grammar.specs.declared.kind.Field.TheVariants as field
use Rattle.rl_grammar.specs.declared.kind.Kind.TheVariants as kind
use Rattle.rl_machine.specs.declared.trace.Trace.{Trace}
use Rattle.rl_machine.specs.declared.trace.Value.{Value}
use Rattle.rl_model.specs.Actions.{Action, ◌>>=◌, ◌>>◌, done, no_meaning}
use Rattle.rl_model.specs.Events.{store_global}
use Rattle.rl_model.specs.Expressions.{assign_items, assign_to, assignment, compound, eval, first_piece}
use Rattle.rl_model.specs.Expressions.{later_pieces, or_default, place, update_name, write}
use Rattle.rl_model.specs.Scene.{Scene}
use Rattle.rl_model.specs.Shapes.{have_keys, is_hole, is_plain_rest}
use Rattle.rl_names.specs.declared.names.Meaning.{Meaning}
use Rattle.rl_names.specs.declared.names.Meaning.TheVariants as meaning
use Rattle.rl_source_expressions.specs.Targets.{object_assigned, object_taken}
use Rattle.rl_source_gather.proofs.Forms.{none_fits}
use Rattle.rl_source_stack.specs.Controls.{asked_then, from, from_normal, trace_of}
use Rattle.rl_source_stack.specs.Frames.{assign_rest}
use Rattle.rl_source_stack.specs.States.{State, assigned}
use Rattle.rl_source_stack.specs.declared.control.Control.TheVariants as control
use Rattle.rl_syntax.specs.Syntax.{Syntax, Node, Absent, Pieces, End, Then}
use Rattle.rl_syntax.specs.declared.numbered.At.{At}
use Rattle.rl_syntax.specs.declared.word.Word.TheVariants as word

-- The trace of a run in which a target takes a value.
abbrev pub given_to : State → Value → (target : Syntax) → Trace
given_to s v t = from_normal (assign_to s.scene t v) s

-- The trace of a run in which the items of a target that are left take their pieces, and then the rest does.
abbrev pub left_to : State → List Value → (rest : Syntax) → (items : Pieces) → Trace
left_to s pieces rest items = from_normal (assign_rest s.scene items pieces rest) s

-- A name of this meaning takes a value.
abbrev pub named : State → Meaning → (name : List ℕ) → Value → Trace
named s m name v = from_normal (write s.scene m name v >> done) s

-- A local variable takes a value.
pub local_named : (s : State) (m : Meaning) (symbol : SymbolId) (name : List ℕ) (v : Value) → m ≡ meaning.Local symbol
    → trace_of control.Normal (assigned symbol.0 v s) ≡ named s m name v
local_named s m symbol name v is = ap (λ n. named s n name v) (sym is)

-- A property of an object target is no hole, nor is an item that is a target.
pub property_there : (t : Syntax) → fits (field.One kind.AssignmentTargetProperty) t ≡ true → is_hole t ≡ false
property_there (Node at word.Hole ps) fit = absurd (none_fits ps fit)
property_there _ fit = refl

pub target_there : (t : Syntax) → fits (field.One kind.AssignmentTargetMaybeDefault) t ≡ true → is_hole t ≡ false
target_there (Node at word.Hole ps) fit = absurd (none_fits ps fit)
target_there _ fit = refl

-- An item takes its piece, then the items behind it do, and then the rest does.
abbrev pub item_then : Scene → (item : Syntax) → (items : Pieces) → (rest : Syntax) → (v : Value) → (later : List Value) → Action (Unit {0})
item_then scene item items rest v later = do
  assign_to scene item v
  assign_rest scene items later rest

pub item_taken : (s : State) (item : Syntax) (items : Pieces) (rest : Syntax) (pieces : List Value) (v : Value) (later : List Value)
    → is_hole item ≡ false → v ≡ first_piece pieces → later ≡ later_pieces pieces
    → from_normal (item_then s.scene item items rest v later) s ≡ from_normal (assign_rest s.scene (Then item items) pieces rest) s
item_taken s item items rest pieces v later there first behind =
    (λ i. from_normal (item_then s.scene item items rest (first i) (behind i)) s)
    ∙ ap (λ hole. from_normal ((if hole then assign_items s.scene items pieces
    else (assign_to s.scene item (first_piece pieces) >> assign_items s.scene items (later_pieces pieces)))
    >>= (λ left. assign_to s.scene rest (first_piece left))) s) (sym there)

-- A name with a default takes the value, or the default.
pub short_defaulted : (scene : Scene) (at : At) (name default : Syntax) (v : Value) → fits (field.One kind.Expression) default ≡ true
    → assign_to scene (Node at word.Short (Then name (Then default End))) v
    ≡ (or_default scene v (eval scene default) >>= (λ w. assign_to scene name w))
short_defaulted scene at name Absent v fit = absurd (cc)
short_defaulted scene at name _ v fit = refl

-- An object target whose keys have a meaning, and whose rest is a name, takes the value apart. Any other has no meaning.
pub object_unmet : (s : State) (properties : Pieces) (rest : Syntax) (v : Value) (keys plain : Bool)
    → have_keys properties ≡ keys → is_plain_rest rest ≡ plain → keys && plain ≡ false
    → from_normal no_meaning s ≡ from_normal (object_assigned s.scene properties rest v) s
object_unmet s properties rest v keys plain keys_are plain_is unmet =
    ap (λ b. from_normal (if b then object_taken s.scene properties rest v else no_meaning) s)
    (sym unmet ∙ (λ i. sym keys_are i && sym plain_is i))

pub object_met : (s : State) (properties : Pieces) (rest : Syntax) (v : Value)
    → have_keys properties ≡ true → is_plain_rest rest ≡ true
    → from_normal (object_taken s.scene properties rest v) s ≡ from_normal (object_assigned s.scene properties rest v) s
object_met s properties rest v keys_are plain_is =
    ap (λ b. from_normal (if b then object_taken s.scene properties rest v else no_meaning) s)
    (λ i. sym keys_are i && sym plain_is i)

-- The value of an assignment, by what its operator is.
abbrev pub assigned_value : Scene → (plain logical : Bool) → (operator : List ℕ) → (target : Syntax) → (right : Action Value) → Action Value
assigned_value scene plain logical operator target right =
    if plain then assignment scene target (place scene target) (assign_to scene target) right
    else if logical then no_meaning
    else compound scene operator target (place scene target) right

-- A name of the outside takes a value by an event; its update has no meaning.
pub outer_named : (s : State) (m : Meaning) (name : List ℕ) (v : Value) → ((symbol : SymbolId) → m ≡ meaning.Local symbol → ⊥)
    → asked_then (store_global name v) control.Normal s ≡ named s m name v
outer_named s (meaning.Local symbol) name v outer = absurd (outer symbol refl)
outer_named s (meaning.Outer binding) name v outer = refl

pub outer_updated : (s : State) (m : Meaning) (prefix : Bool) (operator : List ℕ) → ((symbol : SymbolId) → m ≡ meaning.Local symbol → ⊥)
    → from no_meaning s ≡ from (update_name s.scene prefix operator m) s
outer_updated s (meaning.Local symbol) prefix operator outer = absurd (outer symbol refl)
outer_updated s (meaning.Outer binding) prefix operator outer = refl
