-- The meanings of defaults and of links in the source are those of constructs.
use Rattle.std.proofs.Common.{◌≡◌, ℕ, Bool, true, false, List, ◌++◌, if◌then◌else◌, refl}
use Rattle.rl_machine.specs.declared.trace.Answer.{Answer}
use Rattle.rl_machine.specs.declared.trace.Value.{Value}
use Rattle.rl_machine.specs.declared.trace.Value.TheVariants.{Text}
use Rattle.rl_machine.specs.Traces.{Cont, Store, ValueCont, ValuesCont}
use Rattle.rl_model.specs.Actions.{◌>>=◌, Action, Ways, ask}
use Rattle.rl_model.specs.Events.{event, fixed_key, load}
use Rattle.rl_model.specs.Expressions.{call_kind, called, callee, eval, key_in, one_value, or_default, values}
use Rattle.rl_model.specs.Patterns.{bind}
use Rattle.rl_model.specs.Scene.{Scene}
use Rattle.rl_model.specs.Shapes as shapes
use Rattle.rl_optional_frames.specs.Meanings.{defaulted, linked_over, linked_values}
use Rattle.rl_syntax.specs.declared.numbered.At.{At}
use Rattle.rl_syntax.specs.declared.word.Word.TheVariants as word
use Rattle.rl_syntax.specs.Syntax.{Syntax, Node, Said, Flag, Listed, Pieces, End, Then}

-- A default.
pub default_meant : (scene : Scene) (v : Value) (default : Action Value) (ways : Ways) (k : ValueCont) (source : Store)
    (answers : List Answer)
    → or_default scene v default ways k source answers ≡ defaulted scene.world default v ways k source answers
default_meant scene v default ways k source answers = refl

-- A part of a pattern with a default: the part takes the value of the construct.
pub pattern_meant : (scene : Scene) (everywhere : Bool) (at : At) (pattern default : Syntax) (v : Value) (ways : Ways) (normal : Cont)
    (source : Store) (answers : List Answer)
    → bind scene everywhere (Node at word.Defaultpat (Then pattern (Then default End))) v ways (λ end. normal) source answers
    ≡ defaulted scene.world (eval scene default) v ways (λ w. bind scene everywhere pattern w ways (λ end. normal)) source answers
pattern_meant scene everywhere at pattern default v ways normal source answers = refl

-- Links: a property, and a property that is called and lends its object.

pub member_meant : (scene : Scene) (at : At) (optional : Bool) (object : Syntax) (name : List ℕ) (ways : Ways) (k : ValueCont)
    (source : Store) (answers : List Answer)
    → eval scene (Node at word.Member (Then (Flag optional) (Then object (Then (Said name) End)))) ways k source answers
    ≡ linked_over scene.world optional (one_value (eval scene object)) (λ vs. ask scene (load (called vs) (fixed_key (Text name)))) ways k
    source answers
member_meant scene at true object name ways k source answers = refl
member_meant scene at false object name ways k source answers = refl

pub index_meant : (scene : Scene) (at : At) (optional : Bool) (object property : Syntax) (ways : Ways) (k : ValueCont)
    (source : Store) (answers : List Answer)
    → eval scene (Node at word.Index (Then (Flag optional) (Then object (Then property End)))) ways k source answers
    ≡ linked_over scene.world optional (one_value (eval scene object)) (λ vs. do
      key ← key_in property (eval scene property)
      ask scene (load (called vs) key)) ways k source answers
index_meant scene at true object property ways k source answers = refl
index_meant scene at false object property ways k source answers = refl

pub lent_member_meant : (scene : Scene) (at : At) (optional : Bool) (object : Syntax) (name : List ℕ) (ways : Ways) (k : ValuesCont)
    (source : Store) (answers : List Answer)
    → callee scene (Node at word.Member (Then (Flag optional) (Then object (Then (Said name) End)))) ways k source answers
    ≡ linked_values scene.world optional true (one_value (eval scene object))
    (λ vs. ask scene (load (called vs) (fixed_key (Text name)))) ways k source answers
lent_member_meant scene at true object name ways k source answers = refl
lent_member_meant scene at false object name ways k source answers = refl

pub lent_index_meant : (scene : Scene) (at : At) (optional : Bool) (object property : Syntax) (ways : Ways) (k : ValuesCont)
    (source : Store) (answers : List Answer)
    → callee scene (Node at word.Index (Then (Flag optional) (Then object (Then property End)))) ways k source answers
    ≡ linked_values scene.world optional true (one_value (eval scene object)) (λ vs. do
      key ← key_in property (eval scene property)
      ask scene (load (called vs) key)) ways k source answers
lent_index_meant scene at true object property ways k source answers = refl
lent_index_meant scene at false object property ways k source answers = refl

-- A call, whose callee may lend its object.
pub call_meant : (scene : Scene) (at : At) (optional : Bool) (part : Syntax) (arguments : Pieces) (ways : Ways) (k : ValueCont)
    (source : Store) (answers : List Answer)
    → eval scene (Node at word.Call (Then (Flag optional) (Then part (Then (Listed arguments) End)))) ways k source answers
    ≡ linked_over scene.world optional
    (if shapes.lends_receiver scene part then callee scene part else one_value (eval scene part)) (λ head. do
      vs ← values scene arguments
      ask scene (event (call_kind head) (shapes.shapes arguments) (head ++ vs))) ways k source answers
call_meant scene at true part arguments ways k source answers = refl
call_meant scene at false part arguments ways k source answers = refl
