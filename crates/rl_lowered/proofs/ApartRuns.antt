-- Targets that are patterns, and binding patterns, take a value apart.
use Rattle.std.proofs.Common.{◌≡◌, ◌++◌, Bool, true, false, true≢false, List, ◌∷◌, length, codes, Some, refl, sym, ap, ◌∙◌, subst}
use Rattle.rl_builder.specs.Temporaries.{with_value}
use Rattle.rl_hir.specs.Pieces.{pattern_pieces}
use Rattle.rl_hir.specs.declared.instruction.InstructionKind.{InstructionKind}
use Rattle.rl_hir.specs.declared.instruction.Pattern.{Pattern}
use Rattle.rl_lowered.proofs.BoundSlots.{BoundSlots, second_round}
use Rattle.rl_lowered.proofs.Common.{At, End, Node, Piece, Pieces, Place, Said, Span, State, Syntax, Then}
use Rattle.rl_lowered.proofs.ItemBlocks.{Stays}
use Rattle.rl_lowered.proofs.SlotRuns.{RunsLater, apart_runs, set_slots, slots_from, taken_apart}
use Rattle.rl_lowered.proofs.TakenSlots.{TakenSlots, taking}
use Rattle.rl_lowered.proofs.TargetForms.{aimed_as, binding, binding_means, form_text, shaped_as, taking_means}
use Rattle.rl_lowered.specs.Forms.{DefaultName, DefaultTarget, IsDefaulted}
use Rattle.rl_lowered.specs.Items.{IsBinding, IsTaking, Later, destructured, form_piece}
use Rattle.rl_machine.specs.declared.trace.Value.{Value}
use Rattle.rl_model.specs.Actions.{◌>>=◌, ◌>>◌, Action, give}
use Rattle.rl_model.specs.Expressions.{assign_to, eval}
use Rattle.rl_model.specs.Patterns.{bind}
use Rattle.rl_model.specs.Scene.{Scene}
use Rattle.rl_model.specs.Shapes.{is_plain_rest, piece_shapes, rest_shape}
use Rattle.rl_optional_frames.proofs.Taken.{on_same}
use Rattle.rl_promises.specs.Outs.{is_lost_head}
use Rattle.rl_promises.specs.Patterns.{is_pattern}
use Rattle.rl_runs.proofs.Moves.{extends_then}
use Rattle.rl_runs.specs.Facts.{Extends}
use Rattle.rl_runs.specs.Simulation.{RunsOn}
use Rattle.rl_syntax.specs.declared.word.Word.{Word}
use Rattle.rl_syntax.specs.declared.word.Word.TheVariants as word
use Rattle.rl_syntax.specs.Syntax.{Listed}

-- The parts that take pieces behind the instruction are run by lemmas of their own.

pub taking_run : {w : Word} {of_object forced : Bool} {es : Pieces} {rest : Syntax} {s t u : State} {pieces : List Piece}
    {later : List Later}
    (scene : Scene) (there : At) (new : State) (kind : InstructionKind) (pattern : Pattern) (value : Place) (at : Span)
    → IsTaking w of_object → Stays s t → Stays t u → TakenSlots scene of_object forced es rest t u pieces later
    → (of_object ≡ true → is_plain_rest rest ≡ true) → pattern_pieces pattern ≡ form_piece of_object ∷ pieces
    → Extends (with_value u (destructured kind pattern value) (Some at)) new
    → RunsLater scene.world (assign_to scene) later (with_value u (destructured kind pattern value) (Some at)) new
    → RunsOn scene.world (λ v. assign_to scene (Node there w (Then (Listed es) (Then rest End))) v >> give v) s new value.identifier.0
    (length u.env.identifiers)
taking_run {w} {of_object} {forced} {es} {rest} {s} {t} {u} {pieces} {later} scene there new kind pattern value at is looked taken r plain
    are after runs =
    let m : Value → Action (Unit {0}) =
    taken_apart scene.world (form_text of_object ∷ piece_shapes es ++ rest_shape rest) (taking scene es rest) in
    on_same scene.world s new value.identifier.0 (length u.env.identifiers) {m = λ v. m v >> give v}
    (λ v ways k source answers. ap (λ (a : Action (Unit {0})). (a >> give v) ways k source answers)
    (taking_means is scene there es rest r.keys plain v))
    (apart_runs scene.world (assign_to scene) (taking scene es rest) (form_text of_object ∷ piece_shapes es ++ rest_shape rest) r.slots s u
    new kind pattern value at (extends_then looked.blocks.extends taken.blocks.extends) (taken.current ∙ looked.current) after
    (shaped_as of_object pattern pieces (piece_shapes es ++ rest_shape rest) are r.shape)
    (aimed_as of_object pattern pieces _ are r.are)
    (λ c cover sound. slots_from (r.fits c cover (looked.blocks.extends.sound sound)) (length s.env.identifiers)
    looked.blocks.extends.identifiers)
    (λ vs ways k source answers. sym (r.means vs ways (λ end. k) source answers))
    (subst (λ (l : List Later). RunsLater scene.world (assign_to scene) l (with_value u (destructured kind pattern value) (Some at)) new)
    (sym r.kept) runs))

pub binding_run : {w : Word} {of_object : Bool} {es : Pieces} {rest : Syntax} {s u : State} {pieces : List Piece} {later : List Later}
    (scene : Scene) (everywhere : Bool) (there : At) (new : State) (kind : InstructionKind) (pattern : Pattern) (value : Place) (at : Span)
    → IsBinding w of_object → Stays s u → BoundSlots scene everywhere of_object es rest s u pieces later
    → (of_object ≡ true → is_plain_rest rest ≡ true) → pattern_pieces pattern ≡ form_piece of_object ∷ pieces
    → Extends (with_value u (destructured kind pattern value) (Some at)) new
    → RunsLater scene.world (bind scene everywhere) later (with_value u (destructured kind pattern value) (Some at)) new
    → RunsOn scene.world (λ v. bind scene everywhere (Node there w (Then (Listed es) (Then rest End))) v >> give v) s new
    value.identifier.0 (length u.env.identifiers)
binding_run {w} {of_object} {es} {rest} {s} {u} {pieces} {later} scene everywhere there new kind pattern value at is bound r plain are after
    runs =
    let m : Value → Action (Unit {0}) =
    taken_apart scene.world (form_text of_object ∷ piece_shapes es ++ rest_shape rest) (binding scene everywhere es rest) in
    on_same scene.world s new value.identifier.0 (length u.env.identifiers) {m = λ v. m v >> give v}
    (λ v ways k source answers. ap (λ (a : Action (Unit {0})). (a >> give v) ways k source answers)
    (binding_means is scene everywhere there es rest r.keys plain v))
    (apart_runs scene.world (bind scene everywhere) (binding scene everywhere es rest)
    (form_text of_object ∷ piece_shapes es ++ rest_shape rest) r.slots s u new kind pattern value at bound.blocks.extends bound.current
    after
    (shaped_as of_object pattern pieces (piece_shapes es ++ rest_shape rest) are r.shape)
    (aimed_as of_object pattern pieces _ are r.are) r.fits
    (λ vs ways k source answers. sym (r.first vs ways (λ end. second_round scene everywhere es rest vs ways (λ last. k)) source answers
    ∙ ap (λ (a : Action (Unit {0})). a ways (λ end. k) (set_slots r.slots vs source) answers) (r.second vs)))
    (subst (λ (l : List Later). RunsLater scene.world (bind scene everywhere) l (with_value u (destructured kind pattern value) (Some at))
    new) (sym r.kept) runs))

-- Targets that are no patterns.

pub lost_whole : (at : At) (w : Word) (fields : Pieces) → is_lost_head (Node at w fields) ≡ true → is_pattern (Node at w fields) ≡ true → ⊥
lost_whole at word.Arraytarget fields is taken = let never : false ≡ true = is in absurd (cc)
lost_whole at word.Objecttarget fields is taken = let never : false ≡ true = is in absurd (cc)
lost_whole at _ fields is taken = let never : false ≡ true = taken in absurd (cc)

pub defaulted_whole : {w : Word} {fields : Pieces} {target default : Syntax} → IsDefaulted w fields target default → (at : At)
    → is_pattern (Node at w fields) ≡ true → ⊥
defaulted_whole (DefaultTarget whole) at taken = true≢false (sym taken)
defaulted_whole (DefaultName whole is) at taken = true≢false (sym taken)

-- A pattern takes the value of `=` behind its right part.
pub pattern_assigned : (scene : Scene) (at there : At) (w : Word) (fields : Pieces) (right : Syntax)
    → is_pattern (Node there w fields) ≡ true
    → (eval scene right >>= (λ v. assign_to scene (Node there w fields) v >> give v))
    ≡ eval scene (Node at word.Assign (Then (Said (codes "=")) (Then (Node there w fields) (Then right End))))
pattern_assigned scene at there word.Arraytarget fields right taken = refl
pattern_assigned scene at there word.Objecttarget fields right taken = refl
pattern_assigned scene at there _ fields right taken = let never : false ≡ true = taken in absurd (cc)
