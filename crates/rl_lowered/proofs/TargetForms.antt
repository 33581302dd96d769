-- Targets and binding patterns: the refusals of their parts, and what the model says of them.
use Rattle.std.proofs.Common.{◌≡◌, ℕ, ◌++◌, ◌&&◌, ◌||◌, Bool, true, false, true≢false, not, is_some, if◌then◌else◌, List, [], ◌∷◌, codes}
use Rattle.std.proofs.Common.{Option, refl, sym, ap, ◌∙◌, subst}
use Rattle.rl_grammar.specs.Grammar.{fits}
use Rattle.rl_grammar.specs.declared.kind.Field.TheVariants as field
use Rattle.rl_grammar.specs.declared.kind.Kind.TheVariants as sort
use Rattle.rl_hir.specs.Pieces.{operands, pattern_pieces, texts}
use Rattle.rl_hir.specs.declared.instruction.Pattern.{Pattern}
use Rattle.rl_lowered.proofs.BoundSlots.{first_round, keyed, second_round}
use Rattle.rl_lowered.proofs.Clean.{member_head_clean, never}
use Rattle.rl_lowered.proofs.Common.{At, Diagnostic, End, Names, Node, Piece, Pieces, Place, State, SymbolId, Syntax, Then}
use Rattle.rl_lowered.proofs.SlotRuns.{taken_apart}
use Rattle.rl_lowered.proofs.TakenSlots.{taking}
use Rattle.rl_lowered.specs.Forms.{DefaultName, DefaultTarget, IsDefaulted, IsMember, MemberKey, is_whole_target}
use Rattle.rl_lowered.specs.Forms as forms
use Rattle.rl_lowered.specs.Items.{BindsArray, BindsObject, IsBinding, IsTaking, LookEnds, LookLocal, LookOther, LoweredAhead, NoLook}
use Rattle.rl_lowered.specs.Items.{TakesArray, TakesObject, form_piece}
use Rattle.rl_machine.specs.Acts.{targets}
use Rattle.rl_machine.specs.Traces.{Cont, Store}
use Rattle.rl_machine.specs.declared.trace.Answer.{Answer}
use Rattle.rl_machine.specs.declared.trace.Value.{Value}
use Rattle.rl_model.specs.Actions.{◌>>=◌, ◌>>◌, Action, Ways, done, no_meaning}
use Rattle.rl_model.specs.Expressions.{assign_to, eval, place, write_property}
use Rattle.rl_model.specs.Patterns.{bind}
use Rattle.rl_model.specs.Scene.{Scene}
use Rattle.rl_model.specs.Shapes.{have_keys, is_absent, is_plain_rest, piece_shapes, rest_shape}
use Rattle.rl_optional_frames.specs.Meanings.{defaulted}
use Rattle.rl_promises.proofs.CoveredForms.{none_fits}
use Rattle.rl_promises.proofs.Covering.{none_in}
use Rattle.rl_promises.specs.Moved.{said_of_moved}
use Rattle.rl_promises.specs.Outs.{is_lost_head}
use Rattle.rl_promises.specs.Patterns.{are_locals, is_pattern, is_ahead, is_forced, lost_rest}
use Rattle.rl_promises.specs.Rows.{refusals, refusals_at_head, refusals_in, refusals_in_round, refusals_to, refusals_to_round, said_ahead}
use Rattle.rl_promises.specs.Rows.{refusal, row_of_head, said_of_rest}
use Rattle.rl_syntax.specs.declared.word.Word.{Word}
use Rattle.rl_syntax.specs.declared.word.Word.TheVariants as word
use Rattle.rl_syntax.specs.Syntax.{Listed, Absent}

-- A property, what is left out, and a default.

pub member_target : {w : Word} {fields parts : Pieces} {pieces : List Piece} {object : Place} {key : MemberKey}
    → IsMember w fields parts pieces object key → (names : Names) (at : At)
    → refusals_to names (Node at w fields) ≡ refusals_at_head names (Node at w fields)
member_target forms.Static names at = refl
member_target _ names at = refl

pub member_target_clean : {w : Word} {fields parts : Pieces} {pieces : List Piece} {object : Place} {key : MemberKey}
    → IsMember w fields parts pieces object key → (names : Names) (at : At) → refusals_to names (Node at w fields) ≡ []
    → refusals_in names parts ≡ []
member_target_clean is names at none = member_head_clean is names at (sym (member_target is names at) ∙ none)

pub member_takes : {w : Word} {fields parts : Pieces} {pieces : List Piece} {object : Place} {key : MemberKey}
    → IsMember w fields parts pieces object key → (scene : Scene) (at : At) (v : Value)
    → assign_to scene (Node at w fields) v
    ≡ (place scene (Node at w fields) >>= (λ p. write_property scene p.0 p.1 v >>= (λ w. done)))
member_takes forms.Static scene at v = refl
member_takes _ scene at v = refl

pub lost_target_refuses : (names : Names) (at : At) (w : Word) (fields : Pieces) → is_lost_head (Node at w fields) ≡ true
    → refusals_to names (Node at w fields) ≡ refusal (row_of_head w) at.span ∷ []
lost_target_refuses names at word.Privatemember fields is = refl
lost_target_refuses names at word.As fields is = refl
lost_target_refuses names at word.Satisfies fields is = refl
lost_target_refuses names at word.Assert fields is = refl
lost_target_refuses names at word.Nonnull fields is = refl
lost_target_refuses names at _ fields is = let other : false ≡ true = is in absurd (cc)

pub defaulted_refuses : {w : Word} {fields : Pieces} {target default : Syntax} → IsDefaulted w fields target default
    → (names : Names) (at : At)
    → refusals_to names (Node at w fields) ≡ said_of_moved names default ++ refusals names default ++ refusals_to names target
defaulted_refuses (DefaultTarget whole) names at = refl
defaulted_refuses (DefaultName whole is) names at = refl

pub pattern_head_refuses : (names : Names) (at : At) (w : Word) (fields : Pieces) → is_pattern (Node at w fields) ≡ true
    → refusals_at_head names (Node at w fields) ≡ refusals_to names (Node at w fields)
pattern_head_refuses names at word.Arraytarget fields is = refl
pattern_head_refuses names at word.Objecttarget fields is = refl
pattern_head_refuses names at _ fields is = let never : false ≡ true = is in absurd (cc)

pub lost_target_never : (names : Names) (at : At) (w : Word) (fields : Pieces) → is_lost_head (Node at w fields) ≡ true
    → refusals_to names (Node at w fields) ≡ [] → ⊥
lost_target_never names at word.Privatemember fields is none = never none
lost_target_never names at word.As fields is none = never none
lost_target_never names at word.Satisfies fields is none = never none
lost_target_never names at word.Assert fields is none = never none
lost_target_never names at word.Nonnull fields is none = never none
lost_target_never names at _ fields is none = let other : false ≡ true = is in absurd (cc)

pub default_clean : (names : Names) (default : Syntax) (rest : List Diagnostic)
    → said_of_moved names default ++ refusals names default ++ rest ≡ []
    → (said_of_moved names default ≡ []) × (refusals names default ≡ []) × (rest ≡ [])
default_clean names default rest none =
    let both = none_in (said_of_moved names default ++ refusals names default) rest none in
    let front = none_in (said_of_moved names default) (refusals names default) both.0 in
    (front.0, front.1, both.1)

pub defaulted_clean : {w : Word} {fields : Pieces} {target default : Syntax} → IsDefaulted w fields target default
    → (names : Names) (at : At)
    → refusals_to names (Node at w fields) ≡ []
    → (said_of_moved names default ≡ []) × (refusals names default ≡ []) × (refusals_to names target ≡ [])
defaulted_clean (DefaultTarget {target} {default} whole) names at none = default_clean names default (refusals_to names target) none
defaulted_clean (DefaultName {name} {default} whole is) names at none = default_clean names default (refusals_to names name) none

short_means : (scene : Scene) (at : At) (name default : Syntax) → is_absent default ≡ false → (v : Value) (ways : Ways) (k : Cont)
    (source : Store) (answers : List Answer)
    → defaulted scene.world (eval scene default) v ways (λ w. assign_to scene name w ways (λ end. k)) source answers
    ≡ assign_to scene (Node at word.Short (Then name (Then default End))) v ways (λ end. k) source answers
short_means scene at name Absent is v ways k source answers = absurd (true≢false is)
short_means scene at name _ is v ways k source answers = refl

pub defaulted_means : {w : Word} {fields : Pieces} {target default : Syntax} → IsDefaulted w fields target default
    → (scene : Scene) (at : At)
    (v : Value) (ways : Ways) (k : Cont) (source : Store) (answers : List Answer)
    → defaulted scene.world (eval scene default) v ways (λ w. assign_to scene target w ways (λ end. k)) source answers
    ≡ assign_to scene (Node at w fields) v ways (λ end. k) source answers
defaulted_means (DefaultTarget whole) scene at v ways k source answers = refl
defaulted_means (DefaultName {name} {default} whole is) scene at v ways k source answers =
    short_means scene at name default is v ways k source answers

-- A target that fits the grammar is no item of a pattern.
pub fits_whole : (target : Syntax) → fits (field.One sort.AssignmentTarget) target ≡ true → is_whole_target target ≡ true
fits_whole (Node at word.Default parts) fit = absurd (none_fits parts fit)
fits_whole (Node at word.Short parts) fit = absurd (none_fits parts fit)
fits_whole (Node at word.Keyed parts) fit = absurd (none_fits parts fit)
fits_whole (Node at word.Rest parts) fit = absurd (none_fits parts fit)
fits_whole _ fit = refl

-- The pieces of a pattern behind its form.

abbrev pub form_text : (of_object : Bool) → List ℕ
form_text true = codes "object"
form_text false = codes "array"

form_texts : (of_object : Bool) (pieces : List Piece) → texts (form_piece of_object ∷ pieces) ≡ form_text of_object ∷ texts pieces
form_texts true pieces = refl
form_texts false pieces = refl

form_operands : (of_object : Bool) (pieces : List Piece) → operands (form_piece of_object ∷ pieces) ≡ operands pieces
form_operands true pieces = refl
form_operands false pieces = refl

pub shaped_as : (of_object : Bool) (pattern : Pattern) (pieces : List Piece) (shape : List (List ℕ))
    → pattern_pieces pattern ≡ form_piece of_object ∷ pieces → texts pieces ≡ shape
    → texts (pattern_pieces pattern) ≡ form_text of_object ∷ shape
shaped_as of_object pattern pieces shape are is =
    ap (λ (l : List Piece). texts l) are ∙ form_texts of_object pieces ∙ ap (λ (l : List (List ℕ)). form_text of_object ∷ l) is

pub aimed_as : (of_object : Bool) (pattern : Pattern) (pieces : List Piece) (ids : List ℕ)
    → pattern_pieces pattern ≡ form_piece of_object ∷ pieces → targets (operands pieces) ≡ ids
    → targets (operands (pattern_pieces pattern)) ≡ ids
aimed_as of_object pattern pieces ids are is =
    ap (λ (l : List Piece). targets (operands l)) are ∙ ap targets (form_operands of_object pieces) ∙ is

-- A target that is a pattern.

pub ahead_forced : {names : Names} {es : Pieces} {rest : Syntax} {s t : State} {forced : Bool} → LoweredAhead names es rest s t forced
    → is_forced names es rest ≡ forced
ahead_forced {names} (NoLook es rest s is) = ap (λ (b : Bool). not b || not (are_locals names es)) is
ahead_forced (LookEnds s) = refl
ahead_forced {names} (LookOther item es s is) = ap (λ (o : Option SymbolId). not (is_some o && are_locals names es)) is
ahead_forced {names} (LookLocal item es symbol identifier s t forced is f d) =
    ap (λ (o : Option SymbolId). not (is_some o && are_locals names es)) is ∙ ahead_forced d

-- Its items and its rest have no refusals.
pub record IsCleanTaking (names : Names) (of_object forced : Bool) (es : Pieces) (rest : Syntax) : Type 0 where
  pub ahead : refusals_to_round names forced true es ≡ []
  pub behind : refusals_to_round names forced false es ≡ []
  pub last : refusals_to names rest ≡ []
  pub plain : of_object ≡ true → is_plain_rest rest ≡ true

plain_of : (rest : Syntax) (plain : Bool) → is_plain_rest rest ≡ plain → said_of_rest rest ≡ [] → is_plain_rest rest ≡ true
plain_of rest true is none = is
plain_of rest false is none =
    absurd (never (sym (ap (λ (b : Bool). if b then [] else lost_rest rest ∷ []) is) ∙ none))

taking_rounds : {names : Names} {w : Word} {of_object : Bool} {es : Pieces} {rest : Syntax} → IsTaking w of_object → (at : At)
    → refusals_to names (Node at w (Then (Listed es) (Then rest End))) ≡ []
    → IsCleanTaking names of_object (is_forced names es rest) es rest
taking_rounds {names} {w} {of_object} {es} {rest} TakesArray at none =
    let forced : Bool = is_forced names es rest in
    let three = none_in _ (refusals_to names rest) none in
    let two = none_in _ (refusals_to_round names forced false es) three.0 in
    let one = none_in (said_ahead names es rest) (refusals_to_round names forced true es) two.0 in
    record { ahead = one.1; behind = two.1; last = three.1; plain = λ never. absurd (true≢false (sym never)) }
taking_rounds {names} {w} {of_object} {es} {rest} TakesObject at none =
    let forced : Bool = is_forced names es rest in
    let four = none_in _ (if is_plain_rest rest then refusals_to names rest else []) none in
    let three = none_in _ (refusals_to_round names forced false es) four.0 in
    let two = none_in _ (said_of_rest rest) three.0 in
    let one = none_in (said_ahead names es rest) (refusals_to_round names forced true es) two.0 in
    let plain = plain_of rest (is_plain_rest rest) refl two.1 in
    record {
      ahead = one.1;
      behind = three.1;
      last = sym (ap (λ (b : Bool). if b then refusals_to names rest else []) plain) ∙ four.1;
      plain = λ objects. plain;
    }

pub taking_clean : {names : Names} {w : Word} {of_object forced : Bool} {es : Pieces} {rest : Syntax} {s t : State}
    → IsTaking w of_object → LoweredAhead names es rest s t forced → (at : At)
    → refusals_to names (Node at w (Then (Listed es) (Then rest End))) ≡ [] → IsCleanTaking names of_object forced es rest
taking_clean {names} {w} {of_object} {forced} {es} {rest} is ahead at none =
    subst (λ (b : Bool). IsCleanTaking names of_object b es rest) (ahead_forced ahead) (taking_rounds is at none)

pub taking_means : {w : Word} {of_object : Bool} → IsTaking w of_object → (scene : Scene) (at : At) (es : Pieces) (rest : Syntax)
    → (of_object ≡ true → have_keys es ≡ true) → (of_object ≡ true → is_plain_rest rest ≡ true) → (v : Value)
    → taken_apart scene.world (form_text of_object ∷ piece_shapes es ++ rest_shape rest) (taking scene es rest) v
    ≡ assign_to scene (Node at w (Then (Listed es) (Then rest End))) v
taking_means TakesArray scene at es rest keys plain v = refl
taking_means TakesObject scene at es rest keys plain v =
    sym (ap (λ (b : Bool). if b
    then taken_apart scene.world (form_text true ∷ piece_shapes es ++ rest_shape rest) (taking scene es rest) v
    else no_meaning) (keyed (keys refl) (plain refl)))

-- A binding pattern.

-- Its items and its rest have no refusals.
pub record IsCleanBinding (names : Names) (of_object : Bool) (es : Pieces) (rest : Syntax) : Type 0 where
  pub ahead : refusals_in_round names true es ≡ []
  pub behind : refusals_in_round names false es ≡ []
  pub last : refusals names rest ≡ []
  pub plain : of_object ≡ true → is_plain_rest rest ≡ true

either_none : (ahead : Bool) (ds : List Diagnostic) → (if ahead then ds else []) ≡ [] → (if ahead then [] else ds) ≡ [] → ds ≡ []
either_none true ds first second = first
either_none false ds first second = second

plain_binding : (names : Names) (rest : Syntax) (plain : Bool) → is_plain_rest rest ≡ plain
    → (if is_plain_rest rest then refusals names rest else lost_rest rest ∷ []) ≡ []
    → (is_plain_rest rest ≡ true) × (refusals names rest ≡ [])
plain_binding names rest true is none =
    (is, sym (ap (λ (b : Bool). if b then refusals names rest else lost_rest rest ∷ []) is) ∙ none)
plain_binding names rest false is none =
    absurd (never (sym (ap (λ (b : Bool). if b then refusals names rest else lost_rest rest ∷ []) is) ∙ none))

pub binding_clean : {names : Names} {w : Word} {of_object : Bool} {es : Pieces} {rest : Syntax} → IsBinding w of_object → (at : At)
    → refusals names (Node at w (Then (Listed es) (Then rest End))) ≡ [] → IsCleanBinding names of_object es rest
binding_clean {names} {w} {of_object} {es} {rest} BindsArray at none =
    let three = none_in _ (if is_ahead rest then [] else refusals names rest) none in
    let two = none_in _ (refusals_in_round names false es) three.0 in
    let one = none_in (refusals_in_round names true es) (if is_ahead rest then refusals names rest else []) two.0 in record {
      ahead = one.0;
      behind = two.1;
      last = either_none (is_ahead rest) (refusals names rest) one.1 three.1;
      plain = λ never. absurd (true≢false (sym never));
    }
binding_clean {names} {w} {of_object} {es} {rest} BindsObject at none =
    let two = none_in _ (refusals_in_round names false es) none in
    let one = none_in (refusals_in_round names true es) (if is_plain_rest rest then refusals names rest else lost_rest rest ∷ []) two.0 in
    let plain = plain_binding names rest (is_plain_rest rest) refl one.1 in
    record { ahead = one.0; behind = two.1; last = plain.1; plain = λ objects. plain.0 }

-- The items in two rounds.
abbrev pub binding : Scene → (everywhere : Bool) → Pieces → (rest : Syntax) → List Value → Action (Unit {0})
binding scene everywhere es rest vs = do
  first_round scene everywhere es rest vs
  second_round scene everywhere es rest vs

pub binding_means : {w : Word} {of_object : Bool} → IsBinding w of_object → (scene : Scene) (everywhere : Bool) (at : At) (es : Pieces)
    (rest : Syntax) → (of_object ≡ true → have_keys es ≡ true) → (of_object ≡ true → is_plain_rest rest ≡ true) → (v : Value)
    → taken_apart scene.world (form_text of_object ∷ piece_shapes es ++ rest_shape rest) (binding scene everywhere es rest) v
    ≡ bind scene everywhere (Node at w (Then (Listed es) (Then rest End))) v
binding_means BindsArray scene everywhere at es rest keys plain v = refl
binding_means BindsObject scene everywhere at es rest keys plain v =
    sym (ap (λ (b : Bool). if b
    then taken_apart scene.world (form_text true ∷ piece_shapes es ++ rest_shape rest) (binding scene everywhere es rest) v
    else no_meaning) (keyed (keys refl) (plain refl)))
