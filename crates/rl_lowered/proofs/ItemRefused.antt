-- The items of binding patterns record the refusals of their keys and names; those of the parts that are left come behind.
use Rattle.std.proofs.Common.{◌≡◌, ℕ, ◌++◌, Bool, true, false, if◌then◌else◌, List, [], ◌∷◌, Option, Some, None, refl, sym, ap, ◌∙◌}
use Rattle.std.proofs.Common.{append-nil, append_assoc}
use Rattle.rl_base.specs.declared.row.Row.TheVariants as row
use Rattle.rl_base.specs.Diagnostics.{diagnostic_at}
use Rattle.rl_builder.specs.Builder.{recorded}
use Rattle.rl_lowered.proofs.Common.{At, Diagnostic, End, Names, Node, Piece, Pieces, Said, Span, State, SymbolId, Syntax, Then}
use Rattle.rl_lowered.proofs.ItemForms.{apart_behind, item_ahead, item_refuses}
use Rattle.rl_lowered.proofs.Records.{found_said, records_all, records_behind, records_none, records_same, records_then, said}
use Rattle.rl_lowered.proofs.Refusals.{bind_refuses}
use Rattle.rl_lowered.specs.Forms.{IsProperty, OfBinding}
use Rattle.rl_lowered.specs.Items.{BoundItems, IsBinding, Later, fraction_met, key_met, met, promoted}
use Rattle.rl_lowered.specs.Items as items
use Rattle.rl_lowered.specs.Named.{IsFound, found}
use Rattle.rl_model.specs.Patterns.{is_turn}
use Rattle.rl_model.specs.Shapes.{is_plain_rest}
use Rattle.rl_promises.specs.Patterns.{fraction_in, is_ahead, is_lost_item, lost_item, lost_rest, said_of_fraction, said_of_key}
use Rattle.rl_promises.specs.Rows.{Records, label_of, refusals, refusals_in_round, said_of_local}
use Rattle.rl_syntax.specs.declared.word.Word.{Word}
use Rattle.rl_syntax.specs.declared.word.Word.TheVariants as word
use Rattle.rl_syntax.specs.Syntax.{Listed, span_of}

-- The refusals of the rest: where it is met ahead, and where it is left.

abbrev pub rest_said : Names → (of_object : Bool) → (rest : Syntax) → List Diagnostic
rest_said names true rest = if is_plain_rest rest then refusals names rest else lost_rest rest ∷ []
rest_said names false rest = if is_ahead rest then refusals names rest else []

abbrev pub rest_left : Names → (of_object : Bool) → (rest : Syntax) → List Diagnostic
rest_left names true rest = []
rest_left names false rest = if is_ahead rest then [] else refusals names rest

abbrev pub left_rows : Names → List Later → List Diagnostic
left_rows names [] = []
left_rows names (first ∷ later) = refusals names first.part ++ left_rows names later

-- Keys and names.

fraction_refused : (s : State) (o : Option Span) → Records (said_of_fraction o) (said s) (said (fraction_met s o))
fraction_refused s None = records_none [] (said s) (said s) refl refl
fraction_refused s (Some at) = records_all (diagnostic_at row.F43 [] at ∷ []) (said s) _ refl

abbrev key_rows : Bool → (item : Syntax) → List Diagnostic
key_rows lost item = if lost then lost_item item ∷ [] else said_of_fraction (fraction_in item)

pub key_refused : (s : State) (item : Syntax) → is_lost_item item ≡ false → Records (said_of_key item) (said s) (said (key_met s item))
key_refused s item kept =
    records_same _ _ (said s) _ (ap (λ (b : Bool). key_rows b item) kept) (fraction_refused s (fraction_in item))

pub met_refused : (again : Bool) (names : Names) (s : State) (symbol : SymbolId) (at : Span) (identifier : ℕ)
    → IsFound names s symbol at identifier
    → Records (said_of_local (names.name symbol.0) (label_of names symbol at)) (said s) (said (met again names s symbol identifier at))
met_refused true names s symbol at identifier f =
    records_behind _ (said s) (said (found names s symbol at)) _ refl (found_said names s symbol at identifier f)
met_refused false names s symbol at identifier f = found_said names s symbol at identifier f

abbrev turn_rows : Names → (turn : Bool) → (item : Syntax) → List Diagnostic
turn_rows names turn item = if turn then refusals names item else []

unsaid_turn : (names : Names) (turn : Bool) (item : Syntax) → refusals names item ≡ [] → turn_rows names turn item ≡ []
unsaid_turn names true item is = is
unsaid_turn names false item is = refl

lost_unsaid : (names : Names) (item : Syntax) → IsProperty true item → is_lost_item item ≡ true → refusals names item ≡ []
lost_unsaid names item (OfBinding {at} {computed} {key} {pattern}) is =
    ap (λ (b : Bool). if b then [] else refusals names pattern) is

-- The names of the items and the rest are met.
pub bound_refused : {names : Names} {again of_object : Bool} {es : Pieces} {rest : Syntax} {s u : State} {pieces : List Piece}
    {later : List Later} → BoundItems names again of_object es rest s u pieces later
    → Records (refusals_in_round names true es ++ rest_said names of_object rest) (said s) (said u)
bound_refused {of_object = true} (items.NoBound s) = records_none [] (said s) (said s) refl refl
bound_refused {of_object = false} (items.NoBound s) = records_none [] (said s) (said s) refl refl
bound_refused {names} {again} {of_object = true} (items.RestNamed there bind_at name type symbol identifier s annotated is f) =
    records_same _ _ (said s) _
    (append-nil (refusals names (Node bind_at word.Bind (Then (Said name) (Then type End))))
    ∙ bind_refuses names bind_at name type symbol annotated is)
    (met_refused again names s symbol bind_at.span identifier f)
bound_refused {names} {again} {of_object = false} (items.RestNamed there bind_at name type symbol identifier s annotated is f) =
    records_same _ _ (said s) _
    (append-nil (refusals names (Node bind_at word.Bind (Then (Said name) (Then type End))))
    ∙ bind_refuses names bind_at name type symbol annotated is)
    (met_refused again names s symbol bind_at.span identifier f)
bound_refused {names} (items.RestNested there pattern s is) =
    records_none _ (said s) _
    (ap (λ (b : Bool). if b then refusals names (Node there word.Rest (Then pattern End)) else []) (apart_behind pattern is)) refl
bound_refused {names} (items.RestUnbound rest s is) =
    records_same _ _ (said s) _ (ap (λ (b : Bool). if b then refusals names rest else lost_rest rest ∷ []) is)
    (records_all (lost_rest rest ∷ []) (said s) _ refl)
bound_refused (items.BoundHole there es rest s t pieces later d) = bound_refused d
bound_refused {names} (items.BoundLost item es rest s t pieces later shaped is d) =
    let turn : List Diagnostic = turn_rows names (is_turn true (is_ahead item)) item in
    records_same _ _ (said s) (said t)
    (append_assoc (said_of_key item ++ turn) (refusals_in_round names true es) (rest_said names true rest))
    (records_then (said_of_key item ++ turn) (refusals_in_round names true es ++ rest_said names true rest) (said s)
    (said (recorded s (lost_item item))) (said t)
    (records_same _ _ (said s) _
    (ap (λ (l : List Diagnostic). said_of_key item ++ l) (unsaid_turn names (is_turn true (is_ahead item)) item (lost_unsaid names item shaped is))
    ∙ append-nil (said_of_key item) ∙ ap (λ (b : Bool). key_rows b item) is)
    (records_all (lost_item item ∷ []) (said s) _ refl)) (bound_refused d))
bound_refused {names} {again} {of_object}
    (items.BoundVariable item es rest bind_at name type symbol identifier s t key pieces later is annotated kept means f d) =
    let turn : List Diagnostic = turn_rows names (is_turn true (is_ahead item)) item in
    let at_key : State = key_met s item in
    let here : State = met again names at_key symbol identifier bind_at.span in
    records_same _ _ (said s) (said t)
    (append_assoc (said_of_key item ++ turn) (refusals_in_round names true es) (rest_said names of_object rest))
    (records_then (said_of_key item ++ turn) (refusals_in_round names true es ++ rest_said names of_object rest) (said s) (said here) (said t)
    (records_then (said_of_key item) turn (said s) (said at_key) (said here) (key_refused s item kept)
    (records_same _ _ (said at_key) _
    (ap (λ (b : Bool). turn_rows names (is_turn true b) item) (item_ahead is) ∙ item_refuses is kept names
    ∙ bind_refuses names bind_at name type symbol annotated means)
    (met_refused again names at_key symbol bind_at.span identifier f))) (bound_refused d))
bound_refused {names} {again} {of_object} (items.BoundLater item part es rest s t key pieces later is kept late d) =
    let turn : List Diagnostic = turn_rows names (is_turn true (is_ahead item)) item in
    let at_key : State = key_met s item in
    let here : State = promoted at_key (span_of part) in
    records_same _ _ (said s) (said t)
    (append_assoc (said_of_key item ++ turn) (refusals_in_round names true es) (rest_said names of_object rest))
    (records_then (said_of_key item ++ turn) (refusals_in_round names true es ++ rest_said names of_object rest) (said s) (said here) (said t)
    (records_then (said_of_key item) turn (said s) (said at_key) (said here) (key_refused s item kept)
    (records_none turn (said at_key) (said here) (ap (λ (b : Bool). turn_rows names (is_turn true b) item) (item_ahead is ∙ late)) refl))
    (bound_refused d))

-- The parts that are left, as the second round has them.
pub left_rows_are : {names : Names} {again of_object : Bool} {es : Pieces} {rest : Syntax} {s u : State} {pieces : List Piece}
    {later : List Later} → BoundItems names again of_object es rest s u pieces later
    → refusals_in_round names false es ++ rest_left names of_object rest ≡ left_rows names later
left_rows_are {of_object = true} (items.NoBound s) = refl
left_rows_are {of_object = false} (items.NoBound s) = refl
left_rows_are {of_object = true} (items.RestNamed there bind_at name type symbol identifier s annotated is f) = refl
left_rows_are {of_object = false} (items.RestNamed there bind_at name type symbol identifier s annotated is f) = refl
left_rows_are {names} (items.RestNested there pattern s is) =
    ap (λ (b : Bool). if b then [] else refusals names (Node there word.Rest (Then pattern End))) (apart_behind pattern is)
left_rows_are (items.RestUnbound rest s is) = refl
left_rows_are (items.BoundHole there es rest s t pieces later d) = left_rows_are d
left_rows_are {names} (items.BoundLost item es rest s t pieces later shaped is d) =
    ap (λ (l : List Diagnostic). l ++ refusals_in_round names false es ++ rest_left names true rest)
    (unsaid_turn names (is_turn false (is_ahead item)) item (lost_unsaid names item shaped is))
    ∙ left_rows_are d
left_rows_are {names} {of_object = of_object}
    (items.BoundVariable item es rest bind_at name type symbol identifier s t key pieces later is annotated kept means f d) =
    ap (λ (b : Bool). turn_rows names (is_turn false b) item ++ refusals_in_round names false es ++ rest_left names of_object rest)
    (item_ahead is)
    ∙ left_rows_are d
left_rows_are {names} {of_object = of_object} (items.BoundLater item part es rest s t key pieces later is kept late d) =
    ap (λ (b : Bool). turn_rows names (is_turn false b) item ++ refusals_in_round names false es ++ rest_left names of_object rest)
    (item_ahead is ∙ late)
    ∙ append_assoc (refusals names item) (refusals_in_round names false es) (rest_left names of_object rest)
    ∙ ap (λ (l : List Diagnostic). l ++ (refusals_in_round names false es ++ rest_left names of_object rest)) (item_refuses is kept names)
    ∙ ap (λ (l : List Diagnostic). refusals names part ++ l) (left_rows_are d)

-- Names first, and then what is left: the refusals of a pattern.
pub pattern_rows : {w : Word} {of_object : Bool} → IsBinding w of_object → (names : Names) (at : At) (es : Pieces) (rest : Syntax)
    → refusals names (Node at w (Then (Listed es) (Then rest End)))
    ≡ (refusals_in_round names true es ++ rest_said names of_object rest)
    ++ (refusals_in_round names false es ++ rest_left names of_object rest)
pattern_rows items.BindsArray names at es rest =
    append_assoc (refusals_in_round names true es ++ rest_said names false rest) (refusals_in_round names false es)
    (rest_left names false rest)
pattern_rows items.BindsObject names at es rest =
    ap (λ (l : List Diagnostic). (refusals_in_round names true es ++ rest_said names true rest) ++ l)
    (sym (append-nil (refusals_in_round names false es)))
