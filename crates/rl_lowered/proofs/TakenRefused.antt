-- The items of targets that are patterns record the refusals of their keys and names; those of the parts that are left come behind.
use Rattle.std.proofs.Common.{◌≡◌, ◌++◌, Bool, true, false, not, if◌then◌else◌, List, [], ◌∷◌, Option, refl, sym, ap, ◌∙◌}
use Rattle.std.proofs.Common.{append-nil, append_assoc}
use Rattle.rl_base.specs.declared.row.Row.TheVariants as row
use Rattle.rl_base.specs.Diagnostics.{diagnostic_at}
use Rattle.rl_builder.specs.Builder.{recorded}
use Rattle.rl_lowered.proofs.Common.{At, Diagnostic, End, Names, Node, Piece, Pieces, Span, State, SymbolId, Syntax, Then}
use Rattle.rl_lowered.proofs.Records.{found_said, records_all, records_none, records_same, records_then, said}
use Rattle.rl_lowered.specs.Forms.{IsProperty}
use Rattle.rl_lowered.specs.Items.{Later, key_met, promoted}
use Rattle.rl_lowered.specs.Items as items
use Rattle.rl_lowered.specs.Named.{found}
use Rattle.rl_model.specs.Patterns.{is_turn}
use Rattle.rl_model.specs.Shapes.{is_plain_rest}
use Rattle.rl_promises.specs.Patterns.{fraction_in, is_lost_item, lost_item, lost_rest, said_of_fraction, said_of_key}
use Rattle.rl_promises.specs.Rows.{Records, label_of, said_of_local}
use Rattle.rl_syntax.specs.declared.word.Word.{Word}
use Rattle.rl_syntax.specs.declared.word.Word.TheVariants as word
use Rattle.rl_syntax.specs.Syntax.{Listed, span_of}
use Rattle.rl_lowered.proofs.ItemForms.{item_taken}
use Rattle.rl_lowered.proofs.ItemRefused.{key_refused}
use Rattle.rl_lowered.proofs.Refusals.{stored_head_refuses}
use Rattle.rl_lowered.specs.Forms.{OfTarget}
use Rattle.rl_lowered.specs.Items.{IsTaking, LoweredAhead, TakenItems}
use Rattle.rl_promises.specs.Patterns.{is_forced, target_under}
use Rattle.rl_promises.specs.Rows.{refusals_to, refusals_to_round, said_ahead, said_of_items, said_of_rest}
use Rattle.rl_semantic.specs.Items.{of_item}
use Rattle.std.proofs.Common.{◌&&◌}

-- The names in front are looked at.
pub look_refused : {names : Names} {es : Pieces} {rest : Syntax} {s t : State} {forced : Bool} → LoweredAhead names es rest s t forced
    → Records (said_ahead names es rest) (said s) (said t)
look_refused {names} (items.NoLook es rest s is) =
    records_none _ (said s) (said s) (ap (λ (b : Bool). if b then said_of_items names es else []) is) refl
look_refused (items.LookEnds s) = records_none [] (said s) (said s) refl refl
look_refused {names} (items.LookOther item es s is) =
    records_none _ (said s) (said s)
    (ap (λ (o : Option SymbolId). of_item []
    (λ symbol. said_of_local (names.name symbol.0) (label_of names symbol (span_of (target_under item))) ++ said_of_items names es) o) is) refl
look_refused {names} (items.LookLocal item es symbol identifier s t forced is f d) =
    let at : Span = span_of (target_under item) in
    records_same _ _ (said s) (said t)
    (ap (λ (o : Option SymbolId). of_item []
    (λ symbol. said_of_local (names.name symbol.0) (label_of names symbol (span_of (target_under item))) ++ said_of_items names es) o) is)
    (records_then (said_of_local (names.name symbol.0) (label_of names symbol at)) (said_of_items names es) (said s)
    (said (found names s symbol at)) (said t) (found_said names s symbol at identifier f) (look_refused d))

-- The refusals of the rest by itself, and of its target, which comes last.

abbrev pub rest_taken : (of_object : Bool) → (rest : Syntax) → List Diagnostic
rest_taken true rest = said_of_rest rest
rest_taken false rest = []

abbrev pub rest_after : Names → (of_object : Bool) → (rest : Syntax) → List Diagnostic
rest_after names true rest = if is_plain_rest rest then refusals_to names rest else []
rest_after names false rest = refusals_to names rest

abbrev pub left_taken : Names → List Later → List Diagnostic
left_taken names [] = []
left_taken names (first ∷ later) = refusals_to names first.part ++ left_taken names later

abbrev turn_rows : Names → (turn : Bool) → (item : Syntax) → List Diagnostic
turn_rows names turn item = if turn then refusals_to names item else []

abbrev key_rows : Bool → (item : Syntax) → List Diagnostic
key_rows lost item = if lost then lost_item item ∷ [] else said_of_fraction (fraction_in item)

unsaid_turn : (names : Names) (turn : Bool) (item : Syntax) → refusals_to names item ≡ [] → turn_rows names turn item ≡ []
unsaid_turn names true item is = is
unsaid_turn names false item is = refl

lost_unsaid : (names : Names) (item : Syntax) → IsProperty false item → is_lost_item item ≡ true → refusals_to names item ≡ []
lost_unsaid names item (OfTarget {at} {computed} {key} {target}) is =
    ap (λ (b : Bool). if b then [] else refusals_to names target) is

plain_by : (plain : Bool) → (true && not plain) ≡ false → plain ≡ true
plain_by true is = refl
plain_by false is = sym is

-- The items are met.
pub taken_refused : {names : Names} {of_object forced : Bool} {es : Pieces} {rest : Syntax} {s u : State} {pieces : List Piece}
    {later : List Later} → TakenItems names of_object forced es rest s u pieces later
    → Records (refusals_to_round names forced true es ++ rest_taken of_object rest) (said s) (said u)
taken_refused {of_object = true} (items.NoItem s) = records_none [] (said s) (said s) refl refl
taken_refused {of_object = false} (items.NoItem s) = records_none [] (said s) (said s) refl refl
taken_refused {of_object = true} (items.RestTaken there target s is) =
    records_none _ (said s) _
    (ap (λ (b : Bool). if b then [] else lost_rest (Node there word.Rest (Then target End)) ∷ [])
    (plain_by (is_plain_rest (Node there word.Rest (Then target End))) is)) refl
taken_refused {of_object = false} (items.RestTaken there target s is) = records_none [] (said s) _ refl refl
taken_refused (items.RestLost rest s is) =
    records_same _ _ (said s) _ (ap (λ (b : Bool). if b then [] else lost_rest rest ∷ []) is)
    (records_all (lost_rest rest ∷ []) (said s) _ refl)
taken_refused {forced = true} (items.ItemHole there es rest s t pieces later d) = taken_refused d
taken_refused {forced = false} (items.ItemHole there es rest s t pieces later d) = taken_refused d
taken_refused {names} {forced = forced} (items.ItemLost item es rest s t pieces later shaped is d) =
    let turn : List Diagnostic = turn_rows names (is_turn true (not forced)) item in
    records_same _ _ (said s) (said t)
    (append_assoc (said_of_key item ++ turn) (refusals_to_round names forced true es) (rest_taken true rest))
    (records_then (said_of_key item ++ turn) (refusals_to_round names forced true es ++ rest_taken true rest) (said s)
    (said (recorded s (lost_item item))) (said t)
    (records_same _ _ (said s) _
    (ap (λ (l : List Diagnostic). said_of_key item ++ l) (unsaid_turn names (is_turn true (not forced)) item (lost_unsaid names item shaped is))
    ∙ append-nil (said_of_key item) ∙ ap (λ (b : Bool). key_rows b item) is)
    (records_all (lost_item item ∷ []) (said s) _ refl)) (taken_refused d))
taken_refused {names} {of_object = of_object}
    (items.ItemVariable item es rest there name symbol identifier s t key pieces later is means kept mutable f d) =
    let at_key : State = key_met s item in
    let here : State = found names at_key symbol there.span in
    records_same _ _ (said s) (said t)
    (append_assoc (said_of_key item ++ refusals_to names item) (refusals_to_round names false true es) (rest_taken of_object rest))
    (records_then (said_of_key item ++ refusals_to names item) (refusals_to_round names false true es ++ rest_taken of_object rest) (said s)
    (said here) (said t)
    (records_then (said_of_key item) (refusals_to names item) (said s) (said at_key) (said here) (key_refused s item kept)
    (records_same _ _ (said at_key) _
    (item_taken is kept names ∙ stored_head_refuses names there name symbol false means mutable
    ∙ append-nil (said_of_local (names.name symbol.0) (label_of names symbol there.span)))
    (found_said names at_key symbol there.span identifier f))) (taken_refused d))
taken_refused {names} {of_object = of_object}
    (items.ItemConstant item es rest there name symbol identifier s t key pieces later is means kept constant f d) =
    let at_key : State = key_met s item in
    let first : State = found names at_key symbol there.span in
    let noted : Diagnostic = diagnostic_at row.F6 (names.name symbol.0) there.span in
    let here : State = recorded first noted in
    records_same _ _ (said s) (said t)
    (append_assoc (said_of_key item ++ refusals_to names item) (refusals_to_round names false true es) (rest_taken of_object rest))
    (records_then (said_of_key item ++ refusals_to names item) (refusals_to_round names false true es ++ rest_taken of_object rest) (said s)
    (said here) (said t)
    (records_then (said_of_key item) (refusals_to names item) (said s) (said at_key) (said here) (key_refused s item kept)
    (records_same _ _ (said at_key) _
    (item_taken is kept names ∙ stored_head_refuses names there name symbol true means constant)
    (records_then _ (noted ∷ []) (said at_key) (said first) _ (found_said names at_key symbol there.span identifier f)
    (records_all (noted ∷ []) (said first) _ refl)))) (taken_refused d))
taken_refused {names} {of_object = of_object} (items.ItemLater item part es rest s t key pieces later is kept d) =
    let at_key : State = key_met s item in
    let here : State = promoted at_key (span_of part) in
    records_same _ _ (said s) (said t)
    (append_assoc (said_of_key item ++ []) (refusals_to_round names true true es) (rest_taken of_object rest))
    (records_then (said_of_key item ++ []) (refusals_to_round names true true es ++ rest_taken of_object rest) (said s) (said here) (said t)
    (records_then (said_of_key item) [] (said s) (said at_key) (said here) (key_refused s item kept)
    (records_none [] (said at_key) (said here) refl refl)) (taken_refused d))

-- The parts that are left, in the second round.
pub left_taken_are : {names : Names} {of_object forced : Bool} {es : Pieces} {rest : Syntax} {s u : State} {pieces : List Piece}
    {later : List Later} → TakenItems names of_object forced es rest s u pieces later
    → refusals_to_round names forced false es ++ rest_after names of_object rest ≡ left_taken names later
left_taken_are {of_object = true} (items.NoItem s) = refl
left_taken_are {of_object = false} (items.NoItem s) = refl
left_taken_are {names} {of_object = true} (items.RestTaken there target s is) =
    ap (λ (b : Bool). if b then refusals_to names target else []) (plain_by (is_plain_rest (Node there word.Rest (Then target End))) is)
    ∙ sym (append-nil (refusals_to names target))
left_taken_are {names} {of_object = false} (items.RestTaken there target s is) = sym (append-nil (refusals_to names target))
left_taken_are {names} (items.RestLost rest s is) = ap (λ (b : Bool). if b then refusals_to names rest else []) is
left_taken_are {forced = true} (items.ItemHole there es rest s t pieces later d) = left_taken_are d
left_taken_are {forced = false} (items.ItemHole there es rest s t pieces later d) = left_taken_are d
left_taken_are {names} {forced = forced} (items.ItemLost item es rest s t pieces later shaped is d) =
    ap (λ (l : List Diagnostic). l ++ refusals_to_round names forced false es ++ rest_after names true rest)
    (unsaid_turn names (is_turn false (not forced)) item (lost_unsaid names item shaped is))
    ∙ left_taken_are d
left_taken_are (items.ItemVariable item es rest there name symbol identifier s t key pieces later is means kept mutable f d) = left_taken_are d
left_taken_are (items.ItemConstant item es rest there name symbol identifier s t key pieces later is means kept constant f d) = left_taken_are d
left_taken_are {names} {of_object = of_object} (items.ItemLater item part es rest s t key pieces later is kept d) =
    append_assoc (refusals_to names item) (refusals_to_round names true false es) (rest_after names of_object rest)
    ∙ ap (λ (l : List Diagnostic). l ++ (refusals_to_round names true false es ++ rest_after names of_object rest)) (item_taken is kept names)
    ∙ ap (λ (l : List Diagnostic). refusals_to names part ++ l) (left_taken_are d)

-- The refusals of a target that is a pattern, in the order in which it is met.
pub taking_rows : {w : Word} {of_object : Bool} → IsTaking w of_object → (names : Names) (at : At) (es : Pieces) (rest : Syntax) (forced : Bool)
    → is_forced names es rest ≡ forced
    → refusals_to names (Node at w (Then (Listed es) (Then rest End)))
    ≡ said_ahead names es rest
    ++ ((refusals_to_round names forced true es ++ rest_taken of_object rest)
    ++ (refusals_to_round names forced false es ++ rest_after names of_object rest))
taking_rows items.TakesArray names at es rest forced is =
    ap (λ (b : Bool). said_ahead names es rest ++ refusals_to_round names b true es ++ refusals_to_round names b false es
    ++ refusals_to names rest) is
    ∙ append_assoc (said_ahead names es rest ++ refusals_to_round names forced true es) (refusals_to_round names forced false es)
    (refusals_to names rest)
    ∙ append_assoc (said_ahead names es rest) (refusals_to_round names forced true es)
    (refusals_to_round names forced false es ++ refusals_to names rest)
    ∙ ap (λ (l : List Diagnostic). said_ahead names es rest ++ (l ++ (refusals_to_round names forced false es ++ refusals_to names rest)))
    (sym (append-nil (refusals_to_round names forced true es)))
taking_rows items.TakesObject names at es rest forced is =
    let last : List Diagnostic = refusals_to_round names forced false es ++ rest_after names true rest in
    ap (λ (b : Bool). said_ahead names es rest ++ refusals_to_round names b true es ++ said_of_rest rest ++ refusals_to_round names b false es
    ++ (if is_plain_rest rest then refusals_to names rest else [])) is
    ∙ append_assoc (said_ahead names es rest ++ refusals_to_round names forced true es ++ said_of_rest rest)
    (refusals_to_round names forced false es) (rest_after names true rest)
    ∙ append_assoc (said_ahead names es rest ++ refusals_to_round names forced true es) (said_of_rest rest) last
    ∙ append_assoc (said_ahead names es rest) (refusals_to_round names forced true es) (said_of_rest rest ++ last)
    ∙ ap (λ (l : List Diagnostic). said_ahead names es rest ++ l)
    (sym (append_assoc (refusals_to_round names forced true es) (said_of_rest rest) last))
