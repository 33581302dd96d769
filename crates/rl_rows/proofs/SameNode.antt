-- The rows of a node by itself are those of the model.
use Rattle.std.proofs.Common.{◌≡◌, ℕ, Bool, ◌&&◌, ◌||◌, not, is_some, List, codes, ap, refl, ◌∙◌}
use Rattle.std.specs.Str.{bytes_eq}
use Rattle.rl_base.specs.Reserved.{is_reserved}
use Rattle.rl_text.specs.Numeral.{is_numeral}
use Rattle.rl_model.specs.Applied.{F, Facts, K, S, deletes, has_colon, has_this_among, is_assigned, is_bound_tag, is_known_key}
use Rattle.rl_model.specs.Applied.{is_plain_name, is_read, is_true, is_var, label_found, of_name, of_node, of_place, of_private, of_update}
use Rattle.rl_model.specs.Applied.{of_wrapped}
use Rattle.rl_model.specs.Code.{is_function, is_no_code}
use Rattle.rl_model.specs.Shapes.{are_raw, is_logical, is_same_text}
use Rattle.rl_model.specs.Shapes.{is_absent as is_no_part}
use Rattle.rl_model.specs.Supported.{is_none}
use Rattle.rl_names.specs.declared.names.Meaning.{Meaning}
use Rattle.rl_names.specs.declared.names.Meaning.TheVariants.{Local, Outer}
use Rattle.rl_row_forms.specs.Aboves.{seen, use_of}
use Rattle.rl_row_forms.specs.Quasis.{are_raw_among}
use Rattle.rl_row_forms.specs.Targets.{clear_private, clear_wrapped}
use Rattle.rl_row_forms.specs.declared.above.Above.{Above}
use Rattle.rl_row_forms.specs.declared.above.Use.{Use}
use Rattle.rl_row_forms.specs.declared.above.Use.TheVariants as uses
use Rattle.rl_row_forms.proofs.Nones.{declared_whens, logical_when, one_of_two, one_when, other_when}
use Rattle.rl_row_forms.proofs.Nones.{pattern_whens, private_whens, row_whens}
use Rattle.rl_row_forms.proofs.Nones.{three_whens, two_whens}
use Rattle.rl_row_names.specs.Named.{clear_name, clear_updated}
use Rattle.rl_rows.specs.Itself.{clear_itself, clear_place}
use Rattle.rl_syntax.specs.Forms.{is_absent}
use Rattle.rl_syntax.specs.Syntax.{Syntax, Node, Listed, Said, Flag, Absent, Pieces, End, Then}
use Rattle.rl_syntax.specs.declared.numbered.At.{At}
use Rattle.rl_syntax.specs.declared.word.Word.{Word}
use Rattle.rl_syntax.specs.declared.word.Word.TheVariants as word

absent_same : (s : Syntax) → is_absent s ≡ is_no_part s
absent_same Absent = refl
absent_same _ = refl

name_same : (f : Facts) (a : Above) (labels : List (List ℕ × Bool)) (reference : ℕ) (name : List ℕ) (m : Meaning)
    → clear_name f a reference name m ≡ is_none (of_name f (seen a labels) reference name m)
name_same f a labels reference name (Local symbol) =
    three_whens (is_reserved name) (bytes_eq name (codes "fbt")) (is_assigned (use_of a.used) && f.is_const symbol.0) (S 1) (F 40) (F 6)
name_same f a labels reference name (Outer b) =
    one_when (bytes_eq name (codes "eval") && f.is_global reference && is_read (use_of a.used) && not a.tag) (F 2)

update_same : (f : Facts) (node reference : ℕ) (m : Meaning) → clear_updated f node m ≡ is_none (of_update f node reference m)
update_same f node reference (Local symbol) = one_when (f.is_context node symbol.0) (F 19)
update_same f node reference (Outer b) = one_of_two (f.is_global reference) (F 20) (F 21)

private_same : (u : Use) → clear_private u ≡ is_none (of_private (use_of u))
private_same uses.Equals = refl
private_same _ = refl

wrapped_same : (u : Use) → clear_wrapped u ≡ is_none (of_wrapped (use_of u))
wrapped_same uses.Reads = refl
wrapped_same _ = refl

raw_same : (parts : Pieces) → are_raw_among parts ≡ are_raw parts
raw_same End = refl
raw_same (Then (Node at word.Quasi (Then (Said raw) (Then cooked End))) parts) =
    ap (λ b. is_same_text raw cooked && b) (raw_same parts)
raw_same (Then part parts) = refl

-- A node by itself has no rows where the test is true.
pub itself_same : (f : Facts) (a : Above) (labels : List (List ℕ × Bool)) (at : At) (w : Word) (parts : Pieces)
    → clear_itself f a labels at w parts ≡ is_none (of_node f (seen a labels) (Node at w parts))
itself_same f a labels at word.Id (Then (Said name) End) =
    name_same f a labels at.reference.0 name (f.names.meaning at.reference.0 name)
itself_same f a labels at word.Opening (Then tag parts) = one_when (is_bound_tag f tag) (S 5)
itself_same f a labels at word.Params parts = one_when (has_this_among parts) (S 2)
itself_same f a labels at word.Bind (Then (Said name) parts) =
    declared_whens (f.is_variable at.id.0) (is_reserved name) (bytes_eq name (codes "fbt")) (f.is_lost at.id.0) (S 1) (F 40) (F 7)
itself_same f a labels at word.Update (Then operator (Then prefix (Then (Node there word.Id (Then (Said name) End)) End))) =
    update_same f there.id.0 there.reference.0 (f.names.meaning there.reference.0 name)
itself_same f a labels at word.Privatemember parts = private_same a.used
itself_same f a labels at word.As parts = wrapped_same a.used
itself_same f a labels at word.Satisfies parts = wrapped_same a.used
itself_same f a labels at word.Assert parts = wrapped_same a.used
itself_same f a labels at word.Nonnull parts = wrapped_same a.used
itself_same f a labels at word.Assign (Then (Said operator) (Then (Node there word.Privatemember parts) (Then right End))) =
    private_whens (is_logical operator) (bytes_eq operator (codes "=")) (F 5) (F 23)
itself_same f a labels at word.Assign (Then (Said operator) (Then (Node there word.Arraytarget parts) (Then right End))) =
    pattern_whens (is_logical operator) (bytes_eq operator (codes "=")) (F 23) (F 24)
itself_same f a labels at word.Assign (Then (Said operator) (Then (Node there word.Objecttarget parts) (Then right End))) =
    pattern_whens (is_logical operator) (bytes_eq operator (codes "=")) (F 23) (F 24)
itself_same f a labels at word.Assign (Then (Said operator) parts) = logical_when (is_logical operator) (F 23)
itself_same f a labels at word.Keyedpat (Then (Flag computed) parts) = one_when computed (F 8)
itself_same f a labels at word.Keyed (Then (Flag computed) parts) = one_when computed (F 8)
itself_same f a labels at word.Rest (Then target End) = one_when (a.rest && not (is_plain_name target)) (F 10)
itself_same f a labels at word.Unary (Then (Said operator) (Then argument End)) =
    one_when (bytes_eq operator (codes "delete") && not (deletes argument)) (F 12)
itself_same f a labels at word.Tagged (Then tag (Then (Node there word.Template (Then (Listed quasis) parts)) End)) =
    raw_same quasis ∙ other_when (are_raw quasis) (F 13)
itself_same f a labels at word.This parts = other_when a.tag (F 18)
itself_same f a labels at word.Attrname (Then (Said name) End) = one_when (has_colon name) (F 25)
itself_same f a labels at word.Tagns (Then (Said namespace) (Then (Said name) End)) =
    one_when (has_colon namespace || has_colon name) (F 27)
itself_same f a labels at word.Num (Then (Said text) End) = other_when (is_numeral text) (F 43)
itself_same f a labels at word.Throw parts = one_when a.tried (F 30)
itself_same f a labels at word.For (Then init (Then condition parts)) =
    (λ i. not (not (absent_same init i) && not (is_var init)) && not (absent_same condition i))
    ∙ two_whens (not (is_no_part init) && not (is_var init)) (is_no_part condition) (F 31) (F 32)
itself_same f a labels at word.Forof (Then (Flag is_await) parts) = one_when is_await (F 33)
itself_same f a labels at word.Try (Then block (Then Absent parts)) = refl
itself_same f a labels at word.Try (Then block (Then handler (Then finalizer End))) =
    absent_same finalizer ∙ other_when (is_no_part finalizer) (F 35)
itself_same f a labels at word.Classdecl (Then name parts) = refl
itself_same f a labels at word.Var (Then (Said kind) parts) =
    row_whens (bytes_eq kind (codes "var") && not a.head) (bytes_eq kind (codes "using")) (bytes_eq kind (codes "await using")) (F 39)
    (K 2) (K 3)
itself_same f a labels at word.Catch (Then param parts) =
    (λ i. not (not (absent_same param i) && not (is_plain_name param)))
    ∙ one_when (not (is_no_part param) && not (is_plain_name param)) (S 4)
itself_same f a labels at word.Break (Then Absent End) = other_when a.breaks (S 6)
itself_same f a labels at word.Break (Then (Said label) End) = other_when (is_some (label_found labels label)) (S 6)
itself_same f a labels at word.Continue (Then Absent End) = other_when a.continues (S 7)
itself_same f a labels at word.Continue (Then (Said label) End) = other_when (is_true (label_found labels label)) (S 7)
itself_same f a labels at w parts = refl

-- A node by its place.
pub place_same : (f : Facts) (a : Above) (labels : List (List ℕ × Bool)) (at : At) (w : Word)
    (parts : Pieces) → clear_place f a at w parts ≡ is_none (of_place f (seen a labels) at w parts)
place_same f a labels at w parts =
    two_whens (a.key && not (is_known_key w)) (is_function w && not (is_no_code w parts) && f.is_dead at.id.0) (F 9) (F 41)
