-- The rows of statements, as tests: true where none applies.
use Rattle.std.specs.Prelude.{ℕ, Bool, true, false, ◌&&◌, not, is_some, List, codes}
use Rattle.std.specs.Str.{bytes_eq}
use Rattle.rl_code.specs.Parts.{first, second, third_of_three}
use Rattle.rl_model.specs.Applied.{is_plain_name, is_true, is_var, label_found}
use Rattle.rl_row_forms.specs.Shaped.{clear_flag, first_said, first_two}
use Rattle.rl_row_forms.specs.declared.above.Above.{Above}
use Rattle.rl_semantic.specs.Items.{of_item}
use Rattle.rl_syntax.specs.Forms.{is_absent}
use Rattle.rl_syntax.specs.Syntax.{Syntax, Said, Absent, Pieces, End, Then}
use Rattle.rl_syntax.specs.declared.word.Word.{Word}
use Rattle.rl_syntax.specs.declared.word.Word.TheVariants as word

abbrev pub clear_for_head : (init condition : Syntax) → Bool
clear_for_head init condition = not (not (is_absent init) && not (is_var init)) && not (is_absent condition)

-- A `for` node.
abbrev pub clear_for : Pieces → Bool
clear_for parts = of_item true (λ p. clear_for_head p.0 p.1) (first_two parts)

abbrev pub clear_finalizer : Pieces → Bool
clear_finalizer parts = of_item true is_absent (third_of_three parts)

abbrev pub clear_handler : (handler : Syntax) → Pieces → Bool
clear_handler handler parts = not (is_absent handler) && clear_finalizer parts

-- A `try` node.
abbrev pub clear_try : Pieces → Bool
clear_try parts = of_item true (λ handler. clear_handler handler parts) (second parts)

-- A class declaration.
abbrev pub clear_classdecl : Pieces → Bool
clear_classdecl parts = of_item true (λ name. false) (first parts)

abbrev pub clear_kind : (head : Bool) → (kind : List ℕ) → Bool
clear_kind head kind =
    not (bytes_eq kind (codes "var") && not head) && not (bytes_eq kind (codes "using")) && not (bytes_eq kind (codes "await using"))

-- A declaration of variables.
abbrev pub clear_var : (head : Bool) → Pieces → Bool
clear_var head parts = of_item true (clear_kind head) (first_said parts)

abbrev pub clear_param : Syntax → Bool
clear_param param = not (not (is_absent param) && not (is_plain_name param))

-- A `catch` node.
abbrev pub clear_catch : Pieces → Bool
clear_catch parts = of_item true clear_param (first parts)

-- The label of a `break`, or its absence.
abbrev pub clear_break_label : (breaks : Bool) → (labels : List (List ℕ × Bool)) → Syntax → Bool
clear_break_label breaks labels Absent = breaks
clear_break_label breaks labels (Said label) = is_some (label_found labels label)
clear_break_label breaks labels _ = true

-- A `break` node.
abbrev pub clear_break : (breaks : Bool) → (labels : List (List ℕ × Bool)) → Pieces → Bool
clear_break breaks labels (Then Absent End) = breaks
clear_break breaks labels (Then (Said label) End) = is_some (label_found labels label)
clear_break breaks labels _ = true

-- The label of a `continue`, or its absence.
abbrev pub clear_continue_label : (continues : Bool) → (labels : List (List ℕ × Bool)) → Syntax → Bool
clear_continue_label continues labels Absent = continues
clear_continue_label continues labels (Said label) = is_true (label_found labels label)
clear_continue_label continues labels _ = true

-- A `continue` node.
abbrev pub clear_continue : (continues : Bool) → (labels : List (List ℕ × Bool)) → Pieces → Bool
clear_continue continues labels (Then Absent End) = continues
clear_continue continues labels (Then (Said label) End) = is_true (label_found labels label)
clear_continue continues labels _ = true

-- A statement, by its word.
abbrev pub clear_statement : Above → (labels : List (List ℕ × Bool)) → Word → Pieces → Bool
clear_statement a labels word.Throw parts = not a.tried
clear_statement a labels word.For parts = clear_for parts
clear_statement a labels word.Forof parts = clear_flag parts
clear_statement a labels word.Try parts = clear_try parts
clear_statement a labels word.Classdecl parts = clear_classdecl parts
clear_statement a labels word.Var parts = clear_var a.head parts
clear_statement a labels word.Catch parts = clear_catch parts
clear_statement a labels word.Break parts = clear_break a.breaks labels parts
clear_statement a labels word.Continue parts = clear_continue a.continues labels parts
clear_statement a labels _ parts = true
