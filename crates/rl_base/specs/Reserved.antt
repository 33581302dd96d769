-- The reserved words of JavaScript.
use Rattle.std.specs.Prelude.{ℕ, Bool, List, [], ◌∷◌, codes}
use Rattle.std.specs.List.{list_any}
use Rattle.std.specs.Str.{bytes_eq}

-- The words of `ReservedWord` in section 12.7.2 of ECMA-262, without `await` and `yield`: no mode allows one as a name.
abbrev pub reserved_words : List (List ℕ)
reserved_words =
    codes "break" ∷ codes "case" ∷ codes "catch" ∷ codes "continue" ∷ codes "debugger" ∷ codes "default" ∷
    codes "do" ∷ codes "else" ∷ codes "finally" ∷ codes "for" ∷ codes "function" ∷ codes "if" ∷ codes "in" ∷
    codes "instanceof" ∷ codes "new" ∷ codes "return" ∷ codes "switch" ∷ codes "this" ∷ codes "throw" ∷
    codes "try" ∷ codes "typeof" ∷ codes "var" ∷ codes "void" ∷ codes "while" ∷ codes "with" ∷ codes "class" ∷
    codes "const" ∷ codes "enum" ∷ codes "export" ∷ codes "extends" ∷ codes "import" ∷ codes "super" ∷
    codes "null" ∷ codes "true" ∷ codes "false" ∷ codes "delete" ∷ []

-- True if `word` is reserved.
abbrev pub is_reserved : List ℕ → Bool
is_reserved word = list_any (λ reserved. bytes_eq reserved word) reserved_words
