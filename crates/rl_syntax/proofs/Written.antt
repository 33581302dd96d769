-- The spelling of a tree by its form, behind the bytes that are there.
use Rattle.std.proofs.Common.{◌≡◌, ℕ, Bool, true, false, List, [], ◌∷◌, ◌++◌, map, append_assoc, ap, sym, ◌∙◌, if◌then◌else◌}
use Rattle.rl_text.specs.Notation.{spelling}
use Rattle.rl_text.specs.Number.{numeral}
use Rattle.rl_text.specs.Places.{spelled_parts}
use Rattle.rl_text.specs.Quoted.{quoted}
use Rattle.rl_text.proofs.Trees.{spelling-Listed}
use Rattle.rl_syntax.specs.Syntax.{pieces_of, plain, plain_parts, syntax}
use Rattle.rl_syntax.specs.Words.{word_text}
use Rattle.rl_syntax.specs.declared.numbered.At.{At}
use Rattle.rl_syntax.specs.declared.numbered.Numbered.{Numbered}
use Rattle.rl_syntax.specs.declared.numbered.Numbered.TheVariants as numbered
use Rattle.rl_syntax.specs.declared.word.Word.{Word}
use Rattle.rl_syntax.proofs.Layers.{syntax_node, syntax_list, syntax_text, syntax_number, syntax_flag, syntax_absent}

pub node_written : (out : List ℕ) (at : At) (word : Word) (parts : List Numbered) → ((out ++ 40 ∷ []) ++ word_text word) ++ spelled_parts true 41 (plain_parts (pieces_of (map syntax parts))) ≡ out ++ spelling (plain (syntax (numbered.Node at word parts)))
node_written out at word parts = simp append_assoc (ap (λ s. out ++ spelling (plain s)) (sym (syntax_node at word parts)))

pub list_written : (out : List ℕ) (parts : List Numbered) → (out ++ 91 ∷ []) ++ spelled_parts false 93 (plain_parts (pieces_of (map syntax parts))) ≡ out ++ spelling (plain (syntax (numbered.List parts)))
list_written out parts =
    append_assoc out (91 ∷ []) (spelled_parts false 93 (plain_parts (pieces_of (map syntax parts))))
    ∙ ap (λ l. out ++ l) (sym (spelling-Listed (plain_parts (pieces_of (map syntax parts)))))
    ∙ ap (λ s. out ++ spelling (plain s)) (sym (syntax_list parts))

pub text_written : (out text : List ℕ) → out ++ quoted text ≡ out ++ spelling (plain (syntax (numbered.Text text)))
text_written out text = ap (λ s. out ++ spelling (plain s)) (sym (syntax_text text))

pub number_written : (out : List ℕ) (number : ℕ) → out ++ numeral number ≡ out ++ spelling (plain (syntax (numbered.Number number)))
number_written out number = ap (λ s. out ++ spelling (plain s)) (sym (syntax_number number))

pub flag_written : (out : List ℕ) (flag : Bool) → out ++ (if flag then 121 else 110) ∷ [] ≡ out ++ spelling (plain (syntax (numbered.Flag flag)))
flag_written out flag = ap (λ s. out ++ spelling (plain s)) (sym (syntax_flag flag))

pub absent_written : (out : List ℕ) → out ++ 45 ∷ [] ≡ out ++ spelling (plain (syntax numbered.Absent))
absent_written out = ap (λ s. out ++ spelling (plain s)) (sym syntax_absent)

pub ruleset by_form = (node_written, list_written, text_written, number_written, flag_written, absent_written)
