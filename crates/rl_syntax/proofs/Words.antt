-- The entry of each word in the table, by computation; no two words have one spelling.
use Rattle.std.proofs.Common.{◌≡◌, ℕ, List, Option, Some, None, get_or, sym, ap, ◌∙◌, refl}
use Rattle.rl_syntax.specs.Words.{word_text}
use Rattle.rl_syntax.specs.WordIndex.{word_index}
use Rattle.rl_syntax.specs.declared.word.Word.{Word}
use Rattle.rl_syntax.specs.declared.word.Word.TheVariants as word
use Rattle.rl_syntax.specs.declared.word_table.TheConstants.{TABLE}

pub held : (w : Word) → get_or TABLE (word_index (word_text w)) None ≡ Some w
held word.Unit = refl
held _ = refl

-- A word that spells a text stands at the text's index.
pub held-at : (text : List ℕ) (index : ℕ) (w : Word) → index ≡ word_index text → word_text w ≡ text → get_or TABLE index None ≡ Some w
held-at text index w here e = ap (λ k. get_or TABLE k None) here ∙ ap (λ t. get_or TABLE (word_index t) None) (sym e) ∙ held w

pub none-some : (entry : Option Word) (w : Word) → entry ≡ None → entry ≡ Some w → ⊥
none-some entry w e f = cc

pub some-one : (entry : Option Word) (v w : Word) → entry ≡ Some v → entry ≡ Some w → v ≡ w
some-one entry v w e f = cc

pub word-one : (v w : Word) → word_text v ≡ word_text w → v ≡ w
word-one v w e =
    let index = word_index (word_text w) in
    some-one (get_or TABLE index None) v w (held-at (word_text w) index v refl e) (held w)
