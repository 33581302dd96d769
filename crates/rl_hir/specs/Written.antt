-- Texts that a writer of listings extends, and the words of their nodes.
use Rattle.std.specs.Prelude.{◌≡◌, ℕ, List, ◌++◌}
use Rattle.rl_text.specs.Notation.{Tree, Parts, IsWord, IsWritable, AreWritable, spelling}
use Rattle.rl_text.specs.Spaced.{spaced}
pub use Rattle.rl_hir.specs.ValueWords.{form_word, value_word}

-- `word` is `wanted`, and the notation can write it as the word of a node.
pub record IsWordOf (wanted word : List ℕ) : Type 0 where
  pub same : word ≡ wanted
  pub writable : IsWord word

-- `new` is `old` followed by the spelling of `tree`, which the notation can write.
pub record IsListed (old new : List ℕ) (tree : Tree) : Type 0 where
  pub written : new ≡ old ++ spelling tree
  pub writable : IsWritable tree

-- `new` is `old` followed by `parts`, each behind a space, and the notation can write them.
pub record AreListed (old new : List ℕ) (parts : Parts) : Type 0 where
  pub written : new ≡ old ++ spaced parts
  pub writable : AreWritable parts
