-- Rows of parts, with the brackets that were written around them.
use Rattle.std.proofs.Common.{◌≡◌, ℕ, ◌+◌, false, List, [], ◌∷◌, ◌++◌, length, take, drop, refl, sym, ap, ◌∙◌, append_assoc}
use Rattle.std.proofs.Math.Seq.{take-append_seam, drop-append-add}
use Rattle.rl_text.specs.Notation.{Tree, Node, Listed, Parts, End, Then, AreWritable, spelling, spelled_on}
use Rattle.rl_text.specs.Spaced.{spaced, separated, join}

spelled_on-spaced : (close : ℕ) (parts : Parts) → spelled_on close parts ≡ spaced parts ++ close ∷ []
spelled_on-spaced close End = refl
spelled_on-spaced close (Then first rest) =
    ap (λ (l : List ℕ). 32 ∷ (spelling first ++ l)) (spelled_on-spaced close rest) ∙ ap (λ (l : List ℕ). 32 ∷ l) (sym (append_assoc (spelling first) (spaced rest) (close ∷ [])))

spelling-Listed-separated : (parts : Parts) → spelling (Listed parts) ≡ 91 ∷ (separated false parts ++ 93 ∷ [])
spelling-Listed-separated End = refl
spelling-Listed-separated (Then first rest) =
    ap (λ (l : List ℕ). 91 ∷ (spelling first ++ l)) (spelled_on-spaced 93 rest) ∙ ap (λ (l : List ℕ). 91 ∷ l) (sym (append_assoc (spelling first) (spaced rest) (93 ∷ [])))

-- A node: its bracket, its word, its parts, its bracket.
pub node_written : (out word : List ℕ) (parts : Parts) → ((out ++ 40 ∷ []) ++ word ++ spaced parts) ++ 41 ∷ [] ≡ out ++ spelling (Node word parts)
node_written out word parts = simp append_assoc (ap (λ (l : List ℕ). out ++ 40 ∷ (word ++ l)) (sym (spelled_on-spaced 41 parts)))

-- A list of items of one type.
pub items_written : (out : List ℕ) (parts : Parts) → ((out ++ 91 ∷ []) ++ separated false parts) ++ 93 ∷ [] ≡ out ++ spelling (Listed parts)
items_written out parts = simp append_assoc (ap (λ (l : List ℕ). out ++ l) (sym (spelling-Listed-separated parts)))

-- A list of a first part and others.
pub list_written : (out : List ℕ) (first : Tree) (rest : Parts) → (((out ++ 91 ∷ []) ++ spelling first) ++ spaced rest) ++ 93 ∷ [] ≡ out ++ spelling (Listed (Then first rest))
list_written out first rest = simp append_assoc (ap (λ (l : List ℕ). out ++ 91 ∷ (spelling first ++ l)) (sym (spelled_on-spaced 93 rest)))

drop-spaced : (parts : Parts) → drop 1 (spaced parts) ≡ separated false parts
drop-spaced End = refl
drop-spaced (Then first rest) = refl

-- Parts behind spaces, with brackets put around them: `[` stands in the first space.
pub bracketed : (out : List ℕ) (parts : Parts) → take (length out) (out ++ spaced parts) ++ 91 ∷ (drop (length out + 1) (out ++ spaced parts) ++ 93 ∷ []) ≡ out ++ spelling (Listed parts)
bracketed out parts = rw (take-append_seam out (spaced parts), drop-append-add out (spaced parts) 1, drop-spaced parts) (ap (λ (l : List ℕ). out ++ l) (sym (spelling-Listed-separated parts)))

spaced-join : (a b : Parts) → spaced (join a b) ≡ spaced a ++ spaced b
spaced-join End b = refl
spaced-join (Then first rest) b =
    ap (λ (l : List ℕ). 32 ∷ (spelling first ++ l)) (spaced-join rest b) ∙ ap (λ (l : List ℕ). 32 ∷ l) (sym (append_assoc (spelling first) (spaced rest) (spaced b)))

-- Two rows, one behind the other.
pub both_written : (out : List ℕ) (a b : Parts) → (out ++ spaced a) ++ spaced b ≡ out ++ spaced (join a b)
both_written out a b = append_assoc out (spaced a) (spaced b) ∙ ap (λ (l : List ℕ). out ++ l) (sym (spaced-join a b))

-- The notation has two rows, one behind the other, if it has both.
pub both_writable : (a b : Parts) → AreWritable a → AreWritable b → AreWritable (join a b)
both_writable End b first second = second
both_writable (Then part rest) b first second = (first.0, both_writable rest b first.1 second)
