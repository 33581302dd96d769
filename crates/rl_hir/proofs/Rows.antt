-- Rows of pieces, one behind the other.
use Rattle.std.proofs.Common.{◌≡◌, ℕ, ◌+◌, ◌<◌, length, get_or, drop, List, [], ◌∷◌, ◌++◌, map, codes, refl, ap, sym, subst, ◌∙◌}
use Rattle.std.proofs.lemmas.List.{drop_more}
use Rattle.rl_text.proofs.Tails.{both_written, both_writable}
use Rattle.rl_text.specs.Notation.{Tree, Then, AreWritable}
use Rattle.rl_text.specs.Raw.{parts_of}
use Rattle.rl_text.specs.Spaced.{spaced, join}
use Rattle.rl_hir.specs.Pieces.{Use, Piece, Says, Names, Gives, Spreads, Takes, texts, operands, operand_tree, row_parts, gathered}
use Rattle.rl_hir.specs.Trees.{said}
use Rattle.rl_hir.specs.Written.{AreListed}
use Rattle.rl_hir.specs.declared.pieces.Row.{Row}
use Rattle.rl_hir.specs.declared.pieces.Row.TheVariants as rows

texts-append : (first second : List Piece) → texts (first ++ second) ≡ texts first ++ texts second
texts-append [] second = refl
texts-append (Says text ∷ first) second = ap (λ rest. text ∷ rest) (texts-append first second)
texts-append (Names name ∷ first) second = ap (λ rest. (46 ∷ name) ∷ rest) (texts-append first second)
texts-append (Gives place ∷ first) second = ap (λ rest. codes "place" ∷ rest) (texts-append first second)
texts-append (Spreads place ∷ first) second = ap (λ rest. codes "spread" ∷ rest) (texts-append first second)
texts-append (Takes operand ∷ first) second = texts-append first second

operands-append : (first second : List Piece) → operands (first ++ second) ≡ operands first ++ operands second
operands-append [] second = refl
operands-append (Says text ∷ first) second = operands-append first second
operands-append (Names name ∷ first) second = operands-append first second
operands-append (Gives place ∷ first) second = ap (λ rest. Use place ∷ rest) (operands-append first second)
operands-append (Spreads place ∷ first) second = ap (λ rest. Use place ∷ rest) (operands-append first second)
operands-append (Takes operand ∷ first) second = ap (λ rest. operand ∷ rest) (operands-append first second)

parts-append : {X : Type 0} (tree : X → Tree) (first second : List X) → parts_of (map tree (first ++ second)) ≡ join (parts_of (map tree first)) (parts_of (map tree second))
parts-append tree [] second = refl
parts-append tree (x ∷ first) second = ap (λ rest. Then (tree x) rest) (parts-append tree first second)

row-append : (row : Row) (first second : List Piece) → row_parts row (first ++ second) ≡ join (row_parts row first) (row_parts row second)
row-append rows.Texts first second = ap (λ l. parts_of (map said l)) (texts-append first second) ∙ parts-append said (texts first) (texts second)
row-append rows.Operands first second = ap (λ l. parts_of (map operand_tree l)) (operands-append first second) ∙ parts-append operand_tree (operands first) (operands second)

-- The row of two lists of pieces, one behind the other.
row_written : (out : List ℕ) (row : Row) (first second : List Piece) → (out ++ spaced (row_parts row first)) ++ spaced (row_parts row second) ≡ out ++ spaced (row_parts row (first ++ second))
row_written out row first second = both_written out (row_parts row first) (row_parts row second) ∙ ap (λ parts. out ++ spaced parts) (sym (row-append row first second))

row_writable : (row : Row) (first second : List Piece) → AreWritable (row_parts row first) → AreWritable (row_parts row second) → AreWritable (row_parts row (first ++ second))
row_writable row first second a b = subst AreWritable (sym (row-append row first second)) (both_writable (row_parts row first) (row_parts row second) a b)

-- Two rows, one behind the other.
pub row_listed : (row : Row) (first second : List Piece) (old between new : List ℕ) → AreListed old between (row_parts row first) → AreListed between new (row_parts row second) → AreListed old new (row_parts row (first ++ second))
row_listed row first second old between new a b = record {
  written = b.written ∙ ap (λ l. l ++ spaced (row_parts row second)) a.written ∙ row_written old row first second;
  writable = row_writable row first second a.writable b.writable;
}

gathered-from : {X : Type 0} (pieces : X → List Piece) (items : List X) (index : ℕ) (item : X) → index < length items → item ≡ get_or items index item
    → gathered pieces (drop index items) ≡ pieces item ++ gathered pieces (drop (index + 1) items)
gathered-from pieces items index item below is = ap (gathered pieces) (drop_more items index item below ∙ ap (λ x. x ∷ drop (index + 1) items) (sym is))

-- Another item was written.
pub rows_step : {X : Type 0} (pieces : X → List Piece) (row : Row) (items : List X) (index : ℕ) (item : X) (before new : List ℕ) → index < length items → item ≡ get_or items index item
    → new ≡ before ++ spaced (row_parts row (pieces item))
    → new ++ spaced (row_parts row (gathered pieces (drop (index + 1) items))) ≡ before ++ spaced (row_parts row (gathered pieces (drop index items)))
rows_step pieces row items index item before new below is written =
    ap (λ l. l ++ spaced (row_parts row (gathered pieces (drop (index + 1) items)))) written
    ∙ row_written before row (pieces item) (gathered pieces (drop (index + 1) items))
    ∙ ap (λ l. before ++ spaced (row_parts row l)) (sym (gathered-from pieces items index item below is))

pub rows_step_writable : {X : Type 0} (pieces : X → List Piece) (row : Row) (items : List X) (index : ℕ) (item : X) → index < length items → item ≡ get_or items index item
    → AreWritable (row_parts row (pieces item)) → AreWritable (row_parts row (gathered pieces (drop (index + 1) items))) → AreWritable (row_parts row (gathered pieces (drop index items)))
rows_step_writable pieces row items index item below is first rest =
    subst (λ l. AreWritable (row_parts row l)) (sym (gathered-from pieces items index item below is)) (row_writable row (pieces item) (gathered pieces (drop (index + 1) items)) first rest)
