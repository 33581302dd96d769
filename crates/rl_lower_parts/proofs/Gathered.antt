-- Lists of pieces, each with the pieces of what it was lowered from.
use Rattle.std.proofs.Common.{◌≡◌, ◌++◌, List, [], ◌∷◌, append_assoc, refl, sym, ap, ◌∙◌}
use Rattle.rl_hir.specs.Pieces.{Piece, gathered}

pub gathered_more : {X : Type 0} (f : X → List Piece) (items more : List X) → gathered f (items ++ more) ≡ gathered f items ++ gathered f more
gathered_more f [] more = refl
gathered_more f (x ∷ items) more =
    ap (λ (l : List Piece). f x ++ l) (gathered_more f items more) ∙ sym (append_assoc (f x) (gathered f items) (gathered f more))
