-- The marked function of a unit within the limits is a small tree, so its result has a listing in the notation.
use Rattle.std.proofs.Common.{◌≡◌, ℕ, suc, ◌+◌, ◌<◌, ◌≤◌, ◌^◌, ◌++◌, inl, inr, Some, List, [], ◌∷◌, All, length, length-append, map, lit<, refl, ap, subst, sym, arith}
use Rattle.rl_text.specs.Notation as notation
use Rattle.rl_text.specs.Notation.{AreWritable, IsWritable, spelled_on, spelling}
use Rattle.rl_text.specs.Raw.{parts_of}
use Rattle.rl_syntax.specs.Syntax.{Syntax, Node, Listed, Said, Count, Flag, Absent, Pieces, End, Then, IsPlaced, ArePlaced, behind, inside, next_byte, outset, plain, plain_parts, width}
use Rattle.rl_syntax.specs.declared.numbered.Position.{Position}
use Rattle.rl_ast.specs.Marked.{first, marked_functions}
use Rattle.rl_ast.proofs.MarkedFunctions.{Inside, InsideOf, first_found}
use Rattle.rl_ast.specs.Units.{Spells}
use Rattle.rl_syntax.specs.Words.{word_text}
use Rattle.rl_hir.specs.Listing.{lowered, function, identifier, inner, pair}
use Rattle.rl_hir.specs.declared.function.InnerFunction.{InnerFunction}
use Rattle.rl_hir.specs.declared.function.Lowered.{Lowered}
use Rattle.rl_lower.specs.Rooms.{AreSmallTrees, HasSmallSpans, HaveSmallSpans, IsSmallTree}

some_left : (close : ℕ) (parts : Pieces) → 0 < length (spelled_on close (plain_parts parts))
some_left close End = omega arith
some_left close (Then piece pieces) = omega arith

mutual
  -- A tree that stands in a short text is small.
  placed_small : (s : Syntax) (from : Position) → IsPlaced from s → from.byte + width s < 2 ^ 32 → HasSmallSpans s
  placed_small (Node at w parts) from placed short =
      let inner = spelled_on 41 (plain_parts parts) in
      let long : length (word_text w ++ inner) ≡ length (word_text w) + length inner = length-append (word_text w) inner in (
        (omega (arith, placed.0.start, short), omega (arith, placed.0.end, short)),
        placed_small_parts 41 parts (inside from w) placed.1 (omega (arith, long, short)),
      )
  placed_small (Listed End) from placed short = tt
  placed_small (Listed (Then piece pieces)) from placed short =
      let later = spelled_on 93 (plain_parts pieces) in
      let both : length (spelling (plain piece) ++ later) ≡ width piece + length later = length-append (spelling (plain piece)) later in
      placed_small_parts 93 (Then piece pieces) from placed (omega (arith, both, short))
  placed_small (Said text) from placed short = tt
  placed_small (Count number) from placed short = tt
  placed_small (Flag flag) from placed short = tt
  placed_small Absent from placed short = tt

  placed_small_parts : (close : ℕ) (parts : Pieces) (from : Position) → ArePlaced from parts
      → from.byte + length (spelled_on close (plain_parts parts)) < 2 ^ 32 + 1 → HaveSmallSpans parts
  placed_small_parts close End from placed short = tt
  placed_small_parts close (Then piece pieces) from placed short =
      let later = spelled_on close (plain_parts pieces) in
      let both : length (spelling (plain piece) ++ later) ≡ width piece + length later = length-append (spelling (plain piece)) later in
      let last : 0 < length later = some_left close pieces in (
        placed_small piece (next_byte from) placed.0 (omega (arith, both, last, short)),
        placed_small_parts close pieces (behind (next_byte from) piece) placed.1 (omega (arith, both, short)),
      )

mutual
  -- A tree inside a small one is small.
  inside_small : (t f : Syntax) → IsSmallTree t → Inside f t → IsSmallTree f
  inside_small (Node at w parts) f small (inl same) = subst IsSmallTree (sym same) small
  inside_small (Node at w parts) f small (inr more) = inside_small_of parts f (small.0.1, small.1.1) more
  inside_small (Listed parts) f small i = inside_small_of parts f small i
  inside_small (Said text) f small i = absurd i
  inside_small (Count number) f small i = absurd i
  inside_small (Flag flag) f small i = absurd i
  inside_small Absent f small i = absurd i

  inside_small_of : (ps : Pieces) (f : Syntax) → AreSmallTrees ps → InsideOf f ps → IsSmallTree f
  inside_small_of End f small i = absurd i
  inside_small_of (Then p ps) f small (inl here) = inside_small p f (small.0.0, small.1.0) here
  inside_small_of (Then p ps) f small (inr there) = inside_small_of ps f (small.0.1, small.1.1) there

-- The marked function of a unit within the limits is small.
pub unit_small : (bytes : List ℕ) (u f : Syntax) → Spells bytes u → length bytes ≤ 2 ^ 24 → first (marked_functions u) ≡ Some f
    → IsSmallTree f
unit_small bytes u f spells short found =
    let long : length bytes ≡ width u = ap length spells.spelled.spelled in
    inside_small u f (placed_small u outset spells.numbers (omega (arith, long, short)), spells.spelled.writable) (first_found u f found).0

-- A list whose items have writable trees has one.
pub all_writable : {X : Type 0} (tree : X → notation.Tree) (items : List X) → All (λ x. IsWritable (tree x)) items
    → AreWritable (parts_of (map tree items))
all_writable tree [] all = tt
all_writable tree (x ∷ items) all = (all 0 x (omega arith), all_writable tree items (λ i d within. all (suc i) d (omega (arith, within))))

none_writable : (items : List InnerFunction) → items ≡ [] → AreWritable (parts_of (map inner items))
none_writable items none = subst (λ (l : List InnerFunction). AreWritable (parts_of (map inner l))) (sym none) tt

-- A result whose parts are writable.
pub result_writable : (l : Lowered) → IsWritable (function l.function) → l.inner ≡ [] → All (λ i. IsWritable (identifier i)) l.identifiers
    → AreWritable (parts_of (map pair l.pairs)) → IsWritable (lowered l)
unfolding lowered
result_writable l graph none identifiers pairs =
    ((lit< tt, refl), (graph, (none_writable l.inner none, (all_writable identifier l.identifiers identifiers, (pairs, tt)))))
