-- A list in two parts, by how many items stand in the first.
use Rattle.std.proofs.Common.{◌≡◌, ◌≤◌, ◌<◌, [], ◌∷◌, ℕ, zero, suc, List, length, map, take, drop, sym, subst, arith}
use Rattle.std.proofs.Math.ListN.{drop_of_length-le}
use Rattle.std.proofs.lemmas.List.{take_all}
use Rattle.rl_syntax.specs.Sizes.{size_of}
use Rattle.rl_syntax.specs.Syntax.{pieces_of, syntax}
use Rattle.rl_syntax.specs.declared.numbered.Numbered.{Numbered}

pub split_past : {X : Type 0} (count : ℕ) (xs : List X) → length xs < count → (xs ≡ take count xs) × ([] ≡ drop count xs)
split_past count xs past = (sym (take_all count xs (omega (arith, past))), sym (drop_of_length-le xs (omega (arith, past))))

size_taken : (count : ℕ) (parts : List Numbered) → size_of (pieces_of (map syntax (take count parts))) ≤ size_of (pieces_of (map syntax parts))
size_taken zero parts = omega arith
size_taken (suc count) [] = omega arith
size_taken (suc count) (part ∷ parts) = let less = size_taken count parts in omega (arith, less)

size_dropped : (count : ℕ) (parts : List Numbered) → size_of (pieces_of (map syntax (drop count parts))) ≤ size_of (pieces_of (map syntax parts))
size_dropped zero parts = omega arith
size_dropped (suc count) [] = omega arith
size_dropped (suc count) (part ∷ parts) = let less = size_dropped count parts in omega (arith, less)

pub taken_less : (count : ℕ) (parts ahead : List Numbered) → ahead ≡ take count parts → size_of (pieces_of (map syntax ahead)) ≤ size_of (pieces_of (map syntax parts))
taken_less count parts ahead is = subst (λ l. size_of (pieces_of (map syntax l)) ≤ size_of (pieces_of (map syntax parts))) (sym is) (size_taken count parts)

pub dropped_less : (count : ℕ) (parts behind : List Numbered) → behind ≡ drop count parts → size_of (pieces_of (map syntax behind)) ≤ size_of (pieces_of (map syntax parts))
dropped_less count parts behind is = subst (λ l. size_of (pieces_of (map syntax l)) ≤ size_of (pieces_of (map syntax parts))) (sym is) (size_dropped count parts)
