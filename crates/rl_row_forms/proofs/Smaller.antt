-- Parts of a node are smaller than all its parts together.
use Rattle.std.proofs.Common.{◌≡◌, ◌<◌, ℕ, List, Some, ap, arith}
use Rattle.rl_code.specs.Parts.{second}
use Rattle.rl_code.proofs.Smaller.{unpacked}
use Rattle.rl_row_forms.specs.Shaped.{first_two, said_pair}
use Rattle.rl_syntax.specs.Sizes.{size, size_of}
use Rattle.rl_syntax.specs.Syntax.{Syntax, Said, Pieces, End, Then}

pub only_smaller : (ps : Pieces) (a : Syntax) → ps ≡ Then a End → size a < size_of ps
only_smaller ps a is = omega (arith, ap size_of is)

pub pair_smaller : (ps : Pieces) (text : List ℕ) (b : Syntax) → Some (text, b) ≡ said_pair ps → size b < size_of ps
pair_smaller (Then (Said t) (Then c End)) text b is =
    let same = ap (λ (p : List ℕ × Syntax). p.1) (unpacked {X = List ℕ × Syntax} (text, b) (t, c) is) in omega (arith, ap size same)
pair_smaller _ text b is = absurd (cc)

pub two_smaller : (ps : Pieces) (a b : Syntax) → Some (a, b) ≡ first_two ps → size b < size_of ps
two_smaller (Then c (Then d parts)) a b is =
    let same = ap (λ (p : Syntax × Syntax). p.1) (unpacked {X = Syntax × Syntax} (a, b) (c, d) is) in omega (arith, ap size same)
two_smaller _ a b is = absurd (cc)

pub second_smaller : (ps : Pieces) (b : Syntax) → Some b ≡ second ps → size b < size_of ps
second_smaller (Then c (Then d parts)) b is = let same : b ≡ d = cc in omega (arith, ap size same)
second_smaller _ b is = absurd (cc)

pub ruleset smaller = (only_smaller, pair_smaller, two_smaller, second_smaller)
