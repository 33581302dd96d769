-- Parts of a node are smaller than all its parts together.
use Rattle.std.proofs.Common.{◌≡◌, ◌<◌, Some, ap, arith}
use Rattle.rl_code.specs.Parts.{first, items_and_rest, only, third_of_three}
use Rattle.rl_code.specs.Roles.{part_at}
use Rattle.rl_code.specs.declared.role.Part.{Part}
use Rattle.rl_code.specs.declared.role.Part.TheVariants as part
use Rattle.rl_syntax.specs.Sizes.{size, size_of}
use Rattle.rl_syntax.specs.Syntax.{Syntax, Listed, Pieces, End, Then}

-- Two options that are the same have the same inside.
pub unpacked : {X : Type 0} (x y : X) → Some x ≡ Some y → x ≡ y
unpacked x y e = cc

pub items_smaller : (parts items : Pieces) (rest : Syntax) → Some (items, rest) ≡ items_and_rest parts → size_of items < size_of parts
items_smaller (Then (Listed is) (Then r End)) items rest e =
    let same = ap (λ (p : Pieces × Syntax). p.0) (unpacked {X = Pieces × Syntax} (items, rest) (is, r) e) in omega
    (arith, ap size_of same)
items_smaller _ items rest e = absurd (cc)

pub rest_smaller : (parts items : Pieces) (rest : Syntax) → Some (items, rest) ≡ items_and_rest parts → size rest < size_of parts
rest_smaller (Then (Listed is) (Then r End)) items rest e =
    let same = ap (λ (p : Pieces × Syntax). p.1) (unpacked {X = Pieces × Syntax} (items, rest) (is, r) e) in omega (arith, ap size same)
rest_smaller _ items rest e = absurd (cc)

pub first_smaller : (parts : Pieces) (t : Syntax) → Some t ≡ first parts → size t < size_of parts
first_smaller (Then a parts) t e = let same : t ≡ a = cc in omega (arith, ap size same)
first_smaller End t e = absurd (cc)

pub only_smaller : (parts : Pieces) (t : Syntax) → Some t ≡ only parts → size t < size_of parts
only_smaller (Then a End) t e = let same : t ≡ a = cc in omega (arith, ap size same)
only_smaller _ t e = absurd (cc)

pub third_smaller : (parts : Pieces) (t : Syntax) → Some t ≡ third_of_three parts → size t < size_of parts
third_smaller (Then a (Then b (Then c End))) t e = let same : t ≡ c = cc in omega (arith, ap size same)
third_smaller _ t e = absurd (cc)

pub part_smaller : (p : Part) (parts : Pieces) (t : Syntax) → Some t ≡ part_at p parts → size t < size_of parts
part_smaller part.First parts t e = first_smaller parts t e
part_smaller part.Last parts t e = third_smaller parts t e
part_smaller part.Only parts t e = only_smaller parts t e

pub ruleset smaller = (items_smaller, rest_smaller, part_smaller)
