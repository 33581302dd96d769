-- Parts of a statement are smaller than all its parts together.
use Rattle.std.proofs.Common.{◌≡◌, ◌<◌, ℕ, false, Some, List, ap, arith}
use Rattle.rl_dead.proofs.Pairs.{first_of, second_of}
use Rattle.rl_dead.specs.Parts.{For, body_of_each, both, case_statements, for_parts, labeled_of, last_two, only_list, second_list}
use Rattle.rl_dead.specs.Parts.{second_of_two, third_of_three, try_parts}
use Rattle.rl_syntax.specs.Sizes.{size, size_of}
use Rattle.rl_syntax.specs.Syntax.{Syntax, Node, Listed, Said, Flag, Pieces, End, Then}
use Rattle.rl_syntax.specs.declared.word.Word.TheVariants as word

pub only_list_smaller : (parts items : Pieces) → Some items ≡ only_list parts → size_of items < size_of parts
only_list_smaller (Then (Listed xs) End) items is = let same : items ≡ xs = cc in omega (arith, ap size_of same)
only_list_smaller _ items is = absurd (cc)

pub second_list_smaller : (parts items : Pieces) → Some items ≡ second_list parts → size_of items < size_of parts
second_list_smaller (Then a (Then (Listed xs) End)) items is = let same : items ≡ xs = cc in omega (arith, ap size_of same)
second_list_smaller _ items is = absurd (cc)

pub both_smaller : (parts : Pieces) (a b : Syntax) → Some (a, b) ≡ both parts → size a < size_of parts
both_smaller (Then x (Then y End)) a b is = let same : a ≡ x = first_of (a, b) (x, y) is in omega (arith, ap size same)
both_smaller _ a b is = absurd (cc)

pub consequent_smaller : (parts : Pieces) (a b : Syntax) → Some (a, b) ≡ last_two parts → size a < size_of parts
consequent_smaller (Then c (Then x (Then y End))) a b is = let same : a ≡ x = first_of (a, b) (x, y) is in omega (arith, ap size same)
consequent_smaller _ a b is = absurd (cc)

pub alternate_smaller : (parts : Pieces) (a b : Syntax) → Some (a, b) ≡ last_two parts → size b < size_of parts
alternate_smaller (Then c (Then x (Then y End))) a b is = let same : b ≡ y = second_of (a, b) (x, y) is in omega (arith, ap size same)
alternate_smaller _ a b is = absurd (cc)

pub second_smaller : (parts : Pieces) (b : Syntax) → Some b ≡ second_of_two parts → size b < size_of parts
second_smaller (Then x (Then y End)) b is = let same : b ≡ y = cc in omega (arith, ap size same)
second_smaller _ b is = absurd (cc)

pub third_smaller : (parts : Pieces) (b : Syntax) → Some b ≡ third_of_three parts → size b < size_of parts
third_smaller (Then x (Then y (Then z End))) b is = let same : b ≡ z = cc in omega (arith, ap size same)
third_smaller _ b is = absurd (cc)

pub each_smaller : (parts : Pieces) (b : Syntax) → Some b ≡ body_of_each parts → size b < size_of parts
each_smaller (Then (Flag false) (Then x (Then y (Then z End)))) b is = let same : b ≡ z = cc in omega (arith, ap size same)
each_smaller _ b is = absurd (cc)

pub for_smaller : (parts : Pieces) (p : For) → Some p ≡ for_parts parts → size p.body < size_of parts
for_smaller (Then a (Then b (Then c (Then d End)))) p is =
    let same : p ≡ record { init = a; condition = b; update = c; body = d } = cc in omega (arith, ap (λ (q : For). size q.body) same)
for_smaller _ p is = absurd (cc)

pub labeled_smaller : (parts : Pieces) (label : List ℕ) (b : Syntax) → Some (label, b) ≡ labeled_of parts → size b < size_of parts
labeled_smaller (Then (Said x) (Then y End)) label b is = let same : b ≡ y = second_of (label, b) (x, y) is in omega (arith, ap size same)
labeled_smaller _ label b is = absurd (cc)

pub case_smaller : (c : Syntax) (items : Pieces) → Some items ≡ case_statements c → size_of items < size c
case_smaller (Node at word.Case (Then condition (Then (Listed xs) End))) items is = let same : items ≡ xs = cc in omega (arith, ap size_of same)
case_smaller _ items is = absurd (cc)

pub block_smaller : (parts : Pieces) (a b c : Syntax) → Some (a, (b, c)) ≡ try_parts parts → size a < size_of parts
block_smaller (Then x (Then (Node at word.Catch (Then param (Then z End))) (Then finalizer End))) a b c is =
    let same : a ≡ x = first_of (a, (b, c)) (x, (Node at word.Catch (Then param (Then z End)), z)) is in omega (arith, ap size same)
block_smaller (Then x (Then h (Then f (Then g rest)))) a b c is = absurd (cc)
block_smaller (Then x (Then h End)) a b c is = absurd (cc)
block_smaller (Then x End) a b c is = absurd (cc)
block_smaller End a b c is = absurd (cc)
block_smaller _ a b c is = absurd (cc)

pub handler_smaller : (parts : Pieces) (a b c : Syntax) → Some (a, (b, c)) ≡ try_parts parts → size c < size_of parts
handler_smaller (Then x (Then (Node at word.Catch (Then param (Then z End))) (Then finalizer End))) a b c is =
    let same : c ≡ z =
    ap (λ (r : Syntax × Syntax). r.1) (second_of (a, (b, c)) (x, (Node at word.Catch (Then param (Then z End)), z)) is) in
    omega (arith, ap size same)
handler_smaller (Then x (Then h (Then f (Then g rest)))) a b c is = absurd (cc)
handler_smaller (Then x (Then h End)) a b c is = absurd (cc)
handler_smaller (Then x End) a b c is = absurd (cc)
handler_smaller End a b c is = absurd (cc)
handler_smaller _ a b c is = absurd (cc)

pub ruleset branches_smaller = (consequent_smaller, alternate_smaller)

pub ruleset tries_smaller = (block_smaller, handler_smaller)
