-- The number of parts, by their plain trees.
use Rattle.std.proofs.Common.{◌≡◌, true, List, [], ◌∷◌, length, get_or, map, refl, arith}
use Rattle.rl_syntax.specs.Shapes.{is_one, is_two, is_three, is_four, is_six}
use Rattle.rl_syntax.specs.Syntax.{End, Then, pieces_of, syntax}
use Rattle.rl_syntax.specs.declared.numbered.Numbered.{Numbered}

pub one_count : (ps : List Numbered) → is_one (pieces_of (map syntax ps)) ≡ true → length ps ≡ 1
one_count (a ∷ []) h = refl
one_count [] h = absurd (cc)
one_count (a ∷ b ∷ ps) h = absurd (cc)

pub two_count : (ps : List Numbered) → is_two (pieces_of (map syntax ps)) ≡ true → length ps ≡ 2
two_count (a ∷ b ∷ []) h = refl
two_count [] h = absurd (cc)
two_count (a ∷ []) h = absurd (cc)
two_count (a ∷ b ∷ c ∷ ps) h = absurd (cc)

pub three_count : (ps : List Numbered) → is_three (pieces_of (map syntax ps)) ≡ true → length ps ≡ 3
three_count (a ∷ b ∷ c ∷ []) h = refl
three_count [] h = absurd (cc)
three_count (a ∷ []) h = absurd (cc)
three_count (a ∷ b ∷ []) h = absurd (cc)
three_count (a ∷ b ∷ c ∷ d ∷ ps) h = absurd (cc)

pub four_count : (ps : List Numbered) → is_four (pieces_of (map syntax ps)) ≡ true → length ps ≡ 4
four_count (a ∷ b ∷ c ∷ d ∷ []) h = refl
four_count [] h = absurd (cc)
four_count (a ∷ []) h = absurd (cc)
four_count (a ∷ b ∷ []) h = absurd (cc)
four_count (a ∷ b ∷ c ∷ []) h = absurd (cc)
four_count (a ∷ b ∷ c ∷ d ∷ e ∷ ps) h = absurd (cc)

pub six_count : (ps : List Numbered) → is_six (pieces_of (map syntax ps)) ≡ true → length ps ≡ 6
six_count (a ∷ b ∷ c ∷ d ∷ e ∷ f ∷ []) h = refl
six_count [] h = absurd (cc)
six_count (a ∷ []) h = absurd (cc)
six_count (a ∷ b ∷ []) h = absurd (cc)
six_count (a ∷ b ∷ c ∷ []) h = absurd (cc)
six_count (a ∷ b ∷ c ∷ d ∷ []) h = absurd (cc)
six_count (a ∷ b ∷ c ∷ d ∷ e ∷ []) h = absurd (cc)
six_count (a ∷ b ∷ c ∷ d ∷ e ∷ f ∷ g ∷ ps) h = absurd (cc)

-- The parts by their indices.
pub one_of : (parts : List Numbered) (a : Numbered) → length parts ≡ 1 → a ≡ get_or parts 0 a → pieces_of (map syntax parts) ≡ Then (syntax a) End
one_of [] a count first = absurd (omega arith)
one_of (x ∷ []) a count first = rw first refl
one_of (x ∷ y ∷ parts) a count first = absurd (omega arith)

pub two_of : (parts : List Numbered) (a b : Numbered) → length parts ≡ 2 → a ≡ get_or parts 0 a → b ≡ get_or parts 1 b → pieces_of (map syntax parts) ≡ Then (syntax a) (Then (syntax b) End)
two_of [] a b count first second = absurd (omega arith)
two_of (x ∷ []) a b count first second = absurd (omega arith)
two_of (x ∷ y ∷ []) a b count first second = rw (first, second) refl
two_of (x ∷ y ∷ z ∷ parts) a b count first second = absurd (omega arith)

pub three_of : (parts : List Numbered) (a b c : Numbered) → length parts ≡ 3 → a ≡ get_or parts 0 a → b ≡ get_or parts 1 b → c ≡ get_or parts 2 c → pieces_of (map syntax parts) ≡ Then (syntax a) (Then (syntax b) (Then (syntax c) End))
three_of (x ∷ y ∷ z ∷ []) a b c count first second third = rw (first, second, third) refl
three_of _ a b c count first second third = absurd (omega arith)

pub four_of : (parts : List Numbered) (a b c d : Numbered) → length parts ≡ 4 → a ≡ get_or parts 0 a → b ≡ get_or parts 1 b → c ≡ get_or parts 2 c → d ≡ get_or parts 3 d → pieces_of (map syntax parts) ≡ Then (syntax a) (Then (syntax b) (Then (syntax c) (Then (syntax d) End)))
four_of (x ∷ y ∷ z ∷ w ∷ []) a b c d count first second third fourth = rw (first, second, third, fourth) refl
four_of _ a b c d count first second third fourth = absurd (omega arith)

pub six_of : (parts : List Numbered) (a b c d e f : Numbered) → length parts ≡ 6 → a ≡ get_or parts 0 a → b ≡ get_or parts 1 b → c ≡ get_or parts 2 c → d ≡ get_or parts 3 d → e ≡ get_or parts 4 e → f ≡ get_or parts 5 f → pieces_of (map syntax parts) ≡ Then (syntax a) (Then (syntax b) (Then (syntax c) (Then (syntax d) (Then (syntax e) (Then (syntax f) End)))))
six_of (u ∷ v ∷ w ∷ x ∷ y ∷ z ∷ []) a b c d e f count first second third fourth fifth sixth = rw (first, second, third, fourth, fifth, sixth) refl
six_of _ a b c d e f count first second third fourth fifth sixth = absurd (omega arith)

pub ruleset counts = (one_count, two_count, three_count, four_count, six_count)
