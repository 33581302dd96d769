-- Sums of what a table had and of what parts add to it.
use Rattle.std.proofs.Common.{◌≡◌, ℕ, ◌+◌, arith}

pub none_more : (n : ℕ) → n ≡ 0 → 0 + n ≡ 0
none_more n none = omega (arith, none)

pub added_behind : (a b c n : ℕ) → b ≡ a + n → c ≡ b + 0 → c ≡ a + n
added_behind a b c n first second = omega (arith, first, second)

pub added_leaf : (a b n : ℕ) → n ≡ 0 → b ≡ a + 0 → b ≡ a + n
added_leaf a b n none is = omega (arith, none, is)

pub added_inner : (a b n own : ℕ) → own ≡ 0 → b ≡ a + n → b ≡ a + (own + (n + 0))
added_inner a b n own none is = omega (arith, none, is)

pub added_declared : (a b n : ℕ) → b ≡ a + n → b ≡ a + (0 + (0 + (n + 0)))
added_declared a b n is = omega (arith, is)

pub added_row : (a b c n m : ℕ) → b ≡ a + n → c ≡ b + m → c ≡ a + (n + m)
added_row a b c n m first second = omega (arith, first, second)

pub added_form : (a b c fields parts own one stores : ℕ) → fields ≡ parts → one ≡ own → stores ≡ 0 → b ≡ a + parts → c ≡ b + one
    → c ≡ a + ((own + stores) + fields)
added_form a b c fields parts own one stores same is none first second = omega (arith, same, is, none, first, second)

pub added_same : (a b n m : ℕ) → m ≡ n → b ≡ a + n → b ≡ a + m
added_same a b n m same is = omega (arith, same, is)

pub added_four : (a b c d e : ℕ) → b ≡ a + 0 → c ≡ b + 0 → d ≡ c + 0 → e ≡ d + 0 → e ≡ a + 0
added_four a b c d e p q r s = omega (arith, p, q, r, s)

-- A store to a name, behind the value of `=` and behind the parts of a compound assignment, of which the variable is loaded again.

pub added_stored : (a b own one : ℕ) → one ≡ own → b ≡ a + one → b ≡ a + (own + 0)
added_stored a b own one is first = omega (arith, is, first)

pub added_assigned : (a b c whole own one right : ℕ) → whole ≡ own + right → one ≡ own → b ≡ a + right → c ≡ b + one → c ≡ a + whole
added_assigned a b c whole own one right same is p q = omega (arith, same, is, p, q)

pub added_compound : (a b c d e whole own one right : ℕ) → whole ≡ own + right → one ≡ own → b ≡ a + 0 → c ≡ b + right → d ≡ c + 0
    → e ≡ d + one → e ≡ a + whole
added_compound a b c d e whole own one right same is p q r s = omega (arith, same, is, p, q, r, s)

-- The parts of an assignment to a property, in the order of `=` and in that of a compound one.

pub added_member : (a b c d whole parts right : ℕ) → whole ≡ parts + right → b ≡ a + right → c ≡ b + parts → d ≡ c + 0 → d ≡ a + whole
added_member a b c d whole parts right same p q r = omega (arith, same, p, q, r)

pub added_compound_member : (a b c d e f whole parts right : ℕ) → whole ≡ parts + right → b ≡ a + parts → c ≡ b + 0 → d ≡ c + right
    → e ≡ d + 0 → f ≡ e + 0 → f ≡ a + whole
added_compound_member a b c d e f whole parts right same p q r s t = omega (arith, same, p, q, r, s, t)

pub added_method : (a b c d e fields own one parts given : ℕ) → fields ≡ own + (parts + given) → one ≡ own → b ≡ a + parts → c ≡ b + 0
    → d ≡ c + given → e ≡ d + one → e ≡ a + fields
added_method a b c d e fields own one parts given whole is p q r s = omega (arith, whole, is, p, q, r, s)

pub added_computed : (a b c d key value more : ℕ) → b ≡ a + key → c ≡ b + value → d ≡ c + more
    → d ≡ a + ((0 + (0 + (key + (value + 0)))) + more)
added_computed a b c d key value more p q r = omega (arith, p, q, r)

pub added_initialized : (a b c d whole init more : ℕ) → whole ≡ init → b ≡ a + init → c ≡ b + 0 → d ≡ c + more → d ≡ a + (whole + more)
added_initialized a b c d whole init more same p q r = omega (arith, same, p, q, r)

pub added_two : (a b c d e f left right : ℕ) → b ≡ a + 0 → c ≡ b + right → d ≡ c + 0 → e ≡ d + left → f ≡ e + 0
    → f ≡ a + (0 + (0 + (left + (right + 0))))
added_two a b c d e f left right p q r s t = omega (arith, p, q, r, s, t)

pub added_three : (a b c d e f test consequent alternate : ℕ) → b ≡ a + consequent → c ≡ b + 0 → d ≡ c + alternate → e ≡ d + 0
    → f ≡ e + test → f ≡ a + (0 + (test + (consequent + (alternate + 0))))
added_three a b c d e f test consequent alternate p q r s t = omega (arith, p, q, r, s, t)

pub added_branch : (a b c test consequent : ℕ) → b ≡ a + consequent → c ≡ b + test → c ≡ a + (0 + (test + (consequent + (0 + 0))))
added_branch a b c test consequent p q = omega (arith, p, q)

pub added_branches : (a b c d test consequent alternate : ℕ) → b ≡ a + consequent → c ≡ b + alternate → d ≡ c + test
    → d ≡ a + (0 + (test + (consequent + (alternate + 0))))
added_branches a b c d test consequent alternate p q r = omega (arith, p, q, r)

pub added_loop : (a b c first second : ℕ) → b ≡ a + first → c ≡ b + second → c ≡ a + (0 + (second + (first + 0)))
added_loop a b c first second p q = omega (arith, p, q)

pub added_do : (a b c first second : ℕ) → b ≡ a + first → c ≡ b + second → c ≡ a + (0 + (first + (second + 0)))
added_do a b c first second p q = omega (arith, p, q)

pub added_for : (a b c d e init test update body : ℕ) → b ≡ a + init → c ≡ b + update → d ≡ c + body → e ≡ d + test
    → e ≡ a + (0 + (init + (test + (update + (body + 0)))))
added_for a b c d e init test update body p q r s = omega (arith, p, q, r, s)

pub added_plain_for : (a b c d init test body : ℕ) → b ≡ a + init → c ≡ b + body → d ≡ c + test
    → d ≡ a + (0 + (init + (test + (0 + (body + 0)))))
added_plain_for a b c d init test body p q r = omega (arith, p, q, r)

-- The store of a head counts with its loop.

pub added_rounds : (a b c d e own head right body : ℕ) → b ≡ a + body → c ≡ b + right → d ≡ c + 0 → e ≡ d + (own + head)
    → e ≡ a + ((own + 0) + (head + (right + (body + 0))))
added_rounds a b c d e own head right body p q r s = omega (arith, p, q, r, s)

pub added_iterated : (a b c d e f own head right body : ℕ) → b ≡ a + body → c ≡ b + right → d ≡ c + 0 → e ≡ d + 0 → f ≡ e + (own + head)
    → f ≡ a + ((own + 0) + (0 + (head + (right + (body + 0)))))
added_iterated a b c d e f own head right body p q r s t = omega (arith, p, q, r, s, t)

pub added_unstored : (a b own n : ℕ) → own ≡ 0 → b ≡ a + n → b ≡ a + (own + n)
added_unstored a b own n none is = omega (arith, none, is)

pub added_jump : (a n : ℕ) → n ≡ 0 → a ≡ a + (0 + (n + 0))
added_jump a n none = omega (arith, none)

pub added_labeled : (a b body : ℕ) → b ≡ a + body → b ≡ a + (0 + (0 + (body + 0)))
added_labeled a b body is = omega (arith, is)

pub added_body : (a b directives statements : ℕ) → directives ≡ 0 → b ≡ a + statements → b ≡ a + (0 + (directives + (statements + 0)))
added_body a b directives statements none is = omega (arith, none, is)

pub added_case : (a b c d test statements cases : ℕ) → b ≡ a + cases → c ≡ b + statements → d ≡ c + test
    → d ≡ a + ((0 + (test + (statements + 0))) + cases)
added_case a b c d test statements cases p q r = omega (arith, p, q, r)

pub added_try : (a b c block body : ℕ) → b ≡ a + body → c ≡ b + block → c ≡ a + (0 + (block + ((0 + (0 + (body + 0))) + (0 + 0))))
added_try a b c block body p q = omega (arith, p, q)

pub added_bound_try : (a b c d e block param body : ℕ) → param ≡ 0 → b ≡ a + 0 → c ≡ b + 0 → d ≡ c + body → e ≡ d + block
    → e ≡ a + (0 + (block + ((0 + (param + (body + 0))) + (0 + 0))))
added_bound_try a b c d e block param body none p q r s = omega (arith, none, p, q, r, s)

-- A link of a chain: it opens, and then come its object or callee, the parts behind that, the link's value, and its end.

pub added_link : (a b c d e f whole object parts : ℕ) → whole ≡ object + parts → b ≡ a + 0 → c ≡ b + object → d ≡ c + parts → e ≡ d + 0
    → f ≡ e + 0 → f ≡ a + whole
added_link a b c d e f whole object parts same p q r s t = omega (arith, same, p, q, r, s, t)

pub added_call_link : (a b c d e f whole own one callee given : ℕ) → whole ≡ own + (callee + given) → one ≡ own → b ≡ a + 0
    → c ≡ b + callee → d ≡ c + given → e ≡ d + one → f ≡ e + 0 → f ≡ a + whole
added_call_link a b c d e f whole own one callee given same is p q r s t = omega (arith, same, is, p, q, r, s, t)

pub added_opened : (a b c : ℕ) → b ≡ a + 0 → c ≡ b + 0 → c ≡ a + 0
added_opened a b c p q = omega (arith, p, q)

-- A part behind another, which count together.

pub added_both : (a b c first second whole : ℕ) → whole ≡ second + first → b ≡ a + first → c ≡ b + second → c ≡ a + whole
added_both a b c first second whole same p q = omega (arith, same, p, q)

-- A value is taken apart, and then come the parts that are left.
pub added_apart : (a b c n whole : ℕ) → whole ≡ n → b ≡ a + 0 → c ≡ b + n → c ≡ a + whole
added_apart a b c n whole same p q = omega (arith, same, p, q)

-- Parameters.

pub added_last : (a b n : ℕ) → b ≡ a + n → b ≡ a + (0 + n)
added_last a b n is = omega (arith, is)

pub added_plain : (a b whole more rest : ℕ) → whole ≡ 0 → b ≡ a + (more + rest) → b ≡ a + ((whole + more) + rest)
added_plain a b whole more rest none is = omega (arith, none, is)

pub added_param : (a b c first whole more rest : ℕ) → whole ≡ first → b ≡ a + first → c ≡ b + (more + rest)
    → c ≡ a + ((whole + more) + rest)
added_param a b c first whole more rest same p q = omega (arith, same, p, q)
