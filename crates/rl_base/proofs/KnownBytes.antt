-- Bytes that are written and read in parts.
use Rattle.std.proofs.Common.{◌≡◌, ℕ, ◌+◌, List, ◌++◌, take, drop, ap, sym, ◌∙◌, append_assoc, Some, None, IfSome, length, ◌<◌, ◌≤◌, inl, inr, arith}
use Rattle.std.proofs.Math.Seq.{take-add, take-append-add}
use Rattle.std.proofs.lemmas.Bool.{cases_lt}
use Rattle.std.proofs.lemmas.List.{take_all, take_at, append-nil, take-take, take-append-le, length-take-le}
use Rattle.std.specs.declared.option.Option.{Option}
use Rattle.std.specs.Io.KnownBytes.{Appends, Consumes, IsAtEnd}

pub Appends-twice : (a b c : Option (List ℕ)) (xs ys : List ℕ) → Appends a b xs → Appends b c ys → Appends a c (xs ++ ys)
Appends-twice None b c xs ys p q = tt
Appends-twice (Some x) None c xs ys p q = absurd p
Appends-twice (Some x) (Some y) None xs ys p q = absurd q
Appends-twice (Some x) (Some y) (Some z) xs ys p q = q ∙ ap (λ t. t ++ ys) p ∙ append_assoc x xs ys

-- A prefix of `n` bytes and then one of `m` bytes of the rest are a prefix of `n + m` bytes.
pub Appends-twice_taken : (a b c : Option (List ℕ)) (bs : List ℕ) (n m : ℕ) → Appends a b (take n bs)
    → Appends b c (take m (drop n bs)) → Appends a c (take (n + m) bs)
Appends-twice_taken a b c bs n m p q = rw (take-add n m bs) (Appends-twice a b c _ _ p q)

pub Consumes-twice : (a b c : Option (List ℕ)) (xs ys : List ℕ) → Consumes a b xs → Consumes b c ys → Consumes a c (xs ++ ys)
Consumes-twice None b c xs ys p q = tt
Consumes-twice (Some x) None c xs ys p q = absurd p
Consumes-twice (Some x) (Some y) None xs ys p q = absurd q
Consumes-twice (Some x) (Some y) (Some z) xs ys p q = p ∙ ap (λ t. xs ++ t) q ∙ sym (append_assoc xs ys z)

-- A read into the room behind `filled` bytes leaves them, and `count` of the bytes that it wrote, at the front.
filled-part : (filled count len : ℕ) (old part behind rest : List ℕ) → filled ≤ length old → count ≤ length part → filled + count ≤ len
    → take (filled + count) (take len ((take filled old ++ (part ++ behind)) ++ rest)) ≡ take filled old ++ take count part
filled-part filled count len old part behind rest in_old in_part in_len =
    take-take (filled + count) len ((take filled old ++ (part ++ behind)) ++ rest) in_len
    ∙ ap (take (filled + count)) (append_assoc (take filled old) (part ++ behind) rest)
    ∙ ap (λ n. take (n + count) (take filled old ++ ((part ++ behind) ++ rest))) (sym (length-take-le filled old in_old))
    ∙ take-append-add (take filled old) ((part ++ behind) ++ rest) count
    ∙ ap (λ t. take filled old ++ t) (ap (take count) (append_assoc part behind rest) ∙ take-append-le count part (behind ++ rest) in_part)

pub read_more : (a b c : Option (List ℕ)) (filled count len : ℕ) (before old items part behind : List ℕ) → Consumes a b (take filled before)
    → take filled items ≡ take filled before → old ≡ items → Consumes b c (take count part) → filled ≤ length old → count ≤ length part → filled + count ≤ len
    → Consumes a c (take (filled + count) (take len ((take filled old ++ (part ++ behind)) ++ drop (length (take filled old ++ (part ++ behind))) items)))
read_more a b c filled count len before old items part behind told kept same given in_old in_part in_len =
    let rest : List ℕ = drop (length (take filled old ++ (part ++ behind))) items in
    rw (filled-part filled count len old part behind rest in_old in_part in_len, same, kept) (Consumes-twice a b c (take filled before) (take count part) told given)

-- The bytes that are read up to a bound are a prefix of those that were left.
pub first_read : (old new : Option (List ℕ)) (v : List ℕ) (most : ℕ) → Consumes old new v
    → length v ≤ most → (length v < most → IsAtEnd new) → IfSome old (λ xs. v ≡ take most xs)
first_read None new v most p within whole = tt
first_read (Some xs) None v most p within whole = absurd p
first_read (Some xs) (Some ys) v most p within whole =
    elim (cases_lt (length v) most) [
      | inl less ↦ (let at_end : xs ≡ v = p ∙ ap (λ t. v ++ t) (whole less) ∙ append-nil v in
          rw at_end (sym (take_all most v within)))
      | inr not_less ↦ rw p (sym (take_at v ys most (omega arith)))
    ]
