-- Counted nodes in another order: all have a property where the others do, and a key counts as many of them.
use Rattle.std.proofs.Common.{◌≡◌, ◌+◌, ◌++◌, List, [], ◌∷◌, All, Contains, inl, inr, refl, arith, subst}
use Rattle.std.proofs.lemmas.List.Elements.{All-contains, All-contains_itself, All-weaker, Contains-append_cases, Contains-append_left}
use Rattle.std.proofs.lemmas.List.Elements.{Contains-append_right}
use Rattle.rl_model.specs.Counted.{Counted}
use Rattle.rl_promises.specs.Live.{Held}
use Rattle.rl_promises.specs.Tallies.{tally_of}

-- The second list is the first in another order.
pub record Rearranged (first second : List Held) : Type 0 where
  pub within : (held : Held) → Contains second held → Contains first held
  pub sum : (key : Counted) → tally_of key second ≡ tally_of key first

pub all_rearranged : {first second : List Held} (P : Held → Type 0) → Rearranged first second → All P first → All P second
all_rearranged {first} {second} P r all =
    All-weaker (Contains second) P (λ held there. All-contains P first held all (r.within held there)) second (All-contains_itself second)

pub rearranged_refl : (xs : List Held) → Rearranged xs xs
rearranged_refl xs = record { within = λ held there. there; sum = λ key. refl }

-- Equal lists.
pub rearranged_same : {xs ys zs : List Held} → ys ≡ zs → Rearranged xs ys → Rearranged xs zs
rearranged_same {xs} same r = subst (λ (l : List Held). Rearranged xs l) same r

pub rearranged_then : {xs ys zs : List Held} → Rearranged xs ys → Rearranged ys zs → Rearranged xs zs
rearranged_then r s = record {
  within = λ held there. r.within held (s.within held there);
  sum = λ key. omega (arith, r.sum key, s.sum key);
}

pub tally_append : (key : Counted) (xs ys : List Held) → tally_of key (xs ++ ys) ≡ tally_of key xs + tally_of key ys
tally_append key [] ys = omega arith
tally_append key (x ∷ xs) ys = let more = tally_append key xs ys in omega (arith, more)

-- Lists in front of one another, each in another order.
pub rearranged_both : (xs ys us vs : List Held) → Rearranged xs ys → Rearranged us vs → Rearranged (xs ++ us) (ys ++ vs)
rearranged_both xs ys us vs r s = record {
  within = λ held there. elim (Contains-append_cases ys vs held there) [
    | inl one ↦ Contains-append_left xs us held (r.within held one)
    | inr other ↦ Contains-append_right xs us held (s.within held other)
  ];
  sum = λ key. omega (arith, r.sum key, s.sum key, tally_append key xs us, tally_append key ys vs);
}

-- A part has nodes of two kinds, and so do others behind it. Both kinds of it come before those of the others, or each kind by itself.
pub rearranged_cross : (a b c d : List Held) → Rearranged ((a ++ b) ++ (c ++ d)) ((a ++ c) ++ (b ++ d))
rearranged_cross a b c d = record {
  within = λ held there. elim (Contains-append_cases (a ++ c) (b ++ d) held there) [
    | inl front ↦ (elim (Contains-append_cases a c held front) [
      | inl one ↦ Contains-append_left (a ++ b) (c ++ d) held (Contains-append_left a b held one)
      | inr other ↦ Contains-append_right (a ++ b) (c ++ d) held (Contains-append_left c d held other)
    ])
    | inr back ↦ (elim (Contains-append_cases b d held back) [
      | inl one ↦ Contains-append_left (a ++ b) (c ++ d) held (Contains-append_right a b held one)
      | inr other ↦ Contains-append_right (a ++ b) (c ++ d) held (Contains-append_right c d held other)
    ])
  ];
  sum = λ key.
      omega (
        arith,
        tally_append key (a ++ b) (c ++ d),
        tally_append key a b,
        tally_append key c d,
        tally_append key (a ++ c) (b ++ d),
        tally_append key a c,
        tally_append key b d,
      );
}
