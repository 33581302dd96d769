-- The index of a table of symbols, as symbols are added.
use Rattle.std.proofs.Common.{◌≡◌, ℕ, suc, ◌+◌, ◌*◌, ◌%◌, if◌then◌else◌, map, replicate, subst, length-set, get_or, slice_set, Result, Ok, Err, IfOk, OnErr, MatchOption, is_some, Bool, true, false, cond, ◌&&◌, nat_eq, is_eq, true≢false, Option, Some, None, List, [], ◌∷◌, ◌++◌, length, BTreeMap, nat_cmp, Less, Equal, Greater, nat_lt, ◌<◌, ltb-true, eqb-true, eq-eqb, refl, sym, ap, ◌∙◌, arith, slice_get}
use Rattle.std.specs.BTreeMap.{IsEmpty, IsUnchanged, Updates, get}
use Rattle.std.specs.Cmp.{tied_then}
use Rattle.std.specs.List.{position_from}
use Rattle.std.specs.Map.{lookup}
use Rattle.std.specs.Ordering.{bool_cmp, ordering_then}
use Rattle.rl_bindings.specs.Symbols.{is_own, same, is_at, number_at, option_or, binding}
use Rattle.rl_bindings.specs.SymbolTables.{key_cmp, key_of, same_key, key_slot, number_by, IsTable}
use Rattle.rl_base.specs.Slots.{slot_at, is_key, numbered, IsSlotted}
use Rattle.rl_base.specs.declared.slots.Slot.{Slot}
use Rattle.rl_base.specs.declared.slots.Slot.TheVariants as slot
use Rattle.rl_base.proofs.Slotted.{slot_set_same, push_empty, push_many, crowd, many_same, no_keys, empty_slots}
use Rattle.rl_bindings.specs.declared.event.Bound.{Bound}
use Rattle.rl_base.specs.declared.error.OutOfMemory.{OutOfMemory}
use Rattle.std.proofs.lemmas.Option.{slice_get-get_or}
use Rattle.rl_bindings.proofs.Steps.{get_pushed}

pub position_push : (p : Bound → Bool) (i last : ℕ) (xs : List Bound) (x : Bound) → i + length xs ≡ last → (p x ≡ true → position_from p i xs ≡ None) → position_from p i (xs ++ x ∷ []) ≡ cond (p x) (Some last) (position_from p i xs)
position_push p i last [] x same none = let e : i ≡ last = omega (arith, same) in ap (λ n. cond (p x) (Some n) None) e
position_push p i last (y ∷ ys) x same none =
    step (p y) (p x) (position_from p (i + 1) ys) (position_from p (i + 1) (ys ++ x ∷ [])) none (λ before. position_push p (i + 1) last ys x (omega (arith, same)) before)
  where
    step : (b c : Bool) (before after : Option ℕ) → (c ≡ true → cond b (Some i) before ≡ None) → ((c ≡ true → before ≡ None) → after ≡ cond c (Some last) before) → cond b (Some i) after ≡ cond c (Some last) (cond b (Some i) before)
    step true true before after none more = absurd (let e : Some i ≡ None = none refl in cc)
    step true false before after none more = refl
    step false c before after none more = more none

same_swapped : (a b : Bool) → same a b ≡ same b a
same_swapped true true = refl
same_swapped true false = refl
same_swapped false true = refl
same_swapped false false = refl

pub same_equal : (a b : Bool) → same a b ≡ true → b ≡ a
same_equal true b is = is
same_equal false true is = absurd (true≢false (sym is))
same_equal false false is = refl

bool_tied : (a b : Bool) → is_eq (bool_cmp a b) ≡ same b a
bool_tied true true = refl
bool_tied true false = refl
bool_tied false true = refl
bool_tied false false = refl

pub both_left : (a b : Bool) → (a && b) ≡ true → a ≡ true
both_left true b is = refl
both_left false b is = is

pub both_right : (a b : Bool) → (a && b) ≡ true → b ≡ true
both_right true b is = is
both_right false b is = absurd (true≢false (sym is))

and_regroup : (a b c : Bool) → ((a && b) && c) ≡ (c && (b && a))
and_regroup true true true = refl
and_regroup true true false = refl
and_regroup true false true = refl
and_regroup true false false = refl
and_regroup false true true = refl
and_regroup false true false = refl
and_regroup false false true = refl
and_regroup false false false = refl

nat_tied_by : (x y : ℕ) (a b : Bool) → nat_lt x y ≡ a → nat_eq x y ≡ b → is_eq (cond a Less (cond b Equal Greater)) ≡ b
nat_tied_by x y true true p q = let l : x < y = ltb-true x y p in let e : x ≡ y = eqb-true x y q in absurd (omega (arith, l, e))
nat_tied_by x y true false p q = refl
nat_tied_by x y false true p q = refl
nat_tied_by x y false false p q = refl

nat_tied : (x y : ℕ) → is_eq (nat_cmp x y) ≡ nat_eq x y
nat_tied x y = nat_tied_by x y (nat_lt x y) (nat_eq x y) refl refl

key_tied : (own : Bool) (b : Bound) (mine : Bool) (scope name : ℕ) → mine ≡ is_own b.kind → is_eq (key_cmp (b.name, b.scope.0, mine) (name, scope, own)) ≡ is_at own scope name b
key_tied own b mine scope name is =
    sym (tied_then (ordering_then (nat_cmp b.name name) (nat_cmp b.scope.0 scope)) (bool_cmp mine own))
    ∙ ap (λ x. x && is_eq (bool_cmp mine own)) (sym (tied_then (nat_cmp b.name name) (nat_cmp b.scope.0 scope)))
    ∙ and_regroup (is_eq (nat_cmp b.name name)) (is_eq (nat_cmp b.scope.0 scope)) (is_eq (bool_cmp mine own))
    ∙ ap (λ x. x && (is_eq (nat_cmp b.scope.0 scope) && is_eq (nat_cmp b.name name))) (bool_tied mine own ∙ ap (same own) is)
    ∙ (λ i. same own (is_own b.kind) && (nat_tied b.scope.0 scope i && nat_tied b.name name i))

-- A declaration's own slot.
same_self : (a : Bool) → same a a ≡ true
same_self true = refl
same_self false = refl

pub at_self : (b : Bound) → is_at (is_own b.kind) b.scope.0 b.name b ≡ true
at_self b = λ i. same_self (is_own b.kind) i && (eq-eqb b.scope.0 b.scope.0 refl i && eq-eqb b.name b.name refl i)

-- The slot of a declaration.
pub record IsAt (b : Bound) (own : Bool) (s n : ℕ) : Type 0 where
  pub mine : is_own b.kind ≡ own
  pub scope : b.scope.0 ≡ s
  pub name : b.name ≡ n

pub at_is : (b : Bound) (own : Bool) (s n : ℕ) → is_at own s n b ≡ true → IsAt b own s n
at_is b own s n at =
    let rest = both_right (same own (is_own b.kind)) (nat_eq b.scope.0 s && nat_eq b.name n) at in
    record {
      mine = same_equal own (is_own b.kind) (both_left (same own (is_own b.kind)) _ at);
      scope = eqb-true b.scope.0 s (both_left (nat_eq b.scope.0 s) _ rest);
      name = eqb-true b.name n (both_right (nat_eq b.scope.0 s) (nat_eq b.name n) rest);
    }

pub number-same : (symbols : List Bound) (b : Bound) (own : Bool) (s n : ℕ) → is_at own s n b ≡ true → number_at own s n symbols ≡ number_at (is_own b.kind) b.scope.0 b.name symbols
number-same symbols b own s n at = let is = at_is b own s n at in sym (λ i. number_at (is.mine i) (is.scope i) (is.name i) symbols)

-- Two slots of one declaration are one.
pub at_both : (x b : Bound) (own : Bool) (s n : ℕ) → is_at own s n x ≡ true → is_at (is_own b.kind) b.scope.0 b.name x ≡ true → is_at own s n b ≡ true
at_both x b own s n first second =
    let one = at_is x own s n first in
    let two = at_is x (is_own b.kind) b.scope.0 b.name second in
    sym (λ i. is_at ((sym two.mine ∙ one.mine) i) ((sym two.scope ∙ one.scope) i) ((sym two.name ∙ one.name) i) b) ∙ at_self b

pub number-push : (symbols : List Bound) (b : Bound) (own : Bool) (s n : ℕ) → number_at (is_own b.kind) b.scope.0 b.name symbols ≡ None
    → number_at own s n (symbols ++ b ∷ []) ≡ cond (is_at own s n b) (Some (length symbols)) (number_at own s n symbols)
number-push symbols b own s n new = position_push (is_at own s n) 0 (length symbols) symbols b (omega arith) (λ at. number-same symbols b own s n at ∙ new)

pub position-kept : (p : Bound → Bool) (i k : ℕ) (xs ys : List Bound) → position_from p i xs ≡ Some k → position_from p i (xs ++ ys) ≡ Some k
position-kept p i k [] ys found = absurd (cc)
position-kept p i k (x ∷ xs) ys found = kept (p x) (position_from p (i + 1) xs) (position_from p (i + 1) (xs ++ ys)) (position-kept p (i + 1) k xs ys) found
  where
    kept : (c : Bool) (before after : Option ℕ) → (before ≡ Some k → after ≡ Some k) → cond c (Some i) before ≡ Some k → cond c (Some i) after ≡ Some k
    kept true before after more is = is
    kept false before after more is = more is

-- The index of a declaration's key.
by_key : (b : Bound) (key : ℕ × ℕ × Bool) → same_key (key_of b) key ≡ is_at key.2 key.1 key.0 b
by_key b key = key_tied key.2 b (is_own b.kind) key.1 key.0 refl

-- Keys that are one have one slot.
same_parts : (x y : ℕ × ℕ × Bool) → same_key x y ≡ true → (x.0 ≡ y.0) × (x.1 ≡ y.1)
same_parts x y is = (eqb-true x.0 y.0 (sym (nat_tied x.0 y.0) ∙ both_left _ (is_eq (nat_cmp x.1 y.1)) two), eqb-true x.1 y.1 (sym (nat_tied x.1 y.1) ∙ both_right (is_eq (nat_cmp x.0 y.0)) _ two))
  where
    one : (is_eq (ordering_then (nat_cmp x.0 y.0) (nat_cmp x.1 y.1)) && is_eq (bool_cmp x.2 y.2)) ≡ true
    one = tied_then (ordering_then (nat_cmp x.0 y.0) (nat_cmp x.1 y.1)) (bool_cmp x.2 y.2) ∙ is

    two : (is_eq (nat_cmp x.0 y.0) && is_eq (nat_cmp x.1 y.1)) ≡ true
    two = tied_then (nat_cmp x.0 y.0) (nat_cmp x.1 y.1) ∙ both_left _ (is_eq (bool_cmp x.2 y.2)) one

slot_same : (count : ℕ) (x y : ℕ × ℕ × Bool) → same_key x y ≡ true → key_slot count x ≡ key_slot count y
slot_same count x y is = let parts = same_parts x y is in λ i. if nat_eq count 0 then 0 else (parts.0 i % 4294967296 + parts.1 i * 2654435761) % count

-- A symbol that is no own name is what its scope binds its name to.
pub binding_first : (slots : List Slot) (numbers : BTreeMap (ℕ × ℕ × Bool) ℕ) (symbols : List Bound) (k : ℕ) (b : Bound) → IsTable slots numbers symbols → slice_get symbols k ≡ Some b → is_own b.kind ≡ false → Some k ≡ binding symbols b.scope.0 b.name
binding_first slots numbers symbols k b table got other =
    sym (ap (λ o. option_or o (number_at true b.scope.0 b.name symbols)) (sym (ap (λ own. number_at own b.scope.0 b.name symbols) other) ∙ table.unique k b got))

pub table_empty : (count : ℕ) (slots : List Slot) (numbers : BTreeMap (ℕ × ℕ × Bool) ℕ) (symbols : List Bound) → slots ≡ replicate count slot.Empty → IsEmpty numbers → symbols ≡ [] → IsTable slots numbers symbols
table_empty count slots numbers symbols is unknown none = record {
  slotted = subst (λ (l : List Bound). IsSlotted same_key (key_slot (length slots)) slots (map key_of l) (get key_cmp numbers) (number_by l)) (sym none)
      (no_keys same_key (key_slot (length slots)) slots (get key_cmp numbers) (number_by []) (subst (λ ss. (p k : ℕ) → slot_at ss p ≡ slot.One k → false ≡ true) (sym is) (empty_slots count)) (λ key. ap (lookup _) unknown) (λ key. refl));
  unique = λ k b got. absurd (let e : None ≡ Some b = sym (ap (λ l. slice_get l k) none) ∙ got in cc);
}

number_pushed : (symbols : List Bound) (b : Bound) → number_at (is_own b.kind) b.scope.0 b.name symbols ≡ None → (key : ℕ × ℕ × Bool)
    → number_by (symbols ++ b ∷ []) key ≡ (if same_key (key_of b) key then Some (length symbols) else number_by symbols key)
number_pushed symbols b new key =
    number-push symbols b key.2 key.1 key.0 new
    ∙ ap (λ (c : Bool). if c then Some (length symbols) else number_by symbols key) (sym (by_key b key))

keys_push : (symbols : List Bound) (b : Bound) → map key_of (symbols ++ b ∷ []) ≡ map key_of symbols ++ key_of b ∷ []
keys_push [] b = refl
keys_push (x ∷ symbols) b = ap (λ l. key_of x ∷ l) (keys_push symbols b)

keys_length : (symbols : List Bound) → length (map key_of symbols) ≡ length symbols
keys_length [] = refl
keys_length (x ∷ symbols) = ap suc (keys_length symbols)

-- Each symbol's number is its index, also with one more symbol.
unique_push : (symbols : List Bound) (b : Bound) → ((k : ℕ) (x : Bound) → slice_get symbols k ≡ Some x → number_at (is_own x.kind) x.scope.0 x.name symbols ≡ Some k) → number_at (is_own b.kind) b.scope.0 b.name symbols ≡ None
    → (k : ℕ) (x : Bound) → slice_get (symbols ++ b ∷ []) k ≡ Some x → number_at (is_own x.kind) x.scope.0 x.name (symbols ++ b ∷ []) ≡ Some k
unique_push symbols b unique new k x got =
    get_pushed symbols b x k got
    (λ before. position-kept (is_at (is_own x.kind) x.scope.0 x.name) 0 k symbols (b ∷ []) (unique k x before))
    (λ last is. sym (λ i. number_at (is_own (is i).kind) (is i).scope.0 (is i).name (symbols ++ b ∷ []))
    ∙ number-push symbols b (is_own b.kind) b.scope.0 b.name new
    ∙ ap (λ c. cond c (Some (length symbols)) (number_at (is_own b.kind) b.scope.0 b.name symbols)) (at_self b)
    ∙ ap Some (sym last))

-- The number of a key is that by its slot.
pub by_slot : (slots : List Slot) (numbers : BTreeMap (ℕ × ℕ × Bool) ℕ) (symbols : List Bound) (key : ℕ × ℕ × Bool) (s : Slot) → IsTable slots numbers symbols → slot_at slots (key_slot (length slots) key) ≡ s
    → number_by symbols key ≡ numbered same_key (map key_of symbols) (get key_cmp numbers key) s key
by_slot slots numbers symbols key s table is = table.slotted.found key ∙ ap (λ t. numbered same_key (map key_of symbols) (get key_cmp numbers key) t key) is

-- The slot that is read is that of the key.
pub slot_known : (count index : ℕ) (slots seen : List Slot) (key : ℕ × ℕ × Bool) (s : Slot) → s ≡ slot_at seen index → seen ≡ slots → index ≡ key_slot count key → count ≡ length slots → slot_at slots (key_slot (length slots) key) ≡ s
slot_known count index slots seen key s is same at counted = sym (is ∙ ap (λ (ss : List Slot). slot_at ss index) same ∙ ap (slot_at slots) (at ∙ ap (λ n. key_slot n key) counted))

pub slot_crowded : (slots : List Slot) (key : ℕ × ℕ × Bool) (index : ℕ) → index ≡ key_slot (length slots) key → index < length slots → slot_at (slice_set slots index slot.Many) (key_slot (length (slice_set slots index slot.Many)) key) ≡ slot.Many
slot_crowded slots key index at within =
    ap (slot_at (slice_set slots index slot.Many)) (ap (λ n. key_slot n key) (length-set slots index slot.Many) ∙ sym at)
    ∙ slot_set_same slots index slot.Many within

-- A further symbol, whose key has an empty slot.
pub pushed_empty : (slots after : List Slot) (numbers : BTreeMap (ℕ × ℕ × Bool) ℕ) (symbols added : List Bound) (b : Bound) (index last : ℕ) → IsTable slots numbers symbols → index ≡ key_slot (length slots) (key_of b) → slot_at slots index ≡ slot.Empty
    → index < length slots → last ≡ length symbols → after ≡ slice_set slots index (slot.One last) → added ≡ symbols ++ b ∷ [] → IsTable after numbers added
pushed_empty slots after numbers symbols added b index last table at is within counted set grown =
    let empty : slot_at slots (key_slot (length slots) (key_of b)) ≡ slot.Empty = ap (slot_at slots) (sym at) ∙ is in
    let new : number_by symbols (key_of b) ≡ None = by_slot slots numbers symbols (key_of b) slot.Empty table empty in
    let count : length after ≡ length slots = ap length set ∙ length-set slots index (slot.One last) in
    subst (λ (l : List Bound). IsTable after numbers l) (sym grown)
    record {
      slotted = subst (λ n. IsSlotted same_key (key_slot n) after (map key_of (symbols ++ b ∷ [])) (get key_cmp numbers) (number_by (symbols ++ b ∷ []))) (sym count)
          (subst (λ ks. IsSlotted same_key (key_slot (length slots)) after ks (get key_cmp numbers) (number_by (symbols ++ b ∷ []))) (sym (keys_push symbols b))
          (push_empty same_key (key_slot (length slots)) (slot_same (length slots)) slots after (map key_of symbols) (get key_cmp numbers) (number_by symbols) (number_by (symbols ++ b ∷ [])) (key_of b) last table.slotted empty
          (subst (λ p. p < length slots) at within)
          (counted ∙ sym (keys_length symbols))
          (set ∙ ap (λ p. slice_set slots p (slot.One last)) at)
          (λ key. number_pushed symbols b new key ∙ ap (λ l. if same_key (key_of b) key then Some l else number_by symbols key) (sym counted))));
      unique = unique_push symbols b table.unique new;
    }

-- The slot of one key becomes one of many.
pub crowded : (slots after : List Slot) (before more : BTreeMap (ℕ × ℕ × Bool) ℕ) (symbols : List Bound) (index other : ℕ) (y : Bound) → IsTable slots before symbols → slot_at slots index ≡ slot.One other → index < length slots → after ≡ slice_set slots index slot.Many
    → ((key : ℕ × ℕ × Bool) → get key_cmp more key ≡ (if is_key same_key (slice_get (map key_of symbols) other) key then Some other else get key_cmp before key)) → IsTable after more symbols
crowded slots after before more symbols index other y table one within set added =
    let count : length after ≡ length slots = ap length set ∙ length-set slots index slot.Many in
    let got : slice_get (map key_of symbols) other ≡ Some (get_or (map key_of symbols) other (key_of y)) = slice_get-get_or (map key_of symbols) other (key_of y) (table.slotted.within index other one) in
    record {
      slotted = subst (λ n. IsSlotted same_key (key_slot n) after (map key_of symbols) (get key_cmp more) (number_by symbols)) (sym count)
          (crowd same_key (key_slot (length slots)) (slot_same (length slots)) slots after (map key_of symbols) (get key_cmp before) (get key_cmp more) (number_by symbols) index other (get_or (map key_of symbols) other (key_of y)) table.slotted one within got set
          (λ key. added key ∙ ap (λ o. if is_key same_key o key then Some other else get key_cmp before key) got));
      unique = table.unique;
    }

-- A table stays one if its symbols and its map stay.
pub table_same : (slots : List Slot) (before after : BTreeMap (ℕ × ℕ × Bool) ℕ) (symbols kept : List Bound) → IsTable slots before symbols → IsUnchanged before after → kept ≡ symbols → IsTable slots after kept
table_same slots before after symbols kept table unchanged same =
    subst (λ (l : List Bound). IsTable slots after l) (sym same)
    record {
      slotted = many_same same_key (key_slot (length slots)) slots (map key_of symbols) (get key_cmp before) (get key_cmp after) (number_by symbols) table.slotted (λ key. ap (lookup _) unchanged);
      unique = table.unique;
    }

-- A symbol that is added among those that share a slot, or is not.
pub among : (slots : List Slot) (before after : BTreeMap (ℕ × ℕ × Bool) ℕ) (symbols added : List Bound) (b : Bound) (r : Result (Option ℕ) OutOfMemory) → IsTable slots before symbols → slot_at slots (key_slot (length slots) (key_of b)) ≡ slot.Many
    → IfOk r (λ known. known ≡ get key_cmp before (key_of b))
    → IfOk r (λ known. added ≡ (if is_some known then symbols else symbols ++ b ∷ []))
    → IfOk r (λ known. MatchOption known (Updates key_cmp before after (key_of b) (Some (length symbols))) (λ _. IsUnchanged before after))
    → OnErr r (added ≡ symbols) → OnErr r (IsUnchanged before after) → IsTable slots after added
among slots before after symbols added b (Ok None) table many known grown changed same unchanged =
    let new : number_by symbols (key_of b) ≡ None = by_slot slots before symbols (key_of b) slot.Many table many ∙ sym known in
    subst (λ (l : List Bound). IsTable slots after l) (sym grown)
    record {
      slotted = subst (λ ks. IsSlotted same_key (key_slot (length slots)) slots ks (get key_cmp after) (number_by (symbols ++ b ∷ []))) (sym (keys_push symbols b))
          (push_many same_key (key_slot (length slots)) (slot_same (length slots)) slots (map key_of symbols) (get key_cmp before) (get key_cmp after) (number_by symbols) (number_by (symbols ++ b ∷ [])) (key_of b) (length symbols) table.slotted many (λ key. changed.0 key) (number_pushed symbols b new));
      unique = unique_push symbols b table.unique new;
    }
among slots before after symbols added b (Ok (Some k)) table many known grown changed same unchanged = table_same slots before after symbols added table changed grown
among slots before after symbols added b (Err e) table many known grown changed same unchanged = table_same slots before after symbols added table unchanged same
