-- The links of symbols, as they are made and followed.
use Rattle.std.proofs.Common.{◌≡◌, ◌<◌, ◌≤◌, ℕ, zero, suc, ◌+◌, Bool, true, false, if◌then◌else◌, nat_eq, nat_lt, eqb-true, ltb-true, ltb-false, Option, Some, None, List, [], ◌∷◌, ◌++◌, length, length-set, get_or, drop, take, slice_get, slice_set, replicate, append-nil, append_assoc, refl, sym, ap, subst, ◌∙◌, arith}
use Rattle.std.proofs.lemmas.Bool.{eqb-false}
use Rattle.std.proofs.lemmas.List.{drop-append-le, take-append-le}
use Rattle.std.proofs.lemmas.Option.{slice_get-get_or}
use Rattle.std.proofs.Math.Seq.{drop-append_seam, drop-nil, take-append_seam, take-nil}
use Rattle.rl_bindings.specs.Machines.{joined, look, write_all, overwritten, undo, entry_of, entry_before, entries_before, entries_at, last_or, last_before, AreLinks, count_scopes, frames_at}
use Rattle.rl_bindings.specs.Symbols.{binding}
use Rattle.rl_bindings.specs.declared.event.Bound.{Bound}
use Rattle.rl_bindings.specs.declared.resolve.Entry.{Entry}
use Rattle.rl_bindings.proofs.Entries.{AreScoped, scoped, length-blank}
use Rattle.rl_bindings.proofs.LookUps.{get_set_same, get_set_other, by_test, look-blank}

length_push : {X : Type 0} (xs : List X) (x : X) → length (xs ++ x ∷ []) ≡ suc (length xs)
length_push [] x = refl
length_push (y ∷ ys) x = ap suc (length_push ys x)

look_new : (xs : List (Option ℕ)) (o : Option ℕ) → look (xs ++ o ∷ []) (length xs) ≡ o
look_new [] o = refl
look_new (x ∷ xs) o = look_new xs o

look_old : (xs : List (Option ℕ)) (o : Option ℕ) (k : ℕ) → k < length xs → look (xs ++ o ∷ []) k ≡ look xs k
look_old [] o k within = absurd (omega (arith, within))
look_old (x ∷ xs) o zero within = refl
look_old (x ∷ xs) o (suc k) within = look_old xs o k (omega (arith, within))

look_past : (xs : List (Option ℕ)) (k : ℕ) → length xs ≤ k → look xs k ≡ None
look_past [] k past = refl
look_past (x ∷ xs) zero past = absurd (omega (arith, past))
look_past (x ∷ xs) (suc k) past = look_past xs k (omega (arith, past))

get_within : (bs : List Bound) (k : ℕ) (b : Bound) → slice_get bs k ≡ Some b → k < length bs
get_within [] k b got = absurd (let e : None ≡ Some b = got in cc)
get_within (x ∷ bs) zero b got = omega arith
get_within (x ∷ bs) (suc k) b got = let within : k < length bs = get_within bs k b got in omega (arith, within)

scoped_at : (most : ℕ) (bs : List Bound) (k : ℕ) (b : Bound) → AreScoped most bs → slice_get bs k ≡ Some b → b.scope.0 < most
scoped_at most [] k b within got = absurd (let e : None ≡ Some b = got in cc)
scoped_at most (x ∷ bs) zero b within got = let e : Some x ≡ Some b = got in let same : x ≡ b = cc in subst (λ y. y.scope.0 < most) same within.0
scoped_at most (x ∷ bs) (suc k) b within got = scoped_at most bs k b within.1 got

-- `last` and `earlier` link the first `n` symbols.
pub record AreLinked (symbols : List Bound) (last earlier : List (Option ℕ)) (n : ℕ) : Type 0 where
  pub size : length last ≡ count_scopes 0 symbols
  pub count : length earlier ≡ n
  pub last_is : (s : ℕ) → s < length last → look last s ≡ last_before symbols s n
  pub earlier_is : (k : ℕ) (b : Bound) → k < n → slice_get symbols k ≡ Some b → look earlier k ≡ last_before symbols b.scope.0 k

pub none_linked : (symbols : List Bound) (last earlier : List (Option ℕ)) → last ≡ replicate (count_scopes 0 symbols) None → earlier ≡ [] → AreLinked symbols last earlier 0
none_linked symbols last earlier is none = record {
  size = ap length is ∙ length-blank None (count_scopes 0 symbols);
  count = ap length none;
  last_is = λ s within. ap (λ l. look l s) is ∙ look-blank (count_scopes 0 symbols) s;
  earlier_is = λ k b within got. absurd (omega (arith, within));
}

last_step : (symbols : List Bound) (s n : ℕ) (b : Bound) → slice_get symbols n ≡ Some b → last_before symbols s (suc n) ≡ (if nat_eq b.scope.0 s then Some n else last_before symbols s n)
last_step symbols s n b got = ap (last_or s n (last_before symbols s n)) got

pub one_linked : (symbols : List Bound) (last after earlier more : List (Option ℕ)) (n : ℕ) (b : Bound) (o : Option ℕ) → AreLinked symbols last earlier n → slice_get symbols n ≡ Some b → o ≡ look last b.scope.0
    → after ≡ slice_set last b.scope.0 (Some n) → more ≡ earlier ++ o ∷ [] → AreLinked symbols after more (n + 1)
one_linked symbols last after earlier more n b o linked got before set grown = let e : suc n ≡ n + 1 = omega arith in
    subst (AreLinked symbols after more) e
    record {
      size = same ∙ linked.size;
      count = ap length grown ∙ length_push earlier o ∙ ap suc linked.count;
      last_is = λ s within. by_test (nat_eq b.scope.0 s)
          (λ is. let at : b.scope.0 ≡ s = eqb-true b.scope.0 s is in
          ap (λ l. look l s) set
          ∙ ap (λ t. look (slice_set last t (Some n)) s) at
          ∙ ap joined (get_set_same last s (Some n) (subst (λ m. s < m) same within))
          ∙ sym (last_step symbols s n b got ∙ ap (λ (c : Bool). if c then Some n else last_before symbols s n) is))
          (λ not. ap (λ l. look l s) set
          ∙ ap joined (get_set_other last b.scope.0 s (Some n) (eqb-false b.scope.0 s not))
          ∙ linked.last_is s (subst (λ m. s < m) same within)
          ∙ sym (last_step symbols s n b got ∙ ap (λ (c : Bool). if c then Some n else last_before symbols s n) not));
      earlier_is = λ k x within has. by_test (nat_eq k n)
          (λ is. let at : k ≡ n = eqb-true k n is in
          let e : Some b ≡ Some x = sym got ∙ ap (slice_get symbols) (sym at) ∙ has in
          let named : b ≡ x = cc in
          (λ i. look (grown i) ((at ∙ sym linked.count) i))
          ∙ look_new earlier o
          ∙ before
          ∙ linked.last_is b.scope.0 (subst (λ m. b.scope.0 < m) (sym linked.size) (scoped_at (count_scopes 0 symbols) symbols n b (scoped 0 symbols) got))
          ∙ (λ i. last_before symbols (named i).scope.0 (sym at i)))
          (λ not. let below : k < n = (let other = eqb-false k n not in omega (arith, within, other)) in
          ap (λ l. look l k) grown
          ∙ look_old earlier o k (subst (λ m. k < m) (sym linked.count) below)
          ∙ linked.earlier_is k x below has);
    }
  where
    same : length after ≡ length last
    same = ap length set ∙ length-set last b.scope.0 (Some n)

none_before : (symbols : List Bound) (s most : ℕ) → AreScoped most symbols → most ≤ s → (n : ℕ) → last_before symbols s n ≡ None
none_before symbols s most within past zero = refl
none_before symbols s most within past (suc n) = by (slice_get symbols n) refl (none_before symbols s most within past n)
  where
    by : (o : Option Bound) → slice_get symbols n ≡ o → last_before symbols s n ≡ None → last_or s n (last_before symbols s n) o ≡ None
    by None is none = none
    by (Some b) is none = by_test (nat_eq b.scope.0 s)
        (λ same. let below : b.scope.0 < most = scoped_at most symbols n b within is in let at : b.scope.0 ≡ s = eqb-true b.scope.0 s same in absurd (omega (arith, below, at, past)))
        (λ not. ap (λ (c : Bool). if c then Some n else last_before symbols s n) not ∙ none)

pub all_linked : (symbols : List Bound) (last earlier : List (Option ℕ)) (n : ℕ) → n ≡ length symbols → AreLinked symbols last earlier n → AreLinks symbols last earlier
all_linked symbols last earlier n all linked = record {
  last_is = λ s. by_test (nat_lt s (length last))
      (λ lt. linked.last_is s (ltb-true s (length last) lt) ∙ ap (last_before symbols s) all)
      (λ ge. let past : length last ≤ s = ltb-false s (length last) ge in
      look_past last s past
      ∙ sym (none_before symbols s (count_scopes 0 symbols) (scoped 0 symbols) (subst (λ m. m ≤ s) linked.size past) (length symbols)));
  earlier_is = λ k b got. linked.earlier_is k b (subst (λ m. k < m) (sym all) (get_within symbols k b got)) got;
}

-- The number above an index. 0 for none.
abbrev pub above : Option ℕ → ℕ
above None = 0
above (Some k) = suc k

-- The symbol with the index `k` is one of the scope `s`.
pub record IsOne (symbols : List Bound) (s k : ℕ) : Type 0 where
  pub b : Bound
  pub got : slice_get symbols k ≡ Some b
  pub is : nat_eq b.scope.0 s ≡ true

abbrev pub IsOf : (symbols : List Bound) → (s : ℕ) → Option ℕ → Type 0
IsOf symbols s None = Unit {0}
IsOf symbols s (Some k) = IsOne symbols s k

of_or : (symbols : List Bound) (s n : ℕ) (rest : Option ℕ) (o : Option Bound) → slice_get symbols n ≡ o → IsOf symbols s rest → IsOf symbols s (last_or s n rest o)
of_or symbols s n rest None is more = more
of_or symbols s n rest (Some b) is more = by (nat_eq b.scope.0 s) refl
  where
    by : (c : Bool) → nat_eq b.scope.0 s ≡ c → IsOf symbols s (if c then Some n else rest)
    by true same = record { b = b; got = is; is = same }
    by false same = more

last_of : (symbols : List Bound) (s n : ℕ) → IsOf symbols s (last_before symbols s n)
last_of symbols s zero = tt
last_of symbols s (suc n) = of_or symbols s n (last_before symbols s n) (slice_get symbols n) refl (last_of symbols s n)

last_entries : (symbols : List Bound) (s n : ℕ) (rest : Option ℕ) (o : Option Bound) → slice_get symbols n ≡ o → entries_before symbols s n ≡ entries_before symbols s (above rest)
    → entry_before symbols s (entries_before symbols s n) o ≡ entries_before symbols s (above (last_or s n rest o))
last_entries symbols s n rest None is more = more
last_entries symbols s n rest (Some b) is more = by (nat_eq b.scope.0 s) refl
  where
    by : (c : Bool) → nat_eq b.scope.0 s ≡ c → (if c then entry_of symbols b ∷ entries_before symbols s n else entries_before symbols s n) ≡ entries_before symbols s (above (if c then Some n else rest))
    by true same = sym (ap (entry_before symbols s (entries_before symbols s n)) is ∙ ap (λ (c : Bool). if c then entry_of symbols b ∷ entries_before symbols s n else entries_before symbols s n) same)
    by false same = more

entries_last : (symbols : List Bound) (s n : ℕ) → entries_before symbols s n ≡ entries_before symbols s (above (last_before symbols s n))
entries_last symbols s zero = refl
entries_last symbols s (suc n) = last_entries symbols s n (last_before symbols s n) (slice_get symbols n) refl (entries_last symbols s n)

above_or : (s n : ℕ) (rest : Option ℕ) (o : Option Bound) → above rest ≤ n → above (last_or s n rest o) ≤ suc n
above_or s n rest None within = omega (arith, within)
above_or s n rest (Some b) within = by (nat_eq b.scope.0 s)
  where
    by : (c : Bool) → above (if c then Some n else rest) ≤ suc n
    by true = omega arith
    by false = omega (arith, within)

above_last : (symbols : List Bound) (s n : ℕ) → above (last_before symbols s n) ≤ n
above_last symbols s zero = omega arith
above_last symbols s (suc n) = above_or s n (last_before symbols s n) (slice_get symbols n) (above_last symbols s n)

-- The links of a scope are followed from `first` and `before` to `next`: what is left to do makes of `env` and `saved` what all
-- of it made of `first` and `before`.
pub record Follows (symbols : List Bound) (s : ℕ) (first env : List (Option ℕ)) (before saved : List Entry) (next : Option ℕ) : Type 0 where
  pub of : IsOf symbols s next
  pub saved_is : saved ++ overwritten (entries_before symbols s (above next)) env ≡ before ++ overwritten (entries_at symbols s) first
  pub env_is : write_all (entries_before symbols s (above next)) env ≡ write_all (entries_at symbols s) first

pub begins : (symbols : List Bound) (s : ℕ) (last earlier env : List (Option ℕ)) (saved : List Entry) (next : Option ℕ) → AreLinks symbols last earlier → next ≡ look last s → Follows symbols s env env saved saved next
begins symbols s last earlier env saved next links is = subst (Follows symbols s env env saved saved) (sym (is ∙ links.last_is s)) record {
  of = last_of symbols s (length symbols);
  saved_is = ap (λ es. saved ++ overwritten es env) (sym (entries_last symbols s (length symbols)));
  env_is = ap (λ es. write_all es env) (sym (entries_last symbols s (length symbols)));
}

-- The symbol at a link, by its index.
pub link_at : (symbols : List Bound) (s : ℕ) (first env : List (Option ℕ)) (before saved : List Entry) (k : ℕ) → Follows symbols s first env before saved (Some k) → k < length symbols
link_at symbols s first env before saved k follows = get_within symbols k follows.of.b follows.of.got

entries_step : (symbols : List Bound) (s k : ℕ) (b : Bound) → slice_get symbols k ≡ Some b → nat_eq b.scope.0 s ≡ true → entries_before symbols s (suc k) ≡ entry_of symbols b ∷ entries_before symbols s k
entries_step symbols s k b got is = ap (entry_before symbols s (entries_before symbols s k)) got ∙ ap (λ (c : Bool). if c then entry_of symbols b ∷ entries_before symbols s k else entries_before symbols s k) is

pub follows_on : (symbols : List Bound) (s : ℕ) (last earlier first env after : List (Option ℕ)) (before saved more : List Entry) (k : ℕ) (b : Bound) (o : Option ℕ) (next : Option ℕ) → AreLinks symbols last earlier → Follows symbols s first env before saved (Some k)
    → slice_get symbols k ≡ Some b → o ≡ binding symbols b.scope.0 b.name → after ≡ slice_set env b.name o → more ≡ saved ++ record { name = b.name; symbol = look env b.name } ∷ [] → next ≡ look earlier k
    → Follows symbols s first after before more next
follows_on symbols s last earlier first env after before saved more k b o next links follows got bound set grown step =
    subst (Follows symbols s first after before more) (sym is) record {
      of = last_of symbols s k;
      saved_is = (λ i. grown i ++ overwritten (sym (entries_last symbols s k) i) (written i))
          ∙ append_assoc saved (record { name = b.name; symbol = look env b.name } ∷ []) (overwritten (entries_before symbols s k) (slice_set env b.name (binding symbols b.scope.0 b.name)))
          ∙ ap (λ es. saved ++ overwritten es env) (sym (entries_step symbols s k b got here))
          ∙ follows.saved_is;
      env_is = (λ i. write_all (sym (entries_last symbols s k) i) (written i))
          ∙ ap (λ es. write_all es env) (sym (entries_step symbols s k b got here))
          ∙ follows.env_is;
    }
  where
    here : nat_eq b.scope.0 s ≡ true
    here = let e : Some follows.of.b ≡ Some b = sym follows.of.got ∙ got in let same : follows.of.b ≡ b = cc in subst (λ x. nat_eq x.scope.0 s ≡ true) same follows.of.is

    is : next ≡ last_before symbols s k
    is = step ∙ links.earlier_is k b got ∙ ap (λ t. last_before symbols t k) (eqb-true b.scope.0 s here)

    written : after ≡ slice_set env b.name (binding symbols b.scope.0 b.name)
    written = set ∙ ap (slice_set env b.name) bound

-- The next link is one of an earlier symbol.
pub follows_down : (symbols : List Bound) (s : ℕ) (last earlier first env : List (Option ℕ)) (before saved : List Entry) (k : ℕ) (next : Option ℕ) → AreLinks symbols last earlier → Follows symbols s first env before saved (Some k) → next ≡ look earlier k → above next < suc k
follows_down symbols s last earlier first env before saved k next links follows step =
    let is : next ≡ last_before symbols s k = step ∙ links.earlier_is k follows.of.b follows.of.got ∙ ap (λ t. last_before symbols t k) (eqb-true follows.of.b.scope.0 s follows.of.is) in
    let below : above (last_before symbols s k) ≤ k = above_last symbols s k in
    let same : above next ≡ above (last_before symbols s k) = ap above is in
    omega (arith, below, same)

pub all_saved : (symbols : List Bound) (s : ℕ) (first env : List (Option ℕ)) (before saved : List Entry) → Follows symbols s first env before saved None → saved ≡ before ++ overwritten (entries_at symbols s) first
all_saved symbols s first env before saved follows = sym (append-nil saved) ∙ follows.saved_is

undo_push : (xs : List Entry) (e : Entry) (env : List (Option ℕ)) → undo (xs ++ e ∷ []) env ≡ undo xs (slice_set env e.name e.symbol)
undo_push [] e env = refl
undo_push (x ∷ xs) e env = ap (λ l. slice_set l x.name x.symbol) (undo_push xs e env)

left_below : (start : ℕ) (saved after : List Entry) (e : Entry) → saved ≡ after ++ e ∷ [] → start < length saved → start ≤ length after
left_below start saved after e is within = let same : length saved ≡ suc (length after) = ap length is ∙ length_push after e in omega (arith, within, same)

-- The last entry behind `start` is taken off and written back.
pub undone_one : (start : ℕ) (env : List (Option ℕ)) (saved after : List Entry) (e : Entry) → saved ≡ after ++ e ∷ [] → start < length saved → undo (drop start after) (slice_set env e.name e.symbol) ≡ undo (drop start saved) env
undone_one start env saved after e is within =
    sym (undo_push (drop start after) e env)
    ∙ ap (λ l. undo l env) (sym (drop-append-le start after (e ∷ []) (left_below start saved after e is within)) ∙ ap (drop start) (sym is))

pub taken_one : (start : ℕ) (saved after : List Entry) (e : Entry) → saved ≡ after ++ e ∷ [] → start < length saved → take start after ≡ take start saved
taken_one start saved after e is within = sym (take-append-le start after (e ∷ []) (left_below start saved after e is within)) ∙ ap (take start) (sym is)

take_all : {X : Type 0} (xs : List X) (n : ℕ) → length xs ≤ n → take n xs ≡ xs
take_all [] n all = take-nil n
take_all (x ∷ xs) zero all = absurd (omega (arith, all))
take_all (x ∷ xs) (suc n) all = ap (λ l. x ∷ l) (take_all xs n (omega (arith, all)))

drop_all : {X : Type 0} (xs : List X) (n : ℕ) → length xs ≤ n → drop n xs ≡ []
drop_all [] n all = drop-nil n
drop_all (x ∷ xs) zero all = absurd (omega (arith, all))
drop_all (x ∷ xs) (suc n) all = drop_all xs n (omega (arith, all))

-- A vector whose slice was written.
pub written_back : {X : Type 0} (items new : List X) (n : ℕ) → n ≡ length items → length new ≡ length items → take n (new ++ drop (length new) items) ≡ new
written_back items new n whole same =
    ap (λ l. take n (new ++ l)) (drop_all items (length new) (omega (arith, same)))
    ∙ ap (take n) (append-nil new)
    ∙ take_all new n (omega (arith, whole, same))

-- A step of the loop that links symbols, if the list of the last symbols is a vector of `len` items.
pub linked_step : (symbols : List Bound) (last seen opened new earlier more : List (Option ℕ)) (n len : ℕ) (d : Bound) (o : Option ℕ) → AreLinked symbols last earlier n → n < length symbols → len ≡ length last
    → o ≡ look seen (get_or symbols n d).scope.0 → seen ≡ last → new ≡ slice_set opened (get_or symbols n d).scope.0 (Some n) → opened ≡ last → more ≡ earlier ++ o ∷ []
    → AreLinked symbols (take len (new ++ drop (length new) last)) more (n + 1)
linked_step symbols last seen opened new earlier more n len d o linked within whole before same set opened_is grown =
    let b = get_or symbols n d in
    let written : new ≡ slice_set last b.scope.0 (Some n) = set ∙ ap (λ l. slice_set l b.scope.0 (Some n)) opened_is in
    one_linked symbols last (take len (new ++ drop (length new) last)) earlier more n b o linked (slice_get-get_or symbols n d within) (before ∙ ap (λ l. look l b.scope.0) same)
    (written_back last new len whole (ap length written ∙ length-set last b.scope.0 (Some n)) ∙ written)
    grown

-- The symbol at a link.
pub link_get : (symbols : List Bound) (s : ℕ) (first env : List (Option ℕ)) (before saved : List Entry) (k : ℕ) (seen : List Bound) (d : Bound) → Follows symbols s first env before saved (Some k) → seen ≡ symbols → slice_get symbols k ≡ Some (get_or seen k d)
link_get symbols s first env before saved k seen d follows same =
    slice_get-get_or symbols k d (get_within symbols k follows.of.b follows.of.got) ∙ ap (λ l. Some (get_or l k d)) (sym same)

-- A step of the loop that follows links.
pub follow_step : (symbols : List Bound) (s : ℕ) (last earlier first env after : List (Option ℕ)) (before saved more : List Entry) (k : ℕ) (seen : List Bound) (d : Bound) (o p : Option ℕ) (links : List (Option ℕ)) (next : Option ℕ) → AreLinks symbols last earlier
    → Follows symbols s first env before saved (Some k) → seen ≡ symbols → p ≡ look env (get_or seen k d).name → o ≡ binding symbols (get_or seen k d).scope.0 (get_or seen k d).name → after ≡ slice_set env (get_or seen k d).name o
    → more ≡ saved ++ record { name = (get_or seen k d).name; symbol = p } ∷ [] → next ≡ look links k → links ≡ earlier → Follows symbols s first after before more next
follow_step symbols s last earlier first env after before saved more k seen d o p links next are follows same looked bound set grown step linked =
    let b = get_or seen k d in
    follows_on symbols s last earlier first env after before saved more k b o next are follows (link_get symbols s first env before saved k seen d follows same) bound set
    (grown ∙ ap (λ x. saved ++ record { name = b.name; symbol = x } ∷ []) looked)
    (step ∙ ap (λ l. look l k) linked)

-- The frame of the innermost scope, once what its entries overwrite is saved.
pub frames_open : (starts : List ℕ) (saved more : List Entry) → frames_at (length saved ∷ starts) (saved ++ more) ≡ more ∷ frames_at starts saved
frames_open starts saved more = λ i. drop-append_seam saved more i ∷ frames_at starts (take-append_seam saved more i)
