-- The loop over declarations finds their symbols, and the rules that they break.
use Rattle.std.proofs.Common.{◌≡◌, ◌≢◌, ◌<◌, ◌≤◌, ℕ, zero, suc, ◌+◌, Bool, true, false, not, ◌&&◌, ◌||◌, if◌then◌else◌, cond, true≢false, nat_eq, Option, Some, None, is_some, IfSome, List, [], ◌∷◌, ◌++◌, length, length-append, length-set, map, filter, slice_get, slice_set, append-nil, append_assoc, refl, sym, ap, subst, ◌∙◌, arith}
use Rattle.std.proofs.lemmas.List.Folds.{list_any-append}
use Rattle.rl_base.proofs.Slotted.{get_push_new}
use Rattle.std.specs.List.{list_any, position_from}
use Rattle.std.specs.Option.{unwrap_or}
use Rattle.rl_base.proofs.Bools.{and_true, or_assoc, or_false}
use Rattle.rl_bindings.specs.Checks.{marks_of, no_marks, both_marks, marks_or_none, marks_at, add_marks, known_symbol, other_symbol, is_clash, is_share, step, steps, start, lexical_steps}
use Rattle.rl_bindings.specs.NameRules.{is_lexical, is_param, is_type, is_misplaced, is_lexical_clash, is_repeat, is_type_clash, clashes}
use Rattle.rl_bindings.specs.SymbolTables.{knows}
use Rattle.rl_bindings.specs.Symbols.{is_own, is_at, number_at, bounds, add, add_all}
use Rattle.rl_bindings.specs.Tables.{declared_by}
use Rattle.rl_bindings.specs.declared.event.BindKind.{BindKind}
use Rattle.rl_bindings.specs.declared.event.BindKind.TheVariants as kind
use Rattle.rl_bindings.specs.declared.event.Bound.{Bound}
use Rattle.rl_bindings.specs.declared.event.Event.{Event}
use Rattle.rl_bindings.specs.declared.event.Event.TheVariants as event
use Rattle.rl_bindings.specs.declared.rules.Found.{Found}
use Rattle.rl_bindings.specs.declared.rules.Marks.{Marks}
use Rattle.rl_bindings.proofs.Entries.{some_at}
use Rattle.rl_bindings.proofs.LookUps.{by_test, get_set_same, get_set_other}
use Rattle.rl_bindings.proofs.SymbolTables.{at_self, at_both, number-same, number-push, position-kept}
use Rattle.rl_bindings.proofs.SymbolIndices.{number-below}

-- A table of the declarations of `before` knows of each place whether one of these stands there.
pub record Holds (symbols before : List Bound) : Type 0 where
  pub at : (own : Bool) (s n : ℕ) → knows symbols own s n ≡ list_any (λ c. is_at own s n c && true) before

-- Marks tell of each place whether a declaration of `before` that `test` is true of stands there.
pub record Marked (of : Marks → Bool) (test : Bound → Bool) (marks : List Marks) (symbols before : List Bound) : Type 0 where
  pub at : (own : Bool) (s n : ℕ) → of (marks_at marks (number_at own s n symbols)) ≡ list_any (λ c. is_at own s n c && test c) before

or_known : (k a : Bool) → (a ≡ true → k ≡ true) → k ≡ (k || a)
or_known true a more = refl
or_known false true more = absurd (true≢false (sym (more refl)))
or_known false false more = refl

pub knows-add : (symbols : List Bound) (b : Bound) (own : Bool) (s n : ℕ) → knows (add symbols b) own s n ≡ (knows symbols own s n || is_at own s n b)
knows-add symbols b own s n =
    by_test (knows symbols (is_own b.kind) b.scope.0 b.name)
    (λ known.
    ap (λ (x : Bool). knows (if x then symbols else symbols ++ b ∷ []) own s n) known
    ∙ or_known (knows symbols own s n) (is_at own s n b) (λ at. ap is_some (number-same symbols b own s n at) ∙ known))
    (λ new.
    ap (λ (x : Bool). knows (if x then symbols else symbols ++ b ∷ []) own s n) new
    ∙ some_at (is_at own s n) 0 (symbols ++ b ∷ [])
    ∙ list_any-append (is_at own s n) symbols (b ∷ [])
    ∙ (λ i. sym (some_at (is_at own s n) 0 symbols) i || or_false (is_at own s n b) i))

holds-step : (symbols before : List Bound) (b : Bound) → Holds symbols before → Holds (add symbols b) (before ++ b ∷ [])
holds-step symbols before b holds = record {
  at = λ own s n.
      knows-add symbols b own s n
      ∙ (λ i. holds.at own s n i || sym (or_false (is_at own s n b && true) ∙ and_true (is_at own s n b)) i)
      ∙ sym (list_any-append (λ c. is_at own s n c && true) before (b ∷ []));
}

by_option : {P : Type 0} (o : Option ℕ) → (o ≡ None → P) → ((k : ℕ) → o ≡ Some k → P) → P
by_option None on_none on_some = on_none refl
by_option (Some k) on_none on_some = on_some k refl

position-above : (p : Bound → Bool) (i k : ℕ) (bs : List Bound) → position_from p i bs ≡ Some k → i ≤ k
position-above p i k [] found = absurd (cc)
position-above p i k (b ∷ bs) found = by_test (p b)
    (λ is. let e : Some i ≡ Some k = sym (ap (λ c. cond c (Some i) (position_from p (i + 1) bs)) is) ∙ found in let same : i ≡ k = cc in omega (arith, same))
    (λ is. let more : i + 1 ≤ k = position-above p (i + 1) k bs (sym (ap (λ c. cond c (Some i) (position_from p (i + 1) bs)) is) ∙ found) in omega (arith, more))

-- Two tests whose first declarations are at one index are both true of it.
both-hold : (p q : Bound → Bool) (i k : ℕ) (bs : List Bound) → position_from p i bs ≡ Some k → position_from q i bs ≡ Some k → (x : Bound) × (p x ≡ true) × (q x ≡ true)
both-hold p q i k [] found_p found_q = absurd (cc)
both-hold p q i k (b ∷ bs) found_p found_q =
    by_test (p b)
    (λ is_p. by_test (q b)
    (λ is_q. (b, is_p, is_q))
    (λ no_q. absurd (
    let e : Some i ≡ Some k = sym (ap (λ c. cond c (Some i) (position_from p (i + 1) bs)) is_p) ∙ found_p in
    let same : i ≡ k = cc in
    let more = position-above q (i + 1) k bs (sym (ap (λ c. cond c (Some i) (position_from q (i + 1) bs)) no_q) ∙ found_q) in
    omega (arith, same, more))))
    (λ no_p. by_test (q b)
    (λ is_q. absurd (
    let e : Some i ≡ Some k = sym (ap (λ c. cond c (Some i) (position_from q (i + 1) bs)) is_q) ∙ found_q in
    let same : i ≡ k = cc in
    let more = position-above p (i + 1) k bs (sym (ap (λ c. cond c (Some i) (position_from p (i + 1) bs)) no_p) ∙ found_p) in
    omega (arith, same, more)))
    (λ no_q. both-hold p q (i + 1) k bs (sym (ap (λ c. cond c (Some i) (position_from p (i + 1) bs)) no_p) ∙ found_p) (sym (ap (λ c. cond c (Some i) (position_from q (i + 1) bs)) no_q) ∙ found_q)))

-- A declaration at another place than that of the symbol `k` is none of it.
number-other : (symbols : List Bound) (b : Bound) (own : Bool) (s n j k : ℕ) → is_at own s n b ≡ false → number_at own s n symbols ≡ Some j → known_symbol symbols b ≡ Some k → k ≢ j
number-other symbols b own s n j k apart found known = λ same.
    let both = both-hold (is_at own s n) (is_at (is_own b.kind) b.scope.0 b.name) 0 k symbols (found ∙ ap Some (sym same)) known in
    true≢false (sym (at_both both.0 b own s n both.1 both.2) ∙ apart)

get_before : {X : Type 0} (xs : List X) (x : X) (j : ℕ) → j < length xs → slice_get (xs ++ x ∷ []) j ≡ slice_get xs j
get_before [] x j within = absurd (omega (arith, within))
get_before (y ∷ ys) x zero within = refl
get_before (y ∷ ys) x (suc j) within = get_before ys x j (omega (arith, within))

number-within : (symbols : List Bound) (own : Bool) (s n k : ℕ) → number_at own s n symbols ≡ Some k → k < length symbols
number-within symbols own s n k found = subst (λ o. IfSome o (λ j. j < length symbols)) found (number-below own s n symbols)

module _ (of : Marks → Bool) (test : Bound → Bool) (none : of no_marks ≡ false) (both : (x y : Marks) → of (both_marks x y) ≡ (of x || of y)) where
  no_more : (symbols : List Bound) (marks : List Marks) (b : Bound) (own : Bool) (s n : ℕ) → is_at own s n b ≡ false
      → of (marks_at marks (number_at own s n symbols)) ≡ (of (marks_at marks (number_at own s n symbols)) || (is_at own s n b && test b))
  no_more symbols marks b own s n apart = sym (ap (λ t. of (marks_at marks (number_at own s n symbols)) || (t && test b)) apart ∙ or_false (of (marks_at marks (number_at own s n symbols))))

  at_known : (symbols : List Bound) (marks : List Marks) (b : Bound) → of (marks_of b) ≡ test b → length marks ≡ length symbols → (k : ℕ) → known_symbol symbols b ≡ Some k → (own : Bool) (s n : ℕ)
      → of (marks_at (add_marks marks (Some k) (marks_of b)) (number_at own s n symbols)) ≡ (of (marks_at marks (number_at own s n symbols)) || (is_at own s n b && test b))
  at_known symbols marks b one sized k known own s n =
      let more = both_marks (marks_at marks (Some k)) (marks_of b) in
      by_test (is_at own s n b)
      (λ at.
      let found : number_at own s n symbols ≡ Some k = number-same symbols b own s n at ∙ known in
      let within : k < length marks = subst (λ m. k < m) (sym sized) (number-within symbols own s n k found) in
      ap (λ o. of (marks_at (slice_set marks k more) o)) found
      ∙ ap (λ o. of (marks_or_none o)) (get_set_same marks k more within)
      ∙ both (marks_at marks (Some k)) (marks_of b)
      ∙ (λ i. of (marks_at marks (sym found i)) || (sym at i && one i)))
      (λ apart. by_option (number_at own s n symbols)
      (λ missed. ap (λ o. of (marks_at (slice_set marks k more) o)) missed ∙ sym (ap (λ o. of (marks_at marks o)) missed) ∙ no_more symbols marks b own s n apart)
      (λ j found.
      ap (λ o. of (marks_at (slice_set marks k more) o)) found
      ∙ ap (λ o. of (marks_or_none o)) (get_set_other marks k j more (number-other symbols b own s n j k apart found known))
      ∙ sym (ap (λ o. of (marks_at marks o)) found)
      ∙ no_more symbols marks b own s n apart))

  at_new : (symbols : List Bound) (marks : List Marks) (b : Bound) → of (marks_of b) ≡ test b → length marks ≡ length symbols → known_symbol symbols b ≡ None → (own : Bool) (s n : ℕ)
      → of (marks_at (marks ++ marks_of b ∷ []) (number_at own s n (symbols ++ b ∷ []))) ≡ (of (marks_at marks (number_at own s n symbols)) || (is_at own s n b && test b))
  at_new symbols marks b one sized new own s n =
      let m = marks_of b in
      ap (λ o. of (marks_at (marks ++ m ∷ []) o)) (number-push symbols b own s n new)
      ∙ by_test (is_at own s n b)
      (λ at.
      let missed : number_at own s n symbols ≡ None = number-same symbols b own s n at ∙ new in
      ap (λ c. of (marks_at (marks ++ m ∷ []) (cond c (Some (length symbols)) (number_at own s n symbols)))) at
      ∙ ap (λ l. of (marks_at (marks ++ m ∷ []) (Some l))) (sym sized)
      ∙ ap (λ o. of (marks_or_none o)) (get_push_new marks m)
      ∙ (λ i. sym none i || (sym at i && one i))
      ∙ ap (λ o. of (marks_at marks o) || (is_at own s n b && test b)) (sym missed))
      (λ apart.
      ap (λ c. of (marks_at (marks ++ m ∷ []) (cond c (Some (length symbols)) (number_at own s n symbols)))) apart
      ∙ by_option (number_at own s n symbols)
      (λ missed. ap (λ o. of (marks_at (marks ++ m ∷ []) o)) missed ∙ sym (ap (λ o. of (marks_at marks o)) missed))
      (λ j found.
      ap (λ o. of (marks_at (marks ++ m ∷ []) o)) found
      ∙ ap (λ o. of (marks_or_none o)) (get_before marks m j (subst (λ l. j < l) (sym sized) (number-within symbols own s n j found)))
      ∙ sym (ap (λ o. of (marks_at marks o)) found))
      ∙ no_more symbols marks b own s n apart)

  marked-step : (symbols before : List Bound) (marks : List Marks) (b : Bound) → of (marks_of b) ≡ test b → length marks ≡ length symbols → Marked of test marks symbols before
      → Marked of test (add_marks marks (known_symbol symbols b) (marks_of b)) (add symbols b) (before ++ b ∷ [])
  marked-step symbols before marks b one sized marked = record {
    at = λ own s n.
        by_option (known_symbol symbols b)
        (λ new. (λ i. of (marks_at (add_marks marks (new i) (marks_of b)) (number_at own s n (if is_some (new i) then symbols else symbols ++ b ∷ [])))) ∙ at_new symbols marks b one sized new own s n)
        (λ k known. (λ i. of (marks_at (add_marks marks (known i) (marks_of b)) (number_at own s n (if is_some (known i) then symbols else symbols ++ b ∷ [])))) ∙ at_known symbols marks b one sized k known own s n)
        ∙ (λ i. marked.at own s n i || sym (or_false (is_at own s n b && test b)) i)
        ∙ sym (list_any-append (λ c. is_at own s n c && test c) before (b ∷ []));
  }

length-push : {X : Type 0} (xs : List X) (x : X) → length (xs ++ x ∷ []) ≡ length xs + 1
length-push xs x = length-append xs (x ∷ [])

sized-step : (symbols : List Bound) (marks : List Marks) (b : Bound) → length marks ≡ length symbols → length (add_marks marks (known_symbol symbols b) (marks_of b)) ≡ length (add symbols b)
sized-step symbols marks b sized = by_option (known_symbol symbols b)
    (λ new. (λ i. length (add_marks marks (new i) (marks_of b))) ∙ length-push marks (marks_of b) ∙ ap (λ n. n + 1) sized ∙ sym (length-push symbols b) ∙ sym (λ i. length (if is_some (new i) then symbols else symbols ++ b ∷ [])))
    (λ k known. (λ i. length (add_marks marks (known i) (marks_of b))) ∙ length-set marks k (both_marks (marks_at marks (Some k)) (marks_of b)) ∙ sized ∙ sym (λ i. length (if is_some (known i) then symbols else symbols ++ b ∷ [])))

-- The tables of what declarations have come to, if `before` are the declarations.
record Tables (before : List Bound) (f : Found) : Type 0 where
  sized : length f.marks ≡ length f.symbols
  all : Holds f.symbols before
  lexical : Marked (λ m. m.lexical) is_lexical f.marks f.symbols before
  params : Marked (λ m. m.param) (λ c. is_param c.kind) f.marks f.symbols before
  types : Marked (λ m. m.type_name) (λ c. is_type c.kind) f.marks f.symbols before

tables-start : Tables [] start
tables-start = record { sized = refl; all = record { at = λ own s n. refl }; lexical = record { at = λ own s n. refl }; params = record { at = λ own s n. refl }; types = record { at = λ own s n. refl } }

tables-step : (before : List Bound) (f : Found) (b : Bound) → Tables before f → Tables (before ++ b ∷ []) (step f b)
tables-step before f b tables = record {
  sized = sized-step f.symbols f.marks b tables.sized;
  all = holds-step f.symbols before b tables.all;
  lexical = marked-step (λ m. m.lexical) is_lexical refl (λ x y. refl) f.symbols before f.marks b refl tables.sized tables.lexical;
  params = marked-step (λ m. m.param) (λ c. is_param c.kind) refl (λ x y. refl) f.symbols before f.marks b refl tables.sized tables.params;
  types = marked-step (λ m. m.type_name) (λ c. is_type c.kind) refl (λ x y. refl) f.symbols before f.marks b refl tables.sized tables.types;
}

no_clash : (other x : Bool) → false ≡ (other && (if x then false else false))
no_clash false x = refl
no_clash true true = refl
no_clash true false = refl

more_clash : (other p x q a l : Bool) → ((other && (p && (x || q))) || (other && (if x then a else l))) ≡ (other && (if x then (p && true) || a else (p && q) || l))
more_clash false p x q a l = refl
more_clash true p true q a l = refl
more_clash true p false q a l = refl

any-clash : (b : Bound) (before : List Bound) → list_any (is_lexical_clash b) before ≡ (not (is_own b.kind) && (if is_lexical b then list_any (λ c. is_at false b.scope.0 b.name c && true) before else list_any (λ c. is_at false b.scope.0 b.name c && is_lexical c) before))
any-clash b [] = no_clash (not (is_own b.kind)) (is_lexical b)
any-clash b (c ∷ cs) =
    ap (λ more. is_lexical_clash b c || more) (any-clash b cs)
    ∙ more_clash (not (is_own b.kind)) (is_at false b.scope.0 b.name c) (is_lexical b) (is_lexical c) (list_any (λ c. is_at false b.scope.0 b.name c && true) cs) (list_any (λ c. is_at false b.scope.0 b.name c && is_lexical c) cs)

no_repeat : (x : Bool) → false ≡ (x && false)
no_repeat true = refl
no_repeat false = refl

more_repeat : (x p r : Bool) → ((x && p) || (x && r)) ≡ (x && (p || r))
more_repeat true p r = refl
more_repeat false p r = refl

any-repeat : (b : Bound) (before : List Bound) → list_any (is_repeat b) before ≡ (is_param b.kind && list_any (λ c. is_at false b.scope.0 b.name c && is_param c.kind) before)
any-repeat b [] = no_repeat (is_param b.kind)
any-repeat b (c ∷ cs) =
    ap (λ more. is_repeat b c || more) (any-repeat b cs)
    ∙ more_repeat (is_param b.kind) (is_at false b.scope.0 b.name c && is_param c.kind) (list_any (λ c. is_at false b.scope.0 b.name c && is_param c.kind) cs)

no_share : (x : Bool) → false ≡ (if x then false || false else false || false)
no_share true = refl
no_share false = refl

more_share : (p o x q a d t u : Bool) → (((p || o) && (x || q)) || (if x then a || d else t || u)) ≡ (if x then ((p && true) || a) || ((o && true) || d) else ((p && q) || t) || ((o && q) || u))
more_share false false true q a d t u = refl
more_share false false false q a d t u = refl
more_share true o true q a d t u = refl
more_share true o false true a d t u = refl
more_share true true false false a d t u = refl
more_share true false false false a d t u = refl
more_share false true true q true d t u = refl
more_share false true true q false d t u = refl
more_share false true false true a d true u = refl
more_share false true false true a d false u = refl
more_share false true false false a d t u = refl

any-share : (b : Bound) (before : List Bound) → list_any (is_type_clash b) before
    ≡ (if is_type b.kind then list_any (λ c. is_at false b.scope.0 b.name c && true) before || list_any (λ c. is_at true b.scope.0 b.name c && true) before
    else list_any (λ c. is_at false b.scope.0 b.name c && is_type c.kind) before || list_any (λ c. is_at true b.scope.0 b.name c && is_type c.kind) before)
any-share b [] = no_share (is_type b.kind)
any-share b (c ∷ cs) =
    ap (λ more. is_type_clash b c || more) (any-share b cs)
    ∙ more_share (is_at false b.scope.0 b.name c) (is_at true b.scope.0 b.name c) (is_type b.kind) (is_type c.kind)
    (list_any (λ c. is_at false b.scope.0 b.name c && true) cs) (list_any (λ c. is_at true b.scope.0 b.name c && true) cs)
    (list_any (λ c. is_at false b.scope.0 b.name c && is_type c.kind) cs) (list_any (λ c. is_at true b.scope.0 b.name c && is_type c.kind) cs)

param_other : (k : BindKind) → is_param k ≡ true → is_own k ≡ false
param_other kind.FunctionExpression is = absurd (true≢false (sym is))
param_other kind.ClassExpression is = absurd (true≢false (sym is))
param_other _ is = refl

type_other : (k : BindKind) → is_type k ≡ true → is_own k ≡ false
type_other kind.FunctionExpression is = absurd (true≢false (sym is))
type_other kind.ClassExpression is = absurd (true≢false (sym is))
type_other _ is = refl

if_or : (m x : Bool) → (if m then true else x) ≡ (m || x)
if_or true x = refl
if_or false x = refl

or_swap : (a b : Bool) → (a || b) ≡ (b || a)
or_swap true true = refl
or_swap true false = refl
or_swap false true = refl
or_swap false false = refl

and_false : (a : Bool) → (a && false) ≡ false
and_false true = refl
and_false false = refl

own_type : (k : BindKind) (x : Bool) → ((is_own k && x) && is_type k) ≡ false
own_type kind.FunctionExpression x = and_false x
own_type kind.ClassExpression x = and_false x
own_type _ x = refl

-- No own name is that of a type.
no_types : (s n : ℕ) (cs : List Bound) → list_any (λ c. is_at true s n c && is_type c.kind) cs ≡ false
no_types s n [] = refl
no_types s n (c ∷ cs) = λ i. own_type c.kind (nat_eq c.scope.0 s && nat_eq c.name n) i || no_types s n cs i

-- The rules on one more declaration, by the tables.
module _ (before : List Bound) (f : Found) (b : Bound) (tables : Tables before f) where
  clash-by : is_clash b (is_some (known_symbol f.symbols b)) (marks_at f.marks (known_symbol f.symbols b)) ≡ list_any (is_lexical_clash b) before
  clash-by =
      by_test (is_own b.kind)
      (λ own.
      ap (λ (o : Bool). if o then false else (if is_lexical b then is_some (known_symbol f.symbols b) else (marks_at f.marks (known_symbol f.symbols b)).lexical)) own
      ∙ sym (ap (λ o. not o && (if is_lexical b then list_any (λ c. is_at false b.scope.0 b.name c && true) before else list_any (λ c. is_at false b.scope.0 b.name c && is_lexical c) before)) own))
      (λ other.
      (λ i. if other i then false else (if is_lexical b then knows f.symbols (other i) b.scope.0 b.name else (marks_at f.marks (number_at (other i) b.scope.0 b.name f.symbols)).lexical))
      ∙ (λ i. if is_lexical b then tables.all.at false b.scope.0 b.name i else tables.lexical.at false b.scope.0 b.name i)
      ∙ sym (ap (λ o. not o && (if is_lexical b then list_any (λ c. is_at false b.scope.0 b.name c && true) before else list_any (λ c. is_at false b.scope.0 b.name c && is_lexical c) before)) other))
      ∙ sym (any-clash b before)

  repeat-by : (is_param b.kind && (marks_at f.marks (known_symbol f.symbols b)).param) ≡ list_any (is_repeat b) before
  repeat-by =
      by_test (is_param b.kind)
      (λ is.
      (λ i. is_param b.kind && (marks_at f.marks (number_at (param_other b.kind is i) b.scope.0 b.name f.symbols)).param)
      ∙ ap (λ x. is_param b.kind && x) (tables.params.at false b.scope.0 b.name))
      (λ none. ap (λ p. p && (marks_at f.marks (known_symbol f.symbols b)).param) none ∙ sym (ap (λ p. p && list_any (λ c. is_at false b.scope.0 b.name c && is_param c.kind) before) none))
      ∙ sym (any-repeat b before)

  share-by : is_share b (is_some (known_symbol f.symbols b) || is_some (other_symbol f.symbols b)) ((marks_at f.marks (known_symbol f.symbols b)).type_name || (marks_at f.marks (other_symbol f.symbols b)).type_name) ≡ (is_misplaced b || list_any (is_type_clash b) before)
  share-by =
      let s = b.scope.0 in
      let n = b.name in
      let known = is_some (known_symbol f.symbols b) || is_some (other_symbol f.symbols b) in
      let typed = (marks_at f.marks (known_symbol f.symbols b)).type_name || (marks_at f.marks (other_symbol f.symbols b)).type_name in
      let any_known = list_any (λ c. is_at false s n c && true) before || list_any (λ c. is_at true s n c && true) before in
      let any_typed = list_any (λ c. is_at false s n c && is_type c.kind) before || list_any (λ c. is_at true s n c && is_type c.kind) before in
      if_or (is_misplaced b) (if is_type b.kind then known else typed)
      ∙ ap (λ x. is_misplaced b || x)
      (by_test (is_type b.kind)
      (λ is.
      let other : is_own b.kind ≡ false = type_other b.kind is in
      ap (λ (t : Bool). if t then known else typed) is
      ∙ (λ i. knows f.symbols (other i) s n || is_some (if other i || is i then number_at (not (other i)) s n f.symbols else None))
      ∙ (λ i. tables.all.at false s n i || tables.all.at true s n i)
      ∙ sym (ap (λ (t : Bool). if t then any_known else any_typed) is))
      (λ none.
      ap (λ (t : Bool). if t then known else typed) none
      ∙ by_test (is_own b.kind)
      (λ own.
      (λ i. (marks_at f.marks (number_at (own i) s n f.symbols)).type_name || (marks_at f.marks (if own i || is_type b.kind then number_at (not (own i)) s n f.symbols else None)).type_name)
      ∙ (λ i. tables.types.at true s n i || tables.types.at false s n i)
      ∙ or_swap (list_any (λ c. is_at true s n c && is_type c.kind) before) (list_any (λ c. is_at false s n c && is_type c.kind) before))
      (λ other.
      (λ i. (marks_at f.marks (number_at (other i) s n f.symbols)).type_name || (marks_at f.marks (if other i || none i then number_at (not (other i)) s n f.symbols else None)).type_name)
      ∙ (λ i. tables.types.at false s n i || sym (no_types s n before) i))
      ∙ sym (ap (λ (t : Bool). if t then any_known else any_typed) none))
      ∙ sym (any-share b before))

  clash-now : (step f b).clashed ≡ (f.clashed || list_any (is_lexical_clash b) before)
  clash-now = ap (λ x. f.clashed || x) clash-by

  repeat-now : (step f b).repeated ≡ (f.repeated || list_any (is_repeat b) before)
  repeat-now = ap (λ x. f.repeated || x) repeat-by

  share-now : (step f b).shared ≡ (f.shared || (is_misplaced b || list_any (is_type_clash b) before))
  share-now = ap (λ x. f.shared || x) share-by

or_share : (f m c d e : Bool) → ((f || (m || c)) || (d || e)) ≡ (f || ((c || d) || (m || e)))
or_share true m c d e = refl
or_share false true true d e = refl
or_share false true false true e = refl
or_share false true false false e = refl
or_share false false true d e = refl
or_share false false false d e = refl

-- The loop's result, by the definitions.
pub record Comes (before : List Bound) (f : Found) (es : List Event) : Type 0 where
  pub symbols : (steps f es).symbols ≡ add_all f.symbols (bounds es)
  pub declarations : (steps f es).declarations ≡ f.declarations ++ map (declared_by (add_all f.symbols (bounds es))) (bounds es)
  pub clashed : (steps f es).clashed ≡ (f.clashed || clashes is_lexical_clash before (bounds es))
  pub repeated : (steps f es).repeated ≡ (f.repeated || clashes is_repeat before (bounds es))
  pub shared : (steps f es).shared ≡ (f.shared || (clashes is_type_clash before (bounds es) || list_any is_misplaced (bounds es)))

number-add : (symbols : List Bound) (b : Bound) (own : Bool) (s n k : ℕ) → number_at own s n symbols ≡ Some k → number_at own s n (add symbols b) ≡ Some k
number-add symbols b own s n k found = by_option (known_symbol symbols b)
    (λ new. (λ i. number_at own s n (if is_some (new i) then symbols else symbols ++ b ∷ [])) ∙ position-kept (is_at own s n) 0 k symbols (b ∷ []) found)
    (λ j known. (λ i. number_at own s n (if is_some (known i) then symbols else symbols ++ b ∷ [])) ∙ found)

number-add_all : (bs symbols : List Bound) (own : Bool) (s n k : ℕ) → number_at own s n symbols ≡ Some k → number_at own s n (add_all symbols bs) ≡ Some k
number-add_all [] symbols own s n k found = found
number-add_all (b ∷ bs) symbols own s n k found = number-add_all bs (add symbols b) own s n k (number-add symbols b own s n k found)

-- A declaration's symbol, known or new.
number-now : (symbols : List Bound) (b : Bound) → known_symbol (add symbols b) b ≡ Some (unwrap_or (known_symbol symbols b) (length symbols))
number-now symbols b = by_option (known_symbol symbols b)
    (λ new.
    (λ i. known_symbol (if is_some (new i) then symbols else symbols ++ b ∷ []) b)
    ∙ number-push symbols b (is_own b.kind) b.scope.0 b.name new
    ∙ ap (λ c. cond c (Some (length symbols)) (known_symbol symbols b)) (at_self b)
    ∙ sym (ap (λ o. Some (unwrap_or o (length symbols))) new))
    (λ k known.
    (λ i. known_symbol (if is_some (known i) then symbols else symbols ++ b ∷ []) b)
    ∙ known
    ∙ sym (ap (λ o. Some (unwrap_or o (length symbols))) known))

declared-now : (symbols : List Bound) (b : Bound) (bs : List Bound) → record { node = b.node; symbol = Some (unwrap_or (known_symbol symbols b) (length symbols)) } ≡ declared_by (add_all (add symbols b) bs) b
declared-now symbols b bs =
    ap (λ (o : Option ℕ). record { node = b.node; symbol = o })
    (sym (number-add_all bs (add symbols b) (is_own b.kind) b.scope.0 b.name (unwrap_or (known_symbol symbols b) (length symbols)) (number-now symbols b)))

comes-bind : (before : List Bound) (f : Found) (b : Bound) (es : List Event) → Tables before f → Comes (before ++ b ∷ []) (step f b) es → Comes before f (event.Bind b ∷ es)
comes-bind before f b es tables more = record {
  symbols = more.symbols;
  declarations = more.declarations
      ∙ append_assoc f.declarations (record { node = b.node; symbol = Some (unwrap_or (known_symbol f.symbols b) (length f.symbols)) } ∷ []) (map (declared_by (add_all (add f.symbols b) (bounds es))) (bounds es))
      ∙ ap (λ d. f.declarations ++ d ∷ map (declared_by (add_all (add f.symbols b) (bounds es))) (bounds es)) (declared-now f.symbols b (bounds es));
  clashed = more.clashed ∙ ap (λ x. x || clashes is_lexical_clash (before ++ b ∷ []) (bounds es)) (clash-now before f b tables) ∙ or_assoc f.clashed (list_any (is_lexical_clash b) before) (clashes is_lexical_clash (before ++ b ∷ []) (bounds es));
  repeated = more.repeated ∙ ap (λ x. x || clashes is_repeat (before ++ b ∷ []) (bounds es)) (repeat-now before f b tables) ∙ or_assoc f.repeated (list_any (is_repeat b) before) (clashes is_repeat (before ++ b ∷ []) (bounds es));
  shared = more.shared ∙ ap (λ x. x || (clashes is_type_clash (before ++ b ∷ []) (bounds es) || list_any is_misplaced (bounds es))) (share-now before f b tables)
      ∙ or_share f.shared (is_misplaced b) (list_any (is_type_clash b) before) (clashes is_type_clash (before ++ b ∷ []) (bounds es)) (list_any is_misplaced (bounds es));
}

comes : (es : List Event) (before : List Bound) (f : Found) → Tables before f → Comes before f es
comes [] before f tables = record { symbols = refl; declarations = sym (append-nil f.declarations); clashed = sym (or_false f.clashed); repeated = sym (or_false f.repeated); shared = sym (or_false f.shared) }
comes (event.Scope s ∷ es) before f tables = let m = comes es before f tables in record { symbols = m.symbols; declarations = m.declarations; clashed = m.clashed; repeated = m.repeated; shared = m.shared }
comes (event.Open s ∷ es) before f tables = let m = comes es before f tables in record { symbols = m.symbols; declarations = m.declarations; clashed = m.clashed; repeated = m.repeated; shared = m.shared }
comes (event.Close ∷ es) before f tables = let m = comes es before f tables in record { symbols = m.symbols; declarations = m.declarations; clashed = m.clashed; repeated = m.repeated; shared = m.shared }
comes (event.Use node name ∷ es) before f tables = let m = comes es before f tables in record { symbols = m.symbols; declarations = m.declarations; clashed = m.clashed; repeated = m.repeated; shared = m.shared }
comes (event.Bind b ∷ es) before f tables = comes-bind before f b es tables (comes es (before ++ b ∷ []) (step f b) (tables-step before f b tables))

pub checked : (es : List Event) → Comes [] start es
checked es = comes es [] start tables-start

filtered : (t : Bool) (symbols : List Bound) (b : Bound) (bs : List Bound) → add_all (if t then add symbols b else symbols) bs ≡ add_all symbols (if t then b ∷ bs else bs)
filtered true symbols b bs = refl
filtered false symbols b bs = refl

-- The loop over lexical declarations finds their symbols.
pub lexical_found : (es : List Event) (symbols : List Bound) → lexical_steps symbols es ≡ add_all symbols (filter is_lexical (bounds es))
lexical_found [] symbols = refl
lexical_found (event.Scope s ∷ es) symbols = lexical_found es symbols
lexical_found (event.Open s ∷ es) symbols = lexical_found es symbols
lexical_found (event.Close ∷ es) symbols = lexical_found es symbols
lexical_found (event.Use node name ∷ es) symbols = lexical_found es symbols
lexical_found (event.Bind b ∷ es) symbols = lexical_found es (if is_lexical b then add symbols b else symbols) ∙ filtered (is_lexical b) symbols b (filter is_lexical (bounds es))
