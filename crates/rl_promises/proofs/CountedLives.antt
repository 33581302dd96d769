-- Each counted node of a covered function is one that a run may reach, or a node of a dead part.
use Rattle.std.proofs.Common.{◌≡◌, ◌⊎◌, inl, inr, ℕ, Bool, true, false, true≢false, not, if◌then◌else◌, Option, Some, None, List, [], ◌∷◌}
use Rattle.std.proofs.Common.{◌++◌, All, Contains, refl, sym, ap, ◌∙◌, subst, arith, append-nil, append_assoc}
use Rattle.std.specs.List.{AllByRecursion}
use Rattle.std.proofs.lemmas.List.Elements.{All-contains_itself, All-from_recursion, Contains-append_left, Contains-append_right}
use Rattle.std.proofs.lemmas.List.Elements.{recursion_from_All}
use Rattle.rl_ast.specs.FunctionTrees.{is_function as fits_function}
use Rattle.rl_model.specs.Actions.{Label}
use Rattle.rl_model.specs.Code.{code, code_among, code_of, flat, is_function, is_instantiate, is_no_code, name_code}
use Rattle.rl_model.specs.Counted.{Counted, counted_at, counted_in, method_at}
use Rattle.rl_model.specs.Dead.{dead_among, dead_in, dead_in_cases, dead_parts, goes_on, lives, parts_if}
use Rattle.rl_names.specs.Functions.{body_in, params_in}
use Rattle.rl_names.specs.Names.{Names}
use Rattle.rl_promises.proofs.CountedCode.{HasTexts, IsOwn, by_tests, each_append, each_both, each_weaker, flat_append}
use Rattle.rl_promises.proofs.CountedCode.{function_texts, own_counted}
use Rattle.rl_promises.proofs.CoveredWorlds.{body_covered, params_covered, plain_word}
use Rattle.rl_promises.specs.Covered.{AreCovered, IsCovered, IsCoveredFunction}
use Rattle.rl_promises.specs.Held.{dead_nodes}
use Rattle.rl_promises.specs.Live.{Held, LivesOn, held_among, held_as, held_at, held_in, live_all, live_cases, live_in, live_in_body}
use Rattle.rl_promises.specs.Tallies.{held_span, held_word, is_among, stores_at}
use Rattle.rl_syntax.specs.Syntax.{Syntax, Node, Listed, Said, Count, Flag, Absent, Pieces, End, Then}
use Rattle.rl_syntax.specs.declared.numbered.At.{At}
use Rattle.rl_syntax.specs.declared.word.Word.{Word}
use Rattle.rl_syntax.specs.declared.word.Word.TheVariants as word

lives_left : (xs ys : List Held) (key : Counted) → LivesOn xs key → LivesOn (xs ++ ys) key
lives_left xs ys key l =
    record { held = l.held; there = Contains-append_left xs ys l.held l.there; span = l.span; word = l.word }

lives_right : (xs ys : List Held) (key : Counted) → LivesOn ys key → LivesOn (xs ++ ys) key
lives_right xs ys key l =
    record { held = l.held; there = Contains-append_right xs ys l.held l.there; span = l.span; word = l.word }

-- A counted node by itself.
own_lives : (names : Names) (at : At) (w : Word) (parts : Pieces) (key : Counted) → IsOwn at w parts key
    → LivesOn (held_at names w parts at) key
own_lives names at w parts key own =
    lives_left (held_as (held_word w parts) (held_span w parts at.span)) (stores_at names w parts) key
    (by_word (held_word w parts) own.word)
  where
    by_word : (o : Option (List ℕ)) → is_among key.kinds o ≡ true → LivesOn (held_as o (held_span w parts at.span)) key
    by_word None none = absurd (true≢false (sym none))
    by_word (Some text) among =
        let held : Held = record { word = text; span = held_span w parts at.span } in
        record { held = held; there = (0, omega arith, refl); span = own.place; word = among }

-- The counted node is in dead code, or one of these nodes.
abbrev IsEither : (D : Counted → Type 0) → List Held → Counted → Type 0
IsEither D nodes key = D key ⊎ LivesOn nodes key

either_left : (D : Counted → Type 0) (xs ys : List Held) (key : Counted) → IsEither D xs key → IsEither D (xs ++ ys) key
either_left D xs ys key h = elim h [ inl dead ↦ inl dead | inr live ↦ inr (lives_left xs ys key live) ]

either_right : (D : Counted → Type 0) (xs ys : List Held) (key : Counted) → IsEither D ys key → IsEither D (xs ++ ys) key
either_right D xs ys key h = elim h [ inl dead ↦ inl dead | inr live ↦ inr (lives_right xs ys key live) ]

module _ (names : Names) (methods : List ℕ) where
  abbrev keys_of : List Syntax → List Counted
  keys_of nodes = flat (counted_at methods) nodes

  -- The counted nodes of covered code are among the nodes of its tree.

  mutual
    all_held : (s : Syntax) → IsCovered s → AllByRecursion (LivesOn (held_in names s)) (keys_of (code s))
    all_held (Node at w parts) covered =
        by_tests methods (LivesOn (held_in names (Node at w parts))) (Node at w parts) (is_no_code w parts) (is_function w)
        (is_instantiate w) (name_code w parts) parts (plain_word w parts covered.0)
        (each_weaker _ _
        (λ key own. lives_left (held_at names w parts at) (held_among names parts) key (own_lives names at w parts key own))
        (counted_at methods (Node at w parts)) (own_counted methods at w parts covered.0))
        (each_weaker _ _ (lives_right (held_at names w parts at) (held_among names parts)) (keys_of (code_among parts))
        (all_held_among parts covered.1))
    all_held (Listed parts) covered = all_held_among parts covered
    all_held (Said text) covered = tt
    all_held (Count number) covered = tt
    all_held (Flag flag) covered = tt
    all_held Absent covered = tt

    all_held_among : (parts : Pieces) → AreCovered parts → AllByRecursion (LivesOn (held_among names parts)) (keys_of (code_among parts))
    all_held_among End covered = tt
    all_held_among (Then part parts) covered =
        subst (AllByRecursion (LivesOn (held_in names part ++ held_among names parts)))
        (sym (flat_append (counted_at methods) (code part) (code_among parts)))
        (each_append _ (keys_of (code part)) (keys_of (code_among parts))
        (each_weaker _ _ (lives_left (held_in names part) (held_among names parts)) (keys_of (code part)) (all_held part covered.0))
        (each_weaker _ _ (lives_right (held_in names part) (held_among names parts)) (keys_of (code_among parts))
        (all_held_among parts covered.1)))

  -- Parts in a row.
  keys_in_row : (P : Counted → Type 0) (xs ys : List Syntax) → AllByRecursion P (keys_of xs) → AllByRecursion P (keys_of ys)
      → AllByRecursion P (keys_of (xs ++ ys))
  keys_in_row P xs ys h k =
      subst (AllByRecursion P) (sym (flat_append (counted_at methods) xs ys)) (each_append P (keys_of xs) (keys_of ys) h k)

  keys_apart : (P : Counted → Type 0) (xs ys : List Syntax) → AllByRecursion P (keys_of (xs ++ ys))
      → AllByRecursion P (keys_of xs) × AllByRecursion P (keys_of ys)
  keys_apart P xs ys h =
      each_both P (keys_of xs) (keys_of ys) (subst (AllByRecursion P) (flat_append (counted_at methods) xs ys) h)

  dead_code : (statements : Pieces) → flat code (dead_among false statements) ≡ code_among statements
  dead_code End = refl
  dead_code (Then s statements) = ap (λ (l : List Syntax). code s ++ l) (dead_code statements)

  module _ (D : Counted → Type 0) where
    -- The counted nodes in dead parts of a statement.
    abbrev AreDead : List Syntax → Type 0
    AreDead parts = AllByRecursion D (keys_of (flat code parts))

    dead_apart : (xs ys : List Syntax) → AreDead (xs ++ ys) → AreDead xs × AreDead ys
    dead_apart xs ys dead =
        keys_apart D (flat code xs) (flat code ys) (subst (λ (l : List Syntax). AllByRecursion D (keys_of l)) (flat_append code xs ys) dead)

    -- The counted nodes of a statement, of which those of dead parts are known.
    abbrev AreEither : List Held → List Syntax → Type 0
    AreEither nodes parts = AllByRecursion (IsEither D nodes) (keys_of parts)

    held_either : (s : Syntax) → IsCovered s → AreEither (held_in names s) (code s)
    held_either s covered =
        each_weaker (LivesOn (held_in names s)) (IsEither D (held_in names s)) (λ key l. inr l) (keys_of (code s)) (all_held s covered)

    -- Nodes and code in two parts, and code at the end of a node's parts.

    in_two : (xs ys : List Held) (a b : List Syntax) → AreEither xs a → AreEither ys b → AreEither (xs ++ ys) (a ++ b)
    in_two xs ys a b first second =
        keys_in_row (IsEither D (xs ++ ys)) a b (each_weaker _ _ (either_left D xs ys) (keys_of a) first)
        (each_weaker _ _ (either_right D xs ys) (keys_of b) second)

    at_end : (xs : List Held) (a : List Syntax) → AreEither xs a → AreEither xs (a ++ [])
    at_end xs a each = subst (AreEither xs) (sym (append-nil a)) each

    -- A part that is dead unless the test holds.
    where_live : (live : Bool) (part : Syntax) → IsCovered part → AreDead (parts_if (not live) part)
        → AreEither (if live then held_in names part else []) (code part)
    where_live true part covered dead = held_either part covered
    where_live false part covered dead =
        each_weaker D (IsEither D []) (λ key d. inl d) (keys_of (code part))
        (subst (λ (l : List Syntax). AllByRecursion D (keys_of l)) (append-nil (code part)) dead)

    -- As `in_two`, in three parts, which are all.
    in_three : (xs ys zs : List Held) (a b c : List Syntax) → AreEither xs a → AreEither ys b → AreEither zs c
        → AreEither (xs ++ ys ++ zs) (a ++ (b ++ (c ++ [])))
    in_three xs ys zs a b c first second third =
        subst (AreEither (xs ++ ys ++ zs)) (append_assoc a b (c ++ []))
        (in_two (xs ++ ys) zs (a ++ b) (c ++ []) (in_two xs ys a b first second) (at_end zs c third))

    -- The parts of a `for` loop.
    for_lives : (init condition update body : Syntax) (more : List Held) → AreEither (held_in names init) (code init)
        → AreEither (held_in names condition) (code condition) → AreEither more (code update)
        → AreEither (live_in names None body) (code body)
        → AreEither (held_in names init ++ held_in names condition ++ more ++ live_in names None body)
        (code init ++ (code condition ++ (code update ++ (code body ++ []))))
    for_lives init condition update body more begun test updated turn =
        let head : List Held = held_in names init ++ held_in names condition in
        subst (AreEither (head ++ more ++ live_in names None body))
        (append_assoc (code init ++ code condition) (code update) (code body ++ [])
        ∙ append_assoc (code init) (code condition) (code update ++ (code body ++ [])))
        (in_two (head ++ more) (live_in names None body) (code init ++ code condition ++ code update) (code body ++ [])
        (in_two head more (code init ++ code condition) (code update)
        (in_two (held_in names init) (held_in names condition) (code init) (code condition) begun test) updated)
        (at_end (live_in names None body) (code body) turn))

    -- A `catch` that is dead unless something in its block acts.
    catch_lives : (acts : Bool) (there : At) (param body : Syntax) → AreEither (held_in names param) (code param)
        → (AreDead (dead_in None body) → AreEither (live_in names None body) (code body))
        → AreDead (if acts then dead_in None body else Node there word.Catch (Then param (Then body End)) ∷ [])
        → AreEither (if acts then held_in names param ++ live_in names None body else [])
        (code (Node there word.Catch (Then param (Then body End))))
    catch_lives true there param body declared turn dead =
        in_two (held_in names param) (live_in names None body) (code param) (code body ++ []) declared
        (at_end (live_in names None body) (code body) (turn dead))
    catch_lives false there param body declared turn dead =
        let handler : Syntax = Node there word.Catch (Then param (Then body End)) in
        each_weaker D (IsEither D []) (λ key d. inl d) (keys_of (code handler))
        (subst (λ (l : List Syntax). AllByRecursion D (keys_of l)) (append-nil (code handler)) dead)

    mutual
      statement_lives : (own : Label) (s : Syntax) → IsCovered s → AreDead (dead_in own s) → AreEither (live_in names own s) (code s)
      statement_lives own (Node at word.Block (Then (Listed statements) End)) covered dead =
          at_end (live_all names statements) (code_among statements) (statements_live statements covered.1.0 dead)
      statement_lives own (Node at word.If (Then condition (Then consequent (Then alternate End)))) covered dead =
          let apart = dead_apart (dead_in None consequent) (dead_in None alternate) dead in
          in_three (held_in names condition) (live_in names None consequent) (live_in names None alternate)
          (code condition) (code consequent) (code alternate)
          (held_either condition covered.1.0) (statement_lives None consequent covered.1.1.0 apart.0)
          (statement_lives None alternate covered.1.1.1.0 apart.1)
      statement_lives own (Node at word.While (Then condition (Then body End))) covered dead =
          in_two (held_in names condition) (live_in names None body) (code condition) (code body ++ []) (held_either condition covered.1.0)
          (at_end (live_in names None body) (code body) (statement_lives None body covered.1.1.0 dead))
      statement_lives own (Node at word.Dowhile (Then body (Then condition End))) covered dead =
          let tested : Bool = goes_on own (lives None body).outs in
          let apart = dead_apart (dead_in None body) (parts_if (not tested) condition) dead in
          let test : List Held = if tested then held_in names condition else [] in
          in_two (live_in names None body) test (code body) (code condition ++ []) (statement_lives None body covered.1.0 apart.0)
          (at_end test (code condition) (where_live tested condition covered.1.1.0 apart.1))
      statement_lives own (Node at word.For (Then init (Then condition (Then update (Then body End))))) covered dead =
          let again : Bool = goes_on own (lives None body).outs in
          let apart = dead_apart (parts_if (not again) update) (dead_in None body) dead in
          for_lives init condition update body (if again then held_in names update else []) (held_either init covered.1.0)
          (held_either condition covered.1.1.0) (where_live again update covered.1.1.1.0 apart.0)
          (statement_lives None body covered.1.1.1.1.0 apart.1)
      statement_lives own (Node at word.Forin (Then head (Then right (Then body End)))) covered dead =
          in_three (held_in names head) (held_in names right) (live_in names None body) (code head) (code right) (code body)
          (held_either head covered.1.0) (held_either right covered.1.1.0) (statement_lives None body covered.1.1.1.0 dead)
      statement_lives own (Node at word.Forof (Then (Flag false) (Then head (Then right (Then body End))))) covered dead =
          in_three (held_in names head) (held_in names right) (live_in names None body) (code head) (code right) (code body)
          (held_either head covered.1.1.0) (held_either right covered.1.1.1.0) (statement_lives None body covered.1.1.1.1.0 dead)
      statement_lives own (Node at word.Switch (Then discriminant (Then (Listed cases) End))) covered dead =
          in_two (held_in names discriminant) (live_cases names cases) (code discriminant) (code_among cases ++ [])
          (held_either discriminant covered.1.0)
          (at_end (live_cases names cases) (code_among cases) (cases_live cases covered.1.1.0 dead))
      statement_lives own (Node at word.Try (Then block (Then (Node there word.Catch (Then param (Then body End))) (Then finalizer End))))
          covered dead =
          let handler : Syntax = Node there word.Catch (Then param (Then body End)) in
          let acts : Bool = (lives None block).acts in
          let apart = dead_apart (dead_in None block) (if acts then dead_in None body else handler ∷ []) dead in
          in_three (live_in names None block) (if acts then held_in names param ++ live_in names None body else [])
          (held_in names finalizer) (code block) (code handler) (code finalizer) (statement_lives None block covered.1.0 apart.0)
          (catch_lives acts there param body (held_either param covered.1.1.0.1.0) (statement_lives None body covered.1.1.0.1.1.0) apart.1)
          (held_either finalizer covered.1.1.1.0)
      statement_lives own (Node at word.Labeled (Then (Said label) (Then body End))) covered dead =
          at_end (live_in names (Some label) body) (code body) (statement_lives (Some label) body covered.1.1.0 dead)
      statement_lives own s covered dead = held_either s covered

      statements_live : (statements : Pieces) → AreCovered statements → AreDead (dead_among true statements)
          → AreEither (live_all names statements) (code_among statements)
      statements_live End covered dead = tt
      statements_live (Then s statements) covered dead =
          let apart = dead_apart (dead_in None s) (dead_among (lives None s).outs.falls statements) dead in
          keys_in_row (IsEither D (live_all names (Then s statements))) (code s) (code_among statements)
          (each_weaker _ _ (either_left D (live_in names None s) (if (lives None s).outs.falls then live_all names statements else []))
          (keys_of (code s))
          (statement_lives None s covered.0 apart.0))
          (each_weaker _ _ (either_right D (live_in names None s) (if (lives None s).outs.falls then live_all names statements else []))
          (keys_of (code_among statements))
          (by_end (statements_live statements covered.1) (lives None s).outs.falls apart.1))
        where
          by_end : (AreDead (dead_among true statements) → AreEither (live_all names statements) (code_among statements)) → (falls : Bool)
              → AreDead (dead_among falls statements)
              → AreEither (if falls then live_all names statements else []) (code_among statements)
          by_end live true dead = live dead
          by_end live false dead = each_weaker D (IsEither D []) (λ key d. inl d) (keys_of (code_among statements))
              (subst (λ (l : List Syntax). AllByRecursion D (keys_of l)) (dead_code statements) dead)

      -- The cases of a `switch`.
      cases_live : (cases : Pieces) → AreCovered cases → AreDead (dead_in_cases cases)
          → AreEither (live_cases names cases) (code_among cases)
      cases_live (Then (Node at word.Case (Then condition (Then (Listed statements) End))) cases) covered dead =
          let apart = dead_apart (dead_among true statements) (dead_in_cases cases) dead in
          in_two (held_in names condition ++ live_all names statements) (live_cases names cases)
          (code (Node at word.Case (Then condition (Then (Listed statements) End)))) (code_among cases)
          (in_two (held_in names condition) (live_all names statements) (code condition) (code_among statements ++ [])
          (held_either condition covered.0.1.0)
          (at_end (live_all names statements) (code_among statements) (statements_live statements covered.0.1.1.0 apart.0)))
          (cases_live cases covered.1 apart.1)
      cases_live cases covered dead =
          each_weaker (LivesOn (held_among names cases)) (IsEither D (held_among names cases)) (λ key l. inr l) (keys_of (code_among cases))
          (all_held_among cases covered)

    body_lives : (body : Syntax) → IsCovered body → HasTexts body → AreDead (dead_parts body)
        → AreEither (live_in_body names body) (code body)
    body_lives (Node at word.Body (Then directives (Then (Listed statements) End))) covered texts dead =
        subst (AreEither (live_all names statements))
        (sym (ap (λ (l : List Syntax). l ++ (code_among statements ++ [])) texts ∙ append-nil (code_among statements)))
        (statements_live statements covered.1.1.0 dead)
    body_lives body covered texts dead = held_either body covered

-- Each counted node of a covered function is a node of a dead part, or one of the nodes of its parameters and its body that a run may
-- reach.
pub counted_lives : (names : Names) (f : Syntax) → IsCoveredFunction f → fits_function f ≡ true
    → All (λ key. Contains (dead_nodes f) key ⊎ LivesOn (held_in names (params_in f) ++ live_in_body names (body_in f)) key) (counted_in f)
counted_lives names f covered fit =
    All-from_recursion (IsEither dead nodes) (counted_in f)
    (in_two names methods dead (held_in names (params_in f)) (live_in_body names (body_in f)) (code (params_in f)) (code (body_in f))
    (held_either names methods dead (params_in f) (params_covered f covered))
    (body_lives names methods dead (body_in f) (body_covered f covered) (function_texts f fit)
    (recursion_from_All dead (dead_nodes f) (All-contains_itself (dead_nodes f)))))
  where
    methods : List ℕ
    methods = flat method_at (code_of f)

    dead : Counted → Type 0
    dead key = Contains (dead_nodes f) key

    nodes : List Held
    nodes = held_in names (params_in f) ++ live_in_body names (body_in f)
