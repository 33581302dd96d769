-- The first stop of a `switch`, of its cases, and of a `try`, by their forms.
use Rattle.std.proofs.Common.{◌≡◌, ◌<◌, ◌+◌, false, Option, Some, None, List, ◌∷◌, ap, sym, refl, ◌∙◌, arith}
use Rattle.std.proofs.lemmas.Option.{some_pair_parts}
use Rattle.std.specs.Option.{option_or}
use Rattle.rl_base.specs.declared.diagnostic.Diagnostic.{Diagnostic}
use Rattle.rl_model.specs.Actions.{Label}
use Rattle.rl_names.specs.Names.{Names}
use Rattle.rl_promises.specs.Jumps.{Around, InSwitch}
use Rattle.rl_promises.specs.PartForms.{case_in, catch_in, tree_and_list}
use Rattle.rl_promises.specs.Patterns.{stop_of_caught}
use Rattle.rl_promises.specs.Stops.{first_stop, stop_among, stop_in, stop_in_case, stop_in_cases}
use Rattle.rl_syntax.specs.Shapes.{is_three}
use Rattle.rl_syntax.specs.Sizes.{size, size_of}
use Rattle.rl_syntax.specs.Syntax.{Syntax, Node, Listed, Pieces, End, Then}
use Rattle.rl_syntax.specs.declared.numbered.At.{At}
use Rattle.rl_syntax.specs.declared.word.Word.TheVariants as word

-- A case by its test and statements.
case_is : (t condition : Syntax) (statements : Pieces) → Some (condition, statements) ≡ case_in t
    → (at : At) × (t ≡ Node at word.Case (Then condition (Then (Listed statements) End)))
case_is (Node at word.Case (Then c (Then (Listed ss) End))) condition statements is =
    let both = some_pair_parts condition c statements ss is in
    (at, λ i. Node at word.Case (Then (sym both.0 i) (Then (Listed (sym both.1 i)) End)))
case_is _ condition statements is = absurd (cc)

pub case_stop : (n : Names) (around : List Around) (t condition : Syntax) (statements : Pieces) (r : Option Diagnostic)
    → Some (condition, statements) ≡ case_in t → r ≡ option_or (stop_among n around statements) (first_stop n condition)
    → r ≡ stop_in_case n around t
case_stop n around t condition statements r is e = e ∙ ap (stop_in_case n around) (sym (case_is t condition statements is).1)

pub case_none : (n : Names) (around : List Around) (t : Syntax) → None ≡ case_in t → None ≡ stop_in_case n around t
case_none n around (Node at word.Case (Then c (Then (Listed ss) End))) none = absurd (cc)
case_none n around _ none = refl

pub case_smaller : (t condition : Syntax) (statements : Pieces) → Some (condition, statements) ≡ case_in t
    → size condition + size_of statements + 1 < size t
case_smaller t condition statements is = omega (arith, ap size (case_is t condition statements is).1)

pub ruleset one_case = (case_stop, case_none, case_smaller)

-- Cases in a row: the last one that has a stop.

or_none : {X : Type 0} (a : Option X) → option_or a None ≡ a
or_none None = refl
or_none (Some x) = refl

or_found : {X : Type 0} (a : Option X) (x : X) (before : Option X) → option_or (option_or a (Some x)) before ≡ option_or a (Some x)
or_found None x before = refl
or_found (Some y) x before = refl

pub cases_begin : (n : Names) (around : List Around) (cases : Pieces)
    → option_or (stop_in_cases n around cases) None ≡ stop_in_cases n around cases
cases_begin n around cases = or_none (stop_in_cases n around cases)

pub case_found : (n : Names) (around : List Around) (case : Syntax) (cases : Pieces) (d : Diagnostic) (before r : Option Diagnostic)
    → Some d ≡ stop_in_case n around case → option_or (stop_in_cases n around (Then case cases)) before ≡ r
    → option_or (stop_in_cases n around cases) (Some d) ≡ r
case_found n around case cases d before r found e =
    sym (or_found (stop_in_cases n around cases) d before)
    ∙ ap (λ (o : Option Diagnostic). option_or (option_or (stop_in_cases n around cases) o) before) found ∙ e

pub case_behind : (n : Names) (around : List Around) (case : Syntax) (cases : Pieces) (before r : Option Diagnostic)
    → None ≡ stop_in_case n around case → option_or (stop_in_cases n around (Then case cases)) before ≡ r
    → option_or (stop_in_cases n around cases) before ≡ r
case_behind n around case cases before r none e =
    ap (λ (o : Option Diagnostic). option_or o before)
    (sym (or_none (stop_in_cases n around cases)) ∙ ap (option_or (stop_in_cases n around cases)) none) ∙ e

pub ruleset in_cases = (cases_begin, case_found, case_behind)

-- A `switch` and a `try` by their parts.

pub switch_stop : (n : Names) (around : List Around) (own : Label) (at : At) (ps : Pieces) (discriminant : Syntax) (cases : Pieces)
    (r : Option Diagnostic) → Some (discriminant, cases) ≡ tree_and_list ps
    → r ≡ option_or (stop_in_cases n (InSwitch own ∷ around) cases) (first_stop n discriminant)
    → r ≡ stop_in n around own (Node at word.Switch ps)
switch_stop n around own at (Then d (Then (Listed cs) End)) discriminant cases r is e =
    let both = some_pair_parts discriminant d cases cs is in
    e ∙ (λ i. option_or (stop_in_cases n (InSwitch own ∷ around) (both.1 i)) (first_stop n (both.0 i)))
switch_stop n around own at _ discriminant cases r is e = absurd (cc)

pub switch_other : (n : Names) (around : List Around) (own : Label) (at : At) (ps : Pieces) (r : Option Diagnostic)
    → None ≡ tree_and_list ps → r ≡ first_stop n (Node at word.Switch ps) → r ≡ stop_in n around own (Node at word.Switch ps)
switch_other n around own at (Then d (Then (Listed cs) End)) r none e = absurd (cc)
switch_other n around own at _ r none e = e

pub switch_smaller : (ps : Pieces) (discriminant : Syntax) (cases : Pieces) → Some (discriminant, cases) ≡ tree_and_list ps
    → size discriminant + size_of cases + 1 < size_of ps
switch_smaller (Then d (Then (Listed cs) End)) discriminant cases is =
    let both = some_pair_parts discriminant d cases cs is in omega (arith, ap size both.0, ap size_of both.1)
switch_smaller _ discriminant cases is = absurd (cc)

catch_is : (t param body : Syntax) → Some (param, body) ≡ catch_in t → (at : At) × (t ≡ Node at word.Catch (Then param (Then body End)))
catch_is (Node at word.Catch (Then p (Then b End))) param body is =
    let both = some_pair_parts param p body b is in
    (at, λ i. Node at word.Catch (Then (sym both.0 i) (Then (sym both.1 i) End)))
catch_is _ param body is = absurd (cc)

pub try_stop : (n : Names) (around : List Around) (own : Label) (at : At) (ps : Pieces) (block handler finalizer param body : Syntax)
    (r : Option Diagnostic) → ps ≡ Then block (Then handler (Then finalizer End)) → Some (param, body) ≡ catch_in handler
    → r ≡ option_or (stop_of_caught param)
    (option_or (first_stop n param) (option_or (stop_in n around None body) (stop_in n around None block)))
    → r ≡ stop_in n around own (Node at word.Try ps)
try_stop n around own at ps block handler finalizer param body r is caught e =
    e ∙ ap (λ q. stop_in n around own (Node at word.Try q))
    (sym (is ∙ ap (λ (h : Syntax). Then block (Then h (Then finalizer End))) (catch_is handler param body caught).1))

-- Nothing is lowered of a `try` without a `catch`.

pub try_uncaught : (n : Names) (around : List Around) (own : Label) (at : At) (ps : Pieces) (block handler finalizer : Syntax)
    → ps ≡ Then block (Then handler (Then finalizer End)) → None ≡ catch_in handler → None ≡ stop_in n around own (Node at word.Try ps)
try_uncaught n around own at (Then b (Then (Node there word.Catch (Then p (Then body End))) (Then f End))) block handler finalizer is none =
    absurd (let same : handler ≡ Node there word.Catch (Then p (Then body End)) = cc in cc)
try_uncaught n around own at _ block handler finalizer is none = refl

pub try_other : (n : Names) (around : List Around) (own : Label) (at : At) (ps : Pieces) → is_three ps ≡ false
    → None ≡ stop_in n around own (Node at word.Try ps)
try_other n around own at (Then b (Then h (Then f End))) other = absurd (cc)
try_other n around own at (Then b (Then (Node there word.Catch (Then p (Then body End))) rest)) other = refl
try_other n around own at _ other = refl

pub try_smaller : (ps : Pieces) (block handler finalizer param body : Syntax) → ps ≡ Then block (Then handler (Then finalizer End))
    → Some (param, body) ≡ catch_in handler → size block + size param + size body < size_of ps
try_smaller ps block handler finalizer param body is caught =
    omega (arith, ap size_of is, ap size (catch_is handler param body caught).1)

pub ruleset switches = (switch_stop, switch_other, switch_smaller, try_stop, try_uncaught, try_other, try_smaller)
