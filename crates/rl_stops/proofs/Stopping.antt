-- The first stop of a node, by its word and the form of its parts.
use Rattle.std.proofs.Common.{◌≡◌, ◌<◌, ◌+◌, ℕ, Bool, true, false, if◌then◌else◌, Option, Some, None, List, codes, ap, sym, refl, ◌∙◌}
use Rattle.std.proofs.Common.{arith}
use Rattle.std.proofs.lemmas.Option.{some_pair_parts}
use Rattle.std.specs.Option.{option_or}
use Rattle.std.specs.Str.{bytes_eq}
use Rattle.rl_base.specs.declared.diagnostic.Diagnostic.{Diagnostic}
use Rattle.rl_base.specs.declared.ids.SymbolId.{SymbolId}
use Rattle.rl_model.specs.Shapes.{are_raw, is_logical}
use Rattle.rl_names.specs.Names.{Names, local_of}
use Rattle.rl_promises.specs.Outs.{is_known_key, is_lost_delete, is_wrapped}
use Rattle.rl_promises.specs.PartForms.{is_flag_and_trees, is_text_ahead, is_text_alone, is_text_and_tree, template_lists, two_lists}
use Rattle.rl_promises.specs.Patterns.{is_pattern}
use Rattle.rl_promises.specs.Stops.{first_among, first_stop, stop_at, stop_of_local}
use Rattle.rl_syntax.specs.Shapes.{is_three, is_two}
use Rattle.rl_syntax.specs.Sizes.{size, size_of}
use Rattle.rl_syntax.specs.Syntax.{Syntax, Node, Listed, Said, Flag, Pieces, End, Then}
use Rattle.rl_syntax.specs.declared.numbered.At.{At}
use Rattle.rl_syntax.specs.declared.word.Word.{Word}
use Rattle.rl_syntax.specs.declared.word.Word.TheVariants as word

-- Names.
pub id_stop : (n : Names) (at : At) (ps : Pieces) (name : List ℕ) (local : Option SymbolId) (r : Option Diagnostic)
    → ps ≡ Then (Said name) End → local ≡ local_of (n.meaning at.reference.0 name) → r ≡ stop_of_local n local at.span
    → r ≡ first_stop n (Node at word.Id ps)
id_stop n at ps name local r is named e =
    e ∙ ap (λ o. stop_of_local n o at.span) named ∙ ap (λ q. first_stop n (Node at word.Id q)) (sym is)

pub id_parts : (n : Names) (at : At) (ps : Pieces) (r : Option Diagnostic) → is_text_alone ps ≡ false → r ≡ first_among n ps
    → r ≡ first_stop n (Node at word.Id ps)
id_parts n at (Then (Said name) End) r other e = absurd (cc)
id_parts n at _ r other e = e

pub bind_stop : (n : Names) (at : At) (ps rest : Pieces) (name : List ℕ) (local : Option SymbolId) (r : Option Diagnostic)
    → ps ≡ Then (Said name) rest → local ≡ n.declared at.id.0 → r ≡ stop_of_local n local at.span → r ≡ first_stop n (Node at word.Bind ps)
bind_stop n at ps rest name local r is named e =
    e ∙ ap (λ o. stop_of_local n o at.span) named ∙ ap (λ q. first_stop n (Node at word.Bind q)) (sym is)

pub bind_parts : (n : Names) (at : At) (ps : Pieces) (r : Option Diagnostic) → is_text_ahead ps ≡ false → r ≡ first_among n ps
    → r ≡ first_stop n (Node at word.Bind ps)
bind_parts n at (Then (Said name) rest) r other e = absurd (cc)
bind_parts n at _ r other e = e

pub ruleset names = (id_stop, id_parts, bind_stop, bind_parts)

-- Nodes whose parts are lowered in another order.
pub cond_stop : (n : Names) (at : At) (ps : Pieces) (a b c : Syntax) (r : Option Diagnostic) → ps ≡ Then a (Then b (Then c End))
    → r ≡ option_or (first_stop n b) (option_or (first_stop n c) (first_stop n a)) → r ≡ first_stop n (Node at word.Cond ps)
cond_stop n at ps a b c r is e = e ∙ ap (λ q. first_stop n (Node at word.Cond q)) (sym is)

pub cond_parts : (n : Names) (at : At) (ps : Pieces) (r : Option Diagnostic) → is_three ps ≡ false → r ≡ first_among n ps
    → r ≡ first_stop n (Node at word.Cond ps)
cond_parts n at (Then a (Then b (Then c End))) r other e = absurd (cc)
cond_parts n at _ r other e = e

pub logical_stop : (n : Names) (at : At) (ps rest : Pieces) (operator : List ℕ) (a b : Syntax) (r : Option Diagnostic)
    → ps ≡ Then (Said operator) rest → rest ≡ Then a (Then b End) → r ≡ option_or (first_stop n b) (first_stop n a)
    → r ≡ first_stop n (Node at word.Logical ps)
logical_stop n at ps rest operator a b r is both e =
    e ∙ ap (λ q. first_stop n (Node at word.Logical q)) (sym (is ∙ ap (Then (Said operator)) both))

pub logical_other : (n : Names) (at : At) (ps rest : Pieces) (operator : List ℕ) (r : Option Diagnostic) → ps ≡ Then (Said operator) rest
    → is_two rest ≡ false → r ≡ first_among n ps → r ≡ first_stop n (Node at word.Logical ps)
logical_other n at (Then (Said text) (Then a (Then b End))) rest operator r is other e =
    absurd (let same : rest ≡ Then a (Then b End) = cc in cc)
logical_other n at _ rest operator r is other e = e

pub logical_parts : (n : Names) (at : At) (ps : Pieces) (r : Option Diagnostic) → is_text_ahead ps ≡ false → r ≡ first_among n ps
    → r ≡ first_stop n (Node at word.Logical ps)
logical_parts n at (Then (Said operator) (Then a (Then b End))) r other e = absurd (cc)
logical_parts n at _ r other e = e

pub declarator_stop : (n : Names) (at : At) (ps : Pieces) (a b : Syntax) (r : Option Diagnostic) → ps ≡ Then a (Then b End)
    → r ≡ option_or (first_stop n b) (first_stop n a) → r ≡ first_stop n (Node at word.Declarator ps)
declarator_stop n at ps a b r is e = e ∙ ap (λ q. first_stop n (Node at word.Declarator q)) (sym is)

pub declarator_parts : (n : Names) (at : At) (ps : Pieces) (r : Option Diagnostic) → is_two ps ≡ false → r ≡ first_among n ps
    → r ≡ first_stop n (Node at word.Declarator ps)
declarator_parts n at (Then a (Then b End)) r other e = absurd (cc)
declarator_parts n at _ r other e = e

pub ruleset reordered = (cond_stop, cond_parts, logical_stop, logical_other, logical_parts, declarator_stop, declarator_parts)

-- Nodes of which parts are left out.
pub instantiate_stop : (n : Names) (at : At) (ps rest : Pieces) (a : Syntax) (r : Option Diagnostic) → ps ≡ Then a rest
    → r ≡ first_stop n a → r ≡ first_stop n (Node at word.Instantiate ps)
instantiate_stop n at ps rest a r is e = e ∙ ap (λ q. first_stop n (Node at word.Instantiate q)) (sym is)

pub instantiate_none : (n : Names) (at : At) (ps : Pieces) → ps ≡ End → None ≡ first_stop n (Node at word.Instantiate ps)
instantiate_none n at ps is = ap (λ q. first_stop n (Node at word.Instantiate q)) (sym is)

pub unary_lost : (n : Names) (at : At) (ps : Pieces) (operator : List ℕ) (a : Syntax) → ps ≡ Then (Said operator) (Then a End)
    → is_lost_delete operator a ≡ true → None ≡ first_stop n (Node at word.Unary ps)
unary_lost n at ps operator a is lost =
    sym (ap (λ q. first_stop n (Node at word.Unary q)) is ∙ ap (λ (b : Bool). if b then None else first_stop n a) lost)

pub unary_stop : (n : Names) (at : At) (ps : Pieces) (operator : List ℕ) (a : Syntax) (r : Option Diagnostic)
    → ps ≡ Then (Said operator) (Then a End) → is_lost_delete operator a ≡ false → r ≡ first_stop n a
    → r ≡ first_stop n (Node at word.Unary ps)
unary_stop n at ps operator a r is lost e =
    e ∙ sym (ap (λ q. first_stop n (Node at word.Unary q)) is ∙ ap (λ (b : Bool). if b then None else first_stop n a) lost)

pub unary_parts : (n : Names) (at : At) (ps : Pieces) (r : Option Diagnostic) → is_text_and_tree ps ≡ false → r ≡ first_among n ps
    → r ≡ first_stop n (Node at word.Unary ps)
unary_parts n at (Then (Said operator) (Then a End)) r other e = absurd (cc)
unary_parts n at _ r other e = e

pub update_wrapped : (n : Names) (at : At) (ps : Pieces) (a b c : Syntax) → ps ≡ Then a (Then b (Then c End)) → is_wrapped c ≡ true
    → None ≡ first_stop n (Node at word.Update ps)
update_wrapped n at ps a b c is wrapped =
    sym (ap (λ q. first_stop n (Node at word.Update q)) is ∙ ap (λ (b : Bool). if b then None else first_stop n c) wrapped)

pub update_stop : (n : Names) (at : At) (ps : Pieces) (a b c : Syntax) (r : Option Diagnostic) → ps ≡ Then a (Then b (Then c End))
    → is_wrapped c ≡ false → r ≡ first_stop n c → r ≡ first_stop n (Node at word.Update ps)
update_stop n at ps a b c r is wrapped e =
    e ∙ sym (ap (λ q. first_stop n (Node at word.Update q)) is ∙ ap (λ (b : Bool). if b then None else first_stop n c) wrapped)

pub update_parts : (n : Names) (at : At) (ps : Pieces) (r : Option Diagnostic) → is_three ps ≡ false → r ≡ first_among n ps
    → r ≡ first_stop n (Node at word.Update ps)
update_parts n at (Then a (Then b (Then c End))) r other e = absurd (cc)
update_parts n at _ r other e = e

pub ruleset unaries =
    (instantiate_stop, instantiate_none, unary_lost, unary_stop, unary_parts, update_wrapped, update_stop, update_parts)

-- Assignments, by their operators.
assign_is : (n : Names) (at : At) (ps rest : Pieces) (operator : List ℕ) (a b : Syntax) (plain : Bool) → ps ≡ Then (Said operator) rest
    → rest ≡ Then a (Then b End) → bytes_eq operator (codes "=") ≡ plain
    → first_stop n (Node at word.Assign ps)
    ≡ (if plain then option_or (first_stop n b) (stop_at n a)
    else if is_logical operator then None else if is_pattern a then None else option_or (first_stop n a) (first_stop n b))
assign_is n at ps rest operator a b plain is both told =
    ap (λ q. first_stop n (Node at word.Assign q)) (is ∙ ap (Then (Said operator)) both)
    ∙ ap (λ (t : Bool). if t then option_or (first_stop n b) (stop_at n a)
    else if is_logical operator then None else if is_pattern a then None else option_or (first_stop n a) (first_stop n b)) told

pub assign_plain : (n : Names) (at : At) (ps rest : Pieces) (operator : List ℕ) (a b : Syntax) (r : Option Diagnostic)
    → ps ≡ Then (Said operator) rest → rest ≡ Then a (Then b End) → bytes_eq operator (codes "=") ≡ true
    → r ≡ option_or (first_stop n b) (stop_at n a) → r ≡ first_stop n (Node at word.Assign ps)
assign_plain n at ps rest operator a b r is both told e = e ∙ sym (assign_is n at ps rest operator a b true is both told)

pub assign_logical : (n : Names) (at : At) (ps rest : Pieces) (operator : List ℕ) (a b : Syntax)
    → ps ≡ Then (Said operator) rest → rest ≡ Then a (Then b End) → bytes_eq operator (codes "=") ≡ false → is_logical operator ≡ true
    → None ≡ first_stop n (Node at word.Assign ps)
assign_logical n at ps rest operator a b is both told logical =
    sym (assign_is n at ps rest operator a b false is both told
    ∙ ap (λ (t : Bool). if t then None else if is_pattern a then None else option_or (first_stop n a) (first_stop n b)) logical)

assign_applied : (n : Names) (at : At) (ps rest : Pieces) (operator : List ℕ) (a b : Syntax)
    → ps ≡ Then (Said operator) rest → rest ≡ Then a (Then b End) → bytes_eq operator (codes "=") ≡ false → is_logical operator ≡ false
    → first_stop n (Node at word.Assign ps) ≡ (if is_pattern a then None else option_or (first_stop n a) (first_stop n b))
assign_applied n at ps rest operator a b is both told logical =
    assign_is n at ps rest operator a b false is both told
    ∙ ap (λ (t : Bool). if t then None else if is_pattern a then None else option_or (first_stop n a) (first_stop n b)) logical

pub assign_pattern : (n : Names) (at : At) (ps rest : Pieces) (operator : List ℕ) (a b : Syntax)
    → ps ≡ Then (Said operator) rest → rest ≡ Then a (Then b End) → bytes_eq operator (codes "=") ≡ false → is_logical operator ≡ false
    → is_pattern a ≡ true → None ≡ first_stop n (Node at word.Assign ps)
assign_pattern n at ps rest operator a b is both told logical apart =
    sym (assign_applied n at ps rest operator a b is both told logical
    ∙ ap (λ (t : Bool). if t then None else option_or (first_stop n a) (first_stop n b)) apart)

pub assign_compound : (n : Names) (at : At) (ps rest : Pieces) (operator : List ℕ) (a b : Syntax) (r : Option Diagnostic)
    → ps ≡ Then (Said operator) rest → rest ≡ Then a (Then b End) → bytes_eq operator (codes "=") ≡ false → is_logical operator ≡ false
    → is_pattern a ≡ false → r ≡ option_or (first_stop n a) (first_stop n b) → r ≡ first_stop n (Node at word.Assign ps)
assign_compound n at ps rest operator a b r is both told logical apart e =
    e ∙ sym (assign_applied n at ps rest operator a b is both told logical
    ∙ ap (λ (t : Bool). if t then None else option_or (first_stop n a) (first_stop n b)) apart)

pub assign_other : (n : Names) (at : At) (ps rest : Pieces) (operator : List ℕ) (r : Option Diagnostic) → ps ≡ Then (Said operator) rest
    → is_two rest ≡ false → r ≡ first_among n ps → r ≡ first_stop n (Node at word.Assign ps)
assign_other n at (Then (Said text) (Then a (Then b End))) rest operator r is other e =
    absurd (let same : rest ≡ Then a (Then b End) = cc in cc)
assign_other n at _ rest operator r is other e = e

pub assign_parts : (n : Names) (at : At) (ps : Pieces) (r : Option Diagnostic) → is_text_ahead ps ≡ false → r ≡ first_among n ps
    → r ≡ first_stop n (Node at word.Assign ps)
assign_parts n at (Then (Said operator) (Then a (Then b End))) r other e = absurd (cc)
assign_parts n at _ r other e = e

pub ruleset assignments = (assign_plain, assign_logical, assign_pattern, assign_compound, assign_other, assign_parts)

-- A template by its lists.
template_is : (t : Syntax) (quasis expressions : Pieces) → Some (quasis, expressions) ≡ template_lists t
    → (there : At) × (t ≡ Node there word.Template (Then (Listed quasis) (Then (Listed expressions) End)))
template_is (Node there word.Template (Then (Listed qs) (Then (Listed es) End))) quasis expressions is =
    let both = some_pair_parts quasis qs expressions es is in (
      there,
      ap (λ q. Node there word.Template (Then (Listed q) (Then (Listed es) End))) (sym both.0)
          ∙ ap (λ q. Node there word.Template (Then (Listed quasis) (Then (Listed q) End))) (sym both.1),
    )
template_is _ quasis expressions is = absurd (cc)

tagged_is : (n : Names) (at : At) (ps : Pieces) (tag t : Syntax) (quasis expressions : Pieces) → ps ≡ Then tag (Then t End)
    → Some (quasis, expressions) ≡ template_lists t
    → first_stop n (Node at word.Tagged ps)
    ≡ (if are_raw quasis then option_or (first_stop n tag) (first_among n expressions) else None)
tagged_is n at ps tag t quasis expressions is lists =
    ap (λ q. first_stop n (Node at word.Tagged q)) is
    ∙ ap (λ q. first_stop n (Node at word.Tagged (Then tag (Then q End)))) (template_is t quasis expressions lists).1

pub tagged_cooked : (n : Names) (at : At) (ps : Pieces) (tag t : Syntax) (quasis expressions : Pieces) → ps ≡ Then tag (Then t End)
    → Some (quasis, expressions) ≡ template_lists t → are_raw quasis ≡ false → None ≡ first_stop n (Node at word.Tagged ps)
tagged_cooked n at ps tag t quasis expressions is lists cooked =
    sym (tagged_is n at ps tag t quasis expressions is lists
    ∙ ap (λ (b : Bool). if b then option_or (first_stop n tag) (first_among n expressions) else None) cooked)

pub tagged_stop : (n : Names) (at : At) (ps : Pieces) (tag t : Syntax) (quasis expressions : Pieces) (r : Option Diagnostic)
    → ps ≡ Then tag (Then t End) → Some (quasis, expressions) ≡ template_lists t → are_raw quasis ≡ true
    → r ≡ option_or (first_stop n tag) (first_among n expressions) → r ≡ first_stop n (Node at word.Tagged ps)
tagged_stop n at ps tag t quasis expressions r is lists raw e =
    e ∙ sym (tagged_is n at ps tag t quasis expressions is lists
    ∙ ap (λ (b : Bool). if b then option_or (first_stop n tag) (first_among n expressions) else None) raw)

-- A tag behind which no template stands.
not_lists : (n : Names) (at there : At) (tag : Syntax) (parts : Pieces) → None ≡ two_lists parts
    → first_among n (Then tag (Then (Node there word.Template parts) End))
    ≡ first_stop n (Node at word.Tagged (Then tag (Then (Node there word.Template parts) End)))
not_lists n at there tag (Then (Listed qs) (Then (Listed es) End)) none = absurd (cc)
not_lists n at there tag _ none = refl

not_template : (n : Names) (at : At) (tag t : Syntax) → None ≡ template_lists t
    → first_among n (Then tag (Then t End)) ≡ first_stop n (Node at word.Tagged (Then tag (Then t End)))
not_template n at tag (Node there word.Template parts) none = not_lists n at there tag parts none
not_template n at tag _ none = refl

pub tagged_other : (n : Names) (at : At) (ps : Pieces) (tag t : Syntax) (r : Option Diagnostic) → ps ≡ Then tag (Then t End)
    → None ≡ template_lists t → r ≡ first_among n ps → r ≡ first_stop n (Node at word.Tagged ps)
tagged_other n at ps tag t r is none e =
    e ∙ ap (first_among n) is ∙ not_template n at tag t none ∙ ap (λ q. first_stop n (Node at word.Tagged q)) (sym is)

pub tagged_parts : (n : Names) (at : At) (ps : Pieces) (r : Option Diagnostic) → is_two ps ≡ false → r ≡ first_among n ps
    → r ≡ first_stop n (Node at word.Tagged ps)
tagged_parts n at (Then a (Then b End)) r other e = absurd (cc)
tagged_parts n at (Then a (Then (Node there word.Template (Then (Listed quasis) (Then (Listed expressions) End))) (Then c ps))) r other e =
    e
tagged_parts n at _ r other e = e

pub ruleset tags = (tagged_cooked, tagged_stop, tagged_other, tagged_parts)

prop_is : (n : Names) (at : At) (ps : Pieces) (computed : Bool) (key expression : Syntax)
    → ps ≡ Then (Flag computed) (Then key (Then expression End))
    → first_stop n (Node at word.Prop ps)
    ≡ (if is_known_key computed key then option_or (first_stop n key) (first_stop n expression) else None)
prop_is n at ps computed key expression is = ap (λ q. first_stop n (Node at word.Prop q)) is

pub prop_unknown : (n : Names) (at : At) (ps : Pieces) (computed : Bool) (key expression : Syntax)
    → ps ≡ Then (Flag computed) (Then key (Then expression End)) → is_known_key computed key ≡ false
    → None ≡ first_stop n (Node at word.Prop ps)
prop_unknown n at ps computed key expression is known =
    sym (prop_is n at ps computed key expression is
    ∙ ap (λ (b : Bool). if b then option_or (first_stop n key) (first_stop n expression) else None) known)

pub prop_stop : (n : Names) (at : At) (ps : Pieces) (computed : Bool) (key expression : Syntax) (r : Option Diagnostic)
    → ps ≡ Then (Flag computed) (Then key (Then expression End)) → is_known_key computed key ≡ true
    → r ≡ option_or (first_stop n key) (first_stop n expression) → r ≡ first_stop n (Node at word.Prop ps)
prop_stop n at ps computed key expression r is known e =
    e ∙ sym (prop_is n at ps computed key expression is
    ∙ ap (λ (b : Bool). if b then option_or (first_stop n key) (first_stop n expression) else None) known)

pub prop_parts : (n : Names) (at : At) (ps : Pieces) (r : Option Diagnostic) → is_flag_and_trees ps ≡ false → r ≡ first_among n ps
    → r ≡ first_stop n (Node at word.Prop ps)
prop_parts n at (Then (Flag computed) (Then key (Then expression End))) r other e = absurd (cc)
prop_parts n at _ r other e = e

pub ruleset props = (prop_unknown, prop_stop, prop_parts)

-- Parts in a node are smaller than all of its parts.
pub three_smaller : (ps : Pieces) (a b c : Syntax) → ps ≡ Then a (Then b (Then c End)) → size a + size b + size c < size_of ps
three_smaller ps a b c is = omega (arith, ap size_of is)

pub two_smaller : (ps : Pieces) (a b : Syntax) → ps ≡ Then a (Then b End) → size a + size b < size_of ps
two_smaller ps a b is = omega (arith, ap size_of is)

pub pair_smaller : (ps : Pieces) (text : List ℕ) (a : Syntax) → ps ≡ Then (Said text) (Then a End) → size a < size_of ps
pair_smaller ps text a is = omega (arith, ap size_of is)

pub operands_smaller : (ps rest : Pieces) (text : List ℕ) (a b : Syntax) → ps ≡ Then (Said text) rest → rest ≡ Then a (Then b End)
    → size a + size b < size_of ps
operands_smaller ps rest text a b is both = omega (arith, ap size_of is, ap size_of both)

pub prop_smaller : (ps : Pieces) (flag : Bool) (a b : Syntax) → ps ≡ Then (Flag flag) (Then a (Then b End)) → size a + size b < size_of ps
prop_smaller ps flag a b is = omega (arith, ap size_of is)

pub first_smaller : (ps rest : Pieces) (a : Syntax) → ps ≡ Then a rest → size a < size_of ps
first_smaller ps rest a is = omega (arith, ap size_of is)

pub tag_smaller : (ps : Pieces) (tag t : Syntax) (quasis expressions : Pieces) → ps ≡ Then tag (Then t End)
    → Some (quasis, expressions) ≡ template_lists t → size tag + size_of expressions < size_of ps
tag_smaller ps tag t quasis expressions is lists =
    omega (arith, ap size_of is, ap size (template_is t quasis expressions lists).1)

pub ruleset smaller = (three_smaller, two_smaller, pair_smaller, operands_smaller, prop_smaller, first_smaller, tag_smaller)

-- The first stop of trees, one behind another.
pub first_found : (d : Diagnostic) (a b : Option Diagnostic) → Some d ≡ a → Some d ≡ option_or a b
first_found d a b is = ap (λ o. option_or o b) is

pub none_first : (a b r : Option Diagnostic) → None ≡ a → r ≡ b → r ≡ option_or a b
none_first a b r is e = e ∙ ap (λ o. option_or o b) is

pub among_found : (n : Names) (t : Syntax) (ts : Pieces) (d : Diagnostic) → Some d ≡ first_stop n t → Some d ≡ first_among n (Then t ts)
among_found n t ts d is = ap (λ o. option_or o (first_among n ts)) is

pub among_behind : (n : Names) (t : Syntax) (ts : Pieces) → None ≡ first_stop n t → first_among n (Then t ts) ≡ first_among n ts
among_behind n t ts is = sym (ap (λ o. option_or o (first_among n ts)) is)

pub ruleset in_order = (first_found, none_first, among_found, among_behind)

-- A node by its word.
pub worded : (n : Names) (at : At) (ps : Pieces) (r : Option Diagnostic) (w v : Word) → w ≡ v → r ≡ first_stop n (Node at v ps)
    → r ≡ first_stop n (Node at w ps)
worded n at ps r w v is e = e ∙ ap (λ x. first_stop n (Node at x ps)) (sym is)
