-- The first stop of a pattern, and of a target that takes a piece of a value, by its word and the form of its parts.
use Rattle.std.proofs.Common.{◌≡◌, ◌<◌, ◌+◌, ℕ, Bool, true, false, not, if◌then◌else◌, Option, Some, None, List, ap, sym, refl, ◌∙◌}
use Rattle.std.proofs.Common.{arith, map}
use Rattle.std.proofs.lemmas.Option.{some_pair_parts}
use Rattle.std.specs.Option.{option_or}
use Rattle.rl_base.specs.declared.diagnostic.Diagnostic.{Diagnostic}
use Rattle.rl_base.specs.declared.ids.SymbolId.{SymbolId}
use Rattle.rl_base.specs.declared.span.Span.{Span}
use Rattle.rl_model.specs.Patterns.{is_turn}
use Rattle.rl_model.specs.Shapes.{is_plain_rest}
use Rattle.rl_names.specs.Names.{Names, local_of}
use Rattle.rl_promises.specs.PartForms.{is_text_alone, list_and_tree}
use Rattle.rl_promises.specs.PatternForms.{local_item, local_name, local_short, local_target, spanned}
use Rattle.rl_promises.specs.Patterns.{is_ahead, local_at, loses_item, target_under}
use Rattle.rl_promises.specs.StopForms.{in_array, in_object, stop_at_item, stop_at_local, stop_to_where, stop_where, to_array, to_defaulted, to_keyed, to_node}
use Rattle.rl_promises.specs.StopForms.{to_object, to_rest}
use Rattle.rl_promises.specs.Stops.{first_among, first_in_round, first_stop, stop_ahead, stop_of_local, stop_to, stop_to_all, stop_to_items}
use Rattle.rl_semantic.specs.Items.{of_item}
use Rattle.rl_syntax.specs.Shapes.{is_one, is_three, is_two}
use Rattle.rl_syntax.specs.Sizes.{size, size_of}
use Rattle.rl_syntax.specs.Syntax.{Syntax, Node, Listed, Said, Absent, Pieces, End, Then, pieces_of, span_of, syntax}
use Rattle.rl_syntax.specs.declared.numbered.At.{At}
use Rattle.rl_syntax.specs.declared.numbered.Numbered.{Numbered}
use Rattle.rl_syntax.specs.declared.numbered.Numbered.TheVariants as numbered
use Rattle.rl_syntax.specs.declared.word.Word.{Word}
use Rattle.rl_syntax.specs.declared.word.Word.TheVariants as word
use Rattle.rl_syntax.proofs.Layers.{syntax_node}

-- A list and a tree by what is seen of them.
list_is : (ps items : Pieces) (rest : Syntax) → Some (items, rest) ≡ list_and_tree ps → ps ≡ Then (Listed items) (Then rest End)
list_is (Then (Listed is) (Then r End)) items rest e =
    let both = some_pair_parts items is rest r e in
    ap (λ (q : Pieces). Then (Listed q) (Then r End)) (sym both.0) ∙ ap (λ (q : Syntax). Then (Listed items) (Then q End)) (sym both.1)
list_is _ items rest e = absurd (cc)

pub list_smaller : (ps items : Pieces) (rest : Syntax) → Some (items, rest) ≡ list_and_tree ps → size_of items + size rest < size_of ps
list_smaller ps items rest e = omega (arith, ap size_of (list_is ps items rest e))

-- Parameters and patterns with defaults.

pub param_stop : (n : Names) (at : At) (ps : Pieces) (a b : Syntax) (r : Option Diagnostic) → ps ≡ Then a (Then b End)
    → r ≡ option_or (first_stop n b) (first_stop n a) → r ≡ first_stop n (Node at word.Param ps)
param_stop n at ps a b r is e = e ∙ ap (λ q. first_stop n (Node at word.Param q)) (sym is)

pub param_parts : (n : Names) (at : At) (ps : Pieces) (r : Option Diagnostic) → is_two ps ≡ false → r ≡ first_among n ps
    → r ≡ first_stop n (Node at word.Param ps)
param_parts n at (Then a (Then b End)) r other e = absurd (cc)
param_parts n at _ r other e = e

pub default_stop : (n : Names) (at : At) (ps : Pieces) (a b : Syntax) (r : Option Diagnostic) → ps ≡ Then a (Then b End)
    → r ≡ option_or (first_stop n b) (first_stop n a) → r ≡ first_stop n (Node at word.Defaultpat ps)
default_stop n at ps a b r is e = e ∙ ap (λ q. first_stop n (Node at word.Defaultpat q)) (sym is)

pub default_parts : (n : Names) (at : At) (ps : Pieces) (r : Option Diagnostic) → is_two ps ≡ false → r ≡ first_among n ps
    → r ≡ first_stop n (Node at word.Defaultpat ps)
default_parts n at (Then a (Then b End)) r other e = absurd (cc)
default_parts n at _ r other e = e

-- Properties of patterns.

keyed_is : (n : Names) (at : At) (ps : Pieces) (a b c : Syntax) (test : Bool) → ps ≡ Then a (Then b (Then c End)) → loses_item a b ≡ test
    → first_stop n (Node at word.Keyedpat ps) ≡ (if test then None else first_stop n c)
keyed_is n at ps a b c test is told =
    ap (λ q. first_stop n (Node at word.Keyedpat q)) is ∙ ap (λ (t : Bool). if t then None else first_stop n c) told

pub keyed_lost : (n : Names) (at : At) (ps : Pieces) (a b c : Syntax) → ps ≡ Then a (Then b (Then c End)) → loses_item a b ≡ true
    → None ≡ first_stop n (Node at word.Keyedpat ps)
keyed_lost n at ps a b c is told = sym (keyed_is n at ps a b c true is told)

pub keyed_stop : (n : Names) (at : At) (ps : Pieces) (a b c : Syntax) (r : Option Diagnostic) → ps ≡ Then a (Then b (Then c End))
    → loses_item a b ≡ false → r ≡ first_stop n c → r ≡ first_stop n (Node at word.Keyedpat ps)
keyed_stop n at ps a b c r is told e = e ∙ sym (keyed_is n at ps a b c false is told)

pub keyed_parts : (n : Names) (at : At) (ps : Pieces) (r : Option Diagnostic) → is_three ps ≡ false → r ≡ first_among n ps
    → r ≡ first_stop n (Node at word.Keyedpat ps)
keyed_parts n at (Then a (Then b (Then c End))) r other e = absurd (cc)
keyed_parts n at _ r other e = e

-- Arrays and objects.

where_not : (test : Bool) (o : Option Diagnostic) → (if not test then o else None) ≡ (if test then None else o)
where_not true o = refl
where_not false o = refl

array_is : (n : Names) (at : At) (items : Pieces) (rest : Syntax)
    → in_array n items rest ≡ first_stop n (Node at word.Arraypat (Then (Listed items) (Then rest End)))
array_is n at items rest =
    ap (λ (o : Option Diagnostic). option_or (first_in_round n true items)
    (option_or (stop_where n (is_ahead rest) rest) (option_or (first_in_round n false items) o)))
    (where_not (is_ahead rest) (first_stop n rest))

pub array_stop : (n : Names) (at : At) (ps items : Pieces) (rest : Syntax) (r : Option Diagnostic) → Some (items, rest) ≡ list_and_tree ps
    → r ≡ in_array n items rest → r ≡ first_stop n (Node at word.Arraypat ps)
array_stop n at ps items rest r is e =
    e ∙ array_is n at items rest ∙ ap (λ q. first_stop n (Node at word.Arraypat q)) (sym (list_is ps items rest is))

pub array_parts : (n : Names) (at : At) (ps : Pieces) (r : Option Diagnostic) → None ≡ list_and_tree ps → r ≡ first_among n ps
    → r ≡ first_stop n (Node at word.Arraypat ps)
array_parts n at (Then (Listed items) (Then rest End)) r other e = absurd (cc)
array_parts n at _ r other e = e

pub object_stop : (n : Names) (at : At) (ps items : Pieces) (rest : Syntax) (r : Option Diagnostic) → Some (items, rest) ≡ list_and_tree ps
    → r ≡ in_object n items rest → r ≡ first_stop n (Node at word.Objectpat ps)
object_stop n at ps items rest r is e = e ∙ ap (λ q. first_stop n (Node at word.Objectpat q)) (sym (list_is ps items rest is))

pub object_parts : (n : Names) (at : At) (ps : Pieces) (r : Option Diagnostic) → None ≡ list_and_tree ps → r ≡ first_among n ps
    → r ≡ first_stop n (Node at word.Objectpat ps)
object_parts n at (Then (Listed items) (Then rest End)) r other e = absurd (cc)
object_parts n at _ r other e = e

pub ruleset patterns = (keyed_lost, list_smaller)

-- Items of a pattern in one round.

pub round_found : (n : Names) (ahead : Bool) (t : Syntax) (ts : Pieces) (d : Diagnostic) (test : Bool) → test ≡ is_turn ahead (is_ahead t)
    → Some d ≡ stop_where n test t → Some d ≡ first_in_round n ahead (Then t ts)
round_found n ahead t ts d test told is =
    ap (λ (o : Option Diagnostic). option_or o (first_in_round n ahead ts)) (is ∙ ap (λ (b : Bool). stop_where n b t) told)

pub round_behind : (n : Names) (ahead : Bool) (t : Syntax) (ts : Pieces) (test : Bool) → test ≡ is_turn ahead (is_ahead t)
    → None ≡ stop_where n test t → first_in_round n ahead (Then t ts) ≡ first_in_round n ahead ts
round_behind n ahead t ts test told is =
    sym (ap (λ (o : Option Diagnostic). option_or o (first_in_round n ahead ts)) (is ∙ ap (λ (b : Bool). stop_where n b t) told))

pub ruleset in_round = (round_found, round_behind)

-- Targets by their forms.

pub name_stop : (n : Names) (at : At) (ps : Pieces) (name : List ℕ) (local : Option SymbolId) (r : Option Diagnostic)
    → ps ≡ Then (Said name) End → local ≡ local_of (n.meaning at.reference.0 name) → r ≡ stop_of_local n local at.span
    → r ≡ stop_to n (Node at word.Id ps)
name_stop n at ps name local r is named e =
    e ∙ ap (λ o. stop_of_local n o at.span) named ∙ ap (λ q. stop_to n (Node at word.Id q)) (sym is)

pub name_none : (n : Names) (at : At) (ps : Pieces) → is_text_alone ps ≡ false → None ≡ stop_to n (Node at word.Id ps)
name_none n at (Then (Said name) End) other = absurd (cc)
name_none n at _ other = refl

pub defaulted_stop : (n : Names) (ps : Pieces) (a b : Syntax) (r : Option Diagnostic) → ps ≡ Then a (Then b End)
    → r ≡ option_or (first_stop n b) (stop_to n a) → r ≡ to_defaulted n ps
defaulted_stop n ps a b r is e = e ∙ ap (to_defaulted n) (sym is)

pub defaulted_none : (n : Names) (ps : Pieces) → is_two ps ≡ false → None ≡ to_defaulted n ps
defaulted_none n (Then a (Then b End)) other = absurd (cc)
defaulted_none n _ other = refl

pub keyed_target : (n : Names) (ps : Pieces) (a b c : Syntax) (test : Bool) (r : Option Diagnostic) → ps ≡ Then a (Then b (Then c End))
    → test ≡ not (loses_item a b) → r ≡ stop_to_where n test c → r ≡ to_keyed n ps
keyed_target n ps a b c test r is told e = e ∙ ap (λ (t : Bool). stop_to_where n t c) told ∙ ap (to_keyed n) (sym is)

pub keyed_none : (n : Names) (ps : Pieces) → is_three ps ≡ false → None ≡ to_keyed n ps
keyed_none n (Then a (Then b (Then c End))) other = absurd (cc)
keyed_none n _ other = refl

pub rest_stop : (n : Names) (ps : Pieces) (a : Syntax) (r : Option Diagnostic) → ps ≡ Then a End → r ≡ stop_to n a → r ≡ to_rest n ps
rest_stop n ps a r is e = e ∙ ap (to_rest n) (sym is)

pub rest_none : (n : Names) (ps : Pieces) → is_one ps ≡ false → None ≡ to_rest n ps
rest_none n (Then a End) other = absurd (cc)
rest_none n _ other = refl

pub last_smaller : (ps : Pieces) (a b c : Syntax) → ps ≡ Then a (Then b (Then c End)) → size c < size_of ps
last_smaller ps a b c is = omega (arith, ap size_of is)

pub both_smaller : (ps : Pieces) (a b : Syntax) → ps ≡ Then a (Then b End) → size a + size b < size_of ps
both_smaller ps a b is = omega (arith, ap size_of is)

pub one_smaller : (ps : Pieces) (a : Syntax) → ps ≡ Then a End → size a < size_of ps
one_smaller ps a is = omega (arith, ap size_of is)

pub ruleset targets = (
  name_stop,
  name_none,
  defaulted_stop,
  defaulted_none,
  keyed_target,
  keyed_none,
  rest_stop,
  rest_none,
  last_smaller,
  both_smaller,
  one_smaller,
)

pub array_target : (n : Names) (ps items : Pieces) (rest : Syntax) (r : Option Diagnostic) → Some (items, rest) ≡ list_and_tree ps
    → r ≡ stop_to_items n true items rest → r ≡ to_array n ps
array_target n ps items rest r is e = e ∙ ap (to_array n) (sym (list_is ps items rest is))

pub array_none : (n : Names) (ps : Pieces) → None ≡ list_and_tree ps → None ≡ to_array n ps
array_none n (Then (Listed items) (Then rest End)) other = absurd (cc)
array_none n _ other = refl

pub object_target : (n : Names) (ps items : Pieces) (rest : Syntax) (kept : Bool) (r : Option Diagnostic)
    → Some (items, rest) ≡ list_and_tree ps → kept ≡ is_plain_rest rest → r ≡ stop_to_items n kept items rest → r ≡ to_object n ps
object_target n ps items rest kept r is told e =
    e ∙ ap (λ (t : Bool). stop_to_items n t items rest) told ∙ ap (to_object n) (sym (list_is ps items rest is))

pub object_none : (n : Names) (ps : Pieces) → None ≡ list_and_tree ps → None ≡ to_object n ps
object_none n (Then (Listed items) (Then rest End)) other = absurd (cc)
object_none n _ other = refl

pub ruleset lists = (array_target, array_none, object_target, object_none, list_smaller)

keyed_where : (n : Names) (at : At) (a b c : Syntax)
    → stop_to_where n (not (loses_item a b)) c ≡ stop_to n (Node at word.Keyed (Then a (Then b (Then c End))))
keyed_where n at a b c = where_not (loses_item a b) (stop_to n c)

to_word : (n : Names) (at : At) (w : Word) (parts : Pieces) → to_node n at w parts ≡ stop_to n (Node at w parts)
to_word n at word.Id parts = refl
to_word n at word.Member parts = refl
to_word n at word.Index parts = refl
to_word n at word.Default (Then a (Then b End)) = refl
to_word n at word.Default _ = refl
to_word n at word.Short (Then a (Then b End)) = refl
to_word n at word.Short _ = refl
to_word n at word.Keyed (Then a (Then b (Then c End))) = keyed_where n at a b c
to_word n at word.Keyed _ = refl
to_word n at word.Rest (Then a End) = refl
to_word n at word.Rest _ = refl
to_word n at word.Arraytarget (Then (Listed items) (Then rest End)) = refl
to_word n at word.Arraytarget _ = refl
to_word n at word.Objecttarget (Then (Listed items) (Then rest End)) = refl
to_word n at word.Objecttarget _ = refl
to_word n at _ parts = refl

pub to_form : (n : Names) (at : At) (w : Word) (parts : List Numbered) (r : Option Diagnostic)
    → r ≡ to_node n at w (pieces_of (map syntax parts)) → r ≡ stop_to n (syntax (numbered.Node at w parts))
to_form n at w parts r e = e ∙ to_word n at w (pieces_of (map syntax parts)) ∙ ap (stop_to n) (sym (syntax_node at w parts))

pub ruleset to_nodes = (to_form)

-- Items of a target in a row.

pub all_found : (n : Names) (t : Syntax) (ts : Pieces) (d : Diagnostic) → Some d ≡ stop_to n t → Some d ≡ stop_to_all n (Then t ts)
all_found n t ts d is = ap (λ o. option_or o (stop_to_all n ts)) is

pub all_behind : (n : Names) (t : Syntax) (ts : Pieces) → None ≡ stop_to n t → stop_to_all n (Then t ts) ≡ stop_to_all n ts
all_behind n t ts is = sym (ap (λ o. option_or o (stop_to_all n ts)) is)

pub ruleset to_all = (all_found, all_behind)

-- Local variables that are looked at first.

target_name : (n : Names) (at : At) (parts : Pieces) → local_name n at parts ≡ spanned at.span (local_at n (Node at word.Id parts))
target_name n at (Then (Said name) End) = refl
target_name n at _ = refl

target_is : (n : Names) (t : Syntax) → local_target n t ≡ spanned (span_of t) (local_at n t)
target_is n (Node at word.Id parts) = target_name n at parts
target_is n _ = refl

short_is : (n : Names) (at : At) (name default : Syntax)
    → local_short n (Then name (Then default End))
    ≡ spanned (span_of (target_under (Node at word.Short (Then name (Then default End)))))
    (local_at n (target_under (Node at word.Short (Then name (Then default End)))))
short_is n at name Absent = target_is n name
short_is n at name _ = refl

item_is : (n : Names) (t : Syntax) → local_item n t ≡ spanned (span_of (target_under t)) (local_at n (target_under t))
item_is n (Node at word.Id parts) = target_name n at parts
item_is n (Node at word.Keyed (Then a (Then b (Then c End)))) = target_is n c
item_is n (Node at word.Keyed _) = refl
item_is n (Node at word.Short (Then name (Then default End))) = short_is n at name default
item_is n (Node at word.Short (Then name (Then Absent (Then first rest)))) = refl
item_is n (Node at word.Short (Then name (Then default (Then first rest)))) = refl
item_is n (Node at word.Short _) = refl
item_is n _ = refl

pub local_stop : (n : Names) (t : Syntax) (symbol : SymbolId) (span : Span) (r : Option Diagnostic) → Some (symbol, span) ≡ local_item n t
    → r ≡ stop_of_local n (Some symbol) span → Some r ≡ stop_at_item n t
local_stop n t symbol span r is e = ap Some e ∙ ap (stop_at_local n) is

pub local_none : (n : Names) (t : Syntax) → None ≡ local_item n t → None ≡ stop_at_item n t
local_none n t is = ap (stop_at_local n) is

pub ruleset locals = (local_stop, local_none)

-- The stop of the first item, by the stop at it, or else that of those behind it.
abbrev ahead_of : (behind : Option Diagnostic) → Option (Option Diagnostic) → Option Diagnostic
ahead_of behind None = None
ahead_of behind (Some stop) = option_or stop behind

ahead_spanned : (n : Names) (behind : Option Diagnostic) (span : Span) (local : Option SymbolId)
    → ahead_of behind (stop_at_local n (spanned span local))
    ≡ of_item None (λ (symbol : SymbolId). option_or (stop_of_local n (Some symbol) span) behind) local
ahead_spanned n behind span None = refl
ahead_spanned n behind span (Some symbol) = refl

ahead_is : (n : Names) (t : Syntax) (ts : Pieces) (l : Option (Option Diagnostic)) → l ≡ stop_at_item n t
    → stop_ahead n (Then t ts) ≡ ahead_of (stop_ahead n ts) l
ahead_is n t ts l is =
    sym (ap (ahead_of (stop_ahead n ts)) (is ∙ ap (stop_at_local n) (item_is n t))
    ∙ ahead_spanned n (stop_ahead n ts) (span_of (target_under t)) (local_at n (target_under t)))

pub ahead_done : (n : Names) (t : Syntax) (ts : Pieces) → None ≡ stop_at_item n t → None ≡ stop_ahead n (Then t ts)
ahead_done n t ts is = sym (ahead_is n t ts None is)

pub ahead_found : (n : Names) (t : Syntax) (ts : Pieces) (d : Diagnostic) → Some (Some d) ≡ stop_at_item n t
    → Some d ≡ stop_ahead n (Then t ts)
ahead_found n t ts d is = sym (ahead_is n t ts (Some (Some d)) is)

pub ahead_behind : (n : Names) (t : Syntax) (ts : Pieces) → Some None ≡ stop_at_item n t → stop_ahead n (Then t ts) ≡ stop_ahead n ts
ahead_behind n t ts is = ahead_is n t ts (Some None) is

pub ruleset aheads = (ahead_done, ahead_found, ahead_behind)
