-- Parts of patterns, by the words and parts of their nodes.
use Rattle.std.proofs.Common.{◌≡◌, ◌<◌, ℕ, Bool, true, false, ◌||◌, not, if◌then◌else◌, Option, Some, None, List, codes, map}
use Rattle.std.proofs.Common.{ap, sym, refl, ◌∙◌, arith}
use Rattle.std.specs.Option.{option_or}
use Rattle.std.specs.Str.{bytes_eq}
use Rattle.rl_base.specs.declared.ids.SymbolId.{SymbolId}
use Rattle.rl_base.specs.declared.span.Span.{Span}
use Rattle.rl_model.specs.Shapes.{is_absent, is_plain_rest}
use Rattle.rl_names.specs.Names.{Names, local_of}
use Rattle.rl_promises.specs.Outs.{is_known_key}
use Rattle.rl_promises.specs.PartForms.{is_text_ahead, is_text_alone}
use Rattle.rl_promises.specs.PatternForms.{ahead_alone, ahead_under, is_name, local_keyed, local_name, local_short, local_target}
use Rattle.rl_promises.specs.PatternForms.{name_alone, node_ahead, plain_node, spanned}
use Rattle.rl_promises.specs.PatternForms.{takes, this_ahead, this_alone, this_in_node, this_named, this_under}
use Rattle.rl_promises.specs.Patterns.{is_ahead, is_pattern, loses_item, this_among, this_in}
use Rattle.rl_syntax.specs.Forms as forms
use Rattle.rl_syntax.specs.Shapes.{is_flag, is_one, is_three, is_two}
use Rattle.rl_syntax.specs.Sizes.{size, size_of}
use Rattle.rl_syntax.specs.Syntax.{Syntax, Node, Said, Flag, Absent, Pieces, End, Then, pieces_of, syntax}
use Rattle.rl_syntax.specs.declared.numbered.At.{At}
use Rattle.rl_syntax.specs.declared.numbered.Numbered.{Numbered}
use Rattle.rl_syntax.specs.declared.numbered.Numbered.TheVariants as numbered
use Rattle.rl_syntax.specs.declared.word.Word.{Word}
use Rattle.rl_syntax.specs.declared.word.Word.TheVariants as word
use Rattle.rl_syntax.proofs.Layers.{syntax_node}

target_node : (at : At) (w : Word) (parts : Pieces) → takes w ≡ is_pattern (Node at w parts)
target_node at word.Arraytarget parts = refl
target_node at word.Objecttarget parts = refl
target_node at _ parts = refl

pub target_form : (at : At) (w : Word) (parts : List Numbered) (r : Bool) → r ≡ takes w → r ≡ is_pattern (syntax (numbered.Node at w parts))
target_form at w parts r e = e ∙ target_node at w (pieces_of (map syntax parts)) ∙ ap is_pattern (sym (syntax_node at w parts))

pub ruleset targets = (target_form)

-- A property that is left out, by the flag in front of its key.

pub no_loss : (computed key : Syntax) → is_flag computed ≡ false → false ≡ loses_item computed key
no_loss (Flag flag) key none = absurd (cc)
no_loss _ key none = refl

pub loss : (computed key : Syntax) (flag r : Bool) → computed ≡ Flag flag → r ≡ (flag || not (is_known_key false key))
    → r ≡ loses_item computed key
loss computed key flag r is e = e ∙ ap (λ (c : Syntax). loses_item c key) (sym is)

pub ruleset losses = (no_loss, loss)

-- Parts of patterns that are met first.

pub under_three : (ps : Pieces) (a b c : Syntax) (r : Bool) → ps ≡ Then a (Then b (Then c End)) → r ≡ is_ahead c → r ≡ ahead_under ps
under_three ps a b c r is e = e ∙ ap ahead_under (sym is)

pub under_other : (ps : Pieces) → is_three ps ≡ false → false ≡ ahead_under ps
under_other (Then a (Then b (Then c End))) other = absurd (cc)
under_other _ other = refl

pub alone_one : (ps : Pieces) (a : Syntax) (r : Bool) → ps ≡ Then a End → r ≡ is_ahead a → r ≡ ahead_alone ps
alone_one ps a r is e = e ∙ ap ahead_alone (sym is)

pub alone_other : (ps : Pieces) → is_one ps ≡ false → false ≡ ahead_alone ps
alone_other (Then a End) other = absurd (cc)
alone_other _ other = refl

-- Parts are smaller than all of them together.

pub last_smaller : (ps : Pieces) (a b c : Syntax) → ps ≡ Then a (Then b (Then c End)) → size c < size_of ps
last_smaller ps a b c is = omega (arith, ap size_of is)

pub one_smaller : (ps : Pieces) (a : Syntax) → ps ≡ Then a End → size a < size_of ps
one_smaller ps a is = omega (arith, ap size_of is)

pub first_smaller : (ps rest : Pieces) (a : Syntax) → ps ≡ Then a rest → size a < size_of ps
first_smaller ps rest a is = omega (arith, ap size_of is)

pub ruleset aheads = (under_three, under_other, alone_one, alone_other, last_smaller, one_smaller)

ahead_node : (at : At) (w : Word) (parts : Pieces) → node_ahead w parts ≡ is_ahead (Node at w parts)
ahead_node at word.Bind parts = refl
ahead_node at word.Keyedpat (Then a (Then b (Then c End))) = refl
ahead_node at word.Keyedpat _ = refl
ahead_node at word.Rest (Then a End) = refl
ahead_node at word.Rest _ = refl
ahead_node at _ parts = refl

pub ahead_form : (at : At) (w : Word) (parts : List Numbered) (r : Bool) → r ≡ node_ahead w (pieces_of (map syntax parts))
    → r ≡ is_ahead (syntax (numbered.Node at w parts))
ahead_form at w parts r e = e ∙ ahead_node at w (pieces_of (map syntax parts)) ∙ ap is_ahead (sym (syntax_node at w parts))

pub ruleset ahead_nodes = (ahead_form)

-- The rest of an object.

pub rest_one : (ps : Pieces) (a : Syntax) (r : Bool) → ps ≡ Then a End → r ≡ is_name a → r ≡ name_alone ps
rest_one ps a r is e = e ∙ ap name_alone (sym is)

pub rest_other : (ps : Pieces) → is_one ps ≡ false → false ≡ name_alone ps
rest_other (Then a End) other = absurd (cc)
rest_other _ other = refl

pub ruleset rests = (rest_one, rest_other)

rest_name : (at there : At) (w : Word) (parts : Pieces)
    → is_name (Node there w parts) ≡ is_plain_rest (Node at word.Rest (Then (Node there w parts) End))
rest_name at there word.Bind parts = refl
rest_name at there word.Id parts = refl
rest_name at there _ parts = refl

rest_named : (at : At) (name : Syntax) → is_name name ≡ is_plain_rest (Node at word.Rest (Then name End))
rest_named at (Node there w parts) = rest_name at there w parts
rest_named at _ = refl

rest_parts : (at : At) (parts : Pieces) → name_alone parts ≡ is_plain_rest (Node at word.Rest parts)
rest_parts at (Then name End) = rest_named at name
rest_parts at End = refl
rest_parts at (Then (Node there word.Bind parts) (Then another more)) = refl
rest_parts at (Then (Node there word.Id parts) (Then another more)) = refl
rest_parts at (Then name (Then another more)) = refl

plain_rest : (at : At) (w : Word) (parts : Pieces) → plain_node w parts ≡ is_plain_rest (Node at w parts)
plain_rest at word.Rest parts = rest_parts at parts
plain_rest at _ parts = refl

pub plain_form : (at : At) (w : Word) (parts : List Numbered) (r : Bool) → r ≡ plain_node w (pieces_of (map syntax parts))
    → r ≡ is_plain_rest (syntax (numbered.Node at w parts))
plain_form at w parts r e = e ∙ plain_rest at w (pieces_of (map syntax parts)) ∙ ap is_plain_rest (sym (syntax_node at w parts))

pub ruleset plain_rests = (plain_form)

same_absent : (t : Syntax) → forms.is_absent t ≡ is_absent t
same_absent Absent = refl
same_absent _ = refl

pub absence : (t : Syntax) (r : Bool) → r ≡ forms.is_absent t → r ≡ is_absent t
absence t r e = e ∙ same_absent t

pub ruleset absences = (absence)

-- Targets that are local variables.

pub name_found : (n : Names) (at : At) (ps : Pieces) (name : List ℕ) (symbol : SymbolId) → ps ≡ Then (Said name) End
    → Some symbol ≡ local_of (n.meaning at.reference.0 name) → Some (symbol, at.span) ≡ local_name n at ps
name_found n at ps name symbol is e = ap (spanned at.span) e ∙ ap (local_name n at) (sym is)

pub name_none : (n : Names) (at : At) (ps : Pieces) (name : List ℕ) → ps ≡ Then (Said name) End
    → None ≡ local_of (n.meaning at.reference.0 name) → None ≡ local_name n at ps
name_none n at ps name is e = ap (spanned at.span) e ∙ ap (local_name n at) (sym is)

pub name_other : (n : Names) (at : At) (ps : Pieces) → is_text_alone ps ≡ false → None ≡ local_name n at ps
name_other n at (Then (Said name) End) other = absurd (cc)
name_other n at _ other = refl

pub keyed_three : (n : Names) (ps : Pieces) (a b c : Syntax) (r : Option (SymbolId × Span)) → ps ≡ Then a (Then b (Then c End))
    → r ≡ local_target n c → r ≡ local_keyed n ps
keyed_three n ps a b c r is e = e ∙ ap (local_keyed n) (sym is)

pub keyed_other : (n : Names) (ps : Pieces) → is_three ps ≡ false → None ≡ local_keyed n ps
keyed_other n (Then a (Then b (Then c End))) other = absurd (cc)
keyed_other n _ other = refl

short_is : (n : Names) (ps : Pieces) (a b : Syntax) (test : Bool) → ps ≡ Then a (Then b End) → is_absent b ≡ test
    → local_short n ps ≡ (if test then local_target n a else None)
short_is n ps a b test is told = ap (local_short n) is ∙ ap (λ (t : Bool). if t then local_target n a else None) told

pub short_two : (n : Names) (ps : Pieces) (a b : Syntax) (r : Option (SymbolId × Span)) → ps ≡ Then a (Then b End)
    → is_absent b ≡ true → r ≡ local_target n a → r ≡ local_short n ps
short_two n ps a b r is told e = e ∙ sym (short_is n ps a b true is told)

pub short_default : (n : Names) (ps : Pieces) (a b : Syntax) → ps ≡ Then a (Then b End) → is_absent b ≡ false → None ≡ local_short n ps
short_default n ps a b is told = sym (short_is n ps a b false is told)

pub short_other : (n : Names) (ps : Pieces) → is_two ps ≡ false → None ≡ local_short n ps
short_other n (Then a (Then b End)) other = absurd (cc)
short_other n _ other = refl

pub ruleset locals = (name_found, name_none, name_other, keyed_three, keyed_other, short_two, short_default, short_other)

-- A parameter `this`.

this_is : (span : Span) (ps rest : Pieces) (name : List ℕ) (test : Bool) → ps ≡ Then (Said name) rest → bytes_eq name (codes "this") ≡ test
    → this_named span ps ≡ (if test then Some span else None)
this_is span ps rest name test is told = ap (this_named span) is ∙ ap (λ (t : Bool). if t then Some span else None) told

pub this_found : (span : Span) (ps rest : Pieces) (name : List ℕ) → ps ≡ Then (Said name) rest → bytes_eq name (codes "this") ≡ true
    → Some span ≡ this_named span ps
this_found span ps rest name is told = sym (this_is span ps rest name true is told)

pub this_not : (span : Span) (ps rest : Pieces) (name : List ℕ) → ps ≡ Then (Said name) rest → bytes_eq name (codes "this") ≡ false
    → None ≡ this_named span ps
this_not span ps rest name is told = sym (this_is span ps rest name false is told)

pub this_unnamed : (span : Span) (ps : Pieces) → is_text_ahead ps ≡ false → None ≡ this_named span ps
this_unnamed span (Then (Said name) rest) other = absurd (cc)
this_unnamed span _ other = refl

pub this_first : (ps rest : Pieces) (a : Syntax) (r : Option Span) → ps ≡ Then a rest → r ≡ this_in a → r ≡ this_ahead ps
this_first ps rest a r is e = e ∙ ap this_ahead (sym is)

pub this_none : (ps : Pieces) → ps ≡ End → None ≡ this_ahead ps
this_none ps is = ap this_ahead (sym is)

pub this_three : (ps : Pieces) (a b c : Syntax) (r : Option Span) → ps ≡ Then a (Then b (Then c End)) → r ≡ this_in c → r ≡ this_under ps
this_three ps a b c r is e = e ∙ ap this_under (sym is)

pub this_other : (ps : Pieces) → is_three ps ≡ false → None ≡ this_under ps
this_other (Then a (Then b (Then c End))) other = absurd (cc)
this_other _ other = refl

pub this_one : (ps : Pieces) (a : Syntax) (r : Option Span) → ps ≡ Then a End → r ≡ this_in a → r ≡ this_alone ps
this_one ps a r is e = e ∙ ap this_alone (sym is)

pub this_several : (ps : Pieces) → is_one ps ≡ false → None ≡ this_alone ps
this_several (Then a End) other = absurd (cc)
this_several _ other = refl

pub ruleset these = (
  this_found,
  this_not,
  this_unnamed,
  this_first,
  this_none,
  this_three,
  this_other,
  this_one,
  this_several,
  last_smaller,
  one_smaller,
  first_smaller,
)

this_node : (at : At) (w : Word) (parts : Pieces) → this_in_node at.span w parts ≡ this_in (Node at w parts)
this_node at word.Bind (Then (Said name) rest) = refl
this_node at word.Bind _ = refl
this_node at word.Params parts = refl
this_node at word.Arraypat parts = refl
this_node at word.Objectpat parts = refl
this_node at word.Param (Then a rest) = refl
this_node at word.Param End = refl
this_node at word.Defaultpat (Then a rest) = refl
this_node at word.Defaultpat End = refl
this_node at word.Rest (Then a End) = refl
this_node at word.Rest _ = refl
this_node at word.Keyedpat (Then a (Then b (Then c End))) = refl
this_node at word.Keyedpat _ = refl
this_node at _ parts = refl

pub this_form : (at : At) (w : Word) (parts : List Numbered) (r : Option Span) → r ≡ this_in_node at.span w (pieces_of (map syntax parts))
    → r ≡ this_in (syntax (numbered.Node at w parts))
this_form at w parts r e = e ∙ this_node at w (pieces_of (map syntax parts)) ∙ ap this_in (sym (syntax_node at w parts))

pub ruleset this_nodes = (this_form)

pub this_among_found : (p : Syntax) (ps : Pieces) (span : Span) → Some span ≡ this_in p → Some span ≡ this_among (Then p ps)
this_among_found p ps span is = ap (λ o. option_or o (this_among ps)) is

pub this_among_behind : (p : Syntax) (ps : Pieces) → None ≡ this_in p → this_among (Then p ps) ≡ this_among ps
this_among_behind p ps is = sym (ap (λ o. option_or o (this_among ps)) is)

pub ruleset this_in_order = (this_among_found, this_among_behind)
