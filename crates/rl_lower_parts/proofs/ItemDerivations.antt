-- Derivations of the items of targets that are patterns.
use Rattle.std.proofs.Common.{◌≡◌, ℕ, ◌+◌, ◌≤◌, ◌++◌, Bool, true, false, true≢false, not, ◌||◌, List, [], ◌∷◌, Option, Some, None}
use Rattle.std.proofs.Common.{Result, Ok, Err, IfOk, refl, sym, ap, ◌∙◌, subst, arith, append-nil, append_assoc, is_some}
use Rattle.std.proofs.lemmas.Option.{none-some}
use Rattle.rl_base.specs.Diagnostics.{diagnostic_at}
use Rattle.rl_base.specs.declared.ids.SymbolId.{SymbolId}
use Rattle.rl_base.specs.declared.row.Row.TheVariants as row
use Rattle.rl_base.specs.declared.span.Span.{Span}
use Rattle.rl_base.specs.declared.stop.Stop.{Stop}
use Rattle.rl_builder.specs.Builder.{State, recorded}
use Rattle.rl_grammar.specs.Grammar.{fits}
use Rattle.rl_grammar.specs.declared.kind.Field.TheVariants as field
use Rattle.rl_grammar.specs.declared.kind.Kind.TheVariants as kind
use Rattle.rl_hir.specs.Pieces.{Gives, Names as Named, Piece}
use Rattle.rl_hir.specs.declared.instruction.Place.{Place}
use Rattle.rl_lower_parts.proofs.TargetTrees.{known_by_name, local_is, local_named, named_is, plain_item}
use Rattle.rl_lower_parts.specs.Patterns.{GivesNothing, GivesPlace, GivesVariable, IsDirect, IsLocalName, IsTakenPart, LosesKey, MeetsKey}
use Rattle.rl_lower_parts.specs.Patterns.{TakesItem, TakesLater, TakesNow, TakesPart, all_left, named, seen_left, seen_part}
use Rattle.rl_lower_parts.specs.declared.target_items.LeftTarget.{LeftTarget}
use Rattle.rl_lower_parts.specs.declared.target_items.TargetPart.{TargetPart}
use Rattle.rl_lowered.proofs.Catches.{size_promoted}
use Rattle.rl_lowered.proofs.LookSizes.{found_size}
use Rattle.rl_lowered.proofs.Names.{names_found, names_promoted, names_recorded}
use Rattle.rl_lowered.specs.Forms.{Element, IsItem, OfTarget, Shorthand, ShorthandDefault, TakenProperty}
use Rattle.rl_lowered.specs.Items as items
use Rattle.rl_lowered.specs.Items.{Later, TakenItems, caught, fraction_met, key_met, lost_pieces, promoted, variable_at}
use Rattle.rl_lowered.specs.Named.{IsFound, IsNamed, found}
use Rattle.rl_names.specs.Names.{Names}
use Rattle.rl_promises.specs.Locals.{KnowsNames}
use Rattle.rl_promises.specs.Lowerable.{IsFree, IsLowerableTo}
use Rattle.rl_promises.specs.Outs.{is_known_key}
use Rattle.rl_promises.specs.Patterns.{fraction_in, is_lost_item, key_name, local_at, loses_item, lost_key, target_under}
use Rattle.rl_runs.specs.Blocks.{size_of}
use Rattle.rl_syntax.specs.declared.numbered.At.{At}
use Rattle.rl_syntax.specs.declared.word.Word.TheVariants as word
use Rattle.rl_syntax.specs.Syntax.{Syntax, Node, Said, Flag, Absent, Pieces, End, Then, span_of}

-- The pieces of an item whose part got the place: a constant has none.
abbrev pub given_pieces : (of_object : Bool) → (key : List Piece) → Option Place → List Piece
given_pieces of_object key (Some place) = key ++ Gives place ∷ []
given_pieces of_object key None = lost_pieces of_object

pub all_more : (a b : List LeftTarget) → all_left (a ++ b) ≡ all_left a ++ all_left b
all_more [] b = refl
all_more (x ∷ a) b = ap (λ (l : List Later). seen_left x ∷ l) (all_more a b)

-- A look-up keeps what is known of names, and makes two at most.
now_named : {names : Names} {name : Syntax} {s t : State} {place : Option Place} → GivesPlace names name s t place → IsNamed names t
now_named {names} {name} (GivesVariable symbol identifier s is mutable f) =
    (names_found s symbol (span_of name) identifier f).named f.named
now_named {names} {name} (GivesNothing symbol identifier s is constant f) =
    (names_recorded _ _).named ((names_found s symbol (span_of name) identifier f).named f.named)

now_size : {names : Names} {name : Syntax} {s t : State} {place : Option Place} → GivesPlace names name s t place
    → size_of t ≤ size_of s + 2
now_size {names} {name} (GivesVariable symbol identifier s is mutable f) = found_size names s symbol (span_of name)
now_size {names} {name} (GivesNothing symbol identifier s is constant f) = found_size names s symbol (span_of name)

part_named : {names : Names} {forced : Bool} {part : Syntax} {before after : List LeftTarget} {s t : State} {place : Option Place}
    → TakesPart names forced part before after s t place → IsNamed names s → IsNamed names t
part_named (TakesLater part left s) n = (names_promoted s (span_of (seen_part part))).named n
part_named (TakesNow name left s t place g) n = now_named g

part_size : {names : Names} {forced : Bool} {part : Syntax} {before after : List LeftTarget} {s t : State} {place : Option Place}
    → TakesPart names forced part before after s t place → size_of t ≤ size_of s + 2
part_size (TakesLater part left s) = omega (arith, size_promoted s (span_of (seen_part part)))
part_size (TakesNow name left s t place g) = now_size g

fraction_named : {names : Names} (s : State) (o : Option Span) → IsNamed names s → IsNamed names (fraction_met s o)
fraction_named s None n = n
fraction_named s (Some at) n = (names_recorded s _).named n

fraction_size : (s : State) (o : Option Span) → size_of (fraction_met s o) ≡ size_of s
fraction_size s None = refl
fraction_size s (Some at) = refl

-- The parts that an item adds to those that are left.
abbrev added_by : {names : Names} {forced : Bool} {part : Syntax} {before after : List LeftTarget} {s t : State} {place : Option Place}
    → TakesPart names forced part before after s t place → List LeftTarget
added_by (TakesLater part left s) = record { value = caught s (span_of (seen_part part)); part = part } ∷ []
added_by (TakesNow name left s t place g) = []

added_grown : {names : Names} {forced : Bool} {part : Syntax} {before after : List LeftTarget} {s t : State} {place : Option Place}
    (d : TakesPart names forced part before after s t place) → after ≡ before ++ added_by d
added_grown (TakesLater part left s) = refl
added_grown (TakesNow name left s t place g) = sym (append-nil left)

now_next : {names : Names} {of_object : Bool} {item part : Syntax} {key : List Piece} {s m t : State} {place : Option Place}
    → IsItem false of_object item key part → is_lost_item item ≡ false → m ≡ key_met s item → GivesPlace names part m t place
    → (es : Pieces) (rest : Syntax) (last : State) (more : List Piece) (later : List Later)
    → TakenItems names of_object false es rest t last more later
    → TakenItems names of_object false (Then item es) rest s last (given_pieces of_object key place ++ more) later
now_next {names} {of_object} {item} {part} {key} {s} is kept met (GivesVariable symbol identifier m local mutable f) es rest last more later d =
    let known = local_is names part symbol local in
    let there : span_of part ≡ known.at.span = ap span_of known.is in
    subst (λ (p : List Piece). TakenItems names of_object false (Then item es) rest s last p later)
    (sym (append_assoc key (Gives (variable_at identifier (span_of part)) ∷ []) more))
    (subst (λ (at : Span). TakenItems names of_object false (Then item es) rest s last (key ++ Gives (variable_at identifier at) ∷ more) later)
    (sym there)
    (items.ItemVariable item es rest known.at known.name symbol identifier s last key more later
    (subst (IsItem false of_object item key) known.is is) known.means kept mutable
    (subst (λ (at : Span). IsFound names (key_met s item) symbol at identifier) there
    (subst (λ (o : State). IsFound names o symbol (span_of part) identifier) met f))
    (subst (λ (at : Span). TakenItems names of_object false es rest (found names (key_met s item) symbol at) last more later) there
    (subst (λ (o : State). TakenItems names of_object false es rest (found names o symbol (span_of part)) last more later) met d))))
now_next {names} {of_object} {item} {part} {key} {s} is kept met (GivesNothing symbol identifier m local constant f) es rest last more later d =
    let known = local_is names part symbol local in
    let there : span_of part ≡ known.at.span = ap span_of known.is in
    let noted : (o : State) → (at : Span) → State = λ o at. recorded (found names o symbol at) (diagnostic_at row.F6 (names.name symbol.0) at) in
    items.ItemConstant item es rest known.at known.name symbol identifier s last key more later
    (subst (IsItem false of_object item key) known.is is) known.means kept constant
    (subst (λ (at : Span). IsFound names (key_met s item) symbol at identifier) there
    (subst (λ (o : State). IsFound names o symbol (span_of part) identifier) met f))
    (subst (λ (at : Span). TakenItems names of_object false es rest (noted (key_met s item) at) last more later) there
    (subst (λ (o : State). TakenItems names of_object false es rest (noted o (span_of part)) last more later) met d))

part_next : {names : Names} {of_object forced : Bool} {item part : Syntax} {key : List Piece} {before after : List LeftTarget}
    {s m t : State} {place : Option Place}
    → IsItem false of_object item key part → is_lost_item item ≡ false → m ≡ key_met s item
    → (d : TakesPart names forced part before after m t place)
    → (es : Pieces) (rest : Syntax) (last : State) (more : List Piece) (later : List Later)
    → TakenItems names of_object forced es rest t last more later
    → TakenItems names of_object forced (Then item es) rest s last (given_pieces of_object key place ++ more) (all_left (added_by d) ++ later)
part_next {names} {of_object} {item = item} {key = key} {s = s} is kept met (TakesLater part left m) es rest last more later d =
    let there : Span = span_of (seen_part part) in
    subst (λ (p : List Piece). TakenItems names of_object true (Then item es) rest s last p
    (record { value = caught m there; part = seen_part part } ∷ later))
    (sym (append_assoc key (Gives (caught m there) ∷ []) more))
    (subst (λ (o : State). TakenItems names of_object true (Then item es) rest s last (key ++ Gives (caught o there) ∷ more)
    (record { value = caught o there; part = seen_part part } ∷ later)) (sym met)
    (items.ItemLater item (seen_part part) es rest s last key more later is kept
    (subst (λ (o : State). TakenItems names of_object true es rest (promoted o there) last more later) met d)))
part_next is kept met (TakesNow name left m t place g) es rest last more later d = now_next is kept met g es rest last more later d

-- An item whose part got its place.
pub item_taken : {names : Names} {of_object forced : Bool} {item part : Syntax} {key : List Piece} {before after : List LeftTarget}
    {s m t : State} {place : Option Place}
    → IsItem false of_object item key part → is_lost_item item ≡ false → IsNamed names s → m ≡ key_met s item
    → TakesPart names forced part before after m t place
    → TakesItem names of_object forced item (given_pieces of_object key place) before after s t
item_taken {names} {of_object} {forced} {item} {part} {key} {s = s} {m} {t} {place} is kept n met d = record {
  added = added_by d;
  grown = added_grown d;
  next = λ es rest last more later l. part_next is kept met d es rest last more later l;
  named = part_named d (subst (IsNamed names) (sym met) (fraction_named s (fraction_in item) n));
  size =
      let key_size : size_of m ≡ size_of s = ap size_of met ∙ fraction_size s (fraction_in item) in
      omega (arith, key_size, part_size d);
}

-- An element.

element_item : (t : Syntax) → fits (field.One kind.AssignmentTargetMaybeDefault) t ≡ true → IsItem false false t [] t
element_item t h = let plain = plain_item t h in Element plain.whole plain.shape

element_taken : {names : Names} {forced : Bool} {t : Syntax} {before after : List LeftTarget} {s u : State} {place : Option Place}
    → fits (field.One kind.AssignmentTargetMaybeDefault) t ≡ true → IsNamed names s
    → TakesPart names forced t before after s u place
    → TakesItem names false forced t (given_pieces false [] place) before after s u
element_taken {t = t} {s = s} h n d =
    let plain = plain_item t h in
    item_taken (element_item t h) plain.kept n (sym (ap (fraction_met s) plain.keyless)) d

pub element_part : (names : Names) {name : Option Syntax} (forced : Bool) (t : Syntax) → IsDirect names forced (named t) → name ≡ named t
    → IsTakenPart forced t name t
element_part names true t direct same = refl
element_part names {name} false t direct same =
    same ∙ direct.is ∙ ap Some (sym (named_is t direct.tree direct.is))

pub element_told : {names : Names} {forced : Bool} {t item : Syntax} {before after : List LeftTarget} {s u : State}
    {given place : Option Place} {name : Option Syntax}
    → fits (field.One kind.AssignmentTargetMaybeDefault) t ≡ true → t ≡ item → IsNamed names s
    → IsDirect names forced (named (target_under item)) → name ≡ named t
    → ((tree : Syntax) → IsTakenPart forced t name tree → TakesPart names forced tree before after s u given) → given ≡ place
    → TakesItem names false forced item (given_pieces false [] place) before after s u
element_told {names} {forced} {t} {item} {before} {after} {s} {u} {given} {place} h is n direct called taken got =
    let own : IsDirect names forced (named t) =
    subst (λ (e : Syntax). IsDirect names forced (named e)) (sym (ap target_under is) ∙ (plain_item t h).under) direct in
    subst (λ (e : Syntax). TakesItem names false forced e (given_pieces false [] place) before after s u) is
    (element_taken h n
    (subst (λ (o : Option Place). TakesPart names forced t before after s u o) got (taken t (element_part names forced t own called))))

-- A property with a key.

pub lost_taken : {names : Names} {forced : Bool} {at : At} {computed : Bool} {key target : Syntax} {left : List LeftTarget} {s t : State}
    → IsNamed names s → LosesKey at.span computed key s t
    → TakesItem names true forced (Node at word.Keyed (Then (Flag computed) (Then key (Then target End)))) [] left left s t
lost_taken {names} {forced} {at} {computed} {key} {target} {left} {s} {t} n lost =
    let item : Syntax = Node at word.Keyed (Then (Flag computed) (Then key (Then target End))) in
    record {
      added = [];
      grown = sym (append-nil left);
      next = λ es rest last more later d.
          items.ItemLost item es rest s last more later OfTarget lost.lost
          (subst (λ (o : State). TakenItems names true forced es rest o last more later) lost.moved d);
      named = subst (IsNamed names) (sym lost.moved) ((names_recorded s (lost_key at.span computed key)).named n);
      size = let same : size_of t ≡ size_of s = ap size_of lost.moved in omega (arith, same);
    }

kept_key : (computed : Bool) (key : Syntax) (text : List ℕ) → computed ≡ false → key_name key ≡ Some text
    → loses_item (Flag computed) key ≡ false
kept_key computed key text plain is =
    ap (λ (c : Bool). c || not (is_known_key false key)) plain
    ∙ ap not (known_by_name key text is)

pub met_kept : {computed : Bool} {key : Syntax} {text : List ℕ} {s t : State} → MeetsKey computed key text s t
    → loses_item (Flag computed) key ≡ false
met_kept {computed} {key} {text} m = kept_key computed key text m.plain m.named

pub keyed_taken : {names : Names} {forced : Bool} {at : At} {computed : Bool} {key target : Syntax} {text : List ℕ}
    {before after : List LeftTarget} {s m t : State} {place : Option Place}
    → IsNamed names s → MeetsKey computed key text s m → TakesPart names forced target before after m t place
    → TakesItem names true forced (Node at word.Keyed (Then (Flag computed) (Then key (Then target End))))
    (given_pieces true (Named text ∷ []) place) before after s t
keyed_taken {names} {forced} {at} {computed} {key} {target} {text} {before} {after} {s} {m} {t} {place} n met d =
    subst (λ (c : Bool). TakesItem names true forced (Node at word.Keyed (Then (Flag c) (Then key (Then target End))))
    (given_pieces true (Named text ∷ []) place) before after s t) (sym met.plain)
    (item_taken (TakenProperty met.named) (kept_key false key text refl met.named) n met.moved d)

-- A name that is its own key.

pub short_taken : {names : Names} {forced : Bool} {at there : At} {text : List ℕ} {default name part : Syntax}
    {before after : List LeftTarget} {s t : State} {place : Option Place}
    → name ≡ Node there word.Id (Then (Said text) End) → part ≡ target_under (Node at word.Short (Then name (Then default End)))
    → IsNamed names s → TakesPart names forced part before after s t place
    → TakesItem names true forced (Node at word.Short (Then name (Then default End))) (given_pieces true (Named text ∷ []) place) before after
    s t
short_taken {names} {forced} {at} {there} {text} {default} {name} {part} {before} {after} {s} {t} {place} is under n d =
    subst (λ (e : Syntax). TakesItem names true forced (Node at word.Short (Then e (Then default End)))
    (given_pieces true (Named text ∷ []) place) before after s t) (sym is)
    (short_by default (under ∙ ap (λ (e : Syntax). target_under (Node at word.Short (Then e (Then default End)))) is))
  where
    target : Syntax
    target = Node there word.Id (Then (Said text) End)

    short_by : (e : Syntax) → part ≡ target_under (Node at word.Short (Then target (Then e End)))
        → TakesItem names true forced (Node at word.Short (Then target (Then e End))) (given_pieces true (Named text ∷ []) place) before
        after s t
    short_by Absent same = item_taken Shorthand refl n refl (subst (λ (p : Syntax). TakesPart names forced p before after s t place) same d)
    short_by _ same = item_taken (ShorthandDefault refl) refl n refl (subst (λ (p : Syntax). TakesPart names forced p before after s t place) same d)

-- The part that takes a piece.

pub short_named : (names : Names) {name : Option Syntax} (forced : Bool) (at there : At) (text : List ℕ) (id part default : Syntax)
    → id ≡ Node there word.Id (Then (Said text) End) → part ≡ target_under (Node at word.Short (Then id (Then default End)))
    → IsDirect names forced (named (target_under (Node at word.Short (Then id (Then default End))))) → name ≡ Some id
    → IsTakenPart forced part name part
short_named names true at there text id part default is under direct same = refl
short_named names {name} false at there text id part default is under direct same =
    same ∙ ap Some (under_by default under direct)
  where
    under_by : (e : Syntax) → part ≡ target_under (Node at word.Short (Then id (Then e End)))
        → IsLocalName names (named (target_under (Node at word.Short (Then id (Then e End))))) → id ≡ part
    under_by Absent under local = sym under
    under_by _ under local = absurd (none-some local.tree local.is)

direct_at : {names : Names} (u : Syntax) (local : Option SymbolId) → local_at names u ≡ local → is_some local ≡ true → KnowsNames names
    → IsFree names local → IsLocalName names (named u)
direct_at {names} u None is some knows free = absurd (true≢false (sym some))
direct_at {names} u (Some symbol) is some knows free =
    let known = local_is names u symbol is in
    record {
      tree = u;
      symbol = symbol;
      is = local_named names u symbol is;
      local = is;
      variable = knows.used known.at.reference.0 known.name symbol known.means;
      free = free;
    }

free_at : (names : Names) (u : Syntax) → IsLowerableTo names u → IsFree names (local_at names u)
free_at names (Node at word.Id (Then (Said name) End)) may = may
free_at names _ may = tt

-- Each item in front of which none is forced is a local variable.
pub item_direct : (names : Names) (forced : Bool) (u : Syntax) → (forced ≡ false → is_some (local_at names u) ≡ true)
    → KnowsNames names → IsLowerableTo names u → IsDirect names forced (named u)
item_direct names true u locals knows may = tt
item_direct names false u locals knows may = direct_at u (local_at names u) refl (locals refl) knows (free_at names u may)

-- A local variable that takes its piece itself.

pub variable_given : {names : Names} {tree : Syntax} {symbol : SymbolId} {span : Span} {identifier : ℕ} {s t : State}
    → local_at names tree ≡ Some symbol → span_of tree ≡ span → t ≡ found names s symbol span → IsFound names s symbol span identifier
    → names.is_const symbol.0 ≡ false → GivesPlace names tree s t (Some (variable_at identifier span))
variable_given {names} {tree} {symbol} {span} {identifier} {s} {t} local there moved f mutable =
    subst (λ (o : State). GivesPlace names tree s o (Some (variable_at identifier span))) (sym moved)
    (subst (λ (at : Span). GivesPlace names tree s (found names s symbol at) (Some (variable_at identifier at))) there
    (GivesVariable symbol identifier s local mutable (subst (λ (at : Span). IsFound names s symbol at identifier) (sym there) f)))

pub constant_given : {names : Names} {tree : Syntax} {symbol : SymbolId} {span : Span} {identifier : ℕ} {s mid t : State}
    → local_at names tree ≡ Some symbol → span_of tree ≡ span → mid ≡ found names s symbol span → IsFound names s symbol span identifier
    → names.is_const symbol.0 ≡ true → t ≡ recorded mid (diagnostic_at row.F6 (names.name symbol.0) span)
    → GivesPlace names tree s t None
constant_given {names} {tree} {symbol} {span} {identifier} {s} {mid} {t} local there begun f constant moved =
    subst (λ (o : State). GivesPlace names tree s o None)
    (sym (moved ∙ ap (λ (o : State). recorded o (diagnostic_at row.F6 (names.name symbol.0) span)) begun))
    (subst (λ (at : Span). GivesPlace names tree s (recorded (found names s symbol at) (diagnostic_at row.F6 (names.name symbol.0) at)) None)
    there
    (GivesNothing symbol identifier s local constant (subst (λ (at : Span). IsFound names s symbol at identifier) (sym there) f)))

-- A part that is left for later, and one that takes its piece itself.

pub part_later : {names : Names} {forced : Bool} {left after : List LeftTarget} {s t : State} {place : Place} {span : Span}
    (p : TargetPart) (name : Option Syntax) (tree : Syntax) → forced ≡ true → span ≡ span_of (seen_part p) → t ≡ promoted s span
    → place ≡ caught s span → after ≡ left ++ record { value = place; part = p } ∷ [] → IsTakenPart forced (seen_part p) name tree
    → TakesPart names forced tree left after s t (Some place)
part_later {names} {forced} {left} {after} {s} {t} {place} {span} p name tree forces there moved placed kept taken =
    subst (λ (b : Bool). TakesPart names b tree left after s t (Some place)) (sym forces)
    (subst (λ (n : Syntax). TakesPart names true n left after s t (Some place))
    (subst (λ (b : Bool). IsTakenPart b (seen_part p) name tree) forces taken)
    (subst (λ (l : List LeftTarget). TakesPart names true (seen_part p) left l s t (Some place)) (sym kept)
    (subst (λ (o : State). TakesPart names true (seen_part p) left (left ++ record { value = place; part = p } ∷ []) s o (Some place))
    (sym (moved ∙ ap (promoted s) there))
    (subst (λ (q : Place). TakesPart names true (seen_part p) left (left ++ record { value = q; part = p } ∷ []) s
    (promoted s (span_of (seen_part p))) (Some q)) (sym (placed ∙ ap (caught s) there))
    (TakesLater p left s)))))

pub part_now_ok : (names : Names) {forced : Bool} (part : Syntax) (name : Option Syntax) (left : List LeftTarget) (s t : State)
    (r : Result (Option Place) Stop) → forced ≡ false
    → IfOk r (λ place. (tree : Syntax) → name ≡ Some tree → GivesPlace names tree s t place)
    → IfOk r (λ place. (tree : Syntax) → IsTakenPart forced part name tree → TakesPart names forced tree left left s t place)
part_now_ok names {forced} part name left s t (Ok place) is given = λ tree taken.
    subst (λ (b : Bool). TakesPart names b tree left left s t place) (sym is)
    (TakesNow tree left s t place (given tree (subst (λ (b : Bool). IsTakenPart b part name tree) is taken)))
part_now_ok names part name left s t (Err e) is given = tt
