-- The declarations of parameters that are names.
use Rattle.std.proofs.Common.{◌≡◌, ℕ, zero, List, [], ◌∷◌, ◌++◌, refl, sym, subst, arith}
use Rattle.std.specs.List.{AllByRecursion}
use Rattle.rl_bindings.specs.Events.{bound_of}
use Rattle.rl_bindings.specs.Names.{texts, texts_of}
use Rattle.rl_bindings.specs.Roles.{outside}
use Rattle.rl_bindings.specs.declared.event.BindKind.{BindKind}
use Rattle.rl_bindings.specs.declared.event.BindKind.TheVariants as kind
use Rattle.rl_bindings.specs.declared.event.Bound.{Bound}
use Rattle.rl_bindings.specs.declared.event.Place.{Place}
use Rattle.rl_bindings.specs.declared.event.Place.TheVariants as place
use Rattle.rl_bindings.specs.declared.names.Name.{Name}
use Rattle.rl_bindings.specs.declared.role.Above.{Above}
use Rattle.rl_syntax.specs.Syntax.{Syntax, Node, Listed, Said, Pieces, End, Then, scopes}
use Rattle.rl_syntax.specs.Tallies.{scopes_of}
use Rattle.rl_syntax.specs.declared.numbered.At.{At}
use Rattle.rl_syntax.specs.declared.word.Word.TheVariants as word
use Rattle.rl_names.specs.Plain.{ArePlainParameters, HasPlainParameters}
use Rattle.rl_names.proofs.Declarations.{declares, declares_among}
use Rattle.rl_names.proofs.FunctionScopes.{Splits, splits_itself, splits_after}
use Rattle.rl_names.proofs.NameTexts.{IsKnown}
use Rattle.rl_names.proofs.Items.{each_left}
use Rattle.rl_names.proofs.PlainTrees.{plain_elsewhere_among, plain_none_among, plain_scopes_of}

-- The context of the names of the parameters of the function with these ids.
abbrev pub param_above : At → Above
param_above at = record { scope = at.scope; function = at.scope; kind = kind.Param; place = place.Inner }

-- The declaration of a parameter that is a name.
abbrev pub param_bound : List Name → At → Syntax → List Bound
param_bound names at (Node pat word.Param (Then (Node bind word.Bind (Then (Said name) type)) default)) = bound_of names (param_above at) bind (Then (Said name) type) ∷ []
param_bound names at _ = []

-- As `param_bound`, for parameters in a row.
abbrev pub param_bounds : List Name → At → Pieces → List Bound
param_bounds names at End = []
param_bounds names at (Then param params) = param_bound names at param ++ param_bounds names at params

params_declare : (names : List Name) (at : At) (ps : Pieces) → ArePlainParameters ps → declares_among names zero (param_above at) (param_above at) ps ≡ param_bounds names at ps
params_declare names at End plain = refl
params_declare names at (Then (Node pat word.Param (Then (Node bind word.Bind (Then (Said name) type)) default)) ps) plain =
    (λ i. ((bound_of names (param_above at) bind (Then (Said name) type) ∷ plain_none_among names type zero (param_above at) (param_above at) plain.0.0 i) ++ plain_none_among names default zero (param_above at) (param_above at) plain.0.1 i) ++ params_declare names at ps plain.1 i)
params_declare names at (Then _ ps) plain = absurd plain.0

params_scopes : (ps : Pieces) → ArePlainParameters ps → scopes_of ps ≡ 0
params_scopes End plain = refl
params_scopes (Then (Node pat word.Param (Then (Node bind word.Bind (Then (Said name) type)) default)) ps) plain =
    let types = plain_scopes_of type plain.0.0 in
    let defaults = plain_scopes_of default plain.0.1 in
    let more = params_scopes ps plain.1 in
    omega (arith, types, defaults, more)
params_scopes (Then _ ps) plain = absurd plain.0

-- The context of the parts of the function with these ids, its parameters and its body.
abbrev pub inner : At → BindKind → Place → Above
inner at declares_as stands_in = record { scope = at.scope; function = at.scope; kind = declares_as; place = stands_in }

-- The parts of a `params` node whose parameters are names.
pub record Params (at : At) (t : Syntax) : Type 0 where
  pub pat : At
  pub items : Pieces
  pub rest : Pieces
  pub is : t ≡ Node pat word.Params (Then (Listed items) rest)
  pub plain : ArePlainParameters items
  pub few : scopes t ≡ 0
  pub said : (names : List Name) → AllByRecursion (IsKnown names) (texts t) → AllByRecursion (IsKnown names) (texts_of items)
  pub splits : (names : List Name) (k : ℕ) (declares_as : BindKind) (stands_in : Place) → Splits k (declares names (inner at declares_as stands_in) t) (param_bounds names at items)

pub params_parts : (at : At) (t : Syntax) → HasPlainParameters t → Params at t
params_parts at (Node pat word.Params (Then (Listed items) rest)) plain = record {
  pat = pat;
  items = items;
  rest = rest;
  is = refl;
  plain = plain.0;
  few = (let one = params_scopes items plain.0 in let more = plain_scopes_of rest plain.1 in omega (arith, one, more));
  said = λ names all. each_left (IsKnown names) (texts_of items) (texts_of rest) all;
  splits = λ names k declares_as stands_in.
      splits_after k (declares_among names zero (outside (inner at declares_as stands_in) word.Params) (param_above at) rest) (declares_among names zero (param_above at) (param_above at) items) (param_bounds names at items)
      (plain_elsewhere_among k names zero (outside (inner at declares_as stands_in) word.Params) (param_above at) rest plain.1)
      (subst (λ l. Splits k l (param_bounds names at items)) (sym (params_declare names at items plain.0)) (splits_itself k (param_bounds names at items)));
}
params_parts at _ plain = absurd plain
