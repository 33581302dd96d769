-- The index of a function has the declarations of its parameters.
use Rattle.std.proofs.Common.{◌≡◌, ℕ, zero, suc, ◌+◌, Bool, true, false, true≢false, ◌||◌, inl, inr, if◌then◌else◌, nat_eq, eq-eqb, List, []}
use Rattle.std.proofs.Common.{◌++◌, refl, sym, ap, ◌∙◌, subst}
use Rattle.std.proofs.lemmas.List.Folds.{list_any-append}
use Rattle.rl_bindings.specs.Roles.{below, outside, parts_ahead, role_of}
use Rattle.rl_bindings.specs.declared.event.Bound.{Bound}
use Rattle.rl_bindings.specs.declared.names.Name.{Name}
use Rattle.rl_bindings.specs.declared.role.Above.{Above}
use Rattle.rl_context.specs.Index.{declares as is_sited, is_declaration}
use Rattle.rl_context.specs.Roles as context
use Rattle.rl_context.specs.Sites.{is_class, site_of, sites, sites_among, sites_from, sites_in}
use Rattle.rl_context.specs.declared.role.Above.{Above as SiteAbove}
use Rattle.rl_context.specs.declared.site.Site.{Site}
use Rattle.rl_names.proofs.Declarations.{declares, declares_among, own}
use Rattle.rl_names.proofs.Items.{Has, has_cases}
use Rattle.rl_names.proofs.PlainTrees.{plain_none}
use Rattle.rl_names.specs.Functions.{params_in}
use Rattle.rl_promises.proofs.CalmTrees.{AreCalm, IsCalm, is_calm_word}
use Rattle.rl_syntax.specs.Syntax.{Syntax, Node, Listed, Said, Count, Flag, Absent, Pieces, End, Then}
use Rattle.rl_syntax.specs.declared.numbered.At.{At}
use Rattle.rl_syntax.specs.declared.word.Word.{Word}
use Rattle.rl_syntax.specs.declared.word.Word.TheVariants as word

or_second : (a b : Bool) → b ≡ true → (a || b) ≡ true
or_second true b is = refl
or_second false b is = is

sited_left : (id : ℕ) (ss ts : List Site) → is_sited id ss ≡ true → is_sited id (ss ++ ts) ≡ true
sited_left id ss ts is = list_any-append (is_declaration id) ss ts ∙ ap (λ (b : Bool). b || is_sited id ts) is

sited_right : (id : ℕ) (ss ts : List Site) → is_sited id ts ≡ true → is_sited id (ss ++ ts) ≡ true
sited_right id ss ts is = list_any-append (is_declaration id) ss ts ∙ or_second (is_sited id ss) (is_sited id ts) is

-- No calm node is a class.
calm_held : (w : Word) → is_calm_word w ≡ true → is_class (context.role_of w) ≡ false
calm_held word.Classdecl calm = absurd (true≢false (sym calm))
calm_held word.Classexpr calm = absurd (true≢false (sym calm))
calm_held _ calm = refl

module _ (table : List Name) (b : Bound) where
  own_sited : (w : Word) (a : Above) (sa : SiteAbove) (at : At) (ps : Pieces) → Has (own table (role_of w) a at ps) b
      → is_sited b.node.0 (site_of (context.role_of w) sa at) ≡ true
  own_sited word.Bind a sa at ps (inl is) =
      ap (λ (t : Bool). t || false) (eq-eqb at.id.0 b.node.0 (ap (λ (c : Bound). c.node.0) (sym is)))
  own_sited word.Bind a sa at ps (inr more) = absurd more
  own_sited _ a sa at ps has = absurd has

  mutual
    -- Each declaration of a calm tree is a site of it.
    pub calm_sited : (t : Syntax) → IsCalm t → (a : Above) → Has (declares table a t) b → (sa : SiteAbove)
        → is_sited b.node.0 (sites sa t) ≡ true
    calm_sited (Node at w ps) (inl plain) a has sa =
        absurd (subst (λ (l : List Bound). Has l b) (plain_none table (Node at w ps) a plain) has)
    calm_sited (Node at w ps) (inr calm) a has sa =
        let own_sites = site_of (context.role_of w) sa at in
        ap (λ (c : Bool). is_sited b.node.0 (if c then [] else own_sites ++ sites_from sa at w 0 ps)) (calm_held w calm.0)
        ∙ elim (has_cases (own table (role_of w) a at ps) (declares_among table (parts_ahead w) (outside a w) (below a at w ps) ps) b has) [
          | inl here ↦ sited_left b.node.0 own_sites (sites_from sa at w 0 ps) (own_sited w a sa at ps here)
          | inr there ↦ sited_right b.node.0 own_sites (sites_from sa at w 0 ps)
              (from_sited ps calm.1 (parts_ahead w) (outside a w) (below a at w ps) there sa at w 0)
        ]
    calm_sited (Listed ps) calm a has sa = among_sited ps calm zero a a has sa
    calm_sited (Said text) calm a has sa = absurd has
    calm_sited (Count number) calm a has sa = absurd has
    calm_sited (Flag flag) calm a has sa = absurd has
    calm_sited Absent calm a has sa = absurd has

    from_sited : (ps : Pieces) → AreCalm ps → (n : ℕ) (ahead within : Above) → Has (declares_among table n ahead within ps) b
        → (sa : SiteAbove) (at : At) (w : Word) (index : ℕ) → is_sited b.node.0 (sites_from sa at w index ps) ≡ true
    from_sited End calm n ahead within has sa at w index = absurd has
    from_sited (Then p ps) calm zero ahead within has sa at w index =
        let first = sites (context.below sa at w index) p in
        let rest = sites_from sa at w (index + 1) ps in
        elim (has_cases (declares table within p) (declares_among table zero ahead within ps) b has) [
          | inl here ↦ sited_left b.node.0 first rest (calm_sited p calm.0 within here (context.below sa at w index))
          | inr there ↦ sited_right b.node.0 first rest (from_sited ps calm.1 zero ahead within there sa at w (index + 1))
        ]
    from_sited (Then p ps) calm (suc n) ahead within has sa at w index =
        let first = sites (context.below sa at w index) p in
        let rest = sites_from sa at w (index + 1) ps in
        elim (has_cases (declares table ahead p) (declares_among table n ahead within ps) b has) [
          | inl here ↦ sited_left b.node.0 first rest (calm_sited p calm.0 ahead here (context.below sa at w index))
          | inr there ↦ sited_right b.node.0 first rest (from_sited ps calm.1 n ahead within there sa at w (index + 1))
        ]

    pub among_sited : (ps : Pieces) → AreCalm ps → (n : ℕ) (ahead within : Above) → Has (declares_among table n ahead within ps) b
        → (sa : SiteAbove) → is_sited b.node.0 (sites_among sa ps) ≡ true
    among_sited End calm n ahead within has sa = absurd has
    among_sited (Then p ps) calm zero ahead within has sa =
        elim (has_cases (declares table within p) (declares_among table zero ahead within ps) b has) [
          | inl here ↦ sited_left b.node.0 (sites sa p) (sites_among sa ps) (calm_sited p calm.0 within here sa)
          | inr there ↦ sited_right b.node.0 (sites sa p) (sites_among sa ps) (among_sited ps calm.1 zero ahead within there sa)
        ]
    among_sited (Then p ps) calm (suc n) ahead within has sa =
        elim (has_cases (declares table ahead p) (declares_among table n ahead within ps) b has) [
          | inl here ↦ sited_left b.node.0 (sites sa p) (sites_among sa ps) (calm_sited p calm.0 ahead here sa)
          | inr there ↦ sited_right b.node.0 (sites sa p) (sites_among sa ps) (among_sited ps calm.1 n ahead within there sa)
        ]

-- The sites of a function's parameters are among its own.
pub params_sited : (id : ℕ) (f : Syntax) → ((sa : SiteAbove) → is_sited id (sites sa (params_in f)) ≡ true)
    → is_sited id (sites_in f) ≡ true
params_sited id (Node at word.Arrow (Then marked (Then is_async (Then params (Then body End))))) sited =
    sited_right id (sites context.top marked) _
    (sited_right id (sites context.top is_async) _ (sited_left id (sites context.top params) _ (sited context.top)))
params_sited id (Node at word.Fundecl (Then marked (Then is_async (Then generator (Then name (Then params (Then body End))))))) sited =
    sited_right id (sites context.top marked) _
    (sited_right id (sites context.top is_async) _
    (sited_right id (sites context.top generator) _
    (sited_right id (sites context.top name) _ (sited_left id (sites context.top params) _ (sited context.top)))))
params_sited id (Node at word.Funexpr (Then marked (Then is_async (Then generator (Then name (Then params (Then body End))))))) sited =
    sited_right id (sites context.top marked) _
    (sited_right id (sites context.top is_async) _
    (sited_right id (sites context.top generator) _
    (sited_right id (sites context.top name) _ (sited_left id (sites context.top params) _ (sited context.top)))))
params_sited id _ sited = absurd (true≢false (sym (sited context.top)))

-- The declarations of parameters in a row are sites of the function, by its parameters.
pub row_sited : (table : List Name) (b : Bound) (f : Syntax) (list : At) (items rest : Pieces)
    → params_in f ≡ Node list word.Params (Then (Listed items) rest) → AreCalm items → (a : Above)
    → Has (declares_among table zero a a items) b → is_sited b.node.0 (sites_in f) ≡ true
row_sited table b f list items rest is calm a has =
    params_sited b.node.0 f (λ sa. ap (λ (t : Syntax). is_sited b.node.0 (sites sa t)) is
    ∙ sited_left b.node.0 (sites_among (context.below sa list word.Params 0) items) _
    (among_sited table b items calm zero a a has (context.below sa list word.Params 0)))
