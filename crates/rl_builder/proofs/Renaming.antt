-- Names that references get: those so far, and those of the references that are left.
use Rattle.std.proofs.Common.{codes, refl, ◌≡◌, ℕ, ◌+◌, ◌≤◌, ◌<◌, List, [], ◌∷◌, ◌++◌, append_assoc, drop, get_or, length, map, sym, ap, ◌∙◌}
use Rattle.std.proofs.lemmas.List.{append-nil, drop_all}
use Rattle.std.proofs.lemmas.Option.{slice_get-get_or}
use Rattle.rl_base.specs.declared.ids.ReferenceId.{ReferenceId}
use Rattle.rl_used_names.proofs.Merging.{drop-at}
use Rattle.rl_builder.specs.Names.{renamed, renames_among}
use Rattle.rl_hir.specs.declared.environment.Environment.{Environment}
use Rattle.rl_hir.specs.declared.environment.Rename.{Rename}

-- The environment with more names of references.
abbrev pub with_renames : Environment → List Rename → Environment
with_renames env more = record env { renames = env.renames ++ more }

one_more_renamed : (env : Environment) (references : List ReferenceId) (free : List ℕ) (index : ℕ) (other : ReferenceId) → index < length references
    → with_renames (with_renames env (renamed free (get_or references index other) ∷ [])) (map (renamed free) (drop (index + 1) references)) ≡ with_renames env (map (renamed free) (drop index references))
one_more_renamed env references free index other within =
    let reference = get_or references index other in
    ap (λ (l : List Rename). record env { renames = l })
    (append_assoc env.renames (renamed free reference ∷ []) (map (renamed free) (drop (index + 1) references))
    ∙ ap (λ left. env.renames ++ map (renamed free) left) (sym (drop-at references index reference (slice_get-get_or references index other within))))

-- A reference gets its name, and those behind it are left.
pub renamed_step : (env after : Environment) (references : List ReferenceId) (free name : List ℕ) (index : ℕ) (other : ReferenceId) → index < length references → name ≡ free
    → after ≡ with_renames env (renamed name (get_or references index other) ∷ [])
    → with_renames after (map (renamed free) (drop (index + 1) references)) ≡ with_renames env (map (renamed free) (drop index references))
renamed_step env after references free name index other within same is =
    ap (λ (e : Environment). with_renames e (map (renamed free) (drop (index + 1) references))) (is ∙ ap (λ word. with_renames env (renamed word (get_or references index other) ∷ [])) same)
    ∙ one_more_renamed env references free index other within

pub all_renamed : (env : Environment) (references : List ReferenceId) (free : List ℕ) (index : ℕ) → length references ≤ index → env ≡ with_renames env (map (renamed free) (drop index references))
all_renamed env references free index all =
    ap (λ (l : List Rename). record env { renames = l }) (sym (append-nil env.renames))
    ∙ ap (λ left. with_renames env (map (renamed free) left)) (sym (drop_all index references all))

abbrev reference : ℕ → ReferenceId
reference number = record { 0 = number }

-- References are renamed in their order.
renamed_in_order : renames_among (reference 3 ∷ reference 5 ∷ []) (codes "x") (codes "x_0") ≡ renamed (codes "x_0") (reference 3) ∷ renamed (codes "x_0") (reference 5) ∷ []
renamed_in_order = refl

-- A symbol that keeps its name renames none.
kept_name : renames_among (reference 3 ∷ []) (codes "x") (codes "x") ≡ []
kept_name = refl
