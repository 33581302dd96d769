-- The identifiers of a function: those of its parameters, and those of its table.
use Rattle.std.proofs.Common.{◌≡◌, ◌++◌, refl}
use Rattle.rl_model.specs.Worlds.{Function}
use Rattle.rl_graph_places.specs.Tables.{function_identifiers, param_identifiers, table_identifiers}
use Rattle.rl_graph_places.specs.declared.tables.Which.{Which}
use Rattle.rl_graph_places.specs.declared.tables.Which.TheVariants as which

pub function_splits : (w : Which) (f : Function)
    → param_identifiers w f.params ++ table_identifiers w f.instructions ≡ function_identifiers w f
function_splits which.Assigned f = refl
function_splits which.Marked f = refl
function_splits which.Shared f = refl
