-- The parts of a function of any form, by its plain tree.
use Rattle.std.specs.Prelude.{ℕ, Bool, false, Option, Some, None, List}
use Rattle.rl_names.specs.Names.{Names, parameters_in}
use Rattle.rl_names.specs.declared.parameters.Parameter.{Parameter}
use Rattle.rl_syntax.specs.Syntax.{Syntax, Node, Said, Flag, Absent, End, Then}
use Rattle.rl_syntax.specs.declared.word.Word.TheVariants as word

-- The parameters of a function, a `params` node.
abbrev pub params_in : Syntax → Syntax
params_in (Node at word.Arrow (Then marked (Then is_async (Then params (Then body End))))) = params
params_in (Node at word.Fundecl (Then marked (Then is_async (Then generator (Then name (Then params (Then body End))))))) = params
params_in (Node at word.Funexpr (Then marked (Then is_async (Then generator (Then name (Then params (Then body End))))))) = params
params_in _ = Absent

-- The body of a function.
abbrev pub body_in : Syntax → Syntax
body_in (Node at word.Arrow (Then marked (Then is_async (Then params (Then body End))))) = body
body_in (Node at word.Fundecl (Then marked (Then is_async (Then generator (Then name (Then params (Then body End))))))) = body
body_in (Node at word.Funexpr (Then marked (Then is_async (Then generator (Then name (Then params (Then body End))))))) = body
body_in _ = Absent

-- The async flag of a function.
abbrev pub async_in : Syntax → Bool
async_in (Node at word.Arrow (Then marked (Then (Flag is_async) parts))) = is_async
async_in (Node at word.Fundecl (Then marked (Then (Flag is_async) parts))) = is_async
async_in (Node at word.Funexpr (Then marked (Then (Flag is_async) parts))) = is_async
async_in _ = false

-- The generator flag of a function. An arrow function has none, and is no generator.
abbrev pub generator_in : Syntax → Bool
generator_in (Node at word.Fundecl (Then marked (Then is_async (Then (Flag generator) parts)))) = generator
generator_in (Node at word.Funexpr (Then marked (Then is_async (Then (Flag generator) parts)))) = generator
generator_in _ = false

-- The name that a `bind` node says.
abbrev pub said_by : Syntax → Option (List ℕ)
said_by (Node at word.Bind (Then (Said name) type)) = Some name
said_by _ = None

-- The own name of a function. An arrow function has none.
abbrev pub name_in : Syntax → Option (List ℕ)
name_in (Node at word.Fundecl (Then marked (Then is_async (Then generator (Then name parts))))) = said_by name
name_in (Node at word.Funexpr (Then marked (Then is_async (Then generator (Then name parts))))) = said_by name
name_in _ = None

-- The parameters of a function that are names, in order.
abbrev pub parameters_of : Names → Syntax → List Parameter
parameters_of names f = parameters_in names (params_in f)
