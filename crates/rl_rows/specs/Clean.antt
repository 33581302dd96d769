-- The rows of a unit that is supported, as tests: true where none applies.
use Rattle.std.specs.Prelude.{Bool, ◌&&◌, ◌++◌}
use Rattle.std.specs.List.{list_all}
use Rattle.rl_names.specs.Functions.{body_in, params_in}
use Rattle.rl_model.specs.Applied.{Facts, rows_in, top}
use Rattle.rl_model.specs.Code.{code_of, lowered_functions}
use Rattle.rl_model.specs.Fbt.{keeps_fbt}
use Rattle.rl_model.specs.Supported.{is_none, is_whole_chain, stays}
use Rattle.rl_syntax.specs.Syntax.{Syntax}

-- A node of the code, by the rows F26, F29 and F44.
abbrev pub clear_node : Facts → (node : Syntax) → Bool
clear_node f node = stays f node && is_whole_chain node && keeps_fbt node

abbrev pub clear_code : Facts → (function : Syntax) → Bool
clear_code f function = list_all (clear_node f) (code_of function)

abbrev pub clear_lowered : Facts → (marked : Syntax) → Bool
clear_lowered f marked = list_all (clear_code f) (lowered_functions marked)

abbrev pub clear_top : Facts → (marked : Syntax) → Bool
clear_top f marked = is_none (rows_in f top (params_in marked) ++ rows_in f top (body_in marked))
