-- The diagnostics of stops, and the statements around another, as the walk for stops holds them.
use Rattle.std.specs.Prelude.{List, [], ◌∷◌, codes}
use Rattle.std.specs.Option.{option_map}
use Rattle.rl_base.specs.Diagnostics.{diagnostic_at}
use Rattle.rl_base.specs.declared.diagnostic.Diagnostic.{Diagnostic}
use Rattle.rl_base.specs.declared.row.Row.TheVariants as row
use Rattle.rl_names.specs.Names.{Names}
use Rattle.rl_promises.specs.Jumps as jumps
use Rattle.rl_stops.specs.declared.around.Around.{Around, Nothing, Loop', Labeled', Switch'}
use Rattle.rl_stops.specs.declared.found_stop.FoundStop.{FoundStop}
use Rattle.rl_stops.specs.declared.found_stop.FoundStop.TheVariants as stop

-- S1 at a node of a local variable with a reserved name, S4 at a pattern that a `catch` binds, S6 at a `break` and S7 at a `continue`
-- that have no target.
abbrev pub seen_stop : Names → FoundStop → Diagnostic
seen_stop names (stop.ReservedName symbol span) = diagnostic_at row.S1 (names.name symbol.0) span
seen_stop names (stop.CaughtPattern span) = diagnostic_at row.S4 [] span
seen_stop names (stop.BreakNowhere span) = diagnostic_at row.S6 [] span
seen_stop names (stop.ContinueNowhere span) = diagnostic_at row.S7 [] span
seen_stop names (stop.ContinueOfNoLoop span) = diagnostic_at row.S7 (codes "label") span

-- The statements around another, from the innermost out.
abbrev pub seen_around : Around → List jumps.Around
seen_around Nothing = []
seen_around (Loop' label at outer) = jumps.InLoop (option_map (λ l. l.now) label) ∷ seen_around outer
seen_around (Switch' label at outer) = jumps.InSwitch (option_map (λ l. l.now) label) ∷ seen_around outer
seen_around (Labeled' label at outer) = jumps.InLabeled label.now ∷ seen_around outer
