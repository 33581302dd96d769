-- Tables by symbol, and the pairs that are put into them from the last to the first.
use Rattle.std.proofs.Common.{◌≡◌, ◌<◌, arith, ℕ, zero, suc, nat_eq, nat_le, Bool, false, if◌then◌else◌, Option, Some, None}
use Rattle.std.proofs.Common.{List, [], ◌∷◌, ◌++◌, length, map, slice_set, refl, ap, sym, ◌∙◌}
use Rattle.std.proofs.Math.Dec.{eqb-suc-zero, eqb-zero-suc, eqb-suc-suc}
use Rattle.std.specs.Option.{option_map_or}
use Rattle.rl_base.specs.declared.ids.IdentifierId.{IdentifierId}
use Rattle.rl_code.specs.Flags.{flag_at}
use Rattle.rl_hir.specs.Pairs.{identifier_of}
use Rattle.rl_hir.specs.declared.function.Pair.{Pair}
use Rattle.rl_model.specs.Worlds.{symbol_bound}
use Rattle.rl_trace.specs.Shared.{identifier_in}
use Rattle.rl_graph_run.specs.Symbols.{has_flag, identifier_at, symbol_flag}

pub entry_more : (table : List (Option IdentifierId)) (n : ℕ) → identifier_at (table ++ None ∷ []) n ≡ identifier_at table n
entry_more [] zero = refl
entry_more [] (suc n) = refl
entry_more (e ∷ table) zero = refl
entry_more (e ∷ table) (suc n) = entry_more table n

pub entry_set : (table : List (Option IdentifierId)) (symbol : ℕ) (id : IdentifierId) → symbol < length table → (n : ℕ)
    → identifier_at (slice_set table symbol (Some id)) n ≡ (if nat_eq symbol n then Some id.0 else identifier_at table n)
entry_set [] symbol id bound n = absurd (omega arith)
entry_set (e ∷ table) zero id bound zero = refl
entry_set (e ∷ table) zero id bound (suc n) = sym (ap (λ c. if◌then◌else◌ c (Some id.0) (identifier_at table n)) (eqb-zero-suc n))
entry_set (e ∷ table) (suc symbol) id bound zero =
    sym (ap (λ c. if◌then◌else◌ c (Some id.0) (identifier_in (Some e))) (eqb-suc-zero symbol))
entry_set (e ∷ table) (suc symbol) id bound (suc n) =
    entry_set table symbol id (omega arith) n
    ∙ sym (ap (λ c. if◌then◌else◌ c (Some id.0) (identifier_at table n)) (eqb-suc-suc symbol n))

-- The identifier of a symbol by pairs, and `other` where they have none.
abbrev pub identifier_or : List Pair → (symbol : ℕ) → (other : Option ℕ) → Option ℕ
identifier_or [] symbol other = other
identifier_or (p ∷ pairs) symbol other = if nat_eq p.symbol.0 symbol then Some p.identifier.0 else identifier_or pairs symbol other

pub or_none : (pairs : List Pair) (symbol : ℕ) → identifier_or pairs symbol None ≡ identifier_of pairs symbol
or_none [] symbol = refl
or_none (p ∷ pairs) symbol = ap (if◌then◌else◌ (nat_eq p.symbol.0 symbol) (Some p.identifier.0)) (or_none pairs symbol)

pub or_last : (pairs : List Pair) (p : Pair) (symbol : ℕ) (other : Option ℕ)
    → identifier_or (pairs ++ p ∷ []) symbol other
    ≡ identifier_or pairs symbol (if nat_eq p.symbol.0 symbol then Some p.identifier.0 else other)
or_last [] p symbol other = refl
or_last (q ∷ pairs) p symbol other =
    ap (if◌then◌else◌ (nat_eq q.symbol.0 symbol) (Some q.identifier.0)) (or_last pairs p symbol other)

pub or_over : (pairs : List Pair) (symbol : ℕ) (other : Option ℕ) → length pairs ≡ 0 → identifier_or pairs symbol other ≡ other
or_over [] symbol other none = refl
or_over (p ∷ pairs) symbol other none = absurd (omega (arith, none))

-- A bound, raised above the symbols of pairs.
abbrev pub bound_over : List Pair → ℕ → ℕ
bound_over [] bound = bound
bound_over (p ∷ pairs) bound = if nat_le (bound_over pairs bound) p.symbol.0 then suc p.symbol.0 else bound_over pairs bound

pub bound_none : (pairs : List Pair) → bound_over pairs 0 ≡ symbol_bound pairs
bound_none [] = refl
bound_none (p ∷ pairs) = ap (λ b. if nat_le b p.symbol.0 then suc p.symbol.0 else b) (bound_none pairs)

pub bound_last : (pairs : List Pair) (p : Pair) (bound : ℕ)
    → bound_over (pairs ++ p ∷ []) bound ≡ bound_over pairs (if nat_le bound p.symbol.0 then suc p.symbol.0 else bound)
bound_last [] p bound = refl
bound_last (q ∷ pairs) p bound = ap (λ b. if nat_le b q.symbol.0 then suc q.symbol.0 else b) (bound_last pairs p bound)

pub bound_empty : (pairs : List Pair) (bound : ℕ) → length pairs ≡ 0 → bound_over pairs bound ≡ bound
bound_empty [] bound none = refl
bound_empty (p ∷ pairs) bound none = absurd (omega (arith, none))

flag_of : (flags : List Bool) (e : Option IdentifierId) → has_flag flags e ≡ option_map_or (flag_at flags) (identifier_in (Some e)) false
flag_of flags None = refl
flag_of flags (Some id) = refl

-- The flag of a symbol's identifier.
pub flag_of_symbol : (flags : List Bool) (table : List (Option IdentifierId)) (n : ℕ)
    → symbol_flag (map (has_flag flags) table) n ≡ option_map_or (flag_at flags) (identifier_at table n) false
flag_of_symbol flags [] n = refl
flag_of_symbol flags (e ∷ table) zero = flag_of flags e
flag_of_symbol flags (e ∷ table) (suc n) = flag_of_symbol flags table n
