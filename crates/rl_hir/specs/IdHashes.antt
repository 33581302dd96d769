-- The hash of an id.
use Rattle.std.specs.Prelude.{ℕ, ◌+◌, ◌*◌, ◌/◌, ◌%◌, List, fold}
use Rattle.rl_hir.specs.declared.block_sets.IdHasher.{IdHasher}

-- The state after one byte more; four bytes are kept.
abbrev pub shifted : ℕ → ℕ → ℕ
shifted state byte = state % 16777216 * 256 + byte

abbrev pub written : IdHasher → List ℕ → IdHasher
written hasher bytes = record { state = fold shifted hasher.state bytes }

-- Three ids in a row have one hash but for its highest byte, in which they differ, and the next three have the next hash. So the
-- groups of an index table, of nine to twelve entries, are filled in turn, each time by three.
abbrev pub hash_of : IdHasher → ℕ
hash_of hasher =
    let low = hasher.state / 16777216 in
    let rest = hasher.state / 65536 % 256 + hasher.state / 256 % 256 * 256 + hasher.state % 256 * 65536 in
    let id = low + rest * 256 in
    (id % 251 + 1) * 16777216 + (id / 3 + id / 65536) % 16777216
