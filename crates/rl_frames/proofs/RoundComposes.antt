-- The clauses of the frames of loops over keys or values: what each makes of the runs of its holes.
use Rattle.std.proofs.Common.{◌≡◌, ◌+◌, sym, ap, ◌∙◌, subst}
use Rattle.rl_frames.proofs.Common.{Place, State}
use Rattle.rl_frames.proofs.EnumerationBlocks.{forin_blocks}
use Rattle.rl_frames.proofs.Enumerations.{forin_runs}
use Rattle.rl_frames.proofs.IterationBlocks.{forof_blocks}
use Rattle.rl_frames.proofs.Iterations.{forof_runs}
use Rattle.rl_frames.specs.Meanings.{enumerated, iterated}
use Rattle.rl_frames.specs.Parts.{rounds_finished}
use Rattle.rl_frames.specs.Rounds.{ForInComposes, ForOfComposes, ForOfParts, RoundsParts, forof_ended, rounds_ended}
use Rattle.rl_runs.specs.Blocks.{PreservesBlocks}
use Rattle.rl_runs.specs.Simulation.{RunsStatement}

pub forin_composes : (f : RoundsParts) (old new : State) (test : Place) → new ≡ rounds_ended f old test → ForInComposes f old new test
forin_composes f old new test ended = record {
  all = λ s s2 s3 span part left label collection world dr dp db is bb br bp pp rb rr rp.
      let at : new ≡ rounds_finished old s.env.next_block (s.env.next_block + 1 + 1) span test = ended ∙ ap (λ (g : RoundsParts). rounds_ended g old test) is in
      subst (λ (z : State). PreservesBlocks s z × RunsStatement world (enumerated world label dr dp db) s z) (sym at) (
        forin_blocks s s2 s3 old label collection test span left part bb br bp pp,
        forin_runs s s2 s3 old label collection test span left part bb.extends br.extends bp.extends world dr dp db rb rr rp,
      );
}

pub forof_composes : (f : ForOfParts) (old new : State) (test : Place) → new ≡ forof_ended f old test → ForOfComposes f old new test
forof_composes f old new test ended = record {
  all = λ s s2 s3 span part left label collection world dr dp db is bb br bp pp rb rr rp.
      let at : new ≡ rounds_finished old s.env.next_block (s.env.next_block + 1 + 1 + 1) span test = ended ∙ ap (λ (g : ForOfParts). forof_ended g old test) is in
      subst (λ (z : State). PreservesBlocks s z × RunsStatement world (iterated world label dr dp db) s z) (sym at) (
        forof_blocks s s2 s3 old label collection test span left part bb br bp pp,
        forof_runs s s2 s3 old label collection test span left part bb.extends br.extends bp.extends world dr dp db rb rr rp,
      );
}
