-- `writers::put_framed` meets its contract: what is written and what is to come make up the output.
use mathlib.Core.Path.{◌≡◌}
use Rattle.std.specs.Slice.Iter.{chunks_size, chunks_rest}
use Rattle.layouts.specs.Writers.{framed_bytes}
use Rattle.writers_output.proofs.Laws.{Filling}
use Rattle.writers.proofs.put_framed.Given as goal

abbrev pub invariant-loop-chunk : goal.invariant-loop-chunk
invariant-loop-chunk l = (chunks_size l.chunk-iterator ≡ 32768) × Filling l.initial.out 0 (framed_bytes l.c) l.out l.at (framed_bytes (chunks_rest l.chunk-iterator))
