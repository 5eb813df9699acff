-- `lower_bytes` compares word by word: the order of the two is that of what is left of them.
use mathlib.Core.Path.{◌≡◌}
use lib.ListN.{drop}
use Rattle.std.specs.Iterator.Adapters.{zip_first, zip_second}
use Rattle.std.specs.Slice.Iter.{chunks_exact_rest, chunks_exact_size}
use Rattle.octets.proofs.Words.{Left}
use Rattle.octets.proofs.lower_bytes.Given as goal

abbrev pub invariant-loop-s : goal.invariant-loop-s
invariant-loop-s l =
    (goal.iterator-loop-s).can_next l.s-iterator
    × (goal.iterator-loop-s).is_finite l.s-iterator
    × (chunks_exact_size (zip_first l.s-iterator) ≡ 8)
    × (chunks_exact_size (zip_second l.s-iterator) ≡ 8)
    × Left l.a l.b (drop l.n l.a) (drop l.n l.b) (chunks_exact_rest (zip_first l.s-iterator)) (chunks_exact_rest (zip_second l.s-iterator))
