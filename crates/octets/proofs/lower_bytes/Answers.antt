use native.Mathlib.Omega.{arith}
use mathlib.Core.Logic.{⊎_elim}
use mathlib.Core.Path.{◌≡◌, sym, ap, ap₂, ◌∙◌}
use Prim.Native.Nat.{◌*◌, ◌/◌, ◌<◌}
use lib.ListN.{length}
use Rattle.std.specs.Iterator.Adapters.{zip_first, zip_second}
use Rattle.std.specs.Slice.Iter.{chunks_exact_rest, chunks_exact_size}
use Rattle.octets.specs.Octets.{lower}
use Rattle.octets.proofs.Strings.{lower-cmp}
use Rattle.octets.proofs.Words.{left, left-none, left-decides, left-on, to_end}
use Rattle.octets.proofs.lower_bytes.Goals as goal

pub loop-s-init : goal.loop-s-init
loop-s-init c =
    let i = c.into_iter-s-iterator.ensures.into_iter_gives in
    let z = c.zip-s-items.ensures in
    let f : zip_first c.into_iter-s-iterator.result ≡ c.chunks_exact.result = ap zip_first i ∙ z.first in
    let s : zip_second c.into_iter-s-iterator.result ≡ c.chunks_exact-2.result = ap zip_second i ∙ z.second in
    let p : chunks_exact_size (zip_first c.into_iter-s-iterator.result) ≡ 8 = ap chunks_exact_size f ∙ c.chunks_exact.ensures.size in
    let q : chunks_exact_size (zip_second c.into_iter-s-iterator.result) ≡ 8 = ap chunks_exact_size s ∙ c.chunks_exact-2.ensures.size in (
      (omega (arith, p), omega (arith, q)),
      tt,
      p,
      q,
      left c.args.a.now c.args.b.now (c.min.result / 8 * 8) _ _ (omega (arith, c.min.ensures)) (omega (arith, c.min.ensures)) (omega arith) (λ k. (c.type_inv.a k).fits) (λ k. (c.type_inv.b k).fits)
          (ap chunks_exact_rest f ∙ c.chunks_exact.ensures.rest) (ap chunks_exact_rest s ∙ c.chunks_exact-2.ensures.rest),
    )

pub returns-then-x-y : goal.returns-then-x-y
returns-then-x-y c =
    let i = c.loop-s.invariant in
    let z = c.in-Some.ensures.steps in
    left-decides i.4 c.in-Some.s.now c.in-Some.t.now _ _ z.0.1.0 z.1.1.0 (z.0.1.1 ∙ i.2) (z.1.1.1 ∙ i.3) c.whole_word-x.ensures c.whole_word-y.ensures c.if-x-y.true

pub loop-s-preserved : goal.loop-s-preserved
loop-s-preserved c =
    let i = c.loop-s.invariant in
    let z = c.in-Some.ensures.steps in
    let p = z.0.0 ∙ i.2 in
    let q = z.1.0 ∙ i.3 in (
      (omega (arith, p), omega (arith, q)),
      tt,
      p,
      q,
      left-on i.4 c.in-Some.s.now c.in-Some.t.now _ _ z.0.1.0 z.1.1.0 (z.0.1.1 ∙ i.2) (z.1.1.1 ∙ i.3) c.whole_word-x.ensures c.whole_word-y.ensures c.if-x-y.false,
    )

pub returns : goal.returns
returns c =
    let i = c.loop-s.invariant in
    let few : length (chunks_exact_rest (zip_first c.loop-s.s-iterator)) < 8 = ⊎_elim (λ z. omega (arith, z.1.1.0, i.2)) (λ z. omega (arith, z.1.1.0, i.3, i.4.even)) c.in-None.ensures.steps in
    c.is_lt.ensures ∙ lower-cmp _ _ c.cmp.result c.cmp.ensures ∙ ap₂ lower (to_end c.args.a.now (c.min.result / 8 * 8)) (to_end c.args.b.now (c.min.result / 8 * 8)) ∙ sym (left-none i.4 few)
