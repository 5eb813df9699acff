-- `sha256::hash` meets its contract. The whole blocks, and then the last one or two; here the code's table of constants is compared with the definition's. Assumes nothing.
use Rattle.std.proofs.Common.{◌/◌, ◌%◌, length, refl, rules}
use Rattle.sha256.specs.Sha256.{round_constants}
use Rattle.sha256.specs.Inner.{last_blocks}
use Rattle.sha256.proofs.Padding.{hash-law}
use Rattle.sha256.proofs.hash.Goals as goal

pub absorb-s-requires : goal.absorb-s-requires
unfolding round_constants
absorb-s-requires c = (search rules, refl)

pub absorb-requires : goal.absorb-requires
unfolding round_constants
absorb-requires c = (search rules, refl)

pub returns : goal.returns
returns c = let t = c.tail-t in
    let m = c.args.src.now in
    cc (hash-law m t.result (length m / 64) (last_blocks (length m % 64)) refl refl t.ensures)
