-- `sha256::compress_at` meets its contract. The words loaded, 48 rounds, 16 rounds, and the sum. Assumes nothing.
use Rattle.std.proofs.Common.{◌+◌, ◌∙◌, rules}
use Rattle.octets.specs.Octets.{part}
use Rattle.sha256.proofs.Schedule.{begun, compress-law}
use Rattle.sha256.proofs.compress_at.Goals as goal

pub returns : goal.returns
returns c = let a = c.args in
    let b = part a.src.now a.at (a.at + 64) in
    let w = c.load-w in
    let f = c.first_rounds-v in
    let l = c.last_rounds in
    c.add.ensures ∙ compress-law b a.s l.result f.new.w (l.ensures b a.s (f.ensures b (begun b w.result a.s w.ensures)))
