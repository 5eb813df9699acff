-- The claims of specs/Claims.antt. Assumes nothing.
use Rattle.std.proofs.Common.{refl}
use Rattle.octets.specs.Octets.{number, big_endian}
use Rattle.sha256.specs.Sha256.{big_sigma0, big_sigma1, small_sigma0, small_sigma1, round_constants, pad, later, extend, schedule, t1, t2, turn, turns, plus, compress, absorbed, digest, sha256}
use Rattle.sha256.specs.Claims.{Claims}
use Rattle.sha256.proofs.Laws.{length-sha256, bytes-sha256}

pub claims : Claims
unfolding sha256 pad absorbed compress schedule extend later turns turn t1 t2 plus digest big_sigma0 big_sigma1 small_sigma0 small_sigma1 round_constants number big_endian
claims = record { size = length-sha256; bytes = bytes-sha256; one-block = refl; two_blocks = refl }
