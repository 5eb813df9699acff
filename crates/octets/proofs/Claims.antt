-- The claims of specs/Claims.antt. Assumes nothing.
use Rattle.octets.specs.Claims.{Claims}
use Rattle.octets.proofs.Strings.{same_refl, same-eq, lower-irrefl, lower-trans, lower-total, starts-eq}
use Rattle.octets.proofs.Numbers.{number-inj}

pub claims : Claims
claims =
    record {
      same_refl = same_refl;
      same-eq = same-eq;
      lower-irrefl = lower-irrefl;
      lower-trans = lower-trans;
      lower-total = lower-total;
      starts-eq = starts-eq;
      number-inj = number-inj;
    }
