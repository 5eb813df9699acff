-- Each claim of specs/Claims.antt. Assumes nothing.
use mathlib.Core.Path.{refl}
use Rattle.records_history.specs.Claims.{FormIsKept, HighestIsFound, Claims}
use Rattle.records_history.proofs.Stays.{put_other, cleared-form, form-kept, step-taken, highest, found-accepted, holds_on}
use Rattle.records_history.proofs.Holding.{held-is-found, judged-first, put-told}
use Rattle.records_history.proofs.Blind.{form-is-blind}
use Rattle.records_history.proofs.Longer.{length-in-slot, taken-whole, refused-before}

form-is-kept : FormIsKept
form-is-kept = record { start = cleared-form; kept = form-kept }

pub highest-is-found : HighestIsFound
highest-is-found =
    record {
      accepted = λ t o h. step-taken o.key t o refl h;
      others = put_other;
      highest = highest;
      origin = found-accepted;
      stays = holds_on;
    }

pub claims : Claims
claims =
    record {
      form = form-is-kept;
      highest = highest-is-found;
      blind = form-is-blind;
      found = held-is-found;
      judged = judged-first;
      told = put-told;
      length-in-slot = length-in-slot;
      whole = taken-whole;
      refused-before = refused-before;
    }
