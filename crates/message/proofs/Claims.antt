-- Each claim of specs/Claims.antt. Assumes nothing.
use Prim.Native.Nat.{ℕ}
use mathlib.Core.List.{List}
use Rattle.message.specs.Claims.{ReadsWell, WalksAll, Claims}
use Rattle.message.specs.View.{fields_of}
use Rattle.message.proofs.Meaning.{absent-is-shown, walks-inside}
use Rattle.message.proofs.Occurrences.{split-is-merged}
use Rattle.message.proofs.Views.{read_whole, long-read, malformed-read, unknown-read, whole-read, closer-walked, providers-walked, addresses-walked, heard-meant}

pub reads-well : (body : List ℕ) → ReadsWell body
reads-well body =
    record {
      long = long-read body;
      malformed = malformed-read body;
      unknown = λ h m e k. unknown-read body m h e k;
      whole = λ h m e k. let r = whole-read body m h e k in (fields_of body, r.0, r.1);
    }

walks-all : (body : List ℕ) → WalksAll body
walks-all body = record { closer = closer-walked body; providers = providers-walked body; addresses = addresses-walked body; heard = heard-meant body }

pub claims : Claims
claims =
    record {
      reads = reads-well;
      inside = λ s m e. (read_whole s m e).lies;
      walks = walks-all;
      walks_inside = walks-inside;
      split = split-is-merged;
      absent = absent-is-shown;
    }
