-- The claims, each by its law. Assumes nothing.
use Rattle.contact_form.specs.Claims.{Claims}
use Rattle.contact_form.proofs.FormFacts.{form-elim, form-intro, form-ranks, form-not-ours, bucket-of-other}
use Rattle.contact_form.proofs.Crowds.{form-twenty}
use Rattle.contact_form.proofs.EntryFacts.{form-entry}

pub claims : Claims
claims = record {
  follows = λ t o y. record {
    facts = form-elim t o y;
    twenty = λ b. form-twenty t o b y;
    ranks = form-ranks t o (form-elim t o y);
    others = form-not-ours t o (form-elim t o y);
    entries = form-entry t o y;
  };
  suffices = form-intro;
  bucketed = bucket-of-other;
}
