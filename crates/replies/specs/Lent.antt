-- What a host lends a box: contacts, records, and the buffer for replies. Definitions name what they read and change by field, so that no two are mixed up
-- and a further store is one field more.
use Rattle.std.specs.Prelude.{ℕ, List}

pub record Lent : Type 0 where
  pub contacts : List ℕ
  pub records : List ℕ
  pub reply : List ℕ

-- as a call is lent them: contacts, records, the reply buffer
abbrev pub lent : List ℕ → List ℕ → List ℕ → Lent
lent t k y = record { contacts = t; records = k; reply = y }

-- what one change leaves
abbrev pub with_contacts : Lent → List ℕ → Lent
with_contacts l t = record { contacts = t; records = l.records; reply = l.reply }

abbrev pub with_records : Lent → List ℕ → Lent
with_records l k = record { contacts = l.contacts; records = k; reply = l.reply }

abbrev pub with_reply : Lent → List ℕ → Lent
with_reply l y = record { contacts = l.contacts; records = l.records; reply = y }
