-- What a request comes to by its key and record, and what that does to lent memory: RULES, Answers, refusals 8 to 11.
use Rattle.std.specs.Prelude.{ℕ, ◌≡◌, Bool, cond, ◌&&◌, List, length, leb}
use Rattle.std.proofs.lemmas.List.Edits.{sets}
use Rattle.message.specs.Kinds.{key_fits}
use Rattle.octets.specs.Octets.{same}
use Rattle.refusal.specs.declared.Refusal.{Refusal}
use Rattle.refusal.specs.declared.Refusal.TheVariants.{BreaksRules}
use Rattle.records.specs.Store.{offer_answer, offer_after}
use Rattle.message.specs.Message.{Record, Message, encode, frame}
use Rattle.replies.specs.Lent.{Lent, with_records, with_reply}
use Rattle.replies.specs.Replies.{put_value_reply}
use Rattle.std.specs.Prelude.{Ok, Err, Some, None, Result, Option, ⊤}

-- ---- what a request comes to
pub data Verdict : Type 0 where
  replies : Message → Verdict
  refuses : Refusal → Verdict

unfoldable pub keyed : List ℕ → Message → Verdict
keyed key m = cond (key_fits key) (replies m) (refuses BreaksRules)

-- what the store says to a record that is put (8 to 11)
abbrev pub echoed : Result ⊤ Refusal → Message → Verdict
echoed (Ok tt) m = replies m
echoed (Err r) m = refuses r

-- "the record's key equals the message key; else 8"
unfoldable pub put_verdict : List ℕ → Option Record → List ℕ → Verdict
put_verdict key None k = refuses BreaksRules
put_verdict key (Some r) k = cond (same r.key key) (echoed (offer_answer k key r.value) (put_value_reply key r.value)) (refuses BreaksRules)

-- ---- the records afterwards: a PUT_VALUE that isn't refused stores its record
unfoldable pub put_after : List ℕ → Option Record → List ℕ → List ℕ
put_after key None k = k
put_after key (Some r) k = cond (same r.key key) (offer_after k key r.value) k

-- ---- the answer, and what is left of lent memory
pub record Dealt : Type 0 where
  pub told : Result ℕ Refusal
  pub left : Lent

-- a refused request changes nothing. A reply is written with its length prefix; "bytes after a reply stay" (RULES, Refusals)
abbrev pub refused : Refusal → Lent → Dealt
refused r l = record { told = Err r; left = l }

abbrev pub replied : Message → Lent → Dealt
replied m l = record { told = Ok (length (frame (encode m))); left = with_reply l (sets l.reply 0 (frame (encode m))) }

-- the verdict, what a reply leaves beside its bytes, and what there was
abbrev pub by_verdict : Verdict → (after : Lent) → (before : Lent) → Dealt
by_verdict (replies m) after before = replied m after
by_verdict (refuses r) after before = refused r before

-- a PUT_VALUE of this key and record
abbrev pub put_dealt : List ℕ → Option Record → Lent → Dealt
put_dealt key held l = by_verdict (put_verdict key held l.records) (with_records l (put_after key held l.records)) l

-- the answer r, the records k and the reply buffer y are those that d says
pub record Gives (d : Dealt) (r : Result ℕ Refusal) (k y : List ℕ) : Type 0 where
  pub told : r ≡ d.told
  pub records : k ≡ d.left.records
  pub reply : y ≡ d.left.reply

-- ---- a reply alone
-- the message m stands in a buffer with its length prefix, and r is how many bytes that takes
pub record Framed (m : Message) (buf buf' : List ℕ) (r : ℕ) : Type 0 where
  pub size : r ≡ length (frame (encode m))
  pub same : buf' ≡ sets buf 0 (frame (encode m))

-- a verdict as an answer, and what it does to a reply buffer
abbrev pub told_of : Verdict → Result ℕ Refusal
told_of (replies m) = Ok (length (frame (encode m)))
told_of (refuses r) = Err r

abbrev pub reply_after : Verdict → List ℕ → List ℕ
reply_after (replies m) buf = sets buf 0 (frame (encode m))
reply_after (refuses r) buf = buf

pub record Told (v : Verdict) (buf buf' : List ℕ) (r : Result ℕ Refusal) : Type 0 where
  pub answer : r ≡ told_of v
  pub same : buf' ≡ reply_after v buf
