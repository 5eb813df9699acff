-- RULES, Examples: "Those with * are proved, gathered into a single table under one claim". The table's rows have the bytes, bits and numbers that stand there, in
-- their order; `Holds` says what a row means, and the claim is that each row holds.
use Rattle.std.specs.Prelude.{ℕ, ◌+◌, ◌≤◌, ◌<◌, ◌≡◌, true, List, [], ◌∷◌, ◌++◌, length, take, ℤ, pos, neg_ℤ, Some}
use Rattle.std.proofs.lemmas.List.Edits.{sets}
use Rattle.octets.specs.Octets.{starts_with}
use Rattle.limits.specs.Limits.{most_body}
use Rattle.refusal.specs.declared.Refusal.{Refusal}
use Rattle.refusal.specs.Refusal.{number_of}
use Rattle.place.specs.Place.{is_place, bits, bucket_of}
use Rattle.stream.specs.declared.Framing.TheVariants.{Shut, Body}
use Rattle.stream.specs.Stream.{fresh, out, receive_of}
use Rattle.recipe.specs.Recipe.{trim_of, zigzag_of, varint, These, setpoints, count_of, wrap_room, sequence_of, is_recipe}
use Rattle.records.specs.Store.{is_key, in_form, put_answer}
use Rattle.peer.specs.declared.Peer.{Peer}
use Rattle.replies.specs.Lent.{Lent}
use Rattle.replies.specs.Verdicts.{refused}
use Rattle.answer.specs.Answers.{deal_of}
use Rattle.std.specs.Prelude.{Ok, Err, None}

-- ---- the kinds of rows, each with the bytes and numbers of RULES, Examples
pub data Row : Type 0 where
  -- a prefix, and the length of the message that it opens
  prefix : List ℕ → ℕ → Row
  -- a prefix that is refused, how many bytes of it are taken, and the refusal's number
  bad_prefix : List ℕ → ℕ → ℕ → Row
  -- the body of a request, and the number of its refusal
  bad_request : List ℕ → ℕ → Row
  -- a trim, and its number in zigzag form
  zigzag : ℤ → ℕ → Row
  -- a number, and its bytes in a setpoint
  written : ℕ → List ℕ → Row
  -- a recipe of one setpoint: its bytes, turn, trim and sequence
  recipe : List ℕ → ℕ → ℤ → ℕ → Row
  -- a value that is no recipe, and the number of its refusal
  bad_recipe : List ℕ → ℕ → Row
  -- the first bits of our place, those of another place, and its bucket
  bucket : List ℕ → List ℕ → ℕ → Row

abbrev pub minus : ℕ → ℤ
minus n = neg_ℤ (pos n)

-- ---- what a row means
-- the refusal of this number does this
abbrev pub ByNumber : ℕ → (Refusal → Type 0) → Type 0
ByNumber n Does = (r : Refusal) × (number_of r ≡ n) × Does r

abbrev pub Holds : Row → Type 0
-- a connection that opens, with any large enough receive buffer m, and s after the prefix: n bytes of s are taken as a message, which stands at the buffer's start;
-- fewer are all taken, and more are asked for
Holds (prefix bs n) =
    (m s : List ℕ) → most_body ≤ length m
    → (n ≤ length s → receive_of fresh m (bs ++ s) ≡ out fresh (length bs + n) (Ok (Some n)) (sets m 0 (take n s)))
    × (length s < n → receive_of fresh m (bs ++ s) ≡ out (Body n (length s)) (length bs + length s) (Ok None) (sets m 0 s))
-- the same, whatever follows the prefix: the connection is shut, and the buffer stays
Holds (bad_prefix bs taken n) = ByNumber n (λ r. (m s : List ℕ) → most_body ≤ length m → receive_of fresh m (bs ++ s) ≡ out Shut taken (Err r) m)
-- whoever we and the requester are, and whatever is lent: all of it stays
Holds (bad_request body n) = ByNumber n (λ r. (me who : Peer) (l : Lent) → deal_of me who body l ≡ refused r l)
-- there and back
Holds (zigzag trim z) = (zigzag_of trim ≡ z) × (trim_of z ≡ trim)
-- whatever follows
Holds (written z bs) = (s : List ℕ) → varint (bs ++ s) ≡ Some (z, length bs)
-- taken as a recipe, with this one setpoint and this sequence
Holds (recipe v turn trim sequence) = (is_recipe v ≡ true) × (setpoints (count_of v) (wrap_room v) ≡ These (record { turn = turn; trim = trim } ∷ [])) × (sequence_of v ≡ sequence)
-- put into any store in form, under any record key
Holds (bad_recipe v n) = ByNumber n (λ r. (t k : List ℕ) → in_form t ≡ true → is_key k ≡ true → put_answer t k v ≡ Err r)
-- all places that start so
Holds (bucket us them n) = (ours p : List ℕ) → is_place ours ≡ true → is_place p ≡ true → starts_with (bits ours) us ≡ true → starts_with (bits p) them ≡ true → bucket_of p ours ≡ n

unfoldable pub Each : List Row → Type 0
Each [] = Unit {0}
Each (r ∷ rs) = Holds r × Each rs

-- ---- the table
abbrev pub table : List Row
table =
    -- "00: empty message, then 8 (absent type, no key). 80 00: 3. 80 80 01: 16,384, taken. 81 80 01: 4. 80 80 80: 4 at the third byte."
    prefix (0x00 ∷ []) 0
    ∷ bad_request [] 8
    ∷ bad_prefix (0x80 ∷ 0x00 ∷ []) 2 3
    ∷ prefix (0x80 ∷ 0x80 ∷ 0x01 ∷ []) 16384
    ∷ bad_prefix (0x81 ∷ 0x80 ∷ 0x01 ∷ []) 3 4
    ∷ bad_prefix (0x80 ∷ 0x80 ∷ 0x80 ∷ []) 3 4
    -- "-1 is 1, -20,000 is 39,999 (BF B8 02), 20,000 is 40,000 (C0 B8 02)"
    ∷ zigzag (minus 1) 1
    ∷ zigzag (minus 20000) 39999
    ∷ written 39999 (0xBF ∷ 0xB8 ∷ 0x02 ∷ [])
    ∷ zigzag (pos 20000) 40000
    ∷ written 40000 (0xC0 ∷ 0xB8 ∷ 0x02 ∷ [])
    -- "turn 0, trim -1, sequence 7. The same with 13 for 12: 9."
    ∷ recipe (0x00 ∷ 0x01 ∷ 0x12 ∷ 0x00 ∷ 0x00 ∷ 0x00 ∷ 0x01 ∷ 0x00 ∷ 0x01 ∷ 0x00 ∷ 0x07 ∷ 0x00 ∷ 0x00 ∷ 0x00 ∷ 0x00 ∷ 0x00 ∷ 0x00 ∷ 0x00 ∷ []) 0 (minus 1) 7
    ∷ bad_recipe (0x00 ∷ 0x01 ∷ 0x13 ∷ 0x00 ∷ 0x00 ∷ 0x00 ∷ 0x01 ∷ 0x00 ∷ 0x01 ∷ 0x00 ∷ 0x07 ∷ 0x00 ∷ 0x00 ∷ 0x00 ∷ 0x00 ∷ 0x00 ∷ 0x00 ∷ 0x00 ∷ []) 9
    -- "Place starting 0010 1100: 01.. is bucket 1, 0011 is bucket 3."
    ∷ bucket (0 ∷ 0 ∷ 1 ∷ 0 ∷ 1 ∷ 1 ∷ 0 ∷ 0 ∷ []) (0 ∷ 1 ∷ []) 1
    ∷ bucket (0 ∷ 0 ∷ 1 ∷ 0 ∷ 1 ∷ 1 ∷ 0 ∷ 0 ∷ []) (0 ∷ 0 ∷ 1 ∷ 1 ∷ []) 3
    ∷ []

abbrev pub Starred : Type 0
Starred = Each table
